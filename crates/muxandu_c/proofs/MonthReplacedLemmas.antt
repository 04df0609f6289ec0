-- A month that is replaced, and a number that no month has.
use Rattle.std.proofs.Common.{◌≡◌, ◌∙◌, ℕ, ◌≤◌, ◌==◌, ◌||◌, true, false, nat_lt, ℤ, Result, Ok, Err, refl, arith}
use Rattle.std.proofs.lemmas.Bool.Decides.{nat_tests}
use Rattle.plain_times.specs.Replacements.{wall_month_outcome}
use Rattle.muxandu_c.proofs.AnswerLemmas.{after}
use Rattle.muxandu_c.specs.Answers.{and_then, as_refused}
use Rattle.muxandu_c.specs.PartsReplaced.{unsigned_part, with_part}
use Rattle.muxandu_c.specs.Values.{month_value}
use Rattle.muxandu_c.specs.declared.refused.Refused.{Refused}
use Rattle.muxandu_c.specs.declared.refused.Refused.TheVariants as refused
use Rattle.muxandu_c.specs.declared.replacements.Part.TheVariants as part

-- what follows the number of a month
abbrev in_month : ℤ → ℕ → Result ℤ Refused
in_month w n = and_then (month_value n) (λ m. as_refused (wall_month_outcome w m).answer)

pub with_part-month : (w value : ℤ) (n m : ℕ) (answer : Result ℤ Refused) → answer ≡ as_refused (wall_month_outcome w m).answer → m ≡ n
    → (1 ≤ n) × (n ≤ 12) → Ok n ≡ unsigned_part value 12 refused.Month → answer ≡ with_part w part.Month value
with_part-month w value n m answer made same month number =
    let made' = rw same at made in
    let there : (n == 0 || nat_lt 12 n) ≡ false = grind (arith, nat_tests, month.0, month.1) in
    let next : as_refused (wall_month_outcome w n).answer ≡ in_month w n = rw there refl in
    made' ∙ next ∙ after (unsigned_part value 12 refused.Month) (in_month w) n number

pub with_part-no_month : (w value : ℤ) (n : ℕ) → ¬ ((1 ≤ n) × (n ≤ 12)) → Ok n ≡ unsigned_part value 12 refused.Month
    → Err refused.Month ≡ with_part w part.Month value
with_part-no_month w value n none number =
    let there : (n == 0 || nat_lt 12 n) ≡ true = grind (arith, nat_tests, none) in
    let next : Err refused.Month ≡ in_month w n = rw there refl in
    next ∙ after (unsigned_part value 12 refused.Month) (in_month w) n number
