-- A fraction has nine digits where more are asked for.
use Rattle.std.proofs.Common.{◌≡◌, ◌≤◌, ◌==◌, ◌||◌, ℕ, false, List, Ok, Err, take, refl, ap, arith}
use Rattle.std.specs.Prelude.{if◌then◌else◌}
use Rattle.std.proofs.lemmas.Bool.Decides.{nat_tests}
use Rattle.std.proofs.lemmas.List.{take_all}
use Rattle.calendar_values.specs.Clock.{nanosecond_of}
use Rattle.calendar_values.specs.DigitCountLemmas.{length-last_digits}
use Rattle.calendar_values.specs.Digits.{last_digits}
use Rattle.calendar_values.specs.WallClock.{wall_time}
use Rattle.offset_times.specs.Local.{Local}
use Rattle.rfc3339.specs.Form.{spelling}
use Rattle.rfc3339.specs.Texts.{fraction_of_digits, digits_text, parts_of, time_offset_text}
use Rattle.muxandu_c.specs.DigitTexts.{rfc3339_of_digits}
use Rattle.muxandu_c.specs.Exchange.{year_has_no_text, offset_has_no_text}
use Rattle.muxandu_c.specs.declared.refused.Refused.TheVariants as refused

-- nine digits are all that there are
all_nine : (k n : ℕ) → 9 ≤ k → take k (last_digits 9 n) ≡ last_digits 9 n
all_nine k n many = take_all k (last_digits 9 n) (omega (arith, length-last_digits 9 n))

fraction_of_digits-more : (k n : ℕ) → 9 ≤ k → fraction_of_digits 9 n ≡ fraction_of_digits k n
unfolding fraction_of_digits
fraction_of_digits-more k n many =
    let some : (k == 0) ≡ false = grind (arith, nat_tests) in
    rw (some, all_nine k n many, all_nine 9 n (omega arith)) refl

digits_text-more : (k : ℕ) (at : Local) → 9 ≤ k → digits_text 9 at ≡ digits_text k at
unfolding digits_text
digits_text-more k at many =
    ap (λ (fraction : List ℕ). spelling (parts_of at) 84 fraction (time_offset_text at.offset))
    (fraction_of_digits-more k (nanosecond_of (wall_time at.wall)) many)

pub rfc3339_of_digits-more : (k : ℕ) (at : Local) → 9 ≤ k → rfc3339_of_digits 9 at ≡ rfc3339_of_digits k at
rfc3339_of_digits-more k at many =
    ap (λ (text : List ℕ). if year_has_no_text at.wall || offset_has_no_text at.offset then Err refused.NoText else Ok text)
    (digits_text-more k at many)

-- a text of more digits than there are
pub ruleset more_digits = (rfc3339_of_digits-more)
