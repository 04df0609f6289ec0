-- The text of a date-time by the numbers that it spells.
use Rattle.std.proofs.Common.{◌≡◌, ◌≤◌, ℕ, ℤ, pos, Bool, true, false, nat_lt, List, length, Option, Some, None, Result, Ok, Err, IfOk, refl, ap, ◌∙◌}
use Rattle.std.proofs.Common.{subst, arith}
use Rattle.std.specs.Prelude.{not, ◌||◌, if◌then◌else◌}
use Rattle.std.specs.Option.{ForSome}
use Rattle.std.proofs.lemmas.Bool.Decides.{nat_tests}
use Rattle.std.proofs.lemmas.Option.{same_Some}
use Rattle.calendar_values.specs.SignedArith.{signed_arith}
use Rattle.offset_times.specs.Local.{Local, local_in_utc}
use Rattle.rfc3339.specs.LengthLaws.{TextsInUtcHaveThirtyBytes}
use Rattle.rfc3339.specs.Texts.{HasText, parts_of, rfc3339_text}
use Rattle.rfc3339.specs.ValueLemmas.{value_of-parts, parts-in_range, parts-year, parts-nanosecond}
use Rattle.rfc3339.specs.declared.parts.Parts.{Parts}
use Rattle.muxandu_c.specs.Answers.{status_of, text_if_room, length_of_answer, and_then}
use Rattle.muxandu_c.specs.Exchange.{year_has_no_text, offset_has_no_text, rfc3339_of, date_time_to_rfc3339, timestamp_to_rfc3339}
use Rattle.muxandu_c.specs.Values.{date_time_parts, date_time_value, timestamp_value}
use Rattle.muxandu_c.specs.WrittenTexts.{numbers_of, text_of_numbers, AreWritable}
use Rattle.muxandu_c.specs.declared.refused.Refused.{Refused}
use Rattle.muxandu_c.specs.declared.refused.Refused.TheVariants as refused
use Rattle.muxandu_c.specs.declared.values.MuxanduDateTime.{MuxanduDateTime}
use Rattle.muxandu_c.specs.declared.values.MuxanduTimestamp.{MuxanduTimestamp}

-- ---- room

-- a buffer that has room for any text has room for this
pub room_for_any : (answer : Result (List ℕ) Refused) (there : List ℕ) → IfOk answer (λ text. length text ≤ 35) → 35 ≤ length there
    → text_if_room answer there ≡ answer
room_for_any (Ok text) there at_most room =
    let fits : nat_lt (length there) (length text) ≡ false = grind (arith, nat_tests) in rw fits refl
room_for_any (Err refusal) there at_most room = refl

-- an answer has the status of its length
pub status-length : (answer : Result (List ℕ) Refused) → status_of (length_of_answer answer) ≡ status_of answer
status-length (Ok text) = refl
status-length (Err refusal) = refl

-- ---- the numbers

has_no : (a b : Bool) → (a || b) ≡ false → (a ≡ false) × (b ≡ false)
has_no false b e = (refl, e)
has_no true b e = absurd cc

pub HasText-of : (at : Local) → year_has_no_text at.wall || offset_has_no_text at.offset ≡ false → HasText at
HasText-of at e =
    let parts = has_no (year_has_no_text at.wall) (offset_has_no_text at.offset) e in
    record {
      year_first = grind (arith, signed_arith, parts.0);
      year_last = grind (arith, signed_arith, parts.0);
      whole_minutes = grind (arith, nat_tests, parts.1);
      below_a_day = grind (arith, nat_tests, parts.1);
    }

-- what the numbers of a date-time are, by the test
choose : (at : Local) (b : Bool) → year_has_no_text at.wall || offset_has_no_text at.offset ≡ b
    → text_of_numbers (if not b then Some (parts_of at) else None) ≡ (if b then Err refused.NoText else Ok (rfc3339_text at))
choose at true e = refl
choose at false e = ap (λ (l : Local). Ok (rfc3339_text l)) (value_of-parts at (HasText-of at e))

-- the text is that of the date-time
pub text_of_numbers-of : (v : MuxanduDateTime) (at : Local) → v ≡ date_time_parts at → text_of_numbers (numbers_of v) ≡ rfc3339_of at
text_of_numbers-of v at e = rw e (choose at _ refl)

-- and they are in their ranges
writable : (at : Local) (b : Bool) → year_has_no_text at.wall || offset_has_no_text at.offset ≡ b
    → ForSome (if not b then Some (parts_of at) else None) AreWritable
writable at true e p is = absurd cc
writable at false e p is =
    let h = HasText-of at e in
    subst AreWritable (same_Some (parts_of at) p is) (record { parts = parts-in_range at h; year = parts-year at h; nanosecond = parts-nanosecond at })

pub numbers-writable : (v : MuxanduDateTime) (at : Local) → v ≡ date_time_parts at → ForSome (numbers_of v) AreWritable
numbers-writable v at e = rw e (writable at _ refl)

-- the answer for the parts of a date-time
pub text_of_date_time : (v : MuxanduDateTime) (at : Local) (numbers : Option Parts) → numbers ≡ numbers_of v → v ≡ date_time_parts at
    → Ok at ≡ date_time_value v → text_of_numbers numbers ≡ date_time_to_rfc3339 v
text_of_date_time v at numbers e shown is =
    ap text_of_numbers e ∙ text_of_numbers-of v at shown ∙ ap (λ (r : Result Local Refused). and_then r rfc3339_of) is

-- and for those of an instant
pub text_of_timestamp : (t : MuxanduTimestamp) (i : ℤ) (v : MuxanduDateTime) (numbers : Option Parts) → numbers ≡ numbers_of v
    → v ≡ date_time_parts (local_in_utc i) → Ok i ≡ timestamp_value t → text_of_numbers numbers ≡ timestamp_to_rfc3339 t
text_of_timestamp t i v numbers e shown is =
    ap text_of_numbers e ∙ text_of_numbers-of v (local_in_utc i) shown
    ∙ ap (λ (r : Result ℤ Refused). and_then r (λ (j : ℤ). rfc3339_of (local_in_utc j))) is

-- the text of an instant has 30 bytes at most
short_text : TextsInUtcHaveThirtyBytes → (i : ℤ) (b : Bool)
    → IfOk (if b then Err refused.NoText else Ok (rfc3339_text (local_in_utc i))) (λ text. length text ≤ 30)
short_text law i true = tt
short_text law i false = law i

thirty : TextsInUtcHaveThirtyBytes → (answer : Result ℤ Refused)
    → IfOk (and_then answer (λ (i : ℤ). rfc3339_of (local_in_utc i))) (λ text. length text ≤ 30)
thirty law (Ok i) = short_text law i (year_has_no_text i || offset_has_no_text (pos 0))
thirty law (Err refusal) = tt

pub timestamp_text_at_most : TextsInUtcHaveThirtyBytes → (t : MuxanduTimestamp) → IfOk (timestamp_to_rfc3339 t) (λ text. length text ≤ 30)
timestamp_text_at_most law t = thirty law (timestamp_value t)

pub thirty_at_most : (answer : Result (List ℕ) Refused) → IfOk answer (λ text. length text ≤ 30) → IfOk answer (λ text. length text ≤ 35)
thirty_at_most (Ok text) h = omega (arith, h)
thirty_at_most (Err refusal) h = tt
