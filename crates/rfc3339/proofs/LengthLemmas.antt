-- How long texts in UTC are.
use Rattle.std.proofs.Common.{ℕ, ◌≤◌, inl, inr, nat_eq, length, length-append, ℤ, arith}
use Rattle.std.specs.Prelude.{codes}
use Rattle.std.proofs.lemmas.Bool.{cases_Bool}
use Rattle.calendar_values.specs.Clock.{nanosecond_of}
use Rattle.calendar_values.specs.DigitCountLemmas.{length-last_digits, length-fraction_digits}
use Rattle.calendar_values.specs.Digits.{fraction_digits}
use Rattle.calendar_values.specs.WallClock.{wall_time}
use Rattle.offset_times.specs.Local.{local_in_utc}
use Rattle.stamp_times.specs.Texts.{fraction_text}
use Rattle.rfc3339.specs.Texts.{rfc3339_text, time_offset_text}

length-fraction_text : (n : ℕ) → length (fraction_text n) ≤ 10
unfolding fraction_text
length-fraction_text n =
    elim (cases_Bool (nat_eq n 0)) [
      | inl t ↦ rw t (omega arith)
      | inr t ↦ rw t (omega (arith, length-append (codes ".") (fraction_digits 9 n), length-fraction_digits 9 n))
    ]

pub length-utc_text : (i : ℤ) → length (rfc3339_text (local_in_utc i)) ≤ 30
unfolding rfc3339_text time_offset_text
length-utc_text i =
    let fraction = length-fraction_text (nanosecond_of (wall_time i)) in
    simp (length-append, length-last_digits) (omega (arith, fraction))
