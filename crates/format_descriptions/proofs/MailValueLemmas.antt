-- The parts of a text of mail name its date-time.
use Rattle.std.proofs.Common.{◌≡◌, ℕ, ◌-◌, ◌%◌, refl, arith, inl, Ok, ℤ, pos}
use Rattle.std.specs.Prelude.{IsTrue, int_lt, not, unsigned_abs}
use Rattle.std.proofs.lemmas.Bool.{and_parts}
use Rattle.std.proofs.lemmas.Bool.Decides.{nat_tests}
use Rattle.calendar_values.specs.Calendar.{year_of}
use Rattle.calendar_values.specs.Clock.{IsClock, nanosecond_of}
use Rattle.calendar_values.specs.Offsets.{IsOffset}
use Rattle.calendar_values.specs.Range.{IsDay}
use Rattle.calendar_values.specs.SignedArith.{signed_arith}
use Rattle.calendar_values.specs.WallClock.{wall_clock}
use Rattle.offset_times.specs.Local.{wall_at}
use Rattle.format_descriptions.specs.ClockValues.{time_of_parts}
use Rattle.format_descriptions.specs.DateTimeValues.{local_of_parts, plain_of_parts}
use Rattle.format_descriptions.specs.Groups.{written_from, written_items}
use Rattle.format_descriptions.specs.OffsetValues.{offset_of_parts}
use Rattle.format_descriptions.specs.Read.{no_parts, with_part}
use Rattle.format_descriptions.specs.RoundTrips.{AreWritten, parts_of}
use Rattle.format_descriptions.specs.Values.{date_of_parts}
use Rattle.format_descriptions.specs.WellKnown.{is_mail_year, rfc2822_items}
use Rattle.format_descriptions.specs.declared.parts.Parts.{Parts}
use Rattle.format_descriptions.proofs.ClockLemmas.{time_of_parts-only}
use Rattle.format_descriptions.proofs.DateLemmas.{date_of_parts-only}
use Rattle.format_descriptions.proofs.OffsetLemmas.{offset_of_parts-only}
use Rattle.format_descriptions.proofs.PartLemmas.{AreParts-none}
use Rattle.format_descriptions.proofs.RoundTripLemmas.{AreParts-of}
use Rattle.format_descriptions.proofs.ValueLawLemmas.{HasDateParts-of}

-- a year of mail has four digits
pub written-mail : (day : ℤ) (clock : ℕ) (o : ℤ) → IsTrue (is_mail_year (year_of day)) → IsClock clock → IsOffset o → AreWritten day clock o
written-mail day clock o mail is_clock is_offset =
    let both = and_parts (not (int_lt (year_of day) (pos 1_900))) (int_lt (year_of day) (pos 10_000)) mail in
    let low = both.0 in
    let high = both.1 in
    record {
      year_first = grind (arith, nat_tests, signed_arith);
      year_last = grind (arith, nat_tests, signed_arith);
      is_clock = is_clock;
      is_offset = is_offset;
    }

-- the parts of mail
abbrev mail_parts_of : ℤ → ℕ → ℤ → Parts
mail_parts_of day clock o = parts_of rfc2822_items day clock o no_parts

date-there : (day : ℤ) (clock : ℕ) (o : ℤ) → IsDay day → date_of_parts (mail_parts_of day clock o) ≡ Ok day
unfolding written_from with_part
date-there day clock o in_range =
    date_of_parts-only (mail_parts_of day clock o) day in_range refl
    (HasDateParts-of (mail_parts_of day clock o) day clock o (AreParts-of (written_items rfc2822_items) day clock o no_parts (AreParts-none day clock o)))

time-there : (day : ℤ) (clock : ℕ) (o : ℤ) → IsClock clock → time_of_parts (mail_parts_of day clock o) ≡ Ok (clock - nanosecond_of clock)
unfolding written_from with_part
time-there day clock o is_clock =
    time_of_parts-only (mail_parts_of day clock o) (clock - nanosecond_of clock) (omega (arith, is_clock)) refl
    record {
      hour = omega arith;
      hour_12 = tt;
      is_afternoon = tt;
      minute = omega arith;
      second = omega arith;
      nanosecond = omega arith;
    }

offset-there : (day : ℤ) (clock : ℕ) (o : ℤ) → IsOffset o → unsigned_abs o % 60 ≡ 0 → offset_of_parts (mail_parts_of day clock o) ≡ Ok o
unfolding written_from with_part
offset-there day clock o is_offset minutes =
    offset_of_parts-only (mail_parts_of day clock o) o is_offset refl
    record { hour = refl; minute = refl; second = omega (arith, minutes); sign = inl refl }

pub mail_value-there : (day : ℤ) (clock : ℕ) (o : ℤ) → IsDay day → IsClock clock → IsOffset o → unsigned_abs o % 60 ≡ 0
    → local_of_parts (mail_parts_of day clock o) ≡ Ok (wall_at (wall_clock day (clock - nanosecond_of clock)) o)
unfolding local_of_parts plain_of_parts
mail_value-there day clock o in_range is_clock is_offset minutes =
    rw (date-there day clock o in_range, time-there day clock o is_clock, offset-there day clock o is_offset minutes) refl
