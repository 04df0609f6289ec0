-- The parts of a value name it.
use Rattle.std.proofs.Common.{◌≡◌, ℕ, ◌&&◌, Bool, ℤ, Option, Some, None, inl}
use Rattle.std.specs.Prelude.{IfSome, IsTrue, is_some}
use Rattle.std.proofs.lemmas.Bool.{and_parts}
use Rattle.calendar_values.specs.Range.{IsDay}
use Rattle.format_descriptions.specs.ClockValues.{tells_time, HasTimeParts}
use Rattle.format_descriptions.specs.OffsetValues.{or_false, tells_offset, HasOffsetParts}
use Rattle.format_descriptions.specs.RoundTrips.{AreParts, AreWritten}
use Rattle.format_descriptions.specs.ValueLaws.{NamesAgain}
use Rattle.format_descriptions.specs.Values.{HasDateParts}
use Rattle.format_descriptions.specs.declared.parts.Parts.{Parts}
use Rattle.format_descriptions.proofs.ClockLemmas.{time_of_parts-only}
use Rattle.format_descriptions.proofs.DateLemmas.{date_of_parts-only, known-number}
use Rattle.format_descriptions.proofs.OffsetLemmas.{offset_of_parts-only}

pub HasDateParts-of : (p : Parts) (day : ℤ) (clock : ℕ) (o : ℤ) → AreParts p day clock o → HasDateParts p day
HasDateParts-of p day clock o a = record {
  year = record { whole = a.year; hundreds = a.year_century; sign = a.is_before_zero; last = a.year_last_two };
  iso_year = record { whole = a.iso_year; hundreds = a.iso_year_century; sign = a.is_iso_before_zero; last = a.iso_year_last_two };
  month = a.month;
  day_of_month = a.day_of_month;
  ordinal = a.ordinal;
  weekday = a.weekday;
  iso_week = a.iso_week;
  sunday_week = a.sunday_week;
  monday_week = a.monday_week;
}

known-choice : (known : Option Bool) (b : Bool) → IfSome known (λ k. k ≡ b) → IsTrue (is_some known) → or_false known ≡ b
known-choice None b h some = absurd cc
known-choice (Some k) b h some = h

HasTimeParts-of : (p : Parts) (day : ℤ) (clock : ℕ) (o : ℤ) → AreParts p day clock o
    → IsTrue (is_some p.minute && (is_some p.second && is_some p.nanosecond)) → HasTimeParts p clock
HasTimeParts-of p day clock o a some =
    let first = and_parts (is_some p.minute) (is_some p.second && is_some p.nanosecond) some in
    let others = and_parts (is_some p.second) (is_some p.nanosecond) first.1 in
    record {
      hour = a.hour;
      hour_12 = a.hour_12;
      is_afternoon = a.is_afternoon;
      minute = known-number p.minute _ a.minute first.0;
      second = known-number p.second _ a.second others.0;
      nanosecond = known-number p.nanosecond _ a.nanosecond others.1;
    }

HasOffsetParts-of : (p : Parts) (day : ℤ) (clock : ℕ) (o : ℤ) → AreParts p day clock o
    → IsTrue (is_some p.is_west && (is_some p.offset_minute && is_some p.offset_second)) → HasOffsetParts p o
HasOffsetParts-of p day clock o a some =
    let first = and_parts (is_some p.is_west) (is_some p.offset_minute && is_some p.offset_second) some in
    let others = and_parts (is_some p.offset_minute) (is_some p.offset_second) first.1 in
    record {
      hour = a.offset_hour;
      minute = known-number p.offset_minute _ a.offset_minute others.0;
      second = known-number p.offset_second _ a.offset_second others.1;
      sign = inl (known-choice p.is_west _ a.is_west first.0);
    }

-- parts of one value name it, where they are enough
pub NamesAgain-of : (p : Parts) (day : ℤ) (clock : ℕ) (o : ℤ) → IsDay day → AreWritten day clock o → AreParts p day clock o → NamesAgain p day clock o
NamesAgain-of p day clock o in_range w a = record {
  date = λ tells. date_of_parts-only p day in_range tells (HasDateParts-of p day clock o a);
  time =
      λ tells. let both = and_parts (tells_time p) (is_some p.minute && (is_some p.second && is_some p.nanosecond)) tells in
      time_of_parts-only p clock w.is_clock both.0 (HasTimeParts-of p day clock o a both.1);
  offset =
      λ tells. let both = and_parts (tells_offset p) (is_some p.is_west && (is_some p.offset_minute && is_some p.offset_second)) tells in
      offset_of_parts-only p o w.is_offset both.0 (HasOffsetParts-of p day clock o a both.1);
}
