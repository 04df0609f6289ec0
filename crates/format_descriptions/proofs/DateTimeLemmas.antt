-- The date-time of parts is the only one that has them all.
use Rattle.std.proofs.Common.{◌≡◌, Bool, true, false, refl, arith, inl, inr, ℤ, pos, ◌+ℤ◌, Ok}
use Rattle.std.specs.Prelude.{IsTrue, int_lt, ◌&&◌, not}
use Rattle.std.proofs.lemmas.Bool.{cases_Bool}
use Rattle.calendar_values.specs.Calendar.{is_leap_year, days_in_months, days_before_month, day_of_calendar_date}
use Rattle.calendar_values.specs.Range.{last_year, is_outside}
use Rattle.calendar_values.specs.SignedArith.{signed_arith}
use Rattle.calendar_values.specs.WallClock.{wall_clock, wall_day, wall_time, first_wall_clock, last_wall_clock, IsWallClock, IsInstant}
use Rattle.calendar_values.specs.WallClockLemmas.{wall_clock-parts, IsDay-wall_day, IsClock-wall_time}
use Rattle.calendar_values.specs.YearLemmas.{year_start-after_last}
use Rattle.offset_times.specs.Local.{Local, instant_of, IsLocal}
use Rattle.rfc3339.specs.LeapSecondLemmas.{is_last_of_month-is, is_last_of_month-finds}
use Rattle.rfc3339.specs.LeapSeconds.{is_last_of_month}
use Rattle.format_descriptions.specs.ClockValues.{tells_time}
use Rattle.format_descriptions.specs.DateTimeValues.{HasPlainParts, HasLocalParts, plain_of_parts, local_of_parts, with_last_nanosecond}
use Rattle.format_descriptions.specs.DateTimeValues.{IsLeapStandIn, is_leap_stand_in, is_sixty, leap_parts, leap_outcome, leap_of_parts}
use Rattle.format_descriptions.specs.OffsetValues.{tells_offset}
use Rattle.format_descriptions.specs.Values.{tells_date}
use Rattle.format_descriptions.specs.declared.parts.Parts.{Parts}
use Rattle.format_descriptions.proofs.ClockLemmas.{time_of_parts-only}
use Rattle.format_descriptions.proofs.DateLemmas.{date_of_parts-only}
use Rattle.format_descriptions.proofs.OffsetLemmas.{offset_of_parts-only}

-- the only wall clock that has these parts is what they are read as
pub plain_of_parts-only : (p : Parts) (wall : ℤ) → IsWallClock wall → IsTrue (tells_date p) → IsTrue (tells_time p) → HasPlainParts p wall
    → plain_of_parts p ≡ Ok wall
unfolding plain_of_parts
plain_of_parts-only p wall in_range date time has =
    rw (
      date_of_parts-only p (wall_day wall) (IsDay-wall_day wall in_range) date has.date,
      time_of_parts-only p (wall_time wall) (IsClock-wall_time wall) time has.time,
      wall_clock-parts wall,
    ) refl

-- the only date-time that has these parts is what they are read as
pub local_of_parts-only : (p : Parts) (at : Local) → IsLocal at → IsTrue (tells_date p) → IsTrue (tells_time p) → IsTrue (tells_offset p)
    → HasLocalParts p at → local_of_parts p ≡ Ok at
unfolding local_of_parts
local_of_parts-only p at in_range date time offset has =
    rw (
      plain_of_parts-only p at.wall in_range.0 date time has.wall,
      offset_of_parts-only p at.offset in_range.1 offset has.offset,
    ) refl

-- ---- leap seconds

both : (s t : Bool) → (s && t) ≡ true → (s ≡ true) × (t ≡ true)
both true t e = (refl, e)
both false t e = absurd cc

-- what the test finds is an instant of the range, and the last nanosecond of a month
pub stand_in_found : (i : ℤ) → is_leap_stand_in i ≡ true → IsLeapStandIn i
stand_in_found i t =
    let found = both (not (is_outside first_wall_clock last_wall_clock i)) (is_last_of_month i) t in
    (grind (arith, signed_arith, found.0), is_last_of_month-is i found.1)

pub inside : (i : ℤ) → IsInstant i → is_outside first_wall_clock last_wall_clock i ≡ false
inside i h = grind (arith, signed_arith, h.0, h.1)

-- and it finds each
pub is_leap_stand_in-finds : (i : ℤ) → IsLeapStandIn i → is_leap_stand_in i ≡ true
is_leap_stand_in-finds i h = rw (inside i h.0) (is_last_of_month-finds i h.1)

-- no day is before January
none_before : (is_leap : Bool) → days_before_month is_leap 1 ≡ 0
unfolding days_in_months
none_before is_leap = refl

-- the last instant of the range is the last nanosecond of a month
pub last_ends_month : (i : ℤ) → IsInstant i → ¬ IsWallClock (i +ℤ pos 1) → is_last_of_month i ≡ true
last_ends_month i in_range past = elim (cases_Bool (int_lt last_wall_clock (i +ℤ pos 1))) [
  | inl t ↦
      let midnight : i +ℤ pos 1 ≡ wall_clock (day_of_calendar_date (last_year +ℤ pos 1) 1 1) 0 =
      omega (arith, signed_arith, year_start-after_last, in_range.1, t, none_before (is_leap_year (last_year +ℤ pos 1)))
      in
      is_last_of_month-finds i (record {
        year = last_year +ℤ pos 1;
        month = 1;
        month_first = omega arith;
        month_last = omega arith;
        midnight = midnight;
      })
  | inr f ↦ absurd (past (omega (arith, signed_arith, in_range.0), omega (arith, signed_arith, f)))
]

-- the only date-time that has these parts is what they are read as, with the mark
leap-only : (p : Parts) (b : Bool) (at : Local) → IsLocal at → IsTrue (tells_date p) → IsTrue (tells_time p) → IsTrue (tells_offset p)
    → HasLocalParts (with_last_nanosecond b p) at → (b ≡ true → IsLeapStandIn (instant_of at))
    → leap_outcome b (local_of_parts (with_last_nanosecond b p)) ≡ Ok (at, b)
leap-only p false at in_range date time offset has last = rw (local_of_parts-only p at in_range date time offset has) refl
leap-only p true at in_range date time offset has last =
    rw (
      local_of_parts-only (with_last_nanosecond true p) at in_range date time offset has,
      is_leap_stand_in-finds (instant_of at) (last refl),
    ) refl

pub leap_of_parts-only : (p : Parts) (at : Local) → IsLocal at → IsTrue (tells_date p) → IsTrue (tells_time p) → IsTrue (tells_offset p)
    → HasLocalParts (leap_parts p) at → (is_sixty p.second ≡ true → IsLeapStandIn (instant_of at))
    → leap_of_parts p ≡ Ok (at, is_sixty p.second)
unfolding leap_of_parts
leap_of_parts-only p at in_range date time offset has last = leap-only p (is_sixty p.second) at in_range date time offset has last
