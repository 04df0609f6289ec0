-- The instants of texts.
use Rattle.std.proofs.Common.{◌≡◌, ℤ, pos, ◌+ℤ◌, ap, ◌∙◌, arith, Result, Ok, Err, IfOk}
use Rattle.calendar_values.specs.Calendar.{year_of}
use Rattle.calendar_values.specs.DayLemmas.{IsInYear-year_of}
use Rattle.calendar_values.specs.Range.{first_year, last_year}
use Rattle.calendar_values.specs.SignedArith.{signed_arith}
use Rattle.calendar_values.specs.WallClock.{wall_clock, wall_day, wall_time, IsInstant}
use Rattle.calendar_values.specs.WallClockLemmas.{wall_clock-parts, IsClock-wall_time}
use Rattle.calendar_values.specs.YearLemmas.{year_start-first, year_start-after_last, year_start-later}
use Rattle.offset_times.specs.InstantLemmas.{instant_of-utc}
use Rattle.offset_times.specs.Local.{Local, local_in_utc, instant_of}
use Rattle.rfc3339.specs.Texts.{HasText}
use Rattle.rfc3339.specs.declared.refusal.TextRefusal.{TextRefusal}

-- a date-time that was read in UTC has the instant that clocks there show
pub instant_of-read : (at : Local) (i : ℤ) → ◌≡◌ {A = Result Local TextRefusal} (Ok at) (Ok (local_in_utc i)) → instant_of at ≡ i
instant_of-read at i e =
    let same : at ≡ local_in_utc i = cc in ap instant_of same ∙ instant_of-utc i

-- a year of four digits is a year or more from the ends of the range
instants_in_range : (at : Local) → HasText at → IsInstant (instant_of at) × IsInstant (instant_of at +ℤ pos 1)
unfolding instant_of
instants_in_range at h =
    let day = wall_day at.wall in
    let year = IsInYear-year_of day in
    let shown : wall_clock day (wall_time at.wall) ≡ at.wall = wall_clock-parts at.wall in
    let clock = IsClock-wall_time at.wall in
    let after_first = year_start-later first_year (year_of day) (omega (arith, signed_arith)) in
    let before_last = year_start-later (year_of day +ℤ pos 1) (last_year +ℤ pos 1) (omega (arith, signed_arith)) in
    omega (arith, signed_arith, year_start-first, year_start-after_last)

pub instant_of-in_range : (at : Local) → HasText at → IsInstant (instant_of at)
instant_of-in_range at h = (instants_in_range at h).0

-- and so is the next nanosecond
pub instant_of-next_in_range : (at : Local) → HasText at → IsInstant (instant_of at +ℤ pos 1)
instant_of-next_in_range at h = (instants_in_range at h).1

pub instant_of_read : {E : Type 0} (r : Result Local E) → IfOk r HasText → IfOk r (λ at. IsInstant (instant_of at))
instant_of_read (Ok at) h = instant_of-in_range at h
instant_of_read (Err refusal) h = tt
