-- The date and the time of day of a wall clock after a replacement.
use Rattle.std.proofs.Common.{◌≡◌, ℕ, ◌≤◌, refl, sym, ap, ◌∙◌, arith, ℤ, Result, Ok, Err}
use Rattle.calendar_values.specs.Calendar.{year_of, month_of, day_of_month_of, ordinal_of}
use Rattle.calendar_values.specs.Clock.{IsClock, clock_of_parts, hour_of, minute_of, second_of, nanosecond_of}
use Rattle.calendar_values.specs.Dates.{ShowsDate, ShowsOrdinalDate}
use Rattle.calendar_values.specs.Outcomes.{answer_within}
use Rattle.calendar_values.specs.Refusals.{Refusal}
use Rattle.calendar_values.specs.SignedArith.{signed_arith}
use Rattle.calendar_values.specs.WallClock.{wall_day, wall_time}
use Rattle.calendar_values.specs.WallClockLemmas.{IsClock-wall_time, wall_day-wall_clock, wall_time-wall_clock}
use Rattle.plain_times.specs.Replacements.{with_date, with_time, OnDate, OnOrdinalDate, AtTime, ReplacesDate}

-- another date, and the time of day as before
pub wall_day-with_date : (w n : ℤ) → wall_day (with_date w n) ≡ n
unfolding with_date
wall_day-with_date w n = wall_day-wall_clock n (wall_time w) (IsClock-wall_time w)

pub wall_time-with_date : (w n : ℤ) → wall_time (with_date w n) ≡ wall_time w
unfolding with_date
wall_time-with_date w n = wall_time-wall_clock n (wall_time w) (IsClock-wall_time w)

-- another time of day, and the date as before
pub wall_day-with_time : (w : ℤ) (c : ℕ) → IsClock c → wall_day (with_time w c) ≡ wall_day w
unfolding with_time
wall_day-with_time w c clock = wall_day-wall_clock (wall_day w) c clock

pub wall_time-with_time : (w : ℤ) (c : ℕ) → IsClock c → wall_time (with_time w c) ≡ c
unfolding with_time
wall_time-with_time w c clock = wall_time-wall_clock (wall_day w) c clock

-- after a replacement that succeeds, the wall clock has the new date
pub wall_day-accepted : (w v : ℤ) (r : Result ℤ Refusal) → answer_within (with_date w) r ≡ Ok v → r ≡ Ok (wall_day v)
wall_day-accepted w v (Ok n) e = let same : with_date w n ≡ v = cc in ap Ok (sym (wall_day-with_date w n) ∙ ap wall_day same)
wall_day-accepted w v (Err refusal) e = absurd cc

-- after a replacement that succeeds, the wall clock has the new time of day
pub wall_time-accepted : (w v : ℤ) (r : Result ℕ Refusal) → ((c : ℕ) → r ≡ Ok c → IsClock c) → answer_within (with_time w) r ≡ Ok v → r ≡ Ok (wall_time v)
wall_time-accepted w v (Ok c) clock e = let same : with_time w c ≡ v = cc in ap Ok (sym (wall_time-with_time w c (clock c refl)) ∙ ap wall_time same)
wall_time-accepted w v (Err refusal) clock e = absurd cc

pub ruleset replaced = (wall_day-with_date, wall_time-with_date, wall_day-with_time, wall_time-with_time)

-- a wall clock moved to a date has the parts of that date, and the time of day as before
pub OnDate-shown : (old n new y : ℤ) (m d : ℕ) → ShowsDate y m d n → ReplacesDate old n new → OnDate old y m d new
OnDate-shown old n new y m d shown on = record {
  year = ap year_of on.date ∙ shown.year;
  month = ap month_of on.date ∙ shown.month;
  day = ap day_of_month_of on.date ∙ shown.day;
  time = on.time;
}

pub OnOrdinalDate-shown : (old n new y : ℤ) (o : ℕ) → ShowsOrdinalDate y o n → ReplacesDate old n new → OnOrdinalDate old y o new
OnOrdinalDate-shown old n new y o shown on =
    record { year = ap year_of on.date ∙ shown.year; ordinal = ap ordinal_of on.date ∙ shown.ordinal; time = on.time }

-- a wall clock moved to a time of day has the parts of that time, and the date as before
pub AtTime-hour : (old new : ℤ) (c h : ℕ) → h ≤ 23
    → c ≡ clock_of_parts h (minute_of (wall_time old)) (second_of (wall_time old)) (nanosecond_of (wall_time old)) → new ≡ with_time old c
    → AtTime old h (minute_of (wall_time old)) (second_of (wall_time old)) (nanosecond_of (wall_time old)) new
unfolding with_time wall_day wall_time
AtTime-hour old new c h low is e = omega (arith, signed_arith)

pub AtTime-minute : (old new : ℤ) (c m : ℕ) → m ≤ 59
    → c ≡ clock_of_parts (hour_of (wall_time old)) m (second_of (wall_time old)) (nanosecond_of (wall_time old)) → new ≡ with_time old c
    → AtTime old (hour_of (wall_time old)) m (second_of (wall_time old)) (nanosecond_of (wall_time old)) new
unfolding with_time wall_day wall_time
AtTime-minute old new c m low is e = omega (arith, signed_arith)

pub AtTime-second : (old new : ℤ) (c s : ℕ) → s ≤ 59
    → c ≡ clock_of_parts (hour_of (wall_time old)) (minute_of (wall_time old)) s (nanosecond_of (wall_time old)) → new ≡ with_time old c
    → AtTime old (hour_of (wall_time old)) (minute_of (wall_time old)) s (nanosecond_of (wall_time old)) new
unfolding with_time wall_day wall_time
AtTime-second old new c s low is e = omega (arith, signed_arith)

pub AtTime-nanosecond : (old new : ℤ) (c n : ℕ) → n ≤ 999_999_999
    → c ≡ clock_of_parts (hour_of (wall_time old)) (minute_of (wall_time old)) (second_of (wall_time old)) n → new ≡ with_time old c
    → AtTime old (hour_of (wall_time old)) (minute_of (wall_time old)) (second_of (wall_time old)) n new
unfolding with_time wall_day wall_time
AtTime-nanosecond old new c n low is e = omega (arith, signed_arith)

pub ruleset replaced_times = (AtTime-hour, AtTime-minute, AtTime-second, AtTime-nanosecond)
