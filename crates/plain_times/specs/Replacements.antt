-- A wall clock with its date or its time of day replaced, or a part of one of them.
use Rattle.std.specs.Prelude.{◌≡◌, ℕ, ◌*◌, ℤ, pos, ◌+ℤ◌, ◌<ℤ◌}
use Rattle.calendar_values.specs.Calendar.{year_of, month_of, day_of_month_of, ordinal_of}
use Rattle.calendar_values.specs.Clock.{nanos_per_day, nanos_per_millisecond, nanos_per_microsecond, hour_of, minute_of, second_of, nanosecond_of}
use Rattle.calendar_values.specs.Outcomes.{Outcome, within}
use Rattle.calendar_values.specs.Replacements.{year_outcome, month_outcome, day_outcome, ordinal_outcome, hour_outcome, minute_outcome, second_outcome}
use Rattle.calendar_values.specs.Replacements.{millisecond_outcome, microsecond_outcome, nanosecond_outcome}
use Rattle.calendar_values.specs.WallClock.{wall_clock, wall_day, wall_time}

-- another date, with the time of day kept
unfoldable pub with_date : ℤ → ℤ → ℤ
with_date w n = wall_clock n (wall_time w)

-- another time of day, with the date kept
unfoldable pub with_time : ℤ → ℕ → ℤ
with_time w c = wall_clock (wall_day w) c

-- the outcome of a part of the date replaced, with the time of day kept
abbrev pub wall_year_outcome : ℤ → ℤ → Outcome ℤ
wall_year_outcome w y = within (with_date w) (year_outcome (wall_day w) y)

abbrev pub wall_month_outcome : ℤ → ℕ → Outcome ℤ
wall_month_outcome w m = within (with_date w) (month_outcome (wall_day w) m)

abbrev pub wall_day_outcome : ℤ → ℕ → Outcome ℤ
wall_day_outcome w d = within (with_date w) (day_outcome (wall_day w) d)

abbrev pub wall_ordinal_outcome : ℤ → ℕ → Outcome ℤ
wall_ordinal_outcome w ordinal = within (with_date w) (ordinal_outcome (wall_day w) ordinal)

-- the outcome of a part of the time of day replaced, with the date kept
abbrev pub wall_hour_outcome : ℤ → ℕ → Outcome ℤ
wall_hour_outcome w h = within (with_time w) (hour_outcome (wall_time w) h)

abbrev pub wall_minute_outcome : ℤ → ℕ → Outcome ℤ
wall_minute_outcome w m = within (with_time w) (minute_outcome (wall_time w) m)

abbrev pub wall_second_outcome : ℤ → ℕ → Outcome ℤ
wall_second_outcome w s = within (with_time w) (second_outcome (wall_time w) s)

abbrev pub wall_millisecond_outcome : ℤ → ℕ → Outcome ℤ
wall_millisecond_outcome w milli = within (with_time w) (millisecond_outcome (wall_time w) milli)

abbrev pub wall_microsecond_outcome : ℤ → ℕ → Outcome ℤ
wall_microsecond_outcome w micro = within (with_time w) (microsecond_outcome (wall_time w) micro)

abbrev pub wall_nanosecond_outcome : ℤ → ℕ → Outcome ℤ
wall_nanosecond_outcome w n = within (with_time w) (nanosecond_outcome (wall_time w) n)

-- the new wall clock shows this year, month and day of the month, and the time of day of the old
pub record OnDate (old y : ℤ) (m d : ℕ) (new : ℤ) : Type 0 where
  pub year : year_of (wall_day new) ≡ y
  pub month : month_of (wall_day new) ≡ m
  pub day : day_of_month_of (wall_day new) ≡ d
  pub time : wall_time new ≡ wall_time old

-- the new wall clock shows this year and day of the year, and the time of day of the old
pub record OnOrdinalDate (old y : ℤ) (o : ℕ) (new : ℤ) : Type 0 where
  pub year : year_of (wall_day new) ≡ y
  pub ordinal : ordinal_of (wall_day new) ≡ o
  pub time : wall_time new ≡ wall_time old

-- the new wall clock shows this hour, minute, second and nanosecond of the second, and the date of the old
pub record AtTime (old : ℤ) (h m s n : ℕ) (new : ℤ) : Type 0 where
  pub day : wall_day new ≡ wall_day old
  pub hour : hour_of (wall_time new) ≡ h
  pub minute : minute_of (wall_time new) ≡ m
  pub second : second_of (wall_time new) ≡ s
  pub nanosecond : nanosecond_of (wall_time new) ≡ n

-- the new wall clock has one part of the date replaced, and the rest of the old one
abbrev pub ShowsYear : ℤ → ℤ → (ℤ → Type 0)
ShowsYear old y = OnDate old y (month_of (wall_day old)) (day_of_month_of (wall_day old))

abbrev pub ShowsMonth : ℤ → ℕ → (ℤ → Type 0)
ShowsMonth old m = OnDate old (year_of (wall_day old)) m (day_of_month_of (wall_day old))

abbrev pub ShowsDay : ℤ → ℕ → (ℤ → Type 0)
ShowsDay old d = OnDate old (year_of (wall_day old)) (month_of (wall_day old)) d

abbrev pub ShowsOrdinal : ℤ → ℕ → (ℤ → Type 0)
ShowsOrdinal old o = OnOrdinalDate old (year_of (wall_day old)) o

-- the new wall clock has one part of the time of day replaced, and the rest of the old one
abbrev pub ShowsHour : ℤ → ℕ → (ℤ → Type 0)
ShowsHour old h = let c = wall_time old in AtTime old h (minute_of c) (second_of c) (nanosecond_of c)

abbrev pub ShowsMinute : ℤ → ℕ → (ℤ → Type 0)
ShowsMinute old m = let c = wall_time old in AtTime old (hour_of c) m (second_of c) (nanosecond_of c)

abbrev pub ShowsSecond : ℤ → ℕ → (ℤ → Type 0)
ShowsSecond old s = let c = wall_time old in AtTime old (hour_of c) (minute_of c) s (nanosecond_of c)

abbrev pub ShowsNanosecond : ℤ → ℕ → (ℤ → Type 0)
ShowsNanosecond old n = let c = wall_time old in AtTime old (hour_of c) (minute_of c) (second_of c) n

abbrev pub ShowsMillisecond : ℤ → ℕ → (ℤ → Type 0)
ShowsMillisecond old milli = ShowsNanosecond old (milli * nanos_per_millisecond)

abbrev pub ShowsMicrosecond : ℤ → ℕ → (ℤ → Type 0)
ShowsMicrosecond old micro = ShowsNanosecond old (micro * nanos_per_microsecond)

-- the new wall clock is the old one on this date
pub record ReplacesDate (old n new : ℤ) : Type 0 where
  pub value : new ≡ with_date old n
  pub date : wall_day new ≡ n
  pub time : wall_time new ≡ wall_time old

-- the new wall clock is the old one at this time of day, so less than a day off
pub record ReplacesTime (old : ℤ) (c : ℕ) (new : ℤ) : Type 0 where
  pub value : new ≡ with_time old c
  pub date : wall_day new ≡ wall_day old
  pub time : wall_time new ≡ c
  pub not_a_day_later : new <ℤ (old +ℤ pos nanos_per_day)
  pub not_a_day_earlier : old <ℤ (new +ℤ pos nanos_per_day)
