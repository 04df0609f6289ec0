-- A duration is a whole number of nanoseconds. Its seconds and days are whole ones, rounded towards zero.
use Rattle.std.specs.Prelude.{◌≡◌, ◌≢◌, ◌≤◌, ◌⊎◌, ℕ, ℤ, pos, neg_ℤ, ◌+ℤ◌, ◌-ℤ◌, ◌*ℤ◌, ◌≤ℤ◌, ◌<ℤ◌, int_div, int_rem, unsigned_abs, Option, SomeIff}
use Rattle.calendar_values.specs.Clock.{nanos_per_microsecond, nanos_per_millisecond, nanos_per_second, nanos_per_minute, nanos_per_hour, nanos_per_day}
use Rattle.calendar_values.specs.Clock.{nanos_per_week}

-- the duration of s seconds and n nanoseconds
abbrev pub duration_of_parts : ℤ → ℤ → ℤ
duration_of_parts s n = (s *ℤ pos nanos_per_second) +ℤ n

-- the least duration and the greatest: -2^63 seconds and 2^63 - 1 seconds,
-- each with 999,999,999 nanoseconds more of the same sign
abbrev pub least_duration : ℤ
least_duration = neg_ℤ (pos 9_223_372_036_854_775_808_999_999_999)

abbrev pub greatest_duration : ℤ
greatest_duration = pos 9_223_372_036_854_775_807_999_999_999

-- a duration of the range
abbrev pub IsDuration : ℤ → Type 0
IsDuration d = (least_duration ≤ℤ d) × (d ≤ℤ greatest_duration)

-- the result is Some d exactly if d nanoseconds are a duration of the range, and else None
abbrev pub SomeDuration : Option ℤ → ℤ → Type 0
SomeDuration result d = SomeIff result (IsDuration d) d

-- n is the duration that is nearest to d nanoseconds
pub record IsNearestDuration (d n : ℤ) : Type 0 where
  pub exact : IsDuration d → n ≡ d
  pub at_the_end : greatest_duration <ℤ d → n ≡ greatest_duration
  pub at_the_beginning : d <ℤ least_duration → n ≡ least_duration

-- d is how much later the first time of day is than the second: less than a day either way
pub record IsTimeDifference (first second : ℕ) (d : ℤ) : Type 0 where
  pub value : d ≡ pos first -ℤ pos second
  pub above : neg_ℤ (pos nanos_per_day) <ℤ d
  pub below : d <ℤ pos nanos_per_day
  pub in_range : IsDuration d

-- the number is not 0, and the duration divided by it, rounded towards zero, is a duration
abbrev pub HasQuotient : ℤ → ℤ → Type 0
HasQuotient d divisor = (divisor ≢ pos 0) × IsDuration (int_div d divisor)

-- the whole seconds of a duration
unfoldable pub whole_seconds_of : ℤ → ℤ
whole_seconds_of d = int_div d (pos nanos_per_second)

-- the nanoseconds of a duration after its whole seconds
unfoldable pub subsec_nanoseconds_of : ℤ → ℤ
subsec_nanoseconds_of d = int_rem d (pos nanos_per_second)

-- the whole milliseconds and microseconds of a duration
unfoldable pub whole_milliseconds_of : ℤ → ℤ
whole_milliseconds_of d = int_div d (pos nanos_per_millisecond)

unfoldable pub whole_microseconds_of : ℤ → ℤ
whole_microseconds_of d = int_div d (pos nanos_per_microsecond)

-- the whole milliseconds and microseconds of a duration after its whole seconds
unfoldable pub subsec_milliseconds_of : ℤ → ℤ
subsec_milliseconds_of d = int_div (subsec_nanoseconds_of d) (pos nanos_per_millisecond)

unfoldable pub subsec_microseconds_of : ℤ → ℤ
subsec_microseconds_of d = int_div (subsec_nanoseconds_of d) (pos nanos_per_microsecond)

-- the whole minutes, hours, days and weeks of a duration
unfoldable pub whole_minutes_of : ℤ → ℤ
whole_minutes_of d = int_div d (pos nanos_per_minute)

unfoldable pub whole_hours_of : ℤ → ℤ
whole_hours_of d = int_div d (pos nanos_per_hour)

unfoldable pub whole_days_of : ℤ → ℤ
whole_days_of d = int_div d (pos nanos_per_day)

unfoldable pub whole_weeks_of : ℤ → ℤ
whole_weeks_of d = int_div d (pos nanos_per_week)

-- seconds, and nanoseconds that make less than a second, of one sign
pub record IsDurationParts (s n : ℤ) : Type 0 where
  pub in_range : unsigned_abs n ≤ 999_999_999
  pub one_sign : ((pos 0 ≤ℤ s) × (pos 0 ≤ℤ n)) ⊎ ((s ≤ℤ pos 0) × (n ≤ℤ pos 0))
