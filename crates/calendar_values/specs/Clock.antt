-- The clock of a day: the nanoseconds since midnight. There are no leap seconds.
use Rattle.std.specs.Prelude.{ℕ, ◌≡◌, ◌+◌, ◌*◌, ◌/◌, ◌%◌, ◌<◌, ◌≤◌}

abbrev pub nanos_per_microsecond : ℕ
nanos_per_microsecond = 1_000

abbrev pub nanos_per_millisecond : ℕ
nanos_per_millisecond = 1_000_000

abbrev pub nanos_per_second : ℕ
nanos_per_second = 1_000_000_000

abbrev pub nanos_per_minute : ℕ
nanos_per_minute = 60_000_000_000

abbrev pub nanos_per_hour : ℕ
nanos_per_hour = 3_600_000_000_000

-- a day has 86,400 seconds
abbrev pub nanos_per_day : ℕ
nanos_per_day = 86_400_000_000_000

abbrev pub nanos_per_week : ℕ
nanos_per_week = 604_800_000_000_000

-- a nanosecond of the day
abbrev pub IsClock : ℕ → Type 0
IsClock c = c < nanos_per_day

-- the day has this hour, minute, second and nanosecond of the second
pub record AreTimeParts (h m s n : ℕ) : Type 0 where
  pub hour : h ≤ 23
  pub minute : m ≤ 59
  pub second : s ≤ 59
  pub nanosecond : n ≤ 999_999_999

-- the clock that shows these parts: `n` is the nanosecond of the second
abbrev pub clock_of_parts : ℕ → ℕ → ℕ → ℕ → ℕ
clock_of_parts h m s n = h * nanos_per_hour + m * nanos_per_minute + s * nanos_per_second + n

-- the hour, 0 to 23
abbrev pub hour_of : ℕ → ℕ
hour_of c = c / nanos_per_hour

-- the minute of the hour
abbrev pub minute_of : ℕ → ℕ
minute_of c = c / nanos_per_minute % 60

-- the second of the minute
abbrev pub second_of : ℕ → ℕ
second_of c = c / nanos_per_second % 60

-- the nanosecond, the microsecond and the millisecond of the second
abbrev pub nanosecond_of : ℕ → ℕ
nanosecond_of c = c % nanos_per_second

abbrev pub microsecond_of : ℕ → ℕ
microsecond_of c = nanosecond_of c / nanos_per_microsecond

abbrev pub millisecond_of : ℕ → ℕ
millisecond_of c = nanosecond_of c / nanos_per_millisecond

-- the clock shows this hour, minute, second and nanosecond of the second
pub record HasTimeParts (c h m s n : ℕ) : Type 0 where
  pub clock : IsClock c
  pub hour : hour_of c ≡ h
  pub minute : minute_of c ≡ m
  pub second : second_of c ≡ s
  pub nanosecond : nanosecond_of c ≡ n
