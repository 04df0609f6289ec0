-- An instant is a Unix second and a nanosecond of that second. Its counts in larger units are rounded down, before 1970 too.
use Rattle.std.specs.Prelude.{ℕ, ℤ, pos, ◌+ℤ◌, ◌*ℤ◌, ◌++◌}
use Rattle.std.specs.Hash as fed
use Rattle.std.specs.Int.{int_div_euclid}
use Rattle.calendar_values.specs.Clock.{nanos_per_millisecond, nanos_per_microsecond, nanosecond_of}
use Rattle.calendar_values.specs.WallClock.{unix_seconds_of, wall_time}
use Rattle.utc_times.specs.UnixTime.{instant_of_second}

-- the instant of a Unix second and a nanosecond of that second
abbrev pub instant_of_parts : ℤ → ℕ → ℤ
instant_of_parts s n = instant_of_second s +ℤ pos n

-- the instants of a number of milliseconds, and of microseconds, since 1970
abbrev pub instant_of_milliseconds : ℤ → ℤ
instant_of_milliseconds count = count *ℤ pos nanos_per_millisecond

abbrev pub instant_of_microseconds : ℤ → ℤ
instant_of_microseconds count = count *ℤ pos nanos_per_microsecond

-- the nanosecond of the second of an instant
abbrev pub unix_nanosecond_of : ℤ → ℕ
unix_nanosecond_of i = nanosecond_of (wall_time i)

-- the input of a hasher for an instant: its second, and then the nanosecond of that second
unfoldable pub hashed_instant : ℤ → fed.HashWrites
hashed_instant i = fed.i64 (unix_seconds_of i) ++ fed.u32 (unix_nanosecond_of i)

-- the whole milliseconds and microseconds of an instant
abbrev pub unix_milliseconds_of : ℤ → ℤ
unix_milliseconds_of i = int_div_euclid i (pos nanos_per_millisecond)

abbrev pub unix_microseconds_of : ℤ → ℤ
unix_microseconds_of i = int_div_euclid i (pos nanos_per_microsecond)
