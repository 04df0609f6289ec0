-- Unix time: instants are counted from 1970-01-01 0:00 UTC, with no leap seconds.
use Rattle.std.specs.Prelude.{List, ℕ, codes, if◌then◌else◌, ℤ, pos, ◌*ℤ◌, Result, Ok, Err}
use Rattle.calendar_values.specs.Clock.{nanos_per_second}
use Rattle.calendar_values.specs.Outcomes.{Outcome}
use Rattle.calendar_values.specs.Range.{is_outside}
use Rattle.calendar_values.specs.Refusals.{Refusal, outright_refusal}
use Rattle.calendar_values.specs.WallClock.{first_wall_clock, last_wall_clock, IsInstant}

-- the instant of a Unix second
abbrev pub instant_of_second : ℤ → ℤ
instant_of_second second = second *ℤ pos nanos_per_second

-- the instant if it is in range, or else the error of its count, with this name
unfoldable pub instant_or_refusal : List ℕ → ℤ → Result ℤ Refusal
instant_or_refusal name instant =
    if is_outside first_wall_clock last_wall_clock instant then Err (outright_refusal name) else Ok instant

-- the outcome of the count of an instant, with this name in the error
abbrev pub instant_outcome : List ℕ → ℤ → Outcome ℤ
instant_outcome name instant = record {
  fits = IsInstant instant;
  value = instant;
  refusal = outright_refusal name;
  answer = instant_or_refusal name instant;
}

-- the instant of a Unix second, or the error if it is out of range
abbrev pub unix_instant : ℤ → Result ℤ Refusal
unix_instant second = instant_or_refusal (codes "timestamp") (instant_of_second second)
