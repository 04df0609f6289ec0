-- Times of day.
use Rattle.std.specs.Prelude.{ℕ, Result}
use Rattle.calendar_values.specs.Constructors.{clock_time_nano}
use Rattle.muxandu_c.specs.Answers.{as_refused}
use Rattle.muxandu_c.specs.declared.refused.Refused.{Refused}

-- the time of day of its parts, or the first part that is out of range
abbrev pub time_value : ℕ → ℕ → ℕ → ℕ → Result ℕ Refused
time_value h m s n = as_refused (clock_time_nano h m s n)
