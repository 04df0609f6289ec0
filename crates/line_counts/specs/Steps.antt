-- Steps of one length.
use Rattle.std.specs.Prelude.{ℕ, ℤ, pos, ◌+ℤ◌}
use Rattle.plain_times.specs.Sums.{nearest_wall_clock}

-- the instant after a number of nanoseconds, or the last one of the range
abbrev pub step_of : ℕ → ℤ → ℤ
step_of nanos at = nearest_wall_clock (at +ℤ pos nanos)
