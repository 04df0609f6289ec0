-- The order of lines by their instants.
use Rattle.std.specs.Prelude.{ℕ, Bool, true, false, List, ℤ, int_lt, Option, Some, None}
use Rattle.line_devices.specs.declared.stamp_tallies.LineKind.{LineKind}

-- whether an instant is before another: lines before the first instant of their log are before all others
abbrev pub is_before : Option ℤ → Option ℤ → Bool
is_before first None = false
is_before None (Some second) = true
is_before (Some first) (Some second) = int_lt first second

-- the instant up to a line: its own, or the last one
abbrev pub up_to : Option ℤ → Option ℤ → Option ℤ
up_to last None = last
up_to last (Some own) = Some own

-- how the lines of a log are read: what is known of the lines before the next one; the instant of a line, if it has one, by what is
-- known, by the last instant before it, by whether it is the first line, and by its bytes; and what is known after a line, by what was
-- known before it, by its number, by how it counts, and by its bytes
pub record LogReading (M : Type 0) : Type 0 where
  pub memory : M
  pub instant : M → Option ℤ → Bool → List ℕ → Option ℤ
  pub after : M → ℕ → LineKind → List ℕ → M

-- the instant of the next line
abbrev pub next_instant : {M : Type 0} → LogReading M → Option ℤ → Bool → List ℕ → Option ℤ
next_instant reading = reading.instant reading.memory

-- how the lines are read from a point where this is known
abbrev pub reading_from : {M : Type 0} → LogReading M → M → LogReading M
reading_from reading memory = record reading { memory = memory }
