-- A chain of conversions: the step at which it stops, and its value after each step.
use Rattle.std.specs.Prelude.{ℕ, ◌+◌, Bool, List, [], ◌∷◌, ℤ, if◌then◌else◌, Option, Some, None, option_map, is_some, ⊤}
use Rattle.calendar_values.specs.Offsets.{IsOffset}
use Rattle.calendar_values.specs.WallClock.{IsWallClock}
use Rattle.offset_times.specs.Local.{instant_of, shown_at, local_at}
use Rattle.plain_times.specs.Sums.{wall_clock_if_any}
use Rattle.stamp_times.specs.declared.chains.steps.Held.{Held}
use Rattle.stamp_times.specs.declared.chains.steps.Held.TheVariants.{Stamp, Utc, Offset}
use Rattle.stamp_times.specs.declared.chains.steps.Step.{Step}
use Rattle.stamp_times.specs.declared.chains.steps.Step.TheVariants.{ToStamp, ToUtc, ToOffset}

-- the instant of a value of a chain
abbrev pub held_instant : Held → ℤ
held_instant (Stamp i) = i
held_instant (Utc i) = i
held_instant (Offset at) = instant_of at

-- the wall clock that the target of a step has for an instant
abbrev pub shown_by : Step → ℤ → ℤ
shown_by ToStamp i = i
shown_by ToUtc i = i
shown_by (ToOffset o) i = shown_at i o

-- whether the target of a step can represent the instant: its wall clock there is in range
abbrev pub holds : Step → ℤ → Bool
holds step i = is_some (wall_clock_if_any (shown_by step i))

-- the instant as a value of the target of a step
abbrev pub held_by : Step → ℤ → Held
held_by ToStamp i = Stamp i
held_by ToUtc i = Utc i
held_by (ToOffset o) i = Offset (local_at i o)

-- the index, from 0, of the first step whose target cannot represent the instant
abbrev pub stop_index : ℤ → List Step → Option ℕ
stop_index i [] = None
stop_index i (step ∷ steps) = if holds step i then option_map (λ k. k + 1) (stop_index i steps) else Some 0

-- the value after the steps, if each of their targets can represent the instant
abbrev pub held_after : Held → ℤ → List Step → Held
held_after held i [] = held
held_after held i (step ∷ steps) = held_after (held_by step i) i steps

-- the offset of a step is in range
abbrev pub IsStep : Step → Type 0
IsStep ToStamp = ⊤
IsStep ToUtc = ⊤
IsStep (ToOffset o) = IsOffset o

-- clocks at each offset show a date of the range at the instant
abbrev pub IsFarInside : ℤ → Type 0
IsFarInside i = (o : ℤ) → IsOffset o → IsWallClock (shown_at i o)
