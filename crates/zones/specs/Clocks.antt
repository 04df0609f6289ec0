-- Clocks that go through transitions, which may have an end: S k is the second of the one at k, O k the offset before it.
use Rattle.std.specs.Prelude.{◌≡◌, ◌⊎◌, ℕ, ◌+◌, ◌-◌, nat_lt, if◌then◌else◌, Option, Some, None, ℤ, ◌+ℤ◌, ◌-ℤ◌, ◌≤ℤ◌, ◌<ℤ◌}
use Rattle.std.specs.Int.{int_min, int_max}
use Rattle.zones.specs.Choices.{first_of}
use Rattle.zones.specs.declared.local_instants.LocalInstants.{LocalInstants}
use Rattle.zones.specs.declared.local_instants.LocalInstants.TheVariants.{Single, Gap, Fold}
use Rattle.zones.specs.declared.time_type.TimeType.{TimeType}
use Rattle.zones.specs.declared.transition.Transition.{Transition}

-- where the gap or the fold of a transition starts on the clock, and where it has ended
abbrev pub start : (S O : ℕ → ℤ) → ℕ → ℤ
start S O k = S k +ℤ int_min (O k) (O (k + 1))

abbrev pub end : (S O : ℕ → ℤ) → ℕ → ℤ
end S O k = S k +ℤ int_max (O k) (O (k + 1))

-- the transitions run forward
pub record Runs (Has : ℕ → Type 0) (S O : ℕ → ℤ) : Type 0 where
  pub down : (k : ℕ) → Has (k + 1) → Has k
  pub rises : (k : ℕ) → Has (k + 1) → S k <ℤ S (k + 1)
  pub apart : (k : ℕ) → Has (k + 1) → end S O k ≤ℤ start S O (k + 1)

-- k transitions lie at or before the second
pub record IsPlace (Has : ℕ → Type 0) (S : ℕ → ℤ) (t : ℤ) (k : ℕ) : Type 0 where
  pub reached : (j : ℕ) → j + 1 ≡ k → Has j × (S j ≤ℤ t)
  pub ahead : Has k → t <ℤ S k

-- the second shows the wall clock, at its place
pub record ShowsAt (Has : ℕ → Type 0) (S O : ℕ → ℤ) (local t : ℤ) (k : ℕ) : Type 0 where
  pub place : IsPlace Has S t k
  pub shown : t +ℤ O k ≡ local

-- the clocks show the wall clock at this second, at some place
abbrev pub ShowsLocal : (Has : ℕ → Type 0) (S O : ℕ → ℤ) → ℤ → ℤ → Type 0
ShowsLocal Has S O local t = (k : ℕ) × ShowsAt Has S O local t k

-- these are all the seconds of which Shows holds; in a gap, where there are none, the two numbers are what the offsets after
-- and before one transition make of the wall clock, and the third is the second of that transition, which lies between them
abbrev pub IsInstants : (Shows : ℤ → Type 0) (Has : ℕ → Type 0) (S O : ℕ → ℤ) → ℤ → LocalInstants → Type 0
IsInstants Shows Has S O local (Single t) = Shows t × ((u : ℤ) → Shows u → u ≡ t)
IsInstants Shows Has S O local (Fold t u) = (t <ℤ u) × Shows t × Shows u × ((v : ℤ) → Shows v → (v ≡ t) ⊎ (v ≡ u))
IsInstants Shows Has S O local (Gap t u s) = ((v : ℤ) → Shows v → ⊥) ×
    ((k : ℕ) × Has k × (t ≡ local -ℤ O (k + 1)) × (u ≡ local -ℤ O k) × (s ≡ S k) × (t <ℤ s) × (s ≤ℤ u))

-- the kind of local time at a second: that after the last transition at or before it
abbrev pub IsTypeAt : (Has : ℕ → Type 0) (S : ℕ → ℤ) (T : ℕ → TimeType) → ℤ → TimeType → Type 0
IsTypeAt Has S T second found = (k : ℕ) × IsPlace Has S second k × (found ≡ T k)

-- the transition at a place
pub record IsTransition (S : ℕ → ℤ) (T : ℕ → TimeType) (k : ℕ) (found : Transition) : Type 0 where
  pub second : found.second ≡ S k
  pub before : found.before ≡ T k
  pub after : found.after ≡ T (k + 1)

-- the first transition after a second, or none if there is none
abbrev pub IsNext : (Has : ℕ → Type 0) (S : ℕ → ℤ) (T : ℕ → TimeType) → ℤ → Option Transition → Type 0
IsNext Has S T second None = (k : ℕ) × IsPlace Has S second k × (Has k → ⊥)
IsNext Has S T second (Some found) = (k : ℕ) × IsPlace Has S second k × Has k × IsTransition S T k found

-- the last transition whose key is at or before a number, or none if there is none
abbrev pub IsLastBy : (Has : ℕ → Type 0) (key S : ℕ → ℤ) (T : ℕ → TimeType) → ℤ → Option Transition → Type 0
IsLastBy Has key S T number None = IsPlace Has key number 0
IsLastBy Has key S T number (Some found) = (k : ℕ) × IsPlace Has key number (k + 1) × IsTransition S T k found

-- the last transition at or before a second, and the last one whose gap or fold has started at a wall clock
abbrev pub IsLast : (Has : ℕ → Type 0) (S : ℕ → ℤ) (T : ℕ → TimeType) → ℤ → Option Transition → Type 0
IsLast Has S T second found = IsLastBy Has S S T second found

abbrev pub IsLastStarted : (Has : ℕ → Type 0) (S : ℕ → ℤ) (T : ℕ → TimeType) → ℤ → Option Transition → Type 0
IsLastStarted Has S T local found = IsLastBy Has (start S (λ k. (T k).offset)) S T local found

-- the first second at which the clocks show the wall clock or a later one
pub record IsFirstAt (Has : ℕ → Type 0) (S O : ℕ → ℤ) (local t : ℤ) : Type 0 where
  pub reached : (k : ℕ) × IsPlace Has S t k × (local ≤ℤ (t +ℤ O k))
  pub before : (u : ℤ) (k : ℕ) → u <ℤ t → IsPlace Has S u k → (u +ℤ O k) <ℤ local

-- n terms of one sequence, and then another
abbrev pub join : {A : Type 0} → ℕ → (ℕ → A) → (ℕ → A) → ℕ → A
join n f g k = if nat_lt k n then f k else g (k - n)

-- what the last transition whose gap or fold has started makes of a wall clock
abbrev pub IsBy : (second before after local : ℤ) → LocalInstants → Type 0
IsBy second before after local (Single t) = ((second +ℤ int_max before after) ≤ℤ local) × (t ≡ local -ℤ after)
IsBy second before after local (Gap t u s) =
    (local <ℤ (second +ℤ int_max before after)) × (before <ℤ after) × (t ≡ local -ℤ after) × (u ≡ local -ℤ before) × (s ≡ second)
IsBy second before after local (Fold t u) =
    (local <ℤ (second +ℤ int_max before after)) × (after ≤ℤ before) × (t ≡ local -ℤ before) × (u ≡ local -ℤ after)

-- the first second of what the last transition whose gap or fold has started makes of a wall clock
abbrev pub FirstBy : Transition → ℤ → ℤ → Type 0
FirstBy row local t = (found : LocalInstants) × IsBy row.second row.before.offset row.after.offset local found × (t ≡ first_of found)
