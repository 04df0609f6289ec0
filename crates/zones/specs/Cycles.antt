-- The moments of a cycle: two each year, moment_at from the first of the year 0.
use Rattle.std.specs.Prelude.{◌≡◌, ◌⊎◌, Option, Some, None, ℕ, ℤ, pos, neg_ℤ, ◌+ℤ◌, ◌-ℤ◌, ◌*ℤ◌, ◌≤ℤ◌, ◌<ℤ◌, Bool, int_le, if◌then◌else◌}
use Rattle.std.specs.Int.{int_div_euclid, int_min, int_max}
use Rattle.calendar_values.specs.Calendar.{year_start}
use Rattle.zones.specs.Rules.{rule_day}
use Rattle.zones.specs.Clocks.{IsTypeAt}
use Rattle.zones.specs.declared.moment.Moment.{Moment}
use Rattle.zones.specs.declared.cycle.Cycle.{Cycle}
use Rattle.zones.specs.declared.time_type.TimeType.{TimeType}

-- the year of a moment
abbrev pub moment_year : ℤ → ℤ
moment_year m = int_div_euclid m (pos 2)

-- it is the first of its year
abbrev pub is_first : ℤ → Bool
is_first m = int_le m (pos 2 *ℤ moment_year m)

-- the second on the clocks up to a moment
unfoldable pub local_second : Moment → ℤ → ℤ
local_second moment y = rule_day moment.day y *ℤ pos 86_400 +ℤ moment.time

-- the kind of local time before a moment, and its offset
unfoldable pub cycle_type : Cycle → ℤ → TimeType
cycle_type c m = if is_first m then c.after_second else c.after_first

abbrev pub cycle_offset : Cycle → ℤ → ℤ
cycle_offset c m = (cycle_type c m).offset

-- the Unix second of a moment
unfoldable pub cycle_second : Cycle → ℤ → ℤ
cycle_second c m =
    if is_first m then local_second c.first (moment_year m) -ℤ c.after_second.offset
    else local_second c.second (moment_year m) -ℤ c.after_first.offset

-- the lesser of the two offsets, and the greater
abbrev pub low_offset : Cycle → ℤ
low_offset c = int_min c.after_first.offset c.after_second.offset

abbrev pub high_offset : Cycle → ℤ
high_offset c = int_max c.after_first.offset c.after_second.offset

-- each moment comes after the one before it, and its gap or fold starts no earlier than the one before it ends
pub record IsApart (c : Cycle) (m : ℤ) : Type 0 where
  pub rises : cycle_second c m <ℤ cycle_second c (m +ℤ pos 1)
  pub apart : (cycle_second c m +ℤ high_offset c) ≤ℤ (cycle_second c (m +ℤ pos 1) +ℤ low_offset c)

-- a cycle runs forward in all years
abbrev pub RunsForward : Cycle → Type 0
RunsForward c = (m : ℤ) → IsApart c m

-- the second that is so in each year comes this many seconds after its start, or up to 21 days later
abbrev pub ComesNear : (ℤ → ℤ) → ℤ → Type 0
ComesNear second base = (y : ℤ) → ((year_start y *ℤ pos 86_400 +ℤ base) ≤ℤ second y) ×
    (second y ≤ℤ (year_start y *ℤ pos 86_400 +ℤ base +ℤ pos 1_814_400))

-- a year in which a search begins, and a second that is counted from its start
abbrev pub IsSearchedYear : ℤ → Type 0
IsSearchedYear y = (neg_ℤ (pos 1_190_000) ≤ℤ y) × (y ≤ℤ pos 1_190_000)

abbrev pub IsFromStart : ℤ → Type 0
IsFromStart t = (neg_ℤ (pos 80_000_000_000_000) ≤ℤ t) × (t ≤ℤ pos 80_000_000_000_000)

-- a moment that a search comes to
abbrev pub IsSearched : ℤ → Type 0
IsSearched m = (neg_ℤ (pos 2_390_000) ≤ℤ m) × (m ≤ℤ pos 2_390_000)

-- the moment lies at or before the one second, and the next one after the other
abbrev pub IsLastMoment : Cycle → ℤ → ℤ → ℤ → Type 0
IsLastMoment c from until m = IsSearched m × (cycle_second c m ≤ℤ from) × (until <ℤ cycle_second c (m +ℤ pos 1))

-- a kind of local time holds at the wall clock: the gap or the fold before it has ended, and the next one has not started
abbrev pub IsSettled : Cycle → ℤ → TimeType → Type 0
IsSettled c local kind = (m : ℤ) × IsSearched m × ((cycle_second c m +ℤ high_offset c) ≤ℤ local)
    × (local <ℤ (cycle_second c (m +ℤ pos 1) +ℤ low_offset c)) × (kind ≡ cycle_type c (m +ℤ pos 1))

-- two moments of a cycle that follow one another fall together
abbrev pub Meets : Cycle → ℤ → Type 0
Meets c m = cycle_second c m ≡ cycle_second c (m +ℤ pos 1)

-- of the two kinds of local time of a cycle, the one after the second moment lasts no time in any year, or the other
abbrev pub KeepsFirst : Cycle → Type 0
KeepsFirst c = (y : ℤ) → Meets c (pos 2 *ℤ y +ℤ pos 1)

abbrev pub KeepsSecond : Cycle → Type 0
KeepsSecond c = (y : ℤ) → Meets c (pos 2 *ℤ y +ℤ pos 0)

-- the kind of local time that a cycle keeps all year, or none if it has both
abbrev pub IsOneType : Cycle → Option TimeType → Type 0
IsOneType c None = (KeepsFirst c → ⊥) × (KeepsSecond c → ⊥)
IsOneType c (Some found) = (KeepsFirst c × (found ≡ c.after_first)) ⊎ (KeepsSecond c × (found ≡ c.after_second))

-- moments moment_at from the year -1,199,500, before all seconds that zones know
abbrev pub moment_at : ℕ → ℤ
moment_at k = pos k -ℤ pos 2_399_000

abbrev pub Always : ℕ → Type 0
Always k = Unit {0}

abbrev pub second_at : Cycle → ℕ → ℤ
second_at c k = cycle_second c (moment_at k)

abbrev pub type_to : Cycle → ℕ → TimeType
type_to c k = cycle_type c (moment_at k)

abbrev pub offset_to : Cycle → ℕ → ℤ
offset_to c k = cycle_offset c (moment_at k)

-- the kind of local time at a second: that after the last moment at or before it
abbrev pub IsCycleType : Cycle → ℤ → TimeType → Type 0
IsCycleType c second found = IsTypeAt Always (second_at c) (type_to c) second found
