-- Laws of all wall clocks, offsets and durations: conversions, sums, replacements and truncations do as their names say.
-- A function of `src/laws.rt` proves each of them.
use Rattle.std.specs.Prelude.{◌≡◌, ℕ, ◌<◌, ◌≤◌, ℤ, ◌+ℤ◌, ◌-ℤ◌, ◌≤ℤ◌, Option, Some, SomeIff, Ok}
use Rattle.std.specs.Ordering.{int_cmp}
use Rattle.calendar_values.specs.Calendar.{year_of, month_of, day_of_month_of, ordinal_of}
use Rattle.calendar_values.specs.Clock.{hour_of, minute_of, second_of, millisecond_of, microsecond_of, nanosecond_of}
use Rattle.calendar_values.specs.Outcomes.{IsOneAnswer, within}
use Rattle.calendar_values.specs.WallClock.{IsWallClock, wall_day, wall_time}
use Rattle.offset_times.specs.Local.{Local, instant_of, shown_at, wall_at, local_at, at_offset_of, local_multiple_below}
use Rattle.plain_times.specs.Replacements.{wall_year_outcome, wall_month_outcome, wall_day_outcome, wall_ordinal_outcome}
use Rattle.plain_times.specs.Replacements.{wall_hour_outcome, wall_minute_outcome, wall_second_outcome}
use Rattle.plain_times.specs.Replacements.{wall_millisecond_outcome, wall_microsecond_outcome, wall_nanosecond_outcome}
use Rattle.plain_times.specs.Sums.{nearest_wall_clock}

-- after a conversion that succeeds, a second one returns the same as one conversion of the original:
-- the same wall clock and offset, or None
abbrev pub ConversionsCompose : Type 0
ConversionsCompose = (at first : Local) (a b : ℤ) (second : Option Local)
    → SomeIff (Some first) (IsWallClock (shown_at (instant_of at) a)) (local_at (instant_of at) a)
    → SomeIff second (IsWallClock (shown_at (instant_of first) b)) (local_at (instant_of first) b)
    → SomeIff second (IsWallClock (shown_at (instant_of at) b)) (local_at (instant_of at) b)

-- a conversion of a value to its own offset returns the value, even if its instant is out of range
abbrev pub OwnOffsetStays : Type 0
OwnOffsetStays = (at : Local) (converted : Option Local) → IsWallClock at.wall
    → SomeIff converted (IsWallClock (shown_at (instant_of at) at.offset)) (local_at (instant_of at) at.offset)
    → converted ≡ Some at

-- if a sum is in range, the sum minus the duration is the value again, with its offset
abbrev pub DifferencesUndoSums : Type 0
DifferencesUndoSums = (at sum : Local) (d : ℤ) (back : Option Local) → IsWallClock at.wall
    → SomeIff (Some sum) (IsWallClock (at.wall +ℤ d)) (wall_at (at.wall +ℤ d) at.offset)
    → SomeIff back (IsWallClock (sum.wall -ℤ d)) (wall_at (sum.wall -ℤ d) sum.offset)
    → back ≡ Some at

-- b plus the difference a - b is the instant of a at the offset of b, if the wall clock there is in range
pub record DifferencesLeadBack : Type 0 where
  pub sum : (a b : Local) (sum : Option Local) → IsWallClock (shown_at (instant_of a) b.offset)
      → (let wall = b.wall +ℤ (instant_of a -ℤ instant_of b) in SomeIff sum (IsWallClock wall) (wall_at wall b.offset))
      → sum ≡ Some (local_at (instant_of a) b.offset)
  pub instant : (a b : Local) → instant_of (local_at (instant_of a) b.offset) ≡ instant_of a

-- truncating twice to a unit is truncating once
abbrev pub TruncationsRoundDownOnce : Type 0
TruncationsRoundDownOnce =
    (unit : ℕ) (at : Local) → 0 < unit → local_multiple_below unit (local_multiple_below unit at) ≡ local_multiple_below unit at

-- sums with one duration keep the order of the values: those in range keep it exactly, and saturating ones at one offset
-- never reverse it
pub record SumsKeepTheOrder : Type 0 where
  pub accepted : (a b first second : Local) (d : ℤ) → SomeIff (Some first) (IsWallClock (a.wall +ℤ d)) (wall_at (a.wall +ℤ d) a.offset)
      → SomeIff (Some second) (IsWallClock (b.wall +ℤ d)) (wall_at (b.wall +ℤ d) b.offset)
      → int_cmp (instant_of first) (instant_of second) ≡ int_cmp (instant_of a) (instant_of b)
  pub saturating : (a b : Local) (d : ℤ) → a.offset ≡ b.offset → instant_of a ≤ℤ instant_of b
      → instant_of (at_offset_of a (nearest_wall_clock (a.wall +ℤ d))) ≤ℤ instant_of (at_offset_of b (nearest_wall_clock (b.wall +ℤ d)))

-- after a replacement that succeeds, the part of the wall clock has the given value
pub record ReplacedPartsReadAsGiven : Type 0 where
  pub year : (at v : Local) (y : ℤ) → (within (at_offset_of at) (wall_year_outcome at.wall y)).answer ≡ Ok v → year_of (wall_day v.wall) ≡ y
  pub month : (at v : Local) (m : ℕ) → 1 ≤ m → m ≤ 12 → (within (at_offset_of at) (wall_month_outcome at.wall m)).answer ≡ Ok v
      → month_of (wall_day v.wall) ≡ m
  pub day : (at v : Local) (d : ℕ) → (within (at_offset_of at) (wall_day_outcome at.wall d)).answer ≡ Ok v → day_of_month_of (wall_day v.wall) ≡ d
  pub ordinal : (at v : Local) (o : ℕ) → (within (at_offset_of at) (wall_ordinal_outcome at.wall o)).answer ≡ Ok v
      → ordinal_of (wall_day v.wall) ≡ o
  pub hour : (at v : Local) (h : ℕ) → (within (at_offset_of at) (wall_hour_outcome at.wall h)).answer ≡ Ok v → hour_of (wall_time v.wall) ≡ h
  pub minute : (at v : Local) (m : ℕ) → (within (at_offset_of at) (wall_minute_outcome at.wall m)).answer ≡ Ok v → minute_of (wall_time v.wall) ≡ m
  pub second : (at v : Local) (s : ℕ) → (within (at_offset_of at) (wall_second_outcome at.wall s)).answer ≡ Ok v → second_of (wall_time v.wall) ≡ s
  pub millisecond : (at v : Local) (n : ℕ) → (within (at_offset_of at) (wall_millisecond_outcome at.wall n)).answer ≡ Ok v
      → millisecond_of (wall_time v.wall) ≡ n
  pub microsecond : (at v : Local) (n : ℕ) → (within (at_offset_of at) (wall_microsecond_outcome at.wall n)).answer ≡ Ok v
      → microsecond_of (wall_time v.wall) ≡ n
  pub nanosecond : (at v : Local) (n : ℕ) → (within (at_offset_of at) (wall_nanosecond_outcome at.wall n)).answer ≡ Ok v
      → nanosecond_of (wall_time v.wall) ≡ n

-- after a sum in range, a second sum returns the same as one sum with both durations, with the same offset
abbrev pub SumsAssociate : Type 0
SumsAssociate = (at sum : Local) (d e : ℤ) (second both : Option Local)
    → SomeIff (Some sum) (IsWallClock (at.wall +ℤ d)) (wall_at (at.wall +ℤ d) at.offset)
    → SomeIff second (IsWallClock (sum.wall +ℤ e)) (wall_at (sum.wall +ℤ e) sum.offset)
    → SomeIff both (IsWallClock (at.wall +ℤ (d +ℤ e))) (wall_at (at.wall +ℤ (d +ℤ e)) at.offset)
    → second ≡ both

-- the outcome of each replacement is one answer: its value if the part is valid, and its error otherwise
pub record OutcomesAreAnswers : Type 0 where
  pub year : (at : Local) (y : ℤ) → IsOneAnswer (within (at_offset_of at) (wall_year_outcome at.wall y))
  pub month : (at : Local) (m : ℕ) → IsWallClock at.wall → IsOneAnswer (within (at_offset_of at) (wall_month_outcome at.wall m))
  pub day : (at : Local) (d : ℕ) → IsWallClock at.wall → IsOneAnswer (within (at_offset_of at) (wall_day_outcome at.wall d))
  pub ordinal : (at : Local) (o : ℕ) → IsWallClock at.wall → IsOneAnswer (within (at_offset_of at) (wall_ordinal_outcome at.wall o))
  pub hour : (at : Local) (h : ℕ) → IsOneAnswer (within (at_offset_of at) (wall_hour_outcome at.wall h))
  pub minute : (at : Local) (m : ℕ) → IsOneAnswer (within (at_offset_of at) (wall_minute_outcome at.wall m))
  pub second : (at : Local) (s : ℕ) → IsOneAnswer (within (at_offset_of at) (wall_second_outcome at.wall s))
  pub millisecond : (at : Local) (n : ℕ) → IsOneAnswer (within (at_offset_of at) (wall_millisecond_outcome at.wall n))
  pub microsecond : (at : Local) (n : ℕ) → IsOneAnswer (within (at_offset_of at) (wall_microsecond_outcome at.wall n))
  pub nanosecond : (at : Local) (n : ℕ) → IsOneAnswer (within (at_offset_of at) (wall_nanosecond_outcome at.wall n))
