-- Wall clocks at offsets, and their instants.
use Rattle.std.proofs.Common.{◌≡◌, ℕ, sym, ap, ◌∙◌, arith, ℤ, pos, ◌+ℤ◌, ◌-ℤ◌, ◌*ℤ◌, FitsSigned, to_z, of_z, w32}
use Rattle.std.specs.Int.{w128}
use Rattle.std.proofs.lemmas.Int.{ints}
use Rattle.calendar_values.specs.Calendar.{day_of_ordinal_date, IsOrdinalDate}
use Rattle.calendar_values.specs.Clock.{IsClock}
use Rattle.calendar_values.specs.DayLemmas.{IsYear-year_of, year_of-ordinal_date}
use Rattle.calendar_values.specs.Durations.{IsDuration}
use Rattle.calendar_values.specs.Offsets.{IsOffset}
use Rattle.calendar_values.specs.Range.{IsYear}
use Rattle.calendar_values.specs.SignedArith.{signed_arith}
use Rattle.calendar_values.specs.WallClock.{wall_clock, IsWallClock}
use Rattle.calendar_values.specs.WallClockLemmas.{IsDay-wall_day, wall_day-wall_clock}
use Rattle.offset_times.specs.InstantLemmas.{shown_at-instant_of, local_at-instant_of}
use Rattle.offset_times.specs.Local.{Local, IsLocal, instant_of, wall_at, local_at, shown_at, offset_nanos}

-- clocks at the own offset show the own wall clock
pub shown_at-own : (at : Local) (o : ℤ) → at.offset ≡ o → shown_at (instant_of at) o ≡ at.wall
shown_at-own at o e = ap (λ (p : ℤ). shown_at (instant_of at) p) (sym e) ∙ shown_at-instant_of at

pub local_at-own : (at : Local) (o : ℤ) → at.offset ≡ o → local_at (instant_of at) o ≡ at
local_at-own at o e = ap (λ (p : ℤ). local_at (instant_of at) p) (sym e) ∙ local_at-instant_of at

-- a wall clock of the range is one of a year of the range
pub IsYear-wall_clock : (y : ℤ) (ordinal c : ℕ) → IsOrdinalDate y ordinal → IsClock c → IsWallClock (wall_clock (day_of_ordinal_date y ordinal) c) → IsYear y
IsYear-wall_clock y ordinal c date clock w =
    let day = IsDay-wall_day _ w in
    rw (year_of-ordinal_date y ordinal date) at (IsYear-year_of (day_of_ordinal_date y ordinal)
    (rw (wall_day-wall_clock (day_of_ordinal_date y ordinal) c clock) at day))

-- a wall clock and an offset of their ranges
pub IsLocal-fields : (at : Local) (day o : ℤ) (time : ℕ) → wall_at (wall_clock day time) o ≡ at
    → IsWallClock (wall_clock day time) × IsClock time × IsOffset o → IsLocal at
IsLocal-fields at day o time e h = rw (← e) (h.0, h.2)

-- the wall clocks lie apart by the instants and the offsets
pub instants_apart : (a b : Local) (walls offsets : ℤ) → walls ≡ a.wall -ℤ b.wall → offsets ≡ offset_nanos (b.offset -ℤ a.offset) →
    walls +ℤ offsets ≡ instant_of a -ℤ instant_of b
unfolding instant_of
instants_apart a b walls offsets e f = omega (arith, ints)

-- no further than durations reach
pub IsDuration-apart : (a b : Local) (walls offsets : ℤ) → IsLocal a → IsLocal b → walls ≡ a.wall -ℤ b.wall → offsets ≡ offset_nanos (b.offset -ℤ a.offset) →
    IsDuration (walls +ℤ offsets)
IsDuration-apart a b walls offsets h k e f = omega (arith, ints)

-- the nanoseconds of a wall clock less those of an offset, as they are cast
pub instant_of-nanos : (at : Local) (n o : ℤ) → IsLocal at → n ≡ at.wall → o ≡ at.offset → to_z w128 (of_z w128 (to_z w128 (of_z w128 n) -ℤ to_z w128
    (of_z w128 (to_z w128 (of_z w128 (to_z w32 (of_z w32 o))) *ℤ pos 1_000_000_000)))) ≡ instant_of at
unfolding instant_of
instant_of-nanos at n o h e f = omega (arith, signed_arith)

pub FitsSigned-nanos : (at : Local) (n o : ℤ) → IsLocal at → n ≡ at.wall → o ≡ at.offset → FitsSigned w128 (to_z w128 (of_z w128 n) -ℤ to_z w128
    (of_z w128 (to_z w128 (of_z w128 (to_z w32 (of_z w32 o))) *ℤ pos 1_000_000_000)))
FitsSigned-nanos at n o h e f = omega (arith, signed_arith)
