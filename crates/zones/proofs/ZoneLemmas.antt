-- Zones: the clocks of a table alone and those of a table and a cycle in one.
use Rattle.std.proofs.Common.{◌≡◌, ◌+◌, ℤ, ◌-ℤ◌, List, Option, Some, None, refl, sym, ap, subst, arith}
use Rattle.calendar_values.specs.SignedArith.{signed_arith}
use Rattle.zones.specs.declared.time_type.TimeType.{TimeType}
use Rattle.zones.specs.declared.transition.Transition.{Transition}
use Rattle.zones.specs.declared.tail.Tail.{Tail}
use Rattle.zones.specs.declared.local_instants.LocalInstants.{LocalInstants}
use Rattle.zones.specs.declared.local_instants.LocalInstants.TheVariants.{Single, Gap, Fold}
use Rattle.zones.specs.Choices.{first_of as first_found}
use Rattle.zones.specs.Clocks.{Runs, IsBy, FirstBy}
use Rattle.zones.specs.Ranges.{IsNear}
use Rattle.zones.specs.Zones.{ZoneParts, IsZone, IsZoneOf, HasOf, HasTransition, seconds_of, zone_second, types_of, zone_type, zone_offset, IsZoneInstants}
use Rattle.zones.specs.Zones.{IsZoneFirst, IsStartedTransition}
use Rattle.zones.proofs.Sequences.{before_all, by_last, first_before_all, first_by_last}
use Rattle.zones.proofs.TableLemmas.{table_runs}
use Rattle.zones.proofs.JoinedLemmas.{zone_runs as joined_runs, type_low}

runs_of : (first : TimeType) (rows : List Transition) (tail : Option Tail) → IsZoneOf first rows tail → Runs (HasOf rows tail) (seconds_of rows tail)
    (λ k. (types_of first rows tail k).offset)
runs_of first rows None h = table_runs first rows h
runs_of first rows (Some tail) h = joined_runs first rows tail h

-- the transitions of a zone run forward
pub zone_runs : (z : ZoneParts) → IsZone z → Runs (HasTransition z) (zone_second z) (zone_offset z)
zone_runs z h = runs_of z.first z.rows z.tail h

first_of : (first : TimeType) (rows : List Transition) (tail : Option Tail) → IsZoneOf first rows tail → types_of first rows tail 0 ≡ first
first_of first rows None h = refl
first_of first rows (Some tail) h = type_low first rows tail h 0 (omega arith)

-- before the first of them
pub zone_first : (z : ZoneParts) → IsZone z → zone_type z 0 ≡ z.first
zone_first z h = first_of z.first z.rows z.tail h

-- the instants of a wall clock, by the last gap or fold that has started
pub before_started : (z : ZoneParts) → IsZone z → (local t : ℤ) → IsStartedTransition z local None → t ≡ local -ℤ z.first.offset → IsZoneInstants z local
    (Single t)
before_started z h local t started is =
    let o = ap (λ (k : TimeType). k.offset) (zone_first z h) in
    before_all (zone_runs z h) local t started (omega (arith, signed_arith))

pub after_started : (z : ZoneParts) → IsZone z → (local : ℤ) (row : Transition) (found : LocalInstants) → IsStartedTransition z local (Some row) → IsBy
    row.second row.before.offset row.after.offset local found → IsZoneInstants z local found
after_started z h local row found started by =
    let tr = started.2 in
    by_last (zone_runs z h) local row.second row.before.offset row.after.offset started.0 started.1 tr.second (ap (λ (k : TimeType). k.offset) tr.before)
    (ap (λ (k : TimeType). k.offset) tr.after) found by

-- the first second at which clocks show a wall clock or a later one, by the last gap or fold that has started
pub first_before : (z : ZoneParts) → IsZone z → (local t : ℤ) → IsStartedTransition z local None → t ≡ local -ℤ z.first.offset → IsZoneFirst z local t
first_before z h local t started is =
    let o = ap (λ (k : TimeType). k.offset) (zone_first z h) in
    first_before_all (zone_runs z h) local t started (omega (arith, signed_arith))

pub first_after_started : (z : ZoneParts) → IsZone z → (local t : ℤ) (row : Transition) → IsStartedTransition z local (Some row) → FirstBy row local t →
    IsZoneFirst z local t
first_after_started z h local t row started by =
    let tr = started.2 in
    let first = first_by_last (zone_runs z h) local row.second row.before.offset row.after.offset started.0 started.1 tr.second
    (ap (λ (k : TimeType). k.offset) tr.before) (ap (λ (k : TimeType). k.offset) tr.after) by.0 by.1 in
    subst (λ (s : ℤ). IsZoneFirst z local s) (sym by.2) first

-- that second differs from the wall clock by an offset at most
near_first : (z : ZoneParts) (local t : ℤ) (found : LocalInstants) → IsZoneInstants z local found → t ≡ first_found found → IsNear local t
near_first z local t (Single s) is e =
    let offset = (zone_type z is.0.0).offset_in in
    let shown = is.0.1.shown in
    (omega (arith, signed_arith), omega (arith, signed_arith))
near_first z local t (Gap s u v) is e =
    let after = (zone_type z (is.1.0 + 1)).offset_in in
    let before = (zone_type z is.1.0).offset_in in
    let a = is.1.2 in
    let b = is.1.3 in
    let less = is.1.5 in
    let most = is.1.6 in
    (omega (arith, signed_arith), omega (arith, signed_arith))
near_first z local t (Fold s u) is e =
    let offset = (zone_type z is.1.0).offset_in in
    let shown = is.1.1.shown in
    (omega (arith, signed_arith), omega (arith, signed_arith))

pub near_started : (z : ZoneParts) → IsZone z → (local t : ℤ) (row : Transition) → IsStartedTransition z local (Some row) → FirstBy row local t →
    IsNear local t
near_started z h local t row started by = near_first z local t by.0 (after_started z h local row by.0 started by.1) by.2
