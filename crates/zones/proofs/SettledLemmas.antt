-- Wall clocks that lie near no gap and no fold of a cycle.
use Rattle.std.proofs.Common.{ℤ, pos, ◌+ℤ◌, ◌-ℤ◌, ◌≤ℤ◌, List, Option, Some, None, refl, ap, arith}
use Rattle.std.proofs.lemmas.Int.{clamps}
use Rattle.std.specs.Prelude.{IfSome}
use Rattle.calendar_values.specs.SignedArith.{signed_arith, one_part}
use Rattle.zones.specs.declared.cycle.Cycle.{Cycle}
use Rattle.zones.specs.declared.local_instants.LocalInstants.TheVariants.{Single}
use Rattle.zones.specs.declared.tail.Tail.{Tail}
use Rattle.zones.specs.declared.time_type.TimeType.{TimeType}
use Rattle.zones.specs.declared.transition.Transition.{Transition}
use Rattle.zones.specs.Cycles.{moment_year, cycle_second, cycle_type, low_offset, IsSearched, IsSettled}
use Rattle.zones.specs.Ranges.{IsTailSecond}
use Rattle.zones.specs.Rules.{IsRuleYear}
use Rattle.zones.specs.Zones.{IsJoined, IsSettledOf, tail_second}
use Rattle.zones.proofs.RuleLemmas.{year_start_bounds}
use Rattle.zones.proofs.CycleLemmas.{second_bounds, highs}
use Rattle.zones.proofs.JoinedLemmas.{started_late, zone_runs}
use Rattle.zones.proofs.Sequences.{by_last}

-- what follows for each value, if there is one
pub some_map : {A : Type 0} (o : Option A) (P Q : A → Type 0) → ((x : A) → P x → Q x) → IfSome o P → IfSome o Q
some_map None P Q f h = tt
some_map (Some x) P Q f h = f x h

second_fits : (c : Cycle) (m : ℤ) → IsSearched m → IsTailSecond (cycle_second c m)
second_fits c m h =
    let low = h.0 in
    let high = h.1 in
    let year : IsRuleYear (moment_year m) = (omega (arith, signed_arith, one_part m), omega (arith, signed_arith, one_part m)) in
    let start = year_start_bounds (moment_year m) year in
    let s0 = start.0 in
    let s1 = start.1 in
    let at = second_bounds c m in
    let a0 = at.0 in
    let a1 = at.1 in
    (omega (arith, signed_arith), omega (arith, signed_arith))

-- such a wall clock is at one second
pub settled_in : (first : TimeType) (rows : List Transition) (tail : Tail) → IsJoined first rows tail → (local : ℤ) →
    (tail_second tail 0 +ℤ low_offset tail.cycle) ≤ℤ local → (kind : TimeType) → IsSettled tail.cycle local kind → IsSettledOf first rows (Some tail)
    local kind
settled_in first rows tail j local from kind s =
    let c = tail.cycle in
    let m = s.0 in
    let low = s.1.0 in
    let ended = s.2 in
    let ahead = s.3 in
    let found : Transition = record {
      second = cycle_second c m;
      before = cycle_type c m;
      after = cycle_type c (m +ℤ pos 1);
      second_in = second_fits c m s.1;
    } in
    let started = started_late first rows tail j local m from (omega (arith, signed_arith)) (omega (arith, signed_arith, clamps)) ahead found refl refl refl
    in
    let is = started.2 in
    let high = highs c m in
    let offset = ap (λ (t : TimeType). t.offset) s.4 in
    by_last (zone_runs first rows tail j) local found.second found.before.offset found.after.offset started.0 started.1 is.second
    (ap (λ (t : TimeType). t.offset) is.before) (ap (λ (t : TimeType). t.offset) is.after) (Single (local -ℤ kind.offset))
    (omega (arith, signed_arith), omega (arith, signed_arith))
