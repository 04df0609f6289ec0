-- Transitions that are written to a list one after another.
use Rattle.std.proofs.Common.{◌≡◌, inl, inr, ℕ, ◌+◌, ◌≤◌, ◌<◌, ℤ, ◌≤ℤ◌, ◌<ℤ◌, List, length, set, Option, Some, None, sym, subst, ◌∙◌, arith}
use Rattle.std.proofs.lemmas.Bool.{cases_order}
use Rattle.std.proofs.lemmas.List.{get_or-set_same, get_or-set_other, length-set}
use Rattle.calendar_values.specs.SignedArith.{signed_arith}
use Rattle.zones.specs.declared.transition.Transition.{Transition}
use Rattle.zones.specs.Clocks.{IsPlace, IsTransition, Runs}
use Rattle.zones.specs.Tables.{row_at, no_row}
use Rattle.zones.specs.Zones.{ZoneParts, IsZone, HasTransition, zone_second, zone_type, IsNextTransition, AreWritten}
use Rattle.zones.proofs.Sequences.{has_down, place-unique, seconds_rise}
use Rattle.zones.proofs.ZoneLemmas.{zone_runs}

-- the transition at a place, or none if there is none
abbrev pub NextIs : ZoneParts → ℕ → Option Transition → Type 0
NextIs z k None = HasTransition z k → ⊥
NextIs z k (Some found) = HasTransition z k × IsTransition (zone_second z) (zone_type z) k found

pub next_is : (z : ZoneParts) (t : ℤ) (next : Option Transition) → IsNextTransition z t next
    → (k : ℕ) × IsPlace (HasTransition z) (zone_second z) t k × NextIs z k next
next_is z t None h = h
next_is z t (Some found) h = (h.0, h.1, (h.2, h.3))

-- the place of the second of a transition is the next one
place_after : {Has : ℕ → Type 0} {S O : ℕ → ℤ} → Runs Has S O → (j : ℕ) (t : ℤ) → t ≡ S j → Has j → IsPlace Has S t (j + 1)
place_after {Has} {S} {O} r j t e has = record {
  reached = λ i h.
      let same : j ≡ i = omega arith in
      let now : Has j × (S j ≤ℤ t) = (has, omega (arith, signed_arith)) in
      rw same at now;
  ahead = λ next. (let up = r.rises j next in omega (arith, signed_arith));
}

-- so the transition after a written one is at the next place
pub next_place : (z : ZoneParts) → IsZone z → (j : ℕ) (row : Transition) (next : Option Transition) → HasTransition z j
    → IsTransition (zone_second z) (zone_type z) j row → IsNextTransition z row.second next → NextIs z (j + 1) next
next_place z h j row next has is found =
    let at = next_is z row.second next found in
    let same = place-unique (zone_runs z h) row.second at.0 (j + 1) at.1 (place_after (zone_runs z h) j row.second is.second has) in
    subst (λ (k : ℕ). NextIs z k next) same at.2

pub one_written : (z : ZoneParts) (until : ℤ) (old new : List Transition) (p count : ℕ) (row : Transition) → AreWritten z until old new p count → count <
    length new
    → HasTransition z (p + count) → row.second ≤ℤ until → IsTransition (zone_second z) (zone_type z) (p + count) row
    → AreWritten z until old (set new count row) p (count + 1)
one_written z until old new p count row w room has late is =
    let size = length-set new count row in
    record {
      bound = omega arith;
      each = λ i l. elim (cases_order i count) [
        | inl same ↦
            let here : row_at (set new count row) count ≡ row = get_or-set_same new count row no_row room in
            let second = is.second in
            let now : HasTransition z (p + count) × (zone_second z (p + count) ≤ℤ until) × IsTransition (zone_second z) (zone_type z) (p + count)
            (row_at (set new count row) count) =
            (has, omega (arith, signed_arith), rw here is) in
            subst
            (λ (j : ℕ). HasTransition z (p + j) × (zone_second z (p + j) ≤ℤ until) × IsTransition (zone_second z) (zone_type z) (p + j)
            (row_at (set new count row) j))
            (sym same) now
        | inr (inl lt) ↦
            let other : row_at (set new count row) i ≡ row_at new i = get_or-set_other new count i row no_row (omega arith) in
            let was = w.each i lt in
            (was.0, was.1, rw other was.2)
        | inr (inr gt) ↦ absurd (omega arith)
      ];
      kept = λ i l.
          let other : row_at (set new count row) i ≡ row_at new i = get_or-set_other new count i row no_row (omega arith) in
          other ∙ w.kept i (omega arith);
    }

-- a transition at or after the place of a second comes after it
pub after_place : (z : ZoneParts) → IsZone z → (t : ℤ) (p j : ℕ) → IsPlace (HasTransition z) (zone_second z) t p → p ≤ j → HasTransition z j → t <ℤ
    zone_second z j
after_place z h t p j place le has =
    let r = zone_runs z h in
    let at_p : HasTransition z p = has_down (HasTransition z) r.down p j le has in
    let ahead = place.ahead at_p in
    let up = seconds_rise r p j le has in
    omega (arith, signed_arith)
