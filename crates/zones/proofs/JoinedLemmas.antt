-- A table and the cycle after it as one sequence.
use Rattle.std.proofs.Common.{◌≡◌, inl, inr, ℕ, ◌+◌, ◌-◌, ◌≤◌, ◌<◌, ℤ, pos, neg_ℤ, ◌+ℤ◌, ◌-ℤ◌, ◌≤ℤ◌, ◌<ℤ◌, List, [], length, Option, Some, None, refl}
use Rattle.std.proofs.Common.{sym, ap, subst, ◌∙◌, arith}
use Rattle.std.proofs.lemmas.Bool.{cases_order}
use Rattle.std.proofs.lemmas.Bool.Decides.{leb_tells}
use Rattle.std.proofs.lemmas.Int.{by_lt_z, clamps}
use Rattle.std.specs.Int.{int_min, int_max}
use borrow.Author.Differences.{up, down}
use Rattle.calendar_values.specs.SignedArith.{signed_arith, one_part}
use Rattle.zones.specs.declared.transition.Transition.{Transition}
use Rattle.zones.specs.declared.cycle.Cycle.{Cycle}
use Rattle.zones.specs.declared.tail.Tail.{Tail}
use Rattle.zones.specs.declared.time_type.TimeType.{TimeType}
use Rattle.zones.specs.Tables.{row_at, row_end, type_after, offset_after, table_second, InTable, IsForward}
use Rattle.zones.specs.Cycles.{RunsForward, Always, moment_at, cycle_second, cycle_type, moment_year, second_at, type_to, offset_to, low_offset}
use Rattle.zones.specs.Clocks.{IsPlace, IsTypeAt, IsTransition, IsLastBy, IsLast, IsLastStarted, IsNext, Runs, start, end}
use Rattle.zones.specs.Zones.{tail_place, tail_second, tail_type, tail_offset, joined_second, joined_type, IsFirstMoment, IsJoined, NeverJoined}
use Rattle.zones.proofs.RuleLemmas.{year_start_bounds}
use Rattle.zones.proofs.Sequences.{joined_low, joined_high, joined_upto, seconds_rise, starts_rise}
use Rattle.zones.proofs.TableLemmas.{table_runs, row_end_is}
use Rattle.zones.proofs.CycleLemmas.{far_back, second_bounds, cycle_runs, start_is, counted_next, place_is, start_place_is}

-- a place in the later of two sequences
pub later_place : (F Z : ℕ → ℤ) (n P k : ℕ) (t : ℤ) → ((i j : ℕ) → i ≤ j → F i ≤ℤ F j) → ((i j : ℕ) → i ≡ n + j → Z i ≡ F (P + j)) → F P ≤ℤ t → IsPlace
    Always F t k
    → (j : ℕ) × (k ≡ P + j + 1) × IsPlace Always Z t (n + j + 1)
later_place F Z n P k t rise is begun place = elim (leb_tells k P) [
  | inl before ↦
      let ahead = place.ahead tt in
      let up = rise k P before.1 in
      absurd (omega (arith, signed_arith))
  | inr after ↦
      let j = k - P - 1 in
      let e : k ≡ P + j + 1 = omega arith in
      let one = place.reached (P + j) (omega arith) in
      let reached = one.1 in
      let two = place.ahead tt in
      let z1 = is (n + j) j refl in
      let z2 = is (n + j + 1) (j + 1) (omega arith) in
      let f2 : F (P + (j + 1)) ≡ F k = ap F (omega arith) in (
        j,
        e,
        record {
          reached = λ i h.
              let same : n + j ≡ i = omega arith in
              let now : Z (n + j) ≤ℤ t = omega (arith, signed_arith) in
              (tt, rw same at now);
          ahead = λ h. omega (arith, signed_arith);
        },
      )
]

-- a place in the earlier one
pub earlier_place : (F Z : ℕ → ℤ) (n k : ℕ) (t : ℤ) → ((i : ℕ) → i < n → Z i ≡ F i) → t <ℤ Z n → k ≤ n → IsPlace (λ i. i < n) F t k → IsPlace Always Z t k
earlier_place F Z n k t is seam bound place = record {
  reached = λ i h.
      let one = (place.reached i h).1 in
      let z = is i (omega arith) in
      (tt, omega (arith, signed_arith));
  ahead = λ h. elim (cases_order k n) [
    | inl e ↦ (let z = ap Z e in omega (arith, signed_arith))
    | inr (inl lt) ↦ (let z = is k lt in let a = place.ahead lt in omega (arith, signed_arith))
    | inr (inr gt) ↦ absurd (omega arith)
  ];
}

-- the tail as a sequence
pub tail_start : (tail : Tail) (k : ℕ) → start (tail_second tail) (tail_offset tail) k ≡ start (second_at tail.cycle) (offset_to tail.cycle)
    (tail_place tail + k)
tail_start tail k =
    let next : tail_place tail + (k + 1) ≡ tail_place tail + k + 1 = omega arith in
    let o = ap (int_min (tail_offset tail k)) (ap (offset_to tail.cycle) next) in
    omega (arith, signed_arith)

pub tail_end : (tail : Tail) (k : ℕ) → end (tail_second tail) (tail_offset tail) k ≡ end (second_at tail.cycle) (offset_to tail.cycle) (tail_place tail + k)
tail_end tail k =
    let next : tail_place tail + (k + 1) ≡ tail_place tail + k + 1 = omega arith in
    let o = ap (int_max (tail_offset tail k)) (ap (offset_to tail.cycle) next) in
    omega (arith, signed_arith)

pub tail_runs : (tail : Tail) → RunsForward tail.cycle → Runs Always (tail_second tail) (tail_offset tail)
tail_runs tail f =
    let r = cycle_runs tail.cycle f in
    record {
      down = λ k h. tt;
      rises = λ k h.
          let next : tail_place tail + (k + 1) ≡ tail_place tail + k + 1 = omega arith in
          let s = ap (second_at tail.cycle) next in
          let up = r.rises (tail_place tail + k) tt in
          omega (arith, signed_arith);
      apart = λ k h.
          let next : tail_place tail + (k + 1) ≡ tail_place tail + k + 1 = omega arith in
          let one = tail_end tail k in
          let two = tail_start tail (k + 1) in
          let three = ap (start (second_at tail.cycle) (offset_to tail.cycle)) next in
          let a = r.apart (tail_place tail + k) tt in
          omega (arith, signed_arith);
    }

-- the kinds of local time of the parts, and their offsets
abbrev pub joined_offset : TimeType → List Transition → Tail → ℕ → ℤ
joined_offset first rows tail k = (joined_type first rows tail k).offset

pub type_low : (first : TimeType) (rows : List Transition) (tail : Tail) → IsJoined first rows tail → (k : ℕ) → k ≤ length rows → joined_type first rows
    tail k ≡ type_after first rows k
type_low first rows tail j k h = joined_upto (length rows) (type_after first rows) (tail_type tail) k j.meets h

pub type_high : (first : TimeType) (rows : List Transition) (tail : Tail) (k i : ℕ) → k ≡ length rows + i → joined_type first rows tail k ≡ tail_type tail i
type_high first rows tail k i e = joined_high (length rows) (type_after first rows) (tail_type tail) k i e

pub offset_low : (first : TimeType) (rows : List Transition) (tail : Tail) → IsJoined first rows tail → (k : ℕ) → k ≤ length rows → joined_offset first
    rows tail k ≡ offset_after first rows k
offset_low first rows tail j k h = ap (λ (t : TimeType). t.offset) (type_low first rows tail j k h)

pub offset_high : (first : TimeType) (rows : List Transition) (tail : Tail) (k i : ℕ) → k ≡ length rows + i → joined_offset first rows tail k ≡
    tail_offset tail i
offset_high first rows tail k i e = ap (λ (t : TimeType). t.offset) (type_high first rows tail k i e)

-- the gaps and folds of the parts
pub start_low : (first : TimeType) (rows : List Transition) (tail : Tail) → IsJoined first rows tail → (k : ℕ) → k < length rows → start
    (joined_second rows tail) (joined_offset first rows tail) k ≡ start (table_second rows) (offset_after first rows) k
start_low first rows tail j k h =
    let s = joined_low (length rows) (table_second rows) (tail_second tail) k h in
    let one = offset_low first rows tail j k (omega arith) in
    let two = offset_low first rows tail j (k + 1) (omega arith) in
    let o = ap (int_min (joined_offset first rows tail k)) two ∙ ap (λ (x : ℤ). int_min x (offset_after first rows (k + 1))) one in
    omega (arith, signed_arith)

pub end_low : (first : TimeType) (rows : List Transition) (tail : Tail) → IsJoined first rows tail → (k : ℕ) → k < length rows → end
    (joined_second rows tail) (joined_offset first rows tail) k ≡ end (table_second rows) (offset_after first rows) k
end_low first rows tail j k h =
    let s = joined_low (length rows) (table_second rows) (tail_second tail) k h in
    let one = offset_low first rows tail j k (omega arith) in
    let two = offset_low first rows tail j (k + 1) (omega arith) in
    let o = ap (int_max (joined_offset first rows tail k)) two ∙ ap (λ (x : ℤ). int_max x (offset_after first rows (k + 1))) one in
    omega (arith, signed_arith)

pub start_high : (first : TimeType) (rows : List Transition) (tail : Tail) (k i : ℕ) → k ≡ length rows + i → start (joined_second rows tail)
    (joined_offset first rows tail) k ≡ start (tail_second tail) (tail_offset tail) i
start_high first rows tail k i e =
    let s = joined_high (length rows) (table_second rows) (tail_second tail) k i e in
    let one = offset_high first rows tail k i e in
    let two = offset_high first rows tail (k + 1) (i + 1) (omega arith) in
    let o = ap (int_min (joined_offset first rows tail k)) two ∙ ap (λ (x : ℤ). int_min x (tail_offset tail (i + 1))) one in
    omega (arith, signed_arith)

pub end_high : (first : TimeType) (rows : List Transition) (tail : Tail) (k i : ℕ) → k ≡ length rows + i → end (joined_second rows tail)
    (joined_offset first rows tail) k ≡ end (tail_second tail) (tail_offset tail) i
end_high first rows tail k i e =
    let s = joined_high (length rows) (table_second rows) (tail_second tail) k i e in
    let one = offset_high first rows tail k i e in
    let two = offset_high first rows tail (k + 1) (i + 1) (omega arith) in
    let o = ap (int_max (joined_offset first rows tail k)) two ∙ ap (λ (x : ℤ). int_max x (tail_offset tail (i + 1))) one in
    omega (arith, signed_arith)

-- the wall clock where the first gap or fold of the tail starts
pub tail_begins : (tail : Tail) → start (tail_second tail) (tail_offset tail) 0 ≡ tail_second tail 0 +ℤ low_offset tail.cycle
tail_begins tail = tail_start tail 0 ∙ start_is tail.cycle (tail_place tail + 0)

-- the first moment of the tail
pub tail_begins_at : (first : TimeType) (rows : List Transition) (tail : Tail) → IsJoined first rows tail → moment_at (tail_place tail + 0) ≡ tail.moment
tail_begins_at first rows tail j =
    let zero : tail_place tail + 0 ≡ tail_place tail = omega arith in
    ap moment_at zero ∙ j.place

pub follows_of : (first : TimeType) (rows : List Transition) (tail : Tail) → IsJoined first rows tail → (k : ℕ) → k + 1 ≡ length rows → table_second rows
    k <ℤ tail_second tail 0
follows_of first rows tail j k e =
    let f = j.begins.follows k e in
    let here = ap (cycle_second tail.cycle) (tail_begins_at first rows tail j) in
    omega (arith, signed_arith)

pub zone_runs : (first : TimeType) (rows : List Transition) (tail : Tail) → IsJoined first rows tail → Runs Always (joined_second rows tail)
    (joined_offset first rows tail)
zone_runs first rows tail j =
    let r1 = table_runs first rows j.forward in
    let r2 = tail_runs tail j.runs in
    record {
      down = λ k h. tt;
      rises = λ k h. elim (cases_order (k + 1) (length rows)) [
        | inl at_end ↦
            let one = joined_low (length rows) (table_second rows) (tail_second tail) k (omega arith) in
            let two = joined_high (length rows) (table_second rows) (tail_second tail) (k + 1) 0 (omega arith) in
            let f = follows_of first rows tail j k at_end in
            omega (arith, signed_arith)
        | inr (inl lt) ↦
            let one = joined_low (length rows) (table_second rows) (tail_second tail) k (omega arith) in
            let two = joined_low (length rows) (table_second rows) (tail_second tail) (k + 1) lt in
            let up = r1.rises k lt in
            omega (arith, signed_arith)
        | inr (inr gt) ↦
            let i = k - length rows in
            let one = joined_high (length rows) (table_second rows) (tail_second tail) k i (omega arith) in
            let two = joined_high (length rows) (table_second rows) (tail_second tail) (k + 1) (i + 1) (omega arith) in
            let up = r2.rises i tt in
            omega (arith, signed_arith)
      ];
      apart = λ k h. elim (cases_order (k + 1) (length rows)) [
        | inl at_end ↦
            let one = end_low first rows tail j k (omega arith) in
            let two = start_high first rows tail (k + 1) 0 (omega arith) in
            let three = row_end_is first rows j.forward k (omega arith) in
            let four = tail_begins tail in
            let f = j.clear k at_end in
            omega (arith, signed_arith)
        | inr (inl lt) ↦
            let one = end_low first rows tail j k (omega arith) in
            let two = start_low first rows tail j (k + 1) lt in
            let a = r1.apart k lt in
            omega (arith, signed_arith)
        | inr (inr gt) ↦
            let i = k - length rows in
            let one = end_high first rows tail k i (omega arith) in
            let two = start_high first rows tail (k + 1) (i + 1) (omega arith) in
            let a = r2.apart i tt in
            omega (arith, signed_arith)
      ];
    }

-- places in a zone, by places in its parts
pub second_late : (first : TimeType) (rows : List Transition) (tail : Tail) → IsJoined first rows tail → (t : ℤ) (k : ℕ) → tail_second tail 0 ≤ℤ t →
    IsPlace Always (second_at tail.cycle) t k
    → (i : ℕ) × (k ≡ tail_place tail + i + 1) × IsPlace Always (joined_second rows tail) t (length rows + i + 1)
second_late first rows tail j t k begun place =
    let zero : tail_place tail + 0 ≡ tail_place tail = omega arith in
    let here = ap (second_at tail.cycle) zero in
    later_place (second_at tail.cycle) (joined_second rows tail) (length rows) (tail_place tail) k t
    (λ a b h. seconds_rise (cycle_runs tail.cycle j.runs) a b h tt)
    (λ a b e. joined_high (length rows) (table_second rows) (tail_second tail) a b e)
    (omega (arith, signed_arith)) place

pub start_late : (first : TimeType) (rows : List Transition) (tail : Tail) → IsJoined first rows tail → (local : ℤ) (k : ℕ) →
    (tail_second tail 0 +ℤ low_offset tail.cycle) ≤ℤ local → IsPlace Always (start (second_at tail.cycle) (offset_to tail.cycle)) local k
    → (i : ℕ) × (k ≡ tail_place tail + i + 1) × IsPlace Always (start (joined_second rows tail) (joined_offset first rows tail)) local (length rows + i + 1)
start_late first rows tail j local k begun place =
    let zero : tail_place tail + 0 ≡ tail_place tail = omega arith in
    let here = tail_begins tail in
    let there = tail_start tail 0 in
    let where_it_is = ap (start (second_at tail.cycle) (offset_to tail.cycle)) zero in
    later_place (start (second_at tail.cycle) (offset_to tail.cycle)) (start (joined_second rows tail) (joined_offset first rows tail)) (length rows)
    (tail_place tail) k local
    (λ a b h. starts_rise (cycle_runs tail.cycle j.runs) a b h tt)
    (λ a b e. start_high first rows tail a b e ∙ tail_start tail b)
    (omega (arith, signed_arith)) place

pub second_early : (first : TimeType) (rows : List Transition) (tail : Tail) → IsJoined first rows tail → (t : ℤ) (k : ℕ) → t <ℤ tail_second tail 0 → k ≤
    length rows → IsPlace (InTable rows) (table_second rows) t k → IsPlace Always (joined_second rows tail) t k
second_early first rows tail j t k before bound place =
    let seam = joined_high (length rows) (table_second rows) (tail_second tail) (length rows) 0 (omega arith) in
    earlier_place (table_second rows) (joined_second rows tail) (length rows) k t
    (λ i h. joined_low (length rows) (table_second rows) (tail_second tail) i h) (omega (arith, signed_arith)) bound place

pub start_early : (first : TimeType) (rows : List Transition) (tail : Tail) → IsJoined first rows tail → (local : ℤ) (k : ℕ) → local <ℤ
    (tail_second tail 0 +ℤ low_offset tail.cycle) → k ≤ length rows → IsPlace (InTable rows) (start (table_second rows) (offset_after first rows)) local k
    → IsPlace Always (start (joined_second rows tail) (joined_offset first rows tail)) local k
start_early first rows tail j local k before bound place =
    let seam = start_high first rows tail (length rows) 0 (omega arith) in
    let begins = tail_begins tail in
    earlier_place (start (table_second rows) (offset_after first rows)) (start (joined_second rows tail) (joined_offset first rows tail)) (length rows) k
    local (λ i h. start_low first rows tail j i h) (omega (arith, signed_arith)) bound place

-- a place among the rows of a table is at most its length
pub place_bound : (rows : List Transition) (key : ℕ → ℤ) (t : ℤ) (k : ℕ) → IsPlace (InTable rows) key t k → k ≤ length rows
place_bound rows key t k place = elim (leb_tells k 0) [
  | inl none ↦ omega arith
  | inr some ↦
      let e : k - 1 + 1 ≡ k = omega arith in
      let inside = (place.reached (k - 1) e).0 in
      omega arith
]

-- a transition of the table is one of the zone
pub row_joins : (first : TimeType) (rows : List Transition) (tail : Tail) → IsJoined first rows tail → (k : ℕ) → k < length rows → (found : Transition) →
    IsTransition (table_second rows) (type_after first rows) k found
    → IsTransition (joined_second rows tail) (joined_type first rows tail) k found
row_joins first rows tail j k h found is = record {
  second = is.second ∙ sym (joined_low (length rows) (table_second rows) (tail_second tail) k h);
  before = is.before ∙ sym (type_low first rows tail j k (omega arith));
  after = is.after ∙ sym (type_low first rows tail j (k + 1) (omega arith));
}

-- a moment of the cycle, too
pub moment_joins : (first : TimeType) (rows : List Transition) (tail : Tail) (i : ℕ) (m : ℤ) → moment_at (tail_place tail + i) ≡ m → (found : Transition)
    → found.second ≡ cycle_second tail.cycle m
    → found.before ≡ cycle_type tail.cycle m → found.after ≡ cycle_type tail.cycle (m +ℤ pos 1) → IsTransition (joined_second rows tail)
    (joined_type first rows tail) (length rows + i) found
moment_joins first rows tail i m e found second before after =
    let n = length rows in
    let next : moment_at (tail_place tail + (i + 1)) ≡ m +ℤ pos 1 = omega (arith, signed_arith) in
    record {
      second = second ∙ ap (cycle_second tail.cycle) (sym e) ∙ sym (joined_high n (table_second rows) (tail_second tail) (n + i) i refl);
      before = before ∙ ap (cycle_type tail.cycle) (sym e) ∙ sym (type_high first rows tail (n + i) i refl);
      after = after ∙ ap (cycle_type tail.cycle) (sym next) ∙ sym (type_high first rows tail (n + i + 1) (i + 1) (omega arith));
    }

-- the kind of local time before the cycle, and in it
pub type_early : (first : TimeType) (rows : List Transition) (tail : Tail) → IsJoined first rows tail → (t : ℤ) (found : TimeType) → t <ℤ tail_second tail
    0 → IsTypeAt (InTable rows) (table_second rows) (type_after first rows) t found
    → IsTypeAt Always (joined_second rows tail) (joined_type first rows tail) t found
type_early first rows tail j t found before is =
    let bound = place_bound rows (table_second rows) t is.0 is.1 in
    (is.0, second_early first rows tail j t is.0 before bound is.1, is.2 ∙ sym (type_low first rows tail j is.0 bound))

pub type_late : (first : TimeType) (rows : List Transition) (tail : Tail) → IsJoined first rows tail → (t : ℤ) (found : TimeType) → tail_second tail 0 ≤ℤ
    t → IsTypeAt Always (second_at tail.cycle) (type_to tail.cycle) t found
    → IsTypeAt Always (joined_second rows tail) (joined_type first rows tail) t found
type_late first rows tail j t found begun is =
    let n = length rows in
    let p = second_late first rows tail j t is.0 begun is.1 in
    let i = p.0 in
    let pk = p.1 in
    let same : is.0 ≡ tail_place tail + (i + 1) = omega arith in
    (n + i + 1, p.2, is.2 ∙ ap (type_to tail.cycle) same ∙ sym (type_high first rows tail (n + i + 1) (i + 1) (omega arith)))

-- the last transition before the cycle, by a key that both have there
pub last_early : (first : TimeType) (rows : List Transition) (tail : Tail) → IsJoined first rows tail → (key whole : ℕ → ℤ) (t : ℤ) →
    ((k : ℕ) → k ≤ length rows → IsPlace (InTable rows) key t k → IsPlace Always whole t k) → (found : Option Transition)
    → IsLastBy (InTable rows) key (table_second rows) (type_after first rows) t found → IsLastBy Always whole (joined_second rows tail)
    (joined_type first rows tail) t found
last_early first rows tail j key whole t early None is = early 0 (omega arith) is
last_early first rows tail j key whole t early (Some found) is =
    let bound = place_bound rows key t (is.0 + 1) is.1 in
    (is.0, early (is.0 + 1) bound is.1, row_joins first rows tail j is.0 (omega arith) found is.2)

-- the first transition after a second before the cycle, where the table has one
pub next_early : (first : TimeType) (rows : List Transition) (tail : Tail) → IsJoined first rows tail → (t : ℤ) → t <ℤ tail_second tail 0 →
    (found : Transition) → IsNext (InTable rows) (table_second rows) (type_after first rows) t (Some found)
    → IsNext Always (joined_second rows tail) (joined_type first rows tail) t (Some found)
next_early first rows tail j t before found is =
    let inside = is.2 in
    (is.0, second_early first rows tail j t is.0 before (omega arith) is.1, tt, row_joins first rows tail j is.0 inside found is.3)

-- and where it has none
pub next_at_seam : (first : TimeType) (rows : List Transition) (tail : Tail) → IsJoined first rows tail → (t : ℤ) → t <ℤ tail_second tail 0 → IsNext
    (InTable rows) (table_second rows) (type_after first rows) t None → (found : Transition)
    → found.second ≡ cycle_second tail.cycle tail.moment → found.before ≡ cycle_type tail.cycle tail.moment → found.after ≡ cycle_type tail.cycle
    (tail.moment +ℤ pos 1)
    → IsNext Always (joined_second rows tail) (joined_type first rows tail) t (Some found)
next_at_seam first rows tail j t before is found second early after =
    let k = is.0 in
    let n = length rows in
    let bound = place_bound rows (table_second rows) t k is.1 in
    let e : k ≡ n + 0 = elim (cases_order k n) [
      | inl same ↦ omega arith
      | inr (inl lt) ↦ absurd (is.2 lt)
      | inr (inr gt) ↦ absurd (omega arith)
    ] in
    let here : IsPlace Always (joined_second rows tail) t (n + 0) = rw e at (second_early first rows tail j t k before bound is.1) in
    let zero : tail_place tail + 0 ≡ tail_place tail = omega arith in
    (n + 0, here, tt, moment_joins first rows tail 0 tail.moment (ap moment_at zero ∙ j.place) found second early after)

-- the transitions about a second in the cycle, by the last moment at or before it
pub last_late : (first : TimeType) (rows : List Transition) (tail : Tail) → IsJoined first rows tail → (t m : ℤ) → tail_second tail 0 ≤ℤ t → neg_ℤ
    (pos 2_399_000) ≤ℤ m → cycle_second tail.cycle m ≤ℤ t → t <ℤ cycle_second tail.cycle (m +ℤ pos 1) → (found : Transition)
    → found.second ≡ cycle_second tail.cycle m → found.before ≡ cycle_type tail.cycle m → found.after ≡ cycle_type tail.cycle (m +ℤ pos 1)
    → IsLast Always (joined_second rows tail) (joined_type first rows tail) t (Some found)
last_late first rows tail j t m from low begun ahead found second before after =
    let n1 = up m + 2_399_000 - down m in
    let e : moment_at n1 ≡ m = omega (arith, signed_arith) in
    let p = second_late first rows tail j t (n1 + 1) from (place_is tail.cycle m t n1 e begun ahead) in
    let i = p.0 in
    let pk = p.1 in
    let same : tail_place tail + i ≡ n1 = omega arith in
    (length rows + i, p.2, moment_joins first rows tail i m (ap moment_at same ∙ e) found second before after)

pub next_late : (first : TimeType) (rows : List Transition) (tail : Tail) → IsJoined first rows tail → (t m : ℤ) → tail_second tail 0 ≤ℤ t → neg_ℤ
    (pos 2_399_000) ≤ℤ m → cycle_second tail.cycle m ≤ℤ t → t <ℤ cycle_second tail.cycle (m +ℤ pos 1) → (found : Transition)
    → found.second ≡ cycle_second tail.cycle (m +ℤ pos 1) → found.before ≡ cycle_type tail.cycle (m +ℤ pos 1) → found.after ≡ cycle_type tail.cycle
    (m +ℤ pos 1 +ℤ pos 1)
    → IsNext Always (joined_second rows tail) (joined_type first rows tail) t (Some found)
next_late first rows tail j t m from low begun ahead found second before after =
    let n1 = up m + 2_399_000 - down m in
    let e : moment_at n1 ≡ m = omega (arith, signed_arith) in
    let p = second_late first rows tail j t (n1 + 1) from (place_is tail.cycle m t n1 e begun ahead) in
    let i = p.0 in
    let pk = p.1 in
    let same : tail_place tail + (i + 1) ≡ n1 + 1 = omega arith in
    let at : length rows + (i + 1) ≡ length rows + i + 1 = omega arith in
    let here : IsPlace Always (joined_second rows tail) t (length rows + (i + 1)) = rw at p.2 in (
      length rows + (i + 1),
      here,
      tt,
      moment_joins first rows tail (i + 1) (m +ℤ pos 1)
          (ap moment_at same ∙ counted_next n1 ∙ ap (λ (z : ℤ). z +ℤ pos 1) e) found second before after,
    )

-- the last gap or fold that has started in the cycle
pub started_late : (first : TimeType) (rows : List Transition) (tail : Tail) → IsJoined first rows tail → (local m : ℤ) →
    (tail_second tail 0 +ℤ low_offset tail.cycle) ≤ℤ local → neg_ℤ (pos 2_399_000) ≤ℤ m
    → (cycle_second tail.cycle m +ℤ low_offset tail.cycle) ≤ℤ local → local <ℤ (cycle_second tail.cycle (m +ℤ pos 1) +ℤ low_offset tail.cycle) →
    (found : Transition)
    → found.second ≡ cycle_second tail.cycle m → found.before ≡ cycle_type tail.cycle m → found.after ≡ cycle_type tail.cycle (m +ℤ pos 1)
    → IsLastStarted Always (joined_second rows tail) (joined_type first rows tail) local (Some found)
started_late first rows tail j local m from low begun ahead found second before after =
    let n1 = up m + 2_399_000 - down m in
    let e : moment_at n1 ≡ m = omega (arith, signed_arith) in
    let p = start_late first rows tail j local (n1 + 1) from (start_place_is tail.cycle m local n1 e begun ahead) in
    let i = p.0 in
    let pk = p.1 in
    let same : tail_place tail + i ≡ n1 = omega arith in
    (length rows + i, p.2, moment_joins first rows tail i m (ap moment_at same ∙ e) found second before after)

-- two moments of a cycle that runs forward, by their numbers
moments_rise : (c : Cycle) → RunsForward c → (m n : ℤ) → neg_ℤ (pos 2_399_000) ≤ℤ m → m ≤ℤ n → cycle_second c m ≤ℤ cycle_second c n
moments_rise c f m n low le =
    let a = up m + 2_399_000 - down m in
    let b = up n + 2_399_000 - down n in
    let ea : moment_at a ≡ m = omega (arith, signed_arith) in
    let eb : moment_at b ≡ n = omega (arith, signed_arith) in
    let sa = ap (cycle_second c) ea in
    let sb = ap (cycle_second c) eb in
    let r = seconds_rise (cycle_runs c f) a b (omega (arith, signed_arith)) tt in
    omega (arith, signed_arith)

-- the first moment after a table is one
pub first_moment-unique : (rows : List Transition) (c : Cycle) → RunsForward c → (m n : ℤ) → neg_ℤ (pos 2_399_000) ≤ℤ m → neg_ℤ (pos 2_399_000) ≤ℤ n →
    IsFirstMoment rows c m → IsFirstMoment rows c n → m ≡ n
first_moment-unique rows c f m n low_m low_n hm hn = elim (leb_tells (length rows) 0) [
  | inl none ↦ hm.at_first (omega arith) ∙ sym (hn.at_first (omega arith))
  | inr some ↦
      let k = length rows - 1 in
      let e : k + 1 ≡ length rows = omega arith in
      let m1 = hm.at_once k e in
      let m2 = hm.follows k e in
      let n1 = hn.at_once k e in
      let n2 = hn.follows k e in
      by_lt_z m n
      (λ lt. let r = moments_rise c f m (n -ℤ pos 1) low_m (omega (arith, signed_arith)) in absurd (omega (arith, signed_arith)))
      (λ ge. by_lt_z n m
      (λ gt. let r = moments_rise c f n (m -ℤ pos 1) low_n (omega (arith, signed_arith)) in absurd (omega (arith, signed_arith)))
      (λ le. omega (arith, signed_arith)))
]

-- what a tail that goes on from the table has at its first moment
pub joined_at : (first : TimeType) (rows : List Transition) (c : Cycle) (m : ℤ) → neg_ℤ (pos 2_399_000) ≤ℤ m → IsFirstMoment rows c m → (tail : Tail) →
    tail.cycle ≡ c → IsJoined first rows tail
    → (type_after first rows (length rows) ≡ cycle_type c m) ×
    ((k : ℕ) → k + 1 ≡ length rows → row_end (row_at rows k) ≤ℤ (cycle_second c m +ℤ low_offset c))
joined_at first rows c m low h tail e j =
    let f = subst RunsForward e j.runs in
    let begins = subst (λ (d : Cycle). IsFirstMoment rows d tail.moment) e j.begins in
    let in_range = tail.moment_in in
    let same = first_moment-unique rows c f tail.moment m (omega (arith, signed_arith)) low begins h in
    let at = tail_begins_at first rows tail j ∙ same in
    let s = ap (cycle_second tail.cycle) at ∙ ap (λ (d : Cycle). cycle_second d m) e in
    let t = ap (cycle_type tail.cycle) at ∙ ap (λ (d : Cycle). cycle_type d m) e in
    let l = ap low_offset e in
    (j.meets ∙ t, λ k last. let clear = j.clear k last in omega (arith, signed_arith))

-- the record of a tail
pub tail_joined : (first : TimeType) (rows : List Transition) (tail : Tail) → IsForward first rows → RunsForward tail.cycle → IsFirstMoment rows
    tail.cycle tail.moment → type_after first rows (length rows) ≡ cycle_type tail.cycle tail.moment
    → ((k : ℕ) → k + 1 ≡ length rows → row_end (row_at rows k) ≤ℤ (cycle_second tail.cycle tail.moment +ℤ low_offset tail.cycle)) → tail.from ≡
    cycle_second tail.cycle tail.moment
    → tail.from_local ≡ cycle_second tail.cycle tail.moment +ℤ low_offset tail.cycle → IsJoined first rows tail
tail_joined first rows tail forward runs begins meets clear from from_local =
    let in_range = tail.moment_in in
    let place : moment_at (tail_place tail) ≡ tail.moment = omega (arith, signed_arith) in
    let zero : tail_place tail + 0 ≡ tail_place tail = omega arith in
    let at = ap moment_at zero ∙ place in
    let s = ap (cycle_second tail.cycle) at in
    record {
      forward = forward;
      runs = runs;
      place = place;
      begins = begins;
      meets = meets ∙ sym (ap (cycle_type tail.cycle) at);
      clear = λ k e. (let h = clear k e in omega (arith, signed_arith));
      from_is = omega (arith, signed_arith);
      from_local_is = omega (arith, signed_arith);
    }

-- a table without rows runs forward
pub none_forward : (first : TimeType) → IsForward first []
none_forward first = record {
  in_range = λ k h. absurd (none k h);
  goes_on = λ k h. absurd (none k h);
  rises = λ k h. absurd (none (k + 1) h);
  apart = λ k h. absurd (none (k + 1) h);
} where
  none : (k : ℕ) → k < 0 → ⊥
  none k h = omega arith

-- a rule that runs forward goes on from it
pub rule_joins : (c : Cycle) → RunsForward c → NeverJoined (cycle_type c (neg_ℤ (pos 2_390_000))) [] c → ⊥
rule_joins c f never = never tail refl
    (tail_joined (cycle_type c m) [] tail (none_forward (cycle_type c m)) f begins refl (λ k e. absurd (none k e)) refl refl) where
      m : ℤ
      m = neg_ℤ (pos 2_390_000)

      none : (k : ℕ) → k + 1 ≡ 0 → ⊥
      none k e = omega arith

      bounds : (neg_ℤ (pos 39_000_000_000_000) ≤ℤ cycle_second c m) × (cycle_second c m ≤ℤ pos 0)
      bounds =
          let y : moment_year m ≡ neg_ℤ (pos 1_195_000) = omega (arith, signed_arith, one_part m) in
          let s = year_start_bounds (moment_year m) (omega (arith, signed_arith), omega (arith, signed_arith)) in
          let low = (second_bounds c m).0 in
          let far = far_back c m (omega (arith, signed_arith)) in
          let s0 = s.0 in
          (omega (arith, signed_arith), omega (arith, signed_arith))

      lowest : (neg_ℤ (pos 93_599) ≤ℤ low_offset c) × (low_offset c ≤ℤ pos 93_599)
      lowest =
          let a = c.after_first.offset_in in
          let b = c.after_second.offset_in in
          (omega (arith, signed_arith, clamps), omega (arith, signed_arith, clamps))

      tail : Tail
      tail = record {
        cycle = c;
        moment = m;
        from = cycle_second c m;
        from_local = cycle_second c m +ℤ low_offset c;
        moment_in = (omega (arith, signed_arith), omega (arith, signed_arith));
        from_in = (let b = bounds in let b0 = b.0 in let b1 = b.1 in (omega (arith, signed_arith), omega (arith, signed_arith)));
        from_local_in = (let b = bounds in let b0 = b.0 in let b1 = b.1 in let l = lowest in let l0 = l.0 in let l1 = l.1 in
            (omega (arith, signed_arith), omega (arith, signed_arith)));
      }

      begins : IsFirstMoment [] c m
      begins = record {
        at_first = λ e. refl;
        at_once = λ k e. absurd (none k e);
        follows = λ k e. absurd (none k e);
      }
