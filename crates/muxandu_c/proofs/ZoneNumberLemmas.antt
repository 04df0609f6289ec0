-- Tables of transitions as numbers.
use Rattle.std.proofs.Common.{◌≡◌, ◌<◌, ◌≤◌, ◌+◌, ◌∙◌, ℕ, List, length, take, set, inl, inr, sym, subst, refl, arith}
use Rattle.std.proofs.Common.{get_or-set_same, get_or-set_other}
use Rattle.std.proofs.lemmas.Bool.{cases_lt}
use Rattle.std.proofs.lemmas.List.{get_or-take, length-take-le}
use Rattle.zones.specs.Rules.{is_rule_day}
use Rattle.zones.specs.Tables.{row_at, no_row}
use Rattle.zones.specs.declared.rule_day.RuleDay.{RuleDay}
use Rattle.zones.specs.declared.rule_day.RuleDay.TheVariants as days
use Rattle.zones.specs.declared.transition.Transition.{Transition}
use Rattle.muxandu_c.specs.ZoneNumbers.{IsDayOf, IsTransitionOf, AreTransitionsOf, numbers_at, no_numbers}
use Rattle.muxandu_c.specs.declared.zone_numbers.MuxanduTransition.{MuxanduTransition}

-- each row so far, and one more
pub row_more : (table : List MuxanduTransition) (room : List Transition) (i : ℕ) (row : Transition) → i < length room
    → ((j : ℕ) → j < i → IsTransitionOf (numbers_at table j) (row_at room j)) → IsTransitionOf (numbers_at table i) row
    → (j : ℕ) → j < i + 1 → IsTransitionOf (numbers_at table j) (row_at (set room i row) j)
row_more table room i row low before here j lt =
    elim (cases_lt j i) [
      | inl less ↦
          subst (λ (r : Transition). IsTransitionOf (numbers_at table j) r) (sym (get_or-set_other room i j row no_row (omega (arith, less)))) (before j less)
      | inr le ↦
          let is : i ≡ j = omega (arith, le, lt) in
          subst (λ (k : ℕ). IsTransitionOf (numbers_at table k) (row_at (set room i row) k)) is
          (subst (λ (r : Transition). IsTransitionOf (numbers_at table i) r) (sym (get_or-set_same room i row no_row low)) here)
    ]

-- as many rows as the table has are its transitions
pub front_rows : (table : List MuxanduTransition) (room : List Transition) (n i : ℕ) → n ≡ length table → n ≡ i → n ≤ length room
    → ((j : ℕ) → j < i → IsTransitionOf (numbers_at table j) (row_at room j)) → AreTransitionsOf table (take n room)
front_rows table room n i e f le each = record {
  count = length-take-le n room le ∙ e;
  each = λ j lt.
      let less : j < n = omega (arith, lt, e) in
      let low : j < i = omega (arith, less, f) in
      subst (λ (r : Transition). IsTransitionOf (numbers_at table j) r) (sym (get_or-take n room j no_row less)) (each j low);
}

-- a rule can name both of two days with the same numbers, or none
pub days_alike : (kind month week weekday day : ℕ) (d e : RuleDay) → IsDayOf kind month week weekday day d → IsDayOf kind month week weekday day e
    → is_rule_day d ≡ is_rule_day e
days_alike kind month week weekday day (days.Weekday m w a) (days.Weekday n v b) p q =
    let same_week : w ≡ v = p.2 ∙ sym q.2 in
    let same_day : a ≡ b = p.3 ∙ sym q.3 in
    rw (same_week, same_day) refl
days_alike kind month week weekday day (days.Common m) (days.Common n) p q = let same : m ≡ n = p.1 ∙ sym q.1 in rw same refl
days_alike kind month week weekday day (days.Counted m) (days.Counted n) p q = let same : m ≡ n = p.1 ∙ sym q.1 in rw same refl
days_alike kind month week weekday day (days.Weekday m w a) (days.Common n) p q = absurd (omega (arith, p.0, q.0))
days_alike kind month week weekday day (days.Weekday m w a) (days.Counted n) p q = absurd (omega (arith, p.0, q.0))
days_alike kind month week weekday day (days.Common n) (days.Weekday m w a) p q = absurd (omega (arith, p.0, q.0))
days_alike kind month week weekday day (days.Common n) (days.Counted m) p q = absurd (omega (arith, p.0, q.0))
days_alike kind month week weekday day (days.Counted n) (days.Weekday m w a) p q = absurd (omega (arith, p.0, q.0))
days_alike kind month week weekday day (days.Counted n) (days.Common m) p q = absurd (omega (arith, p.0, q.0))

-- the numbers so far, and those of one more row
pub numbers_more : (table : List MuxanduTransition) (rows : List Transition) (i : ℕ) (numbers : MuxanduTransition) → i < length table
    → ((j : ℕ) → j < i → IsTransitionOf (numbers_at table j) (row_at rows j)) → IsTransitionOf numbers (row_at rows i)
    → (j : ℕ) → j < i + 1 → IsTransitionOf (numbers_at (set table i numbers) j) (row_at rows j)
numbers_more table rows i numbers low before here j lt =
    elim (cases_lt j i) [
      | inl less ↦
          subst (λ (t : MuxanduTransition). IsTransitionOf t (row_at rows j)) (sym (get_or-set_other table i j numbers no_numbers (omega (arith, less))))
          (before j less)
      | inr le ↦
          let is : i ≡ j = omega (arith, le, lt) in
          subst (λ (k : ℕ). IsTransitionOf (numbers_at (set table i numbers) k) (row_at rows k)) is
          (subst (λ (t : MuxanduTransition). IsTransitionOf t (row_at rows i)) (sym (get_or-set_same table i numbers no_numbers low)) here)
    ]

-- the numbers of all rows at the front of a table
pub front_numbers : (table : List MuxanduTransition) (rows : List Transition) (n i : ℕ) → n ≡ length rows → n ≡ i → n ≤ length table
    → ((j : ℕ) → j < i → IsTransitionOf (numbers_at table j) (row_at rows j)) → AreTransitionsOf (take n table) rows
front_numbers table rows n i e f le each =
    let same : length (take n table) ≡ n = length-take-le n table le in record {
      count = sym e ∙ sym same;
      each = λ j lt.
          let less : j < n = omega (arith, lt, same) in
          let low : j < i = omega (arith, less, f) in
          subst (λ (t : MuxanduTransition). IsTransitionOf t (row_at rows j)) (sym (get_or-take n table j no_numbers less)) (each j low);
    }
