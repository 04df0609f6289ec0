-- Any logs have a merge.
use Rattle.std.proofs.Common.{◌≡◌, ◌≢◌, ◌⊎◌, ℕ, zero, suc, ◌+◌, ◌<◌, ◌≤◌, nat_eq, true, false, List, [], ◌∷◌, length, drop, refl, sym, ap, subst, ◌∙◌}
use Rattle.std.proofs.Common.{inl, inr, arith}
use Rattle.std.proofs.lemmas.Bool.{cases_Bool, cases_lt, eqb-true}
use Rattle.std.proofs.lemmas.Bool.Decides.{nat_tests}
use Rattle.line_merges.proofs.MergeLemmas.{behind-other, behind-rest}
use Rattle.line_merges.proofs.OrderLemmas.{before-self, before-not_after, before-trans, not_after-trans}
use Rattle.line_merges.specs.Instants.{is_before}
use Rattle.line_merges.specs.Lines.{Line}
use Rattle.line_merges.specs.Merges.{IsFirst, IsMerge, behind}

-- the lines of the first n logs
total : ℕ → (ℕ → List Line) → ℕ
total zero logs = 0
total (suc n) logs = total n logs + length (logs n)

-- the first line of the first n logs
record FirstBelow (n : ℕ) (logs : ℕ → List Line) : Type 0 where
  k : ℕ
  line : Line
  rest : List Line
  within : k < n
  has : logs k ≡ line ∷ rest
  least : (j : ℕ) (other : Line) (more : List Line) → j < n → logs j ≡ other ∷ more → is_before other.instant line.instant ≡ false
  first : (j : ℕ) (other : Line) (more : List Line) → j < k → logs j ≡ other ∷ more → is_before line.instant other.instant ≡ true

abbrev NoneBelow : ℕ → (ℕ → List Line) → Type 0
NoneBelow n logs = (j : ℕ) → j < n → logs j ≡ []

below : (P : ℕ → Type 0) (n : ℕ) → P n → ((j : ℕ) → j < n → P j) → (j : ℕ) → j < suc n → P j
below P n here rest j low =
    elim (cases_Bool (nat_eq j n)) [
      | inl t ↦ subst P (sym (eqb-true j n t)) here
      | inr t ↦ let lower : j < n = grind (arith, nat_tests) in rest j lower
    ]

same_line : (x y : Line) (xs ys : List Line) → x ∷ xs ≡ y ∷ ys → x ≡ y
same_line x y xs ys e = cc

-- with one more log that has a line
with_line : (n : ℕ) (logs : ℕ → List Line) (line : Line) (rest : List Line) → logs n ≡ line ∷ rest → FirstBelow n logs ⊎ NoneBelow n logs
    → FirstBelow (suc n) logs
with_line n logs line rest e (inr none) = record {
  k = n;
  line = line;
  rest = rest;
  within = omega arith;
  has = e;
  least = λ j other more low f.
      below (λ z. (other : Line) (more : List Line) → logs z ≡ other ∷ more → is_before other.instant line.instant ≡ false) n
      (λ other more f. subst (λ (z : Line). is_before z.instant line.instant ≡ false) (same_line line other rest more (sym e ∙ f)) (before-self line.instant))
      (λ j low other more f. let no = sym (none j low) ∙ f in absurd cc) j low other more f;
  first = λ j other more low f. let no = sym (none j low) ∙ f in absurd cc;
}
with_line n logs line rest e (inl h) =
    elim (cases_Bool (is_before line.instant h.line.instant)) [
      | inl better ↦ record {
        k = n;
        line = line;
        rest = rest;
        within = omega arith;
        has = e;
        least = λ j other more low f.
            below (λ z. (other : Line) (more : List Line) → logs z ≡ other ∷ more → is_before other.instant line.instant ≡ false) n
            (λ other more f. subst (λ (z : Line). is_before z.instant line.instant ≡ false) (same_line line other rest more (sym e
            ∙ f)) (before-self line.instant))
            (λ j low other more f. not_after-trans line.instant h.line.instant other.instant (before-not_after line.instant h.line.instant better)
            (h.least j other more low f))
            j low other more f;
        first = λ j other more low f. before-trans line.instant h.line.instant other.instant better (h.least j other more low f);
      }
      | inr worse ↦ record {
        k = h.k;
        line = h.line;
        rest = h.rest;
        within = omega (arith, h.within);
        has = h.has;
        least = λ j other more low f.
            below (λ z. (other : Line) (more : List Line) → logs z ≡ other ∷ more → is_before other.instant h.line.instant ≡ false) n
            (λ other more f. subst (λ (z : Line). is_before z.instant h.line.instant ≡ false) (same_line line other rest more (sym e ∙ f)) worse)
            (λ j low other more f. h.least j other more low f) j low other more f;
        first = h.first;
      }
    ]

-- with one more log that has none
without_line : (n : ℕ) (logs : ℕ → List Line) → logs n ≡ [] → FirstBelow n logs ⊎ NoneBelow n logs → FirstBelow (suc n) logs ⊎ NoneBelow (suc n) logs
without_line n logs e (inr none) = inr (below (λ j. logs j ≡ []) n e none)
without_line n logs e (inl h) = inl (record {
  k = h.k;
  line = h.line;
  rest = h.rest;
  within = omega (arith, h.within);
  has = h.has;
  least = λ j other more low f.
      below (λ z. (other : Line) (more : List Line) → logs z ≡ other ∷ more → is_before other.instant h.line.instant ≡ false) n
      (λ other more f. let no = sym e ∙ f in absurd cc) (λ j low other more f. h.least j other more low f) j low other more f;
  first = h.first;
})

one_more : (n : ℕ) (logs : ℕ → List Line) (lines : List Line) → logs n ≡ lines → FirstBelow n logs ⊎ NoneBelow n logs
    → FirstBelow (suc n) logs ⊎ NoneBelow (suc n) logs
one_more n logs [] e h = without_line n logs e h
one_more n logs (line ∷ rest) e h = inl (with_line n logs line rest e h)

first_below : (n : ℕ) (logs : ℕ → List Line) → FirstBelow n logs ⊎ NoneBelow n logs
first_below zero logs = inr (λ j low. absurd (omega (arith, low)))
first_below (suc n) logs = one_more n logs (logs n) refl (first_below n logs)

-- a line less
total-behind : (n : ℕ) (logs : ℕ → List Line) (k : ℕ) (line : Line) (rest : List Line) → k < n → logs k ≡ line ∷ rest
    → total n (behind logs k) + 1 ≡ total n logs
unfolding total
total-behind zero logs k line rest low e = absurd (omega (arith, low))
total-behind (suc n) logs k line rest low e =
    elim (cases_Bool (nat_eq n k)) [
      | inl t ↦
          let same = eqb-true n k t in
          let here : behind logs k n ≡ rest = ap (behind logs k) same ∙ behind-rest logs k line rest e in
          let was : logs n ≡ line ∷ rest = ap logs same ∙ e in
          omega (arith, ap length here, ap length was, total-past n logs k (omega (arith, same)))
      | inr t ↦
          let other : n ≢ k = differ n k t in
          omega (arith, ap length (behind-other logs n k other), total-behind n logs k line rest (omega (arith, other, low)) e)
    ] where
      differ : (j k : ℕ) → nat_eq j k ≡ false → j ≢ k
      differ j k t e = grind (arith, nat_tests)

      total-past : (m : ℕ) (logs : ℕ → List Line) (k : ℕ) → m ≤ k → total m (behind logs k) ≡ total m logs
      total-past zero logs k past = refl
      total-past (suc m) logs k past =
          let other : m ≢ k = omega arith in
          omega (arith, ap length (behind-other logs m k other), total-past m logs k (omega arith))

ended : (n : ℕ) (logs : ℕ → List Line) → NoneBelow n logs → ((j : ℕ) → n ≤ j → logs j ≡ []) → (j : ℕ) → logs j ≡ []
ended n logs none past j = elim (cases_lt j n) [ inl low ↦ none j low | inr high ↦ past j high ]

is_first : (n : ℕ) (logs : ℕ → List Line) (h : FirstBelow n logs) → ((j : ℕ) → n ≤ j → logs j ≡ []) → IsFirst logs h.k h.line
is_first n logs h past j other more f = (
  elim (cases_lt j n) [ inl low ↦ h.least j other more low f | inr high ↦ (let no = sym (past j high) ∙ f in absurd cc) ],
  λ low. h.first j other more low f,
)

past-behind : (n : ℕ) (logs : ℕ → List Line) (k : ℕ) → ((j : ℕ) → n ≤ j → logs j ≡ []) → (j : ℕ) → n ≤ j → behind logs k j ≡ []
past-behind n logs k past j high =
    elim (cases_Bool (nat_eq j k)) [ inl t ↦ rw t (ap (drop 1) (past j high)) | inr t ↦ rw t (past j high) ]

exists : (fuel n : ℕ) (logs : ℕ → List Line) → total n logs ≤ fuel → ((j : ℕ) → n ≤ j → logs j ≡ []) → (out : List (ℕ × Line)) × IsMerge logs out
exists zero n logs few past = elim (first_below n logs) [
  | inl h ↦ absurd (omega (arith, few, total-behind n logs h.k h.line h.rest h.within h.has))
  | inr none ↦ ([], ended n logs none past)
]
exists (suc fuel) n logs few past = elim (first_below n logs) [
  | inl h ↦
      let more = exists fuel n (behind logs h.k) (omega (arith, few, total-behind n logs h.k h.line h.rest h.within h.has)) (past-behind n logs h.k past) in
      ((h.k, h.line) ∷ more.0, (h.rest, h.has, is_first n logs h past, more.1))
  | inr none ↦ ([], ended n logs none past)
]

-- logs that have no line from a number on have a merge
pub merge_exists : (n : ℕ) (logs : ℕ → List Line) → ((j : ℕ) → n ≤ j → logs j ≡ []) → (out : List (ℕ × Line)) × IsMerge logs out
merge_exists n logs past = exists (total n logs) n logs (omega arith) past

-- and one that begins with a line that is first
pub merge_from : (n : ℕ) (logs : ℕ → List Line) (k : ℕ) (line : Line) (rest : List Line) → ((j : ℕ) → n ≤ j → logs j ≡ []) → logs k ≡ line ∷ rest
    → IsFirst logs k line → (out : List (ℕ × Line)) × IsMerge logs ((k, line) ∷ out)
merge_from n logs k line rest past e first =
    let more = merge_exists n (behind logs k) (past-behind n logs k past) in (more.0, (rest, e, first, more.1))
