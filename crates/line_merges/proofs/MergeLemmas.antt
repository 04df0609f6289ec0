-- Laws of merges.
use Rattle.std.proofs.Common.{◌≡◌, ◌≢◌, ℕ, ◌<◌, nat_eq, nat_lt, Bool, true, false, cond, List, [], ◌∷◌, drop}
use Rattle.std.proofs.Common.{refl, sym, ap, subst, ◌∙◌, arith, inl, inr}
use Rattle.std.proofs.lemmas.Bool.{cases_Bool, eqb-true, false≢true}
use Rattle.std.proofs.lemmas.Bool.Decides.{nat_tests}
use Rattle.line_merges.proofs.OrderLemmas.{before-self}
use Rattle.line_merges.specs.Instants.{is_before}
use Rattle.line_merges.specs.Lines.{Line}
use Rattle.line_merges.specs.Merges.{behind, IsFirst, IsMerge}
use Rattle.line_merges.specs.Laws.{own_lines, Follows, FollowFrom, AreInOrder, IsOrdered}

differ : (j k : ℕ) → nat_eq j k ≡ false → j ≢ k
differ j k t e = grind (arith, nat_tests)

same-test : (k : ℕ) → nat_eq k k ≡ true
same-test k = grind (arith, nat_tests)

other-test : (j k : ℕ) → j ≢ k → nat_eq j k ≡ false
other-test j k h = grind (arith, nat_tests)

-- after a line its log has the rest
pub behind-rest : (logs : ℕ → List Line) (k : ℕ) (line : Line) (rest : List Line) → logs k ≡ line ∷ rest → behind logs k k ≡ rest
behind-rest logs k line rest e = rw (same-test k) (ap (drop 1) e)

pub behind-other : (logs : ℕ → List Line) (j k : ℕ) → j ≢ k → behind logs k j ≡ logs j
behind-other logs j k h = rw (other-test j k h) refl

-- logs with the same lines have the same merges
pub IsMerge-same : (logs others : ℕ → List Line) (out : List (ℕ × Line)) → ((j : ℕ) → logs j ≡ others j) → IsMerge logs out → IsMerge others out
IsMerge-same logs others [] same h = λ j. sym (same j) ∙ h j
IsMerge-same logs others (out ∷ more) same h = (
  h.0,
  sym (same out.0) ∙ h.1,
  λ j other rest e. h.2 j other rest (same j ∙ e),
  IsMerge-same (behind logs out.0) (behind others out.0) more
      (λ j. let P : List Line → Type 0 = λ z. cond (nat_eq j out.0) (drop 1 (logs j)) (logs j) ≡ cond (nat_eq j out.0) (drop 1 z) z in subst P
      (same j) refl) h.3,
)

pub merges-keep : (logs : ℕ → List Line) (out : List (ℕ × Line)) → IsMerge logs out → (k : ℕ) → own_lines k out ≡ logs k
unfolding own_lines
merges-keep logs [] h k = sym (h k)
merges-keep logs (out ∷ more) h k =
    let rest = merges-keep (behind logs out.0) more h.3 k in
    elim (cases_Bool (nat_eq out.0 k)) [
      | inl t ↦
          let same = eqb-true out.0 k t in
          let left : own_lines k more ≡ h.0 = rest ∙ subst (λ (z : ℕ). behind logs out.0 z ≡ h.0) same (behind-rest logs out.0 out.1 h.0 h.1) in
          rw t (ap (λ (z : List Line). out.1 ∷ z) left ∙ subst (λ (z : ℕ). out.1 ∷ h.0 ≡ logs z) same (sym h.1))
      | inr t ↦ rw t (rest ∙ behind-other logs k out.0 (λ e. differ out.0 k t (sym e)))
    ]

-- the rest of an ordered log is ordered, and no earlier
rest-ordered : (x : Line) (xs : List Line) → IsOrdered (x ∷ xs) → IsOrdered xs
rest-ordered x [] h = tt
rest-ordered x (y ∷ ys) h = h.1

rest-later : (x : Line) (xs : List Line) (y : Line) (ys : List Line) → IsOrdered (x ∷ xs) → xs ≡ y ∷ ys → is_before y.instant x.instant ≡ false
rest-later x [] y ys h e = absurd cc
rest-later x (z ∷ zs) y ys h e =
    let same : z ≡ y = cc in subst (λ (w : Line). is_before w.instant x.instant ≡ false) same h.0

behind-ordered : (logs : ℕ → List Line) (j : ℕ) (x : Line) (xs : List Line) → logs j ≡ x ∷ xs → ((k : ℕ) → IsOrdered (logs k)) → (k : ℕ)
    → IsOrdered (behind logs j k)
behind-ordered logs j x xs e all k =
    elim (cases_Bool (nat_eq j k)) [
      | inl t ↦
          let whole : IsOrdered (x ∷ xs) = subst IsOrdered e (all j) in
          let there : behind logs j k ≡ xs = subst (λ (z : ℕ). behind logs j z ≡ xs) (eqb-true j k t) (behind-rest logs j x xs e) in
          subst IsOrdered (sym there) (rest-ordered x xs whole)
      | inr t ↦ subst IsOrdered (sym (behind-other logs k j (λ s. differ j k t (sym s)))) (all k)
    ]

-- the next line of a merge follows the one before
next-follows : (logs : ℕ → List Line) (j : ℕ) (x : Line) (xs : List Line) (k : ℕ) (y : Line) (ys : List Line) → logs j ≡ x ∷ xs → IsFirst logs j x
    → IsOrdered (x ∷ xs) → behind logs j k ≡ y ∷ ys → Follows (j, x) (k, y)
next-follows logs j x xs k y ys e first ordered next =
    elim (cases_Bool (nat_eq j k)) [
      | inl t ↦
          let same = eqb-true j k t in
          let here : xs ≡ y ∷ ys = sym (subst (λ (z : ℕ). behind logs j z ≡ xs) same (behind-rest logs j x xs e)) ∙ next in
          (rest-later x xs y ys ordered here, λ lower. absurd (omega (arith, same, lower)))
      | inr t ↦ first k y ys (sym (behind-other logs k j (λ s. differ j k t (sym s))) ∙ next)
    ]

from-order : (logs : ℕ → List Line) (out : ℕ × Line) (more : List (ℕ × Line)) → IsMerge logs (out ∷ more) → ((k : ℕ) → IsOrdered (logs k))
    → FollowFrom out more
from-order logs out [] h all = tt
from-order logs out (next ∷ more) h all = (
  next-follows logs out.0 out.1 h.0 next.0 next.1 h.3.0 h.1 h.2 (subst IsOrdered h.1 (all out.0)) h.3.1,
  from-order (behind logs out.0) next more h.3 (behind-ordered logs out.0 out.1 h.0 h.1 all),
)

pub merges-in_order : (logs : ℕ → List Line) (out : List (ℕ × Line)) → IsMerge logs out → ((k : ℕ) → IsOrdered (logs k)) → AreInOrder out
merges-in_order logs [] h all = tt
merges-in_order logs (out ∷ more) h all = from-order logs out more h all

clash : (b : Bool) → b ≡ false → b ≡ true → ⊥
clash b f t = false≢true (sym f ∙ t)

-- one line can be first
one_first : (logs : ℕ → List Line) (j k : ℕ) (x y : Line) (xs ys : List Line) → logs j ≡ x ∷ xs → logs k ≡ y ∷ ys → IsFirst logs j x → IsFirst logs k y
    → j ≡ k
one_first logs j k x y xs ys e f first other =
    let a = first k y ys f in
    let b = other j x xs e in
    elim (cases_Bool (nat_eq j k)) [
      | inl t ↦ eqb-true j k t
      | inr t ↦ elim (cases_Bool (nat_lt j k)) [
        | inl s ↦ let lower : j < k = grind (arith, nat_tests) in absurd (clash _ a.0 (b.1 lower))
        | inr s ↦ let lower : k < j = grind (arith, nat_tests) in absurd (clash _ b.0 (a.1 lower))
      ]
    ]

pub merges-one : (logs : ℕ → List Line) (out other : List (ℕ × Line)) → IsMerge logs out → IsMerge logs other → out ≡ other
merges-one logs [] [] h g = refl
merges-one logs [] (b ∷ other) h g = let none = sym (h b.0) ∙ g.1 in absurd cc
merges-one logs (a ∷ more) [] h g = let none = sym (g a.0) ∙ h.1 in absurd cc
merges-one logs (a ∷ more) (b ∷ other) h g =
    let same = one_first logs a.0 b.0 a.1 b.1 h.0 g.0 h.1 g.1 h.2 g.2 in
    let items : a.1 ∷ h.0 ≡ b.1 ∷ g.0 = sym h.1 ∙ (ap logs same ∙ g.1) in
    let line : a.1 ≡ b.1 = cc in
    let rest = merges-one (behind logs b.0) more other (subst (λ (z : ℕ). IsMerge (behind logs z) more) same h.3) g.3 in
    let heads : (a.0, a.1) ≡ (b.0, b.1) = rw (same, line) refl in
    ap (λ (z : List (ℕ × Line)). a ∷ z) rest ∙ ap (λ (z : ℕ × Line). z ∷ other) heads

-- a line of the instant of the line before it in its log is first after that
next-first : (logs : ℕ → List Line) (k : ℕ) (line next : Line) (rest : List Line) → logs k ≡ line ∷ next ∷ rest → IsFirst logs k line
    → next.instant ≡ line.instant → IsFirst (behind logs k) k next
next-first logs k line next rest e first same j other more f =
    elim (cases_Bool (nat_eq j k)) [
      | inl t ↦
          let here : next ∷ rest ≡ other ∷ more = sym (behind-rest logs k line (next ∷ rest) e) ∙ (ap (behind logs k) (sym (eqb-true j k t)) ∙ f) in
          let it : next ≡ other = cc in (
            subst (λ (z : Line). is_before z.instant next.instant ≡ false) it (before-self next.instant),
            λ lower. absurd (omega (arith, eqb-true j k t, lower)),
          )
      | inr t ↦ rw same (first j other more (sym (behind-other logs j k (differ j k t)) ∙ f))
    ]

together : (logs : ℕ → List Line) (k : ℕ) (next : Line) (rest : List Line) (more : List (ℕ × Line)) → IsMerge logs more → logs k ≡ next ∷ rest
    → IsFirst logs k next → (after : List (ℕ × Line)) × (more ≡ (k, next) ∷ after)
together logs k next rest [] h e first = let none = sym (h k) ∙ e in absurd cc
together logs k next rest (out ∷ after) h e first =
    let same : out.0 ≡ k = one_first logs out.0 k out.1 next h.0 rest h.1 e h.2 first in
    let items : out.1 ∷ h.0 ≡ next ∷ rest = sym h.1 ∙ (ap logs same ∙ e) in
    let line : out.1 ≡ next = cc in
    let heads : (out.0, out.1) ≡ (k, next) = rw (same, line) refl in
    (after, ap (λ (z : ℕ × Line). z ∷ after) heads)

pub merges-together : (logs : ℕ → List Line) (k : ℕ) (line next : Line) (rest : List Line) (more : List (ℕ × Line)) → IsMerge logs ((k, line) ∷ more)
    → logs k ≡ line ∷ next ∷ rest → next.instant ≡ line.instant → (after : List (ℕ × Line)) × (more ≡ (k, next) ∷ after)
merges-together logs k line next rest more h e same =
    let items : h.0 ≡ next ∷ rest = let both = sym h.1 ∙ e in cc in
    together (behind logs k) k next rest more h.3 (behind-rest logs k line h.0 h.1 ∙ items) (next-first logs k line next rest e h.2 same)
