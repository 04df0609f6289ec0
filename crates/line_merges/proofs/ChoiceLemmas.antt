-- The best of the first logs.
use Rattle.std.proofs.Common.{◌≡◌, inl, inr, ℕ, ◌+◌, ◌<◌, ◌≤◌, true, false, nat_eq, List, length, get_or, ℤ, Option, Some, None, refl, sym, ap}
use Rattle.std.proofs.Common.{subst, ◌∙◌, arith}
use Rattle.std.specs.Option.{option_map}
use Rattle.std.proofs.lemmas.Bool.{cases_Bool, cases_lt, eqb-true, false≢true}
use Rattle.std.proofs.lemmas.Bool.Decides.{nat_tests}
use Rattle.std.proofs.lemmas.Option.{same_Some, slice_get-get_or, slice_get_past}
use Rattle.line_merges.proofs.OrderLemmas.{before-self, before-not_after, before-trans, not_after-trans}
use Rattle.line_merges.specs.Choices.{HaveEnded, IsNext, is_better, log_fronts}
use Rattle.line_merges.specs.Instants.{is_before}
use Rattle.line_merges.specs.declared.logs.Front.{Front}
use Rattle.line_merges.specs.declared.logs.Log.{Log}

-- the log k has the next line of the first n logs
pub record IsNextBelow (n : ℕ) (fronts : ℕ → Option Front) (k : ℕ) (instant : Option ℤ) : Type 0 where
  pub front : Front
  pub within : k < n
  pub has : fronts k ≡ Some front
  pub line : front.has_line ≡ true
  pub next : front.next ≡ instant
  pub least : (j : ℕ) (other : Front) → j < n → fronts j ≡ Some other → other.has_line ≡ true → is_before other.next instant ≡ false
  pub first : (j : ℕ) (other : Front) → j < k → fronts j ≡ Some other → other.has_line ≡ true → is_before instant other.next ≡ true

-- of the first n logs
abbrev pub BestBelow : ℕ → (ℕ → Option Front) → Option (ℕ × Option ℤ) → Type 0
BestBelow n fronts None = (j : ℕ) (other : Front) → j < n → fronts j ≡ Some other → other.has_line ≡ false
BestBelow n fronts (Some best) = IsNextBelow n fronts best.0 best.1

-- what holds of the first k and of k
below-next : (fronts : ℕ → Option Front) (P : Front → Type 0) (k : ℕ) (front : Front) → fronts k ≡ Some front → P front
    → ((j : ℕ) (other : Front) → j < k → fronts j ≡ Some other → P other) → (j : ℕ) (other : Front) → j < k + 1 → fronts j ≡ Some other → P other
below-next fronts P k front e here below j other low f =
    elim (cases_Bool (nat_eq j k)) [
      | inl t ↦
          let same : front ≡ other = same_Some front other (sym e ∙ (ap fronts (sym (eqb-true j k t)) ∙ f)) in subst P same here
      | inr t ↦ let lower : j < k = grind (arith, nat_tests) in below j other lower f
    ]

-- a log that has ended
pub best-ended : (k : ℕ) (fronts : ℕ → Option Front) (best : Option (ℕ × Option ℤ)) (front : Front) → fronts k ≡ Some front → front.has_line ≡ false
    → BestBelow k fronts best → BestBelow (k + 1) fronts best
best-ended k fronts None front e none h = below-next fronts (λ z. z.has_line ≡ false) k front e none h
best-ended k fronts (Some best) front e none h = record {
  front = h.front;
  within = omega (arith, h.within);
  has = h.has;
  line = h.line;
  next = h.next;
  least = below-next fronts (λ z. z.has_line ≡ true → is_before z.next best.1 ≡ false) k front e (λ some. absurd (false≢true (sym none ∙ some))) h.least;
  first = h.first;
}

-- one that is no earlier
pub best-kept : (k : ℕ) (fronts : ℕ → Option Front) (best : Option (ℕ × Option ℤ)) (front : Front) → fronts k ≡ Some front
    → is_better front.next best ≡ false → BestBelow k fronts best → BestBelow (k + 1) fronts best
best-kept k fronts None front e worse h = absurd (false≢true (sym worse))
best-kept k fronts (Some best) front e worse h = record {
  front = h.front;
  within = omega (arith, h.within);
  has = h.has;
  line = h.line;
  next = h.next;
  least = below-next fronts (λ z. z.has_line ≡ true → is_before z.next best.1 ≡ false) k front e (λ _. worse) h.least;
  first = h.first;
}

-- one that is earlier, or the first
pub best-taken : (k : ℕ) (fronts : ℕ → Option Front) (best : Option (ℕ × Option ℤ)) (front : Front) → fronts k ≡ Some front → front.has_line ≡ true
    → is_better front.next best ≡ true → BestBelow k fronts best → BestBelow (k + 1) fronts (Some (k, front.next))
best-taken k fronts None front e line better h = record {
  front = front;
  within = omega arith;
  has = e;
  line = line;
  next = refl;
  least = below-next fronts (λ z. z.has_line ≡ true → is_before z.next front.next ≡ false) k front e (λ _. before-self front.next)
      (λ j other low f some. absurd (false≢true (sym (h j other low f) ∙ some)));
  first = λ j other low f some. absurd (false≢true (sym (h j other low f) ∙ some));
}
best-taken k fronts (Some best) front e line better h = record {
  front = front;
  within = omega arith;
  has = e;
  line = line;
  next = refl;
  least = below-next fronts (λ z. z.has_line ≡ true → is_before z.next front.next ≡ false) k front e (λ _. before-self front.next)
      (λ j other low f some. not_after-trans front.next best.1 other.next (before-not_after front.next best.1 better) (h.least j other low f some));
  first = λ j other low f some. before-trans front.next best.1 other.next better (h.least j other low f some);
}

pub fronts-at : {M : Type 0} {R : Type 0} (logs : List (Log R M)) (k : ℕ) (log : Log R M) → k < length logs → log ≡ get_or logs k log
    → log_fronts logs k ≡ Some log.front
fronts-at logs k log low is = ap (option_map (λ z. z.front)) (slice_get-get_or logs k log low ∙ ap Some (sym is))

front_within : {M : Type 0} {R : Type 0} (logs : List (Log R M)) (j : ℕ) (front : Front) → log_fronts logs j ≡ Some front → j < length logs
front_within logs j front e =
    elim (cases_lt j (length logs)) [
      | inl low ↦ low
      | inr past ↦ let none : None ≡ Some front = sym (ap (option_map (λ z. z.front)) (slice_get_past logs j past)) ∙ e in absurd cc
    ]

-- of all logs
pub best-end : {M : Type 0} {R : Type 0} (n : ℕ) (logs : List (Log R M)) (best : ℕ × Option ℤ) → length logs ≤ n → BestBelow n (log_fronts logs) (Some best)
    → IsNext (log_fronts logs) best.0
best-end n logs best all h = record {
  front = h.front;
  has = h.has;
  line = h.line;
  least = λ j other f some. rw h.next (let within = front_within logs j other f in h.least j other (omega (arith, within)) f some);
  first = λ j other low f some. rw h.next (h.first j other low f some);
}

pub none-end : {M : Type 0} {R : Type 0} (n : ℕ) (logs : List (Log R M)) → length logs ≤ n → BestBelow n (log_fronts logs) None → HaveEnded (log_fronts logs)
none-end n logs all h j other f = let within = front_within logs j other f in h j other (omega (arith, within)) f
