-- Faults, one after the other.
use Rattle.std.proofs.Common.{◌≡◌, inl, inr, refl, sym, subst, ◌∙◌, ℕ, zero, suc, ◌+◌, ◌-◌, ◌<◌, ◌≤◌, arith, Option, Some, None}
use Rattle.std.proofs.lemmas.Bool.{cases_lt}
use Rattle.zone_files.specs.FileReading.{first_fault, fault_or}
use Rattle.zone_files.specs.declared.file_faults.FileStop.{FileStop}

-- a fault at a place is the first one, if there is none before it
pub first_fault-here : (fault : ℕ → Option FileStop) (n i : ℕ) (found total : Option FileStop) (stop : FileStop) → i < n → found ≡ fault i → found ≡ Some stop
    → first_fault fault (n - i) i ≡ total → Some stop ≡ total
first_fault-here fault n i found total stop low is e before =
    let one : n - i ≡ suc (n - (i + 1)) = omega arith in
    let here : first_fault fault (n - i) i ≡ Some stop = rw one (rw (← is) (rw e refl)) in
    sym here ∙ before

-- if there is none here, those after it are all
pub first_fault-next : (fault : ℕ → Option FileStop) (n i : ℕ) (found total : Option FileStop) → i < n → found ≡ fault i → found ≡ None
    → first_fault fault (n - i) i ≡ total → first_fault fault (n - (i + 1)) (i + 1) ≡ total
first_fault-next fault n i found total low is e before =
    let one : n - i ≡ suc (n - (i + 1)) = omega arith in
    let here : first_fault fault (n - i) i ≡ first_fault fault (n - (i + 1)) (i + 1) = rw one (rw (← is) (rw e refl)) in
    sym here ∙ before

-- ---- no fault at all

pub fault_or-none : (a b : Option FileStop) → fault_or a b ≡ None → (a ≡ None) × (b ≡ None)
fault_or-none None b e = (refl, e)
fault_or-none (Some stop) b e = absurd cc

pub first_fault-each : (fault : ℕ → Option FileStop) (n k i : ℕ) → first_fault fault n k ≡ None → k ≤ i → i < k + n → fault i ≡ None
first_fault-each fault zero k i e low high = absurd (omega (arith, low, high))
first_fault-each fault (suc n) k i e low high =
    let both = fault_or-none (fault k) (first_fault fault n (k + 1)) e in
    elim (cases_lt k i) [
      | inl lt ↦ first_fault-each fault n (k + 1) i both.1 (omega (arith, lt)) (omega (arith, high))
      | inr le ↦ subst (λ (j : ℕ). fault j ≡ None) (omega (arith, le, low)) both.0
    ]

pub first_fault-none : (fault : ℕ → Option FileStop) (n k : ℕ) → ((i : ℕ) → k ≤ i → i < k + n → fault i ≡ None) → first_fault fault n k ≡ None
first_fault-none fault zero k each = refl
first_fault-none fault (suc n) k each =
    rw (each k (omega arith) (omega arith))
    (first_fault-none fault n (k + 1) (λ i low high. each i (omega (arith, low)) (omega (arith, high))))
