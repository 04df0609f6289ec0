-- The states of logs, one of which changes.
use Rattle.std.proofs.Common.{◌≡◌, ◌≢◌, ℕ, zero, suc, ◌<◌, ◌≤◌, Bool, true, false, cond, nat_eq, List, [], ◌∷◌, ◌++◌, length, Option, Some, None, refl, sym}
use Rattle.std.proofs.Common.{ap, subst, inl, inr, arith}
use Rattle.std.proofs.Math.ListN.{set}
use Rattle.std.specs.Prelude.{slice_get}
use Rattle.std.specs.Option.{option_map}
use Rattle.std.proofs.lemmas.Bool.{cases_Bool, eqb-true}
use Rattle.std.proofs.lemmas.Bool.Decides.{nat_tests}
use Rattle.std.proofs.lemmas.Option.{slice_get-get_or, slice_get_past}
use Rattle.std.proofs.Common.{get_or}
use Rattle.line_merges.specs.Choices.{log_fronts}
use Rattle.line_merges.specs.Runs.{AreNew, IsNew, LogState, log_states}
use Rattle.line_merges.specs.Steps.{fronts_of}
use Rattle.line_merges.specs.declared.logs.Front.{Front}
use Rattle.line_merges.specs.declared.logs.Log.{Log}

slice_get-set : {X : Type 0} (xs : List X) (k : ℕ) (x : X) → k < length xs → slice_get (set xs k x) k ≡ Some x
slice_get-set [] k x low = absurd (omega (arith, low))
slice_get-set (y ∷ xs) zero x low = refl
slice_get-set (y ∷ xs) (suc k) x low = slice_get-set xs k x (omega (arith, low))

slice_get-set_other : {X : Type 0} (xs : List X) (k j : ℕ) (x : X) → j ≢ k → slice_get (set xs k x) j ≡ slice_get xs j
slice_get-set_other [] k j x other = refl
slice_get-set_other (y ∷ xs) zero zero x other = absurd (other refl)
slice_get-set_other (y ∷ xs) zero (suc j) x other = refl
slice_get-set_other (y ∷ xs) (suc k) zero x other = refl
slice_get-set_other (y ∷ xs) (suc k) (suc j) x other = slice_get-set_other xs k j x (λ e. other (ap suc e))

slice_some : {X : Type 0} (xs : List X) (k : ℕ) → k < length xs → (x : X) × (slice_get xs k ≡ Some x)
slice_some [] k low = absurd (omega (arith, low))
slice_some (x ∷ xs) zero low = (x, refl)
slice_some (x ∷ xs) (suc k) low = slice_some xs k (omega (arith, low))

-- the state of a log
abbrev pub state_of : {M : Type 0} {R : Type 0} → (R → Option (List ℕ)) → (R → Bool) → R → Front → M → LogState M
state_of left is_marked reader front memory = record { left = left reader; has_failed = is_marked reader; front = front; memory = memory }

module _ {M : Type 0} {R : Type 0} (left : R → Option (List ℕ)) (is_marked : R → Bool) (logs : List (Log R M)) where
  pub states-set : (k : ℕ) (log : Log R M) → k < length logs → log_states left is_marked (set logs k log) k ≡ Some (state_of left is_marked log.reader
      log.front log.memory)
  states-set k log low = ap (option_map (λ z. state_of left is_marked z.reader z.front z.memory)) (slice_get-set logs k log low)

  pub states-set_other : (k : ℕ) (log : Log R M) (j : ℕ) → j ≢ k → log_states left is_marked (set logs k log) j ≡ log_states left is_marked logs j
  states-set_other k log j other = ap (option_map (λ z. state_of left is_marked z.reader z.front z.memory)) (slice_get-set_other logs k j log other)

  pub states-at : (k : ℕ) (log : Log R M) → k < length logs
      → log_states left is_marked logs k ≡ Some (state_of left is_marked (get_or logs k log).reader (get_or logs k log).front (get_or logs k log).memory)
  states-at k log low = ap (option_map (λ z. state_of left is_marked z.reader z.front z.memory)) (slice_get-get_or logs k log low)

  pub states-some : (k : ℕ) → k < length logs → (state : LogState M) × (log_states left is_marked logs k ≡ Some state)
  states-some k low =
      let log = slice_some logs k low in
      (state_of left is_marked log.0.reader log.0.front log.0.memory, ap (option_map (λ z. state_of left is_marked z.reader z.front z.memory)) log.1)

  pub states-past : (k : ℕ) → length logs ≤ k → log_states left is_marked logs k ≡ None
  states-past k past = ap (option_map (λ z. state_of left is_marked z.reader z.front z.memory)) (slice_get_past logs k past)

  pub fronts-states : (k : ℕ) → fronts_of (log_states left is_marked logs) k ≡ log_fronts logs k
  fronts-states k = of (slice_get logs k) where
    of : (log : Option (Log R M)) → option_map (λ (s : LogState M). s.front) (option_map (λ (z : Log R M). state_of left is_marked z.reader z.front
        z.memory) log)
        ≡ option_map (λ (z : Log R M). z.front) log
    of None = refl
    of (Some log) = refl

-- one more log
pub new-append : {M : Type 0} {R : Type 0} (memories : ℕ → M) (left : R → Option (List ℕ)) (is_marked : R → Bool) (logs : List (Log R M)) (log : Log R M)
    → AreNew memories left is_marked logs → IsNew (memories (length logs)) (Some (state_of left is_marked log.reader log.front log.memory))
    → AreNew memories left is_marked (logs ++ log ∷ [])
new-append memories left is_marked [] log h new zero = new
new-append memories left is_marked [] log h new (suc k) = tt
new-append memories left is_marked (x ∷ logs) log h new zero = h zero
new-append memories left is_marked (x ∷ logs) log h new (suc k) =
    new-append (λ j. memories (suc j)) left is_marked logs log (λ j. h (suc j)) new k

-- a fact of one number, and of all others
pub at_each : (P : ℕ → Type 0) (k : ℕ) → P k → ((j : ℕ) → j ≢ k → P j) → (j : ℕ) → P j
at_each P k here others j =
    elim (cases_Bool (nat_eq j k)) [
      | inl t ↦ subst P (sym (eqb-true j k t)) here
      | inr t ↦ others j (differ j k t)
    ] where
      differ : (j k : ℕ) → nat_eq j k ≡ false → j ≢ k
      differ j k t e = grind (arith, nat_tests)

-- a function with another value at one number
abbrev pub put : {A : Type 0} → ℕ → A → (ℕ → A) → ℕ → A
put k value f j = cond (nat_eq j k) value (f j)

pub put-same : {A : Type 0} (k : ℕ) (value : A) (f : ℕ → A) → put k value f k ≡ value
put-same k value f = let t : nat_eq k k ≡ true = grind (arith, nat_tests) in rw t refl

pub put-other : {A : Type 0} (k : ℕ) (value : A) (f : ℕ → A) (j : ℕ) → j ≢ k → put k value f j ≡ f j
put-other k value f j other = let t : nat_eq j k ≡ false = grind (arith, nat_tests) in rw t refl
