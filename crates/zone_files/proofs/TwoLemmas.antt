-- Two pieces written one after the other.
use Rattle.std.proofs.Common.{◌≡◌, ap, ◌∙◌, ℕ, List, ◌++◌, append_assoc, Result, Ok, Err}
use Rattle.std.specs.Prelude.{OnOk}

pub then_two : {T E : Type 0} (r : Result T E) (old mid new a b : List ℕ) → mid ≡ old ++ a → OnOk r (new ≡ mid ++ b) → OnOk r (new ≡ old ++ (a ++ b))
then_two (Ok t) old mid new a b first second = second ∙ ap (λ (xs : List ℕ). xs ++ b) first ∙ append_assoc old a b
then_two (Err e) old mid new a b first second = tt

-- where the first piece is written in another way
pub then_two_as : {T E : Type 0} (r : Result T E) (old mid new x a b : List ℕ) → mid ≡ old ++ x → x ≡ a → OnOk r (new ≡ mid ++ b)
    → OnOk r (new ≡ old ++ (a ++ b))
then_two_as r old mid new x a b first is second = then_two r old mid new a b (first ∙ ap (λ (xs : List ℕ). old ++ xs) is) second

-- where the second piece is written in another way
pub then_as_two : {T E : Type 0} (r : Result T E) (old mid new a x b : List ℕ) → mid ≡ old ++ a → x ≡ b → OnOk r (new ≡ mid ++ x)
    → OnOk r (new ≡ old ++ (a ++ b))
then_as_two (Ok t) old mid new a x b first is second =
    (second ∙ ap (λ (xs : List ℕ). mid ++ xs) is) ∙ ap (λ (xs : List ℕ). xs ++ b) first ∙ append_assoc old a b
then_as_two (Err e) old mid new a x b first is second = tt
