-- Lists of values that have a key, as instants of any type have their nanoseconds.
use Rattle.std.proofs.Common.{◌≡◌, ℕ, ◌<◌, ℤ, List, length, reverse, slice_index_or}
use Rattle.std.specs.Prelude.{Option, find}
use Rattle.std.specs.Ordering.{int_eq}

-- an element of the list has the key of x
abbrev pub ContainsByKey : {X K : Type 0} → (X → K) → List X → X → Type 0
ContainsByKey key xs x = (k : ℕ) × (k < length xs) × (key (slice_index_or xs k x) ≡ key x)

-- the first element of the list that has the key of x, if there is one
abbrev pub first_by_key : {X : Type 0} → (X → ℤ) → List X → X → Option X
first_by_key key xs x = find (λ y. int_eq (key y) (key x)) xs

-- the last element of the list that has the key of x, if there is one
abbrev pub last_by_key : {X : Type 0} → (X → ℤ) → List X → X → Option X
last_by_key key xs x = find (λ y. int_eq (key y) (key x)) (reverse xs)
