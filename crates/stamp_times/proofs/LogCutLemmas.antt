-- A log in order that is cut at an instant: the entries before it, and those from it on.
use Rattle.std.proofs.Common.{◌≡◌, ℕ, zero, suc, ◌+◌, ◌-◌, ◌≤◌, refl, sym, ap, ◌∙◌, Bool, true, false, cond, arith, ℤ, ◌≤ℤ◌, ◌<ℤ◌}
use Rattle.std.proofs.Common.{int_cmp, int_lt, int_le, List, [], ◌∷◌, length, take, drop, get_or, All}
use Rattle.std.proofs.lemmas.Int.{ints}
use Rattle.std.proofs.lemmas.List.Elements.{filter_passes}
use Rattle.std.specs.List.{AllWithin, filter}
use Rattle.std.specs.List.Sorted.{IsSortedByKey, IsPartitionedBy, IsPartitionPoint}
use Rattle.std.specs.Ordering.{is_lt, is_ge}
use Rattle.stamp_times.specs.LogLemmas.{rises}

pub is_lt-int_cmp : (x y : ℤ) → is_lt (int_cmp x y) ≡ int_lt x y
is_lt-int_cmp x y = grind (arith, ints)

pub is_ge-int_cmp : (x y : ℤ) → is_ge (int_cmp x y) ≡ int_le y x
is_ge-int_cmp x y = grind (arith, ints)

lower_too : (x y at : ℤ) → x ≤ℤ y → int_lt y at ≡ true → int_lt x at ≡ true
lower_too x y at h e = grind (arith, ints)

not_from : (x at : ℤ) → int_lt x at ≡ true → int_le at x ≡ false
not_from x at e = grind (arith, ints)

from : (x at : ℤ) → int_lt x at ≡ false → int_le at x ≡ true
from x at e = grind (arith, ints)

is_before : (x at : ℤ) → int_lt x at ≡ true → x <ℤ at
is_before x at e = grind (arith, ints)

is_from : (x at : ℤ) → int_le at x ≡ true → at ≤ℤ x
is_from x at e = grind (arith, ints)

-- in a log in order, the entries before an instant come first
pub IsPartitionedBy-before : {X : Type 0} (key : X → ℤ) (p : X → Bool) (xs : List X) (at : ℤ) → ((x : X) → p x ≡ int_lt (key x) at)
    → IsSortedByKey key int_cmp xs
    → IsPartitionedBy p xs
IsPartitionedBy-before key p xs at same h i j d le within e =
    let whole : i + (j - i) ≡ j = omega arith in
    let above = rw whole at (rises key xs h (j - i) i d (omega arith)) in
    same (get_or xs i d) ∙ lower_too (key (get_or xs i d)) (key (get_or xs j d)) at above (sym (same (get_or xs j d)) ∙ e)

filter_all : {X : Type 0} (p : X → Bool) (xs : List X) → AllWithin (λ x. p x ≡ true) xs 0 (length xs) → filter p xs ≡ xs
filter_all p [] h = refl
filter_all p (x ∷ xs) h =
    let first : p x ≡ true = h zero x (omega arith) (omega arith) in
    let rest = filter_all p xs (λ k d low high. h (suc k) d (omega arith) (omega arith)) in
    ap (λ b. cond b (x ∷ filter p xs) (filter p xs)) first ∙ ap (λ l. x ∷ l) rest

filter_none : {X : Type 0} (p : X → Bool) (xs : List X) → AllWithin (λ x. p x ≡ false) xs 0 (length xs) → filter p xs ≡ []
filter_none p [] h = refl
filter_none p (x ∷ xs) h =
    let first : p x ≡ false = h zero x (omega arith) (omega arith) in
    let rest = filter_none p xs (λ k d low high. h (suc k) d (omega arith) (omega arith)) in
    ap (λ b. cond b (x ∷ filter p xs) (filter p xs)) first ∙ rest

-- the elements that pass a test, where they come first, and where they come last
filter-front : {X : Type 0} (p : X → Bool) (xs : List X) (i : ℕ) → i ≤ length xs → AllWithin (λ x. p x ≡ true) xs 0 i
    → AllWithin (λ x. p x ≡ false) xs i (length xs)
    → take i xs ≡ filter p xs
filter-front p xs zero le front back = sym (filter_none p xs back)
filter-front p [] (suc i) le front back = absurd (omega arith)
filter-front p (x ∷ xs) (suc i) le front back =
    let first : p x ≡ true = front zero x (omega arith) (omega arith) in
    let rest =
    filter-front p xs i (omega arith) (λ k d low high. front (suc k) d (omega arith) (omega arith))
    (λ k d low high. back (suc k) d (omega arith) (omega arith)) in
    ap (λ l. x ∷ l) rest ∙ sym (ap (λ b. cond b (x ∷ filter p xs) (filter p xs)) first)

filter-back : {X : Type 0} (p : X → Bool) (xs : List X) (i : ℕ) → AllWithin (λ x. p x ≡ false) xs 0 i → AllWithin (λ x. p x ≡ true) xs i (length xs)
    → drop i xs ≡ filter p xs
filter-back p xs zero front back = sym (filter_all p xs back)
filter-back p [] (suc i) front back = refl
filter-back p (x ∷ xs) (suc i) front back =
    let first : p x ≡ false = front zero x (omega arith) (omega arith) in
    let rest =
    filter-back p xs i (λ k d low high. front (suc k) d (omega arith) (omega arith))
    (λ k d low high. back (suc k) d (omega arith) (omega arith)) in
    rest ∙ sym (ap (λ b. cond b (x ∷ filter p xs) (filter p xs)) first)

-- the entries up to the place that a search for the first one from an instant on gives, and the others
pub take-before : {X : Type 0} (key : X → ℤ) (p : X → Bool) (xs : List X) (at : ℤ) (i : ℕ) → ((x : X) → p x ≡ int_lt (key x) at) → i ≤ length xs
    → IsPartitionPoint (λ x. p x ≡ true) (λ x. p x ≡ false) xs i
    → take i xs ≡ filter (λ x. int_lt (key x) at) xs
take-before key p xs at i same le point =
    filter-front (λ x. int_lt (key x) at) xs i le (λ k d low high. sym (same (get_or xs k d)) ∙ point.0 k d low high)
    (λ k d low high. sym (same (get_or xs k d)) ∙ point.1 k d low high)

pub drop-from : {X : Type 0} (key : X → ℤ) (p : X → Bool) (xs : List X) (at : ℤ) (i : ℕ) → ((x : X) → p x ≡ int_lt (key x) at)
    → IsPartitionPoint (λ x. p x ≡ true) (λ x. p x ≡ false) xs i
    → drop i xs ≡ filter (λ x. int_le at (key x)) xs
drop-from key p xs at i same point =
    filter-back (λ x. int_le at (key x)) xs i
    (λ k d low high. not_from (key (get_or xs k d)) at (sym (same (get_or xs k d)) ∙ point.0 k d low high))
    (λ k d low high. from (key (get_or xs k d)) at (sym (same (get_or xs k d)) ∙ point.1 k d low high))

pub All-before : {X : Type 0} (key : X → ℤ) (xs ys : List X) (at : ℤ) → ys ≡ filter (λ x. int_lt (key x) at) xs → All (λ x. key x <ℤ at) ys
All-before {X} key xs ys at e =
    let all : All (λ (x : X). key x <ℤ at) (filter (λ x. int_lt (key x) at) xs) =
    λ k d within. is_before _ at (filter_passes (λ x. int_lt (key x) at) xs k d within) in
    rw e all

pub All-from : {X : Type 0} (key : X → ℤ) (xs ys : List X) (at : ℤ) → ys ≡ filter (λ x. int_le at (key x)) xs → All (λ x. at ≤ℤ key x) ys
All-from {X} key xs ys at e =
    let all : All (λ (x : X). at ≤ℤ key x) (filter (λ x. int_le at (key x)) xs) =
    λ k d within. is_from _ at (filter_passes (λ x. int_le at (key x)) xs k d within) in
    rw e all
