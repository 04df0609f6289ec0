-- Of the values of one key, a stable sort and a removal of repeats leave the first. The elements of a list after an insert, and the
-- last of a list.
use Rattle.std.proofs.Common.{◌≡◌, ◌⊎◌, ℕ, zero, suc, ◌<◌, inl, inr, Bool, true, false, cond, arith, ℤ, int_cmp, List, [], ◌∷◌}
use Rattle.std.proofs.Common.{length, get_or, slice_get, ◌-◌, All, Option, Some, None, IfSome, refl, sym, ap, ◌∙◌}
use Rattle.std.proofs.lemmas.Bool.{cond_both}
use Rattle.std.proofs.lemmas.Cmp.{int_cmp_total}
use Rattle.std.proofs.lemmas.Int.{ints}
use Rattle.std.proofs.lemmas.List.Elements.{All-cons, All-contains, All-head, All-tail, All-weaker, filter_agree}
use Rattle.std.proofs.lemmas.List.Filters.{All-dedup, dedup_is}
use Rattle.std.proofs.lemmas.List.Sorted.{Contains-permutation, IsPermutation-insert, IsPermutation-sym, ranks_by, sorted_far}
use Rattle.std.proofs.lemmas.Option.{get_or_from_slice_get}
use Rattle.std.specs.List.{AllPairs, Contains, HoldsAt, dedup, dedup_from, filter, find, insert}
use Rattle.std.specs.List.Retain.{IsFiltered, DiffersFromLast}
use Rattle.std.specs.List.Sorted.{IsSortedByKey, IsStableByKey, ties}
use Rattle.std.specs.Ordering.{int_eq, is_lt, on}
use Rattle.std.specs.declared.cmp.Ordering.TheVariants.{Less}
use Rattle.stamp_times.specs.Logs.{first_by_key}

-- ---- comparisons of keys

same_key : (x : ℤ) → int_eq x x ≡ true
same_key x = grind (arith, ints)

is_key : (x y : ℤ) → int_eq x y ≡ true → x ≡ y
is_key x y e = grind (arith, ints)

above : (x y : ℤ) → is_lt (int_cmp y x) ≡ false → int_eq y x ≡ false → int_cmp x y ≡ Less
above x y low other = grind (arith, ints)

above_next : (x y z : ℤ) → int_cmp x y ≡ Less → is_lt (int_cmp z y) ≡ false → int_cmp x z ≡ Less
above_next x y z less low = grind (arith, ints)

not_above : (x y : ℤ) → int_cmp x y ≡ Less → int_eq x y ≡ false
not_above x y less = grind (arith, ints)

tied : (x y : ℤ) → ties (λ a b. is_lt (int_cmp a b)) x y ≡ int_eq y x
tied x y = grind (arith, ints)

-- ---- the first of a list

-- what a search finds is the first of what a filter leaves
abbrev first_of : {X : Type 0} → List X → Option X
first_of [] = None
first_of (x ∷ xs) = Some x

find-filter : {X : Type 0} (p : X → Bool) (xs : List X) → find p xs ≡ first_of (filter p xs)
find-filter p [] = refl
find-filter p (x ∷ xs) = next (p x) (find-filter p xs) where
  next : (b : Bool) → find p xs ≡ first_of (filter p xs) → cond b (Some x) (find p xs) ≡ first_of (cond b (x ∷ filter p xs) (filter p xs))
  next true h = refl
  next false h = h

-- a stable sort leaves the first value of each key before the others
first_by_key-sorted : {X : Type 0} (key : X → ℤ) (xs ys : List X) (x : X) → IsStableByKey key int_cmp xs ys
    → first_by_key key ys x ≡ first_by_key key xs x
first_by_key-sorted {X} key xs ys x stable =
    let by_ties : X → Bool = ties (λ a b. is_lt (int_cmp (key a) (key b))) x in
    let by_key : X → Bool = λ y. int_eq (key y) (key x) in
    let agree : (y : X) → by_ties y ≡ by_key y = λ y. tied (key x) (key y) in
    let left : filter by_key ys ≡ filter by_key xs =
    sym (filter_agree by_ties by_key agree ys) ∙ stable x ∙ filter_agree by_ties by_key agree xs in
    find-filter by_key ys ∙ ap first_of left ∙ sym (find-filter by_key xs)

-- ---- a list in order without its repeats

-- x is the first of its key in the list
abbrev IsFirst : {X : Type 0} → (X → ℤ) → List X → X → Type 0
IsFirst key xs x = first_by_key key xs x ≡ Some x

-- it stays the first behind another value of the key of the list's first
first_behind : {X : Type 0} (key : X → ℤ) (k x : X) (xs : List X) (e : X) → int_eq (key x) (key k) ≡ true
    → IsFirst key (k ∷ xs) e → IsFirst key (k ∷ x ∷ xs) e
first_behind key k x xs e same h = step (int_eq (key k) (key e)) refl h where
  step : (b : Bool) → int_eq (key k) (key e) ≡ b → cond b (Some k) (find (λ y. int_eq (key y) (key e)) xs) ≡ Some e
      → cond b (Some k) (cond (int_eq (key x) (key e)) (Some x) (find (λ y. int_eq (key y) (key e)) xs)) ≡ Some e
  step true t first = first
  step false t first =
      let other : int_eq (key x) (key e) ≡ false = rw (is_key (key x) (key k) same) t in
      rw other first

-- and behind a smaller key
first_after : {X : Type 0} (key : X → ℤ) (k : X) (xs : List X) (e : X) → int_cmp (key k) (key e) ≡ Less → IsFirst key xs e
    → IsFirst key (k ∷ xs) e
first_after key k xs e less h = rw (not_above (key k) (key e) less) h

first_alone : {X : Type 0} (key : X → ℤ) (k : X) (xs : List X) → IsFirst key (k ∷ xs) k
first_alone key k xs = rw (same_key (key k)) refl

abbrev IsNotBelow : {X : Type 0} → (X → ℤ) → X → X → Type 0
IsNotBelow key x y = is_lt (int_cmp (key y) (key x)) ≡ false

firsts_from : {X : Type 0} (key : X → ℤ) (xs : List X) (k : X) → All (IsNotBelow key k) xs → AllPairs (IsNotBelow key) xs
    → All (IsFirst key (k ∷ xs)) (dedup_from (on key int_eq) k xs)
firsts_from key [] k low up = All-cons (IsFirst key (k ∷ [])) k [] (first_alone key k []) (λ j d within. absurd (omega arith))
firsts_from {X} key (x ∷ xs) k low up =
    let rest : AllPairs (IsNotBelow key) xs = λ i j d below inside. up (suc i) (suc j) d (omega arith) (omega arith) in
    let from_x : All (IsNotBelow key x) xs = λ j d inside. up zero (suc j) d (omega arith) (omega arith) in
    cond_both (on key int_eq x k) (dedup_from (on key int_eq) k xs) (k ∷ dedup_from (on key int_eq) x xs) (All (IsFirst key (k ∷ x ∷ xs)))
    (λ t. All-weaker (IsFirst key (k ∷ xs)) (IsFirst key (k ∷ x ∷ xs)) (λ e h. first_behind key k x xs e t h) _
    (firsts_from key xs k (All-tail (IsNotBelow key k) x xs low) rest))
    (λ f.
    let first : int_cmp (key k) (key x) ≡ Less = above (key k) (key x) (All-head (IsNotBelow key k) x xs low) f in
    let all : All (λ y. int_cmp (key k) (key y) ≡ Less) (x ∷ xs) =
    All-cons (λ y. int_cmp (key k) (key y) ≡ Less) x xs first
    (λ j d inside. above_next (key k) (key x) (key (get_or xs j d)) first (from_x j d inside)) in
    let later : All (λ y. int_cmp (key k) (key y) ≡ Less) (dedup_from (on key int_eq) x xs) =
    All-dedup (on key int_eq) (λ y. int_cmp (key k) (key y) ≡ Less) (x ∷ xs) all in
    let firsts = firsts_from key xs x from_x rest in
    All-cons (IsFirst key (k ∷ x ∷ xs)) k (dedup_from (on key int_eq) x xs) (first_alone key k (x ∷ xs))
    (λ j d inside. first_after key k (x ∷ xs) (get_or (dedup_from (on key int_eq) x xs) j d) (later j d inside) (firsts j d inside)))

firsts : {X : Type 0} (key : X → ℤ) (xs : List X) → IsSortedByKey key int_cmp xs → All (IsFirst key xs) (dedup (on key int_eq) xs)
firsts key [] h = λ j d within. absurd (omega arith)
firsts key (x ∷ xs) h =
    let far : AllPairs (IsNotBelow key) (x ∷ xs) =
    λ i j d below inside. sorted_far _ (ranks_by int_cmp_total key) (x ∷ xs) h i j d (omega arith) inside in
    firsts_from key xs x (λ j d inside. far zero (suc j) d (omega arith) (omega arith))
    (λ i j d below inside. far (suc i) (suc j) d (omega arith) (omega arith))

-- what a stable sort and a removal of repeats leave of a list
pub first_by_key-left : {X : Type 0} (key : X → ℤ) (xs ys zs : List X) (x : X) → IsStableByKey key int_cmp xs ys
    → IsSortedByKey key int_cmp ys → IsFiltered (DiffersFromLast (on key int_eq)) [] ys zs → Contains zs x → first_by_key key xs x ≡ Some x
first_by_key-left key xs ys zs x stable sorted left found =
    let there : Contains (dedup (on key int_eq) ys) x = rw (dedup_is (on key int_eq) ys zs left) at found in
    sym (first_by_key-sorted key xs ys x stable) ∙ All-contains (IsFirst key ys) (dedup (on key int_eq) ys) x (firsts key ys sorted) there

-- ---- an insert

of_cons : {X : Type 0} (x y : X) (xs : List X) → Contains (x ∷ xs) y → Contains xs y ⊎ (y ≡ x)
of_cons {X} x y xs h = cases h.0 h.1 h.2 where
  cases : (k : ℕ) → k < length (x ∷ xs) → get_or (x ∷ xs) k y ≡ y → Contains xs y ⊎ (y ≡ x)
  cases zero within at = inr (sym at)
  cases (suc k) within at = inl (k, omega arith, at)

-- an element of the list after an insert was in it or is the one that is inserted
pub Contains-inserted : {X : Type 0} (xs ys : List X) (i : ℕ) (x y : X) → ys ≡ insert xs i x → Contains ys y → Contains xs y ⊎ (y ≡ x)
Contains-inserted xs ys i x y e found =
    of_cons x y xs (Contains-permutation (insert xs i x) (x ∷ xs) y (IsPermutation-sym _ _ (IsPermutation-insert xs i x)) (rw e at found))

-- ---- the last element

pub last_at : {X : Type 0} (xs : List X) (r : Option X) → r ≡ slice_get xs (length xs - 1)
    → IfSome r (λ last. HoldsAt (λ x. x ≡ last) xs (length xs - 1))
last_at xs None e = tt
last_at xs (Some last) e = λ d. get_or_from_slice_get xs (length xs - 1) last d (sym e)
