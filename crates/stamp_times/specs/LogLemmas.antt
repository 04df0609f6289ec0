-- Logs in strict order of time: they have each instant once. The key of an entry is its instant.
use Rattle.std.proofs.Common.{◌≡◌, ◌⊎◌, ℕ, zero, suc, ◌+◌, ◌-◌, ◌<◌, inl, inr, Bool, false, arith, ℤ, ◌≤ℤ◌, int_cmp, List, [], ◌∷◌, ◌++◌}
use Rattle.std.proofs.Common.{length, slice_index_or, get_or, All, Option, Some, None, IfSome, slice_get, sym, ap, ◌∙◌}
use Rattle.std.proofs.lemmas.Option.{get_or_from_slice_get}
use Rattle.std.proofs.lemmas.Cmp.{int_cmp_total, int_eq_equiv, on_total, on_equiv}
use Rattle.std.proofs.lemmas.Int.{ints}
use Rattle.std.proofs.lemmas.Bool.{cases_lt}
use Rattle.std.proofs.lemmas.List.{get_or_default, get_or_append_left, get_or-append-add, length-append}
use Rattle.std.proofs.Math.Seq.{get_or-append_right}
use Rattle.std.proofs.lemmas.List.Filters.{dedup_is}
use Rattle.std.proofs.lemmas.List.Kept.{IsStrictlySortedBy-dedup, Any-dedup, Contains-from_dedup}
use Rattle.std.proofs.lemmas.List.Sorted.{searchable_from_sorted, Contains-permutation}
use Rattle.std.specs.List.{AllByRecursion, AllWithin, dedup, insert, remove}
use Rattle.std.specs.List.Retain.{IsFiltered, DiffersFromLast}
use Rattle.std.specs.List.Sorted.{IsPermutation, IsSorted, IsSortedByKey, IsStrictlySortedBy, IsNonDecreasingBy, IsPartitionPoint}
use Rattle.std.specs.Ordering.{int_eq, eq_by_cmp, is_lt, ordering_index, on}
use Rattle.std.specs.declared.cmp.Ordering.TheVariants.{Less, Greater}
use Rattle.stamp_times.specs.Logs.{ContainsByKey}

less-greater : (x y : ℤ) → int_cmp x y ≡ Greater → int_cmp y x ≡ Less
less-greater x y e = grind (arith, ints)

not_less : (x y : ℤ) → int_cmp x y ≡ Less → is_lt (int_cmp y x) ≡ false
not_less x y e = grind (arith, ints)

not_itself : (x y : ℤ) → int_cmp x y ≡ Less → x ≡ y → ⊥
not_itself x y less e = grind (arith, ints)

eq_is_cmp : (x y : ℤ) → int_eq x y ≡ eq_by_cmp int_cmp x y
eq_is_cmp x y = grind (arith, ints)

same_from_eq : (x y : ℤ) → int_eq x y ≡ Bool.true → x ≡ y
same_from_eq x y e = grind (arith, ints)

not_later : (x y : ℤ) → is_lt (int_cmp y x) ≡ false → x ≤ℤ y
not_later x y e = grind (arith, ints)

-- a list in strict order, with each key once, is in order
pub IsSortedByKey-strictly : {X : Type 0} (key : X → ℤ) (xs : List X) → IsStrictlySortedBy (on key int_cmp) xs → IsSortedByKey key int_cmp xs
unfolding IsStrictlySortedBy
IsSortedByKey-strictly key [] h k d from within = absurd (omega arith)
IsSortedByKey-strictly key (x ∷ []) h k d from within = absurd (omega arith)
IsSortedByKey-strictly key (x ∷ y ∷ xs) h zero d from within = not_less (key x) (key y) h.0.0
IsSortedByKey-strictly key (x ∷ y ∷ xs) h (suc k) d from within =
    let next : suc (k + 1) ≡ suc k + 1 = omega arith in
    rw (← next) (IsSortedByKey-strictly key (y ∷ xs) h.1 k d (omega arith) (omega arith))

-- each element has the property after an insert of one that has it
all_inserted : {X : Type 0} (P : X → Type 0) (xs : List X) (i : ℕ) (x : X) → AllByRecursion P xs → P x → AllByRecursion P (insert xs i x)
all_inserted P [] zero x h p = (p, h)
all_inserted P [] (suc i) x h p = (p, h)
all_inserted P (y ∷ ys) zero x h p = (p, h)
all_inserted P (y ∷ ys) (suc i) x h p = (h.0, all_inserted P ys i x h.1 p)

all_above : {X : Type 0} (key : X → ℤ) (xs : List X) (x : X) → AllWithin (λ y. int_cmp (key y) (key x) ≡ Greater) xs 0 (length xs)
    → AllByRecursion (λ y. int_cmp (key x) (key y) ≡ Less) xs
all_above key [] x h = tt
all_above key (y ∷ ys) x h =
    (less-greater (key y) (key x) (h zero y (omega arith) (omega arith)), all_above key ys x (λ k d from within. h (suc k) d (omega arith) (omega arith)))

-- an insert keeps the strict order if the elements before it are less and those after it are greater
inserted_between : {X : Type 0} (key : X → ℤ) (xs : List X) (i : ℕ) (x : X) → IsStrictlySortedBy (on key int_cmp) xs
    → IsPartitionPoint (λ y. int_cmp (key y) (key x) ≡ Less) (λ y. int_cmp (key y) (key x) ≡ Greater) xs i
    → IsStrictlySortedBy (on key int_cmp) (insert xs i x)
unfolding IsStrictlySortedBy
inserted_between key [] zero x h between = (tt, tt)
inserted_between key [] (suc i) x h between = (tt, tt)
inserted_between key (y ∷ ys) zero x h between = (all_above key (y ∷ ys) x between.1, h)
inserted_between key (y ∷ ys) (suc i) x h between =
    let first : int_cmp (key y) (key x) ≡ Less = between.0 zero x (omega arith) (omega arith) in (
      all_inserted (λ z. int_cmp (key y) (key z) ≡ Less) ys i x h.0 first,
      inserted_between key ys i x h.1 (
        (λ k d from below. between.0 (suc k) d (omega arith) (omega arith)),
        (λ k d from within. between.1 (suc k) d (omega arith) (omega arith)),
      ),
    )

-- an insert keeps the strict order at the index that a search of the list returned
pub strictly-inserted : {X : Type 0} (key : X → ℤ) (xs ys zs : List X) (i : ℕ) (x : X) → ys ≡ insert xs i x → zs ≡ xs
    → IsStrictlySortedBy (on key int_cmp) xs
    → (IsNonDecreasingBy (λ y. ordering_index (int_cmp (key y) (key x))) zs
    → IsPartitionPoint (λ y. int_cmp (key y) (key x) ≡ Less) (λ y. int_cmp (key y) (key x) ≡ Greater) zs i)
    → IsStrictlySortedBy (on key int_cmp) ys
strictly-inserted key xs ys zs i x e same h searched =
    let here : IsStrictlySortedBy (on key int_cmp) zs = rw same h in
    let rising = searchable_from_sorted int_cmp_total key zs (key x) (IsSortedByKey-strictly key zs here) in
    rw (e, ← same) (inserted_between key zs i x here (searched rising))

-- ---- which keys a list has

-- the new list still has each key of the old one
pub ContainsByKey-inserted : {X : Type 0} (key : X → ℤ) (xs ys : List X) (i : ℕ) (x y : X) → ys ≡ insert xs i x → ContainsByKey key xs y
    → ContainsByKey key ys y
ContainsByKey-inserted {X} key xs ys i x y e there = rw e (kept_inserted xs i there.0 x y there.1 there.2)
  where
    kept_inserted : (xs : List X) (i k : ℕ) (x y : X) → k < length xs → key (slice_index_or xs k y) ≡ key y → ContainsByKey key (insert xs i x) y
    kept_inserted [] i k x y within at = absurd (omega arith)
    kept_inserted (z ∷ zs) zero k x y within at = (suc k, omega arith, at)
    kept_inserted (z ∷ zs) (suc i) zero x y within at = (zero, omega arith, at)
    kept_inserted (z ∷ zs) (suc i) (suc k) x y within at =
        let rest = kept_inserted zs i k x y (omega arith) at in (suc rest.0, omega (arith, rest.1), rest.2)

-- ---- a list in order with one element less

all_removed : {X : Type 0} (P : X → Type 0) (xs : List X) (i : ℕ) → AllByRecursion P xs → AllByRecursion P (remove xs i)
all_removed P [] zero p = p
all_removed P [] (suc i) p = p
all_removed P (y ∷ ys) zero p = p.1
all_removed P (y ∷ ys) (suc i) p = (p.0, all_removed P ys i p.1)

pub strictly-removed : {X : Type 0} (key : X → ℤ) (xs : List X) (i : ℕ) → IsStrictlySortedBy (on key int_cmp) xs
    → IsStrictlySortedBy (on key int_cmp) (remove xs i)
unfolding IsStrictlySortedBy
strictly-removed key [] zero h = h
strictly-removed key [] (suc i) h = h
strictly-removed key (x ∷ xs) zero h = h.1
strictly-removed key (x ∷ xs) (suc i) h = (all_removed (λ y. int_cmp (key x) (key y) ≡ Less) xs i h.0, strictly-removed key xs i h.1)

-- after the removal of an element, the list still has each other key
kept_removed : {X : Type 0} (key : X → ℤ) (xs : List X) (i k : ℕ) (x y : X) → i < length xs → key (slice_index_or xs i x) ≡ key x
    → (key y ≡ key x → ⊥) → k < length xs
    → key (slice_index_or xs k y) ≡ key y → ContainsByKey key (remove xs i) y
kept_removed key [] i k x y there e other within at = absurd (omega arith)
kept_removed key (z ∷ zs) zero zero x y there e other within at = absurd (other (sym at ∙ e))
kept_removed key (z ∷ zs) zero (suc k) x y there e other within at = (k, omega arith, at)
kept_removed key (z ∷ zs) (suc i) zero x y there e other within at = (zero, omega arith, at)
kept_removed key (z ∷ zs) (suc i) (suc k) x y there e other within at =
    let rest = kept_removed key zs i k x y (omega arith) e other (omega arith) at in (suc rest.0, omega (arith, rest.1), rest.2)

pub ContainsByKey-removed : {X : Type 0} (key : X → ℤ) (xs : List X) (i : ℕ) (x y : X) → i < length xs → key (slice_index_or xs i x) ≡ key x
    → (key y ≡ key x → ⊥)
    → ContainsByKey key xs y → ContainsByKey key (remove xs i) y
ContainsByKey-removed key xs i x y there e other h = kept_removed key xs i h.0 x y there e other h.1 h.2

-- and has no new key
was_in : {X : Type 0} (key : X → ℤ) (xs : List X) (i k : ℕ) (y : X) → k < length (remove xs i) → key (slice_index_or (remove xs i) k y) ≡ key y
    → ContainsByKey key xs y
was_in key [] zero k y within at = absurd (omega arith)
was_in key [] (suc i) k y within at = absurd (omega arith)
was_in key (z ∷ zs) zero k y within at = (suc k, omega arith, at)
was_in key (z ∷ zs) (suc i) zero y within at = (zero, omega arith, at)
was_in key (z ∷ zs) (suc i) (suc k) y within at = let rest = was_in key zs i k y (omega arith) at in (suc rest.0, omega (arith, rest.1), rest.2)

pub ContainsByKey-before_removal : {X : Type 0} (key : X → ℤ) (xs : List X) (i : ℕ) (y : X) → ContainsByKey key (remove xs i) y
    → ContainsByKey key xs y
ContainsByKey-before_removal key xs i y h = was_in key xs i h.0 y h.1 h.2

-- a list in strict order does not have a key after the removal of its element
above_at : {X : Type 0} (key : X → ℤ) (xs : List X) (x y : X) (k : ℕ) → AllByRecursion (λ z. int_cmp (key x) (key z) ≡ Less) xs → k < length xs
    → key (slice_index_or xs k y) ≡ key y → int_cmp (key x) (key y) ≡ Less
above_at key [] x y k h within at = absurd (omega arith)
above_at key (z ∷ zs) x y zero h within at = rw at at h.0
above_at key (z ∷ zs) x y (suc k) h within at = above_at key zs x y k h.1 (omega arith) at

gone : {X : Type 0} (key : X → ℤ) (xs : List X) (i k : ℕ) (x : X) → IsStrictlySortedBy (on key int_cmp) xs → i < length xs
    → key (slice_index_or xs i x) ≡ key x
    → k < length (remove xs i) → key (slice_index_or (remove xs i) k x) ≡ key x → ⊥
unfolding IsStrictlySortedBy
gone key [] i k x h there e within at = absurd (omega arith)
gone key (z ∷ zs) zero k x h there e within at = not_itself (key z) (key x) (above_at key zs z x k h.0 within at) e
gone key (z ∷ zs) (suc i) zero x h there e within at = not_itself (key z) (key x) (above_at key zs z x i h.0 (omega arith) e) at
gone key (z ∷ zs) (suc i) (suc k) x h there e within at = gone key zs i k x h.1 (omega arith) e (omega arith) at

pub not_ContainsByKey-removed : {X : Type 0} (key : X → ℤ) (xs : List X) (i : ℕ) (x : X) → IsStrictlySortedBy (on key int_cmp) xs → i < length xs
    → key (slice_index_or xs i x) ≡ key x → ContainsByKey key (remove xs i) x → ⊥
not_ContainsByKey-removed key xs i x h there e found = gone key xs i found.0 x h there e found.1 found.2

-- ---- a list in order without its repeats

-- it is in strict order, and has the same keys
pub strictly-deduped : {X : Type 0} (key : X → ℤ) (xs ys : List X) → IsSortedByKey key int_cmp xs
    → IsFiltered (DiffersFromLast (on key int_eq)) [] xs ys
    → IsStrictlySortedBy (on key int_cmp) ys
strictly-deduped key xs ys sorted left =
    rw (dedup_is (on key int_eq) xs ys left) (IsStrictlySortedBy-dedup (on_total key int_cmp_total) (λ x y. eq_is_cmp (key x) (key y)) xs sorted)

-- an element with the key of x, whatever a read past the end gives
at_index : {X : Type 0} (key : X → ℤ) (xs : List X) (k : ℕ) (x d : X) → k < length xs → key (slice_index_or xs k d) ≡ key x → ContainsByKey key xs x
at_index key xs k x d within e = (k, within, ap key (get_or_default xs k x d within) ∙ e)

pub ContainsByKey-deduped : {X : Type 0} (key : X → ℤ) (xs ys : List X) (x : X) → IsFiltered (DiffersFromLast (on key int_eq)) [] xs ys
    → ContainsByKey key xs x
    → ContainsByKey key ys x
ContainsByKey-deduped key xs ys x left there =
    let here = slice_index_or xs there.0 x in
    let itself = get_or_default xs there.0 here x there.1 in
    let one = Any-dedup (on_equiv key int_eq_equiv) xs here (there.0, there.1, itself) in
    let same : key one.1 ≡ key x = sym (same_from_eq (key here) (key one.1) one.4) ∙ there.2 in
    rw (dedup_is (on key int_eq) xs ys left) (at_index key _ one.0 x one.1 one.2 (ap key one.3 ∙ same))

pub ContainsByKey-before_dedup : {X : Type 0} (key : X → ℤ) (xs ys : List X) (x : X) → IsFiltered (DiffersFromLast (on key int_eq)) [] xs ys
    → ContainsByKey key ys x
    → ContainsByKey key xs x
ContainsByKey-before_dedup key xs ys x left there = before (rw (dedup_is (on key int_eq) xs ys left) at there)
  where
    before : ContainsByKey key (dedup (on key int_eq) xs) x → ContainsByKey key xs x
    before there =
        let here = slice_index_or (dedup (on key int_eq) xs) there.0 x in
        let itself = get_or_default (dedup (on key int_eq) xs) there.0 here x there.1 in
        let found = Contains-from_dedup (on key int_eq) xs here (there.0, there.1, itself) in
        at_index key xs found.0 x here found.1 (ap key found.2 ∙ there.2)

-- nor does an exchange of elements change the keys
pub ContainsByKey-permuted : {X : Type 0} (key : X → ℤ) (xs ys : List X) (x : X) → IsPermutation xs ys → ContainsByKey key xs x
    → ContainsByKey key ys x
ContainsByKey-permuted key xs ys x permutation there =
    let here = slice_index_or xs there.0 x in
    let itself = get_or_default xs there.0 here x there.1 in
    let found = Contains-permutation xs ys here permutation (there.0, there.1, itself) in
    at_index key ys found.0 x here found.1 (ap key found.2 ∙ there.2)

-- ---- two lists joined

-- they have each key of the second
pub ContainsByKey-right : {X : Type 0} (key : X → ℤ) (xs ys zs : List X) (x : X) → zs ≡ xs ++ ys → ContainsByKey key ys x → ContainsByKey key zs x
ContainsByKey-right key xs ys zs x e there =
    rw e (length xs + there.0, omega (arith, there.1, length-append xs ys), ap key (get_or-append-add xs ys there.0 x) ∙ there.2)

-- a key of two joined lists is in one of them
pub ContainsByKey-joined : {X : Type 0} (key : X → ℤ) (xs ys zs : List X) (x : X) → zs ≡ xs ++ ys → ContainsByKey key zs x
    → ContainsByKey key xs x ⊎ ContainsByKey key ys x
ContainsByKey-joined key xs ys zs x e found = in_one (rw e at found)
  where
    in_one : ContainsByKey key (xs ++ ys) x → ContainsByKey key xs x ⊎ ContainsByKey key ys x
    in_one there =
        elim (cases_lt there.0 (length xs)) [
          | inl before ↦ inl (there.0, before, ap key (sym (get_or_append_left xs ys x there.0 before)) ∙ there.2)
          | inr after ↦ (let same = get_or-append_right xs ys there.0 x after in
              inr (there.0 - length xs, omega (arith, there.1, length-append xs ys), ap key (sym same) ∙ there.2))
        ]

-- ---- the last of a list in order

pub rises : {X : Type 0} (key : X → ℤ) (xs : List X) → IsSortedByKey key int_cmp xs → (j k : ℕ) (d : X) → k + j < length xs
    → key (get_or xs k d) ≤ℤ key (get_or xs (k + j) d)
rises key xs h zero k d within =
    let here : k + 0 ≡ k = omega arith in rw here (omega (arith, ints))
rises key xs h (suc j) k d within =
    let next : k + suc j ≡ k + j + 1 = omega arith in
    let before = rises key xs h j k d (omega arith) in
    let here = get_or xs (k + j) d in
    let after = get_or xs (k + j + 1) d in
    let step : key here ≤ℤ key after = not_later (key here) (key after) (h (k + j) d (omega arith) (omega arith)) in
    rw next (omega (arith, ints, before, step))

none_later : {X : Type 0} (key : X → ℤ) (xs : List X) (last : X) → IsSortedByKey key int_cmp xs → slice_get xs (length xs - 1) ≡ Some last
    → All (λ x. key x ≤ℤ key last) xs
none_later key xs last h e k d within =
    let end : k + (length xs - 1 - k) ≡ length xs - 1 = omega arith in
    let above = rw end at (rises key xs h (length xs - 1 - k) k d (omega arith)) in
    rw (get_or_from_slice_get xs (length xs - 1) last d e) at above

pub none_later-last : {X : Type 0} (key : X → ℤ) (xs : List X) (r : Option X) → r ≡ slice_get xs (length xs - 1) → IsSortedByKey key int_cmp xs
    → IfSome r (λ last. All (λ x. key x ≤ℤ key last) xs)
none_later-last key xs None e h = tt
none_later-last key xs (Some last) e h = none_later key xs last h (sym e)

-- the same of a list of numbers
pub IsSorted-strictly : (xs : List ℤ) → IsStrictlySortedBy int_cmp xs → IsSorted int_cmp xs
IsSorted-strictly = IsSortedByKey-strictly (λ x. x)

-- the rule set for callers that keep a log in order, with each instant once
pub ruleset without_repeats = (IsSorted-strictly, IsSortedByKey-strictly)
