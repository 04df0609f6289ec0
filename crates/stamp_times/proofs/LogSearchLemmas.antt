-- What a search of a log in the order of its instants finds.
use Rattle.std.proofs.Common.{◌≡◌, ℕ, inl, inr, ap, ◌∙◌, arith, ℤ, int_cmp, List, slice_index_or}
use Rattle.std.proofs.lemmas.Bool.{cases_order}
use Rattle.std.proofs.lemmas.Cmp.{int_cmp_total}
use Rattle.std.proofs.lemmas.Int.{ints}
use Rattle.std.proofs.lemmas.List.Sorted.{searchable_from_sorted}
use Rattle.std.specs.List.Sorted.{IsSortedByKey, IsStrictlySortedBy, IsNonDecreasingBy, IsPartitionPoint}
use Rattle.std.specs.Ordering.{ordering_index, on}
use Rattle.std.specs.declared.cmp.Ordering.TheVariants.{Less, Equal, Greater}
use Rattle.stamp_times.specs.LogLemmas.{IsSortedByKey-strictly}
use Rattle.stamp_times.specs.Logs.{ContainsByKey}

-- a function of two values that their keys decide
pub by_key : {X R : Type 0} {f : X → X → R} (key : X → ℤ) (of_keys : ℤ → ℤ → R) → ((x y : X) → f x y ≡ of_keys (key x) (key y)) → f ≡ on key of_keys
by_key key of_keys h = λ i x y. h x y i

int_cmp-same : (x : ℤ) → int_cmp x x ≡ Equal
int_cmp-same x = grind (arith, ints)

pub equal-int_cmp : (x y : ℤ) → int_cmp x y ≡ Equal → x ≡ y
equal-int_cmp x y e = grind (arith, ints)

-- what a search of a sorted log does not find is not in it
pub not_ContainsByKey-searched : {X : Type 0} (key : X → ℤ) (xs : List X) (x : X) (i : ℕ) → IsSortedByKey key int_cmp xs
    → (IsNonDecreasingBy (λ y. ordering_index (int_cmp (key y) (key x))) xs
    → IsPartitionPoint (λ y. int_cmp (key y) (key x) ≡ Less) (λ y. int_cmp (key y) (key x) ≡ Greater) xs i)
    → ContainsByKey key xs x → ⊥
not_ContainsByKey-searched key xs x i sorted searched found =
    let k = found.0 in
    let here : int_cmp (key (slice_index_or xs k x)) (key x) ≡ Equal = ap (λ (y : ℤ). int_cmp y (key x)) found.2 ∙ int_cmp-same (key x) in
    let parts = searched (searchable_from_sorted int_cmp_total key xs (key x) sorted) in
    elim (cases_order k i) [
      | inl same ↦ (let after : int_cmp (key (slice_index_or xs k x)) (key x) ≡ Greater = parts.1 k x (omega arith) found.1 in cc)
      | inr (inl lt) ↦ (let before : int_cmp (key (slice_index_or xs k x)) (key x) ≡ Less = parts.0 k x (omega arith) lt in cc)
      | inr (inr gt) ↦ (let after : int_cmp (key (slice_index_or xs k x)) (key x) ≡ Greater = parts.1 k x (omega arith) found.1 in cc)
    ]

-- nor in one in which each instant is once
pub not_ContainsByKey-strictly : {X : Type 0} (key : X → ℤ) (xs ys : List X) (x : X) (i : ℕ) → ys ≡ xs → IsStrictlySortedBy (on key int_cmp) xs
    → (IsNonDecreasingBy (λ y. ordering_index (int_cmp (key y) (key x))) ys
    → IsPartitionPoint (λ y. int_cmp (key y) (key x) ≡ Less) (λ y. int_cmp (key y) (key x) ≡ Greater) ys i)
    → ContainsByKey key xs x → ⊥
not_ContainsByKey-strictly key xs ys x i same strictly searched found =
    let sorted : IsSortedByKey key int_cmp ys = rw same (IsSortedByKey-strictly key xs strictly) in
    not_ContainsByKey-searched key ys x i sorted searched (rw same found)
