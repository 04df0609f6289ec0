-- Numbers in order by their parts.
use Rattle.std.proofs.Common.{◌≡◌, ℕ, inl, inr, sym, arith, ℤ, pos, ◌-ℤ◌, ◌<ℤ◌, nat_cmp}
use Rattle.std.proofs.lemmas.Bool.{cases_order}
use Rattle.std.proofs.lemmas.Int.{ints, by_lt_z}
use Rattle.std.specs.Cmp.{int_cmp_is, nat_cmp_is}
use Rattle.std.specs.Ordering.{int_cmp, ordering_then}
use Rattle.std.specs.declared.cmp.Ordering.TheVariants.{Less, Equal, Greater}

earlier : (y z m n i j : ℤ) → y <ℤ z → i <ℤ j → ordering_then (int_cmp y z) (int_cmp m n) ≡ int_cmp i j
earlier y z m n i j first whole = grind (arith, ints)

later : (y z m n i j : ℤ) → z <ℤ y → j <ℤ i → ordering_then (int_cmp y z) (int_cmp m n) ≡ int_cmp i j
later y z m n i j first whole = grind (arith, ints)

-- two comparisons agree if each outcome of the first implies the same outcome of the second
pub int_cmp_agrees : (a b x y : ℤ) → (a <ℤ b → x <ℤ y) → (b <ℤ a → y <ℤ x) → (a ≡ b → x ≡ y) → int_cmp a b ≡ int_cmp x y
int_cmp_agrees a b x y l g s = grind (arith, ints)

level : (m n i j : ℤ) → i -ℤ j ≡ m -ℤ n → int_cmp m n ≡ int_cmp i j
level m n i j apart = int_cmp_agrees m n i j (λ lt. omega (arith, ints)) (λ gt. omega (arith, ints)) (λ e. omega (arith, ints))

tie : (y z : ℤ) → y ≡ z → int_cmp y z ≡ Equal
tie y z e = grind (arith, ints)

nat_cmp-pos : (o p : ℕ) → nat_cmp o p ≡ int_cmp (pos o) (pos p)
nat_cmp-pos o p = elim (cases_order o p) [
  | inl e ↦ rw (sym (nat_cmp_is o p Equal e)) (int_cmp_is (pos o) (pos p) Equal (omega (arith, ints)))
  | inr (inl lt) ↦ rw (sym (nat_cmp_is o p Less lt)) (int_cmp_is (pos o) (pos p) Less (omega (arith, ints)))
  | inr (inr gt) ↦ rw (sym (nat_cmp_is o p Greater gt)) (int_cmp_is (pos o) (pos p) Greater (omega (arith, ints)))
]

-- two numbers compare as their first parts do, and as their second parts if the first are equal
pub int_cmp-parts : (y z i j : ℤ) (o p : ℕ) → (y <ℤ z → i <ℤ j) → (z <ℤ y → j <ℤ i) → (y ≡ z → i -ℤ j ≡ pos o -ℤ pos p)
    → ordering_then (int_cmp y z) (nat_cmp o p) ≡ int_cmp i j
int_cmp-parts y z i j o p less more same =
    rw (nat_cmp-pos o p) (by_lt_z y z (λ lt. earlier y z (pos o) (pos p) i j lt (less lt))
    (λ ge. by_lt_z z y (λ gt. later y z (pos o) (pos p) i j gt (more gt))
    (λ le. let e : y ≡ z = omega (arith, ints) in rw (tie y z e) (level (pos o) (pos p) i j (same e)))))
