-- The order of instants.
use Rattle.std.proofs.Common.{◌≡◌, true, false, ℤ, Option, Some, None, refl, sym, arith}
use Rattle.std.proofs.lemmas.Bool.{false≢true}
use Rattle.std.proofs.lemmas.Bool.Decides.{nat_tests}
use Rattle.line_merges.specs.Instants.{is_before}

pub before-self : (a : Option ℤ) → is_before a a ≡ false
before-self None = refl
before-self (Some a) = grind (arith, nat_tests)

-- an instant before another is not after it
pub before-not_after : (a b : Option ℤ) → is_before a b ≡ true → is_before b a ≡ false
before-not_after a None h = absurd (false≢true h)
before-not_after None (Some b) h = refl
before-not_after (Some a) (Some b) h = grind (arith, nat_tests)

-- not after, and not after
pub not_after-trans : (a b c : Option ℤ) → is_before b a ≡ false → is_before c b ≡ false → is_before c a ≡ false
not_after-trans None b c h k = refl
not_after-trans (Some a) None c h k = absurd (false≢true (sym h))
not_after-trans (Some a) (Some b) None h k = absurd (false≢true (sym k))
not_after-trans (Some a) (Some b) (Some c) h k = grind (arith, nat_tests)

-- before, and not after
pub before-trans : (a b c : Option ℤ) → is_before a b ≡ true → is_before c b ≡ false → is_before a c ≡ true
before-trans a None c h k = absurd (false≢true h)
before-trans None (Some b) None h k = absurd (false≢true (sym k))
before-trans None (Some b) (Some c) h k = refl
before-trans (Some a) (Some b) None h k = absurd (false≢true (sym k))
before-trans (Some a) (Some b) (Some c) h k = grind (arith, nat_tests)
