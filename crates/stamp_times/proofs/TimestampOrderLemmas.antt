-- The order of instants is that of their seconds, and of their nanoseconds in one second.
use Rattle.std.proofs.Common.{◌≡◌, ℕ, ◌<◌, arith, ℤ, nat_cmp}
use Rattle.std.specs.Ordering.{int_cmp, ordering_then}
use Rattle.calendar_values.specs.Clock.{nanos_per_second}
use Rattle.calendar_values.specs.OrderLemmas.{int_cmp-parts}
use Rattle.calendar_values.specs.SignedArith.{signed_arith}
use Rattle.stamp_times.specs.Instants.{instant_of_parts}

pub int_cmp-instant_of_parts : (s t : ℤ) (n m : ℕ) → n < nanos_per_second → m < nanos_per_second →
    ordering_then (int_cmp s t) (nat_cmp n m) ≡ int_cmp (instant_of_parts s n) (instant_of_parts t m)
int_cmp-instant_of_parts s t n m h k =
    int_cmp-parts s t (instant_of_parts s n) (instant_of_parts t m) n m
    (λ lt. omega (arith, signed_arith)) (λ gt. omega (arith, signed_arith)) (λ e. omega (arith, signed_arith))
