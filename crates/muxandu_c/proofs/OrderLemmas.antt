-- The order of two instants, by what clocks show and by the seconds of the offsets.
use Rattle.std.proofs.Common.{◌≡◌, ℕ, ◌≤◌, arith, ℤ, ◌-ℤ◌, nat_cmp, refl}
use Rattle.std.specs.Ordering.{int_cmp, ordering_then}
use Rattle.calendar_values.specs.OrderLemmas.{int_cmp-parts}
use Rattle.calendar_values.specs.SignedArith.{signed_arith}
use Rattle.calendar_values.specs.WallClock.{unix_seconds_of}
use Rattle.offset_times.specs.Local.{Local, instant_of, offset_nanos}
use Rattle.stamp_times.specs.Instants.{instant_of_parts, unix_nanosecond_of}
use Rattle.stamp_times.specs.TimestampLemmas.{instant_of_parts-of}

parts-order : (i j v w s t o p : ℤ) (n m : ℕ) → instant_of_parts s n ≡ v → instant_of_parts t m ≡ w → i ≡ v -ℤ offset_nanos o → j ≡ w -ℤ offset_nanos p
    → n ≤ 999_999_999 → m ≤ 999_999_999 → ordering_then (int_cmp (s -ℤ o) (t -ℤ p)) (nat_cmp n m) ≡ int_cmp i j
parts-order i j v w s t o p n m e f g h k l =
    int_cmp-parts (s -ℤ o) (t -ℤ p) i j n m
    (λ lt. omega (arith, signed_arith)) (λ gt. omega (arith, signed_arith)) (λ same. omega (arith, signed_arith))

pub instant-order : (a b : Local) (v w : ℤ) → v ≡ a.wall → w ≡ b.wall → unix_nanosecond_of v ≤ 999_999_999 → unix_nanosecond_of w ≤ 999_999_999
    → ordering_then (int_cmp (unix_seconds_of v -ℤ a.offset) (unix_seconds_of w -ℤ b.offset)) (nat_cmp (unix_nanosecond_of v) (unix_nanosecond_of w))
    ≡ int_cmp (instant_of a) (instant_of b)
unfolding instant_of
instant-order a b v w e f g h =
    parts-order (instant_of a) (instant_of b) v w _ _ a.offset b.offset _ _ (instant_of_parts-of v) (instant_of_parts-of w)
    (rw e refl) (rw f refl) g h
