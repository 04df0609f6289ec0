-- Sums and differences of the wall clock, as a value at the same offset.
use Rattle.std.proofs.Common.{◌≡◌, ◌∙◌, ap, arith, ℤ, ◌+ℤ◌, ◌-ℤ◌, ◌≤ℤ◌, int_cmp, Some, SomeIff}
use Rattle.std.proofs.lemmas.Int.{ints}
use Rattle.calendar_values.specs.OrderLemmas.{int_cmp_agrees}
use Rattle.calendar_values.specs.WallClock.{IsWallClock}
use Rattle.offset_times.specs.InstantLemmas.{instant_of-later, instant_of-earlier}
use Rattle.offset_times.specs.Laws.{SumsKeepTheOrder}
use Rattle.offset_times.specs.Local.{Local, instant_of, wall_at, at_offset_of, IsLater, IsEarlier}
use Rattle.plain_times.specs.Sums.{nearest_wall_clock}

-- a value with so much later a wall clock is so much later
pub IsLater-wall : (at sum : Local) (own wall d : ℤ) → own ≡ at.wall → wall ≡ own +ℤ d → sum ≡ at_offset_of at wall → IsLater at d sum
IsLater-wall at sum own wall d e f g =
    let value : sum ≡ at_offset_of at (at.wall +ℤ d) = g ∙ ap (λ (w : ℤ). at_offset_of at w) (f ∙ ap (λ (w : ℤ). w +ℤ d) e) in
    (value, ap instant_of value ∙ instant_of-later at d)

pub IsEarlier-wall : (at difference : Local) (own wall d : ℤ) → own ≡ at.wall → wall ≡ own -ℤ d → difference ≡ at_offset_of at wall
    → IsEarlier at d difference
IsEarlier-wall at difference own wall d e f g =
    let value : difference ≡ at_offset_of at (at.wall -ℤ d) = g ∙ ap (λ (w : ℤ). at_offset_of at w) (f ∙ ap (λ (w : ℤ). w -ℤ d) e) in
    (value, ap instant_of value ∙ instant_of-earlier at d)

-- accepted sums lie as far apart as the values
both_moved : (i j d : ℤ) → int_cmp (i +ℤ d) (j +ℤ d) ≡ int_cmp i j
both_moved i j d =
    int_cmp_agrees (i +ℤ d) (j +ℤ d) i j (λ lt. omega (arith, ints)) (λ gt. omega (arith, ints)) (λ same. omega (arith, ints))

accepted_sums : (a b first second : Local) (d : ℤ) → SomeIff (Some first) (IsWallClock (a.wall +ℤ d)) (wall_at (a.wall +ℤ d) a.offset)
    → SomeIff (Some second) (IsWallClock (b.wall +ℤ d)) (wall_at (b.wall +ℤ d) b.offset)
    → int_cmp (instant_of first) (instant_of second) ≡ int_cmp (instant_of a) (instant_of b)
accepted_sums a b first second d h k =
    rw (ap instant_of h.1 ∙ instant_of-later a d, ap instant_of k.1 ∙ instant_of-later b d) (both_moved (instant_of a) (instant_of b) d)

-- the wall clocks nearest to two numbers are in their order
nearest_in_order : (w v : ℤ) → w ≤ℤ v → nearest_wall_clock w ≤ℤ nearest_wall_clock v
unfolding nearest_wall_clock
nearest_in_order w v h = grind (arith, ints)

saturating_sums : (a b : Local) (d : ℤ) → a.offset ≡ b.offset → instant_of a ≤ℤ instant_of b
    → instant_of (at_offset_of a (nearest_wall_clock (a.wall +ℤ d))) ≤ℤ instant_of (at_offset_of b (nearest_wall_clock (b.wall +ℤ d)))
unfolding instant_of
saturating_sums a b d same order =
    let sums = nearest_in_order (a.wall +ℤ d) (b.wall +ℤ d) (omega (arith, ints)) in omega (arith, ints)

pub sums-keep_the_order : SumsKeepTheOrder
sums-keep_the_order = record { accepted = accepted_sums; saturating = saturating_sums }
