-- Conversions, sums and truncations at an offset, by what their calls answer.
use Rattle.std.proofs.Common.{◌≡◌, ℕ, ◌<◌, refl, ap, sym, ◌∙◌, subst, arith, ℤ, ◌+ℤ◌, ◌-ℤ◌, Option, Some, None, SomeIff}
use Rattle.std.proofs.lemmas.Int.{ints}
use Rattle.calendar_values.specs.WallClock.{IsWallClock}
use Rattle.offset_times.specs.InstantLemmas.{instant_of-local_at, shown_at-instant_of, local_at-instant_of}
use Rattle.offset_times.specs.Local.{Local, instant_of, wall_at, local_at, shown_at, local_multiple_below}
use Rattle.plain_times.specs.TruncationLemmas.{wall_multiple_below-twice}

-- an answer that is a value exactly under a condition is that value where the condition holds
answered : {P : Type 0} (answer : Option Local) (value : Local) → SomeIff answer P value → P → answer ≡ Some value
answered (Some given) value h holds = ap Some h.1
answered None value h holds = absurd (h holds)

-- a conversion of what keeps the instant answers as one of the original does
pub conversion-again : (at first : Local) (a b : ℤ) (second : Option Local)
    → SomeIff (Some first) (IsWallClock (shown_at (instant_of at) a)) (local_at (instant_of at) a)
    → SomeIff second (IsWallClock (shown_at (instant_of first) b)) (local_at (instant_of first) b)
    → SomeIff second (IsWallClock (shown_at (instant_of at) b)) (local_at (instant_of at) b)
conversion-again at first a b second accepted answer =
    let kept : instant_of first ≡ instant_of at = ap instant_of accepted.1 ∙ instant_of-local_at (instant_of at) a in
    subst (λ (i : ℤ). SomeIff second (IsWallClock (shown_at i b)) (local_at i b)) kept answer

pub conversion-own : (at : Local) (converted : Option Local) → IsWallClock at.wall
    → SomeIff converted (IsWallClock (shown_at (instant_of at) at.offset)) (local_at (instant_of at) at.offset)
    → converted ≡ Some at
conversion-own at converted in_range answer =
    let shown = subst (λ (w : ℤ). IsWallClock w) (sym (shown_at-instant_of at)) in_range in
    answered converted (local_at (instant_of at) at.offset) answer shown ∙ ap Some (local_at-instant_of at)

-- a sum and the same duration taken away
sum_back : (w d : ℤ) → w +ℤ d -ℤ d ≡ w
sum_back w d = omega (arith, ints)

pub difference-undoes_sum : (at sum : Local) (d : ℤ) (back : Option Local) → IsWallClock at.wall
    → SomeIff (Some sum) (IsWallClock (at.wall +ℤ d)) (wall_at (at.wall +ℤ d) at.offset)
    → SomeIff back (IsWallClock (sum.wall -ℤ d)) (wall_at (sum.wall -ℤ d) sum.offset)
    → back ≡ Some at
difference-undoes_sum at sum d back in_range accepted answer =
    let wall : sum.wall -ℤ d ≡ at.wall = ap (λ (s : Local). s.wall -ℤ d) accepted.1 ∙ sum_back at.wall d in
    let offset : sum.offset ≡ at.offset = ap (λ (s : Local). s.offset) accepted.1 in
    let same : wall_at (sum.wall -ℤ d) sum.offset ≡ at =
    ap (λ (w : ℤ). wall_at w sum.offset) wall ∙ ap (λ (o : ℤ). wall_at at.wall o) offset in
    answered back (wall_at (sum.wall -ℤ d) sum.offset) answer (subst (λ (w : ℤ). IsWallClock w) (sym wall) in_range) ∙ ap Some same

answered_alike : (r q : Option Local) (P : Type 0) (v : Local) → SomeIff r P v → SomeIff q P v → r ≡ q
answered_alike None None P v h k = refl
answered_alike None (Some y) P v h k = absurd (h k.0)
answered_alike (Some x) None P v h k = absurd (k h.0)
answered_alike (Some x) (Some y) P v h k = ap Some (h.1 ∙ sym k.1)

sums_on : (w d e sum : ℤ) → sum ≡ w +ℤ d → sum +ℤ e ≡ w +ℤ (d +ℤ e)
sums_on w d e sum h = omega (arith, ints)

pub sums-associate : (at sum : Local) (d e : ℤ) (second both : Option Local)
    → SomeIff (Some sum) (IsWallClock (at.wall +ℤ d)) (wall_at (at.wall +ℤ d) at.offset)
    → SomeIff second (IsWallClock (sum.wall +ℤ e)) (wall_at (sum.wall +ℤ e) sum.offset)
    → SomeIff both (IsWallClock (at.wall +ℤ (d +ℤ e))) (wall_at (at.wall +ℤ (d +ℤ e)) at.offset)
    → second ≡ both
sums-associate at sum d e second both first one_by_one at_once =
    let wall : sum.wall +ℤ e ≡ at.wall +ℤ (d +ℤ e) = sums_on at.wall d e sum.wall (ap (λ (s : Local). s.wall) first.1) in
    let offset : sum.offset ≡ at.offset = ap (λ (s : Local). s.offset) first.1 in
    let same : wall_at (sum.wall +ℤ e) sum.offset ≡ wall_at (at.wall +ℤ (d +ℤ e)) at.offset =
    ap (λ (w : ℤ). wall_at w sum.offset) wall ∙ ap (λ (o : ℤ). wall_at (at.wall +ℤ (d +ℤ e)) o) offset in
    answered_alike second both _ _ (subst (λ (l : Local). SomeIff second (IsWallClock l.wall) l) same one_by_one) at_once

-- a difference, added to its second value
difference_there : (a b : Local) → b.wall +ℤ (instant_of a -ℤ instant_of b) ≡ shown_at (instant_of a) b.offset
unfolding instant_of
difference_there a b = omega (arith, ints)

pub difference-leads_back : (a b : Local) (sum : Option Local) → IsWallClock (shown_at (instant_of a) b.offset)
    → (let wall = b.wall +ℤ (instant_of a -ℤ instant_of b) in SomeIff sum (IsWallClock wall) (wall_at wall b.offset))
    → sum ≡ Some (local_at (instant_of a) b.offset)
difference-leads_back a b sum in_range answer =
    let there = difference_there a b in
    let wall = b.wall +ℤ (instant_of a -ℤ instant_of b) in
    answered sum (wall_at wall b.offset) answer (subst (λ (w : ℤ). IsWallClock w) (sym there) in_range)
    ∙ ap (λ (w : ℤ). Some (wall_at w b.offset)) there

pub local_multiple_below-twice : (unit : ℕ) (at : Local) → 0 < unit → local_multiple_below unit (local_multiple_below unit at) ≡ local_multiple_below unit at
local_multiple_below-twice unit at some = ap (λ (w : ℤ). wall_at w at.offset) (wall_multiple_below-twice unit at.wall some)
