use Rattle.std.proofs.Common.{◌≡◌, ℤ, ◌-ℤ◌, Option, ap, subst}
use Rattle.std.specs.Prelude.{SomeIff}
use Rattle.calendar_values.specs.WallClock.{IsWallClock}
use Rattle.plain_times.specs.SumLemmas.{wall_clock_if_any-SomeIff}
use Rattle.plain_times.specs.Sums.{wall_clock_if_any}
use Rattle.stamps.specs.Bounds.{in_range}
use Rattle.stamps.proofs.bounds.back_by.Goals as goal

-- the instant that a difference gives, if it is in range
difference_is : (i d : ℤ) (found got : Option ℤ) → found ≡ got → SomeIff found (IsWallClock (i -ℤ d)) (i -ℤ d)
    → in_range got ≡ in_range (wall_clock_if_any (i -ℤ d))
difference_is i d found got same h =
    ap in_range (wall_clock_if_any-SomeIff got (i -ℤ d) (subst (λ (o : Option ℤ). SomeIff o (IsWallClock (i -ℤ d)) (i -ℤ d)) same h))

pub returns-in-Some : goal.returns-in-Some
returns-in-Some c = difference_is c.args.instant c.args.duration c.checked_sub.result _ c.in-Some.is c.checked_sub.ensures

pub returns-in-None : goal.returns-in-None
returns-in-None c = difference_is c.args.instant c.args.duration c.checked_sub.result _ c.in-None.is c.checked_sub.ensures
