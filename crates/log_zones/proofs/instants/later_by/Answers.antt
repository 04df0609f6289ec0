use Rattle.std.proofs.Common.{◌≡◌, ◌∙◌, ℤ, pos, ◌+ℤ◌, ◌*ℤ◌, Option, FitsSigned, to_z, of_z, arith, ap, subst}
use Rattle.std.specs.Prelude.{SomeIff}
use mir.Syntax.{w64}
use Rattle.calendar_values.specs.Clock.{nanos_per_second}
use Rattle.calendar_values.specs.SignedArith.{signed_arith}
use Rattle.calendar_values.specs.WallClock.{IsWallClock}
use Rattle.log_zones.specs.Instants.{in_range}
use Rattle.plain_times.specs.SumLemmas.{wall_clock_if_any-SomeIff}
use Rattle.plain_times.specs.Sums.{wall_clock_if_any}
use Rattle.log_zones.proofs.instants.later_by.Goals as goal

-- the instant that a sum gives, if it is in range
sum_is : (i s d : ℤ) (found got : Option ℤ) → found ≡ got → d ≡ s *ℤ pos nanos_per_second → SomeIff found (IsWallClock (i +ℤ d)) (i +ℤ d)
    → in_range got ≡ in_range (wall_clock_if_any (i +ℤ s *ℤ pos nanos_per_second))
sum_is i s d found got same e h =
    ap in_range
    (wall_clock_if_any-SomeIff got (i +ℤ d) (subst (λ (o : Option ℤ). SomeIff o (IsWallClock (i +ℤ d)) (i +ℤ d)) same h)
    ∙ ap (λ (z : ℤ). wall_clock_if_any (i +ℤ z)) e)

back : (z : ℤ) → FitsSigned w64 z → to_z w64 (of_z w64 z) ≡ z
back z h = omega (arith, signed_arith)

pub returns-in-Some : goal.returns-in-Some
returns-in-Some c =
    let e = c.seconds.ensures ∙ ap (λ (s : ℤ). s *ℤ pos nanos_per_second) (back c.args.seconds c.ranges.seconds) in
    sum_is c.args.instant c.args.seconds c.seconds.result _ _ c.in-Some.is e c.checked_add.ensures

pub returns-in-None : goal.returns-in-None
returns-in-None c =
    let e = c.seconds.ensures ∙ ap (λ (s : ℤ). s *ℤ pos nanos_per_second) (back c.args.seconds c.ranges.seconds) in
    sum_is c.args.instant c.args.seconds c.seconds.result _ _ c.in-None.is e c.checked_add.ensures
