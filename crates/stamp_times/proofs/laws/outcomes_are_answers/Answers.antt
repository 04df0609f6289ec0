use Rattle.std.proofs.Common.{◌||◌, ◌<◌, ℕ, ℤ, nat_lt, arith}
use Rattle.std.proofs.lemmas.Bool.Decides.{nat_tests}
use Rattle.std.proofs.lemmas.Int.{ints}
use Rattle.calendar_values.specs.Outcomes.{IsOneAnswer}
use Rattle.calendar_values.specs.OutcomeLemmas.{IsOneAnswer-tested}
use Rattle.calendar_values.specs.Range.{is_outside}
use Rattle.calendar_values.specs.WallClock.{first_wall_clock, last_wall_clock, IsWallClock}
use Rattle.utc_times.specs.UnixTime.{instant_of_second}
use Rattle.stamp_times.specs.Instants.{instant_of_parts}
use Rattle.stamp_times.specs.Refusals.{timestamp_of_parts, timestamp_outcome, parts_refusal}
use Rattle.stamp_times.proofs.laws.outcomes_are_answers.Goals as goal

of_parts : (s : ℤ) (n : ℕ) → IsOneAnswer (timestamp_outcome s n)
unfolding timestamp_of_parts
of_parts s n =
    IsOneAnswer-tested (IsWallClock (instant_of_second s) × (n < 1_000_000_000))
    (is_outside first_wall_clock last_wall_clock (instant_of_second s) || nat_lt 999_999_999 n) (instant_of_parts s n) (parts_refusal s)
    (λ f. grind (arith, nat_tests, ints)) (λ t. grind (arith, nat_tests, ints))

pub returns-clause-parts : goal.returns-clause-parts
returns-clause-parts c = of_parts
