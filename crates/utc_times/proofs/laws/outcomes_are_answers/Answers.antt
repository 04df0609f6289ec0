use Rattle.std.proofs.Common.{List, ℕ, ℤ, arith}
use Rattle.std.proofs.lemmas.Int.{ints}
use Rattle.calendar_values.specs.Outcomes.{IsOneAnswer}
use Rattle.calendar_values.specs.OutcomeLemmas.{IsOneAnswer-tested}
use Rattle.calendar_values.specs.Range.{is_outside}
use Rattle.calendar_values.specs.WallClock.{first_wall_clock, last_wall_clock, IsWallClock}
use Rattle.utc_times.specs.UnixTime.{instant_or_refusal, instant_outcome}
use Rattle.utc_times.proofs.laws.outcomes_are_answers.Goals as goal

counted : (name : List ℕ) (i : ℤ) → IsOneAnswer (instant_outcome name i)
unfolding instant_or_refusal
counted name i =
    IsOneAnswer-tested (IsWallClock i) (is_outside first_wall_clock last_wall_clock i) i _ (λ f. grind (arith, ints)) (λ t. grind (arith, ints))

pub returns-clause-counts : goal.returns-clause-counts
returns-clause-counts c = counted
