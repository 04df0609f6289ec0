use Rattle.std.proofs.Common.{◌≡◌, ◌↔◌, ℕ, ℤ, Result, Ok}
use Rattle.calendar_values.specs.Clock.{HasTimeParts}
use Rattle.calendar_values.specs.Outcomes.{answer_within}
use Rattle.calendar_values.specs.Refusals.{Refusal}
use Rattle.calendar_values.specs.ClockReplacementLemmas.{millisecond_of-exact, microsecond_of-exact}
use Rattle.calendar_values.specs.WallClock.{wall_time}
use Rattle.calendar_values.specs.WallClockLemmas.{IsClock-wall_time}
use Rattle.plain_times.specs.ReplacementLemmas.{wall_day-accepted, wall_time-accepted}
use Rattle.plain_times.specs.Replacements.{with_time}
use Rattle.plain_times.proofs.laws.replaced_parts_read_as_given.Goals as goal

-- the clock of an accepted replacement is the one that the replaced wall clock shows
shown : (w v : ℤ) (r : Result ℕ Refusal) (h m s n : ℕ) → ((c : ℕ) → (r ≡ Ok c) ↔ HasTimeParts c h m s n) → answer_within (with_time w) r ≡ Ok v
    → HasTimeParts (wall_time v) h m s n
shown w v r h m s n law e = (law (wall_time v)).0 (wall_time-accepted w v r (λ c is. ((law c).0 is).clock) e)

pub returns : goal.returns
returns c =
    let dates = c.replacements_keep_the_rest.ensures in
    let clocks = c.clock_replacements_keep_the_rest.ensures in
    record {
      year = λ w v y e. (dates.year _ _ _ (wall_day-accepted w v _ e)).year;
      month = λ w v m first last e. (dates.month _ _ _ first last (wall_day-accepted w v _ e)).month;
      day = λ w v d e. (dates.day _ _ _ (wall_day-accepted w v _ e)).day;
      ordinal = λ w v o e. (dates.ordinal _ _ _ (wall_day-accepted w v _ e)).1;
      hour = λ w v n e. (shown w v _ _ _ _ _ (λ c. clocks.hour (wall_time w) n c (IsClock-wall_time w)) e).hour;
      minute = λ w v n e. (shown w v _ _ _ _ _ (λ c. clocks.minute (wall_time w) n c (IsClock-wall_time w)) e).minute;
      second = λ w v n e. (shown w v _ _ _ _ _ (λ c. clocks.second (wall_time w) n c (IsClock-wall_time w)) e).second;
      nanosecond = λ w v n e. (shown w v _ _ _ _ _ (λ c. clocks.nanosecond (wall_time w) n c (IsClock-wall_time w)) e).nanosecond;
      millisecond = λ w v n e. millisecond_of-exact (wall_time v) n (shown w v _ _ _ _ _ (λ c.
          clocks.millisecond (wall_time w) n c (IsClock-wall_time w)) e).nanosecond;
      microsecond = λ w v n e. microsecond_of-exact (wall_time v) n (shown w v _ _ _ _ _ (λ c.
          clocks.microsecond (wall_time w) n c (IsClock-wall_time w)) e).nanosecond;
    }
