use Rattle.std.proofs.Common.{◌≡◌, ℕ, ◌%◌, pos, ◌-ℤ◌, arith, rules, refl}
use Rattle.std.proofs.lemmas.Int.{ints}
use Rattle.std.specs.Duration.{as_nanos}
use Rattle.calendar_values.specs.Adjustments.{adjustment_days}
use Rattle.calendar_values.specs.Clock.{IsClock, nanos_per_day}
use Rattle.calendar_values.specs.WallClock.{wall_clock}
use Rattle.calendar_values.specs.declared.date_adjustment.DateAdjustment.{DateAdjustment}
use Rattle.calendar_values.specs.declared.date_adjustment.DateAdjustment.TheVariants.{Previous, Same, Next}
use Rattle.calendar_values.proofs.time.Time.adjusting_sub_std.Goals.{in-Previous, in_default}
use Rattle.calendar_values.proofs.time.Time.adjusting_sub_std.Goals as goal

-- an earlier time that is not on the day before is on the same day
same_day : (adjustment : DateAdjustment) (c d t : ℕ) → (adjustment ≡ Previous → ⊥) → wall_clock (adjustment_days adjustment) t ≡ pos c -ℤ pos d →
    IsClock c → wall_clock (pos 0) t ≡ pos c -ℤ pos d
same_day Previous c d t changes sum clock = absurd (changes refl)
same_day Same c d t changes sum clock = sum
same_day Next c d t changes sum clock = absurd (omega (arith, ints))

pub returns-clause-difference : goal.returns-clause-difference
returns-clause-difference c =
    let left = as_nanos c.args.duration % nanos_per_day in
    let sum : wall_clock (adjustment_days c.moved_by-adjustment.result.0) c.moved_by-adjustment.result.1 ≡ pos c.args.self -ℤ pos left = search rules in
    elim c.match-matches.branch [
      | in-Previous w ↦ rw w.matches-is (rw w.in-Previous.is at sum)
      | in_default w ↦ rw w.matches-is (same_day _ c.args.self left _ w.in_default.not-Previous sum c.moved_by-adjustment.ensures.self_in_range)
    ]
