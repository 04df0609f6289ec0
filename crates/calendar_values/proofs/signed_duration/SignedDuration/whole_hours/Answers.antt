use Rattle.std.proofs.Common.{◌≡◌, rules}
use Rattle.calendar_values.specs.DurationPartLemmas.{whole_seconds_of-parts}
use Rattle.calendar_values.specs.Durations.{whole_seconds_of}
use Rattle.calendar_values.proofs.DurationLemmas.{whole_hours_of-whole_seconds_of}
use Rattle.calendar_values.proofs.signed_duration.SignedDuration.whole_hours.Goals as goal

pub returns-clause-value : goal.returns-clause-value
returns-clause-value c =
    let seconds : whole_seconds_of c.args.self ≡ c.self.inside.seconds = rw (← c.self.view_is) (whole_seconds_of-parts _ _ c.self.invariant) in
    rw (whole_hours_of-whole_seconds_of c.args.self, seconds) (search rules)
