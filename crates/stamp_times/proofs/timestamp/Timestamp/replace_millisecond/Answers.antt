use Rattle.std.proofs.Common.{◌*◌, refl, arith}
use Rattle.calendar_values.specs.Clock.{nanos_per_millisecond}
use Rattle.plain_times.specs.ReplacementLemmas.{AtTime-nanosecond}
use Rattle.stamp_times.proofs.timestamp.Timestamp.replace_millisecond.Goals as goal

pub returns-clause-shown : goal.returns-clause-shown
returns-clause-shown c =
    AtTime-nanosecond c.args.self c.with_nanosecond.result _ (c.args.millisecond * nanos_per_millisecond) (omega arith) refl c.with_nanosecond.ensures
