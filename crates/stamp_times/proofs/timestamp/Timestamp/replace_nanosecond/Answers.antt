use Rattle.std.proofs.Common.{refl, arith}
use Rattle.plain_times.specs.ReplacementLemmas.{AtTime-nanosecond}
use Rattle.stamp_times.proofs.timestamp.Timestamp.replace_nanosecond.Goals as goal

pub returns-clause-shown : goal.returns-clause-shown
returns-clause-shown c =
    AtTime-nanosecond c.args.self c.with_nanosecond.result _ c.args.nanosecond (omega arith) refl c.with_nanosecond.ensures
