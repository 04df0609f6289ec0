use Rattle.std.proofs.Common.{arith}
use Rattle.stamp_times.specs.Texts.{fraction_text}
use Rattle.rfc3339.proofs.PutLemmas.{put_none}
use Rattle.rfc3339.proofs.write_into.put_fraction.Goals as goal

pub returns-then-nanosecond-eq0-clause-value : goal.returns-then-nanosecond-eq0-clause-value
unfolding fraction_text
returns-then-nanosecond-eq0-clause-value c = rw c.if-nanosecond-eq0.true (put_none c.args.bytes.now c.args.place)

pub returns-then-nanosecond-eq0-clause-place : goal.returns-then-nanosecond-eq0-clause-place
unfolding fraction_text
returns-then-nanosecond-eq0-clause-place c = rw c.if-nanosecond-eq0.true (omega arith)
