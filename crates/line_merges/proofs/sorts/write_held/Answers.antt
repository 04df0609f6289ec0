use Rattle.std.proofs.Common.{◌∙◌, subst, arith}
use Rattle.std.specs.Io.KnownBytes.{Appends}
use Rattle.line_devices.specs.WritingLemmas.{Appends-flushed, Sends-append}
use Rattle.line_merges.proofs.SortLemmas.{held_text-all, held_text-more}
use Rattle.line_merges.proofs.sorts.write_held.Goals as goal

pub lines-preserved : goal.lines-preserved
lines-preserved g c =
    let so = c.lines.invariant in
    record {
      within = omega (arith, c.lines-test.true);
      sent = (
        _,
        Sends-append _ _ _ _ _ _ _ so.sent.1 c.in_ok-write_line.ensures.sent,
        held_text-more c.args.held.now c.lines.place _ so.sent.0 c.lines-test.true so.sent.2,
      );
      mark = c.in_ok-write_line.ensures.mark ∙ so.mark;
    }

pub returns-clause-written : goal.returns-clause-written
returns-clause-written g c =
    let so = c.lines.invariant in
    subst (Appends _ _) (held_text-all c.args.held.now c.lines.place so.sent.0 (omega (arith, c.lines-test.false)) so.sent.2)
    (Appends-flushed _ _ _ _ _ so.sent.1 c.in_ok-flush.ensures.written)
