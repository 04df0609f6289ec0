use Rattle.std.proofs.Common.{Ok, ap, sym}
use Rattle.std.proofs.lemmas.Result.{err_from_is_err_and}
use Rattle.line_devices.specs.WritingLemmas.{Appends-flushed, AppendsBeginning-flushed}
use Rattle.line_counts.proofs.TakeLemmas.{falls_at, line_at_fault, line_passed, no_fault}
use Rattle.line_counts.proofs.tallies.take_line.Goals as goal

pub returns-in_err-send_last-clause-takes : goal.returns-in_err-send_last-clause-takes
returns-in_err-send_last-clause-takes g c =
    let p = err_from_is_err_and c.from_residual.result c.from_residual.ensures.1 in
    let line = line_at_fault (g.B.Buckets.counting c.args.buckets.now) c.args.is_strict c.args.tally.now c.note.new.tally c.args.line.now
    c.instant_of-own.result c.bucket_at-bucket.result c.in-Some.fault c.instant_of-own.ensures c.note.ensures c.bucket_at-bucket.ensures c.in-Some.ensures in
    rw (p.1, p.2, line) c.in_err-send_last.ensures.sent

pub returns-in_err-flush-clause-takes : goal.returns-in_err-flush-clause-takes
returns-in_err-flush-clause-takes g c =
    let p = err_from_is_err_and c.from_residual-in_err-flush.result c.from_residual-in_err-flush.ensures.1 in
    let line = line_at_fault (g.B.Buckets.counting c.args.buckets.now) c.args.is_strict c.args.tally.now c.note.new.tally c.args.line.now
    c.instant_of-own.result c.bucket_at-bucket.result c.in-Some.fault c.instant_of-own.ensures c.note.ensures c.bucket_at-bucket.ensures c.in-Some.ensures in
    rw (p.1, p.2, line)
    (AppendsBeginning-flushed _ _ _ c.send_last.new.pending _ c.in_ok-send_last.ensures.sent c.in_err-flush.ensures.written)

pub returns-in-Some-clause-takes : goal.returns-in-Some-clause-takes
returns-in-Some-clause-takes g c =
    falls_at (g.B.Buckets.counting c.args.buckets.now) c.args.is_strict c.args.tally.now c.note.new.tally c.args.line.now
    c.instant_of-own.result c.bucket_at-bucket.result c.in-Some.fault _ _ c.args.pending.now c.instant_of-own.ensures c.note.ensures
    c.bucket_at-bucket.ensures c.in-Some.ensures
    (Appends-flushed _ _ _ c.send_last.new.pending _ c.in_ok-send_last.ensures.sent c.in_ok-flush.ensures.written)

pub returns-in_err-send_by-clause-takes : goal.returns-in_err-send_by-clause-takes
returns-in_err-send_by-clause-takes g c =
    let p = err_from_is_err_and c.from_residual-in_err-send_by.result c.from_residual-in_err-send_by.ensures.1 in
    let line = line_passed (g.B.Buckets.counting c.args.buckets.now) c.args.is_strict c.args.tally.now c.note.new.tally c.args.line.now
    c.instant_of-own.result c.bucket_at-bucket.result c.instant_of-own.ensures c.note.ensures c.bucket_at-bucket.ensures
    (no_fault _ _ c.fault_of.ensures c.in_default.not-Some) in
    rw (p.1, p.2, line) c.in_err-send_by.ensures.sent

pub returns-clause-takes : goal.returns-clause-takes
returns-clause-takes g c =
    let line = line_passed (g.B.Buckets.counting c.args.buckets.now) c.args.is_strict c.args.tally.now c.note.new.tally c.args.line.now
    c.instant_of-own.result c.bucket_at-bucket.result c.instant_of-own.ensures c.note.ensures c.bucket_at-bucket.ensures
    (no_fault _ _ c.fault_of.ensures c.in_default.not-Some) in
    rw line (c.in_ok-send_by.ensures.sent, ap Ok (sym c.pass_line.ensures))
