use Rattle.std.proofs.Common.{refl}
use Rattle.line_merges.proofs.ReadLemmas.{cut_before_read, read_failed, read_none, read_some}
use Rattle.line_merges.proofs.logs.read_on.Goals as goal

pub returns-then-front : goal.returns-then-front
returns-then-front g c = read_none c.args.front.now _ _ _ _ c.args.pending.now c.if-front.true

pub returns-in_err-flush : goal.returns-in_err-flush
returns-in_err-flush g c =
    cut_before_read c.from_residual.result c.args.front.now _ _ _ _ _ _ c.args.pending.now c.flush.new.pending c.if-front.false
    c.from_residual.ensures.1 c.in_err-flush.ensures.written c.in_err-flush.ensures.mark

pub returns-in-Err : goal.returns-in-Err
returns-in-Err g c =
    read_failed c.args.front.now _ _ _ _ _ _ _ _ _ c.args.pending.now c.flush.new.pending c.if-front.false c.if-front.false c.in-Err.ensures.0 refl
    c.in-Err.ensures.1 c.in_ok-flush.ensures.written c.in-Err.ensures.2 c.in_ok-flush.ensures.mark

pub returns-in-Ok : goal.returns-in-Ok
returns-in-Ok g c =
    read_some c.args.front.now _ c.in-Ok.count _ _ _ _ _ _ _ _ c.args.pending.now c.flush.new.pending c.if-front.false c.in-Ok.ensures.0 refl refl
    c.in_ok-flush.ensures.written c.in_ok-flush.ensures.empty c.in-Ok.ensures.1 c.in_ok-flush.ensures.mark refl refl
