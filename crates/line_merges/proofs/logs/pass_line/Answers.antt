use Rattle.std.proofs.Common.{refl, sym, ◌∙◌, arith}
use Rattle.line_merges.proofs.PassLemmas.{passing_first, line_ends, line_cut, room, read_cut, next_part, line_over, line_endless, endless_cut}
use Rattle.line_merges.proofs.logs.pass_line.Goals as goal

pub parts-init : goal.parts-init
parts-init g c = passing_first c.args.front.now _ _ _ _ c.args.pending.now

pub returns-in_err-send_part : goal.returns-in_err-send_part
returns-in_err-send_part g c =
    line_cut c.args.front.now c.parts.front _ _ _ _ _ _ _ c.args.pending.now c.parts.pending c.send_part.new.pending c.parts._read c.parts.invariant
    c.from_residual.result _ c.from_residual.ensures.1 c.in_err-send_part.ensures.sent c.in_err-send_part.ensures.mark

pub returns-then-branch : goal.returns-then-branch
returns-then-branch g c =
    line_ends c.args.front.now c.parts.front _ _ _ _ _ _ _ c.args.pending.now c.parts.pending c.send_part.new.pending c.parts._read c.parts.invariant
    c.parts.front _ (sym c.in_ok-send_part.ensures.feed ∙ c.if-branch.true) c.in_ok-send_part.ensures.sent c.in_ok-send_part.ensures.mark
    c.in_ok-send_part.ensures.left refl refl refl refl c.place_behind-front.ensures

pub read_on-requires : goal.read_on-requires
read_on-requires g c =
    room c.parts.front.buffer c.send_part.new.buffer
    (sym c.in_ok-send_part.ensures.feed ∙ c.if-branch.false) c.in_ok-send_part.ensures.left

pub returns-in_err-read_on : goal.returns-in_err-read_on
returns-in_err-read_on g c =
    read_cut c.args.front.now c.parts.front _ _ _ _ _ _ _ c.args.pending.now c.parts.pending c.send_part.new.pending c.parts._read c.parts.invariant
    _ c.read_on.new.front _ c.read_on.new.pending _ c.from_residual-in_err-read_on.result (sym c.in_ok-send_part.ensures.feed ∙ c.if-branch.false)
    c.in_ok-send_part.ensures.sent c.in_ok-send_part.ensures.mark refl c.from_residual-in_err-read_on.ensures.1 c.in_err-read_on.ensures

pub returns-then-front : goal.returns-then-front
returns-then-front g c =
    line_over c.args.front.now c.parts.front _ _ _ _ _ _ _ c.args.pending.now c.parts.pending c.send_part.new.pending c.parts._read c.parts.invariant
    _ c.read_on.new.front _ c.read_on.new.pending (sym c.in_ok-send_part.ensures.feed ∙ c.if-branch.false) c.in_ok-send_part.ensures.sent
    c.in_ok-send_part.ensures.mark c.in_ok-send_part.ensures.left refl refl c.in_ok-read_on.ensures refl refl _ c.if-front.true refl refl
    c.place_behind-front-then-front.ensures

pub parts-preserved : goal.parts-preserved
parts-preserved g c =
    next_part c.args.front.now c.parts.front _ _ _ _ _ _ _ c.args.pending.now c.parts.pending c.send_part.new.pending c.parts._read c.parts.invariant
    _ c.read_on.new.front _ c.read_on.new.pending (sym c.in_ok-send_part.ensures.feed ∙ c.if-branch.false) c.in_ok-send_part.ensures.sent
    c.in_ok-send_part.ensures.mark c.in_ok-send_part.ensures.left refl refl c.in_ok-read_on.ensures refl refl c.if-front.false

pub returns-in_err-flush : goal.returns-in_err-flush
returns-in_err-flush g c =
    endless_cut c.args.front.now c.parts.front _ _ _ _ _ _ _ c.args.pending.now c.parts.pending c.flush.new.pending c.parts._read c.parts.invariant
    c.from_residual-in_err-flush.result c.from_residual-in_err-flush.ensures.1 c.in_err-flush.ensures.written c.in_err-flush.ensures.mark

pub returns : goal.returns
returns g c =
    line_endless c.args.front.now c.parts.front _ _ _ _ _ _ _ c.args.pending.now c.parts.pending c.flush.new.pending c.parts._read c.parts.invariant
    c.parts.invariant.sent (omega arith) c.in_ok-flush.ensures.written c.in_ok-flush.ensures.mark
