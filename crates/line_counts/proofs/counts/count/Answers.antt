use Rattle.std.proofs.Common.{arith, refl, [], ◌++◌, take, length-append}
use Rattle.std.proofs.lemmas.Result.{err_from_is_err_and}
use Rattle.line_counts.proofs.TurnLemmas.{GoesOn-first, block_falls, block_taken, end_falls, input_ends, read_fails, reads_end, some_count}
use Rattle.line_counts.proofs.counts.count.Goals as goal

pub reads-init : goal.reads-init
reads-init g c = (
  [],
  record {
    turns = omega arith;
    block = omega arith;
    goes_on = GoesOn-first (g.B.Buckets.counting c.args.buckets.now) c.args.is_strict _ c.new-pending.result c.new-work.result c.requires.reader
        c.requires.writer c.new-pending.ensures
        c.new-work.ensures.tally c.new-work.ensures.head;
  },
)

pub returns-in_default : goal.returns-in_default
returns-in_default g c =
    let so_far = c.reads.invariant in
    read_fails (g.B.Buckets.counting c.args.buckets.now) c.args.is_strict _ _ _ c.reads.pending c.reads.work so_far.0 so_far.1.goes_on
    c.in_default.ensures.consumed c.in_default.ensures.mark
    refl refl

pub returns-then-count-eq0 : goal.returns-then-count-eq0
returns-then-count-eq0 g c =
    let so_far = c.reads.invariant in
    let none = rw c.if-count-eq0.true at c.in-Ok.ensures.consumed.0 in
    let end = c.in-Ok.ensures.consumed.1 c.if-count-eq0.true (rw c.read_some.auto.buffer so_far.1.block) in
    input_ends (g.B.Buckets.counting c.args.buckets.now) c.args.is_strict _ _ _ c.reads.pending c.reads.work so_far.0 c.finish.new.work.tally
    so_far.1.goes_on none end (c.in_ok-finish.ensures.completes refl _ so_far.0 so_far.1.goes_on.stands) c.in-Ok.ensures.mark c.in_ok-finish.ensures.mark

pub returns-in_err-finish : goal.returns-in_err-finish
returns-in_err-finish g c =
    let p = err_from_is_err_and c.from_residual.result c.from_residual.ensures.1 in
    let so_far = c.reads.invariant in
    let none = rw c.if-count-eq0.true at c.in-Ok.ensures.consumed.0 in
    let end = c.in-Ok.ensures.consumed.1 c.if-count-eq0.true (rw c.read_some.auto.buffer so_far.1.block) in
    rw (p.1, p.2)
    (end_falls (g.B.Buckets.counting c.args.buckets.now) c.args.is_strict _ _ _ c.reads.pending c.reads.work so_far.0 _ so_far.1.goes_on none end
    (c.in_err-finish.ensures.ends _ so_far.0 so_far.1.goes_on.stands) c.in-Ok.ensures.mark c.in_err-finish.ensures.mark)

pub returns-in_err-feed : goal.returns-in_err-feed
returns-in_err-feed g c =
    let p = err_from_is_err_and c.from_residual-in_err-feed.result c.from_residual-in_err-feed.ensures.1 in
    let so_far = c.reads.invariant in
    rw (p.1, p.2)
    (block_falls (g.B.Buckets.counting c.args.buckets.now) c.args.is_strict _ _ _ c.reads.pending c.reads.work so_far.0 _ _ so_far.1.goes_on
    c.in-Ok.ensures.consumed.0
    (λ more. c.in_err-feed.ensures.ends _ so_far.0 more so_far.1.goes_on.stands) c.in-Ok.ensures.mark c.in_err-feed.ensures.mark)

pub reads-preserved : goal.reads-preserved
reads-preserved g c =
    let so_far = c.reads.invariant in
    let block = take c.in-Ok.count c.read_some.new.buffer in (
      so_far.0 ++ block,
      record {
        turns = omega (arith, so_far.1.turns, length-append so_far.0 block, c.in-Ok.ensures.bound.1, some_count c.in-Ok.count c.if-count-eq0.false);
        block = rw c.read_some.auto.buffer so_far.1.block;
        goes_on = block_taken (g.B.Buckets.counting c.args.buckets.now) c.args.is_strict _ _ _ c.reads.pending c.feed.new.pending c.reads.work
            c.feed.new.work so_far.0 block so_far.1.goes_on
            c.in-Ok.ensures.consumed.0 (c.in_ok-feed.ensures.stands refl _ so_far.0 so_far.1.goes_on.stands) c.in_ok-feed.ensures.empty c.in-Ok.ensures.mark
            c.in_ok-feed.ensures.mark;
      },
    )

pub returns : goal.returns
returns g c =
    let so_far = c.reads.invariant in
    reads_end (g.B.Buckets.counting c.args.buckets.now) c.args.is_strict _ _ _ _ so_far.0 _ so_far.1.goes_on so_far.1.turns c.reads-test.false
