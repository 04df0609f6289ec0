use Rattle.std.proofs.Common.{arith}
use Rattle.std.proofs.lemmas.Result.{err_from_is_err_and}
use Rattle.line_merges.proofs.BufferLemmas.{moved_before, read_behind, some_room}
use Rattle.line_merges.proofs.buffers.Buffer.read_more.Goals as goal

pub returns-in_err-more : goal.returns-in_err-more
returns-in_err-more g c =
    let p = err_from_is_err_and c.from_residual.result c.from_residual.ensures.1 in
    let high = c.self.told in
    rw p.1 (
      moved_before c.self.inside.block c.copy_within.new.self c.args.self.now _ c.self.inside.start c.self.inside.end _ c.self.invariant.0
          (omega (arith, high, c.self.invariant.1)) c.copy_within.ensures.after c.copy_within.auto.self c.self.view_is,
      c.in_err-more.ensures.consumed,
      c.in_err-more.ensures.mark,
    )

pub returns : goal.returns
returns g c =
    let high = c.self.told in
    let room = c.read_some.auto.buffer in (
      read_behind c.self.inside.block c.copy_within.new.self c.args.self.now _ c.self.inside.start c.self.inside.end _ c.in_ok-more.more _ _
          c.self.invariant.0 (omega (arith, high, c.self.invariant.1)) c.copy_within.ensures.after c.copy_within.auto.self c.self.view_is
          c.in_ok-more.ensures.bound.0 c.in_ok-more.ensures.bound.1 c.in_ok-more.ensures.consumed.0
          (λ none. c.in_ok-more.ensures.consumed.1 none
          (some_room c.self.inside.block c.copy_within.new.self c.args.self.now c.read_some.new.buffer c.self.inside.start c.self.inside.end
          c.self.invariant.0 (omega (arith, high, c.self.invariant.1)) high c.copy_within.auto.self c.self.view_is c.requires room)),
      c.in_ok-more.ensures.mark,
    )
