use Rattle.std.proofs.Common.{◌≡◌, arith, length}
use Rattle.std.proofs.lemmas.Result.{on_ok_weaker}
use Rattle.stamps.proofs.FrontRunLemmas.{end_begun, end_open}
use Rattle.stamps.specs.FrontRuns.{text_of}
use Rattle.stamps.proofs.fronted.Fronts.end_line.Goals as goal

pub returns-then-self-clause-text : goal.returns-then-self-clause-text
unfolding text_of
returns-then-self-clause-text c =
    let self = c.args.self.now in
    let new = c.close.new.self in
    on_ok_weaker c.close.result (λ e short left. rw c.close.ensures.known
    (end_open c.args.turning.now self.known self.is_open new.is_open self.head.items new.head.items self.ready.items new.ready.items left
    c.if-self.true c.close.ensures.closed c.close.ensures.head e)) c.close.ensures.ready

pub returns-clause-text : goal.returns-clause-text
unfolding text_of
returns-clause-text c =
    let self = c.args.self.now in
    let begun = c.begin_line.new.self in
    let new = c.close-2.new.self in
    on_ok_weaker c.close-2.result (λ e short left. rw c.close-2.ensures.known
    (end_begun c.args.turning.now self.known begun.known self.is_open new.is_open self.head.items new.head.items self.ready.items begun.ready.items
    new.ready.items left c.if-self.false (short c.if-self.false) c.in_ok-begin_line.ensures.ready c.in_ok-begin_line.ensures.known
    c.close-2.ensures.closed c.close-2.ensures.head e)) c.close-2.ensures.ready
