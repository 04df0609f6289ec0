use Rattle.std.proofs.Common.{◌∙◌}
use Rattle.times_bench.proofs.FeedLemmas.{SendsAnswer-same, request_of-pushed}
use Rattle.times_bench.proofs.lines.end_line.Goals as goal

pub returns-clause-sent : goal.returns-clause-sent
returns-clause-sent g c = λ piece h.
    let held = request_of-pushed piece c.args.line.now c.args.part.now c.items.result.now h (c.items.ensures.value ∙ c.push_front_of.ensures) in
    SendsAnswer-same _ _ c.args.pending.now _ c.items.result.now _ c.send_answer-result.result held c.send_answer-result.ensures.sent
