use Rattle.std.proofs.Common.{arith}
use Rattle.stamps.proofs.FrontRunLemmas.{kept_on}
use Rattle.stamps.proofs.fronted.Turned.turn_on.Goals as goal

pub returns-clause-kept : goal.returns-clause-kept
returns-clause-kept g c = λ step all running.
    let self = c.args.self.now in
    kept_on g.R.Read.remaining self self.turning c.in-Some.turning c.turn_block.new.log c.turn_block.new.fronts c.in_ok-self.field-0
    c.in-Some.is running (omega (arith, step.1, all)) (λ some. c.in_ok-self.ensures.text some step.0) (λ none. c.in_ok-self.ensures.end none step.0)
