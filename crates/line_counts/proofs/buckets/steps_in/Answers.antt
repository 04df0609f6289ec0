use Rattle.line_counts.proofs.StepLemmas.{few_steps}
use Rattle.line_counts.proofs.buckets.steps_in.Goals as goal

pub returns-clause-few : goal.returns-clause-few
returns-clause-few c = few_steps c.args.nanos c.args.step c.requires.step c.requires.nanos
