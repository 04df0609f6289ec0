use Rattle.std.proofs.Common.{◌≤◌, ◌<◌, ◌+◌, ◌/◌, ◌-◌, arith, ◌∙◌, ap, ℕ}
use Rattle.line_counts.specs.Counting.{most}
use Rattle.line_counts.proofs.StepLemmas.{steps-none, steps-some}
use Rattle.line_counts.proofs.buckets.steps_between.Goals as goal

pub returns-then-last-first : goal.returns-then-last-first
returns-then-last-first c =
    steps-none c.args.step c.place_of-first.result c.place_of-last.result c.args.from c.args.to c.place_of-first.ensures.place
    c.place_of-last.ensures.place c.if-last-first.true

pub returns : goal.returns
returns c =
    let first = c.place_of-first.result in
    let last = c.place_of-last.result in
    let few : (last - first - 1) / c.args.step + 1 ≤ most = omega (arith, c.steps_in.ensures.few, c.steps_in.ensures.value) in
    let later : first < last = omega (arith, c.if-last-first.false) in
    ap (λ (z : ℕ). z + 1) c.steps_in.ensures.value
    ∙ steps-some c.args.step first last c.args.from c.args.to c.requires c.place_of-first.ensures.place c.place_of-last.ensures.place later
    c.place_of-first.ensures.in_range c.place_of-last.ensures.in_range few
