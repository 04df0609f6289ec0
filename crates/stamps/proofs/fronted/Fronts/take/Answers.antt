use Rattle.std.proofs.Common.{◌≡◌, ◌∙◌, ◌∷◌, ◌++◌, ◌+◌, ◌<◌, ap, arith, drop, length, List, ℕ}
use Rattle.stamps.proofs.FrontRunLemmas.{block_line}
use Rattle.stamps.specs.FrontRuns.{text_of}
use Rattle.stamps.proofs.fronted.Fronts.take.Goals as goal

pub lines-preserved : goal.lines-preserved
lines-preserved c = record {
  within = omega (arith, c.place_of-end.ensures.bounds.1, c.if-end-block.false);
  short = λ short. c.in_ok-end_line.ensures.short;
  text = λ short left.
      let turning = c.args.turning.now in
      let block = c.args.block.now in
      let end = c.place_of-end.result in
      let more = drop (end + 1) block ++ left in
      let before = c.lines.invariant.short short in
      let within : end < length block = omega (arith, c.place_of-end.ensures.bounds.1, c.if-end-block.false) in
      c.in_ok-end_line.ensures.text (c.in_ok-take_part.ensures.short before) more ∙ c.in_ok-take_part.ensures.text before (10 ∷ more)
      ∙ ap (text_of turning c.lines.self) (block_line block left c.lines.from end c.place_of-end.ensures.bounds.0 within
      (c.place_of-end.ensures.byte_there within))
      ∙ c.lines.invariant.text short left;
}
