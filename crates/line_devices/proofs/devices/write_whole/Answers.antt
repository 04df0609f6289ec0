use Rattle.std.proofs.Common.{◌∙◌, arith}
use Rattle.std.proofs.lemmas.Grind.{common_steps}
use Rattle.line_devices.specs.WritingLemmas.{Appends-take}
use Rattle.line_devices.proofs.devices.write_whole.Goals as goal

pub loop-place-preserved : goal.loop-place-preserved
loop-place-preserved g c = record {
  within = grind (arith, common_steps);
  written = Appends-take _ _ _ c.loop-place.place c.in_ok-place.field-0 c.args.text.now c.loop-place.invariant.written (grind
      (arith, common_steps, c.in_ok-place.ensures.appended));
  mark = c.in_ok-place.ensures.mark ∙ c.loop-place.invariant.mark;
}
