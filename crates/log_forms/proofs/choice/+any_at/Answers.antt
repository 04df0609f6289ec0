use Rattle.std.proofs.Common.{arith, ◌∙◌, ap, sym, Bool}
use Rattle.std.specs.Prelude.{◌||◌, ◌*◌}
use Rattle.log_forms.specs.Choices.{any_reads}
use Rattle.log_forms.proofs.ChoiceLemmas.{read_before, read_here}
use Rattle.log_forms.proofs.choice.+any_at.Goals as goal

pub returns-then-any_at : goal.returns-then-any_at
returns-then-any_at t c =
    read_before c.args.place c.args.forms c.args.line.now c.any_at.result (omega (arith, c.if-forms-eq0.false)) c.any_at.ensures c.if-any_at.true

pub returns-else-any_at : goal.returns-else-any_at
returns-else-any_at t c =
    read_here c.args.place c.args.forms c.args.line.now c.any_at.result (omega (arith, c.if-forms-eq0.false)) c.any_at.ensures c.if-any_at.false
    ∙ ap (λ (z : Bool). any_reads (c.args.place * 42) c.args.line.now || z) (sym c.reads_behind.ensures)
