use Rattle.std.proofs.Common.{sym, ◌∙◌}
use Rattle.log_forms.proofs.ChoiceLemmas.{unfit}
use Rattle.log_forms.proofs.choice.reads_behind.Goals as goal

pub returns-else-fits : goal.returns-else-fits
returns-else-fits c =
    c.if-fits.false ∙ sym (unfit c.args.place c.args.form c.args.line.now c.args.rest.now c.requires.form c.requires.rest
    (rw c.reader_form.ensures at (sym c.fits.ensures ∙ c.if-fits.false)))
