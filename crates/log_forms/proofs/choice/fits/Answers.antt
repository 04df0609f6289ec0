use Rattle.std.proofs.Common.{ap, ◌∙◌}
use Rattle.log_forms.specs.Forms.{items_of}
use Rattle.log_forms.specs.Stamps.{fits_after}
use Rattle.log_forms.proofs.choice.fits.Goals as goal

pub returns-in-Ok : goal.returns-in-Ok
returns-in-Ok c =
    rw (c.items_of.ensures.value, c.behind.ensures) at c.items_fit.ensures
    ∙ ap (fits_after (items_of c.args.name) c.args.text.now) (rw c.lead_of.ensures.value at c.in-Ok.ensures.reading)
