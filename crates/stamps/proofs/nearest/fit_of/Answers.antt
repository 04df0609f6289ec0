use Rattle.stamps.proofs.NearestLemmas.{fit_none, fit_refused, fit_stamp}
use Rattle.stamps.proofs.nearest.fit_of.Goals as goal

pub returns-in_default-clause-fit : goal.returns-in_default-clause-fit
returns-in_default-clause-fit c = fit_none c.args.text.now c.in_default.ensures.choice

pub returns-in-Ok-clause-fit : goal.returns-in-Ok-clause-fit
returns-in-Ok-clause-fit c = fit_stamp c.args.text.now c.in-Some.number c.in-Ok.stamp c.in-Some.ensures.choice c.in-Ok.ensures.stamp

pub returns-in-Err-clause-fit : goal.returns-in-Err-clause-fit
returns-in-Err-clause-fit c = fit_refused c.args.text.now c.in-Some.number _ c.in-Some.ensures.choice c.in-Err.ensures.stamp
