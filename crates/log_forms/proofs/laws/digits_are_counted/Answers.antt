use Rattle.log_forms.proofs.ReadLineLemmas.{digits-found, only-digits}
use Rattle.log_forms.proofs.laws.digits_are_counted.Goals as goal

pub returns : goal.returns
returns c = record { found = digits-found; only = only-digits }
