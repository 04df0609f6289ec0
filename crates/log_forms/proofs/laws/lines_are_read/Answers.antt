use Rattle.log_forms.proofs.ReadLineLemmas.{is_sure-no_bare, no_bare-is_sure, read-some, some-read}
use Rattle.log_forms.specs.declared.choice.TheConstants.{READERS}
use Rattle.log_forms.proofs.laws.lines_are_read.Goals as goal

pub returns-clause-sure : goal.returns-clause-sure
returns-clause-sure c = record { sure = no_bare-is_sure; doubted = is_sure-no_bare }

pub returns-clause-read : goal.returns-clause-read
returns-clause-read c = record { some = some-read READERS; only = read-some READERS }
