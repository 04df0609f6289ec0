use Rattle.rfc3339.proofs.GrammarLemmas.{date_time-form, full_date-form}
use Rattle.rfc3339.proofs.laws.forms_are_of_the_grammar.Goals as goal

pub returns : goal.returns
returns c = record { date_time = date_time-form; full_date = full_date-form }
