use Rattle.rfc3339.proofs.GrammarLemmas.{date_time-refused, leap-refused, full_date-refused}
use Rattle.rfc3339.proofs.laws.refusals_are_of_the_grammar.Goals as goal

pub returns : goal.returns
returns c = record { date_time = date_time-refused; leap = leap-refused; full_date = full_date-refused }
