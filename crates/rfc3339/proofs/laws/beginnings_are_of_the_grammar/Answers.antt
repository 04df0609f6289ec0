use Rattle.rfc3339.proofs.GrammarLemmas.{only_beginning, front-refused, begins, longest}
use Rattle.rfc3339.proofs.laws.beginnings_are_of_the_grammar.Goals as goal

pub returns : goal.returns
returns c = record { one = only_beginning; front = front-refused; begins = begins; longest = longest }
