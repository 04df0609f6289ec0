use Rattle.rfc3339.proofs.SuffixLemmas.{suffix-brackets, date_time-before}
use Rattle.rfc3339.proofs.laws.suffixes_are_in_brackets.Goals as goal

pub returns : goal.returns
returns c = record { suffix = suffix-brackets; date_time = date_time-before }
