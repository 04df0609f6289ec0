use Rattle.format_descriptions.proofs.unix.+digits_on.Given as goal

abbrev pub decreases-digits_on : goal.decreases-digits_on
decreases-digits_on l = l.count
