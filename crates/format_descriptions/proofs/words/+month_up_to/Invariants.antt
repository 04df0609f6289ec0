use Rattle.format_descriptions.proofs.words.+month_up_to.Given as goal

abbrev pub decreases-month_up_to : goal.decreases-month_up_to
decreases-month_up_to l = l.last
