use Rattle.format_descriptions.proofs.words.+weekday_before.Given as goal

abbrev pub decreases-weekday_before : goal.decreases-weekday_before
decreases-weekday_before l = l.end
