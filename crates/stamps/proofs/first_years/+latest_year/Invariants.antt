use Rattle.stamps.proofs.first_years.+latest_year.Given as goal

abbrev pub decreases-latest_year : goal.decreases-latest_year
decreases-latest_year l = l.years
