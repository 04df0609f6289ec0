use Rattle.muxandu_c.proofs.WeekDateLemmas.{day_from_week_date-reads_back}
use Rattle.muxandu_c.proofs.days.muxandu_day_from_week_date.Goals as goal

pub returns-clause-reads_back : goal.returns-clause-reads_back
returns-clause-reads_back c = day_from_week_date-reads_back c.args.date
