use Rattle.muxandu_c.proofs.WeekDateLemmas.{week_date_from_day-reads_back}
use Rattle.muxandu_c.proofs.days.muxandu_week_date_from_day.Goals as goal

pub returns-clause-reads_back : goal.returns-clause-reads_back
returns-clause-reads_back c = week_date_from_day-reads_back c.args.day
