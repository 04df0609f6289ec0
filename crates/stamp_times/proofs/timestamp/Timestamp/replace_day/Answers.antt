use Rattle.plain_times.specs.ReplacementLemmas.{OnDate-shown}
use Rattle.stamp_times.proofs.timestamp.Timestamp.replace_day.Goals as goal

pub returns-in-Ok-clause-shown : goal.returns-in-Ok-clause-shown
returns-in-Ok-clause-shown c = OnDate-shown _ _ _ _ _ _ (rw c.date.ensures.value at c.in-Ok.ensures.shown) c.replace_date.ensures
