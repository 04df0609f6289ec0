use Rattle.plain_times.specs.ReplacementLemmas.{OnOrdinalDate-shown}
use Rattle.plain_times.proofs.plain_date_time.PlainDateTime.replace_ordinal.Goals as goal

pub returns-in-Ok-clause-shown : goal.returns-in-Ok-clause-shown
returns-in-Ok-clause-shown c = OnOrdinalDate-shown _ _ _ _ _ (rw c.date.ensures.value at c.in-Ok.ensures.shown) c.replace_date.ensures
