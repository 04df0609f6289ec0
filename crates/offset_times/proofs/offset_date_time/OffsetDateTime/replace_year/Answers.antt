use Rattle.std.proofs.Common.{rules}
use Rattle.offset_times.proofs.offset_date_time.OffsetDateTime.replace_year.Goals as goal

pub returns-in-Err-clause-value : goal.returns-in-Err-clause-value
returns-in-Err-clause-value c = record { value = search rules; refused = search rules; equation = search rules }

pub returns-in-Ok-clause-value : goal.returns-in-Ok-clause-value
returns-in-Ok-clause-value c = record { value = search rules; refused = search rules; equation = search rules }
