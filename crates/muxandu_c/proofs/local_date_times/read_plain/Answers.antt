use Rattle.std.proofs.Common.{◌∙◌, sym, ap}
use Rattle.muxandu_c.specs.TextBatches.{date_time_if_any}
use Rattle.muxandu_c.proofs.local_date_times.read_plain.Goals as goal

pub returns-in-Some : goal.returns-in-Some
returns-in-Some c = c.date_time_of_text.ensures ∙ ap date_time_if_any c.in-Some.ensures.same

pub returns-in-None : goal.returns-in-None
returns-in-None c = sym (ap date_time_if_any c.in-None.ensures.other)
