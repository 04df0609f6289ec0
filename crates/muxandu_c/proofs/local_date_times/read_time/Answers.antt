use Rattle.std.proofs.Common.{◌∙◌, sym, ap, Ok}
use Rattle.muxandu_c.specs.Answers.{and_then}
use Rattle.muxandu_c.specs.LocalTexts.{time_of}
use Rattle.muxandu_c.specs.TextBatches.{date_time_if_any}
use Rattle.muxandu_c.proofs.local_date_times.read_time.Goals as goal

pub returns-in-Some : goal.returns-in-Some
returns-in-Some c = c.time_of_text.ensures ∙ ap (λ o. and_then (date_time_if_any o) (λ v. Ok (time_of v))) c.in-Some.ensures.same

pub returns-in-None : goal.returns-in-None
returns-in-None c = sym (ap (λ o. and_then (date_time_if_any o) (λ v. Ok (time_of v))) c.in-None.ensures.other)
