use Rattle.muxandu_c.proofs.DurationTextLemmas.{parts-read}
use Rattle.muxandu_c.proofs.durations.duration_from_text.Goals as goal

pub returns-in-Ok-clause-spelled : goal.returns-in-Ok-clause-spelled
returns-in-Ok-clause-spelled c =
    λ n h. parts-read c.in-Ok.duration n c.duration_of.result (c.in-Ok.ensures.all n h) c.duration_of.ensures
