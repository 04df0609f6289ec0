use Rattle.std.proofs.Common.{sym, ◌∙◌}
use Rattle.muxandu_c.proofs.durations.muxandu_duration_from_text.Goals as goal

pub returns-clause-spelled : goal.returns-clause-spelled
returns-clause-spelled c = λ n h. sym c.duration_from_text.ensures.read ∙ c.duration_from_text.ensures.spelled n h
