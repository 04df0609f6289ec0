-- The durations of texts, as the values that cross.
use Rattle.std.proofs.Common.{◌≡◌, ap, ◌∙◌, ℤ, Result, Ok}
use Rattle.duration_texts.specs.declared.faults.DurationRefusal.{DurationRefusal}
use Rattle.muxandu_c.specs.Values.{duration_parts}
use Rattle.muxandu_c.specs.declared.refused.Refused.{Refused}
use Rattle.muxandu_c.specs.declared.values.MuxanduDuration.{MuxanduDuration}

-- the parts of a duration that is read are those of the duration that the text derives
pub parts-read : (d n : ℤ) (out : MuxanduDuration) → ◌≡◌ {A = Result ℤ DurationRefusal} (Ok d) (Ok n) → out ≡ duration_parts d
    → ◌≡◌ {A = Result MuxanduDuration Refused} (Ok out) (Ok (duration_parts n))
parts-read d n out e is = let same : d ≡ n = cc in ap Ok (is ∙ ap duration_parts same)
