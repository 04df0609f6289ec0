use Rattle.stamps.proofs.StampLawLemmas.{complete, continued, refused, sound}
use Rattle.stamps.proofs.laws.stamps_are_date_times.Goals as goal

pub returns : goal.returns
returns c = record { sound = sound; complete = complete; continued = continued; refused = refused }
