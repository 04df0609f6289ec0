use Rattle.std.proofs.Common.{refl}
use Rattle.stamps.specs.Durations.{duration_of}
use Rattle.stamps.proofs.laws.durations_are_read.Goals as goal

pub returns : goal.returns
unfolding duration_of
returns c = record {
  seconds = refl;
  minutes = refl;
  hours = refl;
  days = refl;
  all = refl;
  zeros = refl;
  other_order = refl;
  twice = refl;
  no_unit = refl;
  no_number = refl;
  other_unit = refl;
  no_text = refl;
}
