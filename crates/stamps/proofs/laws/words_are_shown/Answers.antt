use Rattle.std.proofs.Common.{refl}
use Rattle.stamps.proofs.laws.words_are_shown.Goals as goal

pub returns : goal.returns
returns c = record { word = refl; blank = refl; quotes = refl; bytes = refl; long = refl; none = refl }
