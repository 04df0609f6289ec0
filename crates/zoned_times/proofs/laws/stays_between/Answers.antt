use Rattle.std.proofs.Common.{ℤ, subst}
use Rattle.offset_times.specs.Local.{ShownAt}
use Rattle.zoned_times.proofs.LawLemmas.{stays}
use Rattle.zoned_times.proofs.laws.stays_between.Goals as goal

pub returns : goal.returns
returns c = λ z zone i j o found le none here there.
    subst (λ (p : ℤ). ShownAt found j p) (stays c.stays_between.ensures z zone i j o there.0 le none here there.1) there.2
