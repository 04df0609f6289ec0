use Rattle.zone_files.specs.Kinds.{IsNowhere}
use Rattle.zone_files.proofs.kinds.place_of.Given as goal

-- the abbreviation begins at none of the places so far
abbrev pub invariant-places : goal.invariant-places
invariant-places l = IsNowhere l.names l.text l.k
