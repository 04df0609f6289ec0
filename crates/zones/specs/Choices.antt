-- Which of the seconds of a wall clock a caller takes.
use Rattle.std.specs.Prelude.{ℤ, Option, Some, None}
use Rattle.zones.specs.declared.local_instants.LocalInstants.{LocalInstants}
use Rattle.zones.specs.declared.local_instants.LocalInstants.TheVariants.{Single, Gap, Fold}

-- the earlier second, in a gap by the offset after it
abbrev pub earlier_of : LocalInstants → ℤ
earlier_of (Single t) = t
earlier_of (Gap t u s) = t
earlier_of (Fold t u) = t

-- the later second, in a gap by the offset before it
abbrev pub later_of : LocalInstants → ℤ
later_of (Single t) = t
later_of (Gap t u s) = u
later_of (Fold t u) = u

-- the second by the offset before the transition
abbrev pub compatible_of : LocalInstants → ℤ
compatible_of (Single t) = t
compatible_of (Gap t u s) = u
compatible_of (Fold t u) = t

-- the only second
abbrev pub only_of : LocalInstants → Option ℤ
only_of (Single t) = Some t
only_of (Gap t u s) = None
only_of (Fold t u) = None

-- the first second at which the clocks show the wall clock or a later one: in a gap that of the transition
abbrev pub first_of : LocalInstants → ℤ
first_of (Single t) = t
first_of (Gap t u s) = s
first_of (Fold t u) = t
