-- The later and the earlier of two date-times.
use Rattle.std.specs.Ordering.{int_cmp, on, ord_max, ord_min}
use Rattle.offset_times.specs.Local.{Local, instant_of}

-- the later of two, or the second if they are one instant
abbrev pub later_of : Local → Local → Local
later_of one other = ord_max (on instant_of int_cmp) one other

-- the earlier of two, or the first if they are one instant
abbrev pub earlier_of : Local → Local → Local
earlier_of one other = ord_min (on instant_of int_cmp) one other
