-- Which of the date-times of a wall clock a caller takes.
use Rattle.std.specs.Prelude.{Option, Some, None, Result, Ok, Err}
use Rattle.offset_times.specs.Local.{Local}
use Rattle.zoned_times.specs.declared.local_refusal.LocalRefusal.{LocalRefusal}
use Rattle.zoned_times.specs.declared.local_refusal.LocalRefusal.TheVariants as refusals
use Rattle.zoned_times.specs.declared.local_times.LocalTimes.{LocalTimes}
use Rattle.zoned_times.specs.declared.local_times.LocalTimes.TheVariants.{Single, Gap, Fold}

-- a date-time whose date is in range
abbrev pub answer_of : Option Local → Result Local LocalRefusal
answer_of None = Err refusals.OutOfRange
answer_of (Some at) = Ok at

-- the earlier date-time, in a gap by the offset after it
abbrev pub earlier_of : LocalTimes → Result Local LocalRefusal
earlier_of (Single at) = Ok at
earlier_of (Gap gap earlier later) = answer_of earlier
earlier_of (Fold earlier later) = Ok earlier

-- the later date-time, in a gap by the offset before it
abbrev pub later_of : LocalTimes → Result Local LocalRefusal
later_of (Single at) = Ok at
later_of (Gap gap earlier later) = answer_of later
later_of (Fold earlier later) = Ok later

-- the date-time by the offset before the transition
abbrev pub compatible_of : LocalTimes → Result Local LocalRefusal
compatible_of (Single at) = Ok at
compatible_of (Gap gap earlier later) = answer_of later
compatible_of (Fold earlier later) = Ok earlier

-- the only date-time
abbrev pub only_of : LocalTimes → Result Local LocalRefusal
only_of (Single at) = Ok at
only_of (Gap gap earlier later) = Err (refusals.Gap gap)
only_of (Fold earlier later) = Err refusals.Fold
