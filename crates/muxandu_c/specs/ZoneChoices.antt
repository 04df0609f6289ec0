-- The choices for wall clocks that a time zone shows twice or skips.
use Rattle.std.specs.Prelude.{ℕ, ◌==◌, Result, Ok, Err, if◌then◌else◌}
use Rattle.offset_times.specs.Local.{Local}
use Rattle.zoned_times.specs.Choices.{earlier_of, later_of, compatible_of, only_of}
use Rattle.zoned_times.specs.declared.local_refusal.LocalRefusal.{LocalRefusal}
use Rattle.zoned_times.specs.declared.local_refusal.LocalRefusal.TheVariants as refusals
use Rattle.zoned_times.specs.declared.local_times.LocalTimes.{LocalTimes}
use Rattle.muxandu_c.specs.declared.refused.Refused.{Refused}
use Rattle.muxandu_c.specs.declared.refused.Refused.TheVariants as refused
use Rattle.muxandu_c.specs.declared.zone_choices.Choice.{Choice}
use Rattle.muxandu_c.specs.declared.zone_choices.Choice.TheVariants as choices

-- the choice of a number of the header
abbrev pub choice_numbered : ℕ → Result Choice Refused
choice_numbered number =
    if number == 1 then Ok choices.Compatible
    else (if number == 2 then Ok choices.Earlier
    else (if number == 3 then Ok choices.Later
    else (if number == 4 then Ok choices.Reject
    else Err refused.Unit)))

-- the date-time that a choice takes
abbrev pub chosen_of : Choice → LocalTimes → Result Local LocalRefusal
chosen_of choices.Compatible times = compatible_of times
chosen_of choices.Earlier times = earlier_of times
chosen_of choices.Later times = later_of times
chosen_of choices.Reject times = only_of times

-- the error of a wall clock without a date-time, or with two
abbrev pub error_of : LocalRefusal → Refused
error_of (refusals.Gap gap) = refused.Gap
error_of refusals.Fold = refused.Fold
error_of refusals.OutOfRange = refused.Result
