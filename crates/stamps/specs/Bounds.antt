-- The bounds of a cut, and their instants.
use Rattle.std.specs.Prelude.{ℕ, ℤ, pos, ◌-ℤ◌, ◌*ℤ◌, int_lt, Bool, true, false, ◌||◌, if◌then◌else◌, List, codes, Option, Some, None, Result, Ok, Err}
use Rattle.calendar_values.specs.Clock.{nanos_per_second}
use Rattle.log_zones.specs.Instants.{zone_instant}
use Rattle.log_zones.specs.declared.instants.NoInstant.{NoInstant}
use Rattle.log_zones.specs.declared.instants.NoInstant.TheVariants as clocks
use Rattle.plain_times.specs.Sums.{wall_clock_if_any}
use Rattle.zones.specs.Zones.{ZoneParts}
use Rattle.stamps.specs.declared.bounds.Around.{Around}
use Rattle.stamps.specs.declared.bounds.Bound.{Bound}
use Rattle.stamps.specs.declared.bounds.Bound.TheVariants.{Exact, Local, BeforeNow, BeforeLast}
use Rattle.stamps.specs.declared.bounds.Cut.{Cut}
use Rattle.stamps.specs.declared.bounds.Cut.TheVariants.{Since, Until, Between}
use Rattle.stamps.specs.declared.bounds.NoCut.{NoCut}
use Rattle.stamps.specs.declared.bounds.NoCut.TheVariants.{LacksOffset, Skipped, OutOfRange, LacksNow, LacksLast, Swapped}
use Rattle.stamps.specs.declared.task.Action.{Action}
use Rattle.stamps.specs.declared.task.Action.TheVariants as action

-- an instant that may be out of range
abbrev pub in_range : Option ℤ → Result ℤ NoCut
in_range (Some instant) = Ok instant
in_range None = Err OutOfRange

-- the instant a duration before another one
abbrev pub back_by : ℤ → ℤ → Result ℤ NoCut
back_by duration instant = in_range (wall_clock_if_any (instant -ℤ duration))

-- the instant of a wall clock at an offset
abbrev pub at_offset : ℤ → ℤ → Result ℤ NoCut
at_offset offset wall = back_by (offset *ℤ pos nanos_per_second) wall

-- the instant of a wall clock in a zone, if its clocks show it
abbrev pub unless_skipped : Result ℤ NoInstant → Result ℤ NoCut
unless_skipped (Ok instant) = Ok instant
unless_skipped (Err clocks.Skipped) = Err Skipped
unless_skipped (Err clocks.OutOfRange) = Err OutOfRange

-- the instant of a wall clock: the earliest at which the clocks of the zone show it, or else that at the offset
abbrev pub local_instant : Option ZoneParts → Option ℤ → ℤ → Result ℤ NoCut
local_instant (Some zone) offset wall = unless_skipped (zone_instant zone wall)
local_instant None (Some offset) wall = at_offset offset wall
local_instant None None wall = Err LacksOffset

-- the instant a duration before one that may not be known
abbrev pub back_from : NoCut → Option ℤ → ℤ → Result ℤ NoCut
back_from lack (Some instant) duration = back_by duration instant
back_from lack None duration = Err lack

-- the instant of a bound
abbrev pub bound_instant : Bound → Option ZoneParts → Around → Result ℤ NoCut
bound_instant (Exact instant) _ _ = Ok instant
bound_instant (Local wall) zone around = local_instant zone around.offset wall
bound_instant (BeforeNow duration) _ around = back_from LacksNow around.present duration
bound_instant (BeforeLast duration) _ around = back_from LacksLast around.last duration

-- the work between two instants, of which the second one is not before the first
abbrev pub between_of : ℤ → ℤ → Result Action NoCut
between_of from to = if int_lt to from then Err Swapped else Ok (action.Between from to)

abbrev pub between_both : Result ℤ NoCut → Result ℤ NoCut → Result Action NoCut
between_both (Ok from) (Ok to) = between_of from to
between_both (Ok from) (Err fault) = Err fault
between_both (Err fault) second = Err fault

abbrev pub since_of : Result ℤ NoCut → Result Action NoCut
since_of (Ok from) = Ok (action.Since from)
since_of (Err fault) = Err fault

abbrev pub until_of : Result ℤ NoCut → Result Action NoCut
until_of (Ok to) = Ok (action.Until to)
until_of (Err fault) = Err fault

-- the work of a cut, with the instants of its bounds
abbrev pub action_of : Cut → Option ZoneParts → Around → Result Action NoCut
action_of (Since bound) zone around = since_of (bound_instant bound zone around)
action_of (Until bound) zone around = until_of (bound_instant bound zone around)
action_of (Between first second) zone around = between_both (bound_instant first zone around) (bound_instant second zone around)

-- whether a bound counts back from the present instant
abbrev pub is_before_now : Bound → Bool
is_before_now (Exact instant) = false
is_before_now (Local wall) = false
is_before_now (BeforeNow duration) = true
is_before_now (BeforeLast duration) = false

-- whether a bound counts back from the last stamp
abbrev pub is_before_last : Bound → Bool
is_before_last (Exact instant) = false
is_before_last (Local wall) = false
is_before_last (BeforeNow duration) = false
is_before_last (BeforeLast duration) = true

-- whether a cut counts back from the present instant
abbrev pub needs_now : Cut → Bool
needs_now (Since bound) = is_before_now bound
needs_now (Until bound) = is_before_now bound
needs_now (Between first second) = is_before_now first || is_before_now second

-- whether a cut counts back from the last stamp
abbrev pub needs_last : Cut → Bool
needs_last (Since bound) = is_before_last bound
needs_last (Until bound) = is_before_last bound
needs_last (Between first second) = is_before_last first || is_before_last second

-- the message of a cut without instants: the fault and the remedy
abbrev pub no_cut_text : NoCut → List ℕ
no_cut_text LacksOffset = codes "the bound '' has no offset: add one, as --offset +05:30, or --zone Europe/Berlin"
no_cut_text Skipped = codes "the clocks of the zone jump past the bound '': write one with an offset"
no_cut_text OutOfRange = codes "the bound '' is out of range: write one in the years from -999999 to 999999"
no_cut_text LacksNow = codes "the clock of the system cannot be read: write the bound '' as a date-time"
no_cut_text LacksLast = codes "no file has a stamp to count back from: write the bound '' as a date-time"
no_cut_text Swapped = codes "the second bound is before the first one: write the earlier one first"
