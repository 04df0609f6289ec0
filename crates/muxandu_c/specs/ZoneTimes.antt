-- Date-times on the clocks of time zones that a caller keeps as numbers.
use Rattle.std.specs.Prelude.{◌≡◌, ◌⊎◌, ℤ, List, Option, Some, None, Result, Ok, Err}
use Rattle.offset_times.specs.Local.{Local}
use Rattle.zones.specs.Zones.{ZoneParts}
use Rattle.zones.specs.declared.transition.Transition.{Transition}
use Rattle.zoned_times.specs.Zoned.{ShownIn, IsNextAfter, IsLastBefore}
use Rattle.muxandu_c.specs.Values.{date_time_parts, timestamp_value}
use Rattle.muxandu_c.specs.ZoneNumbers.{StandsFor, IsNoZone, IsTransitionOf}
use Rattle.muxandu_c.specs.ZoneOffsets.{After}
use Rattle.muxandu_c.specs.declared.refused.Refused.{Refused}
use Rattle.muxandu_c.specs.declared.refused.Refused.TheVariants as refused
use Rattle.muxandu_c.specs.declared.values.MuxanduDateTime.{MuxanduDateTime}
use Rattle.muxandu_c.specs.declared.values.MuxanduTimestamp.{MuxanduTimestamp}
use Rattle.muxandu_c.specs.declared.zone_numbers.MuxanduTransition.{MuxanduTransition}
use Rattle.muxandu_c.specs.declared.zone_numbers.MuxanduZone.{MuxanduZone}

-- the result has a property with the zone for which the numbers stand, or it is the error of numbers that stand for none
abbrev pub IsRefusedZone : {A : Type 0} → MuxanduZone → List MuxanduTransition → Result A Refused → Type 0
IsRefusedZone zone table (Ok value) = ⊥
IsRefusedZone zone table (Err refusal) = IsNoZone zone table refusal

abbrev pub OfZone : {A : Type 0} → MuxanduZone → List MuxanduTransition → (ZoneParts → Result A Refused → Type 0) → Result A Refused → Type 0
OfZone zone table Is result = ((z : ZoneParts) × StandsFor zone table z × Is z result) ⊎ IsRefusedZone zone table result

-- the parts of the date-time that the clocks of a zone show at an instant, or RESULT if its date is out of range
abbrev pub IsShown : ZoneParts → ℤ → Result MuxanduDateTime Refused → Type 0
IsShown z instant (Ok shown) = (at : Local) × ShownIn z instant (Some at) × (shown ≡ date_time_parts at)
IsShown z instant (Err refusal) = ShownIn z instant None × (refusal ≡ refused.Result)

-- the numbers of the first transition after an instant, or RESULT if there is none
abbrev pub IsNext : ZoneParts → ℤ → Result MuxanduTransition Refused → Type 0
IsNext z instant (Ok row) = (t : Transition) × IsNextAfter z instant (Some t) × IsTransitionOf row t
IsNext z instant (Err refusal) = IsNextAfter z instant None × (refusal ≡ refused.Result)

-- the numbers of the last transition before an instant, or RESULT if there is none
abbrev pub IsPrevious : ZoneParts → ℤ → Result MuxanduTransition Refused → Type 0
IsPrevious z instant (Ok row) = (t : Transition) × IsLastBefore z instant (Some t) × IsTransitionOf row t
IsPrevious z instant (Err refusal) = IsLastBefore z instant None × (refusal ≡ refused.Result)

-- the same of the zone for which numbers stand, and of the instant of a timestamp
abbrev pub IsShownIn : MuxanduZone → List MuxanduTransition → ℤ → Result MuxanduDateTime Refused → Type 0
IsShownIn zone table instant = OfZone zone table (λ z. IsShown z instant)

abbrev pub IsNextIn : MuxanduZone → List MuxanduTransition → ℤ → Result MuxanduTransition Refused → Type 0
IsNextIn zone table instant = OfZone zone table (λ z. IsNext z instant)

abbrev pub IsPreviousIn : MuxanduZone → List MuxanduTransition → ℤ → Result MuxanduTransition Refused → Type 0
IsPreviousIn zone table instant = OfZone zone table (λ z. IsPrevious z instant)

abbrev pub IsShownAt : MuxanduZone → List MuxanduTransition → MuxanduTimestamp → Result MuxanduDateTime Refused → Type 0
IsShownAt zone table at = After (timestamp_value at) (λ instant. IsShownIn zone table instant)

abbrev pub IsNextOf : MuxanduZone → List MuxanduTransition → MuxanduTimestamp → Result MuxanduTransition Refused → Type 0
IsNextOf zone table at = After (timestamp_value at) (λ instant. IsNextIn zone table instant)

abbrev pub IsPreviousOf : MuxanduZone → List MuxanduTransition → MuxanduTimestamp → Result MuxanduTransition Refused → Type 0
IsPreviousOf zone table at = After (timestamp_value at) (λ instant. IsPreviousIn zone table instant)
