-- Offsets of time zones that a caller keeps as numbers.
use Rattle.std.specs.Prelude.{◌≡◌, ◌⊎◌, ℕ, ℤ, List, Result, Ok, Err}
use Rattle.calendar_values.specs.WallClock.{unix_seconds_of}
use Rattle.zones.specs.Zones.{ZoneParts, IsZoneOffset}
use Rattle.muxandu_c.specs.Answers.{Answers}
use Rattle.muxandu_c.specs.Values.{timestamp_value}
use Rattle.muxandu_c.specs.ZoneNumbers.{StandsFor, IsNoZone}
use Rattle.muxandu_c.specs.declared.refused.Refused.{Refused}
use Rattle.muxandu_c.specs.declared.values.MuxanduTimestamp.{MuxanduTimestamp}
use Rattle.muxandu_c.specs.declared.zone_numbers.MuxanduTransition.{MuxanduTransition}
use Rattle.muxandu_c.specs.declared.zone_numbers.MuxanduZone.{MuxanduZone}

-- a call returns the status and the value of a result with this property
abbrev pub AnswersBy : {A : Type 0} → ℕ → A → A → (Result A Refused → Type 0) → Type 0
AnswersBy {A} status there now Is = (result : Result A Refused) × Is result × Answers status there now result

-- the result has a property with the value of a first step, or it is the error of the first
abbrev pub After : {A B : Type 0} → Result A Refused → (A → Result B Refused → Type 0) → Result B Refused → Type 0
After (Ok value) Is result = Is value result
After (Err refusal) Is result = result ≡ Err refusal

-- the value is one of the zone for which the numbers stand, or they stand for none
abbrev pub InZone : {A : Type 0} → MuxanduZone → List MuxanduTransition → (ZoneParts → A → Type 0) → Result A Refused → Type 0
InZone zone table Is (Ok value) = (z : ZoneParts) × StandsFor zone table z × Is z value
InZone zone table Is (Err refusal) = IsNoZone zone table refusal

-- the offset of the zone at a Unix second
abbrev pub IsOffsetIn : MuxanduZone → List MuxanduTransition → ℤ → Result ℤ Refused → Type 0
IsOffsetIn zone table second = InZone zone table (λ z offset. IsZoneOffset z second offset)

-- the offset of the zone at an instant
abbrev pub IsOffsetAt : MuxanduZone → List MuxanduTransition → MuxanduTimestamp → Result ℤ Refused → Type 0
IsOffsetAt zone table at = After (timestamp_value at) (λ instant. IsOffsetIn zone table (unix_seconds_of instant))
