-- Columns of instants on the clocks of time zones that a caller keeps as numbers.
use Rattle.std.specs.Prelude.{◌≡◌, ◌⊎◌, ℕ, ◌≤◌, ◌<◌, ℤ, List, length, take, drop, Result, Ok, Err}
use Rattle.calendar_values.specs.WallClock.{unix_seconds_of}
use Rattle.zones.specs.Zones.{ZoneParts, IsZoneOffset}
use Rattle.muxandu_c.specs.Answers.{and_then, status_number}
use Rattle.muxandu_c.specs.Batches.{AreValuesOf}
use Rattle.muxandu_c.specs.Values.{date_time_value, timestamp_value}
use Rattle.muxandu_c.specs.ZoneInstants.{IsChosenThen}
use Rattle.muxandu_c.specs.ZoneNumbers.{StandsFor, IsNoZone}
use Rattle.muxandu_c.specs.ZoneOffsets.{After}
use Rattle.muxandu_c.specs.ZoneTimes.{IsShown}
use Rattle.muxandu_c.specs.declared.refused.Refused.{Refused}
use Rattle.muxandu_c.specs.declared.refused.Refused.TheVariants as refused
use Rattle.muxandu_c.specs.declared.values.MuxanduBatch.{MuxanduBatch}
use Rattle.muxandu_c.specs.declared.values.MuxanduDateTime.{MuxanduDateTime}
use Rattle.muxandu_c.specs.declared.values.MuxanduTimestamp.{MuxanduTimestamp}
use Rattle.muxandu_c.specs.declared.zone_numbers.MuxanduTransition.{MuxanduTransition}
use Rattle.muxandu_c.specs.declared.zone_numbers.MuxanduZone.{MuxanduZone}

-- a Unix second of the range of timestamps
abbrev pub second_value : ℤ → Result ℤ Refused
second_value s = and_then (timestamp_value (record { seconds = s; nanoseconds = 0 })) (λ instant. Ok (unix_seconds_of instant))

-- the offset of a zone at a second
abbrev pub IsOffsetThen : ZoneParts → ℤ → Result ℤ Refused → Type 0
IsOffsetThen z second (Ok offset) = IsZoneOffset z second offset
IsOffsetThen z second (Err refusal) = ⊥

abbrev pub IsOffsetIn : ZoneParts → ℤ → Result ℤ Refused → Type 0
IsOffsetIn z item = After (second_value item) (IsOffsetThen z)

-- the date-time that the clocks of a zone show at a timestamp
abbrev pub IsShownIn : ZoneParts → MuxanduTimestamp → Result MuxanduDateTime Refused → Type 0
IsShownIn z item = After (timestamp_value item) (IsShown z)

-- the date-time of a zone with the wall clock of a date-time, by the number of a choice
abbrev pub IsChosenIn : ℕ → ZoneParts → MuxanduDateTime → Result MuxanduDateTime Refused → Type 0
IsChosenIn number z item = After (date_time_value item) (λ at. IsChosenThen z at.wall number)

-- the values of items stand at the front of a place, up to the first that fails; what is behind them is as it was
abbrev pub AreThere : {A B : Type 0} → (A → Result B Refused → Type 0) → List A → MuxanduBatch → (there now : List B) → Type 0
AreThere Is items batch there now =
    AreValuesOf Is items (take batch.count now) batch.status × (batch.count ≤ length items) × (drop batch.count now ≡ drop batch.count there)

-- a call writes nothing, and this is its error
abbrev pub IsStopped : {B : Type 0} → Refused → MuxanduBatch → (there now : List B) → Type 0
IsStopped refusal batch there now = (batch.count ≡ 0) × (batch.status ≡ status_number refusal) × (now ≡ there)

-- the values of items in the zone for which numbers stand, or the error of numbers that stand for none
abbrev pub AreInZone : {A B : Type 0} → (ZoneParts → A → Result B Refused → Type 0) → MuxanduZone → List MuxanduTransition → List A → MuxanduBatch
    → (there now : List B) → Type 0
AreInZone Is zone table items batch there now =
    ((z : ZoneParts) × StandsFor zone table z × AreThere (Is z) items batch there now)
    ⊎ ((refusal : Refused) × IsNoZone zone table refusal × IsStopped refusal batch there now)

-- the same in a place with room for all of them, or BUFFER
abbrev pub AreAllIn : {A B : Type 0} → (ZoneParts → A → Result B Refused → Type 0) → MuxanduZone → List MuxanduTransition → List A → MuxanduBatch
    → (there now : List B) → Type 0
AreAllIn Is zone table items batch there now =
    ((length there < length items) × IsStopped refused.Buffer batch there now)
    ⊎ ((length items ≤ length there) × AreInZone Is zone table items batch there now)

-- the offsets of the zone for which numbers stand
abbrev pub AreOffsetsOf : MuxanduZone → List MuxanduTransition → List ℤ → MuxanduBatch → (there now : List ℤ) → Type 0
AreOffsetsOf = AreAllIn IsOffsetIn

-- the date-times that its clocks show
abbrev pub AreShownOf : MuxanduZone → List MuxanduTransition → List MuxanduTimestamp → MuxanduBatch → (there now : List MuxanduDateTime) → Type 0
AreShownOf = AreAllIn IsShownIn

-- its date-times with wall clocks, by the number of a choice
abbrev pub AreChosenOf : ℕ → MuxanduZone → List MuxanduTransition → List MuxanduDateTime → MuxanduBatch → (there now : List MuxanduDateTime) → Type 0
AreChosenOf number = AreAllIn (IsChosenIn number)
