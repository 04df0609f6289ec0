-- Kinds of local time of time zones, and their abbreviations.
use Rattle.std.specs.Prelude.{◌≡◌, ℕ, ℤ, List, [], length, nat_lt, if◌then◌else◌, Some, Result, Ok, Err}
use Rattle.calendar_values.specs.WallClock.{unix_seconds_of}
use Rattle.zones.specs.Zones.{ZoneParts, IsZoneType}
use Rattle.zones.specs.declared.time_type.TimeType.{TimeType}
use Rattle.zone_files.specs.FileReading.{FileParts, file_of}
use Rattle.zone_files.specs.Kinds.{abbreviation_of, name_of_rule}
use Rattle.zone_files.specs.Reading.{rule_of}
use Rattle.zone_files.specs.Rules.{RuleParts}
use Rattle.zone_files.specs.declared.faults.RuleRefusal.{RuleRefusal}
use Rattle.zone_files.specs.declared.file_faults.FileRefusal.{FileRefusal}
use Rattle.muxandu_c.specs.Values.{timestamp_value}
use Rattle.muxandu_c.specs.ZoneNumbers.{IsTypeOf}
use Rattle.muxandu_c.specs.ZoneOffsets.{After, InZone}
use Rattle.muxandu_c.specs.ZoneReads.{file_fault, rule_fault}
use Rattle.muxandu_c.specs.declared.outcomes.Fault.{Fault}
use Rattle.muxandu_c.specs.declared.refused.Refused.{Refused}
use Rattle.muxandu_c.specs.declared.refused.Refused.TheVariants as refused
use Rattle.muxandu_c.specs.declared.values.MuxanduTimestamp.{MuxanduTimestamp}
use Rattle.muxandu_c.specs.declared.zone_numbers.MuxanduTransition.{MuxanduTransition}
use Rattle.muxandu_c.specs.declared.zone_numbers.MuxanduZone.{MuxanduZone}
use Rattle.muxandu_c.specs.declared.zone_types.MuxanduTimeType.{MuxanduTimeType}

-- the numbers of the kind of local time of a zone at a Unix second
abbrev pub IsTypeThen : ZoneParts → ℤ → MuxanduTimeType → Type 0
IsTypeThen z second found = (kind : TimeType) × IsZoneType z second kind × IsTypeOf found.offset_seconds found.designation found.is_daylight kind

abbrev pub IsTypeIn : MuxanduZone → List MuxanduTransition → ℤ → Result MuxanduTimeType Refused → Type 0
IsTypeIn zone table second = InZone zone table (λ z found. IsTypeThen z second found)

-- the same at an instant
abbrev pub IsTypeAt : MuxanduZone → List MuxanduTransition → MuxanduTimestamp → Result MuxanduTimeType Refused → Type 0
IsTypeAt zone table at = After (timestamp_value at) (λ instant. IsTypeIn zone table (unix_seconds_of instant))

-- a name that has at most this many bytes, or BUFFER with their number
abbrev pub name_in_room : ℕ → List ℕ → Result (List ℕ) Fault
name_in_room room name = if nat_lt room (length name) then Err (record { place = length name; refused = refused.Buffer; reason = 0 }) else Ok name

-- the abbreviation with a number in a file that is read
abbrev pub name_of_file : ℕ → ℕ → Result FileParts FileRefusal → Result (List ℕ) Fault
name_of_file number room (Ok file) = name_in_room room (abbreviation_of file number)
name_of_file number room (Err refusal) = Err (file_fault refusal)

abbrev pub name_in_tzif : List ℕ → ℕ → ℕ → Result (List ℕ) Fault
name_in_tzif bytes number room = name_of_file number room (file_of bytes)

-- the abbreviation with a number in a rule that is read
abbrev pub name_of_text : ℕ → ℕ → Result RuleParts RuleRefusal → Result (List ℕ) Fault
name_of_text number room (Ok rule) = name_in_room room (name_of_rule (Some rule) [] number)
name_of_text number room (Err refusal) = Err (rule_fault refusal)

abbrev pub name_in_rule : List ℕ → ℕ → ℕ → Result (List ℕ) Fault
name_in_rule text number room = name_of_text number room (rule_of text)
