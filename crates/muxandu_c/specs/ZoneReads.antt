-- Time zones read from files and from texts.
use Rattle.std.specs.Prelude.{◌≡◌, ◌⊎◌, ℕ, ◌≤◌, ◌<◌, List, [], length, take, drop, Result, Ok, Err}
use Rattle.zones.specs.Zones.{ZoneParts}
use Rattle.zones.specs.declared.zone_error.ZoneError.{ZoneError}
use Rattle.zones.specs.declared.zone_error.ZoneError.TheVariants.{Row, Rule}
use Rattle.zone_files.specs.FileReading.{FileParts, file_of}
use Rattle.zone_files.specs.FileZones.{IsWholeZone, IsAfterRows}
use Rattle.zone_files.specs.Kinds.{IsRowFault}
use Rattle.zone_files.specs.Reading.{rule_of}
use Rattle.zone_files.specs.RuleZones.{IsRuleZone, NeverRuleZone}
use Rattle.zone_files.specs.Rules.{RuleParts}
use Rattle.zone_files.specs.declared.faults.RuleFault.{RuleFault}
use Rattle.zone_files.specs.declared.faults.RuleFault.TheVariants as rule_part
use Rattle.zone_files.specs.declared.faults.RuleRefusal.{RuleRefusal}
use Rattle.zone_files.specs.declared.file_faults.FilePart.{FilePart}
use Rattle.zone_files.specs.declared.file_faults.FilePart.TheVariants as part
use Rattle.zone_files.specs.declared.file_faults.FileRefusal.{FileRefusal}
use Rattle.muxandu_c.specs.Answers.{status_number}
use Rattle.muxandu_c.specs.Outcomes.{outcome_of}
use Rattle.muxandu_c.specs.ZoneNumbers.{StandsFor}
use Rattle.muxandu_c.specs.declared.outcomes.Fault.{Fault}
use Rattle.muxandu_c.specs.declared.outcomes.MuxanduOutcome.{MuxanduOutcome}
use Rattle.muxandu_c.specs.declared.refused.Refused.TheVariants as refused
use Rattle.muxandu_c.specs.declared.zone_numbers.MuxanduTransition.{MuxanduTransition}
use Rattle.muxandu_c.specs.declared.zone_numbers.MuxanduZone.{MuxanduZone}

-- the reason of a text that is no rule
abbrev pub reason_of_rule : RuleFault → ℕ
reason_of_rule rule_part.Name = 54
reason_of_rule rule_part.Digit = 55
reason_of_rule rule_part.Range = 56
reason_of_rule rule_part.Byte = 57

-- the error of a text or of a file, with its place
abbrev pub fault_of_reason : ℕ → ℕ → Fault
fault_of_reason place reason = record { place = place; refused = refused.Syntax; reason = reason }

-- the error of a text that is no rule, with the index of the byte
abbrev pub rule_fault : RuleRefusal → Fault
rule_fault refusal = fault_of_reason refusal.place (reason_of_rule refusal.fault)

-- the reason of bytes that are no file of a time zone
abbrev pub reason_of_part : FilePart → ℕ
reason_of_part part.Length = 44
reason_of_part part.Magic = 45
reason_of_part part.Version = 46
reason_of_part part.LeapSeconds = 61
reason_of_part part.Count = 47
reason_of_part part.Offset = 48
reason_of_part part.Daylight = 49
reason_of_part part.Designation = 50
reason_of_part part.Names = 51
reason_of_part part.Index = 52
reason_of_part part.Footer = 53
reason_of_part (part.Rule fault) = reason_of_rule fault

-- the error of bytes that are no file of a time zone, with the index of the byte
abbrev pub file_fault : FileRefusal → Fault
file_fault refusal = fault_of_reason refusal.place (reason_of_part refusal.part)

-- the error of transitions and a rule that make no zone, with the index of the transition
abbrev pub zone_fault : ZoneError → Fault
zone_fault (Row place) = fault_of_reason place 58
zone_fault Rule = fault_of_reason 0 59

-- the error of a file with too many transitions, with their number
abbrev pub size_fault : ℕ → Fault
size_fault count = fault_of_reason count 60

-- the error of the transitions of a file: there are more than 512, or one is out of range
abbrev pub IsRowsFault : FileParts → Fault → Type 0
IsRowsFault file fault =
    ((512 < length file.block.indexes) × (fault ≡ size_fault (length file.block.indexes)))
    ⊎ ((length file.block.indexes ≤ 512) × ((e : ZoneError) × IsRowFault file e × (fault ≡ zone_fault e)))

-- the error of a file whose transitions and rule make no zone
abbrev pub IsJointFault : FileParts → Fault → Type 0
IsJointFault file fault = (length file.block.indexes ≤ 512) × ((e : ZoneError) × IsAfterRows file e × (fault ≡ zone_fault e))

-- the zone of the file with these bytes, or the error of bytes that have none
abbrev pub IsTzif : List ℕ → Result ZoneParts Fault → Type 0
IsTzif bytes (Ok z) = (file : FileParts) × (file_of bytes ≡ Ok file) × (length file.block.indexes ≤ 512) × IsWholeZone file z
IsTzif bytes (Err fault) =
    ((refusal : FileRefusal) × (file_of bytes ≡ Err refusal) × (fault ≡ file_fault refusal))
    ⊎ ((file : FileParts) × (file_of bytes ≡ Ok file) × (IsRowsFault file fault ⊎ IsJointFault file fault))

-- the numbers of a zone are put into places, of which there are too few, or enough; what is behind them is as it was
pub record IsShort (z : ZoneParts) (outcome : MuxanduOutcome) (old new : MuxanduZone) (there now : List MuxanduTransition) : Type 0 where
  pub few : length there < length z.rows
  pub outcome_is : outcome ≡ record { size = length z.rows; status = status_number refused.Buffer; reason = 0 }
  pub zone_is : new ≡ old
  pub table_is : now ≡ there

pub record IsWritten (z : ZoneParts) (outcome : MuxanduOutcome) (new : MuxanduZone) (there now : List MuxanduTransition) : Type 0 where
  pub room : length z.rows ≤ length there
  pub outcome_is : outcome ≡ outcome_of (Ok (length z.rows))
  pub stands : StandsFor new (take (length z.rows) now) z
  pub behind : drop (length z.rows) now ≡ drop (length z.rows) there

abbrev pub IsPut : ZoneParts → MuxanduOutcome → (old new : MuxanduZone) → (there now : List MuxanduTransition) → Type 0
IsPut z outcome old new there now = IsShort z outcome old new there now ⊎ IsWritten z outcome new there now

-- the result is put into places, or the error is told and they are as they were
abbrev pub IsPlaced : Result ZoneParts Fault → MuxanduOutcome → (old new : MuxanduZone) → (there now : List MuxanduTransition) → Type 0
IsPlaced (Ok z) outcome old new there now = IsPut z outcome old new there now
IsPlaced (Err fault) outcome old new there now = (outcome ≡ outcome_of (Err fault)) × (new ≡ old) × (now ≡ there)

-- a call reads a zone with a property, or an error with it
abbrev pub IsRead : (Result ZoneParts Fault → Type 0) → MuxanduOutcome → (old new : MuxanduZone) → (there now : List MuxanduTransition) → Type 0
IsRead Is outcome old new there now = (found : Result ZoneParts Fault) × Is found × IsPlaced found outcome old new there now

-- the zone whose rule has this text and holds at all times, or the error of a text that has none
abbrev pub IsRuleText : List ℕ → Result ZoneParts Fault → Type 0
IsRuleText text (Ok z) = (rule : RuleParts) × (rule_of text ≡ Ok rule) × IsRuleZone rule z
IsRuleText text (Err fault) =
    ((refusal : RuleRefusal) × (rule_of text ≡ Err refusal) × (fault ≡ rule_fault refusal))
    ⊎ ((rule : RuleParts) × (rule_of text ≡ Ok rule) × NeverRuleZone rule × (fault ≡ zone_fault Rule))

-- the numbers of a zone without transitions are put into a place, or the error is told and it is as it was
abbrev pub IsPlacedAlone : Result ZoneParts Fault → MuxanduOutcome → (old new : MuxanduZone) → Type 0
IsPlacedAlone (Ok z) outcome old new = (outcome ≡ outcome_of (Ok 0)) × StandsFor new [] z
IsPlacedAlone (Err fault) outcome old new = (outcome ≡ outcome_of (Err fault)) × (new ≡ old)

-- a call reads such a zone with a property, or an error with it
abbrev pub IsReadAlone : (Result ZoneParts Fault → Type 0) → MuxanduOutcome → (old new : MuxanduZone) → Type 0
IsReadAlone Is outcome old new = (found : Result ZoneParts Fault) × Is found × IsPlacedAlone found outcome old new
