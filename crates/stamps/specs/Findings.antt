-- The messages of findings.
use Rattle.std.specs.Prelude.{ℕ, List, [], ◌++◌, codes, decimal}
use Rattle.format_descriptions.specs.declared.value_refusal.Field.{Field}
use Rattle.format_descriptions.specs.declared.value_refusal.ValueRefusal.{ValueRefusal}
use Rattle.format_descriptions.specs.declared.value_refusal.ValueRefusal.TheVariants as part
use Rattle.log_forms.specs.FieldNames.{field_name}
use Rattle.rfc3339.specs.Refusals.{component_name}
use Rattle.stamps.specs.declared.finding.Cause.{Cause}
use Rattle.stamps.specs.declared.finding.Cause.TheVariants.{Missing, Refused, Unread, NoInstant, NoText, Zone, Earlier}
use Rattle.stamps.specs.declared.finding.Finding.{Finding}
use Rattle.stamps.specs.declared.finding.Finding.TheVariants.{Line, NoStamp}

-- the part of a refusal, and what is wrong with it
abbrev pub field_of : ValueRefusal → Field
field_of (part.Missing field) = field
field_of (part.Wrong field) = field

abbrev pub field_end : ValueRefusal → List ℕ
field_end (part.Missing field) = codes " is missing"
field_end (part.Wrong field) = codes " is out of range"

-- the text of a cause, in two parts
abbrev pub cause_name : Cause → List ℕ
cause_name Missing = codes "no stamp"
cause_name (Refused component) = component_name component
cause_name (Unread refusal) = field_name (field_of refusal)
cause_name NoInstant = codes "no valid stamp"
cause_name NoText = codes "its instant has no text"
cause_name Zone = codes "a zone in brackets"
cause_name Earlier = codes "earlier"

abbrev pub cause_end : Cause → List ℕ
cause_end Missing = []
cause_end (Refused component) = codes " is out of range"
cause_end (Unread refusal) = field_end refusal
cause_end NoInstant = []
cause_end NoText = []
cause_end Zone = codes " follows the stamp"
cause_end Earlier = codes " than the one before"

-- the text of a cause
abbrev pub cause_text : Cause → List ℕ
cause_text cause = cause_name cause ++ cause_end cause

-- the message of a finding
abbrev pub finding_text : Finding → List ℕ
finding_text (Line line cause) = codes "line " ++ decimal line ++ codes ": " ++ cause_text cause
finding_text NoStamp = codes "no line has a stamp"
