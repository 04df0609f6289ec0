-- The kinds of local time of a file, and its transitions.
use Rattle.std.specs.Prelude.{ℕ, ◌+◌, ◌-◌, ◌*◌, ◌<◌, ◌≡◌, ◌≢◌, ◌==◌, ℤ, Bool, List, length, drop, if◌then◌else◌, Option, Some, None}
use Rattle.zones.specs.Tables.{row_at}
use Rattle.zones.specs.declared.time_type.TimeType.{TimeType}
use Rattle.zones.specs.Seconds.{IsSecond}
use Rattle.zones.specs.declared.zone_error.ZoneError.{ZoneError}
use Rattle.zones.specs.declared.zone_error.ZoneError.TheVariants.{Row, Rule}
use Rattle.zones.specs.declared.transition.Transition.{Transition}
use Rattle.zone_files.specs.Blocks.{BlockParts, byte_at, signed_word_at, long_at}
use Rattle.zone_files.specs.FileReading.{FileParts, size_of}
use Rattle.zone_files.specs.FileGrammar.{IsSound}
use Rattle.zone_files.specs.Pieces.{front, is_named}
use Rattle.zone_files.specs.Rules.{DaylightParts, RuleParts}

-- the parts of a file fit together
pub record IsWhole (file : FileParts) : Type 0 where
  pub sound : IsSound file.count file.block
  pub times : length file.block.times ≡ length file.block.indexes * size_of file.wide
  pub types : length file.block.types ≡ file.count * 6

-- the abbreviation that begins at a place of their list
abbrev pub name_from : List ℕ → ℕ → List ℕ
name_from names k = front is_named (drop k names)

-- the first place below a limit at which an abbreviation begins
pub record IsFirstPlace (names text : List ℕ) (limit k : ℕ) : Type 0 where
  pub below : k < limit
  pub named : name_from names k ≡ text
  pub first : (j : ℕ) → j < k → name_from names j ≢ text

-- it begins at none
abbrev pub IsNowhere : List ℕ → List ℕ → ℕ → Type 0
IsNowhere names text limit = (j : ℕ) → j < limit → name_from names j ≢ text

abbrev pub IsPlaceOf : List ℕ → List ℕ → ℕ → Option ℕ → Type 0
IsPlaceOf names text limit None = IsNowhere names text limit
IsPlaceOf names text limit (Some k) = IsFirstPlace names text limit k

-- the kind of local time at a place; its abbreviation is numbered by the first place at which it begins
pub record IsKindOf (block : BlockParts) (k : ℕ) (found : TimeType) : Type 0 where
  pub offset : found.offset ≡ signed_word_at block.types (6 * k)
  pub daylight : found.is_daylight ≡ (byte_at block.types (6 * k + 4) == 1)
  pub named : name_from block.names found.designation ≡ name_from block.names (byte_at block.types (6 * k + 5))
  pub first : IsNowhere block.names (name_from block.names (byte_at block.types (6 * k + 5))) found.designation

-- the second of a transition
abbrev pub time_at : Bool → List ℕ → ℕ → ℤ
time_at wide times i = if wide then long_at times (8 * i) else signed_word_at times (4 * i)

-- the place of the kind of local time before a transition: the first one before them all
abbrev pub kind_before : List ℕ → ℕ → ℕ
kind_before indexes i = if i == 0 then 0 else byte_at indexes (i - 1)

-- a row is a transition of the file
pub record IsRow (file : FileParts) (i : ℕ) (row : Transition) : Type 0 where
  pub second : row.second ≡ time_at file.wide file.block.times i
  pub before : IsKindOf file.block (kind_before file.block.indexes i) row.before
  pub after : IsKindOf file.block (byte_at file.block.indexes i) row.after

-- the rows are the transitions of the file
abbrev pub AreRows : FileParts → List Transition → Type 0
AreRows file rows = (i : ℕ) → i < length file.block.indexes → IsRow file i (row_at rows i)

-- the name of daylight saving time in a rule
abbrev pub daylight_name : Option DaylightParts → List ℕ → List ℕ
daylight_name None other = other
daylight_name (Some daylight) other = daylight.name

-- the abbreviation of a number: 256 and 257 are the two names of the rule, and the others places of the list
abbrev pub name_of_rule : Option RuleParts → List ℕ → ℕ → List ℕ
name_of_rule None names number = name_from names number
name_of_rule (Some rule) names number =
    if number == 256 then rule.name else (if number == 257 then daylight_name rule.daylight (name_from names number) else name_from names number)

abbrev pub abbreviation_of : FileParts → ℕ → List ℕ
abbreviation_of file number = name_of_rule file.rule file.block.names number

-- the transition at this index is the first that is out of range
pub record IsRowOut (file : FileParts) (i : ℕ) : Type 0 where
  pub within : i < length file.block.indexes
  pub out : IsSecond (time_at file.wide file.block.times i) → ⊥

abbrev pub IsRowFault : FileParts → ZoneError → Type 0
IsRowFault file (Row i) = IsRowOut file i
IsRowFault file Rule = ⊥
