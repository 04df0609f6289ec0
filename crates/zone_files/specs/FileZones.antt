-- The zone of a file.
use Rattle.std.specs.Prelude.{◌<◌, ◌≡◌, ◌≢◌, ◌⊎◌, List, length, Some, None}
use Rattle.zones.specs.Cycles.{RunsForward}
use Rattle.zones.specs.Tables.{type_after}
use Rattle.zones.specs.Zones.{ZoneParts, fixed_zone, IsZoneBy, IsRuleZone, IsFault}
use Rattle.zones.specs.declared.time_type.TimeType.{TimeType}
use Rattle.zones.specs.declared.transition.Transition.{Transition}
use Rattle.zones.specs.declared.zone_error.ZoneError.{ZoneError}
use Rattle.zones.specs.declared.zone_error.ZoneError.TheVariants.{Rule}
use Rattle.zone_files.specs.Endings.{IsEnding, name_limit}
use Rattle.zone_files.specs.FileReading.{FileParts}
use Rattle.zone_files.specs.Kinds.{AreRows, IsKindOf, IsRowFault}
use Rattle.zone_files.specs.declared.endings.Ending.{Ending}
use Rattle.zone_files.specs.declared.endings.Ending.TheVariants.{NoRule, Kept, Goes}

-- a zone of these transitions and what follows them; with no transitions the rule holds at all times
abbrev pub IsZoneAfter : TimeType → List Transition → Ending → ZoneParts → Type 0
IsZoneAfter first rows NoRule z = IsZoneBy first rows None z
IsZoneAfter first rows (Kept kind) z =
    (length rows ≡ 0 → z ≡ fixed_zone kind) × (0 < length rows → IsZoneBy first rows None z × (type_after first rows (length rows) ≡ kind))
IsZoneAfter first rows (Goes c) z = (length rows ≡ 0 → IsRuleZone c z) × (0 < length rows → IsZoneBy first rows (Some c) z)

-- they make no zone for this reason
abbrev pub IsFaultAfter : TimeType → List Transition → Ending → ZoneError → Type 0
IsFaultAfter first rows NoRule e = IsFault first rows None e
IsFaultAfter first rows (Kept kind) e =
    (0 < length rows) × (IsFault first rows None e ⊎ ((e ≡ Rule) × (type_after first rows (length rows) ≢ kind)))
IsFaultAfter first rows (Goes c) e =
    (length rows ≡ 0 → (e ≡ Rule) × (RunsForward c → ⊥)) × (0 < length rows → IsFault first rows (Some c) e)

-- a zone of the transitions of a file and its rule
pub record IsFileZone (file : FileParts) (rows : List Transition) (z : ZoneParts) : Type 0 where
  pub first : TimeType
  pub ending : Ending
  pub has_first : IsKindOf file.block 0 first
  pub has_ending : IsEnding file.block.names (name_limit file.block.names) file.rule ending
  pub is_zone : IsZoneAfter first rows ending z

-- a file is none for this reason
pub record IsFileFault (file : FileParts) (rows : List Transition) (e : ZoneError) : Type 0 where
  pub first : TimeType
  pub ending : Ending
  pub has_first : IsKindOf file.block 0 first
  pub has_ending : IsEnding file.block.names (name_limit file.block.names) file.rule ending
  pub is_fault : IsFaultAfter first rows ending e

-- all the transitions of a file, and no others
pub record AreAllRows (file : FileParts) (rows : List Transition) : Type 0 where
  pub each : AreRows file rows
  pub count : length rows ≡ length file.block.indexes

-- a zone of a file with all its transitions
pub record IsWholeZone (file : FileParts) (z : ZoneParts) : Type 0 where
  pub rows : List Transition
  pub are_all : AreAllRows file rows
  pub is_zone : IsFileZone file rows z

-- all its transitions and its rule make no zone for this reason
pub record IsAfterRows (file : FileParts) (e : ZoneError) : Type 0 where
  pub rows : List Transition
  pub are_all : AreAllRows file rows
  pub is_fault : IsFileFault file rows e

-- a file is no zone for this reason: a transition is out of range, or all of them and the rule make none
abbrev pub IsWholeFault : FileParts → ZoneError → Type 0
IsWholeFault file e = IsRowFault file e ⊎ IsAfterRows file e
