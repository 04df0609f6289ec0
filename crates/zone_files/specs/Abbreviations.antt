-- The offset of a zone at a second, with its abbreviation in the file of the zone.
use Rattle.std.specs.Prelude.{◌≡◌, ℕ, ℤ, Bool, List}
use Rattle.zone_files.specs.FileReading.{FileParts}
use Rattle.zone_files.specs.Kinds.{abbreviation_of}
use Rattle.zones.specs.Zones.{ZoneParts, IsZoneType}
use Rattle.zones.specs.declared.time_type.TimeType.{TimeType}

-- these are the offset of the zone at the second, whether that is daylight saving time, and its abbreviation in the file
pub record IsAbbreviated (file : FileParts) (z : ZoneParts) (second offset : ℤ) (is_daylight : Bool) (name : List ℕ) : Type 0 where
  pub kind : TimeType
  pub has : IsZoneType z second kind
  pub offset_is : offset ≡ kind.offset
  pub daylight_is : is_daylight ≡ kind.is_daylight
  pub name_is : name ≡ abbreviation_of file kind.designation
