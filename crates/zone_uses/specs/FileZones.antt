-- The zone of a file.
use Rattle.std.specs.Prelude.{◌≡◌, ℕ, List}
use Rattle.zones.specs.Zones.{ZoneParts}
use Rattle.zone_files.specs.FileGrammar.{DerivesFile}
use Rattle.zone_files.specs.FileReading.{FileParts}
use Rattle.zone_files.specs.FileZones.{IsWholeZone}

-- the grammar of files derives a file from the bytes, and the zone has its transitions and its rule
pub record IsZoneOfBytes (bytes : List ℕ) (z : ZoneParts) : Type 0 where
  pub file : FileParts
  pub derived : DerivesFile bytes file
  pub is_zone : IsWholeZone file z
