-- Names of time zones.
use Rattle.std.specs.Prelude.{◌≡◌, ◌⊎◌, ℕ, List}
use Rattle.zone_files.specs.ZoneNames.{IsZoneName}
use Rattle.muxandu_c.specs.Answers.{status_number}
use Rattle.muxandu_c.specs.declared.refused.Refused.TheVariants as refused

-- the status of a text: 0 if it can be the name of a time zone, else SYNTAX
abbrev pub IsNameStatus : List ℕ → ℕ → Type 0
IsNameStatus name status = (IsZoneName name × (status ≡ 0)) ⊎ ((IsZoneName name → ⊥) × (status ≡ status_number refused.Syntax))
