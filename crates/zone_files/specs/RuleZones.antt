-- The zone of a rule that holds at all times.
use Rattle.std.specs.Prelude.{◌≡◌, [], Some}
use Rattle.zones.specs.Cycles.{RunsForward}
use Rattle.zones.specs.Zones as zones
use Rattle.zones.specs.Zones.{ZoneParts, fixed_zone}
use Rattle.zone_files.specs.Endings.{IsEnding}
use Rattle.zone_files.specs.Rules.{RuleParts}
use Rattle.zone_files.specs.declared.endings.Ending.{Ending}
use Rattle.zone_files.specs.declared.endings.Ending.TheVariants.{NoRule, Kept, Goes}

-- a zone of what a rule keeps or goes on to at all times
abbrev pub IsZoneAlways : Ending → ZoneParts → Type 0
IsZoneAlways NoRule z = ⊥
IsZoneAlways (Kept kind) z = z ≡ fixed_zone kind
IsZoneAlways (Goes c) z = zones.IsRuleZone c z

-- a rule overlaps itself in some year
abbrev pub Overlaps : Ending → Type 0
Overlaps NoRule = ⊥
Overlaps (Kept kind) = ⊥
Overlaps (Goes c) = RunsForward c → ⊥

-- a zone whose rule holds at all times; its list of abbreviations is empty
abbrev pub IsRuleZone : RuleParts → ZoneParts → Type 0
IsRuleZone rule z = (ending : Ending) × IsEnding [] 0 (Some rule) ending × IsZoneAlways ending z

-- a rule that overlaps itself in some year makes none
abbrev pub NeverRuleZone : RuleParts → Type 0
NeverRuleZone rule = (ending : Ending) × IsEnding [] 0 (Some rule) ending × Overlaps ending
