-- The transitions of the zone of a file, and of a rule.
use Rattle.std.proofs.Common.{◌≡◌, List, [], ◌∷◌, length, ap, refl, arith}
use Rattle.zones.specs.Zones.{ZoneParts}
use Rattle.zones.specs.declared.time_type.TimeType.{TimeType}
use Rattle.zones.specs.declared.transition.Transition.{Transition}
use Rattle.zone_files.specs.FileReading.{FileParts}
use Rattle.zone_files.specs.FileZones.{IsFileZone, IsZoneAfter}
use Rattle.zone_files.specs.RuleZones.{IsRuleZone, IsZoneAlways}
use Rattle.zone_files.specs.Rules.{RuleParts}
use Rattle.zone_files.specs.declared.endings.Ending.{Ending}
use Rattle.zone_files.specs.declared.endings.Ending.TheVariants.{NoRule, Kept, Goes}

-- a zone of transitions and what follows them has as many transitions
rows_of_ending : (first : TimeType) (rows : List Transition) (ending : Ending) (z : ZoneParts) → IsZoneAfter first rows ending z
    → length z.rows ≡ length rows
rows_of_ending first rows NoRule z h = ap length h.rows
rows_of_ending first [] (Kept kind) z h = ap (λ (z : ZoneParts). length z.rows) (h.0 refl)
rows_of_ending first (row ∷ rows) (Kept kind) z h = ap length (h.1 (omega arith)).0.rows
rows_of_ending first [] (Goes c) z h = ap length (h.0 refl).rows
rows_of_ending first (row ∷ rows) (Goes c) z h = ap length (h.1 (omega arith)).rows

-- a zone of transitions of a file has as many transitions
pub rows_of_file : (file : FileParts) (rows : List Transition) (z : ZoneParts) → IsFileZone file rows z → length z.rows ≡ length rows
rows_of_file file rows z h = rows_of_ending h.first rows h.ending z h.is_zone

-- a zone whose rule holds at all times has no transitions
rows_always : (ending : Ending) (z : ZoneParts) → IsZoneAlways ending z → z.rows ≡ []
rows_always NoRule z is = absurd is
rows_always (Kept kind) z is = ap (λ (z : ZoneParts). z.rows) is
rows_always (Goes c) z is = is.rows

pub rows_of_rule : (rule : RuleParts) (z : ZoneParts) → IsRuleZone rule z → z.rows ≡ []
rows_of_rule rule z h = rows_always h.0 z h.2
