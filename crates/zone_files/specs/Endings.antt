-- What follows the transitions of a file.
use Rattle.std.specs.Prelude.{ℕ, ◌≡◌, ◌⊎◌, ℤ, true, false, Bool, List, length, nat_lt, if◌then◌else◌, Option, Some, None}
use Rattle.zones.specs.Cycles.{IsOneType}
use Rattle.zones.specs.declared.cycle.Cycle.{Cycle}
use Rattle.zones.specs.declared.time_type.TimeType.{TimeType}
use Rattle.zone_files.specs.Kinds.{IsFirstPlace, IsNowhere}
use Rattle.zone_files.specs.Rules.{DaylightParts, RuleParts, moment_parts}
use Rattle.zone_files.specs.declared.endings.Ending.{Ending}
use Rattle.zone_files.specs.declared.endings.Ending.TheVariants.{NoRule, Kept, Goes}

-- the places of abbreviations that kinds of local time can name
abbrev pub name_limit : List ℕ → ℕ
name_limit names = if nat_lt 256 (length names) then 256 else length names

-- the number of a name of a rule: its first place in the list below a limit, or another number
abbrev pub IsNumber : List ℕ → List ℕ → ℕ → ℕ → ℕ → Type 0
IsNumber names text limit absent k = IsFirstPlace names text limit k ⊎ (IsNowhere names text limit × (k ≡ absent))

-- a kind of local time of a rule
pub record IsKindBy (names : List ℕ) (limit : ℕ) (name : List ℕ) (offset : ℤ) (is_daylight : Bool) (absent : ℕ) (found : TimeType) : Type 0 where
  pub offset_is : found.offset ≡ offset
  pub daylight_is : found.is_daylight ≡ is_daylight
  pub number : IsNumber names name limit absent found.designation

-- the two moments of a rule and the kinds of local time after them, in the order that they have in a year
abbrev pub IsCycleBy : List ℕ → ℕ → RuleParts → DaylightParts → Cycle → Type 0
IsCycleBy names limit rule daylight c =
    ((moment_parts c.first ≡ daylight.from) × (moment_parts c.second ≡ daylight.until)
    × IsKindBy names limit daylight.name daylight.offset true 257 c.after_first × IsKindBy names limit rule.name rule.offset false 256 c.after_second)
    ⊎ ((moment_parts c.first ≡ daylight.until) × (moment_parts c.second ≡ daylight.from)
    × IsKindBy names limit rule.name rule.offset false 256 c.after_first × IsKindBy names limit daylight.name daylight.offset true 257 c.after_second)

-- what follows by a rule with daylight saving time: two kinds of local time each year, or one that lasts all year
abbrev pub IsDaylightEnding : List ℕ → ℕ → RuleParts → DaylightParts → Ending → Type 0
IsDaylightEnding names limit rule daylight NoRule = ⊥
IsDaylightEnding names limit rule daylight (Kept kind) = (c : Cycle) × IsCycleBy names limit rule daylight c × IsOneType c (Some kind)
IsDaylightEnding names limit rule daylight (Goes c) = IsCycleBy names limit rule daylight c × IsOneType c None

-- what follows by a rule
abbrev pub IsRuleEnding : List ℕ → ℕ → RuleParts → Option DaylightParts → Ending → Type 0
IsRuleEnding names limit rule (Some daylight) ending = IsDaylightEnding names limit rule daylight ending
IsRuleEnding names limit rule None NoRule = ⊥
IsRuleEnding names limit rule None (Kept kind) = IsKindBy names limit rule.name rule.offset false 256 kind
IsRuleEnding names limit rule None (Goes c) = ⊥

abbrev pub IsEnding : List ℕ → ℕ → Option RuleParts → Ending → Type 0
IsEnding names limit (Some rule) ending = IsRuleEnding names limit rule rule.daylight ending
IsEnding names limit None NoRule = Unit {0}
IsEnding names limit None (Kept kind) = ⊥
IsEnding names limit None (Goes c) = ⊥
