-- The texts of the errors of readings.
use Rattle.std.specs.Prelude.{ℕ, List, ◌++◌, codes}
use Rattle.rfc3339.specs.declared.refusal.Component.{Component}
use Rattle.rfc3339.specs.declared.refusal.Component.TheVariants.{Month, Day, Hour, Minute, Second, OffsetHour, OffsetMinute}
use Rattle.rfc3339.specs.declared.refusal.TextRefusal.{TextRefusal}
use Rattle.rfc3339.specs.declared.refusal.TextRefusal.TheVariants.{Syntax, OutOfRange}

-- the name of a part
abbrev pub component_name : Component → List ℕ
component_name Month = codes "month"
component_name Day = codes "day"
component_name Hour = codes "hour"
component_name Minute = codes "minute"
component_name Second = codes "second"
component_name OffsetHour = codes "offset hour"
component_name OffsetMinute = codes "offset minute"

-- the text of an error
abbrev pub refusal_text : TextRefusal → List ℕ
refusal_text Syntax = codes "no date-time of RFC 3339"
refusal_text (OutOfRange component) = component_name component ++ codes " is out of range"
