-- The date-time of a text of RFC 2822.
use Rattle.std.specs.Prelude.{ℕ, List, Result, Ok, Err}
use Rattle.format_descriptions.specs.Rfc2822.{Fault, mail_parts}
use Rattle.format_descriptions.specs.declared.parts.Parts.{Parts}
use Rattle.muxandu_c.specs.Parses.{Value, offset_value, refused_value}
use Rattle.muxandu_c.specs.declared.refused.Refused.{Refused}
use Rattle.muxandu_c.specs.declared.refused.Refused.TheVariants as refused
use Rattle.muxandu_c.specs.declared.values.MuxanduDateTime.{MuxanduDateTime}

-- a date-time, or the number of its error
abbrev pub value_or_refused : Value → Result MuxanduDateTime Refused
value_or_refused (Ok v) = Ok v
value_or_refused (Err refusal) = Err (refused_value refusal)

-- the date-time of parts that were read, or the error of a text that has another form
abbrev pub value_if_mail : Result Parts Fault → Result MuxanduDateTime Refused
value_if_mail (Ok p) = value_or_refused (offset_value p)
value_if_mail (Err fault) = Err refused.Syntax

-- the date-time of a text of RFC 2822
abbrev pub mail_value : List ℕ → Result MuxanduDateTime Refused
mail_value text = value_if_mail (mail_parts text)
