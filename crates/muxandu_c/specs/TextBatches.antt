-- Texts of a block as date-times.
use Rattle.std.specs.Prelude.{ℕ, ◌+◌, List, length, take, drop, nat_lt, Option, Some, None, Result, Err, if◌then◌else◌}
use Rattle.rfc3339.specs.Reading.{parts_at}
use Rattle.rfc3339.specs.declared.parts.Parts.{Parts}
use Rattle.muxandu_c.specs.Exchange.{date_time_spelled}
use Rattle.muxandu_c.specs.declared.refused.Refused.{Refused}
use Rattle.muxandu_c.specs.declared.refused.Refused.TheVariants as refused
use Rattle.muxandu_c.specs.declared.values.MuxanduDateTime.{MuxanduDateTime}
use Rattle.muxandu_c.specs.declared.values.MuxanduSpan.{MuxanduSpan}

-- the meaning of the numbers of a text, or a syntax error if there are none
abbrev pub date_time_if_any : Option Parts → Result MuxanduDateTime Refused
date_time_if_any None = Err refused.Syntax
date_time_if_any (Some p) = date_time_spelled p

-- the date-time of a text
abbrev pub date_time_read : List ℕ → Result MuxanduDateTime Refused
date_time_read text = date_time_if_any (parts_at text)

-- the date-time of the text at a span of a block
abbrev pub date_time_at : List ℕ → MuxanduSpan → Result MuxanduDateTime Refused
date_time_at block span =
    if nat_lt (length block) (span.start + span.length) then Err refused.Span
    else date_time_read (take span.length (drop span.start block))
