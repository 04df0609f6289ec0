-- Texts of RFC 3339 with a number of digits of the fraction.
use Rattle.std.specs.Prelude.{ℕ, ◌||◌, List, Result, Ok, Err, if◌then◌else◌}
use Rattle.offset_times.specs.Local.{Local}
use Rattle.rfc3339.specs.Texts.{digits_text}
use Rattle.muxandu_c.specs.Answers.{and_then}
use Rattle.muxandu_c.specs.Exchange.{year_has_no_text, offset_has_no_text}
use Rattle.muxandu_c.specs.Values.{date_time_value}
use Rattle.muxandu_c.specs.declared.refused.Refused.{Refused}
use Rattle.muxandu_c.specs.declared.refused.Refused.TheVariants as refused
use Rattle.muxandu_c.specs.declared.values.MuxanduDateTime.{MuxanduDateTime}

-- the text with this number of digits, if there is one
abbrev pub rfc3339_of_digits : ℕ → Local → Result (List ℕ) Refused
rfc3339_of_digits digits at = if year_has_no_text at.wall || offset_has_no_text at.offset then Err refused.NoText else Ok (digits_text digits at)

abbrev pub date_time_to_rfc3339_digits : ℕ → MuxanduDateTime → Result (List ℕ) Refused
date_time_to_rfc3339_digits digits v = and_then (date_time_value v) (rfc3339_of_digits digits)
