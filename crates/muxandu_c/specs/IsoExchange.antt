-- Values as texts of ISO 8601 for every year, and texts as values.
use Rattle.std.specs.Prelude.{ℕ, List, Result, Ok}
use Rattle.iso_texts.specs.IsoMeaning.{iso_meaning}
use Rattle.iso_texts.specs.IsoTexts.{iso_text}
use Rattle.iso_texts.specs.declared.parts.IsoParts.{IsoParts}
use Rattle.muxandu_c.specs.Answers.{text_as_refused, and_then}
use Rattle.muxandu_c.specs.Values.{date_time_value, as_date_time}
use Rattle.muxandu_c.specs.declared.refused.Refused.{Refused}
use Rattle.muxandu_c.specs.declared.values.MuxanduDateTime.{MuxanduDateTime}

-- the text of a date-time
abbrev pub date_time_to_iso : MuxanduDateTime → Result (List ℕ) Refused
date_time_to_iso v = and_then (date_time_value v) (λ at. Ok (iso_text at))

-- the meaning of the numbers of a text as a date-time, or the error
abbrev pub iso_spelled : IsoParts → Result MuxanduDateTime Refused
iso_spelled p = as_date_time (text_as_refused p.day (iso_meaning p))
