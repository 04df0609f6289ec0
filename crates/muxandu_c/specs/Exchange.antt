-- Values as texts of RFC 3339, and texts as values.
use Rattle.std.specs.Prelude.{◌≡◌, ◌⊎◌, ℕ, ◌+◌, ◌<◌, ◌≤◌, ◌%◌, ◌==◌, ◌||◌, Bool, not, ℤ, pos, unsigned_abs}
use Rattle.std.specs.Prelude.{List, nat_lt, length, take, drop, Result, Ok, Err, if◌then◌else◌}
use Rattle.calendar_values.specs.Calendar.{year_of}
use Rattle.calendar_values.specs.Range.{is_outside}
use Rattle.calendar_values.specs.WallClock.{wall_day}
use Rattle.offset_times.specs.Local.{Local, local_in_utc, instant_of}
use Rattle.rfc3339.specs.Form.{IsDateTime}
use Rattle.rfc3339.specs.Meaning.{meaning}
use Rattle.rfc3339.specs.Texts.{rfc3339_text, fixed_text}
use Rattle.rfc3339.specs.declared.parts.Parts.{Parts}
use Rattle.muxandu_c.specs.Answers.{text_as_refused, and_then}
use Rattle.muxandu_c.specs.Values.{date_time_value, timestamp_value, as_date_time, timestamp_parts}
use Rattle.muxandu_c.specs.declared.refused.Refused.{Refused}
use Rattle.muxandu_c.specs.declared.refused.Refused.TheVariants as refused
use Rattle.muxandu_c.specs.declared.values.MuxanduDateTime.{MuxanduDateTime}
use Rattle.muxandu_c.specs.declared.values.MuxanduSpan.{MuxanduSpan}
use Rattle.muxandu_c.specs.declared.values.MuxanduTimestamp.{MuxanduTimestamp}

-- the year of a wall clock does not have four digits
abbrev pub year_has_no_text : ℤ → Bool
year_has_no_text wall = is_outside (pos 0) (pos 9_999) (year_of (wall_day wall))

-- the offset has seconds, or is of a day or more
abbrev pub offset_has_no_text : ℤ → Bool
offset_has_no_text o = not (unsigned_abs o % 60 == 0) || nat_lt 86_399 (unsigned_abs o)

-- the shortest text, if there is one
abbrev pub rfc3339_of : Local → Result (List ℕ) Refused
rfc3339_of at = if year_has_no_text at.wall || offset_has_no_text at.offset then Err refused.NoText else Ok (rfc3339_text at)

-- the text of fixed width, if there is one
abbrev pub fixed_rfc3339_of : ℤ → Result (List ℕ) Refused
fixed_rfc3339_of i = if year_has_no_text i then Err refused.NoText else Ok (fixed_text i)

-- the texts of a date-time and of a timestamp
abbrev pub date_time_to_rfc3339 : MuxanduDateTime → Result (List ℕ) Refused
date_time_to_rfc3339 v = and_then (date_time_value v) rfc3339_of

abbrev pub timestamp_to_rfc3339 : MuxanduTimestamp → Result (List ℕ) Refused
timestamp_to_rfc3339 v = and_then (timestamp_value v) (λ i. rfc3339_of (local_in_utc i))

abbrev pub timestamp_to_rfc3339_nanos : MuxanduTimestamp → Result (List ℕ) Refused
timestamp_to_rfc3339_nanos v = and_then (timestamp_value v) fixed_rfc3339_of

-- the meaning of the numbers of a text, or the error
abbrev pub read_parts : Parts → Result Local Refused
read_parts p = text_as_refused p.day (meaning p)

-- the same as a date-time, and as an instant
abbrev pub date_time_spelled : Parts → Result MuxanduDateTime Refused
date_time_spelled p = as_date_time (read_parts p)

abbrev pub timestamp_spelled : Parts → Result MuxanduTimestamp Refused
timestamp_spelled p = and_then (read_parts p) (λ at. Ok (timestamp_parts (instant_of at)))

-- the result for a text: the meaning of its numbers, or a syntax error if it does not have the form
pub record IsRead (text : List ℕ) (answer : Result MuxanduTimestamp Refused) : Type 0 where
  pub spelled : (p : Parts) → IsDateTime text p → answer ≡ timestamp_spelled p
  pub syntax : ((p : Parts) × IsDateTime text p) ⊎ (answer ≡ Err refused.Syntax)

-- the result for a span of a block: that for its text, or an error if the span ends after the block
abbrev pub IsReadAt : List ℕ → MuxanduSpan → Result MuxanduTimestamp Refused → Type 0
IsReadAt block span answer =
    ((length block < span.start + span.length) × (answer ≡ Err refused.Span))
    ⊎ ((span.start + span.length ≤ length block) × IsRead (take span.length (drop span.start block)) answer)
