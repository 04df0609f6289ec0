-- Date-times read from the front of a text, and those whose second may be 60.
use Rattle.std.specs.Prelude.{ℕ, ◌-◌, Bool, List, length, Option, Some, None, Result, Ok, Err, if◌then◌else◌}
use Rattle.rfc3339.specs.LeapSeconds.{leap_meaning}
use Rattle.rfc3339.specs.Reading.{front_at}
use Rattle.rfc3339.specs.declared.parts.Parts.{Parts}
use Rattle.muxandu_c.specs.Answers.{and_then, text_as_refused}
use Rattle.muxandu_c.specs.Exchange.{date_time_spelled}
use Rattle.muxandu_c.specs.Values.{date_time_parts}
use Rattle.muxandu_c.specs.declared.refused.Refused.{Refused}
use Rattle.muxandu_c.specs.declared.refused.Refused.TheVariants as refused
use Rattle.muxandu_c.specs.declared.values.MuxanduDateTime.{MuxanduDateTime}

-- the meaning of the numbers in front, and the number of bytes that spell them
abbrev pub front_spelled : List ℕ → Option (Parts × List ℕ) → Result (MuxanduDateTime × ℕ) Refused
front_spelled text None = Err refused.Syntax
front_spelled text (Some (p, rest)) = and_then (date_time_spelled p) (λ v. Ok (v, length text - length rest))

-- the date-time in front of a text, and the number of its bytes
unfoldable pub date_time_front : List ℕ → Result (MuxanduDateTime × ℕ) Refused
date_time_front text = front_spelled text (front_at text)

-- the meaning of the numbers of a text whose second may be 60, and whether it is 60
abbrev pub leap_spelled : Parts → Result (MuxanduDateTime × Bool) Refused
leap_spelled p = and_then (text_as_refused p.day (leap_meaning p)) (λ read. Ok (date_time_parts read.0, read.1))

-- the first and the second of a pair, if a result has one
abbrev pub first_of : {A B : Type 0} → Result (A × B) Refused → Result A Refused
first_of answer = and_then answer (λ pair. Ok pair.0)

abbrev pub second_of : {A B : Type 0} → Result (A × B) Refused → Result B Refused
second_of answer = and_then answer (λ pair. Ok pair.1)

-- the number of a mark
abbrev pub mark_number : Result Bool Refused → Result ℕ Refused
mark_number answer = and_then answer (λ mark. Ok (if mark then 1 else 0))
