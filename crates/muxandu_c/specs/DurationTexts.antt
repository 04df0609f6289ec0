-- Durations as texts.
use Rattle.std.specs.Prelude.{ℕ, ℤ, List, length, Result, Ok, Err}
use Rattle.std.specs.Result.{result_map_both}
use Rattle.duration_texts.specs.Reading.{reading_of}
use Rattle.duration_texts.specs.Texts.{seconds_text}
use Rattle.duration_texts.specs.declared.faults.DurationFault.{DurationFault}
use Rattle.duration_texts.specs.declared.faults.DurationFault.TheVariants as fault
use Rattle.duration_texts.specs.declared.faults.DurationRefusal.{DurationRefusal}
use Rattle.muxandu_c.specs.Answers.{and_then}
use Rattle.muxandu_c.specs.Values.{duration_parts, duration_value}
use Rattle.muxandu_c.specs.declared.refused.Refused.{Refused}
use Rattle.muxandu_c.specs.declared.refused.Refused.TheVariants as refused
use Rattle.muxandu_c.specs.declared.values.MuxanduDuration.{MuxanduDuration}

-- the error of a fault
abbrev pub duration_refused : DurationFault → Refused
duration_refused fault.Range = refused.Duration
duration_refused fault.Digit = refused.Syntax
duration_refused fault.Unit = refused.Syntax
duration_refused fault.Calendar = refused.Syntax
duration_refused fault.Alone = refused.Syntax
duration_refused fault.Fraction = refused.Syntax

-- the duration of a text
abbrev pub duration_read : List ℕ → Result MuxanduDuration Refused
duration_read text = result_map_both duration_parts (λ refusal. duration_refused refusal.fault) (reading_of text)

-- the place of the fault, or the end of a text without one
abbrev pub place_in : List ℕ → Result ℤ DurationRefusal → ℕ
place_in text (Ok n) = length text
place_in text (Err refusal) = refusal.place

abbrev pub duration_fault : List ℕ → ℕ
duration_fault text = place_in text (reading_of text)

-- the decimal of the seconds of a duration
abbrev pub duration_text : MuxanduDuration → Result (List ℕ) Refused
duration_text v = and_then (duration_value v) (λ d. Ok (seconds_text d))
