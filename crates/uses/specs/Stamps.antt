-- The instants of the stamps of log lines.
use Rattle.std.specs.Prelude.{ℕ, ℤ, List, Bool, false, Result, Ok, Err}
use Rattle.std.specs.Ordering.{int_eq}
use Rattle.offset_times.specs.Local.{instant_of}
use Rattle.rfc3339.specs.Reading.{reading_as}
use Rattle.rfc3339.specs.Refusals.{refusal_text}
use Rattle.rfc3339.specs.declared.refusal.TextRefusal.{TextRefusal}
use Rattle.stamp_times.specs.Texts.{timestamp_text}

-- the instant of a stamp, or its error
abbrev pub instant_named : List ℕ → Result ℤ TextRefusal
instant_named stamp = reading_as instant_of stamp

-- whether both are valid, and are one instant
abbrev pub are_one_instant : Result ℤ TextRefusal → Result ℤ TextRefusal → Bool
are_one_instant (Ok i) (Ok j) = int_eq i j
are_one_instant (Ok i) (Err refusal) = false
are_one_instant (Err refusal) second = false

-- the text of the Unix seconds, or of the error
abbrev pub seconds_or_refusal : Result ℤ TextRefusal → List ℕ
seconds_or_refusal (Ok instant) = timestamp_text instant
seconds_or_refusal (Err refusal) = refusal_text refusal

-- the answer to a line that is a stamp
abbrev pub answer_to : List ℕ → List ℕ
answer_to stamp = seconds_or_refusal (instant_named stamp)
