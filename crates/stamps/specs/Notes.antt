-- Notes in place of lines.
use Rattle.std.specs.Prelude.{ℕ, ◌/◌, ◌%◌, List, [], ◌++◌, codes, decimal, ℤ, ◌-ℤ◌, unsigned_abs, Option, Some, None}
use Rattle.calendar_values.specs.Clock.{nanos_per_second}
use Rattle.calendar_values.specs.Digits.{fraction_digits}
use Rattle.rfc3339.specs.UnixTexts.{unix_text}
use Rattle.stamps.specs.Findings.{finding_text}
use Rattle.stamps.specs.Styles.{text_in}
use Rattle.stamps.specs.declared.notes.Note.{Note}
use Rattle.stamps.specs.declared.notes.Note.TheVariants.{Fault, Gap}
use Rattle.stamps.specs.declared.task.Style.TheVariants.{Utc}

-- a text, or else the Unix seconds
abbrev pub text_or_unix : Option (List ℕ) → ℤ → List ℕ
text_or_unix (Some text) i = text
text_or_unix None i = unix_text i

-- the text of an instant in UTC, or its Unix seconds if it has no text there
abbrev pub instant_text : ℤ → List ℕ
instant_text i = text_or_unix (text_in Utc i) i

-- the length of a gap in seconds, with the digits of the fraction that it needs
abbrev pub gap_text : ℤ → List ℕ
gap_text gap =
    decimal (unsigned_abs gap / nanos_per_second) ++ codes "." ++ fraction_digits 9 (unsigned_abs gap % nanos_per_second) ++ codes " s after "

-- the three parts of a note
abbrev pub note_front : Note → List ℕ
note_front (Fault found) = finding_text found
note_front (Gap line before at) = instant_text at ++ codes " line " ++ decimal line ++ codes ": "

abbrev pub note_middle : Note → List ℕ
note_middle (Fault found) = []
note_middle (Gap line before at) = gap_text (at -ℤ before)

abbrev pub note_end : Note → List ℕ
note_end (Fault found) = codes "\n"
note_end (Gap line before at) = instant_text before ++ codes "\n"

-- the line that a note is
abbrev pub note_text : Note → List ℕ
note_text note = note_front note ++ (note_middle note ++ note_end note)
