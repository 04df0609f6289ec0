-- The lengths of texts, proved by a function of `src/length_laws.rt`.
use Rattle.std.specs.Prelude.{◌≡◌, ℕ, ℤ, ◌≤◌, List, length, Ok}
use Rattle.offset_times.specs.Local.{Local, local_in_utc}
use Rattle.rfc3339.specs.Reading.{reading_of}
use Rattle.rfc3339.specs.Texts.{rfc3339_text}

-- the shortest text of an instant in UTC has 30 bytes at most
abbrev pub TextsInUtcHaveThirtyBytes : Type 0
TextsInUtcHaveThirtyBytes = (i : ℤ) → length (rfc3339_text (local_in_utc i)) ≤ 30

-- no text that is read as a date-time is shorter than the one that is written of it
abbrev pub WrittenTextsAreTheShortest : Type 0
WrittenTextsAreTheShortest = (text : List ℕ) (at : Local) → reading_of text ≡ Ok at → length (rfc3339_text at) ≤ length text
