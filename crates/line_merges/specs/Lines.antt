-- The lines of a log, with their instants.
use Rattle.std.specs.Prelude.{ℕ, ◌+◌, ◌-◌, ◌^◌, ◌==◌, Bool, true, false, map, min, List, [], ◌∷◌, ◌++◌, ℤ, Option, Some, None, if◌then◌else◌, is_some}
use Rattle.std.specs.Option.{option_or}
use Rattle.line_devices.specs.Lines.{pieces_of, whole_lines_of}
use Rattle.line_devices.specs.StampTallies.{first_tally, kind_of, tally_after, tally_of_kinds}
use Rattle.line_devices.specs.declared.stamp_tallies.LineKind.{LineKind}
use Rattle.line_devices.specs.declared.stamp_tallies.StampTally.{StampTally}
use Rattle.line_merges.specs.Instants.{LogReading, is_before, next_instant, reading_from, up_to}
use Rattle.line_merges.specs.LineFronts.{feed_if}
use Rattle.line_merges.specs.declared.logs.Place.{Place}

-- a line: its number from 1 on, at most 2^64 - 1, the instant up to it, how it counts, whether its instant is before the one of the
-- line before, its bytes, and whether a line feed ends it
pub record Line : Type 0 where
  pub number : ℕ
  pub instant : Option ℤ
  pub kind : LineKind
  pub is_back : Bool
  pub bytes : List ℕ
  pub is_ended : Bool

-- the text of a line, with its line feed
abbrev pub line_text : Line → List ℕ
line_text line = line.bytes ++ feed_if line.is_ended

-- the place before the first line
abbrev pub first_place : Place
first_place = record { lines = 0; last = None; back = None; stamps = first_tally }

-- the instant up to a line at a place
abbrev pub instant_at : {M : Type 0} → LogReading M → Place → List ℕ → Option ℤ
instant_at reading place bytes = up_to place.last (next_instant reading place.last (place.lines == 0) bytes)

-- the kind of a line at a place: by its bytes, and by whether it has an instant of its own
abbrev pub kind_at : {M : Type 0} → LogReading M → Place → List ℕ → LineKind
kind_at reading place bytes = kind_of bytes (is_some (next_instant reading place.last (place.lines == 0) bytes))

-- the line of these bytes at a place
abbrev pub line_at : {M : Type 0} → LogReading M → Place → List ℕ → Bool → Line
line_at reading place bytes is_ended = record {
  number = min (place.lines + 1) (2 ^ 64 - 1);
  instant = instant_at reading place bytes;
  kind = kind_at reading place bytes;
  is_back = is_before (instant_at reading place bytes) place.last;
  bytes = bytes;
  is_ended = is_ended;
}

-- the number of a line that is before the one before it
abbrev pub back_of : Line → Option ℕ
back_of line = if line.is_back then Some line.number else None

-- the number of the first such line
unfoldable pub first_back : List Line → Option ℕ
first_back [] = None
first_back (line ∷ lines) = option_or (back_of line) (first_back lines)

-- the tally of lines: those of them that have no instant of their own
unfoldable pub stamp_tally : List Line → StampTally
stamp_tally lines = tally_of_kinds (map (λ line. line.kind) lines)

-- the place after a line
abbrev pub place_after : Place → Line → Place
place_after place line = record {
  lines = line.number;
  last = line.instant;
  back = option_or place.back (back_of line);
  stamps = tally_after place.stamps line.number line.kind;
}

-- the place after lines
unfoldable pub place_after_lines : Place → List Line → Place
place_after_lines place [] = place
place_after_lines place (line ∷ lines) = place_after_lines (place_after place line) lines

-- how the lines after a line are read
abbrev pub reading_after : {M : Type 0} → LogReading M → Line → LogReading M
reading_after reading line = reading_from reading (reading.after reading.memory line.number line.kind line.bytes)

-- how those after several lines are read
unfoldable pub reading_after_lines : {M : Type 0} → LogReading M → List Line → LogReading M
reading_after_lines reading [] = reading
reading_after_lines reading (line ∷ lines) = reading_after_lines (reading_after reading line) lines

-- lines from a place on, that a line feed ends, and the bytes after the last line feed
unfoldable pub lines_at : {M : Type 0} → LogReading M → Place → List (List ℕ) → List ℕ → List Line
lines_at reading place [] [] = []
lines_at reading place [] (byte ∷ rest) = line_at reading place (byte ∷ rest) false ∷ []
lines_at reading place (bytes ∷ lines) rest =
    let line = line_at reading place bytes true in line ∷ lines_at (reading_after reading line) (place_after place line) lines rest

-- the last piece
abbrev pub last_piece : List (List ℕ) → List ℕ
last_piece [] = []
last_piece (piece ∷ []) = piece
last_piece (piece ∷ next ∷ pieces) = last_piece (next ∷ pieces)

-- the lines of bytes from a place on
unfoldable pub lines_from : {M : Type 0} → LogReading M → Place → List ℕ → List Line
lines_from reading place bytes = lines_at reading place (whole_lines_of bytes) (last_piece (pieces_of bytes))

-- the lines of a log
unfoldable pub log_lines : {M : Type 0} → LogReading M → List ℕ → List Line
log_lines reading log = lines_from reading first_place log
