-- The lines of a text and their fields, as CSV has them: a field that begins with a quote is closed by the next single quote, and
-- separators and newlines before that are bytes of the field. Each field is the index of its first byte and that after its last.
use Rattle.std.specs.Prelude.{ℕ, zero, suc, ◌+◌, ◌-◌, ◌==◌, ◌&&◌, ◌||◌, Bool, true, not, nat_lt, List, [], ◌∷◌, length, take, drop}
use Rattle.std.specs.Prelude.{map, slice_index_or, if◌then◌else◌}
use Rattle.muxandu_c.specs.Answers.{status_number}
use Rattle.muxandu_c.specs.declared.refused.Refused.TheVariants as refused
use Rattle.muxandu_c.specs.declared.values.MuxanduSpan.{MuxanduSpan}

-- the place after a byte of a field, with this quote. Place 0 is at its start, 1 in a field with no quotes or after its last quote,
-- 2 between quotes, 3 after a quote that ends the field or is the first of two
abbrev pub next_place : ℕ → ℕ → ℕ → ℕ
next_place quote place byte =
    if place == 0 then (if byte == quote then 2 else 1)
    else (if place == 2 then (if byte == quote then 3 else 2)
    else (if (place == 3) && (byte == quote) then 2 else 1))

-- the byte is outside quotes, and ends the field: it is the separator or a newline
abbrev pub ends_field : ℕ → ℕ → ℕ → Bool
ends_field separator place byte = not (place == 2) && ((byte == separator) || (byte == 10))

-- a line: its first field, and those that follow
pub record Line : Type 0 where
  pub start : ℕ
  pub end : ℕ
  pub fields : List (ℕ × ℕ)

-- the end of a field, the fields that follow it in its line, and the lines that follow that line
pub record Ahead : Type 0 where
  pub end : ℕ
  pub fields : List (ℕ × ℕ)
  pub lines : List Line

-- the lines of a text, if it has a byte, from this index on, where this is ahead of it
abbrev pub lines_if_any : ℕ → List ℕ → Ahead → List Line
lines_if_any k [] ahead = []
lines_if_any k (byte ∷ text) ahead = (record { start = k; end = ahead.end; fields = ahead.fields }) ∷ ahead.lines

-- a field that ends here, by what is ahead of the text after its end
abbrev pub ahead_of_end : ℕ → ℕ → List ℕ → Ahead → Ahead
ahead_of_end k byte text ahead =
    if byte == 10 then record { end = k; fields = []; lines = lines_if_any (k + 1) text ahead }
    else record { end = k; fields = (k + 1, ahead.end) ∷ ahead.fields; lines = ahead.lines }

-- what is ahead of a place in a field, from this index on
unfoldable pub ahead_of : ℕ → ℕ → ℕ → ℕ → List ℕ → Ahead
ahead_of separator quote place k [] = record { end = k; fields = []; lines = [] }
ahead_of separator quote place k (byte ∷ text) =
    if ends_field separator place byte then ahead_of_end k byte text (ahead_of separator quote 0 (k + 1) text)
    else ahead_of separator quote (next_place quote place byte) (k + 1) text

-- the same where a field ends at this index
abbrev pub ended_at : ℕ → ℕ → ℕ → List ℕ → Ahead
ended_at separator quote k [] = record { end = k; fields = []; lines = [] }
ended_at separator quote k (byte ∷ text) = ahead_of_end k byte text (ahead_of separator quote 0 (k + 1) text)

-- whether the line ends here: with the text, or with a newline
abbrev pub is_line_end : List ℕ → Bool
is_line_end [] = true
is_line_end (byte ∷ text) = byte == 10

-- the lines of a text from this index on
abbrev pub lines_from : ℕ → ℕ → ℕ → List ℕ → List Line
lines_from separator quote k text = lines_if_any k text (ahead_of separator quote 0 k text)

-- the end of a field without a carriage return before a newline
abbrev pub trimmed_end : List ℕ → ℕ → ℕ → ℕ
trimmed_end text start end =
    if nat_lt start end && ((slice_index_or text (end - 1) 0 == 13) && (slice_index_or text end 0 == 10)) then end - 1 else end

-- the place after these bytes of a field
abbrev pub place_after : ℕ → ℕ → List ℕ → ℕ
place_after quote place [] = place
place_after quote place (byte ∷ bytes) = place_after quote (next_place quote place byte) bytes

-- the last byte of the field is the quote that closes it
abbrev pub is_quoted : ℕ → List ℕ → ℕ → ℕ → Bool
is_quoted quote text start end = place_after quote 0 (take (end - start) (drop start text)) == 3

-- the span between the quotes of a field, or of the whole field
abbrev pub span_within : ℕ → List ℕ → ℕ → ℕ → MuxanduSpan
span_within quote text start end =
    if is_quoted quote text start end then record { start = start + 1; length = end - start - 2 } else record { start = start; length = end - start }

abbrev pub span_of_field : ℕ → List ℕ → ℕ → ℕ → MuxanduSpan
span_of_field quote text start end = span_within quote text start (trimmed_end text start end)

-- the span of a field by its number from 0 on, or an empty one at the end of the line if it has no such field
abbrev pub span_of_number : ℕ → List ℕ → ℕ → ℕ → ℕ → List (ℕ × ℕ) → MuxanduSpan
span_of_number quote text zero start end fields = span_of_field quote text start end
span_of_number quote text (suc n) start end [] = record { start = end; length = 0 }
span_of_number quote text (suc n) start end (field ∷ fields) = span_of_number quote text n field.0 field.1 fields

-- the span of the field of this number in each line
abbrev pub spans_of_lines : ℕ → List ℕ → ℕ → List Line → List MuxanduSpan
spans_of_lines quote text n lines = map (λ line. span_of_number quote text n line.start line.end line.fields) lines

abbrev pub field_spans : ℕ → ℕ → ℕ → List ℕ → List MuxanduSpan
field_spans n separator quote text = spans_of_lines quote text n (lines_from separator quote 0 text)

-- the status: whether there is room for all spans
abbrev pub spans_status : List MuxanduSpan → List MuxanduSpan → ℕ
spans_status there spans = if nat_lt (length there) (length spans) then status_number refused.Buffer else 0
