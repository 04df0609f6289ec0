-- A log whose lines have their stamps in one style, as a merge reads it.
use Rattle.std.specs.Prelude.{◌≡◌, ℕ, ◌<◌, ◌≤◌, ◌==◌, Bool, true, false, List, [], ◌∷◌, ◌++◌, drop, length, take, if◌then◌else◌, Option, Some, None}
use Rattle.std.specs.Prelude.{Result, Ok, Err}
use Rattle.std.specs.Option.{option_map}
use Rattle.line_devices.specs.Lines.{pieces_of}
use Rattle.stamps.specs.Ahead.{left_of}
use Rattle.stamps.specs.Changes.{choice_after, first_choice, reader_by}
use Rattle.stamps.specs.Decisions.{last_of, line_kind, one_more}
use Rattle.stamps.specs.FrontLines.{is_same_member, lead_of, value_lead, with_lead}
use Rattle.stamps.specs.LineStamps.{has_mark, longest_head, mark_length}
use Rattle.stamps.specs.Readers.{line_stamp}
use Rattle.stamps.specs.declared.fronted.Fronts.{Fronts}
use Rattle.stamps.specs.declared.fronted.Known.{Known}
use Rattle.stamps.specs.declared.fronted.Lead.{Lead}
use Rattle.stamps.specs.declared.fronted.Turned.{Turned}
use Rattle.stamps.specs.declared.fronted.Turning.{Turning}
use Rattle.stamps.specs.declared.readers.LineRefusal.{LineRefusal}
use Rattle.stamps.specs.declared.readers.LineStamp.{LineStamp}
use Rattle.stamps.specs.declared.readers.Reader.{Reader}

-- ---- a line

-- whether the next line is the first
abbrev pub is_first : Known → Bool
is_first known = known.lines == 0

-- the reader of the next line
abbrev pub reader_now : Turning → Known → Reader
reader_now turning known = reader_by turning.anew known.choice.own turning.reader

-- the stamp of the next line, by its beginning
abbrev pub stamp_now : Turning → Known → List ℕ → Result LineStamp LineRefusal
stamp_now turning known line = line_stamp (reader_now turning known) known.last (is_first known) line

-- whether a reader reads the member of JSON whose value stays in its place
abbrev pub is_member : Option Reader → Reader → Bool
is_member None reader = false
is_member (Some other) reader = is_same_member reader other

-- the beginning of a line with a stamp, by whether that is a value of JSON
abbrev pub lead_with : Turning → Bool → ℕ → List ℕ → LineStamp → Option Lead
lead_with turning true mark line stamp = value_lead turning.value_style stamp
lead_with turning false mark line stamp = lead_of turning.style mark line stamp

-- none without a stamp
abbrev pub lead_if : Turning → Bool → ℕ → List ℕ → Result LineStamp LineRefusal → Option Lead
lead_if turning is_member mark line (Ok stamp) = lead_with turning is_member mark line stamp
lead_if turning is_member mark line (Err refusal) = None

-- the beginning of the next line
abbrev pub lead_now : Turning → Known → List ℕ → Option Lead
lead_now turning known line =
    lead_if turning (is_member turning.other (reader_now turning known)) (mark_length (has_mark (is_first known) line)) line
    (stamp_now turning known line)

-- a line with another beginning, if there is one
abbrev pub with_lead_if : Option Lead → List ℕ → List ℕ
with_lead_if (Some lead) line = with_lead lead line
with_lead_if None line = line

-- the beginning of the next line, of 65,536 bytes at most, as it is written
unfoldable pub front_turned : Turning → Known → List ℕ → List ℕ
front_turned turning known front = with_lead_if (lead_now turning known front) front

-- what is known behind the line
unfoldable pub known_by : Turning → Known → List ℕ → Known
known_by turning known front =
    let stamp = stamp_now turning known front in record {
      last = last_of known.last stamp;
      lines = one_more known.lines;
      choice = choice_after turning.anew known.choice (one_more known.lines) (line_kind front stamp) front;
    }

-- the next line as it is written: its first 65,536 bytes decide
abbrev pub line_turned : Turning → Known → List ℕ → List ℕ
line_turned turning known line = front_turned turning known (take longest_head line) ++ drop longest_head line

-- what is known behind it
abbrev pub known_after : Turning → Known → List ℕ → Known
known_after turning known line = known_by turning known (take longest_head line)

-- ---- a log

-- what is known of a log before its first line
abbrev pub first_known : Known
first_known = record { last = None; lines = 0; choice = first_choice }

-- the bytes behind the last line feed as they are written, if there are any
abbrev pub last_turned : Turning → Known → List ℕ → List ℕ
last_turned turning known [] = []
last_turned turning known (byte ∷ line) = line_turned turning known (byte ∷ line)

-- the pieces of a log as they are written: each but the last is a line, and a line feed follows it
unfoldable pub log_turned : Turning → Known → List (List ℕ) → List ℕ
log_turned turning known [] = []
log_turned turning known (line ∷ []) = last_turned turning known line
log_turned turning known (line ∷ next ∷ pieces) =
    line_turned turning known line ++ 10 ∷ log_turned turning (known_after turning known line) (next ∷ pieces)

-- the same behind the beginning of a line that is written
abbrev pub open_turned : Turning → Known → List (List ℕ) → List ℕ
open_turned turning known [] = []
open_turned turning known (piece ∷ []) = piece
open_turned turning known (piece ∷ next ∷ pieces) = piece ++ 10 ∷ log_turned turning known (next ∷ pieces)

-- pieces with a text in front of the first of them
abbrev pub begun_by : List ℕ → List (List ℕ) → List (List ℕ)
begun_by head [] = head ∷ []
begun_by head (piece ∷ pieces) = (head ++ piece) ∷ pieces

-- the text of pieces that are not read yet, behind a line that is begun
abbrev pub pieces_turned : Turning → Fronts → List (List ℕ) → List ℕ
pieces_turned turning fronts pieces =
    if fronts.is_open then open_turned turning fronts.known pieces
    else log_turned turning fronts.known (begun_by fronts.head.items pieces)

-- the text that is ready, and that of the bytes that are not read yet
unfoldable pub text_of : Turning → Fronts → List ℕ → List ℕ
text_of turning fronts left = fronts.ready.items ++ pieces_turned turning fronts (pieces_of left)

-- what is kept of a line that is not open is shorter than what decides a line
abbrev pub IsShort : Fronts → Type 0
IsShort fronts = fronts.is_open ≡ false → length fronts.head.items < longest_head

-- the text of the same behind what is ready
abbrev pub text_behind : Turning → Fronts → List ℕ → List ℕ
text_behind turning fronts left = pieces_turned turning fronts (pieces_of left)

-- the text that is not given yet, by the bytes of the log that are not read yet
abbrev pub turned_text : {R : Type 0} → Turning → Turned R → List ℕ → List ℕ
turned_text turning turned left = drop turned.served (text_of turning turned.fronts left)

-- the same, where the bytes of the log are known. At its end no bytes are left
abbrev pub turned_by : {R : Type 0} → (R → Option (List ℕ)) → Turned R → Option Turning → Option (List ℕ)
turned_by remaining turned None = left_of remaining turned.inner
turned_by remaining turned (Some turning) =
    if turned.is_ended then Some (drop turned.served turned.fronts.ready.items)
    else option_map (turned_text turning turned) (left_of remaining turned.inner)

abbrev pub turned_left : {R : Type 0} → (R → Option (List ℕ)) → Turned R → Option (List ℕ)
turned_left remaining turned = turned_by remaining turned turned.turning

-- no more is given than is ready, and what is kept of a line is short
abbrev pub IsInStep : {R : Type 0} → Turned R → Type 0
IsInStep turned = IsShort turned.fronts × (turned.served ≤ length turned.fronts.ready.items)
