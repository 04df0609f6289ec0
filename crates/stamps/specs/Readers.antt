-- The stamps of lines, by how they are read.
use Rattle.std.specs.Prelude.{◌≡◌, ℕ, ◌+◌, ◌-◌, ◌==◌, Bool, true, false, not, if◌then◌else◌, List, drop, slice_get, take, ℤ, Option, Some, None}
use Rattle.std.specs.Prelude.{Result, Ok, Err, ⊤}
use Rattle.rfc3339.specs.declared.refusal.TextRefusal.{TextRefusal}
use Rattle.rfc3339.specs.declared.refusal.TextRefusal.TheVariants as text
use Rattle.log_forms.specs.Years.{assumed_after}
use Rattle.log_forms.specs.declared.places.Place.{Place}
use Rattle.log_forms.specs.declared.places.Place.TheVariants.{Front, Field, After, Json, Access, Coloured}
use Rattle.log_forms.specs.declared.stamps.Stamp as forms
use Rattle.log_forms.specs.declared.stamps.StampRefusal.{StampRefusal}
use Rattle.log_forms.specs.declared.stamps.StampRefusal.TheVariants as form
use Rattle.stamps.specs.LineStamps.{has_mark, mark_length, stamp_of}
use Rattle.stamps.specs.Zoned.{assumed_stamp, zone_of}
use Rattle.stamps.specs.declared.decide.Stamp.{Stamp}
use Rattle.stamps.specs.declared.readers.FormReader.{FormReader}
use Rattle.stamps.specs.declared.readers.LineRefusal.{LineRefusal}
use Rattle.stamps.specs.declared.readers.LineRefusal.TheVariants.{Absent, OutOfRange, Part}
use Rattle.stamps.specs.declared.readers.LineStamp.{LineStamp}
use Rattle.stamps.specs.declared.readers.Reader.{Reader}
use Rattle.stamps.specs.declared.readers.ValueKind.{ValueKind}
use Rattle.stamps.specs.declared.readers.ValueKind.TheVariants.{Number, Quoted, Other}
use Rattle.stamps.specs.declared.readers.Reader.TheVariants.{Plain, Formed}

-- the stamp of a line that is a date-time of RFC 3339, with this many bytes before it
abbrev pub plain_at : ℕ → Result Stamp TextRefusal → Result LineStamp LineRefusal
plain_at before (Ok stamp) =
    Ok (record { instant = stamp.instant; start = before; length = stamp.length; is_zoned = stamp.is_zoned; is_value = false })
plain_at before (Err text.Syntax) = Err Absent
plain_at before (Err (text.OutOfRange component)) = Err (OutOfRange component)

-- whether there is a byte, and it is a quote
abbrev pub is_quote : Option ℕ → Bool
is_quote (Some byte) = byte == 34
is_quote None = false

-- the value of JSON that a stamp in a text is: a number unless a quote is before it, and a text if one follows it too
abbrev pub json_kind : List ℕ → forms.Stamp → ValueKind
json_kind front stamp =
    if stamp.start == 0 then Other
    else (if not (is_quote (slice_get front (stamp.start - 1))) then Number
    else (if is_quote (slice_get front (stamp.start + stamp.length)) then Quoted else Other))

-- whether a place is a member of JSON
abbrev pub is_json : Place → Bool
is_json Json = true
is_json Front = false
is_json (Field number) = false
is_json After = false
is_json Access = false
is_json Coloured = false

-- the value of JSON that the stamp of a line at a place is
abbrev pub value_kind : Place → List ℕ → forms.Stamp → ValueKind
value_kind place line stamp = if is_json place then json_kind (take 65533 line) stamp else Other

-- the stamp of a line with this many bytes before the text that has it: the bytes of the value that it is
abbrev pub in_line : ℕ → ValueKind → forms.Stamp → LineStamp
in_line before Number stamp =
    record { instant = stamp.instant; start = before + stamp.start; length = stamp.length; is_zoned = stamp.is_zoned; is_value = true }
in_line before Quoted stamp = record {
  instant = stamp.instant;
  start = before + (stamp.start - 1);
  length = stamp.length + 2;
  is_zoned = stamp.is_zoned;
  is_value = true;
}
in_line before Other stamp =
    record { instant = stamp.instant; start = before + stamp.start; length = stamp.length; is_zoned = stamp.is_zoned; is_value = false }

-- the stamp of a line in a form, with this many bytes before the text that has it at a place
abbrev pub formed_at : ℕ → Place → List ℕ → Result forms.Stamp StampRefusal → Result LineStamp LineRefusal
formed_at before place text (Ok stamp) = Ok (in_line before (value_kind place text stamp) stamp)
formed_at before place text (Err form.Absent) = Err Absent
formed_at before place text (Err (form.Part refusal)) = Err (Part refusal)

-- the stamp of a text in a form, at its place: what is assumed follows from the last instant
abbrev pub form_stamp : FormReader → Option ℤ → List ℕ → Result forms.Stamp StampRefusal
form_stamp by last text = assumed_stamp (zone_of by) by (assumed_after by.assumed last) text

-- the stamp of a line, in the text after this many bytes
abbrev pub stamp_behind : Reader → Option ℤ → ℕ → List ℕ → Result LineStamp LineRefusal
stamp_behind Plain last before text = plain_at before (stamp_of text)
stamp_behind (Formed by) last before text = formed_at before by.place text (form_stamp by last text)

-- the stamp of a line, by the last instant before it, after the byte order mark of the first line
abbrev pub line_stamp : Reader → Option ℤ → Bool → List ℕ → Result LineStamp LineRefusal
line_stamp reader last is_first line =
    let before = mark_length (has_mark is_first line) in stamp_behind reader last before (drop before line)

-- whether stamps are read without regard to the lines before: no year is assumed
abbrev pub IsOfOneLine : Reader → Type 0
IsOfOneLine Plain = ⊤
IsOfOneLine (Formed by) = by.assumed.year ≡ None
