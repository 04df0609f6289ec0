-- Lines with their stamps in front, in one style.
use Rattle.std.specs.Prelude.{ℕ, ◌+◌, ◌==◌, ◌&&◌, Bool, false, nat_eq, not, List, [], ◌∷◌, ◌++◌, drop, take, if◌then◌else◌, Option, Some, None}
use Rattle.std.specs.Cmp.Lexicographic.{pointwise}
use Rattle.std.specs.Option.{option_map}
use Rattle.log_forms.specs.Ends.{runs_on}
use Rattle.log_forms.specs.Forms.{form_named}
use Rattle.log_forms.specs.declared.names.FormName.{FormName}
use Rattle.log_forms.specs.declared.names.FormName.TheVariants.{Rfc3339}
use Rattle.log_forms.specs.declared.names.FormName.TheVariants as forms
use Rattle.log_forms.specs.declared.places.Place.TheVariants.{Json}
use Rattle.stamps.specs.Readers.{is_json}
use Rattle.stamps.specs.StampTexts.{stamp_text}
use Rattle.stamps.specs.Styles.{text_in}
use Rattle.stamps.specs.declared.fronted.Lead.{Lead}
use Rattle.stamps.specs.declared.readers.FormReader.{FormReader}
use Rattle.stamps.specs.declared.readers.LineStamp.{LineStamp}
use Rattle.stamps.specs.declared.readers.Reader.{Reader}
use Rattle.stamps.specs.declared.readers.Reader.TheVariants.{Plain, Formed}
use Rattle.stamps.specs.declared.task.Style.{Style}
use Rattle.stamps.specs.declared.task.Style.TheVariants.{Utc, At, Unix}

-- a text and a blank
abbrev pub with_blank : List ℕ → List ℕ
with_blank text = text ++ 32 ∷ []

-- whether another stamp may replace the one of a line: it begins the line, after a byte order mark of this length, and its word ends
-- there
abbrev pub is_replaced : ℕ → List ℕ → LineStamp → Bool
is_replaced mark line stamp = (stamp.start == mark) && not (runs_on false (drop (stamp.start + stamp.length) line))

abbrev pub front_text : Bool → ℕ → LineStamp → List ℕ → Lead
front_text replaces mark stamp text =
    if replaces then record { start = 0; text = text; count = stamp.start + stamp.length }
    else record { start = 0; text = with_blank text; count = mark }

abbrev pub lead_by : Bool → ℕ → LineStamp → Option (List ℕ) → Option Lead
lead_by replaces mark stamp (Some text) = Some (front_text replaces mark stamp text)
lead_by replaces mark stamp None = None

-- the beginning of a line with a stamp: its text in a style in place of it, or else before the whole line
abbrev pub lead_of : Style → ℕ → List ℕ → LineStamp → Option Lead
lead_of style mark line stamp = lead_by (is_replaced mark line stamp) mark stamp (text_in style stamp.instant)

-- the stamp of a record of JSON in a style, in its place
abbrev pub value_lead : Style → LineStamp → Option Lead
value_lead style stamp = option_map (λ text. record { start = stamp.start; text = text; count = stamp.length }) (stamp_text style stamp)

-- a line with its stamp in one style
abbrev pub with_lead : Lead → List ℕ → List ℕ
with_lead lead line = take lead.start line ++ (lead.text ++ drop (lead.start + lead.count) line)

-- whether two readers read one member of JSON
abbrev pub is_same_member : Reader → Reader → Bool
is_same_member Plain other = false
is_same_member (Formed first) Plain = false
is_same_member (Formed first) (Formed second) =
    is_json first.place && (is_json second.place && pointwise nat_eq first.text second.text)

-- the form of the texts of a style
abbrev pub form_written : Style → FormName
form_written Utc = Rfc3339
form_written (At offset) = Rfc3339
form_written Unix = forms.Unix

-- what reads a member of JSON once it is written in a style, if a reader reads it
abbrev pub member_reader : Style → FormReader → Option Reader
member_reader style reader =
    if is_json reader.place then Some (Formed (record {
      form = form_named (form_written style);
      place = Json;
      text = reader.text;
      assumed = record { offset = None; year = None; month = 0 };
      zone = None;
    })) else None

abbrev pub value_reader : Style → Reader → Option Reader
value_reader style Plain = None
value_reader style (Formed reader) = member_reader style reader
