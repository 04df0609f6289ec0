-- The stamp of a line in a form, at a place.
use Rattle.std.specs.Prelude.{ℕ, ◌+◌, ◌-◌, ◌==◌, ◌&&◌, ◌||◌, Bool, true, false, not, nat_lt, List, drop, length, take, if◌then◌else◌, ℤ}
use Rattle.std.specs.Prelude.{Option, Some, None, Result, Ok, Err}
use Rattle.std.specs.Char.{is_ascii_digit}
use Rattle.std.specs.List.{take_while}
use Rattle.std.specs.Result.{is_ok, result_map_both}
use Rattle.format_descriptions.specs.Read.{front_of, no_parts}
use Rattle.format_descriptions.specs.declared.item.Item.{Item}
use Rattle.format_descriptions.specs.declared.parts.Parts.{Parts}
use Rattle.format_descriptions.specs.declared.value_refusal.ValueRefusal.{ValueRefusal}
use Rattle.log_forms.specs.Ends.{is_apart, opens_bracket}
use Rattle.log_forms.specs.Fronts.{follows_no_zone}
use Rattle.log_forms.specs.Instants.{instant_of_parts}
use Rattle.log_forms.specs.Places.{text_at}
use Rattle.log_forms.specs.declared.form.Form.{Form}
use Rattle.log_forms.specs.declared.instants.Assumed.{Assumed}
use Rattle.log_forms.specs.declared.places.Place.{Place}
use Rattle.log_forms.specs.declared.stamps.Stamp.{Stamp}
use Rattle.log_forms.specs.declared.stamps.StampRefusal.{StampRefusal}
use Rattle.log_forms.specs.declared.stamps.StampRefusal.TheVariants.{Absent, Part}

-- the most bytes of a line that decide on its stamp
abbrev pub longest_front : ℕ
longest_front = 65533

-- the most bytes of a line up to the end of a stamp
abbrev pub longest_stamp : ℕ
longest_stamp = 65500

-- the parts that items read at the front of a text, and the number of their bytes, or the place of the fault
abbrev pub front_reading : List Item → List ℕ → Result (Parts × ℕ) ℕ
front_reading items text =
    result_map_both (λ read. (read.0, length text - length read.1)) (λ left. length text - left) (front_of items text no_parts)

-- whether a text has this number of digits after items that were read
abbrev pub has_digits_behind : ℕ → List ℕ → Result (Parts × ℕ) ℕ → Bool
has_digits_behind digits text (Ok read) = length (take_while is_ascii_digit (drop read.1 text)) == digits
has_digits_behind digits text (Err left) = false

abbrev pub has_digits_if : List Item → List ℕ → Option ℕ → Bool
has_digits_if ahead text None = true
has_digits_if ahead text (Some digits) = has_digits_behind digits text (front_reading ahead text)

-- whether a text has as many digits as the form counts
abbrev pub has_digits : Form → List ℕ → Bool
has_digits form text = has_digits_if (take form.ahead form.items) text form.digits

-- the stamp of an instant, or the error of its parts
abbrev pub stamp_of_instant : ℕ → ℕ → List ℕ → Result ℤ ValueRefusal → Result Stamp StampRefusal
stamp_of_instant start count rest (Ok instant) =
    Ok (record { instant = instant; start = start; length = count; is_zoned = opens_bracket rest })
stamp_of_instant start count rest (Err refusal) = Err (Part refusal)

-- the stamp of these parts, which starts at a place of the front of a line, and of which a text begins with so many bytes, if it ends
-- before the rest, and no time zone is before it
abbrev pub ended_stamp : Assumed → Parts → List ℕ → ℕ → ℕ → List ℕ → Result Stamp StampRefusal
ended_stamp assumed p front start count text =
    if nat_lt longest_stamp (start + count) || not (is_apart p (take count text) (drop count text) && follows_no_zone p (take start front))
    then Err Absent
    else stamp_of_instant start count (drop count text) (instant_of_parts assumed p)

-- the stamp of the parts that were read
abbrev pub read_stamp : Assumed → List ℕ → ℕ → List ℕ → Result (Parts × ℕ) ℕ → Result Stamp StampRefusal
read_stamp assumed front start text (Ok read) = ended_stamp assumed read.0 front start read.1 text
read_stamp assumed front start text (Err place) = Err Absent

-- the stamp at the front of a text, which is the end of the front of a line
abbrev pub stamp_in : Form → Assumed → List ℕ → List ℕ → Result Stamp StampRefusal
stamp_in form assumed front text =
    if has_digits form text then read_stamp assumed front (length front - length text) text (front_reading form.items text) else Err Absent

-- the stamp that follows what was read before it
abbrev pub stamp_after : Form → Assumed → List ℕ → List ℕ → Result (Parts × ℕ) ℕ → Result Stamp StampRefusal
stamp_after form assumed front text (Ok read) = stamp_in form assumed front (drop read.1 text)
stamp_after form assumed front text (Err place) = Err Absent

abbrev pub stamp_behind : Form → Assumed → List ℕ → List ℕ → Result Stamp StampRefusal
stamp_behind form assumed front text = stamp_after form assumed front text (front_reading form.lead text)

-- whether items fit the front of a text, after those that come before a stamp
abbrev pub fits_after : List Item → List ℕ → Result (Parts × ℕ) ℕ → Bool
fits_after items text (Ok read) = is_ok (front_reading items (drop read.1 text))
fits_after items text (Err place) = false

abbrev pub fits : List Item → List Item → List ℕ → Bool
fits lead items text = fits_after items text (front_reading lead text)

-- the stamp of the text at a place, if there is that
abbrev pub stamp_at_text : Form → Assumed → List ℕ → Option (List ℕ) → Result Stamp StampRefusal
stamp_at_text form assumed front None = Err Absent
stamp_at_text form assumed front (Some text) = stamp_behind form assumed front text

-- the stamp of a line, or why it has none
unfoldable pub stamp_at : Form → Place → List ℕ → Assumed → List ℕ → Result Stamp StampRefusal
stamp_at form place text assumed line =
    let front = take longest_front line in stamp_at_text form assumed front (text_at place text front)
