-- Laws of what readers find in lines. Functions of `src/laws.rt` prove them.
use Rattle.std.specs.Prelude.{◌≡◌, ◌⊎◌, ⊤, ℕ, zero, suc, ◌+◌, ◌*◌, ◌<◌, ℤ, Bool, true, false, List, [], ◌∷◌, ◌++◌, codes, drop, length, map}
use Rattle.std.specs.Prelude.{Option, Some, None, option_map, Result, Ok, Err, if◌then◌else◌}
use Rattle.std.specs.Char.{is_ascii_digit}
use Rattle.std.specs.List.{filter_map, list_all}
use Rattle.log_forms.specs.ChoiceLaws.{Each, IsNear, instants_found}
use Rattle.log_forms.specs.Choices.{count_in, digits_behind_comma, is_read_by_any, is_sure, names_counts, reader_form, reader_key, reader_place, some_year}
use Rattle.log_forms.specs.Forms.{form_named}
use Rattle.log_forms.specs.PlaceWords.{place_of}
use Rattle.log_forms.specs.Stamps.{stamp_at}
use Rattle.log_forms.specs.declared.choice.TheConstants.{READERS}
use Rattle.log_forms.specs.declared.form.Form.{Form}
use Rattle.log_forms.specs.declared.instants.Assumed.{Assumed}
use Rattle.log_forms.specs.declared.names.FormName.{FormName}
use Rattle.log_forms.specs.declared.names.FormName.TheVariants.{Rfc3339, Rfc3339Comma, Syslog, Unix, UnixMs, UnixUs, UnixNs}
use Rattle.log_forms.specs.declared.names.TheConstants.{CHOSEN}
use Rattle.log_forms.specs.declared.places.Place.{Place}
use Rattle.log_forms.specs.declared.places.Place.TheVariants.{Front}
use Rattle.log_forms.specs.declared.stamps.Stamp.{Stamp}
use Rattle.log_forms.specs.declared.stamps.StampRefusal.{StampRefusal}

-- ---- bare counts

-- the digits of a Unix timestamp without a fraction, in each of its forms
abbrev pub digits_counted : FormName → Option ℕ
digits_counted Unix = Some 10
digits_counted UnixMs = Some 13
digits_counted UnixUs = Some 16
digits_counted UnixNs = Some 19
digits_counted _ = None

-- a length is more than that of such a count, if the form is one of counts
abbrev pub IsLonger : Option ℕ → ℕ → Type 0
IsLonger None count = ⊤
IsLonger (Some digits) count = digits < count

-- the lengths of the stamps that a form finds in lines
abbrev pub length_if : Result Stamp StampRefusal → Option ℕ
length_if (Ok stamp) = Some stamp.length
length_if (Err refusal) = None

abbrev pub lengths_in : Form → Place → List ℕ → Assumed → List (List ℕ) → List ℕ
lengths_in form place key assumed lines = filter_map (λ line. length_if (stamp_at form place key assumed line)) lines

-- the same by a reader
abbrev pub lengths_found : ℕ → List (List ℕ) → List ℕ
lengths_found reader lines = lengths_in (form_named (reader_form reader)) (reader_place reader) (reader_key reader) some_year lines

-- no stamp that a reader finds in lines is a bare count: a name or a bracket leads to its place, or each stamp is longer
abbrev pub HasNoBareCount : ℕ → List (List ℕ) → Type 0
HasNoBareCount reader lines =
    (names_counts reader ≡ true) ⊎ Each (IsLonger (digits_counted (reader_form reader))) (lengths_found reader lines)

-- a reader is sure of lines exactly if it finds no bare count in them
pub record BareCountsAreDoubted : Type 0 where
  pub sure : (reader : ℕ) (lines : List (List ℕ)) → HasNoBareCount reader lines → is_sure reader lines ≡ true
  pub doubted : (reader : ℕ) (lines : List (List ℕ)) → is_sure reader lines ≡ true → HasNoBareCount reader lines

-- ---- lines that a reader reads

-- a reader finds a stamp in a line, which is no bare count or is of the years 2000 to 2039
abbrev pub ReadsLine : ℕ → List ℕ → Type 0
ReadsLine reader line =
    (at : ℤ) × (instants_found reader (line ∷ []) ≡ at ∷ []) × (HasNoBareCount reader (line ∷ []) ⊎ IsNear at)

-- a line is read exactly if one of the readers reads it
pub record LinesAreRead : Type 0 where
  pub some : (reader : ℕ) (line : List ℕ) → reader < READERS → ReadsLine reader line → is_read_by_any line ≡ true
  pub only : (line : List ℕ) → is_read_by_any line ≡ true → (reader : ℕ) × (reader < READERS) × ReadsLine reader line

-- ---- digits behind a comma

-- a text ends with a comma and so many digits
pub record EndsWithDigits (text : List ℕ) (count : ℕ) : Type 0 where
  pub front : List ℕ
  pub digits : List ℕ
  pub split : text ≡ front ++ 44 ∷ digits
  pub all : list_all is_ascii_digit digits ≡ true
  pub number : length digits ≡ count

-- the digits behind a comma are those at the end of a text, if a comma is before them
pub record DigitsAreCounted : Type 0 where
  pub found : (text : List ℕ) (count : ℕ) → EndsWithDigits text count → digits_behind_comma text ≡ Some count
  pub only : (text : List ℕ) (count : ℕ) → digits_behind_comma text ≡ Some count → EndsWithDigits text count

-- ---- the places of readers

-- the words for the places at which forms are looked for, in their order
abbrev pub place_words : List (List ℕ)
place_words =
    codes "front" ∷ codes "coloured" ∷ codes "access" ∷ codes "after:[" ∷ codes "json:time" ∷ codes "json:timestamp" ∷ codes "json:@timestamp" ∷
    codes "json:ts" ∷ codes "json:eventTime" ∷ codes "json:@t" ∷ codes "json:time_iso8601" ∷ codes "json:time_local" ∷ codes "json:msec" ∷
    codes "json:requestReceivedTimestamp" ∷ codes "json:__REALTIME_TIMESTAMP" ∷ codes "after:\"$date\":\"" ∷ codes "after:time=\"" ∷
    codes "after:time=" ∷ codes "after:time='" ∷ codes "after:ts=" ∷ codes "after: t=" ∷ codes "after:t=" ∷ codes "after:audit(" ∷
    codes "after:__REALTIME_TIMESTAMP=" ∷ codes "after:eventtime=" ∷ codes "after:\"eventTime\":\"" ∷ codes "after:: [" ∷ codes "after:] " ∷
    codes "after: at " ∷ codes "field:2" ∷ codes "field:3" ∷ codes "field:1" ∷ codes "after:," ∷ codes "after:\"" ∷ codes "after:#" ∷
    codes "after:: " ∷ codes "after:ime\":\"" ∷ codes "after:ime\": \"" ∷ codes "after:tamp\":\"" ∷ codes "after:tamp\": \"" ∷
    codes "after:='" ∷ codes "after:>" ∷ codes "after:,\"" ∷ codes "after:=" ∷ []

-- the words for the places at which a bare count is doubted, since no name leads to it
abbrev pub doubtful_words : List (List ℕ)
doubtful_words =
    codes "front" ∷ codes "coloured" ∷ codes "after:] " ∷ codes "after: at " ∷ codes "field:2" ∷ codes "field:3" ∷ codes "field:1" ∷
    codes "after:," ∷ codes "after:\"" ∷ codes "after:#" ∷ codes "after:: " ∷ codes "after:ime\":\"" ∷ codes "after:ime\": \"" ∷
    codes "after:tamp\":\"" ∷ codes "after:tamp\": \"" ∷ codes "after:='" ∷ codes "after:>" ∷ codes "after:,\"" ∷ codes "after:=" ∷ []

-- the place of a word, and its text or name
abbrev pub place_named : List ℕ → Option (Place × List ℕ)
place_named word = option_map (λ (found : Place × ℕ). (found.0, drop found.1 word)) (place_of word)

-- the places of readers, from one on, of which there are so many
abbrev pub places_from : ℕ → ℕ → List (Option (Place × List ℕ))
places_from number zero = []
places_from number (suc more) =
    Some (reader_place (number * CHOSEN), reader_key (number * CHOSEN)) ∷ places_from (number + 1) more

-- those at which a bare count is doubted
abbrev pub doubted_from : ℕ → ℕ → List (Option (Place × List ℕ))
doubted_from number zero = []
doubted_from number (suc more) =
    if names_counts (number * CHOSEN) then doubted_from (number + 1) more
    else Some (reader_place (number * CHOSEN), reader_key (number * CHOSEN)) ∷ doubted_from (number + 1) more

-- the places of readers are those of these words, in their order. At each place the forms are in one order. A stamp of 29 February is
-- found, though it has no year
pub record PlacesAreWords : Type 0 where
  pub places : map place_named place_words ≡ places_from 0 44
  pub doubtful : map place_named doubtful_words ≡ doubted_from 0 44
  pub first : reader_form 0 ≡ Rfc3339
  pub second : reader_form 1 ≡ Rfc3339Comma
  pub next_place : reader_form 42 ≡ Rfc3339
  pub leap_day : count_in (form_named Syslog) Front [] some_year (codes "Feb 29 12:00:00" ∷ []) ≡ 1
