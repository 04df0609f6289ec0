-- The reader that the words of the command line ask for.
use Rattle.std.specs.Prelude.{ℕ, ◌+◌, ◌-◌, ◌*◌, ◌==◌, ◌&&◌, ◌||◌, Bool, true, false, nat_lt, List, [], ◌∷◌, codes, drop, length, if◌then◌else◌, ℤ, pos}
use Rattle.std.specs.Prelude.{Option, Some, None, is_none, is_some, Result, Ok, Err}
use Rattle.std.specs.Char.{is_ascii_digit}
use Rattle.std.specs.List.{list_any}
use Rattle.std.specs.Result.{result_map_both}
use Rattle.std.specs.Str.{bytes_eq}
use Rattle.format_descriptions.specs.Descriptions.{items_of_description, refusal_of}
use Rattle.format_descriptions.specs.declared.description_refusal.DescriptionRefusal.{DescriptionRefusal}
use Rattle.format_descriptions.specs.declared.description_steps.DescriptionVersion.TheVariants.{Two}
use Rattle.log_forms.specs.Forms.{form_named, form_of, name_in}
use Rattle.log_forms.specs.Lacking.{lacks_offset, lacks_year}
use Rattle.log_forms.specs.PlaceWords.{place_of}
use Rattle.log_forms.specs.declared.form.Form.{Form}
use Rattle.log_forms.specs.declared.names.FormName.{FormName}
use Rattle.log_forms.specs.declared.names.FormName.TheVariants.{Rfc3339}
use Rattle.log_forms.specs.declared.names.TheConstants.{FORMS}
use Rattle.log_forms.specs.declared.places.Place.{Place}
use Rattle.log_forms.specs.declared.places.Place.TheVariants as place
use Rattle.rfc3339.specs.Front.{offset_reading_of}
use Rattle.rfc3339.specs.declared.refusal.TextRefusal.TheVariants.{Syntax, OutOfRange}
use Rattle.stamps.specs.Files.{is_dashes}
use Rattle.stamps.specs.declared.readers.Reader.{Reader}
use Rattle.stamps.specs.declared.readers.Reader.TheVariants.{Plain, Formed}
use Rattle.stamps.specs.declared.reading.ReadingMisuse.{ReadingMisuse}
use Rattle.stamps.specs.declared.reading.ReadingMisuse.TheVariants as misuse
use Rattle.stamps.specs.declared.reading.Step.{Step}
use Rattle.stamps.specs.declared.reading.Step.TheVariants as step
use Rattle.stamps.specs.declared.task.Style.{Style}
use Rattle.stamps.specs.declared.task.Style.TheVariants.{Utc, At, Unix}

-- ---- the words

-- the kind of a word that is no value
abbrev pub kind_of : List ℕ → Step
kind_of word =
    if is_dashes word then step.File
    else (if bytes_eq word (codes "--form") then step.Form
    else (if bytes_eq word (codes "--place") || bytes_eq word (codes "--at") then step.Place
    else (if bytes_eq word (codes "--offset") then step.Offset
    else (if bytes_eq word (codes "--year") then step.Year
    else (if bytes_eq word (codes "--to") then step.To
    else (if bytes_eq word (codes "--zone") then step.Zone
    else (if bytes_eq word (codes "--until") then step.Until
    else (if bytes_eq word (codes "--quiet") then step.Quiet
    else (if bytes_eq word (codes "--verbose") then step.Verbose
    else (if bytes_eq word (codes "--list-forms") then step.List else step.Word))))))))))

-- whether the next word is the value of a word of this kind
abbrev pub is_valued : Step → Bool
is_valued step.Form = true
is_valued step.Place = true
is_valued step.Offset = true
is_valued step.Year = true
is_valued step.To = true
is_valued step.Zone = true
is_valued step.Until = true
is_valued _ = false

-- the kind of a word by that of the word before it: an option takes the next word as its value, and after `--` all are files
abbrev pub step_after : Step → List ℕ → Step
step_after step.File word = step.File
step_after before word = if is_valued before then step.Value else kind_of word

-- the misuse of an option that is given twice
abbrev pub twice_of : Step → ReadingMisuse
twice_of step.Form = misuse.FormTwice
twice_of step.Place = misuse.PlaceTwice
twice_of step.Offset = misuse.OffsetTwice
twice_of step.To = misuse.ToTwice
twice_of step.Zone = misuse.ZoneTwice
twice_of step.Until = misuse.UntilTwice
twice_of _ = misuse.YearTwice

-- ---- their values

-- a place and its text of at most 255 bytes
abbrev pub place_text : Place → List ℕ → Result (Place × List ℕ) ReadingMisuse
place_text at text = if nat_lt 255 (length text) then Err misuse.LongPlace else Ok (at, text)

abbrev pub place_read : List ℕ → Option (Place × ℕ) → Result (Place × List ℕ) ReadingMisuse
place_read word (Some found) = place_text found.0 (drop found.1 word)
place_read word None = Err misuse.Place

-- the place, which is the front of the line if none is given
abbrev pub place_asked : Option (List ℕ) → Result (Place × List ℕ) ReadingMisuse
place_asked (Some word) = place_read word (place_of word)
place_asked None = Ok (place.Front, [])

-- the offset, if it is given
abbrev pub offset_asked : Option (List ℕ) → Result (Option ℤ) ReadingMisuse
offset_asked (Some word) = result_map_both Some misuse.Offset (offset_reading_of word)
offset_asked None = Ok None

-- the number of two digits
abbrev pub pair : ℕ → ℕ → ℕ
pair tens units = (tens - 48) * 10 + (units - 48)

-- the year of four digits
abbrev pub year_of : List ℕ → Option ℤ
year_of (a ∷ b ∷ c ∷ d ∷ []) =
    if is_ascii_digit a && (is_ascii_digit b && (is_ascii_digit c && is_ascii_digit d)) then Some (pos (pair a b * 100 + pair c d)) else None
year_of _ = None

abbrev pub year_read : Option ℤ → Result (Option ℤ) ReadingMisuse
year_read (Some year) = Ok (Some year)
year_read None = Err misuse.Year

-- the year, if it is given
abbrev pub year_asked : Option (List ℕ) → Result (Option ℤ) ReadingMisuse
year_asked (Some word) = year_read (year_of word)
year_asked None = Ok None

-- the style of a merge: UTC, or an offset
abbrev pub style_asked : List ℕ → Result Style ReadingMisuse
style_asked word =
    if bytes_eq word (codes "utc") then Ok Utc
    else (if bytes_eq word (codes "unix") then Ok Unix else result_map_both At misuse.To (offset_reading_of word))

-- ---- the reader

-- the form of a description
abbrev pub form_described : Result Form DescriptionRefusal → Result Form ReadingMisuse
form_described (Ok form) = Ok form
form_described (Err refusal) = Err misuse.Description

abbrev pub form_read : List ℕ → Option FormName → Result Form ReadingMisuse
form_read word (Some name) = Ok (form_named name)
form_read word None =
    if list_any (λ byte. byte == 91) word
    then form_described (result_map_both form_of (refusal_of word) (items_of_description Two 64 word))
    else Err misuse.UnknownForm

-- the form of a name, or else that of a description, which has a bracket
abbrev pub form_asked : List ℕ → Result Form ReadingMisuse
form_asked word = form_read word (name_in FORMS word)

-- the misuse of a form that lacks an offset or a year which is not given
abbrev pub lack_of : Bool → Bool → Option ReadingMisuse
lack_of true true = Some misuse.LacksBoth
lack_of true false = Some misuse.LacksOffset
lack_of false true = Some misuse.LacksYear
lack_of false false = None

abbrev pub unless_lacking : Option ReadingMisuse → Reader → Result Reader ReadingMisuse
unless_lacking (Some misuse) reader = Err misuse
unless_lacking None reader = Ok reader

-- the year that is assumed of a form without one
abbrev pub year_for : Form → Option ℤ → Option ℤ
year_for form year = if lacks_year form.items then year else None

-- the reader of a form that has an offset and a year, or for which they are given
abbrev pub whole_reader : Form → Place → List ℕ → Option ℤ → Option ℤ → Result Reader ReadingMisuse
whole_reader form at text offset year =
    unless_lacking (lack_of (lacks_offset form.items && is_none offset) (lacks_year form.items && is_none year))
    (Formed (record { form = form; place = at; text = text; assumed = record { offset = offset; year = year_for form year; month = 0 }; zone = None }))

-- whether a place is the front of the line
abbrev pub is_front : Place → Bool
is_front place.Front = true
is_front (place.Field number) = false
is_front place.After = false
is_front place.Json = false
is_front place.Access = false
is_front place.Coloured = false

-- RFC 3339 at a place
abbrev pub plain_reader : Place → List ℕ → Option ℤ → Option ℤ → Result Reader ReadingMisuse
plain_reader at text offset year = if is_front at then Ok Plain else whole_reader (form_named Rfc3339) at text offset year

-- the reader of the form of a word
abbrev pub form_reader : Result Form ReadingMisuse → Place → List ℕ → Option ℤ → Option ℤ → Result Reader ReadingMisuse
form_reader (Ok form) at text offset year = whole_reader form at text offset year
form_reader (Err misuse) at text offset year = Err misuse

-- the reader of a form at a place, which is RFC 3339 if none is given
abbrev pub reader_with : Option (List ℕ) → Place → List ℕ → Option ℤ → Option ℤ → Result Reader ReadingMisuse
reader_with None at text offset year = plain_reader at text offset year
reader_with (Some word) at text offset year =
    if bytes_eq word (codes "rfc3339") then plain_reader at text offset year
    else form_reader (form_asked word) at text offset year

-- the reader with a year, an offset and a place, or the misuse of one of them
abbrev pub with_year : Option (List ℕ) → Place × List ℕ → Option ℤ → Result (Option ℤ) ReadingMisuse → Result Reader ReadingMisuse
with_year form found offset (Ok year) = reader_with form found.0 found.1 offset year
with_year form found offset (Err misuse) = Err misuse

abbrev pub with_offset : Option (List ℕ) → Place × List ℕ → Result (Option ℤ) ReadingMisuse → Option (List ℕ) → Result Reader ReadingMisuse
with_offset form found (Ok offset) year = with_year form found offset (year_asked year)
with_offset form found (Err misuse) year = Err misuse

abbrev pub with_place : Option (List ℕ) → Result (Place × List ℕ) ReadingMisuse → Option (List ℕ) → Option (List ℕ) → Result Reader ReadingMisuse
with_place form (Ok found) offset year = with_offset form found (offset_asked offset) year
with_place form (Err misuse) offset year = Err misuse

-- the reader of the values of `--form`, `--place`, `--offset` and `--year`, or the first misuse of them
unfoldable pub reader_of : Option (List ℕ) → Option (List ℕ) → Option (List ℕ) → Option (List ℕ) → Result Reader ReadingMisuse
reader_of form at offset year = with_place form (place_asked at) offset year

-- whether stamps depend on the lines before: a year is assumed
abbrev pub needs_lines_before : Reader → Bool
needs_lines_before Plain = false
needs_lines_before (Formed by) = is_some by.assumed.year

-- what a form lacks where the last change of an input is to give its year, and the input has none: the remedy takes the place of the word
abbrev pub without_time : ReadingMisuse → ReadingMisuse
without_time misuse.LacksYear = misuse.YearTime
without_time misuse.LacksBoth = misuse.LacksOffset
without_time misuse = misuse

-- the message of a misuse: the fault and the remedy
abbrev pub reading_text : ReadingMisuse → List ℕ
reading_text misuse.UnknownForm = codes "the form '' is unknown: write a name of --list-forms, or a description, as [day]/[month]/[year]"
reading_text misuse.Description = codes "the description '' is at fault: write it as [day]/[month repr:short]/[year]"
reading_text misuse.Place = codes "the place '' is unknown: write front, access, coloured, field:N, after:TEXT or json:NAME"
reading_text misuse.LongPlace = codes "the text of the place has more than 255 bytes: write a shorter one"
reading_text (misuse.Offset Syntax) = codes "the offset '' has another form: write it as +05:30 or Z"
reading_text (misuse.Offset (OutOfRange component)) = codes "the offset '' is out of range: write one from -23:59 to +23:59"
reading_text misuse.Year = codes "the year '' has another form: write its four digits, as 2024, FILE=2024 or mtime"
reading_text misuse.YearFile = codes "--year names the file '', which the command does not read: write the name as there"
reading_text misuse.YearTime = codes "the input has no time of a last change: write the first year in place of mtime, as --year 2024"
reading_text misuse.LacksOffset = codes "the form has no offset: add one, as --offset +05:30"
reading_text misuse.LacksYear = codes "the form has no year: add the first one, as --year 2024"
reading_text misuse.LacksBoth = codes "the form has no offset and no year: add them, as --offset +05:30 --year 2024"
reading_text misuse.FormTwice = codes "--form is given twice: leave one out"
reading_text misuse.PlaceTwice = codes "--place is given twice: leave one out"
reading_text misuse.OffsetTwice = codes "--offset is given twice: leave one out"
reading_text misuse.YearTwice = codes "--year is given twice: leave one out"
reading_text (misuse.To Syntax) = codes "the style '' is unknown: write utc, unix, or an offset, as +05:30"
reading_text (misuse.To (OutOfRange component)) = codes "the offset '' is out of range: write one from -23:59 to +23:59"
reading_text misuse.ToAlone = codes "--to goes with merge alone: write utc, unix, or at OFFSET, in place of it"
reading_text misuse.ToTwice = codes "--to is given twice: leave one out"
reading_text misuse.ZoneTwice = codes "--zone is given twice: leave one out"
reading_text misuse.UntilTwice = codes "--until is given twice: leave one out"
reading_text misuse.ZoneAndOffset = codes "--zone and --offset are given: leave one out"
