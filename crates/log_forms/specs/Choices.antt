-- The choice of a form and a place by the first lines of a log.
use Rattle.std.specs.Prelude.{ℕ, zero, suc, ◌+◌, ◌/◌, ◌%◌, ◌==◌, nat_lt, nat_le, ◌&&◌, ◌||◌, Bool, false, true, not, List, [], ◌∷◌, codes, if◌then◌else◌}
use Rattle.std.specs.Prelude.{ℤ, pos, ◌+ℤ◌, int_le, int_lt, Option, Some, None, Result, Ok, Err}
use Rattle.std.specs.Prelude.{drop, length, slice_index_or, take}
use Rattle.std.specs.Char.{is_ascii_digit}
use Rattle.std.specs.List.{list_all}
use Rattle.log_forms.specs.Forms.{form_named}
use Rattle.log_forms.specs.Stamps.{stamp_at}
use Rattle.log_forms.specs.declared.form.Form.{Form}
use Rattle.log_forms.specs.declared.instants.Assumed.{Assumed}
use Rattle.log_forms.specs.declared.names.FormName.{FormName}
use Rattle.log_forms.specs.declared.names.FormName.TheVariants.{Rfc3339, Unix, UnixMs, UnixUs, UnixNs}
use Rattle.log_forms.specs.declared.names.TheConstants.{CHOSEN, FORMS}
use Rattle.log_forms.specs.declared.choice.TheConstants.{READERS}
use Rattle.log_forms.specs.declared.places.Place.{Place}
use Rattle.log_forms.specs.declared.places.Place.TheVariants.{Front, Field, After, Json, Access, Coloured}
use Rattle.log_forms.specs.declared.stamps.Stamp.{Stamp}
use Rattle.log_forms.specs.declared.stamps.StampRefusal.{StampRefusal}

-- the form of a reader
unfoldable pub reader_form : ℕ → FormName
reader_form reader = slice_index_or FORMS (reader % CHOSEN) Rfc3339

-- a place by its number
abbrev pub place_numbered : ℕ → Place
place_numbered number =
    if number == 0 then Front
    else (if number == 1 then Coloured
    else (if number == 2 then Access
    else (if nat_le 4 number && nat_le number 14 then Json
    else (if number == 29 then Field 2
    else (if number == 30 then Field 3
    else (if number == 31 then Field 1 else After))))))

-- the place of a reader
abbrev pub reader_place : ℕ → Place
reader_place reader = place_numbered (reader / CHOSEN)

-- the text or the name of a place by its number
abbrev pub key_numbered : ℕ → List ℕ
key_numbered number =
    if number == 3 then codes "["
    else (if number == 4 then codes "time"
    else (if number == 5 then codes "timestamp"
    else (if number == 6 then codes "@timestamp"
    else (if number == 7 then codes "ts"
    else (if number == 8 then codes "eventTime"
    else (if number == 9 then codes "@t"
    else (if number == 10 then codes "time_iso8601"
    else (if number == 11 then codes "time_local"
    else (if number == 12 then codes "msec"
    else (if number == 13 then codes "requestReceivedTimestamp"
    else (if number == 14 then codes "__REALTIME_TIMESTAMP"
    else (if number == 15 then codes "\"$date\":\""
    else (if number == 16 then codes "time=\""
    else (if number == 17 then codes "time="
    else (if number == 18 then codes "time='"
    else (if number == 19 then codes "ts="
    else (if number == 20 then codes " t="
    else (if number == 21 then codes "t="
    else (if number == 22 then codes "audit("
    else (if number == 23 then codes "__REALTIME_TIMESTAMP="
    else (if number == 24 then codes "eventtime="
    else (if number == 25 then codes "\"eventTime\":\""
    else (if number == 26 then codes ": ["
    else (if number == 27 then codes "] "
    else (if number == 28 then codes " at "
    else (if number == 32 then codes ","
    else (if number == 33 then codes "\""
    else (if number == 34 then codes "#"
    else (if number == 35 then codes ": "
    else (if number == 36 then codes "ime\":\""
    else (if number == 37 then codes "ime\": \""
    else (if number == 38 then codes "tamp\":\""
    else (if number == 39 then codes "tamp\": \""
    else (if number == 40 then codes "='"
    else (if number == 41 then codes ">"
    else (if number == 42 then codes ",\""
    else (if number == 43 then codes "=" else [])))))))))))))))))))))))))))))))))))))

abbrev pub reader_key : ℕ → List ℕ
reader_key reader = key_numbered (reader / CHOSEN)

-- whether the place of a reader says that a count there is a Unix timestamp: it has a name, or a bracket
abbrev pub names_counts : ℕ → Bool
names_counts reader = nat_le 2 (reader / CHOSEN) && nat_le (reader / CHOSEN) 26

-- a line more, if it has a stamp
abbrev pub one_more : ℕ → Result Stamp StampRefusal → ℕ
one_more count (Ok stamp) = count + 1
one_more count (Err refusal) = count

-- in how many lines a form has a stamp at a place
unfoldable pub count_in : Form → Place → List ℕ → Assumed → List (List ℕ) → ℕ
count_in form place key assumed [] = 0
count_in form place key assumed (line ∷ lines) = one_more (count_in form place key assumed lines) (stamp_at form place key assumed line)

-- what is assumed while a reader is chosen: UTC, and a leap year
abbrev pub some_year : Assumed
some_year = record { offset = Some (pos 0); year = Some (pos 2000); month = 0 }

-- in how many lines a reader finds a stamp
unfoldable pub found_by : ℕ → List (List ℕ) → ℕ
found_by reader lines = count_in (form_named (reader_form reader)) (reader_place reader) (reader_key reader) some_year lines

-- whether the stamps of a form are counts
abbrev pub is_count : FormName → Bool
is_count Unix = true
is_count UnixMs = true
is_count UnixUs = true
is_count UnixNs = true
is_count _ = false

-- whether a stamp of this length has no more than the digits that are counted
abbrev pub is_bare : Option ℕ → ℕ → Bool
is_bare (Some digits) count = nat_le count digits
is_bare None count = false

abbrev pub is_bare_stamp : Option ℕ → Result Stamp StampRefusal → Bool
is_bare_stamp digits (Ok stamp) = is_bare digits stamp.length
is_bare_stamp digits (Err refusal) = false

-- whether the stamp of a line, if it has one, is so
abbrev pub is_bare_at : Form → Place → List ℕ → Assumed → List ℕ → Bool
is_bare_at form place key assumed line = is_bare_stamp form.digits (stamp_at form place key assumed line)

-- whether no line has such a stamp
unfoldable pub no_bare_in : Form → Place → List ℕ → Assumed → List (List ℕ) → Bool
no_bare_in form place key assumed [] = true
no_bare_in form place key assumed (line ∷ lines) =
    not (is_bare_at form place key assumed line) && no_bare_in form place key assumed lines

-- whether no stamp of a reader is a bare count: its form has none, a name leads to its place, or each has a fraction
unfoldable pub is_sure : ℕ → List (List ℕ) → Bool
is_sure reader lines =
    if names_counts reader || not (is_count (reader_form reader)) then true
    else no_bare_in (form_named (reader_form reader)) (reader_place reader) (reader_key reader) some_year lines

-- whether an instant is of one of the years 2000 to 2039
abbrev pub is_near : ℤ → Bool
is_near at = int_le (pos 946_684_800_000_000_000) at && int_lt at (pos 2_208_988_800_000_000_000)

-- whether an instant is near, no earlier than the last one, and less than 366 days after the first, if there are such
abbrev pub is_next : Option (ℤ × ℤ) → ℤ → Bool
is_next None at = is_near at
is_next (Some (first, last)) at =
    is_near first && is_near at && int_le last at && int_lt at (first +ℤ pos 31_622_400_000_000_000)

-- the first and the last instant with one more
abbrev pub span_with : Option (ℤ × ℤ) → ℤ → Option (ℤ × ℤ)
span_with None at = Some (at, at)
span_with (Some (first, last)) at = Some (first, at)

-- whether a stamp is the next one after a span, and the others after it
abbrev pub steady_after : Result Stamp StampRefusal → Option (ℤ × ℤ) → (Option (ℤ × ℤ) → Bool) → Bool
steady_after (Ok stamp) span others = is_next span stamp.instant && others (span_with span stamp.instant)
steady_after (Err refusal) span others = others span

-- whether the stamps of lines grow slowly, near now, after those of a span
unfoldable pub steady_in : Form → Place → List ℕ → Assumed → Option (ℤ × ℤ) → List (List ℕ) → Bool
steady_in form place key assumed span [] = true
steady_in form place key assumed span (line ∷ lines) =
    steady_after (stamp_at form place key assumed line) span (λ more. steady_in form place key assumed more lines)

-- whether the stamps of a reader do
unfoldable pub steady_by : ℕ → List (List ℕ) → Bool
steady_by reader lines = steady_in (form_named (reader_form reader)) (reader_place reader) (reader_key reader) some_year None lines

-- the number of digits behind a comma at the end of a text, if it ends so
unfoldable pub digits_behind_comma : List ℕ → Option ℕ
digits_behind_comma [] = None
digits_behind_comma (first ∷ more) = if (first == 44) && list_all is_ascii_digit more then Some (length more) else digits_behind_comma more

-- whether two numbers of digits are the same, if there are two
abbrev pub is_even : Option ℕ → Option ℕ → Bool
is_even (Some digits) (Some own) = digits == own
is_even (Some digits) None = true
is_even None own = true

-- the first of two numbers that there is
abbrev pub first_known : Option ℕ → Option ℕ → Option ℕ
first_known (Some digits) own = Some digits
first_known None own = own

-- the text of a stamp in its line
abbrev pub text_of : Stamp → List ℕ → List ℕ
text_of stamp line = take stamp.length (drop stamp.start line)

-- whether a stamp has as many digits behind a comma as those before, and the others have so too
abbrev pub even_after : Option ℕ → List ℕ → Result Stamp StampRefusal → (Option ℕ → Bool) → Bool
even_after digits line (Ok stamp) others =
    let own = digits_behind_comma (text_of stamp line) in is_even digits own && others (first_known digits own)
even_after digits line (Err refusal) others = others digits

-- whether the stamps of lines that end with digits behind a comma have as many as those before
unfoldable pub even_in : Form → Place → List ℕ → Assumed → Option ℕ → List (List ℕ) → Bool
even_in form place key assumed digits [] = true
even_in form place key assumed digits (line ∷ lines) =
    even_after digits line (stamp_at form place key assumed line) (λ more. even_in form place key assumed more lines)

-- whether the stamps of a reader do
unfoldable pub even_by : ℕ → List (List ℕ) → Bool
even_by reader lines = even_in (form_named (reader_form reader)) (reader_place reader) (reader_key reader) some_year None lines

-- how many lines choose a reader: those in which it finds a stamp. Bare counts choose it if there are two, and they grow slowly. Digits
-- behind a comma choose it if each line has as many
abbrev pub count_read : ℕ → List (List ℕ) → ℕ
count_read reader lines =
    if (found_by reader lines == 0)
    || ((is_sure reader lines || (nat_le 2 (found_by reader lines) && steady_by reader lines)) && even_by reader lines)
    then found_by reader lines else 0

-- whether a reader finds a stamp in a line, which is no count that is far from now
abbrev pub reads : ℕ → List ℕ → Bool
reads reader line =
    nat_lt 0 (found_by reader (line ∷ [])) && (is_sure reader (line ∷ []) || steady_by reader (line ∷ []))

-- whether one of the first readers does
unfoldable pub any_reads : ℕ → List ℕ → Bool
any_reads zero line = false
any_reads (suc reader) line = any_reads reader line || reads reader line

-- whether one of all readers does
abbrev pub is_read_by_any : List ℕ → Bool
is_read_by_any line = any_reads READERS line

-- the better of the best reader before and the next one
abbrev pub better_of : ℕ × ℕ → ℕ → ℕ → ℕ × ℕ
better_of before reader count = if nat_lt before.0 count then (count, reader) else before

-- in how many lines the best of the first readers finds a stamp, and its number
unfoldable pub best_of : ℕ → List (List ℕ) → ℕ × ℕ
best_of zero lines = (0, 0)
best_of (suc reader) lines = better_of (best_of reader lines) reader (count_read reader lines)

-- the best reader, if it finds a stamp at all
abbrev pub most : ℕ × ℕ → Option ℕ
most best = if best.0 == 0 then None else Some best.1

-- the best reader of two lines, if it finds a stamp in both, or else another one
abbrev pub if_both : ℕ × ℕ → Option ℕ → Option ℕ
if_both best others = if best.0 == 2 then Some best.1 else others

-- the reader for a log, by its first lines
abbrev pub choice_of : List (List ℕ) → Option ℕ
choice_of [] = most (best_of READERS [])
choice_of (line ∷ []) = most (best_of READERS (line ∷ []))
choice_of (first ∷ second ∷ lines) =
    if_both (best_of READERS (first ∷ second ∷ [])) (most (best_of READERS (first ∷ second ∷ lines)))
