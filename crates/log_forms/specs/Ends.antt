-- Where a stamp ends.
use Rattle.std.specs.Prelude.{ℕ, ◌-◌, ◌==◌, ◌&&◌, ◌||◌, Bool, true, false, not, List, [], ◌∷◌, drop, length, if◌then◌else◌, is_some}
use Rattle.std.specs.Char.{is_ascii_alphabetic, is_ascii_alphanumeric, is_ascii_digit, is_ascii_lowercase}
use Rattle.std.specs.List.{list_any, take_while}
use Rattle.format_descriptions.specs.declared.parts.Parts.{Parts}
use Rattle.log_forms.specs.Instants.{has_count, is_whole, lacks_year}
use Rattle.log_forms.specs.Marks.{is_blank, past_blanks}
use Rattle.log_forms.specs.declared.zone_words.TheConstants.{YEARS, ZONES}

-- whether a text begins with a letter
abbrev pub begins_letter : List ℕ → Bool
begins_letter [] = false
begins_letter (first ∷ rest) = is_ascii_alphabetic first

-- with a letter or a digit
abbrev pub begins_alphanumeric : List ℕ → Bool
begins_alphanumeric [] = false
begins_alphanumeric (first ∷ rest) = is_ascii_alphanumeric first

-- with a letter or a sign
abbrev pub begins_mark : List ℕ → Bool
begins_mark [] = false
begins_mark (first ∷ rest) = is_ascii_alphabetic first || (first == 43) || (first == 45)

-- with a comma
abbrev pub begins_comma : List ℕ → Bool
begins_comma [] = false
begins_comma (first ∷ rest) = first == 44

-- whether a bracket opens a text
abbrev pub opens_bracket : List ℕ → Bool
opens_bracket [] = false
opens_bracket (first ∷ rest) = first == 91

-- whether a point or a colon joins two parts of a word. A count has no colon
abbrev pub is_joint : Bool → ℕ → Bool
is_joint is_count byte = (byte == 46) || ((byte == 58) && not is_count)

-- whether a word continues in a text: with a letter, a digit, `_` or a sign, or with a joint before a letter or a digit
abbrev pub runs_on : Bool → List ℕ → Bool
runs_on is_count [] = false
runs_on is_count (first ∷ more) =
    (is_ascii_alphanumeric first || (first == 95) || (first == 43) || (first == 45)) || (is_joint is_count first && begins_alphanumeric more)

-- whether a mark of a row spells a byte: `#` a digit, `@` a letter, `+` a sign, `_` a space, a small letter that letter in either
-- case, and any other mark itself
abbrev pub is_spelled : ℕ → ℕ → Bool
is_spelled mark byte =
    if mark == 35 then is_ascii_digit byte
    else (if mark == 64 then is_ascii_alphabetic byte
    else (if mark == 43 then (byte == 43) || (byte == 45)
    else (if mark == 95 then byte == 32
    else (if is_ascii_lowercase mark then (byte == mark) || (byte == mark - 32) else byte == mark))))

-- whether a mark spells the first byte of a text, and the next marks the others
abbrev pub spells_on : ℕ → List ℕ → (List ℕ → Bool) → Bool
spells_on mark [] others = false
spells_on mark (first ∷ text) others = is_spelled mark first && others text

-- whether the marks of a row spell the front of a text: a space ends the row, before `!` is no letter, and a bar is the end of a word
unfoldable pub spells : List ℕ → List ℕ → Bool
spells [] text = true
spells (mark ∷ row) text =
    if mark == 32 then true
    else (if mark == 33 then not (begins_letter text)
    else (if mark == 124 then not (runs_on false text) else spells_on mark text (λ more. spells row more)))

-- the rest after a bracket that opens a text
abbrev pub past_bracket : List ℕ → List ℕ
past_bracket [] = []
past_bracket (first ∷ rest) = if (first == 40) || (first == 91) then rest else first ∷ rest

-- whether one of the rows spells a time zone or a half of the day at the front of a text
abbrev pub spells_zone : List ℕ → Bool
spells_zone text = list_any (λ row. spells row text) ZONES

-- whether a text begins with one, behind blanks and a bracket
abbrev pub begins_zone : List ℕ → Bool
begins_zone text = spells_zone (past_bracket (past_blanks text))

-- whether a text begins with one that begins with a letter
abbrev pub names_zone : List ℕ → Bool
names_zone text = begins_letter text && spells_zone text

-- a byte between two columns of a table: a comma, a semicolon, a bar or a quote
abbrev pub is_separator : ℕ → Bool
is_separator byte = (byte == 44) || ((byte == 59) || ((byte == 124) || ((byte == 34) || (byte == 39))))

abbrev pub begins_separator : List ℕ → Bool
begins_separator [] = false
begins_separator (first ∷ rest) = is_separator first

-- the rest after such bytes and blanks
unfoldable pub past_separators : List ℕ → List ℕ
past_separators [] = []
past_separators (byte ∷ text) = if is_blank byte || is_separator byte then past_separators text else byte ∷ text

-- whether the next column of a table begins with the name of a time zone
abbrev pub begins_zone_column : List ℕ → Bool
begins_zone_column text = begins_separator (past_blanks text) && names_zone (past_separators text)

-- whether a text begins with a year, behind a space
abbrev pub begins_year : List ℕ → Bool
begins_year text = list_any (λ row. spells row text) YEARS

-- whether a text begins with a byte that is no blank
abbrev pub begins_text : List ℕ → Bool
begins_text [] = false
begins_text (first ∷ rest) = not (is_blank first)

-- whether a text begins with a column of a table: with a comma that no blank follows
abbrev pub begins_column : List ℕ → Bool
begins_column [] = false
begins_column (first ∷ rest) = (first == 44) && begins_text rest

-- whether this number of digits at the front of a text is a fraction: 3, 6 or 9, and no column follows
abbrev pub is_fraction : ℕ → List ℕ → Bool
is_fraction count text = ((count == 3) || (count == 6) || (count == 9)) && not (begins_column (drop count text))

-- whether a text begins with a fraction behind a comma
abbrev pub begins_fraction : List ℕ → Bool
begins_fraction [] = false
begins_fraction (first ∷ more) = (first == 44) && is_fraction (length (take_while is_ascii_digit more)) more

-- whether the digits at the end of a text are behind a comma, by whether those before it are
unfoldable pub ends_behind_comma : Bool → List ℕ → Bool
ends_behind_comma is_behind [] = is_behind
ends_behind_comma is_behind (first ∷ more) = ends_behind_comma ((first == 44) || (is_behind && is_ascii_digit first)) more

-- whether a stamp leaves out a fraction behind a comma, or has a column of a table for one
abbrev pub leaves_fraction : Parts → List ℕ → List ℕ → Bool
leaves_fraction p stamp rest =
    if is_some p.nanosecond then begins_comma rest && ends_behind_comma false stamp else begins_fraction rest

-- whether a stamp without a year leaves one out
abbrev pub leaves_year : Parts → List ℕ → Bool
leaves_year p rest = (lacks_year p && not (has_count p)) && begins_year rest

-- whether a stamp leaves out a part of a date-time that the rest begins with
abbrev pub leaves_out : Parts → List ℕ → List ℕ → Bool
leaves_out p stamp rest =
    (not (is_whole p) && (leaves_fraction p stamp rest || (begins_zone rest || begins_zone_column rest))) || leaves_year p rest

-- whether a stamp ends before the rest of its line: its last word ends there, and it leaves nothing out
unfoldable pub is_apart : Parts → List ℕ → List ℕ → Bool
is_apart p stamp [] = true
is_apart p stamp (first ∷ more) = not (runs_on (has_count p) (first ∷ more)) && not (leaves_out p stamp (first ∷ more))
