-- The words before a stamp.
use Rattle.std.specs.Prelude.{ℕ, ◌==◌, ◌&&◌, ◌||◌, Bool, true, false, not, List, [], ◌∷◌, if◌then◌else◌}
use Rattle.std.specs.Char.{is_ascii_alphabetic}
use Rattle.format_descriptions.specs.declared.parts.Parts.{Parts}
use Rattle.log_forms.specs.Ends.{begins_letter, spells_zone}
use Rattle.log_forms.specs.Instants.{is_whole}
use Rattle.log_forms.specs.Marks.{is_blank}

-- a blank or a bracket, which stand between words
abbrev pub is_gap : ℕ → Bool
is_gap byte = is_blank byte || ((byte == 40) || ((byte == 41) || ((byte == 91) || (byte == 93))))

-- the last word of a text, and what follows it, by what is known so far and by whether a gap or the front of a line is before the text
unfoldable pub last_word : List ℕ → Bool → List ℕ → List ℕ
last_word word is_behind_gap [] = word
last_word word is_behind_gap (byte ∷ text) =
    last_word (if is_behind_gap && not (is_gap byte) then byte ∷ text else word) (is_gap byte) text

-- whether a text begins with two letters
abbrev pub begins_letters : List ℕ → Bool
begins_letters [] = false
begins_letters (first ∷ rest) = is_ascii_alphabetic first && begins_letter rest

-- whether a word is the name of a time zone of two letters or more
abbrev pub is_zone_word : List ℕ → Bool
is_zone_word word = begins_letters word && spells_zone word

-- whether the last word of a text is such a name
abbrev pub ends_with_zone : List ℕ → Bool
ends_with_zone text = is_zone_word (last_word [] true text)

-- whether no time zone is before a stamp that has no offset
abbrev pub follows_no_zone : Parts → List ℕ → Bool
follows_no_zone p before = is_whole p || not (ends_with_zone before)
