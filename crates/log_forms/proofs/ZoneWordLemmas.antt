-- Each zone begins with a letter or a sign.
use Rattle.std.proofs.Common.{◌≡◌, ℕ, ◌==◌, ◌&&◌, Bool, true, false, List, [], ◌∷◌, refl, arith}
use Rattle.std.specs.Prelude.{◌||◌}
use Rattle.std.specs.Char.{is_ascii_alphabetic}
use Rattle.std.specs.List.{list_any}
use Rattle.std.proofs.lemmas.Bool.{and_parts}
use Rattle.std.proofs.lemmas.Bool.Decides.{nat_tests}
use Rattle.log_forms.specs.Ends.{begins_mark, begins_zone, is_spelled, past_bracket, spells}
use Rattle.log_forms.specs.Marks.{past_blanks}
use Rattle.log_forms.specs.declared.zone_words.TheConstants.{ZONES}

-- whether a mark is a letter or a sign
abbrev is_head : ℕ → Bool
is_head mark = is_ascii_alphabetic mark || (mark == 43)

-- such a mark spells no other byte
not_spelled : (mark byte : ℕ) → is_head mark ≡ true → begins_mark (byte ∷ []) ≡ false → is_spelled mark byte ≡ false
not_spelled mark byte head none = grind (arith, nat_tests, head, none)

not_row : (mark : ℕ) (row text : List ℕ) → is_head mark ≡ true → begins_mark text ≡ false → spells (mark ∷ row) text ≡ false
unfolding spells
not_row mark row [] head none = grind (arith, nat_tests, head)
not_row mark row (first ∷ text) head none =
    let no_space : (mark == 32) ≡ false = grind (arith, nat_tests, head) in
    let no_end : (mark == 33) ≡ false = grind (arith, nat_tests, head) in
    let no_bar : (mark == 124) ≡ false = grind (arith, nat_tests, head) in
    rw (no_space, no_end, no_bar, not_spelled mark first head none) refl

-- each row begins with such a mark
unfoldable heads : List (List ℕ) → Bool
heads [] = true
heads ([] ∷ rows) = false
heads ((mark ∷ row) ∷ rows) = is_head mark && heads rows

no_row_of : (rows : List (List ℕ)) (text : List ℕ) → heads rows ≡ true → begins_mark text ≡ false
    → list_any (λ row. spells row text) rows ≡ false
unfolding heads
no_row_of [] text all none = refl
no_row_of ([] ∷ rows) text all none = absurd cc
no_row_of ((mark ∷ row) ∷ rows) text all none =
    let parts = and_parts (is_head mark) (heads rows) all in
    rw (not_row mark row text parts.0 none, no_row_of rows text parts.1 none) refl

-- a text that begins with another byte begins with no zone
pub no_zone : (text : List ℕ) → begins_mark (past_bracket (past_blanks text)) ≡ false → begins_zone text ≡ false
unfolding heads
no_zone text none = no_row_of ZONES (past_bracket (past_blanks text)) refl none
