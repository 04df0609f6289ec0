-- The text at a place is the end of its line.
use Rattle.std.proofs.Common.{◌≡◌, ℕ, zero, suc, ◌+◌, ◌-◌, ◌==◌, Bool, true, false, List, [], ◌∷◌, drop, take, refl, ap, ◌∙◌}
use Rattle.std.specs.Prelude.{◌&&◌, ◌||◌, Option, Some, None, if◌then◌else◌, ⊤}
use Rattle.std.specs.Char.{is_ascii_digit}
use Rattle.std.proofs.lemmas.List.{drop-drop}
use Rattle.rfc3339.specs.Reading.{◌>>=◌, mark_at}
use Rattle.log_forms.specs.Json.{before_point, depth_after, has_ended, is_white, member_at, named_value, past_white, path_of, state_inside}
use Rattle.log_forms.specs.Json.{value_of, value_text, without_quote}
use Rattle.log_forms.specs.Marks.{bytes_at, first_of, is_blank}
use Rattle.log_forms.specs.Places.{behind_text, colour_end, field_at, last_bracket, past_colour, past_colours, text_at}
use Rattle.log_forms.specs.declared.json.JsonState.{JsonState}
use Rattle.log_forms.specs.declared.json.JsonState.TheVariants.{Outside, Inside, Escaped}
use Rattle.log_forms.specs.declared.places.Place.{Place}
use Rattle.log_forms.specs.declared.places.Place.TheVariants.{Front, Field, After, Json, Access, Coloured}

-- a text is another one without this number of bytes in front
pub record IsEnd (text rest : List ℕ) : Type 0 where
  pub count : ℕ
  pub is : rest ≡ drop count text

-- the end of a text, if there is one
abbrev pub EndIf : List ℕ → Option (List ℕ) → Type 0
EndIf text None = ⊤
EndIf text (Some rest) = IsEnd text rest

pub end_same : (text : List ℕ) → IsEnd text text
end_same text = record { count = 0; is = refl }

pub end_of_end : (a b c : List ℕ) → IsEnd a b → IsEnd b c → IsEnd a c
end_of_end a b c h k = record {
  count = h.count + k.count;
  is = k.is ∙ (ap (drop k.count) h.is ∙ drop-drop k.count h.count a);
}

-- a line without its first byte
end_behind : (byte : ℕ) (line : List ℕ) → IsEnd (byte ∷ line) line
end_behind byte line = record { count = 1; is = refl }

end_if : (a b : List ℕ) (r : Option (List ℕ)) → IsEnd a b → EndIf b r → EndIf a r
end_if a b None h k = tt
end_if a b (Some c) h k = end_of_end a b c h k

-- after the first byte
end_more : (byte : ℕ) (line : List ℕ) (r : Option (List ℕ)) → EndIf line r → EndIf (byte ∷ line) r
end_more byte line r h = end_if (byte ∷ line) line r (end_behind byte line) h

end_bind : (a : List ℕ) (r : Option (List ℕ)) (f : List ℕ → Option (List ℕ)) → EndIf a r → ((b : List ℕ) → EndIf b (f b)) → EndIf a (r >>= f)
end_bind a None f h g = tt
end_bind a (Some b) f h g = end_if a b (f b) h (g b)

end_choice : (test : Bool) (a : List ℕ) (r s : Option (List ℕ)) → EndIf a r → EndIf a s → EndIf a (if test then r else s)
end_choice true a r s h k = h
end_choice false a r s h k = k

end_either : (test : Bool) (a r s : List ℕ) → IsEnd a r → IsEnd a s → IsEnd a (if test then r else s)
end_either true a r s h k = h
end_either false a r s h k = k

end_first : (a : List ℕ) (r s : Option (List ℕ)) → EndIf a r → EndIf a s → EndIf a (first_of r s)
end_first a None s h k = k
end_first a (Some b) s h k = h

mark_at-end : (mark : ℕ) (text : List ℕ) → EndIf text (mark_at mark text)
unfolding mark_at
mark_at-end mark [] = tt
mark_at-end mark (first ∷ text) = end_choice (first == mark) (first ∷ text) (Some text) None (end_behind first text) tt

bytes_at-end : (bytes text : List ℕ) → EndIf text (bytes_at bytes text)
unfolding bytes_at
bytes_at-end [] text = end_same text
bytes_at-end (byte ∷ bytes) text =
    end_bind text (mark_at byte text) (λ (rest : List ℕ). bytes_at bytes rest) (mark_at-end byte text) (λ rest. bytes_at-end bytes rest)

past_white-end : (text : List ℕ) → IsEnd text (past_white text)
unfolding past_white
past_white-end [] = end_same []
past_white-end (byte ∷ text) =
    end_either (is_white byte) (byte ∷ text) (past_white text) (byte ∷ text)
    (end_of_end (byte ∷ text) text (past_white text) (end_behind byte text) (past_white-end text)) (end_same (byte ∷ text))

without_quote-end : (text : List ℕ) (r : Option (List ℕ)) → EndIf text r → IsEnd text (without_quote text r)
without_quote-end text None h = end_same text
without_quote-end text (Some rest) h = h

value_text-end : (text : List ℕ) → IsEnd text (value_text text)
value_text-end text = without_quote-end text (mark_at 34 text) (mark_at-end 34 text)

-- the value after a colon
colon-end : (blanks : List ℕ) → EndIf blanks (mark_at 58 (past_white blanks) >>= λ value. Some (value_text (past_white value)))
colon-end blanks =
    end_if blanks (past_white blanks) (mark_at 58 (past_white blanks) >>= λ value. Some (value_text (past_white value))) (past_white-end blanks)
    (end_bind (past_white blanks) (mark_at 58 (past_white blanks)) (λ (value : List ℕ). Some (value_text (past_white value)))
    (mark_at-end 58 (past_white blanks))
    (λ value. end_of_end value (past_white value) (value_text (past_white value)) (past_white-end value) (value_text-end (past_white value))))

named_value-end : (name text : List ℕ) → EndIf text (named_value name text)
named_value-end name text =
    let after : List ℕ → Option (List ℕ) = λ (blanks : List ℕ). mark_at 58 (past_white blanks) >>= λ value. Some (value_text (past_white value)) in
    let quoted : List ℕ → Option (List ℕ) = λ (last : List ℕ). mark_at 34 last >>= after in
    let named : List ℕ → Option (List ℕ) = λ (first : List ℕ). bytes_at name first >>= quoted in
    end_bind text (mark_at 34 text) named (mark_at-end 34 text)
    (λ first. end_bind first (bytes_at name first) quoted (bytes_at-end name first)
    (λ last. end_bind last (mark_at 34 last) after (mark_at-end 34 last) colon-end))

member_at-end : (name : List ℕ) (depth : ℕ) (text : List ℕ) → EndIf text (member_at name depth text)
unfolding member_at
member_at-end name depth text = end_choice (depth == 1) text (named_value name text) None (named_value-end name text) tt

value_of-end : (is_inner : Bool) (name : List ℕ) (state : JsonState) (depth : ℕ) (line : List ℕ)
    → EndIf line (value_of is_inner name state depth line)
unfolding value_of
value_of-end is_inner name Outside depth [] = tt
value_of-end is_inner name Inside depth [] = tt
value_of-end is_inner name Escaped depth [] = tt
value_of-end is_inner name Escaped depth (byte ∷ line) =
    end_more byte line (value_of is_inner name Inside depth line) (value_of-end is_inner name Inside depth line)
value_of-end is_inner name Inside depth (byte ∷ line) =
    end_more byte line (value_of is_inner name (state_inside byte) depth line) (value_of-end is_inner name (state_inside byte) depth line)
value_of-end is_inner name Outside depth (byte ∷ line) =
    let inside = value_of is_inner name Inside depth line in
    let after = depth_after byte depth in
    let outside = value_of is_inner name Outside after line in
    end_choice (byte == 34) (byte ∷ line) (first_of (member_at name depth (byte ∷ line)) inside) (if has_ended is_inner after then None else outside)
    (end_first (byte ∷ line) (member_at name depth (byte ∷ line)) inside (member_at-end name depth (byte ∷ line))
    (end_more byte line inside (value_of-end is_inner name Inside depth line)))
    (end_choice (has_ended is_inner after) (byte ∷ line) None outside tt (end_more byte line outside (value_of-end is_inner name Outside after line)))

point-end : (text : List ℕ) (count : Option ℕ) (behind : ℕ → Option (List ℕ)) → ((n : ℕ) → EndIf text (behind n)) → EndIf text (count >>= behind)
point-end text None behind h = tt
point-end text (Some n) behind h = h n

path_of-end : (levels : ℕ) (is_inner : Bool) (path text : List ℕ) → EndIf text (path_of levels is_inner path text)
unfolding path_of
path_of-end zero is_inner path text = value_of-end is_inner path Outside 0 text
path_of-end (suc levels) is_inner path text =
    let behind : ℕ → Option (List ℕ) = λ (count : ℕ).
    value_of is_inner (take count path) Outside 0 text >>= λ object. path_of levels true (drop (count + 1) path) object in
    end_first text (value_of is_inner path Outside 0 text) (before_point path >>= behind) (value_of-end is_inner path Outside 0 text)
    (point-end text (before_point path) behind (λ count.
    end_bind text (value_of is_inner (take count path) Outside 0 text) (λ (object : List ℕ). path_of levels true (drop (count + 1) path) object)
    (value_of-end is_inner (take count path) Outside 0 text) (λ object. path_of-end levels true (drop (count + 1) path) object)))

behind_text-end : (text line : List ℕ) → EndIf line (behind_text text line)
unfolding behind_text
behind_text-end text [] = tt
behind_text-end text (byte ∷ line) =
    end_first (byte ∷ line) (bytes_at text (byte ∷ line)) (behind_text text line) (bytes_at-end text (byte ∷ line))
    (end_more byte line (behind_text text line) (behind_text-end text line))

field_at-end : (is_behind_blank : Bool) (number : ℕ) (line : List ℕ) → EndIf line (field_at is_behind_blank number line)
unfolding field_at
field_at-end is_behind_blank number [] = tt
field_at-end is_behind_blank number (byte ∷ line) =
    end_choice (is_blank byte) (byte ∷ line) (field_at true number line)
    (if is_behind_blank then (if number == 1 then Some (byte ∷ line) else field_at false (number - 1) line) else field_at false number line)
    (end_more byte line (field_at true number line) (field_at-end true number line))
    (end_choice is_behind_blank (byte ∷ line) (if number == 1 then Some (byte ∷ line) else field_at false (number - 1) line) (field_at false number line)
    (end_choice (number == 1) (byte ∷ line) (Some (byte ∷ line)) (field_at false (number - 1) line) (end_same (byte ∷ line))
    (end_more byte line (field_at false (number - 1) line) (field_at-end false (number - 1) line)))
    (end_more byte line (field_at false number line) (field_at-end false number line)))

last_bracket-end : (is_behind_space : Bool) (text : List ℕ) → EndIf text (last_bracket is_behind_space text)
unfolding last_bracket
last_bracket-end is_behind_space [] = tt
last_bracket-end is_behind_space (byte ∷ text) =
    let own : Option (List ℕ) = if is_behind_space && (byte == 91) then Some text else None in
    end_choice (byte == 34) (byte ∷ text) None (first_of (last_bracket (byte == 32) text) own) tt
    (end_first (byte ∷ text) (last_bracket (byte == 32) text) own
    (end_more byte text (last_bracket (byte == 32) text) (last_bracket-end (byte == 32) text))
    (end_choice (is_behind_space && (byte == 91)) (byte ∷ text) (Some text) None (end_behind byte text) tt))

colour_end-end : (text : List ℕ) → EndIf text (colour_end text)
unfolding colour_end
colour_end-end [] = tt
colour_end-end (byte ∷ text) =
    end_choice (byte == 109) (byte ∷ text) (Some text) (if is_ascii_digit byte || (byte == 59) then colour_end text else None) (end_behind byte text)
    (end_choice (is_ascii_digit byte || (byte == 59)) (byte ∷ text) (colour_end text) None (end_more byte text (colour_end text) (colour_end-end text)) tt)

past_colour-end : (text : List ℕ) → EndIf text (past_colour text)
past_colour-end text =
    let numbered : List ℕ → Option (List ℕ) = λ (bracket : List ℕ). mark_at 91 bracket >>= colour_end in
    end_bind text (mark_at 27 text) numbered (mark_at-end 27 text)
    (λ bracket. end_bind bracket (mark_at 91 bracket) colour_end (mark_at-end 91 bracket) colour_end-end)

past_colours-end : (text : List ℕ) → EndIf text (past_colours text)
past_colours-end text =
    let more : List ℕ → Option (List ℕ) = λ (rest : List ℕ). first_of (past_colour rest) (Some rest) in
    end_bind text (past_colour text) more (past_colour-end text)
    (λ rest. end_first rest (past_colour rest) (Some rest) (past_colour-end rest) (end_same rest))

-- the text at a place
pub text_at-end : (place : Place) (text line : List ℕ) → EndIf line (text_at place text line)
unfolding text_at
text_at-end Front text line = end_same line
text_at-end (Field number) text line = field_at-end true number line
text_at-end After text line = behind_text-end text line
text_at-end Json name line = path_of-end 7 false name line
text_at-end Access text line = last_bracket-end false line
text_at-end Coloured text line = past_colours-end line
