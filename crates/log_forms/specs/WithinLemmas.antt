-- The bytes of a stamp are bytes of its line, of which the first 65,533 decide.
use Rattle.std.proofs.Common.{◌≡◌, ℕ, ◌+◌, ◌-◌, ◌≤◌, Bool, true, false, not, nat_lt, List, ◌++◌, length, take, drop, ap, arith}
use Rattle.std.proofs.lemmas.List.{length-drop, length-take, take-append-le}
use Rattle.std.specs.Prelude.{ℤ, ◌&&◌, ◌||◌, if◌then◌else◌, Option, Some, None, Result, Ok, Err, ⊤}
use Rattle.std.specs.Result.{result_map_both}
use Rattle.format_descriptions.specs.Read.{Front, front_of, no_parts}
use Rattle.format_descriptions.specs.declared.parts.Parts.{Parts}
use Rattle.format_descriptions.specs.declared.value_refusal.ValueRefusal.{ValueRefusal}
use Rattle.log_forms.specs.EndLemmas.{EndIf, text_at-end}
use Rattle.log_forms.specs.Ends.{is_apart}
use Rattle.log_forms.specs.Fronts.{follows_no_zone}
use Rattle.log_forms.specs.Instants.{instant_of_parts}
use Rattle.log_forms.specs.Places.{text_at}
use Rattle.log_forms.specs.Stamps.{ended_stamp, front_reading, has_digits, longest_stamp, read_stamp, stamp_after, stamp_at, stamp_at_text}
use Rattle.log_forms.specs.Stamps.{stamp_in, stamp_of_instant}
use Rattle.log_forms.specs.declared.form.Form.{Form}
use Rattle.log_forms.specs.declared.instants.Assumed.{Assumed}
use Rattle.log_forms.specs.declared.places.Place.{Place}
use Rattle.log_forms.specs.declared.stamps.Stamp.{Stamp}
use Rattle.log_forms.specs.declared.stamps.StampRefusal.{StampRefusal}
use Rattle.log_forms.specs.declared.stamps.StampRefusal.TheVariants.{Absent}

-- a stamp ends within this number of bytes, if there is one
abbrev pub StampWithin : Result Stamp StampRefusal → ℕ → Type 0
StampWithin (Ok stamp) most = stamp.start + stamp.length ≤ most
StampWithin (Err refusal) most = ⊤

instant_within : (start count most : ℕ) (rest : List ℕ) (r : Result ℤ ValueRefusal) → start + count ≤ most
    → StampWithin (stamp_of_instant start count rest r) most
instant_within start count most rest (Ok i) h = h
instant_within start count most rest (Err refusal) h = tt

unless_within : (fails : Bool) (r : Result Stamp StampRefusal) (most : ℕ) → StampWithin r most → StampWithin (if fails then Err Absent else r) most
unless_within true r most h = tt
unless_within false r most h = h

where_within : (passes : Bool) (r : Result Stamp StampRefusal) (most : ℕ) → StampWithin r most → StampWithin (if passes then r else Err Absent) most
where_within true r most h = h
where_within false r most h = tt

ended_within : (assumed : Assumed) (p : Parts) (front : List ℕ) (start count most : ℕ) (text : List ℕ) → start + count ≤ most
    → StampWithin (ended_stamp assumed p front start count text) most
ended_within assumed p front start count most text h =
    let rest = drop count text in
    unless_within (nat_lt longest_stamp (start + count) || not (is_apart p (take count text) rest && follows_no_zone p (take start front)))
    (stamp_of_instant start count rest (instant_of_parts assumed p)) most (instant_within start count most rest (instant_of_parts assumed p) h)

-- what items read, as places in a text
abbrev placed : List ℕ → Front → Result (Parts × ℕ) ℕ
placed text front = result_map_both (λ read. (read.0, length text - length read.1)) (λ left. length text - left) front

read_within : (assumed : Assumed) (line : List ℕ) (start most : ℕ) (text : List ℕ) (front : Front) → start + length text ≤ most
    → StampWithin (read_stamp assumed line start text (placed text front)) most
read_within assumed line start most text (Ok read) h =
    let count = length text - length read.1 in ended_within assumed read.0 line start count most text (omega (arith, h))
read_within assumed line start most text (Err left) h = tt

in_within : (form : Form) (assumed : Assumed) (front text : List ℕ) → length text ≤ length front
    → StampWithin (stamp_in form assumed front text) (length front)
in_within form assumed front text h =
    let start = length front - length text in
    where_within (has_digits form text) (read_stamp assumed front start text (front_reading form.items text)) (length front)
    (read_within assumed front start (length front) text (front_of form.items text no_parts) (omega (arith, h)))

after_within : (form : Form) (assumed : Assumed) (front text : List ℕ) (lead : Result (Parts × ℕ) ℕ) → length text ≤ length front
    → StampWithin (stamp_after form assumed front text lead) (length front)
after_within form assumed front text (Ok read) h = in_within form assumed front (drop read.1 text) (omega (arith, h, length-drop read.1 text))
after_within form assumed front text (Err place) h = tt

at_text_within : (form : Form) (assumed : Assumed) (front : List ℕ) (r : Option (List ℕ)) → EndIf front r
    → StampWithin (stamp_at_text form assumed front r) (length front)
at_text_within form assumed front None h = tt
at_text_within form assumed front (Some rest) h =
    after_within form assumed front rest (front_reading form.lead rest) (omega (arith, ap length h.is, length-drop h.count front))

more_within : (r : Result Stamp StampRefusal) (some most : ℕ) → some ≤ most → StampWithin r some → StampWithin r most
more_within (Ok stamp) some most low h = omega (arith, low, h)
more_within (Err refusal) some most low h = tt

-- a stamp ends within its line
pub stamp_at-within : (form : Form) (place : Place) (text : List ℕ) (assumed : Assumed) (line : List ℕ)
    → StampWithin (stamp_at form place text assumed line) (length line)
unfolding stamp_at
stamp_at-within form place text assumed line =
    let front = take 65533 line in
    more_within (stamp_at_text form assumed front (text_at place text front)) (length front) (length line) (omega (arith, length-take 65533 line))
    (at_text_within form assumed front (text_at place text front) (text_at-end place text front))

-- bytes past the first 65,533 change nothing
pub stamp_at-longer : (form : Form) (place : Place) (text : List ℕ) (assumed : Assumed) (line part : List ℕ) → 65533 ≤ length line
    → stamp_at form place text assumed (line ++ part) ≡ stamp_at form place text assumed line
unfolding stamp_at
stamp_at-longer form place text assumed line part long =
    ap (λ (front : List ℕ). stamp_at_text form assumed front (text_at place text front)) (take-append-le 65533 line part long)
