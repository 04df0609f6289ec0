-- A date-time that clear items write is found again.
use Rattle.std.proofs.Common.{◌≡◌, ℕ, ◌+◌, ◌-◌, ◌≤◌, false, nat_lt, List, [], ◌∷◌, length, drop, refl, ap, ◌∙◌, arith}
use Rattle.std.proofs.lemmas.List.{drop_all, take_all}
use Rattle.std.proofs.lemmas.Bool.Decides.{nat_tests}
use Rattle.std.proofs.Math.Bool.{or-true}
use Rattle.std.specs.Prelude.{ℤ, Ok, Err}
use Rattle.calendar_values.specs.WallClock.{IsInstant, first_wall_clock, last_wall_clock}
use Rattle.format_descriptions.specs.ClockValues.{time_of_parts}
use Rattle.format_descriptions.specs.Read.{Front, at_end, front_of, no_parts, read_from}
use Rattle.format_descriptions.specs.Values.{date_of_parts}
use Rattle.format_descriptions.specs.declared.item.Item.{Item}
use Rattle.format_descriptions.specs.declared.parts.Parts.{Parts}
use Rattle.log_forms.specs.Forms.{form_of}
use Rattle.log_forms.specs.Instants.{instant_in_range, instant_of_parts, is_whole, lacks_year, with_year}
use Rattle.log_forms.specs.Laws.{TellInstant, instant_shown, whole_stamp}
use Rattle.log_forms.proofs.RangeLemmas.{is_outside-inside}
use Rattle.log_forms.specs.Ends.{is_apart}
use Rattle.log_forms.specs.Fronts.{last_word}
use Rattle.log_forms.specs.Places.{text_at}
use Rattle.log_forms.specs.Stamps.{ended_stamp, stamp_at, stamp_behind, stamp_in}
use Rattle.log_forms.specs.declared.form.Form.{Form}
use Rattle.log_forms.specs.declared.instants.Assumed.{Assumed}
use Rattle.log_forms.specs.declared.places.Place.TheVariants as place

-- a reading to the end of a text has no rest
front-at_end : (front : Front) (p : Parts) → at_end front ≡ Ok p → front ≡ Ok (p, [])
front-at_end (Ok (q, [])) p e = cc
front-at_end (Ok (q, first ∷ text)) p e = cc
front-at_end (Err left) p e = cc

-- an instant of the range
instant_in_range-inside : (i : ℤ) → IsInstant i → instant_in_range i ≡ Ok i
instant_in_range-inside i inside = rw (is_outside-inside first_wall_clock last_wall_clock i inside.0 inside.1) refl

-- parts with a year stay
with_year-known : (assumed : Assumed) (p : Parts) → lacks_year p ≡ false → with_year assumed p ≡ p
unfolding with_year
with_year-known assumed p e = rw e refl

-- the instant of parts that tell one
pub instant_of_parts-told : (assumed : Assumed) (p : Parts) (day : ℤ) (clock : ℕ) (o : ℤ) → TellInstant assumed p o → date_of_parts p ≡ Ok day
    → time_of_parts p ≡ Ok clock → IsInstant (instant_shown day clock o) → instant_of_parts assumed p ≡ Ok (instant_shown day clock o)
unfolding instant_of_parts
instant_of_parts-told assumed p day clock o tell date time inside =
    rw (tell.no_count, with_year-known assumed p tell.year, date, time, tell.offset) (instant_in_range-inside (instant_shown day clock o) inside)

-- the front of a short line is the line
stamp_at-front : (form : Form) (assumed : Assumed) (text : List ℕ) → length text ≤ 65500
    → stamp_at form place.Front [] assumed text ≡ stamp_behind form assumed text text
unfolding stamp_at text_at
stamp_at-front form assumed text short = rw (take_all 65533 text (omega (arith, short))) refl

-- nothing is before a stamp of items alone
stamp_behind-own : (items : List Item) (assumed : Assumed) (text : List ℕ)
    → stamp_behind (form_of items) assumed text text ≡ stamp_in (form_of items) assumed text text
unfolding read_from
stamp_behind-own items assumed text =
    let none : length text - length text ≡ 0 = omega arith in
    ap (λ (n : ℕ). stamp_in (form_of items) assumed text (drop n text)) none

-- a text that the items read to its end
stamp_in-own : (items : List Item) (assumed : Assumed) (text : List ℕ) (p : Parts) → at_end (front_of items text no_parts) ≡ Ok p
    → stamp_in (form_of items) assumed text text ≡ ended_stamp assumed p text 0 (length text) text
stamp_in-own items assumed text p reading =
    let none : length text - length text ≡ 0 = omega arith in
    let all : length text - 0 ≡ length text = omega arith in
    rw (none, front-at_end (front_of items text no_parts) p reading, all) refl

-- a stamp that ends with its line
ended_stamp-whole : (assumed : Assumed) (p : Parts) (text : List ℕ) (i : ℤ) → length text ≤ 65500 → instant_of_parts assumed p ≡ Ok i
    → ended_stamp assumed p text 0 (length text) text ≡ Ok (whole_stamp i text)
unfolding is_apart last_word
ended_stamp-whole assumed p text i short instant =
    let fits : nat_lt 65500 (0 + length text) ≡ false = grind (arith, nat_tests) in
    rw (fits, drop_all (length text) text (omega arith), instant, or-true (is_whole p)) refl

pub stamp_at-whole : (items : List Item) (assumed : Assumed) (text : List ℕ) (p : Parts) (i : ℤ) → at_end (front_of items text no_parts) ≡ Ok p
    → length text ≤ 65500 → instant_of_parts assumed p ≡ Ok i → stamp_at (form_of items) place.Front [] assumed text ≡ Ok (whole_stamp i text)
stamp_at-whole items assumed text p i reading short instant =
    stamp_at-front (form_of items) assumed text short ∙ (stamp_behind-own items assumed text
    ∙ (stamp_in-own items assumed text p reading ∙ ended_stamp-whole assumed p text i short instant))
