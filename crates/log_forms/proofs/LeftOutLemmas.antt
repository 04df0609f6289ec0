-- A stamp that needs an assumed offset or an assumed year leaves out none.
use Rattle.std.proofs.Common.{◌≡◌, ℕ, Bool, true, false, not, List, [], ◌∷◌, refl, sym, ◌∙◌, subst, inl, inr}
use Rattle.std.proofs.lemmas.Bool.{cases_Bool}
use Rattle.std.specs.Prelude.{◌&&◌, ◌||◌, Option, Some, None, Result, Ok, Err, IsErr, is_some, ◌==◌}
use Rattle.std.specs.Char.{is_ascii_alphanumeric}
use Rattle.format_descriptions.specs.declared.parts.Parts.{Parts}
use Rattle.log_forms.proofs.ZoneWordLemmas.{no_zone}
use Rattle.log_forms.specs.Ends.{begins_alphanumeric, begins_year, begins_zone, begins_zone_column, is_apart, leaves_fraction, leaves_year, past_separators}
use Rattle.log_forms.specs.Ends.{runs_on, spells}
use Rattle.log_forms.specs.Fronts.{ends_with_zone, follows_no_zone}
use Rattle.log_forms.specs.Instants.{has_count, instant_of_parts, is_whole, lacks_year, offset_by, with_year}
use Rattle.log_forms.specs.Marks.{past_blanks}
use Rattle.log_forms.specs.Laws.{LeavesNoZone, without_offset, without_year}
use Rattle.log_forms.specs.declared.instants.Assumed.{Assumed}
use Rattle.log_forms.specs.declared.stamps.Stamp.{Stamp}
use Rattle.log_forms.specs.declared.stamps.StampRefusal.{StampRefusal}

-- the two tests of a stamp that ends
pub record Tests (goes_on leaves_out : Bool) : Type 0 where
  pub on : goes_on ≡ false
  pub out : leaves_out ≡ false

both_false : (on out : Bool) → (not on && not out) ≡ true → Tests on out
both_false true out e = absurd cc
both_false false true e = absurd cc
both_false false false e = record { on = refl; out = refl }

-- the word of a stamp does not continue in the rest, and nothing is left out
pub apart-tests : (p : Parts) (stamp : List ℕ) (first : ℕ) (more : List ℕ) → is_apart p stamp (first ∷ more) ≡ true
    → Tests (runs_on (has_count p) (first ∷ more)) ((not (is_whole p) && (leaves_fraction p stamp (first ∷ more)
    || (begins_zone (first ∷ more) || begins_zone_column (first ∷ more)))) || leaves_year p (first ∷ more))
unfolding is_apart
apart-tests p stamp first more e = both_false _ _ e

-- what continues no word continues no count
weaker : (sure point colon more : Bool) → (sure || ((point || (colon && not false)) && more)) ≡ false
    → (sure || ((point || (colon && not true)) && more)) ≡ false
weaker true point colon more e = absurd cc
weaker false true colon true e = absurd cc
weaker false true true false e = refl
weaker false true false false e = refl
weaker false false true true e = absurd cc
weaker false false true false e = refl
weaker false false false more e = refl

runs_on-count : (is_count : Bool) (rest : List ℕ) → runs_on is_count rest ≡ false → runs_on true rest ≡ false
runs_on-count true rest e = e
runs_on-count false [] e = refl
runs_on-count false (first ∷ more) e =
    weaker (is_ascii_alphanumeric first || (first == 95) || (first == 43) || (first == 45)) (first == 46) (first == 58)
    (begins_alphanumeric more) e

pub apart-word : (p : Parts) (stamp rest : List ℕ) → is_apart p stamp rest ≡ true → runs_on true rest ≡ false
apart-word p stamp [] e = refl
apart-word p stamp (first ∷ more) e = runs_on-count (has_count p) (first ∷ more) (apart-tests p stamp first more e).on

left_true : (a b : Bool) → (a || b) ≡ true → b ≡ false → a ≡ true
left_true true b e none = refl
left_true false b e none = sym none ∙ e

right_false : (a b : Bool) → (a || b) ≡ false → b ≡ false
right_false true b e = absurd cc
right_false false b e = e

other_false : (a b : Bool) → (a && b) ≡ false → a ≡ true → b ≡ false
other_false true b e is = e
other_false false b e is = absurd cc

first_false : (a b : Bool) → (a && not b) ≡ false → b ≡ false → a ≡ false
first_false false b e none = refl
first_false true true e none = absurd cc
first_false true false e none = absurd cc

-- whether a time zone follows, and a column of one
record NoneLeft (is_zone is_column : Bool) : Type 0 where
  zone : is_zone ≡ false
  column : is_column ≡ false

zone_false : (whole fraction zone column year : Bool) → ((not whole && (fraction || (zone || column))) || year) ≡ false → whole ≡ false
    → NoneLeft zone column
zone_false true fraction zone column year e lacks = absurd cc
zone_false false true zone column year e lacks = absurd cc
zone_false false false true column year e lacks = absurd cc
zone_false false false false true year e lacks = absurd cc
zone_false false false false false year e lacks = record { zone = refl; column = refl }

-- with an offset or a count, the assumed offset does not matter
offset_same : (assumed : Assumed) (p : Parts) (hour : Option ℕ) → is_some hour ≡ true
    → offset_by (without_offset assumed) p hour ≡ offset_by assumed p hour
offset_same assumed p (Some hour) some = refl
offset_same assumed p None some = absurd cc

pub whole_same : (assumed : Assumed) (p : Parts) → is_whole p ≡ true → instant_of_parts (without_offset assumed) p ≡ instant_of_parts assumed p
unfolding instant_of_parts with_year
whole_same assumed p whole = elim (cases_Bool (has_count p)) [
  | inl count ↦ rw count refl
  | inr none ↦
      let hour : is_some p.offset_hour ≡ true = left_true (is_some p.offset_hour) (has_count p) whole none in
      rw (none, offset_same assumed p p.offset_hour hour) refl
]

-- with a year or a count, the assumed year does not matter
offset_without_year : (assumed : Assumed) (p : Parts) (hour : Option ℕ) → offset_by (without_year assumed) p hour ≡ offset_by assumed p hour
offset_without_year assumed p (Some hour) = refl
offset_without_year assumed p None = refl

pub dated_same : (assumed : Assumed) (p : Parts) → (lacks_year p && not (has_count p)) ≡ false
    → instant_of_parts (without_year assumed) p ≡ instant_of_parts assumed p
unfolding instant_of_parts with_year
dated_same assumed p dated = elim (cases_Bool (has_count p)) [
  | inl count ↦ rw count refl
  | inr none ↦
      rw (none, first_false (lacks_year p) (has_count p) dated none, offset_without_year assumed p p.offset_hour) refl
]

-- a stamp is no error
pub not_ok : (r : Result Stamp StampRefusal) (stamp : Stamp) → r ≡ Ok stamp → IsErr r → ⊥
not_ok (Ok found) stamp e fails = absurd cc
not_ok (Err refusal) stamp e fails = absurd cc

-- no time zone is before a stamp without an offset
front_false : (whole zone : Bool) → (whole || not zone) ≡ true → whole ≡ false → zone ≡ false
front_false true zone e lacks = absurd cc
front_false false true e lacks = absurd cc
front_false false false e lacks = refl

pub no_zone_left : (p : Parts) (stamp before rest : List ℕ) → is_whole p ≡ false → is_apart p stamp rest ≡ true
    → follows_no_zone p before ≡ true → LeavesNoZone before rest
unfolding past_blanks past_separators
no_zone_left p stamp before [] lacks e alone =
    record { word = refl; zone = no_zone [] refl; column = refl; front = front_false (is_whole p) (ends_with_zone before) alone lacks }
no_zone_left p stamp before (first ∷ more) lacks e alone =
    let rest = first ∷ more in
    let tests = apart-tests p stamp first more e in
    let no_count = right_false (is_some p.offset_hour) (has_count p) lacks in
    let none = zone_false (is_whole p) (leaves_fraction p stamp rest) (begins_zone rest) (begins_zone_column rest) (leaves_year p rest) tests.out lacks in
    record {
      word = subst (λ (is_count : Bool). runs_on is_count rest ≡ false) no_count tests.on;
      zone = none.zone;
      column = none.column;
      front = front_false (is_whole p) (ends_with_zone before) alone lacks;
    }

pub no_year_left : (p : Parts) (stamp rest : List ℕ) → (lacks_year p && not (has_count p)) ≡ true → is_apart p stamp rest ≡ true
    → begins_year rest ≡ false
unfolding spells
no_year_left p stamp [] lacks e = refl
no_year_left p stamp (first ∷ more) lacks e =
    let rest = first ∷ more in
    let tests = apart-tests p stamp first more e in
    let left = not (is_whole p) && (leaves_fraction p stamp rest || (begins_zone rest || begins_zone_column rest)) in
    other_false (lacks_year p && not (has_count p)) (begins_year rest) (right_false left (leaves_year p rest) tests.out) lacks
