-- Instants that grow slowly, and digits that are as many in each stamp.
use Rattle.std.proofs.Common.{◌≡◌, ◌≢◌, refl, sym, ◌∙◌, ℕ, ◌+◌, ◌≤◌, ◌==◌, nat_le, Bool, true, false, List, [], ◌∷◌, length, arith, inl, inr}
use Rattle.std.proofs.Common.{Option, Some, None, Result, Ok, Err}
use Rattle.std.specs.Prelude.{◌⊎◌, ◌&&◌, ◌||◌, if◌then◌else◌, ℤ, pos, ◌+ℤ◌, ◌≤ℤ◌, ◌<ℤ◌, int_le, int_lt, ⊤}
use Rattle.std.specs.List.{cons_option}
use Rattle.std.proofs.lemmas.Bool.{and_parts, cases_Bool}
use Rattle.std.proofs.lemmas.Bool.Decides.{nat_tests}
use Rattle.calendar_values.specs.SignedArith.{signed_arith}
use Rattle.log_forms.specs.ChoiceLaws.{AreEqual, digits_found, instants_found}
use Rattle.log_forms.specs.ChoiceLaws.{Each, EachPair, IsNear, digits_if, digits_in, instant_if, instants_in}
use Rattle.log_forms.specs.Choices.{digits_behind_comma, even_after, even_in, first_known, is_even, is_near, is_next, steady_after, steady_in, text_of}
use Rattle.log_forms.specs.Choices.{count_in, count_read, even_by, found_by, is_sure, one_more, reader_form, reader_key, reader_place, some_year, steady_by}
use Rattle.log_forms.specs.Forms.{form_named}
use Rattle.log_forms.specs.Stamps.{stamp_at}
use Rattle.log_forms.specs.declared.form.Form.{Form}
use Rattle.log_forms.specs.declared.instants.Assumed.{Assumed}
use Rattle.log_forms.specs.declared.places.Place.{Place}
use Rattle.log_forms.specs.declared.stamps.Stamp.{Stamp}
use Rattle.log_forms.specs.declared.stamps.StampRefusal.{StampRefusal}

-- ---- the words of the law, which the lemmas have as their own

abbrev pub IsSoonAfter : ℤ → ℤ → Type 0
IsSoonAfter at next = (at ≤ℤ next) × (next <ℤ (at +ℤ pos 31_622_400_000_000_000))

abbrev pub GrowSlowly : List ℤ → Type 0
GrowSlowly instants = Each IsNear instants × EachPair IsSoonAfter instants

abbrev pub MayBeChosen : ℕ → List (List ℕ) → Type 0
MayBeChosen reader lines =
    ((is_sure reader lines ≡ true) ⊎ ((2 ≤ found_by reader lines) × GrowSlowly (instants_found reader lines))) × AreEqual (digits_found reader lines)

each_map : {A : Type 0} (P Q : A → Type 0) → ((x : A) → P x → Q x) → (xs : List A) → Each P xs → Each Q xs
each_map P Q f [] h = tt
each_map P Q f (x ∷ xs) h = (f x h.0, each_map P Q f xs h.1)

each_both : {A : Type 0} (P Q R : A → Type 0) → ((x : A) → P x → Q x → R x) → (xs : List A) → Each P xs → Each Q xs → Each R xs
each_both P Q R f [] h k = tt
each_both P Q R f (x ∷ xs) h k = (f x h.0 k.0, each_both P Q R f xs h.1 k.1)

both_true : (a b : Bool) → a ≡ true → b ≡ true → (a && b) ≡ true
both_true a b e f = rw (e, f) refl

-- ---- instants

near_is : (at : ℤ) → is_near at ≡ true → IsNear at
near_is at e =
    let t = and_parts (int_le (pos 946_684_800_000_000_000) at) (int_lt at (pos 2_208_988_800_000_000_000)) e in
    (omega (arith, signed_arith, t.0), omega (arith, signed_arith, t.1))

near_test : (at : ℤ) → IsNear at → is_near at ≡ true
near_test at h =
    both_true (int_le (pos 946_684_800_000_000_000) at) (int_lt at (pos 2_208_988_800_000_000_000))
    (grind (arith, signed_arith, h.0)) (grind (arith, signed_arith, h.1))

-- no earlier than the last one, and less than 366 days after the first
abbrev InSpan : ℤ → ℤ → ℤ → Type 0
InSpan first last at = (last ≤ℤ at) × (at <ℤ (first +ℤ pos 31_622_400_000_000_000))

next_is : (first last at : ℤ) → is_next (Some (first, last)) at ≡ true → IsNear at × InSpan first last at
next_is first last at e =
    let late = int_lt at (first +ℤ pos 31_622_400_000_000_000) in
    let t = and_parts ((is_near first && is_near at) && int_le last at) late e in
    let u = and_parts (is_near first && is_near at) (int_le last at) t.0 in
    let v = and_parts (is_near first) (is_near at) u.0 in
    (near_is at v.1, (omega (arith, signed_arith, u.1), omega (arith, signed_arith, t.1)))

next_test : (first last at : ℤ) → IsNear first → IsNear at → InSpan first last at → is_next (Some (first, last)) at ≡ true
next_test first last at near here h =
    let late = int_lt at (first +ℤ pos 31_622_400_000_000_000) in
    both_true ((is_near first && is_near at) && int_le last at) late
    (both_true (is_near first && is_near at) (int_le last at)
    (both_true (is_near first) (is_near at) (near_test first near) (near_test at here)) (grind (arith, signed_arith, h.0)))
    (grind (arith, signed_arith, h.1))

-- later instants of a span
record Grown (first last : ℤ) (rest : List ℤ) : Type 0 where
  near : Each IsNear rest
  span : Each (InSpan first last) rest
  pairs : EachPair IsSoonAfter rest

later : (first last : ℤ) (r : Result Stamp StampRefusal) (rest : List ℤ) (others : Option (ℤ × ℤ) → Bool) → first ≤ℤ last
    → ((l : ℤ) → first ≤ℤ l → others (Some (first, l)) ≡ true → Grown first l rest)
    → steady_after r (Some (first, last)) others ≡ true → Grown first last (cons_option (instant_if r) rest)
later first last (Err refusal) rest others low more e = more last low e
later first last (Ok stamp) rest others low more e =
    let at = stamp.instant in
    let t = and_parts _ _ e in
    let here = next_is first last at t.0 in
    let above : first ≤ℤ at = omega (arith, signed_arith, low, here.1.0) in
    let g = more at above t.1 in
    record {
      near = (here.0, g.near);
      span = (
        here.1,
        each_map (InSpan first at) (InSpan first last)
            (λ next h. (omega (arith, signed_arith, here.1.0, h.0), h.1)) rest g.span,
      );
      pairs = (each_map (InSpan first at) (IsSoonAfter at) (λ next h. (h.0, omega (arith, signed_arith, above, h.1))) rest g.span, g.pairs);
    }

later_all : (form : Form) (place : Place) (key : List ℕ) (assumed : Assumed) (first last : ℤ) (lines : List (List ℕ)) → first ≤ℤ last
    → steady_in form place key assumed (Some (first, last)) lines ≡ true → Grown first last (instants_in form place key assumed lines)
unfolding steady_in
later_all form place key assumed first last [] low e = record { near = tt; span = tt; pairs = tt }
later_all form place key assumed first last (line ∷ lines) low e =
    later first last (stamp_at form place key assumed line) (instants_in form place key assumed lines)
    (λ more. steady_in form place key assumed more lines) low (λ l h. later_all form place key assumed first l lines h) e

same_at : (i : ℤ) → i ≤ℤ i
same_at i = omega (arith, signed_arith)

first_of_all : (r : Result Stamp StampRefusal) (rest : List ℤ) (others : Option (ℤ × ℤ) → Bool)
    → (others None ≡ true → GrowSlowly rest) → ((i : ℤ) → others (Some (i, i)) ≡ true → Grown i i rest)
    → steady_after r None others ≡ true → GrowSlowly (cons_option (instant_if r) rest)
first_of_all (Err refusal) rest others none some e = none e
first_of_all (Ok stamp) rest others none some e =
    let t = and_parts _ _ e in
    let g = some stamp.instant t.1 in
    ((near_is stamp.instant t.0, g.near), (g.span, g.pairs))

pub steady_grows : (form : Form) (place : Place) (key : List ℕ) (assumed : Assumed) (lines : List (List ℕ))
    → steady_in form place key assumed None lines ≡ true → GrowSlowly (instants_in form place key assumed lines)
unfolding steady_in
steady_grows form place key assumed [] e = (tt, tt)
steady_grows form place key assumed (line ∷ lines) e =
    first_of_all (stamp_at form place key assumed line) (instants_in form place key assumed lines)
    (λ more. steady_in form place key assumed more lines) (steady_grows form place key assumed lines)
    (λ i h. later_all form place key assumed i i lines (same_at i) h) e

-- and back
earlier : (first last : ℤ) (r : Result Stamp StampRefusal) (rest : List ℤ) (others : Option (ℤ × ℤ) → Bool) → IsNear first
    → ((l : ℤ) → Grown first l rest → others (Some (first, l)) ≡ true)
    → Grown first last (cons_option (instant_if r) rest) → steady_after r (Some (first, last)) others ≡ true
earlier first last (Err refusal) rest others near more g = more last g
earlier first last (Ok stamp) rest others near more g =
    let at = stamp.instant in
    both_true _ _ (next_test first last at near g.near.0 g.span.0)
    (more at (record {
      near = g.near.1;
      span = each_both (InSpan first last) (IsSoonAfter at) (InSpan first at) (λ next h k. (k.0, h.1)) rest g.span.1 g.pairs.0;
      pairs = g.pairs.1;
    }))

earlier_all : (form : Form) (place : Place) (key : List ℕ) (assumed : Assumed) (first last : ℤ) (lines : List (List ℕ)) → IsNear first
    → Grown first last (instants_in form place key assumed lines) → steady_in form place key assumed (Some (first, last)) lines ≡ true
unfolding steady_in
earlier_all form place key assumed first last [] near g = refl
earlier_all form place key assumed first last (line ∷ lines) near g =
    earlier first last (stamp_at form place key assumed line) (instants_in form place key assumed lines)
    (λ more. steady_in form place key assumed more lines) near (λ l h. earlier_all form place key assumed first l lines near h) g

all_from_first : (r : Result Stamp StampRefusal) (rest : List ℤ) (others : Option (ℤ × ℤ) → Bool)
    → (GrowSlowly rest → others None ≡ true) → ((i : ℤ) → IsNear i → Grown i i rest → others (Some (i, i)) ≡ true)
    → GrowSlowly (cons_option (instant_if r) rest) → steady_after r None others ≡ true
all_from_first (Err refusal) rest others none some g = none g
all_from_first (Ok stamp) rest others none some g =
    both_true _ _ (near_test stamp.instant g.0.0)
    (some stamp.instant g.0.0 (record { near = g.0.1; span = g.1.0; pairs = g.1.1 }))

pub grows_steady : (form : Form) (place : Place) (key : List ℕ) (assumed : Assumed) (lines : List (List ℕ))
    → GrowSlowly (instants_in form place key assumed lines) → steady_in form place key assumed None lines ≡ true
unfolding steady_in
grows_steady form place key assumed [] g = refl
grows_steady form place key assumed (line ∷ lines) g =
    all_from_first (stamp_at form place key assumed line) (instants_in form place key assumed lines)
    (λ more. steady_in form place key assumed more lines) (grows_steady form place key assumed lines)
    (λ i near h. earlier_all form place key assumed i i lines near h) g

-- ---- digits behind a comma

even_next : (d : ℕ) (line : List ℕ) (r : Result Stamp StampRefusal) (rest : List ℕ) (others : Option ℕ → Bool)
    → (others (Some d) ≡ true → Each (λ b. d ≡ b) rest) → even_after (Some d) line r others ≡ true
    → Each (λ b. d ≡ b) (cons_option (digits_if line r) rest)
even_next d line (Err refusal) rest others more e = more e
even_next d line (Ok stamp) rest others more e = known (digits_behind_comma (text_of stamp line)) e where
  known : (own : Option ℕ) → (is_even (Some d) own && others (first_known (Some d) own)) ≡ true → Each (λ b. d ≡ b) (cons_option own rest)
  known None h = more (and_parts (is_even (Some d) None) (others (Some d)) h).1
  known (Some own) h = let t = and_parts (is_even (Some d) (Some own)) (others (Some d)) h in (grind (arith, nat_tests, t.0), more t.1)

even_all : (form : Form) (place : Place) (key : List ℕ) (assumed : Assumed) (d : ℕ) (lines : List (List ℕ))
    → even_in form place key assumed (Some d) lines ≡ true → Each (λ b. d ≡ b) (digits_in form place key assumed lines)
unfolding even_in
even_all form place key assumed d [] e = tt
even_all form place key assumed d (line ∷ lines) e =
    even_next d line (stamp_at form place key assumed line) (digits_in form place key assumed lines)
    (λ more. even_in form place key assumed more lines) (even_all form place key assumed d lines) e

-- numbers that are all another one are all the same
pairs_same : (d : ℕ) (xs : List ℕ) → Each (λ b. d ≡ b) xs → EachPair (λ a b. a ≡ b) xs
pairs_same d [] h = tt
pairs_same d (x ∷ xs) h = (each_map (λ b. d ≡ b) (λ b. x ≡ b) (λ b e. sym h.0 ∙ e) xs h.1, pairs_same d xs h.1)

even_first : (line : List ℕ) (r : Result Stamp StampRefusal) (rest : List ℕ) (others : Option ℕ → Bool)
    → (others None ≡ true → EachPair (λ a b. a ≡ b) rest) → ((d : ℕ) → others (Some d) ≡ true → Each (λ b. d ≡ b) rest)
    → even_after None line r others ≡ true → EachPair (λ a b. a ≡ b) (cons_option (digits_if line r) rest)
even_first line (Err refusal) rest others none some e = none e
even_first line (Ok stamp) rest others none some e = known (digits_behind_comma (text_of stamp line)) e where
  known : (own : Option ℕ) → (is_even None own && others (first_known None own)) ≡ true → EachPair (λ a b. a ≡ b) (cons_option own rest)
  known None h = none (and_parts (is_even None None) (others None) h).1
  known (Some own) h = let all = some own (and_parts (is_even None (Some own)) (others (Some own)) h).1 in (all, pairs_same own rest all)

pub even_same : (form : Form) (place : Place) (key : List ℕ) (assumed : Assumed) (lines : List (List ℕ))
    → even_in form place key assumed None lines ≡ true → EachPair (λ a b. a ≡ b) (digits_in form place key assumed lines)
unfolding even_in
even_same form place key assumed [] e = tt
even_same form place key assumed (line ∷ lines) e =
    even_first line (stamp_at form place key assumed line) (digits_in form place key assumed lines)
    (λ more. even_in form place key assumed more lines) (even_same form place key assumed lines)
    (λ d h. even_all form place key assumed d lines h) e

-- and back
next_even : (d : ℕ) (line : List ℕ) (r : Result Stamp StampRefusal) (rest : List ℕ) (others : Option ℕ → Bool)
    → (Each (λ b. d ≡ b) rest → others (Some d) ≡ true) → Each (λ b. d ≡ b) (cons_option (digits_if line r) rest)
    → even_after (Some d) line r others ≡ true
next_even d line (Err refusal) rest others more h = more h
next_even d line (Ok stamp) rest others more h = known (digits_behind_comma (text_of stamp line)) h where
  known : (own : Option ℕ) → Each (λ b. d ≡ b) (cons_option own rest) → (is_even (Some d) own && others (first_known (Some d) own)) ≡ true
  known None g = both_true (is_even (Some d) None) (others (Some d)) refl (more g)
  known (Some own) g = both_true (is_even (Some d) (Some own)) (others (Some d)) (grind (arith, nat_tests, g.0)) (more g.1)

all_even : (form : Form) (place : Place) (key : List ℕ) (assumed : Assumed) (d : ℕ) (lines : List (List ℕ))
    → Each (λ b. d ≡ b) (digits_in form place key assumed lines) → even_in form place key assumed (Some d) lines ≡ true
unfolding even_in
all_even form place key assumed d [] h = refl
all_even form place key assumed d (line ∷ lines) h =
    next_even d line (stamp_at form place key assumed line) (digits_in form place key assumed lines)
    (λ more. even_in form place key assumed more lines) (all_even form place key assumed d lines) h

first_even : (line : List ℕ) (r : Result Stamp StampRefusal) (rest : List ℕ) (others : Option ℕ → Bool)
    → (EachPair (λ a b. a ≡ b) rest → others None ≡ true) → ((d : ℕ) → Each (λ b. d ≡ b) rest → others (Some d) ≡ true)
    → EachPair (λ a b. a ≡ b) (cons_option (digits_if line r) rest) → even_after None line r others ≡ true
first_even line (Err refusal) rest others none some h = none h
first_even line (Ok stamp) rest others none some h = known (digits_behind_comma (text_of stamp line)) h where
  known : (own : Option ℕ) → EachPair (λ a b. a ≡ b) (cons_option own rest) → (is_even None own && others (first_known None own)) ≡ true
  known None g = both_true (is_even None None) (others None) refl (none g)
  known (Some own) g = both_true (is_even None (Some own)) (others (Some own)) refl (some own g.0)

pub same_even : (form : Form) (place : Place) (key : List ℕ) (assumed : Assumed) (lines : List (List ℕ))
    → EachPair (λ a b. a ≡ b) (digits_in form place key assumed lines) → even_in form place key assumed None lines ≡ true
unfolding even_in
same_even form place key assumed [] h = refl
same_even form place key assumed (line ∷ lines) h =
    first_even line (stamp_at form place key assumed line) (digits_in form place key assumed lines)
    (λ more. even_in form place key assumed more lines) (same_even form place key assumed lines)
    (λ d g. all_even form place key assumed d lines g) h

-- ---- the count of a reader

length-found : (o : Option ℤ) (rest : List ℤ) (r : Result Stamp StampRefusal) (count : ℕ) → instant_if r ≡ o → count ≡ length rest
    → one_more count r ≡ length (cons_option (instant_if r) rest)
length-found o rest (Ok stamp) count e h = omega (arith, h)
length-found o rest (Err refusal) count e h = h

count_in-length : (form : Form) (place : Place) (key : List ℕ) (assumed : Assumed) (lines : List (List ℕ))
    → count_in form place key assumed lines ≡ length (instants_in form place key assumed lines)
unfolding count_in
count_in-length form place key assumed [] = refl
count_in-length form place key assumed (line ∷ lines) =
    length-found _ (instants_in form place key assumed lines) (stamp_at form place key assumed line) (count_in form place key assumed lines) refl
    (count_in-length form place key assumed lines)

pub found_by-length : (reader : ℕ) (lines : List (List ℕ)) → found_by reader lines ≡ length (instants_found reader lines)
unfolding found_by
found_by-length reader lines = count_in-length (form_named (reader_form reader)) (reader_place reader) (reader_key reader) some_year lines

pub steady_by-slow : (reader : ℕ) (lines : List (List ℕ)) → steady_by reader lines ≡ true → GrowSlowly (instants_found reader lines)
unfolding steady_by
steady_by-slow reader lines e = steady_grows (form_named (reader_form reader)) (reader_place reader) (reader_key reader) some_year lines e

pub slow-steady_by : (reader : ℕ) (lines : List (List ℕ)) → GrowSlowly (instants_found reader lines) → steady_by reader lines ≡ true
unfolding steady_by
slow-steady_by reader lines h = grows_steady (form_named (reader_form reader)) (reader_place reader) (reader_key reader) some_year lines h

even_by-equal : (reader : ℕ) (lines : List (List ℕ)) → even_by reader lines ≡ true → AreEqual (digits_found reader lines)
unfolding even_by
even_by-equal reader lines e = even_same (form_named (reader_form reader)) (reader_place reader) (reader_key reader) some_year lines e

equal-even_by : (reader : ℕ) (lines : List (List ℕ)) → AreEqual (digits_found reader lines) → even_by reader lines ≡ true
unfolding even_by
equal-even_by reader lines h = same_even (form_named (reader_form reader)) (reader_place reader) (reader_key reader) some_year lines h

or_left : (b : Bool) → (true || b) ≡ true
or_left b = refl

or_right : (a : Bool) → (a || true) ≡ true
or_right true = refl
or_right false = refl

if_true : (b : Bool) (n : ℕ) → b ≡ true → (if b then n else 0) ≡ n
if_true b n e = rw e refl

-- what lets a reader be chosen, as the code has it
abbrev chooses : ℕ → List (List ℕ) → Bool
chooses reader lines =
    (is_sure reader lines || (nat_le 2 (found_by reader lines) && steady_by reader lines)) && even_by reader lines

chosen_by : (reader : ℕ) (lines : List (List ℕ)) → MayBeChosen reader lines → chooses reader lines ≡ true
chosen_by reader lines h =
    both_true (is_sure reader lines || (nat_le 2 (found_by reader lines) && steady_by reader lines)) (even_by reader lines) (sure h.0)
    (equal-even_by reader lines h.1)
  where
    sure : (is_sure reader lines ≡ true) ⊎ ((2 ≤ found_by reader lines) × GrowSlowly (instants_found reader lines))
        → (is_sure reader lines || (nat_le 2 (found_by reader lines) && steady_by reader lines)) ≡ true
    sure (inl e) = rw e refl
    sure (inr g) =
        let two : nat_le 2 (found_by reader lines) ≡ true = grind (arith, nat_tests, g.0) in
        rw (two, slow-steady_by reader lines g.1) (or_right (is_sure reader lines))

pub count_read-found : (reader : ℕ) (lines : List (List ℕ)) → MayBeChosen reader lines → count_read reader lines ≡ found_by reader lines
count_read-found reader lines h =
    let e : chooses reader lines ≡ true = chosen_by reader lines h in
    let t : ((found_by reader lines == 0) || chooses reader lines) ≡ true = rw e (or_right (found_by reader lines == 0)) in
    if_true ((found_by reader lines == 0) || chooses reader lines) (found_by reader lines) t

may_be : (reader : ℕ) (lines : List (List ℕ)) → chooses reader lines ≡ true → MayBeChosen reader lines
may_be reader lines e =
    let t = and_parts (is_sure reader lines || (nat_le 2 (found_by reader lines) && steady_by reader lines)) (even_by reader lines) e in
    (sure (cases_Bool (is_sure reader lines)) t.0, even_by-equal reader lines t.1)
  where
    sure : (is_sure reader lines ≡ true) ⊎ (is_sure reader lines ≡ false)
        → (is_sure reader lines || (nat_le 2 (found_by reader lines) && steady_by reader lines)) ≡ true
        → (is_sure reader lines ≡ true) ⊎ ((2 ≤ found_by reader lines) × GrowSlowly (instants_found reader lines))
    sure (inl s) h = inl s
    sure (inr n) h =
        let both : (nat_le 2 (found_by reader lines) && steady_by reader lines) ≡ true = rw n at h in
        let t = and_parts (nat_le 2 (found_by reader lines)) (steady_by reader lines) both in
        inr (grind (arith, nat_tests, t.0), steady_by-slow reader lines t.1)

none_else : (zero chosen : Bool) (n : ℕ) → (zero ≡ true → n ≡ 0) → (if zero || chosen then n else 0) ≢ 0 → chosen ≡ true
none_else true chosen n none h = absurd (h (none refl))
none_else false true n none h = refl
none_else false false n none h = absurd (h refl)

pub count_read-others : (reader : ℕ) (lines : List (List ℕ)) → count_read reader lines ≢ 0 → MayBeChosen reader lines
count_read-others reader lines h =
    may_be reader lines
    (none_else (found_by reader lines == 0) (chooses reader lines) (found_by reader lines) (λ e. grind (arith, nat_tests, e)) h)
