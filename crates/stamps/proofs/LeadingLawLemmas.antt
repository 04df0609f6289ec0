-- The first 16 lines that a reader reads choose the form.
use Rattle.std.proofs.Common.{◌≡◌, ◌≢◌, refl, sym, ap, ◌∙◌, ℕ, zero, suc, ◌+◌, ◌-◌, ◌<◌, ◌≤◌, ◌==◌, false, true, Bool, cond, List, [], ◌∷◌, ◌++◌}
use Rattle.std.proofs.Common.{append_assoc, arith}
use Rattle.std.proofs.Common.{inl, inr, length, length-append, nat_lt, take, Option, Some, None, Result, Ok, Err}
use Rattle.std.specs.Prelude.{◌⊎◌, ◌||◌, ◌&&◌, filter, is_ok, is_some, not, nat_le}
use Rattle.std.specs.List.{between}
use Rattle.std.proofs.lemmas.Bool.{cases_Bool, and_parts, false≢true}
use Rattle.std.proofs.lemmas.Bool.Decides.{nat_tests}
use Rattle.std.proofs.lemmas.List.{append-nil, take_all}
use Rattle.std.proofs.lemmas.List.Elements.{filter-append}
use Rattle.std.proofs.Math.Seq.{take-append_seam}
use Rattle.log_forms.specs.Choices.{best_of, choice_of, count_in, count_read, even_by, found_by, is_sure, most, one_more}
use Rattle.log_forms.specs.Choices.{steady_by}
use Rattle.log_forms.specs.declared.choice.TheConstants.{READERS}
use Rattle.log_forms.specs.declared.stamps.Stamp.{Stamp}
use Rattle.log_forms.specs.declared.stamps.StampRefusal.{StampRefusal}
use Rattle.stamps.specs.Choosing.{both_read, if_both_read, reads}
use Rattle.line_devices.specs.LineLemmas.{lines_of-parts, none_ended}
use Rattle.line_devices.specs.LineParts.{HasNone, ended_from, rest_from}
use Rattle.line_devices.specs.Lines.{lines_of, unless_empty}
use Rattle.stamps.specs.Leading.{ended_lines, has_bytes, has_ended, has_last, has_lines, last_line, look_by, lines_within, may_choose, has_other, suffice}
use Rattle.stamps.specs.Leading.{until_told}
use Rattle.stamps.specs.LeadingLaws.{FirstBytesChoose, FirstLinesChoose, chosen_of}
use Rattle.stamps.specs.declared.readers.Reader.{Reader}

-- ---- two lines that one reader reads

-- the best reader is counted by the lines that choose it
abbrev IsCounted : ℕ × ℕ → List (List ℕ) → Type 0
IsCounted best lines = (best.0 ≡ 0) ⊎ (count_read best.1 lines ≡ best.0)

better_counted : (better : Bool) (before : ℕ × ℕ) (reader count : ℕ) (lines : List (List ℕ)) → IsCounted before lines
    → count_read reader lines ≡ count → IsCounted (cond better (count, reader) before) lines
better_counted true before reader count lines h is = inr is
better_counted false before reader count lines h is = h

best_counted : (readers : ℕ) (lines : List (List ℕ)) → IsCounted (best_of readers lines) lines
unfolding best_of
best_counted zero lines = inl refl
best_counted (suc reader) lines =
    better_counted (nat_lt (best_of reader lines).0 (count_read reader lines)) (best_of reader lines) reader (count_read reader lines) lines
    (best_counted reader lines) refl

one_more-ok : (count : ℕ) (found : Result Stamp StampRefusal) → is_ok found ≡ true → one_more count found ≡ count + 1
one_more-ok count (Ok stamp) h = refl
one_more-ok count (Err refusal) h = absurd (false≢true h)

found_two : (number : ℕ) (first second : List ℕ) → reads number first ≡ true → reads number second ≡ true
    → found_by number (first ∷ second ∷ []) ≡ 2
unfolding found_by count_in
found_two number first second one two = one_more-ok _ _ one ∙ ap (λ (z : ℕ). z + 1) (one_more-ok 0 _ two)

either_count : (chooses : Bool) (count : ℕ) → cond chooses count 0 ≢ 0 → cond chooses count 0 ≡ count
either_count true count some = refl
either_count false count some = absurd (some refl)

count_found : (number : ℕ) (lines : List (List ℕ)) → count_read number lines ≢ 0 → count_read number lines ≡ found_by number lines
count_found number lines some =
    either_count ((found_by number lines == 0)
    || ((is_sure number lines || (nat_le 2 (found_by number lines) && steady_by number lines)) && even_by number lines)) (found_by number lines) some

-- the reader that two lines choose
both_of : (number : ℕ) (first second : List ℕ) → is_some (if_both_read (Some number) first second) ≡ true
    → (reads number first ≡ true) × (reads number second ≡ true)
both_of number first second h = elim (cases_Bool (reads number first && reads number second)) [
  | inl t ↦ and_parts (reads number first) (reads number second) t
  | inr f ↦ absurd (false≢true (rw f at h))
]

none_some : (number : ℕ) → ◌≡◌ {A = Option ℕ} (Some number) None → ⊥
none_some number e = cc

some_same : (a b : ℕ) → ◌≡◌ {A = Option ℕ} (Some a) (Some b) → a ≡ b
some_same a b e = cc

best_two : (best : ℕ × ℕ) (o : Option ℕ) (first second : List ℕ) → IsCounted best (first ∷ second ∷ []) → o ≡ most best
    → is_some (if_both_read o first second) ≡ true → best.0 ≡ 2
best_two best None first second counted e h = absurd (false≢true h)
best_two best (Some number) first second counted e h = elim (cases_Bool (best.0 == 0)) [
  | inl t ↦ absurd (none_some number (rw t at e))
  | inr f ↦
      let same : number ≡ best.1 = some_same number best.1 (rw f at e) in
      let read = both_of number first second h in
      let some : best.0 ≢ 0 = grind (arith, nat_tests, f) in
      elim counted [
        | inl none ↦ absurd (some none)
        | inr is ↦
            let is' : count_read number (first ∷ second ∷ []) ≡ best.0 = rw same is in
            sym is' ∙ count_found number (first ∷ second ∷ []) (rw is' some) ∙ found_two number first second read.0 read.1
      ]
]

choice-pair : (first second : List ℕ) (more : List (List ℕ)) → both_read first second ≡ true
    → choice_of (first ∷ second ∷ []) ≡ choice_of (first ∷ second ∷ more)
choice-pair first second more h =
    let best = best_of READERS (first ∷ second ∷ []) in
    let counted = best_counted READERS (first ∷ second ∷ []) in
    let two : (best.0 == 2) ≡ true = elim (cases_Bool (best.0 == 2)) [
      | inl t ↦ t
      | inr f ↦
          let same : best.0 ≡ 2 = best_two best (choice_of (first ∷ second ∷ [])) first second counted (rw f refl) h in
          absurd (false≢true (sym f ∙ grind (arith, nat_tests)))
    ] in
    rw two refl

-- ---- lines, up to those that tell the form

suffices : (all rest : List (List ℕ)) → suffice all ≡ true → choice_of all ≡ choice_of (take 16 (all ++ rest))
suffices [] rest h = absurd (false≢true h)
suffices (first ∷ []) rest h = absurd (false≢true h)
suffices (first ∷ second ∷ []) rest h = choice-pair first second (take 14 rest) h
suffices (first ∷ second ∷ third ∷ lines) rest h =
    let all = first ∷ second ∷ third ∷ lines in
    let count : length all ≡ 16 = grind (arith, nat_tests, h) in
    ap choice_of (sym (take-append_seam all rest) ∙ ap (λ (z : ℕ). take z (all ++ rest)) count)

fewer : (lines : List (List ℕ)) → suffice lines ≡ false → length lines ≤ 16 → length lines < 16
fewer [] h most = omega arith
fewer (first ∷ []) h most = omega arith
fewer (first ∷ second ∷ []) h most = omega arith
fewer (first ∷ second ∷ third ∷ lines) h most =
    let other : length (first ∷ second ∷ third ∷ lines) ≢ 16 = grind (arith, nat_tests, h) in omega (arith, other, most)

one_filtered : (may : Bool) (line : List ℕ) → length (cond may (line ∷ []) []) ≤ 1
one_filtered true line = omega arith
one_filtered false line = omega arith

-- a line with which they tell it may choose
told_by : (may : Bool) (before rest : List (List ℕ)) (line : List ℕ) → suffice before ≡ false
    → suffice (before ++ cond may (line ∷ []) []) ≡ true
    → choice_of (before ++ cond may (line ∷ []) []) ≡ choice_of (take 16 (before ++ cond may (line ∷ rest) rest))
told_by true before rest line not h =
    suffices (before ++ line ∷ []) rest h ∙ ap (λ (z : List (List ℕ)). choice_of (take 16 z)) (append_assoc before (line ∷ []) rest)
told_by false before rest line not h = absurd (false≢true (sym not ∙ ap suffice (sym (append-nil before)) ∙ h))

cond_append : (may : Bool) (line : List ℕ) (rest : List (List ℕ)) → cond may (line ∷ []) [] ++ rest ≡ cond may (line ∷ rest) rest
cond_append true line rest = refl
cond_append false line rest = refl

until-choice : (reader : Reader) (before lines : List (List ℕ)) → suffice (filter may_choose before) ≡ false → length (filter may_choose before) < 16
    → choice_of (filter may_choose (until_told true reader before lines))
    ≡ choice_of (take 16 (filter may_choose before ++ filter may_choose lines))
unfolding until_told
until-choice reader before [] not low =
    let all = filter may_choose before in
    ap choice_of (sym (ap (take 16) (append-nil all) ∙ take_all 16 all (omega (arith, low))))
until-choice reader before (line ∷ lines) not low =
    let all = filter may_choose before in
    let may = may_choose line in
    let one = cond may (line ∷ []) [] in
    let here : filter may_choose (before ++ line ∷ []) ≡ all ++ one = filter-append may_choose before (line ∷ []) in
    elim (cases_Bool (suffice (filter may_choose (before ++ line ∷ [])))) [
      | inl t ↦ rw t (ap choice_of here ∙ told_by may all (filter may_choose lines) line not (ap suffice (sym here) ∙ t))
      | inr f ↦
          let short : length (filter may_choose (before ++ line ∷ [])) < 16 = fewer (filter may_choose (before ++ line ∷ [])) f
          (rw here (omega (arith, low, one_filtered may line, length-append all one))) in
          rw f (until-choice reader (before ++ line ∷ []) lines f short
          ∙ ap (λ (z : List (List ℕ)). choice_of (take 16 (z ++ filter may_choose lines))) here
          ∙ ap (λ (z : List (List ℕ)). choice_of (take 16 z))
          (append_assoc all one (filter may_choose lines) ∙ ap (λ (z : List (List ℕ)). all ++ z) (cond_append may line (filter may_choose lines))))
    ]

-- ---- the look

chosen-look : (choice : Option ℕ) (are_bare : Bool) → chosen_of (look_by choice are_bare) ≡ choice
chosen-look (Some number) are_bare = refl
chosen-look None true = refl
chosen-look None false = refl

pub first_lines : FirstLinesChoose
first_lines reader has_text lines =
    let looked = until_told true reader [] lines in
    chosen-look (choice_of (filter may_choose looked)) (has_text && not (has_other true reader looked)) ∙ until-choice reader [] lines refl (omega arith)

-- ---- the first bytes

-- a line without bytes chooses nothing
some_choose : (lines : List (List ℕ)) → filter may_choose (filter has_bytes lines) ≡ filter may_choose lines
unfolding may_choose
some_choose [] = refl
some_choose ([] ∷ lines) = some_choose lines
some_choose ((byte ∷ line) ∷ lines) =
    ap (λ (z : List (List ℕ)). cond (may_choose (byte ∷ line)) ((byte ∷ line) ∷ z) z) (some_choose lines)

-- all bytes of a text are those from its first place to its end
whole_text : (text : List ℕ) → between 0 (length text) text ≡ text
whole_text text =
    let all : length text - 0 ≡ length text = omega arith in
    ap (λ (z : ℕ). take z text) all ∙ take_all (length text) text (omega arith)

whole_lines : (text : List ℕ) → filter may_choose (lines_within true 0 text) ≡ filter may_choose (lines_of text)
whole_lines text =
    let ended = ended_from [] text in
    let last = unless_empty (rest_from [] text) in
    let same : ended_lines 0 (length text) text ≡ filter has_bytes ended = ap (λ (z : List ℕ). filter has_bytes (ended_from [] z)) (whole_text text) in
    filter-append may_choose (ended_lines 0 (length text) text) last
    ∙ ap (λ (z : List (List ℕ)). filter may_choose z ++ filter may_choose last) same
    ∙ ap (λ (z : List (List ℕ)). z ++ filter may_choose last) (some_choose ended)
    ∙ sym (filter-append may_choose ended last)
    ∙ ap (filter may_choose) (sym (lines_of-parts text))

one_last : (is_ended : Bool) (text : List ℕ) → is_ended ≡ false → 65536 ≤ length text → has_last false is_ended text ≡ true
one_last is_ended text none long = rw none (grind (arith, nat_tests))

one_text : (text : List ℕ) → 65536 ≤ length text → unless_empty text ≡ text ∷ []
one_text [] long = absurd (omega (arith, long))
one_text (byte ∷ text) long = refl

one_line : (text : List ℕ) → HasNone 10 text 0 (length text) → 65536 ≤ length text
    → lines_within (has_last false (has_ended 0 text) text) 0 text ≡ text ∷ []
one_line text none long =
    let parts = none_ended [] text none in
    let ended : ended_lines 0 (length text) text ≡ [] =
    ap (λ (z : List ℕ). filter has_bytes (ended_from [] z)) (whole_text text) ∙ ap (filter has_bytes) parts.0 in
    let last : has_last false (has_ended 0 text) text ≡ true = one_last (has_ended 0 text) text (ap has_lines ended) long in
    rw last (rw ended (ap (last_line true) parts.1 ∙ one_text text long))

pub first_bytes : FirstBytesChoose
first_bytes = record {
  whole = λ reader text. first_lines reader (has_ended 0 text) (lines_within true 0 text)
      ∙ ap (λ (z : List (List ℕ)). choice_of (take 16 z)) (whole_lines text);
  one_line = λ reader text none long. first_lines reader (has_ended 0 text) (lines_within (has_last false (has_ended 0 text) text) 0 text)
      ∙ ap (λ (z : List (List ℕ)). choice_of (take 16 (filter may_choose z))) (one_line text none long);
}
