-- The first lines that choose a form, line by line.
use Rattle.std.proofs.Common.{◌≡◌, ◌≢◌, refl, sym, ap, ◌∙◌, ℕ, ◌+◌, ◌-◌, ◌<◌, ◌≤◌, ◌==◌, false, suc, true, Bool, List, [], ◌∷◌, ◌++◌}
use Rattle.std.proofs.Common.{append_assoc, arith, inl, inr, subst}
use Rattle.std.proofs.Common.{drop, get_or, length, length-append, map, take}
use Rattle.std.specs.Prelude.{◌||◌, ◌&&◌, All, filter, if◌then◌else◌, not}
use Rattle.std.specs.List.{between}
use Rattle.std.proofs.lemmas.Bool.Decides.{nat_tests}
use Rattle.std.proofs.lemmas.Grind.{common_steps}
use Rattle.std.proofs.lemmas.List.{append-nil, drop-drop, drop_all, length-take, length-take-le, take_all}
use Rattle.std.proofs.Math.Seq.{take-add, take-append-add}
use Rattle.std.proofs.lemmas.Bool.{cases_Bool, false≢true}
use Rattle.std.proofs.lemmas.List.Elements.{All-append, All-cons, All-nil, filter-append}
use Rattle.std.proofs.lemmas.List.{length-map, map-append}
use Rattle.std.proofs.lemmas.List.Folds.{list_any-append}
use Rattle.line_devices.specs.LineLemmas.{HasNone-between, ended_from-append, ended_from-line_feed, none_ended, rest_from-append}
use Rattle.line_devices.specs.LineLemmas.{rest_from-line_feed}
use Rattle.line_devices.specs.LineParts.{HasNone, ended_from, rest_from}
use Rattle.line_devices.specs.Lines.{unless_empty}
use Rattle.stamps.specs.declared.leading.Look.{Look}
use Rattle.log_forms.specs.Choices.{choice_of}
use Rattle.stamps.specs.Leading.{HasTold, IsWithin, Looked, Stands, choosing, ended_lines, has_bytes, has_ended, has_last, has_lines, has_other}
use Rattle.stamps.specs.Leading.{is_bare, is_other, last_line, line_at, lines_within, look_within}
use Rattle.stamps.specs.Leading.{look_by, look_of, may_choose, suffice, tells, until_told}
use Rattle.stamps.specs.LineStamps.{mark_length}
use Rattle.stamps.specs.declared.leading.Leading.{Leading}
use Rattle.stamps.specs.declared.readers.Reader.{Reader}

-- ---- one line more

until-next : (chooses : Bool) (reader : Reader) (before more : List (List ℕ)) (line : List ℕ) (told : Bool)
    → told ≡ tells chooses reader (before ++ line ∷ [])
    → until_told chooses reader before (line ∷ more)
    ≡ (if told then before ++ line ∷ [] else until_told chooses reader (before ++ line ∷ []) more)
unfolding until_told
until-next chooses reader before more line told is = rw is refl

-- of lines that do not tell the form, and one more, those up to the first that tell it are these, or go on behind them
pub told_next : (chooses : Bool) (reader : Reader) (lines more : List (List ℕ)) (line : List ℕ) (told : Bool)
    → told ≡ tells chooses reader (lines ++ line ∷ [])
    → ((more : List (List ℕ)) → until_told chooses reader [] (lines ++ more) ≡ until_told chooses reader lines more)
    → until_told chooses reader [] ((lines ++ line ∷ []) ++ more)
    ≡ (if told then lines ++ line ∷ [] else until_told chooses reader (lines ++ line ∷ []) more)
told_next chooses reader lines more line told is before =
    ap (until_told chooses reader []) (append_assoc lines (line ∷ []) more) ∙ before (line ∷ more) ∙ until-next chooses reader lines more line told is

either-false : (b : Bool) → (b || false) ≡ b
either-false true = refl
either-false false = refl

pub other_next : (chooses : Bool) (reader : Reader) (lines : List (List ℕ)) (line : List ℕ)
    → has_other chooses reader (lines ++ line ∷ []) ≡ (has_other chooses reader lines || is_other chooses reader line)
other_next chooses reader lines line =
    list_any-append (is_other chooses reader) lines (line ∷ [])
    ∙ ap (λ (z : Bool). has_other chooses reader lines || z) (either-false (is_other chooses reader line))

pub choosing_next : (lines : List (List ℕ)) (line : List ℕ) (may : Bool) → may ≡ may_choose line
    → choosing true (lines ++ line ∷ []) ≡ choosing true lines ++ (if may then line ∷ [] else [])
choosing_next lines line may is = filter-append may_choose lines (line ∷ []) ∙ rw (sym is) refl

-- ---- the lines of a longer head

pub between_same : (old more : List ℕ) (first from : ℕ) → from ≤ length old → between first from (old ++ more) ≡ between first from old
between_same old more first from low = grind (arith, common_steps)

between_add : (head : List ℕ) (first mid end : ℕ) → first ≤ mid → mid ≤ end → end ≤ length head
    → between first end head ≡ between first mid head ++ between mid end head
between_add head first mid end low high within =
    let text = drop first head in
    let sum : end - first ≡ (mid - first) + (end - mid) = omega (arith, low, high) in
    let there : first + (mid - first) ≡ mid = omega (arith, low) in
    ap (λ (z : ℕ). take z text) sum ∙ take-add (mid - first) (end - mid) text
    ∙ ap (λ (z : List ℕ). take (mid - first) text ++ take (end - mid) z)
    (drop-drop (mid - first) first head ∙ ap (λ (z : ℕ). drop z head) there)

between_one : (head : List ℕ) (end : ℕ) → end < length head → get_or head end 0 ≡ 10 → between end (end + 1) head ≡ 10 ∷ []
between_one head end within is =
    let tail : drop end head ≡ 10 ∷ drop (end + 1) head = grind (arith, common_steps) in
    let one : (end + 1) - end ≡ 1 = omega arith in
    rw (one, tail) refl

line_ended : (line : List ℕ) → HasNone 10 line 0 (length line) → ended_from [] (line ++ 10 ∷ []) ≡ line ∷ []
line_ended line none =
    let part = none_ended [] line none in ended_from-line_feed [] line ∙ rw (part.0, part.1) refl

-- a line that ends behind those before
pub ended_next : (head : List ℕ) (first from end : ℕ) → first ≤ from → from ≤ end → end < length head → HasNone 10 head from end
    → get_or head end 0 ≡ 10 → rest_from [] (between first from head) ≡ []
    → (ended_lines first (end + 1) head ≡ ended_lines first from head ++ filter has_bytes (between from end head ∷ []))
    × (rest_from [] (between first (end + 1) head) ≡ [])
ended_next head first from end low high within none is cut =
    let part = between first from head in
    let line = between from end head in
    let whole : between first (end + 1) head ≡ part ++ (line ++ 10 ∷ []) =
    between_add head first from (end + 1) low (omega (arith, high)) (omega (arith, within))
    ∙ ap (λ (z : List ℕ). part ++ z) (between_add head from end (end + 1) high (omega arith) (omega (arith, within))
    ∙ ap (λ (z : List ℕ). line ++ z) (between_one head end within is)) in
    let has = line_ended line (HasNone-between head from end high (omega (arith, within)) none) in
    let ended : ended_from [] (part ++ (line ++ 10 ∷ [])) ≡ ended_from [] part ++ line ∷ [] =
    ended_from-append [] part (line ++ 10 ∷ []) ∙ rw cut (ap (λ (z : List (List ℕ)). ended_from [] part ++ z) has) in (
      ap (λ (z : List ℕ). filter has_bytes (ended_from [] z)) whole ∙ ap (filter has_bytes) ended
          ∙ filter-append has_bytes (ended_from [] part) (line ∷ []),
      ap (rest_from []) (whole ∙ sym (append_assoc part line (10 ∷ []))) ∙ rest_from-line_feed [] (part ++ line),
    )

-- ---- what is known behind a line

pub looked_longer : (reader : Reader) (old more : List ℕ) (lines : List (List ℕ)) (leading : Leading) → Looked reader old lines leading
    → Looked reader (old ++ more) lines leading
looked_longer reader old more lines leading h = record {
  is_refused = h.is_refused;
  is_told = h.is_told;
  found = spans_same old more leading.found h.within ∙ h.found;
  within = λ k d low. let w = h.within k d low in (w.0, omega (arith, w.1, length-append old more));
  first = h.first;
} where
  spans_same : (old more : List ℕ) (spans : List (ℕ × ℕ)) → All (IsWithin old) spans
      → map (line_at (old ++ more)) spans ≡ map (line_at old) spans
  spans_same old more [] within = refl
  spans_same old more (span ∷ spans) within =
      let here : line_at (old ++ more) span ≡ line_at old span = between_same old more span.0 span.1 (within 0 span (omega arith)).1 in
      rw here (ap (λ (z : List (List ℕ)). line_at old span ∷ z) (spans_same old more spans (λ k d low. within (suc k) d (omega (arith, low)))))

pub stands_longer : (reader : Reader) (first : ℕ) (old more : List ℕ) (leading : Leading) → Stands reader first old leading
    → Stands reader first (old ++ more) leading
stands_longer reader first old more leading h =
    let same = between_same old more first leading.from h.high in
    record {
      low = h.low;
      high = omega (arith, h.high, length-append old more);
      cut = rw same h.cut;
      has_text = rw same h.has_text;
      looked = rw same (looked_longer reader old more (ended_lines first leading.from old) leading h.looked);
    }

-- ---- what is known behind one line more

looked_with : (reader : Reader) (head : List ℕ) (lines : List (List ℕ)) (line : List ℕ) (old new : Leading) → Looked reader head lines old
    → old.is_told ≡ false → new.chooses ≡ old.chooses
    → new.is_refused ≡ (has_other old.chooses reader lines || is_other old.chooses reader line)
    → new.is_told ≡ tells old.chooses reader (lines ++ line ∷ [])
    → map (line_at head) new.found ≡ choosing old.chooses (lines ++ line ∷ []) → All (IsWithin head) new.found
    → Looked reader head (lines ++ line ∷ []) new
looked_with reader head lines line old new h not same refused told found within = record {
  is_refused = rw same (refused ∙ sym (other_next old.chooses reader lines line));
  is_told = rw same told;
  found = rw same found;
  within = within;
  first = λ more. rw same (told_next old.chooses reader lines more line new.is_told told (λ more. rw not at h.first more));
}

told_alone : (chooses : Bool) (reader : Reader) (lines : List (List ℕ)) (line : List ℕ) → chooses ≡ false → tells chooses reader lines ≡ false
    → (has_other chooses reader lines || is_other chooses reader line) ≡ not (is_bare reader line)
told_alone chooses reader lines line named not' = rw (named, rw named at not') refl

-- where a word names the form
pub looked_named : (reader : Reader) (head : List ℕ) (lines : List (List ℕ)) (line : List ℕ) (old new : Leading) → Looked reader head lines old
    → old.is_told ≡ false → old.chooses ≡ false → new.chooses ≡ old.chooses → new.is_refused ≡ not (is_bare reader line)
    → new.is_told ≡ not (is_bare reader line) → new.found ≡ old.found → Looked reader head (lines ++ line ∷ []) new
looked_named reader head lines line old new h not' named same refused told found =
    let alone = told_alone old.chooses reader lines line named (sym h.is_told ∙ not') in
    looked_with reader head lines line old new h not' same (refused ∙ sym alone)
    (told ∙ sym alone ∙ sym (other_next old.chooses reader lines line) ∙ named_tells old.chooses reader (lines ++ line ∷ []) named)
    (rw found (h.found ∙ none old.chooses lines (lines ++ line ∷ []) named)) (rw found h.within)
  where
    named_tells : (chooses : Bool) (reader : Reader) (lines : List (List ℕ)) → chooses ≡ false → has_other chooses reader lines ≡ tells chooses reader lines
    named_tells chooses reader lines named = rw named refl

    none : (chooses : Bool) (lines more : List (List ℕ)) → chooses ≡ false → choosing chooses lines ≡ choosing chooses more
    none chooses lines more named = rw named refl

passed : (chooses : Bool) (lines : List (List ℕ)) (line : List ℕ) → chooses ≡ true → may_choose line ≡ false
    → choosing chooses (lines ++ line ∷ []) ≡ choosing chooses lines
passed chooses lines line chosen not' = rw chosen (choosing_next lines line false (sym not') ∙ append-nil (choosing true lines))

-- where lines choose it, and this one does not
pub looked_passed : (reader : Reader) (head : List ℕ) (lines : List (List ℕ)) (line : List ℕ) (old new : Leading) → Looked reader head lines old
    → old.is_told ≡ false → old.chooses ≡ true → may_choose line ≡ false → new.chooses ≡ old.chooses
    → new.is_refused ≡ (old.is_refused || not (is_bare reader line)) → new.is_told ≡ old.is_told → new.found ≡ old.found
    → Looked reader head (lines ++ line ∷ []) new
looked_passed reader head lines line old new h not' chosen may same refused told found =
    let same_lines = passed old.chooses lines line chosen may in
    looked_with reader head lines line old new h not' same
    (refused ∙ ap (λ (z : Bool). z || not (is_bare reader line)) h.is_refused
    ∙ ap (λ (z : Bool). has_other old.chooses reader lines || z) (other_of old.chooses line chosen may))
    (told ∙ h.is_told ∙ same_tells old.chooses lines (lines ++ line ∷ []) chosen (sym same_lines))
    (rw found (h.found ∙ sym same_lines)) (rw found h.within)
  where
    other_of : (chooses : Bool) (line : List ℕ) → chooses ≡ true → may_choose line ≡ false → not (is_bare reader line) ≡ is_other chooses reader line
    other_of chooses line chosen may = rw (chosen, may) refl

    same_tells : (chooses : Bool) (lines more : List (List ℕ)) → chooses ≡ true → choosing chooses lines ≡ choosing chooses more
        → tells chooses reader lines ≡ tells chooses reader more
    same_tells chooses lines more chosen is = rw chosen (ap suffice (rw chosen at is))

-- and where this one does
pub looked_found : (reader : Reader) (head : List ℕ) (lines : List (List ℕ)) (line : List ℕ) (span : ℕ × ℕ) (old new : Leading)
    → Looked reader head lines old → old.is_told ≡ false → old.chooses ≡ true → may_choose line ≡ true → new.chooses ≡ old.chooses
    → IsWithin head span → line_at head span ≡ line → new.is_refused ≡ old.is_refused → new.found ≡ old.found ++ span ∷ []
    → (All (IsWithin head) new.found → new.is_told ≡ suffice (map (line_at head) new.found)) → Looked reader head (lines ++ line ∷ []) new
looked_found reader head lines line span old new h not' chosen may same here is refused found told =
    let all : map (line_at head) new.found ≡ choosing old.chooses (lines ++ line ∷ []) =
    ap (map (line_at head)) found ∙ map-append (line_at head) old.found (span ∷ []) ∙ rw (h.found, is) (sym (added old.chooses lines line chosen may)) in
    let within : All (IsWithin head) new.found = rw found (All-append (IsWithin head) old.found (span ∷ []) h.within (All-one here)) in
    looked_with reader head lines line old new h not' same
    (refused ∙ h.is_refused ∙ sym (ap (λ (z : Bool). has_other old.chooses reader lines || z) (other_of old.chooses line chosen may)
    ∙ either-false (has_other old.chooses reader lines)))
    (told within ∙ ap suffice all ∙ tells_of old.chooses (lines ++ line ∷ []) chosen) all within
  where
    added : (chooses : Bool) (lines : List (List ℕ)) (line : List ℕ) → chooses ≡ true → may_choose line ≡ true
        → choosing chooses (lines ++ line ∷ []) ≡ choosing chooses lines ++ line ∷ []
    added chooses lines line chosen may = rw chosen (choosing_next lines line true (sym may))

    other_of : (chooses : Bool) (line : List ℕ) → chooses ≡ true → may_choose line ≡ true → is_other chooses reader line ≡ false
    other_of chooses line chosen may = rw (chosen, may) refl

    tells_of : (chooses : Bool) (lines : List (List ℕ)) → chooses ≡ true → suffice (choosing chooses lines) ≡ tells chooses reader lines
    tells_of chooses lines chosen = rw chosen refl

    All-one : {span : ℕ × ℕ} → IsWithin head span → All (IsWithin head) (span ∷ [])
    All-one {span} here = All-cons (IsWithin head) span [] here (All-nil (IsWithin head))

-- all places are taken only where the lines tell the form
pub none_full : (reader : Reader) (head : List ℕ) (lines : List (List ℕ)) (old : Leading) → Looked reader head lines old → old.is_told ≡ false
    → old.chooses ≡ true → length old.found ≡ 16 → ⊥
none_full reader head lines old h not' chosen full =
    let count : length (choosing old.chooses lines) ≡ 16 = ap length (sym h.found) ∙ length-map old.found (line_at head) ∙ full in
    false≢true (sym not' ∙ h.is_told ∙ sixteen old.chooses lines chosen count)
  where
    full_suffice : (lines : List (List ℕ)) → length lines ≡ 16 → suffice lines ≡ true
    full_suffice [] h = absurd (omega (arith, h))
    full_suffice (a ∷ []) h = absurd (omega (arith, h))
    full_suffice (a ∷ b ∷ []) h = absurd (omega (arith, h))
    full_suffice (a ∷ b ∷ c ∷ lines) h = grind (arith, nat_tests)

    sixteen : (chooses : Bool) (lines : List (List ℕ)) → chooses ≡ true → length (choosing chooses lines) ≡ 16 → tells chooses reader lines ≡ true
    sixteen chooses lines chosen count = rw chosen (full_suffice (filter may_choose lines) (rw chosen at count))

-- before the first line
tells_none : (chooses : Bool) (reader : Reader) → false ≡ tells chooses reader []
tells_none true reader = refl
tells_none false reader = refl

choosing_none : (chooses : Bool) → choosing chooses [] ≡ []
choosing_none true = refl
choosing_none false = refl

pub stands_first : (reader : Reader) (head : List ℕ) (leading : Leading) → leading.from ≤ length head → leading.has_text ≡ false
    → leading.is_refused ≡ false → leading.is_told ≡ false → leading.found ≡ [] → Stands reader leading.from head leading
unfolding ended_from rest_from
stands_first reader head leading low text refused told found =
    let zero : leading.from - leading.from ≡ 0 = omega arith in
    let nothing : between leading.from leading.from head ≡ [] = ap (λ (z : ℕ). take z (drop leading.from head)) zero in
    record {
      low = omega arith;
      high = low;
      cut = rw nothing refl;
      has_text = rw nothing text;
      looked = rw nothing (record {
        is_refused = refused;
        is_told = told ∙ tells_none leading.chooses reader;
        found = rw found (sym (choosing_none leading.chooses));
        within = rw found (All-nil (IsWithin head));
        first = λ more. rw told refl;
      });
    }

-- ---- a line that a line feed ends

-- one without bytes
pub stands_empty : (reader : Reader) (first end : ℕ) (head : List ℕ) (old : Leading) → Stands reader first head old → end ≡ old.from
    → end < length head → HasNone 10 head old.from end → get_or head end 0 ≡ 10 → Stands reader first head (record old { from = end + 1 })
stands_empty reader first end head old h here within none is =
    let low : old.from ≤ end = omega (arith, here) in
    let next = ended_next head first old.from end h.low low within none is h.cut in
    let zero : end - old.from ≡ 0 = omega (arith, here) in
    let nothing : between old.from end head ≡ [] = ap (λ (z : ℕ). take z (drop old.from head)) zero in
    let same : ended_lines first (end + 1) head ≡ ended_lines first old.from head =
    next.0 ∙ rw nothing (append-nil (ended_lines first old.from head)) in
    record {
      low = omega (arith, low, h.low);
      high = omega (arith, within);
      cut = next.1;
      has_text = rw same h.has_text;
      looked = rw same (record {
        is_refused = h.looked.is_refused;
        is_told = h.looked.is_told;
        found = h.looked.found;
        within = h.looked.within;
        first = h.looked.first;
      });
    }

some_lines : (lines : List (List ℕ)) (line : List ℕ) → true ≡ has_lines (lines ++ line ∷ [])
some_lines [] line = refl
some_lines (first ∷ lines) line = refl

some_bytes : (line : List ℕ) → 0 < length line → filter has_bytes (line ∷ []) ≡ line ∷ []
some_bytes [] some = absurd (omega (arith, some))
some_bytes (byte ∷ line) some = refl

-- one with bytes
pub stands_line : (reader : Reader) (first from end : ℕ) (head : List ℕ) (taken : Leading) → first ≤ from → from < end → end < length head
    → HasNone 10 head from end → get_or head end 0 ≡ 10 → rest_from [] (between first from head) ≡ [] → taken.has_text ≡ true
    → Looked reader head (ended_lines first from head ++ between from end head ∷ []) taken
    → Stands reader first head (record taken { from = end + 1 })
stands_line reader first from end head taken start low within none is cut text h =
    let high : from ≤ end = omega (arith, low) in
    let next = ended_next head first from end start high within none is cut in
    let line = between from end head in
    let some : 0 < length line = grind (arith, common_steps) in
    let lines = ended_lines first from head in
    let same : ended_lines first (end + 1) head ≡ lines ++ line ∷ [] = next.0 ∙ ap (λ (z : List (List ℕ)). lines ++ z) (some_bytes line some) in
    record {
      low = omega (arith, high, start);
      high = omega (arith, within);
      cut = next.1;
      has_text = rw same (text ∙ some_lines lines line);
      looked = rw same (record { is_refused = h.is_refused; is_told = h.is_told; found = h.found; within = h.within; first = h.first });
    }

-- ---- the outcome

told_lines : (chooses : Bool) (reader : Reader) (lines more : List (List ℕ)) (is_told : Bool) → (is_told ≡ false → more ≡ [])
    → (if is_told then lines else until_told chooses reader lines more) ≡ lines
unfolding until_told
told_lines chooses reader lines more true none = refl
told_lines chooses reader lines more false none = rw (none refl) refl

-- the outcome of the lines that were looked at is that of all lines
pub look_same : (reader : Reader) (head : List ℕ) (lines more : List (List ℕ)) (leading : Leading) (look : Look) → Looked reader head lines leading
    → (leading.is_told ≡ false → more ≡ [])
    → look ≡ look_by (choice_of (map (line_at head) leading.found)) (leading.has_text && not leading.is_refused)
    → look ≡ look_of leading.chooses reader leading.has_text (until_told leading.chooses reader [] (lines ++ more))
look_same reader head lines more leading look h none is =
    is ∙ rw (h.found, h.is_refused) (ap (look_of leading.chooses reader leading.has_text)
    (sym (h.first more ∙ told_lines leading.chooses reader lines more leading.is_told none)))

-- ---- the lines at some places

pub suffice_other : (head : List ℕ) (spans : List (ℕ × ℕ)) → length spans ≢ 2 → (length spans == 16) ≡ suffice (map (line_at head) spans)
suffice_other head [] not' = refl
suffice_other head (a ∷ []) not' = refl
suffice_other head (a ∷ b ∷ []) not' = absurd (not' refl)
suffice_other head (a ∷ b ∷ c ∷ spans) not' = ap (λ (z : ℕ). z == 16) (sym (length-map (a ∷ b ∷ c ∷ spans) (line_at head)))

-- ---- the first bytes of an input

-- the lines that end behind a place up to which none is cut
pub ended_on : (head : List ℕ) (first from : ℕ) → first ≤ from → from ≤ length head → rest_from [] (between first from head) ≡ []
    → (ended_lines first (length head) head ≡ ended_lines first from head ++ filter has_bytes (ended_from [] (between from (length head) head)))
    × (rest_from [] (drop first head) ≡ rest_from [] (between from (length head) head))
ended_on head first from low high cut =
    let part = between first from head in
    let more = between from (length head) head in
    let whole : between first (length head) head ≡ part ++ more = between_add head first from (length head) low high (omega arith) in
    let all : between first (length head) head ≡ drop first head = take_all (length head - first) (drop first head) (grind (arith, common_steps)) in (
      ap (λ (z : List ℕ). filter has_bytes (ended_from [] z)) whole
          ∙ ap (filter has_bytes) (ended_from-append [] part more ∙ ap (λ (z : List ℕ). ended_from [] part ++ ended_from z more) cut)
          ∙ filter-append has_bytes (ended_from [] part) (ended_from [] more),
      ap (rest_from []) (sym all ∙ whole) ∙ rest_from-append [] part more ∙ ap (λ (z : List ℕ). rest_from z more) cut,
    )

-- where no line feed follows, none ends there
pub ended_there : (head : List ℕ) (first from : ℕ) → first ≤ from → from ≤ length head → rest_from [] (between first from head) ≡ []
    → HasNone 10 head from (length head)
    → (ended_lines first (length head) head ≡ ended_lines first from head) × (rest_from [] (drop first head) ≡ drop from head)
ended_there head first from low high cut none =
    let more = between from (length head) head in
    let on = ended_on head first from low high cut in
    let part = none_ended [] more (HasNone-between head from (length head) high (omega arith) none) in
    let all : more ≡ drop from head = take_all (length head - from) (drop from head) (grind (arith, common_steps)) in (
      on.0 ∙ ap (λ (z : List (List ℕ)). ended_lines first from head ++ filter has_bytes z) part.0 ∙ append-nil (ended_lines first from head),
      on.1 ∙ part.1 ∙ all,
    )

told_some : (chooses : Bool) (reader : Reader) (lines : List (List ℕ)) → tells chooses reader lines ≡ true → has_lines lines ≡ true
told_some chooses reader [] told = absurd (false≢true (tells_none chooses reader ∙ told))
told_some chooses reader (line ∷ lines) told = refl

has_more : (lines more : List (List ℕ)) → has_lines lines ≡ true → has_lines (lines ++ more) ≡ true
has_more [] more some = absurd (false≢true some)
has_more (line ∷ lines) more some = refl

-- the lines of a block behind those that were looked at, with the last one if it is looked at
abbrev rest_lines : Bool → ℕ → ℕ → List ℕ → List (List ℕ)
rest_lines last first from block =
    filter has_bytes (ended_from [] (between from (length block) block)) ++ last_line last (rest_from [] (drop first block))

within_split : (last : Bool) (block : List ℕ) (first from : ℕ) → first ≤ from → from ≤ length block
    → rest_from [] (between first from block) ≡ []
    → ended_lines first from block ++ rest_lines last first from block ≡ lines_within last first block
within_split last block first from low high cut =
    let on = ended_on block first from low high cut in
    sym (append_assoc (ended_lines first from block) (filter has_bytes (ended_from [] (between from (length block) block)))
    (last_line last (rest_from [] (drop first block))))
    ∙ ap (λ (z : List (List ℕ)). z ++ last_line last (rest_from [] (drop first block))) (sym on.0)

-- what is known of a look by its lines
abbrev pub LooksBy : Reader → List ℕ → Leading → Look → Type 0
LooksBy reader block leading look =
    (lines more : List (List ℕ)) → Looked reader block lines leading → (leading.is_told ≡ false → more ≡ [])
    → look ≡ look_of leading.chooses reader leading.has_text (until_told leading.chooses reader [] (lines ++ more))

-- a text of some lines is one of those of the block, if a line that ends is among them
ended_same : (reader : Reader) (first : ℕ) (block : List ℕ) (leading : Leading) (is_told : Bool) → Stands reader first block leading
    → leading.is_told ≡ is_told → (is_told ≡ false → HasNone 10 block leading.from (length block)) → leading.has_text ≡ has_ended first block
ended_same reader first block leading true h told none =
    let some : has_lines (ended_lines first leading.from block) ≡ true =
    told_some leading.chooses reader (ended_lines first leading.from block) (sym h.looked.is_told ∙ told) in
    let on = ended_on block first leading.from h.low h.high h.cut in
    h.has_text ∙ some ∙ sym (ap has_lines on.0
    ∙ has_more (ended_lines first leading.from block) (filter has_bytes (ended_from [] (between leading.from (length block) block))) some)
ended_same reader first block leading false h told none =
    let there = ended_there block first leading.from h.low h.high h.cut (none refl) in
    h.has_text ∙ sym (ap has_lines there.0)

looks_told : (reader : Reader) (first : ℕ) (block : List ℕ) (last : Bool) (leading : Leading) (look : Look) → Stands reader first block leading
    → leading.is_told ≡ true → LooksBy reader block leading look
    → look ≡ look_of leading.chooses reader leading.has_text (until_told leading.chooses reader [] (lines_within last first block))
looks_told reader first block last leading look h told by =
    by (ended_lines first leading.from block) (rest_lines last first leading.from block) h.looked (λ not'. absurd (false≢true (sym not' ∙ told)))
    ∙ ap (λ (z : List (List ℕ)). look_of leading.chooses reader leading.has_text (until_told leading.chooses reader [] z))
    (within_split last block first leading.from h.low h.high h.cut)

looks_open : (reader : Reader) (first : ℕ) (block : List ℕ) (last : Bool) (leading after : Leading) (look : Look) → Stands reader first block leading
    → HasNone 10 block leading.from (length block)
    → Looked reader block (ended_lines first leading.from block ++ last_line last (drop leading.from block)) after → LooksBy reader block after look
    → look ≡ look_of after.chooses reader after.has_text (until_told after.chooses reader [] (lines_within last first block))
looks_open reader first block last leading after look h none looked by =
    let lines = ended_lines first leading.from block ++ last_line last (drop leading.from block) in
    let there = ended_there block first leading.from h.low h.high h.cut none in
    let same : lines_within last first block ≡ lines =
    ap (λ (z : List (List ℕ)). z ++ last_line last (rest_from [] (drop first block))) there.0
    ∙ ap (λ (z : List ℕ). ended_lines first leading.from block ++ last_line last z) there.1 in
    by lines [] looked (λ not'. refl)
    ∙ ap (λ (z : List (List ℕ)). look_of after.chooses reader after.has_text (until_told after.chooses reader [] z)) (append-nil lines ∙ sym same)

-- the look at a block, by what is known of its lines before the last one and behind it
pub looks_within : (reader : Reader) (first : ℕ) (block : List ℕ) (is_at_end : Bool) (leading after : Leading) (look : Look)
    → Stands reader first block leading → (leading.is_told ≡ false → HasNone 10 block leading.from (length block))
    → after.chooses ≡ leading.chooses → after.has_text ≡ leading.has_text → (leading.is_told ≡ true → after ≡ leading)
    → ((lines : List (List ℕ)) → leading.is_told ≡ false → Looked reader block lines leading
    → Looked reader block (lines ++ last_line (has_last is_at_end leading.has_text block) (drop leading.from block)) after)
    → LooksBy reader block after look
    → look ≡ look_within leading.chooses reader first is_at_end block
looks_within reader first block is_at_end leading after look h none chooses text same looked by =
    let ended : leading.has_text ≡ has_ended first block = ended_same reader first block leading leading.is_told h refl none in
    let last = has_last is_at_end (has_ended first block) block in
    elim (cases_Bool leading.is_told) [
      | inl told ↦
          looks_told reader first block last leading look h told (subst (λ (z : Leading). LooksBy reader block z look) (same told) by)
          ∙ ap (λ (z : Bool). look_of leading.chooses reader z (until_told leading.chooses reader [] (lines_within last first block))) ended
      | inr not' ↦
          let found : Looked reader block (ended_lines first leading.from block ++ last_line last (drop leading.from block)) after =
          subst (λ (z : Bool). Looked reader block
          (ended_lines first leading.from block ++ last_line (has_last is_at_end z block) (drop leading.from block)) after) ended
          (looked (ended_lines first leading.from block) not' h.looked) in
          looks_open reader first block last leading after look h (none not') found by
          ∙ ap (λ (z : Bool). look_of after.chooses reader z (until_told after.chooses reader [] (lines_within last first block))) (text ∙ ended)
          ∙ ap (λ (z : Bool). look_of z reader (has_ended first block) (until_told z reader [] (lines_within last first block))) chooses
    ]

-- where some of its lines tell the form
pub told_within : (reader : Reader) (first : ℕ) (block : List ℕ) (leading : Leading) → Stands reader first block leading → leading.is_told ≡ true
    → HasTold leading.chooses reader (ended_lines first (length block) block)
told_within reader first block leading h told = record {
  told = ended_lines first leading.from block;
  more = filter has_bytes (ended_from [] (between leading.from (length block) block));
  split = (ended_on block first leading.from h.low h.high h.cut).0;
  is_told = sym h.looked.is_told ∙ told;
}

-- behind the last byte of a head there is no last line
last_none : (last : Bool) (head : List ℕ) (from : ℕ) → length head ≤ from → last_line last (drop from head) ≡ []
last_none true head from low = ap unless_empty (drop_all from head low)
last_none false head from low = refl

pub looked_none : (reader : Reader) (head : List ℕ) (lines : List (List ℕ)) (last : Bool) (leading : Leading) → length head ≤ leading.from
    → Looked reader head lines leading → Looked reader head (lines ++ last_line last (drop leading.from head)) leading
looked_none reader head lines last leading low h = rw (last_none last head leading.from low, append-nil lines) h

-- a head of no more bytes is the first block
pub block_whole : (head : List ℕ) → length head ≤ 65536 → head ≡ take 65536 head
block_whole head short = sym (take_all 65536 head short)

pub block_long : (head : List ℕ) → 65536 < length head → 65536 ≡ length (take 65536 head)
block_long head long = sym (length-take-le 65536 head (omega (arith, long)))

pub ruleset blocks = (block_whole)

-- the first block of a head that grows
pub block_longer : (old more : List ℕ) → length old < 65536 → take 65536 (old ++ more) ≡ take 65536 old ++ take (65536 - length old) more
block_longer old more low =
    let whole : take 65536 old ≡ old = take_all 65536 old (omega (arith, low)) in
    let sum : 65536 ≡ length old + (65536 - length old) = omega (arith, low) in
    ap (λ (z : ℕ). take z (old ++ more)) sum ∙ take-append-add old more (65536 - length old)
    ∙ ap (λ (z : List ℕ). z ++ take (65536 - length old) more) (sym whole)

-- a byte order mark is within the first block
mark_short : (has : Bool) → mark_length has ≤ 65536
mark_short true = omega arith
mark_short false = omega arith

pub start_within : (has : Bool) (head : List ℕ) (start : ℕ) → start ≡ mark_length has → start ≤ length head → start ≤ length (take 65536 head)
start_within has head start is low = omega (arith, is, low, mark_short has, length-take 65536 head)
