-- The line of which a form fits a beginning, and the word that follows.
use Rattle.std.proofs.Common.{◌≡◌, ◌≢◌, refl, sym, ap, ◌∙◌, ℕ, ◌+◌, ◌-◌, ◌<◌, ◌≤◌, ◌==◌, suc, zero, false, true, Bool, List, [], ◌∷◌, ◌++◌, arith}
use Rattle.std.proofs.Common.{drop, get_or, inl, inr, length, take, Option, Some, None, Ok, Err, subst}
use Rattle.std.specs.Prelude.{◌⊎◌, All, MatchOption, min, not, slice_get}
use Rattle.std.specs.List.{between, take_while}
use Rattle.std.proofs.lemmas.Bool.{cases_Bool}
use Rattle.std.proofs.lemmas.Bool.Decides.{nat_tests}
use Rattle.std.proofs.lemmas.Grind.{common_steps}
use Rattle.std.proofs.lemmas.List.{length-drop, take_all}
use Rattle.std.proofs.lemmas.List.Elements.{All-cons, All-nil}
use Rattle.std.proofs.lemmas.List.Sums.{take_while-cons}
use Rattle.line_devices.specs.LineLemmas.{HasNone-between, ended_from-append, none_ended, whole_lines_of-parts}
use Rattle.line_devices.specs.LineParts.{HasNone, ended_from, rest_from}
use Rattle.line_devices.specs.Lines.{whole_lines_of}
use Rattle.log_forms.specs.Choices.{choice_of}
use Rattle.log_forms.specs.declared.stamps.Stamp.{Stamp}
use Rattle.log_forms.specs.declared.stamps.StampRefusal.{StampRefusal}
use Rattle.stamps.specs.Choosing.{stamp_by}
use Rattle.stamps.specs.Nearest.{FitsNone, HasNoFit, IsLongest, IsNearest, fit_of, tried_lines, tried_of}

-- ---- lines

pub whole_lines-first : (head : List ℕ) (end : ℕ) → end < length head → HasNone 10 head 0 end → get_or head end 0 ≡ 10
    → whole_lines_of head ≡ take end head ∷ whole_lines_of (drop (end + 1) head)
unfolding ended_from rest_from
whole_lines-first head end low none is =
    let line = take end head in
    let rest = drop (end + 1) head in
    let split : head ≡ line ++ 10 ∷ rest = grind (arith, common_steps) in
    let same : between 0 end head ≡ line = ap (λ (z : ℕ). take z head) (omega arith) in
    let part = none_ended [] line (subst (λ (z : List ℕ). HasNone 10 z 0 (length z)) same
    (HasNone-between head 0 end (omega arith) (omega (arith, low)) none)) in
    whole_lines_of-parts head ∙ ap (ended_from []) split ∙ ended_from-append [] line (10 ∷ rest)
    ∙ rw (part.0, part.1) (ap (λ (z : List (List ℕ)). line ∷ z) (sym (whole_lines_of-parts rest)))

pub whole_lines-none : (head : List ℕ) (end : ℕ) → end ≡ length head → HasNone 10 head 0 end → whole_lines_of head ≡ []
whole_lines-none head end last none =
    whole_lines_of-parts head ∙ (none_ended [] head (subst (λ (z : ℕ). HasNone 10 head 0 z) last none)).0

-- ---- the nearest of them

pub none_near : (lines : List (List ℕ)) → lines ≡ [] → All HasNoFit lines
none_near lines none = rw none (All-nil HasNoFit)

pub nearest_here : (lines more : List (List ℕ)) (line : List ℕ) (reader : ℕ) (rest : List ℕ) → lines ≡ line ∷ more
    → IsLongest line (tried_of line) reader rest → IsNearest lines 1 reader rest
nearest_here lines more line reader rest is h =
    record { line = line; first = omega arith; is = rw is refl; longest = h; before = All-nil HasNoFit }

nearest_later : (lines more : List (List ℕ)) (line : List ℕ) (number reader : ℕ) (rest : List ℕ) → lines ≡ line ∷ more → HasNoFit line
    → IsNearest more number reader rest → IsNearest lines (suc number) reader rest
nearest_later lines more line zero reader rest is none h = absurd (omega (arith, h.first))
nearest_later lines more line (suc number) reader rest is none h =
    let here : suc number - 1 ≡ number = omega arith in
    let next : suc (suc number) - 1 ≡ suc number = omega arith in
    record {
      line = h.line;
      first = omega arith;
      is = rw (is, next) (rw here at h.is);
      longest = h.longest;
      before = rw (is, next) (All-cons HasNoFit line (take number more) none (rw here at h.before));
    }

pub nearest_behind : {N : Type 0} (number reader : N → ℕ) (rest : N → List ℕ) (lines more : List (List ℕ)) (line : List ℕ) (before : ℕ)
    (found : Option N) → lines ≡ line ∷ more → HasNoFit line
    → MatchOption found (All HasNoFit more)
    (λ near. (before + 1 ≤ number near) × IsNearest more (number near - (before + 1)) (reader near) (rest near))
    → MatchOption found (All HasNoFit lines) (λ near. (before ≤ number near) × IsNearest lines (number near - before) (reader near) (rest near))
nearest_behind number reader rest lines more line before None is none h = rw is (All-cons HasNoFit line more none h)
nearest_behind number reader rest lines more line before (Some near) is none h =
    let next : number near - before ≡ suc (number near - (before + 1)) = omega (arith, h.0) in
    (omega (arith, h.0), rw next (nearest_later lines more line (number near - (before + 1)) (reader near) (rest near) is none h.1))

-- ---- a word

behind_first : (byte : ℕ) (text : List ℕ) (end : ℕ) → HasNone 32 (byte ∷ text) 0 (suc end) → HasNone 32 text 0 end
behind_first byte text end none = λ k low high. none (suc k) (omega arith) (omega (arith, high))

-- the bytes before the first blank
pub word-place : (text : List ℕ) (end : ℕ) → end ≤ length text → HasNone 32 text 0 end → (end < length text → get_or text end 0 ≡ 32)
    → take_while (λ byte. not (byte == 32)) text ≡ take end text
word-place [] end low none is = grind (arith, common_steps)
word-place (byte ∷ text) zero low none is =
    let same : byte ≡ 32 = is (omega arith) in take_while-cons (λ byte. not (byte == 32)) byte text ∙ rw same refl
word-place (byte ∷ text) (suc end) low none is =
    let other : byte ≢ 32 = none 0 (omega arith) (omega arith) in
    let t : (byte == 32) ≡ false = grind (arith, nat_tests) in
    take_while-cons (λ byte. not (byte == 32)) byte text
    ∙ rw t (ap (λ (z : List ℕ). byte ∷ z) (word-place text end (omega (arith, low)) (behind_first byte text end none) (λ h. is (omega (arith, h)))))

-- ---- the reader that a text chooses

pub fit_none : (text : List ℕ) → None ≡ choice_of (text ∷ []) → None ≡ fit_of text
unfolding fit_of
fit_none text e = rw (sym e) refl

pub fit_stamp : (text : List ℕ) (number : ℕ) (stamp : Stamp) → Some number ≡ choice_of (text ∷ []) → Ok stamp ≡ stamp_by number text
    → Some (number, stamp.start + stamp.length) ≡ fit_of text
unfolding fit_of
fit_stamp text number stamp e s = rw (sym e, sym s) refl

pub fit_refused : (text : List ℕ) (number : ℕ) (refusal : StampRefusal) → Some number ≡ choice_of (text ∷ []) → Err refusal ≡ stamp_by number text
    → None ≡ fit_of text
unfolding fit_of
fit_refused text number refusal e s = rw (sym e, sym s) refl

-- ---- the lines of a head

take_nil : (most : ℕ) → ◌≡◌ {A = List (List ℕ)} (take most []) []
take_nil zero = refl
take_nil (suc most) = refl

pub tried_none : (most : ℕ) (head : List ℕ) (end : ℕ) → end ≡ length head → HasNone 10 head 0 end → All HasNoFit (tried_lines most head)
tried_none most head end last none =
    let nothing : tried_lines most head ≡ [] = ap (take most) (whole_lines-none head end last none) ∙ take_nil most in none_near (tried_lines most head) nothing

pub tried_first : (before : ℕ) (head : List ℕ) (end : ℕ) → before < 4 → end < length head → HasNone 10 head 0 end → get_or head end 0 ≡ 10
    → tried_lines (4 - before) head ≡ take end head ∷ tried_lines (4 - (before + 1)) (drop (end + 1) head)
tried_first before head end some low none is =
    let count : 4 - before ≡ suc (4 - (before + 1)) = omega (arith, some) in
    rw (count, whole_lines-first head end low none is) refl

-- the rest of a head
pub rest_whole : (head : List ℕ) (count : ℕ) → take (length head - count) (drop count head) ≡ drop count head
rest_whole head count = take_all (length head - count) (drop count head) (omega (arith, length-drop count head))
