-- Columns with gaps: how many values a call has, and how many pairs have a gap.
use Rattle.std.proofs.Common.{◌≡◌, ℕ, ◌+◌, ◌<◌, ◌≤◌, List, [], ◌∷◌, length, take, get_or, Result, Ok, Err}
use Rattle.std.proofs.Common.{count_by, refl, sym, ap, ◌∙◌, arith, nat_lt, Bool, true, false, ◌||◌, if◌then◌else◌}
use Rattle.std.specs.List.{zip}
use Rattle.std.proofs.lemmas.List.{take_all}
use Rattle.std.proofs.lemmas.List.Sums.{count_by_more_yes, count_by_more_no}
use Rattle.std.proofs.lemmas.Slice.Zip.{length-zip, get_or-zip}
use Rattle.muxandu_c.specs.Batches.{value_before, values_of, with_room, batch_values}
use Rattle.muxandu_c.specs.PairBatches.{of_pair, pair_values, pairs_with_room}
use Rattle.muxandu_c.specs.declared.refused.Refused.{Refused}

-- a call has no more values than items
pub length-values_of : {A B : Type 0} (f : A → Result B Refused) (items : List A) → length (values_of f items) ≤ length items
length-values_of f [] = omega arith
length-values_of {A} {B} f (x ∷ xs) =
    let rest = length-values_of f xs in
    elim (f x) as (λ (answer : Result B Refused). length (value_before answer (values_of f xs)) ≤ length (x ∷ xs))
    [ Ok value ↦ omega (arith, rest) | Err refusal ↦ omega arith ]

length-with_room : {A B : Type 0} (there : List B) (items : List A) → length (with_room there items) ≤ length items
length-with_room there items =
    elim (nat_lt (length there) (length items)) as (λ (is_short : Bool). length (if is_short then [] else items) ≤ length items)
    [ true ↦ omega arith | false ↦ omega arith ]

pub length-batch_values : {A B : Type 0} (f : A → Result B Refused) (there : List B) (items : List A) → length (batch_values f there items) ≤ length items
length-batch_values f there items =
    let values = length-values_of f (with_room there items) in
    let kept = length-with_room there items in
    omega (arith, values, kept)

length-pairs_with_room : {A B C : Type 0} (there : List C) (firsts : List A) (seconds : List B) →
    (length (pairs_with_room there firsts seconds) ≤ length firsts) × (length (pairs_with_room there firsts seconds) ≤ length seconds)
length-pairs_with_room {A} {B} there firsts seconds =
    let all = length-zip firsts seconds in
    elim (nat_lt (length there) (length firsts) || nat_lt (length seconds) (length firsts))
    as (λ (is_short : Bool). let pairs = if is_short then [] else zip firsts seconds in (length pairs ≤ length firsts) × (length pairs ≤ length seconds))
    [ true ↦ (omega arith, omega arith) | false ↦ (omega (arith, all), omega (arith, all)) ]

pub length-pair_values : {A B C : Type 0} (f : A → B → Result C Refused) (there : List C) (firsts : List A) (seconds : List B) →
    (length (pair_values f there firsts seconds) ≤ length firsts) × (length (pair_values f there firsts seconds) ≤ length seconds)
length-pair_values f there firsts seconds =
    let values = length-values_of (of_pair f) (pairs_with_room there firsts seconds) in
    let kept = length-pairs_with_room there firsts seconds in
    (omega (arith, values, kept.0), omega (arith, values, kept.1))

-- one more pair: whether it is counted
has-at : {A B : Type 0} (test : A × B → Bool) (firsts : List A) (seconds : List B) (k : ℕ) (d x : A) (e y : B)
    → k < length firsts → k < length seconds → x ≡ get_or firsts k d → y ≡ get_or seconds k e → test (get_or (zip firsts seconds) k (d, e)) ≡ test (x, y)
has-at test firsts seconds k d x e y low second_low first second = rw (get_or-zip firsts seconds k (d, e) low second_low, ← first, ← second) refl

length-pairs_so : {A B : Type 0} (firsts : List A) (seconds : List B) (k : ℕ) → k < length firsts → k < length seconds → k < length (zip firsts seconds)
length-pairs_so firsts seconds k low second_low = let all = length-zip firsts seconds in omega (arith, all)

pub count_by-pair_yes : {A B : Type 0} (test : A × B → Bool) (firsts : List A) (seconds : List B) (k : ℕ) (d x : A) (e y : B) (gaps : ℕ)
    → k < length firsts → k < length seconds → x ≡ get_or firsts k d → y ≡ get_or seconds k e → test (x, y) ≡ true
    → gaps ≡ count_by test (take k (zip firsts seconds)) → gaps + 1 ≡ count_by test (take (k + 1) (zip firsts seconds))
count_by-pair_yes test firsts seconds k d x e y gaps low second_low first second is before =
    let here = has-at test firsts seconds k d x e y low second_low first second ∙ is in
    let more = count_by_more_yes test (zip firsts seconds) k (d, e) (length-pairs_so firsts seconds k low second_low) here in
    omega (arith, more, before)

pub count_by-pair_no : {A B : Type 0} (test : A × B → Bool) (firsts : List A) (seconds : List B) (k : ℕ) (d x : A) (e y : B) (gaps : ℕ)
    → k < length firsts → k < length seconds → x ≡ get_or firsts k d → y ≡ get_or seconds k e → test (x, y) ≡ false
    → gaps ≡ count_by test (take k (zip firsts seconds)) → gaps ≡ count_by test (take (k + 1) (zip firsts seconds))
count_by-pair_no test firsts seconds k d x e y gaps low second_low first second is before =
    let here = has-at test firsts seconds k d x e y low second_low first second ∙ is in
    before ∙ sym (count_by_more_no test (zip firsts seconds) k (d, e) (length-pairs_so firsts seconds k low second_low) here)

-- no pair is left
pub count_by-pairs_all : {A B : Type 0} (test : A × B → Bool) (firsts : List A) (seconds : List B) (k gaps : ℕ)
    → length firsts ≤ k → gaps ≡ count_by test (take k (zip firsts seconds)) → gaps ≡ count_by test (zip firsts seconds)
count_by-pairs_all {A} {B} test firsts seconds k gaps end before =
    let all = length-zip firsts seconds in
    let last : length (zip firsts seconds) ≤ k = omega (arith, all, end) in
    before ∙ ap (λ (pairs : List (A × B)). count_by test pairs) (take_all k (zip firsts seconds) last)
