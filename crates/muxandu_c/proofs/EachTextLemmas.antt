-- Texts written into a block with a span and a status of each item: one more item, and the end of the items.
use Rattle.std.proofs.Common.{◌≡◌, ℕ, ◌+◌, ◌<◌, ◌≤◌, List, [], ◌∷◌, ◌++◌, length, take, drop, get_or, set}
use Rattle.std.proofs.Common.{Result, Ok, Err, refl, sym, ap, subst, ◌∙◌, arith}
use Rattle.std.proofs.lemmas.List.{drop_more, drop_all, take_more_set, append-nil, append_assoc, drop-drop}
use Rattle.std.specs.List.{concat}
use Rattle.muxandu_c.specs.Answers.{status_of, value_or, text_if_room, length_of_answer}
use Rattle.muxandu_c.specs.EachBatches.{status_of_each, count_of, count_of_values}
use Rattle.muxandu_c.specs.EachTexts.{answers_in, text_or_none, texts_or_none, as_it_is}
use Rattle.muxandu_c.specs.TextBlocks.{bytes_taken, spans_of}
use Rattle.muxandu_c.specs.declared.refused.Refused.{Refused}
use Rattle.muxandu_c.specs.declared.values.MuxanduSpan.{MuxanduSpan}
use Rattle.muxandu_c.proofs.BatchLemmas.{front-behind}
use Rattle.muxandu_c.proofs.TextBlockLemmas.{text_fits, with_answer, with_text, take-with_text, texts_end, spans_end}

abbrev Answer : Type 0
Answer = Result (List ℕ) Refused

-- ---- what the length of an answer says of it

pub bytes_told : (g : Answer) (told : Result ℕ Refused) (n : ℕ) → told ≡ length_of_answer g → n ≡ value_or told 0 → n ≡ length (text_or_none g)
bytes_told (Ok text) told n e m = m ∙ ap (λ (r : Result ℕ Refused). value_or r 0) e
bytes_told (Err refusal) told n e m = m ∙ ap (λ (r : Result ℕ Refused). value_or r 0) e

pub status_told : (g : Answer) (told : Result ℕ Refused) (s : ℕ) → told ≡ length_of_answer g → s ≡ status_of told → s ≡ status_of g
status_told (Ok text) told s e m = m ∙ ap (λ (r : Result ℕ Refused). status_of r) e
status_told (Err refusal) told s e m = m ∙ ap (λ (r : Result ℕ Refused). status_of r) e

pub count_told : (g : Answer) (told : Result ℕ Refused) (one : ℕ) → told ≡ length_of_answer g → one ≡ count_of told → one ≡ count_of g
count_told (Ok text) told one e m = m ∙ ap (λ (r : Result ℕ Refused). count_of r) e
count_told (Err refusal) told one e m = m ∙ ap (λ (r : Result ℕ Refused). count_of r) e

pub bytes_fit : (g given : Answer) (there : List ℕ) → g ≡ text_if_room given there → length (text_or_none g) ≤ length there
bytes_fit (Ok text) given there e = text_fits given there text e
bytes_fit (Err refusal) given there e = omega arith

pub made_of : (g : Answer) (start : ℕ) (block now : List ℕ) → now ≡ with_answer start block g → now ≡ with_text start (text_or_none g) block
made_of (Ok text) start block now e = e
made_of (Err refusal) start block now e = e

taken : (g : Answer) → bytes_taken g ≡ length (text_or_none g)
taken (Ok text) = refl
taken (Err refusal) = refl

-- ---- one more item

next_answers : {A : Type 0} (f : A → Answer) (items : List A) (k start : ℕ) (d : A) (g : Answer) (initial : List ℕ) → k < length items
    → g ≡ text_if_room (f (get_or items k d)) (drop start initial) → answers_in f (drop start initial) (drop k items)
    ≡ g ∷ answers_in f (drop (start + length (text_or_none g)) initial) (drop (k + 1) items)
next_answers {A} f items k start d g initial low e =
    let rest = drop (k + 1) items in
    let place = drop-drop (bytes_taken g) start initial ∙ ap (λ (m : ℕ). drop (start + m) initial) (taken g) in
    rw (drop_more items k d low, ← e) (ap (λ (b : List ℕ). g ∷ answers_in f b rest) place)

pub texts-more : {A : Type 0} (f : A → Answer) (items : List A) (k start n : ℕ) (d : A) (g : Answer) (block now initial all : List ℕ)
    → k < length items → start ≤ length block → g ≡ text_if_room (f (get_or items k d)) (drop start initial) → n ≡ length (text_or_none g)
    → now ≡ with_text start (text_or_none g) block
    → take start block ++ concat (texts_or_none (answers_in f (drop start initial) (drop k items))) ≡ all
    → take (start + n) now ++ concat (texts_or_none (answers_in f (drop (start + n) initial) (drop (k + 1) items))) ≡ all
texts-more {A} f items k start n d g block now initial all low room e size made before =
    let text = text_or_none g in
    let rest = concat (texts_or_none (answers_in f (drop (start + length text) initial) (drop (k + 1) items))) in
    let moved = ap (λ (z : List ℕ). z ++ rest) (take-with_text start text block room) ∙ append_assoc (take start block) text rest
    ∙ ap (λ (z : List Answer). take start block ++ concat (texts_or_none z)) (sym (next_answers f items k start d g initial low e)) in
    rw (made, size) (moved ∙ before)

pub spans-more : {A : Type 0} (f : A → Answer) (items : List A) (k start n : ℕ) (d : A) (g : Answer) (initial : List ℕ)
    (spans all : List MuxanduSpan) → k < length items → k < length spans
    → g ≡ text_if_room (f (get_or items k d)) (drop start initial) → n ≡ length (text_or_none g)
    → take k spans ++ spans_of start (texts_or_none (answers_in f (drop start initial) (drop k items))) ≡ all
    → take (k + 1) (set spans k (record { start = start; length = n }))
    ++ spans_of (start + n) (texts_or_none (answers_in f (drop (start + n) initial) (drop (k + 1) items))) ≡ all
spans-more {A} f items k start n d g initial spans all low room e size before =
    let text = text_or_none g in
    let span : MuxanduSpan = record { start = start; length = length text } in
    let rest = spans_of (start + length text) (texts_or_none (answers_in f (drop (start + length text) initial) (drop (k + 1) items))) in
    let moved = ap (λ (z : List MuxanduSpan). z ++ rest) (take_more_set spans k span room) ∙ append_assoc (take k spans) (span ∷ []) rest
    ∙ ap (λ (z : List Answer). take k spans ++ spans_of start (texts_or_none z)) (sym (next_answers f items k start d g initial low e)) in
    rw size (moved ∙ before)

pub statuses-more : {A : Type 0} (f : A → Answer) (items : List A) (k start n s : ℕ) (d : A) (g : Answer) (initial statuses all : List ℕ)
    → k < length items → k < length statuses → g ≡ text_if_room (f (get_or items k d)) (drop start initial) → n ≡ length (text_or_none g)
    → s ≡ status_of g → take k statuses ++ status_of_each as_it_is (answers_in f (drop start initial) (drop k items)) ≡ all
    → take (k + 1) (set statuses k s) ++ status_of_each as_it_is (answers_in f (drop (start + n) initial) (drop (k + 1) items)) ≡ all
statuses-more {A} f items k start n s d g initial statuses all low room e size status before =
    let text = text_or_none g in
    let rest = status_of_each as_it_is (answers_in f (drop (start + length text) initial) (drop (k + 1) items)) in
    let moved = ap (λ (z : List ℕ). z ++ rest) (take_more_set statuses k (status_of g) room)
    ∙ append_assoc (take k statuses) (status_of g ∷ []) rest
    ∙ ap (λ (z : List Answer). take k statuses ++ status_of_each as_it_is z) (sym (next_answers f items k start d g initial low e)) in
    rw (status, size) (moved ∙ before)

pub count-more : {A : Type 0} (f : A → Answer) (items : List A) (k start n count one : ℕ) (d : A) (g : Answer) (initial : List ℕ) (all : ℕ)
    → k < length items → g ≡ text_if_room (f (get_or items k d)) (drop start initial) → n ≡ length (text_or_none g) → one ≡ count_of g
    → count + count_of_values as_it_is (answers_in f (drop start initial) (drop k items)) ≡ all
    → (count + one) + count_of_values as_it_is (answers_in f (drop (start + n) initial) (drop (k + 1) items)) ≡ all
count-more {A} f items k start n count one d g initial all low e size counted before =
    let here = ap (count_of_values as_it_is) (next_answers f items k start d g initial low e) in rw size (omega (arith, here, counted, before))

-- ---- the end of the items

pub answers-all : {A : Type 0} (f : A → Answer) (items : List A) (k : ℕ) (block : List ℕ) → length items ≤ k → answers_in f block (drop k items) ≡ []
answers-all f items k block end = ap (answers_in f block) (drop_all k items end)

length-answers : {A : Type 0} (f : A → Answer) (block : List ℕ) (items : List A) → length (answers_in f block items) ≡ length items
length-answers f block [] = refl
length-answers f block (x ∷ xs) =
    let answer = text_if_room (f x) block in omega (arith, length-answers f (drop (bytes_taken answer) block) xs)

length-texts : (answers : List Answer) → length (texts_or_none answers) ≡ length answers
length-texts [] = refl
length-texts (answer ∷ answers) = omega (arith, length-texts answers)

length-statuses : (answers : List Answer) → length (status_of_each as_it_is answers) ≡ length answers
length-statuses [] = refl
length-statuses (answer ∷ answers) = omega (arith, length-statuses answers)

pub written-all : (start : ℕ) (block initial : List ℕ) (left all : List Answer) → start ≤ length block → left ≡ []
    → take start block ++ concat (texts_or_none left) ≡ concat (texts_or_none all) → drop start block ≡ drop start initial
    → block ≡ concat (texts_or_none all) ++ drop (length (concat (texts_or_none all))) initial
written-all start block initial left all low none before behind =
    texts_end start block initial (texts_or_none left) (texts_or_none all) low (ap texts_or_none none) before behind

pub spans-all : {A : Type 0} (f : A → Answer) (items : List A) (block : List ℕ) (start k : ℕ) (spans initial : List MuxanduSpan) (left : List Answer)
    → left ≡ [] → k ≡ length items
    → take k spans ++ spans_of start (texts_or_none left) ≡ spans_of 0 (texts_or_none (answers_in f block items)) → drop k spans ≡ drop k initial
    → spans ≡ spans_of 0 (texts_or_none (answers_in f block items)) ++ drop (length (texts_or_none (answers_in f block items))) initial
spans-all f items block start k spans initial left none end before behind =
    let all = answers_in f block items in
    let size : k ≡ length (texts_or_none all) = omega (arith, end, length-texts all, length-answers f block items) in
    subst (λ (n : ℕ). spans ≡ spans_of 0 (texts_or_none all) ++ drop n initial) size
    (spans_end start k spans initial (texts_or_none left) (texts_or_none all) (ap texts_or_none none) before behind)

pub statuses-all : {A : Type 0} (f : A → Answer) (items : List A) (block : List ℕ) (k : ℕ) (statuses initial : List ℕ) (left : List Answer)
    → left ≡ [] → k ≡ length items
    → take k statuses ++ status_of_each as_it_is left ≡ status_of_each as_it_is (answers_in f block items) → drop k statuses ≡ drop k initial
    → statuses ≡ status_of_each as_it_is (answers_in f block items) ++ drop (length (status_of_each as_it_is (answers_in f block items))) initial
statuses-all f items block k statuses initial left none end before behind =
    let all = answers_in f block items in
    let size : k ≡ length (status_of_each as_it_is all) = omega (arith, end, length-statuses all, length-answers f block items) in
    let front = sym (append-nil (take k statuses))
    ∙ ap (λ (z : List Answer). take k statuses ++ status_of_each as_it_is z) (sym none) ∙ before in
    subst (λ (n : ℕ). statuses ≡ status_of_each as_it_is all ++ drop n initial) size (front-behind k statuses initial _ front behind)

pub count-all : (count : ℕ) (left all : List Answer) → left ≡ []
    → count + count_of_values as_it_is left ≡ count_of_values as_it_is all → count ≡ count_of_values as_it_is all
count-all count left all none before = let nothing = ap (count_of_values as_it_is) none in omega (arith, before, nothing)
