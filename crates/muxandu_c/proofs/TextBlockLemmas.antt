-- Texts written into a block, item by item: one more text, an item that is refused, and the end of the items.
use Rattle.std.proofs.Common.{◌≡◌, ℕ, ◌+◌, ◌-◌, ◌<◌, ◌≤◌, Bool, true, false, cond, nat_lt, List, [], ◌∷◌, ◌++◌, length, take, drop, get_or, set}
use Rattle.std.proofs.Common.{Result, Ok, Err, refl, sym, ap, ◌∙◌, arith, length-append, length-drop}
use Rattle.std.proofs.lemmas.Bool.Decides.{nat_tests}
use Rattle.std.proofs.lemmas.List.{drop_more, drop_all, take_more_set, take_all, take_at, drop_at, append-nil, append_assoc, length-take-le, take-append-drop}
use Rattle.std.proofs.lemmas.List.{drop-drop}
use Rattle.std.specs.Result.{result_map_both}
use borrow.Rule.Slice.PartMut.{mid_of, put_mid}
use Rattle.std.specs.List.{concat}
use Rattle.muxandu_c.specs.Answers.{status_number, text_if_room, written_over, length_of_answer}
use Rattle.muxandu_c.specs.TextBlocks.{texts_of, status_of_texts, spans_of}
use Rattle.muxandu_c.specs.declared.refused.Refused.{Refused}
use Rattle.muxandu_c.specs.declared.refused.Refused.TheVariants as refused
use Rattle.muxandu_c.specs.declared.values.MuxanduSpan.{MuxanduSpan}

-- ---- the texts

-- a text that has room
pub texts_of-more : {A : Type 0} (f : A → Result (List ℕ) Refused) (items : List A) (k : ℕ) (d : A) (block text : List ℕ)
    → k < length items → Ok text ≡ text_if_room (f (get_or items k d)) block
    → texts_of f block (drop k items) ≡ text ∷ texts_of f (drop (length text) block) (drop (k + 1) items)
texts_of-more f items k d block text low e = rw (drop_more items k d low, ← e) refl

pub status_of_texts-more : {A : Type 0} (f : A → Result (List ℕ) Refused) (items : List A) (k : ℕ) (d : A) (block text : List ℕ)
    → k < length items → Ok text ≡ text_if_room (f (get_or items k d)) block
    → status_of_texts f block (drop k items) ≡ status_of_texts f (drop (length text) block) (drop (k + 1) items)
status_of_texts-more f items k d block text low e = rw (drop_more items k d low, ← e) refl

-- one that is refused
pub texts_of-refused : {A : Type 0} (f : A → Result (List ℕ) Refused) (items : List A) (k : ℕ) (d : A) (block : List ℕ) (refusal : Refused)
    → k < length items → Err refusal ≡ text_if_room (f (get_or items k d)) block → texts_of f block (drop k items) ≡ []
texts_of-refused f items k d block refusal low e = rw (drop_more items k d low, ← e) refl

pub status_of_texts-refused : {A : Type 0} (f : A → Result (List ℕ) Refused) (items : List A) (k : ℕ) (d : A) (block : List ℕ) (refusal : Refused)
    → k < length items → Err refusal ≡ text_if_room (f (get_or items k d)) block
    → status_of_texts f block (drop k items) ≡ status_number refusal
status_of_texts-refused f items k d block refusal low e = rw (drop_more items k d low, ← e) refl

-- none is left
pub texts_of-all : {A : Type 0} (f : A → Result (List ℕ) Refused) (items : List A) (k : ℕ) (block : List ℕ)
    → length items ≤ k → texts_of f block (drop k items) ≡ []
texts_of-all f items k block end = ap (texts_of f block) (drop_all k items end)

pub status_of_texts-all : {A : Type 0} (f : A → Result (List ℕ) Refused) (items : List A) (k : ℕ) (block : List ℕ)
    → length items ≤ k → status_of_texts f block (drop k items) ≡ 0
status_of_texts-all f items k block end = ap (status_of_texts f block) (drop_all k items end)

-- ---- a text written behind others

pub mid_of-rest : (start : ℕ) (block : List ℕ) → mid_of start (length block - start) block ≡ drop start block
mid_of-rest start block = take_all (length block - start) (drop start block) (omega (arith, length-drop start block))

pub put_mid-rest : (start : ℕ) (block there : List ℕ) → put_mid start (length block - start) block there ≡ take start block ++ there
put_mid-rest start block there =
    let none : drop (length block - start) (drop start block) ≡ [] =
    drop_all (length block - start) (drop start block) (omega (arith, length-drop start block)) in
    ap (λ (z : List ℕ). take start block ++ (there ++ z)) none ∙ ap (λ (z : List ℕ). take start block ++ z) (append-nil there)

-- what the length of an answer says of it
abbrev number_or_0 : Result ℕ Refused → ℕ
number_or_0 (Ok n) = n
number_or_0 (Err refusal) = 0

abbrev text_or_none : Result (List ℕ) Refused → List ℕ
text_or_none (Ok text) = text
text_or_none (Err refusal) = []

pub text_of_length : (answer : Result (List ℕ) Refused) (n : ℕ) → Ok n ≡ length_of_answer answer
    → (text : List ℕ) × (Ok text ≡ answer) × (n ≡ length text)
text_of_length (Ok text) n e = (text, refl, ap number_or_0 e)
text_of_length (Err refusal) n e = absurd cc

pub refused_of_length : (answer : Result (List ℕ) Refused) (refusal : Refused) → Err refusal ≡ length_of_answer answer → Err refusal ≡ answer
refused_of_length (Ok text) refusal e = absurd cc
refused_of_length (Err other) refusal e = ap (result_map_both (λ (n : ℕ). []) (λ (r : Refused). r)) e

fits_if : (is_short : Bool) (there text given : List ℕ) → nat_lt (length there) (length given) ≡ is_short
    → Ok text ≡ cond is_short (Err refused.Buffer) (Ok given) → length text ≤ length there
fits_if true there text given t e = absurd cc
fits_if false there text given t e =
    let room : length given ≤ length there = grind (arith, nat_tests) in
    omega (arith, room, ap (λ (r : Result (List ℕ) Refused). length (text_or_none r)) e)

pub text_fits : (answer : Result (List ℕ) Refused) (there text : List ℕ) → Ok text ≡ text_if_room answer there → length text ≤ length there
text_fits (Ok given) there text e = fits_if (nat_lt (length there) (length given)) there text given refl e
text_fits (Err refusal) there text e = absurd cc

-- the same of a block that is equal
pub refused_in : (given : Result (List ℕ) Refused) (a b : List ℕ) (refusal : Refused) → Err refusal ≡ length_of_answer (text_if_room given a)
    → a ≡ b → Err refusal ≡ text_if_room given b
refused_in given a b refusal e same = refused_of_length (text_if_room given a) refusal e ∙ ap (text_if_room given) same

-- a block with what an answer leaves behind so many bytes, and with a text more there
abbrev pub with_answer : ℕ → List ℕ → Result (List ℕ) Refused → List ℕ
with_answer start block answer = take start block ++ written_over answer (drop start block)

abbrev pub with_text : ℕ → List ℕ → List ℕ → List ℕ
with_text start text block = take start block ++ (text ++ drop (length text) (drop start block))

length-before : (start : ℕ) (text block : List ℕ) → start ≤ length block → length (take start block ++ text) ≡ start + length text
length-before start text block low = omega (arith, length-append (take start block) text, length-take-le start block low)

pub take-with_text : (start : ℕ) (text block : List ℕ) → start ≤ length block
    → take (start + length text) (with_text start text block) ≡ take start block ++ text
take-with_text start text block low =
    ap (take (start + length text)) (sym (append_assoc (take start block) text (drop (length text) (drop start block))))
    ∙ take_at (take start block ++ text) (drop (length text) (drop start block)) (start + length text) (length-before start text block low)

drop-with_text : (start : ℕ) (text block initial : List ℕ) → start ≤ length block → drop start block ≡ drop start initial
    → drop (start + length text) (with_text start text block) ≡ drop (start + length text) initial
drop-with_text start text block initial low behind =
    ap (drop (start + length text)) (sym (append_assoc (take start block) text (drop (length text) (drop start block))))
    ∙ drop_at (take start block ++ text) (drop (length text) (drop start block)) (start + length text) (length-before start text block low)
    ∙ ap (drop (length text)) behind ∙ drop-drop (length text) start initial

room-with_text : (start : ℕ) (text block : List ℕ) → start ≤ length block → length text ≤ length (drop start block)
    → start + length text ≤ length (with_text start text block)
room-with_text start text block low fits =
    omega (
      arith,
      length-append (take start block) (text ++ drop (length text) (drop start block)),
      length-append text (drop (length text) (drop start block)),
      length-take-le start block low,
    )

-- ---- one item more

next_texts : {A : Type 0} (f : A → Result (List ℕ) Refused) (items : List A) (k start : ℕ) (d : A) (text initial : List ℕ) → k < length items
    → Ok text ≡ text_if_room (f (get_or items k d)) (drop start initial)
    → text ∷ texts_of f (drop (start + length text) initial) (drop (k + 1) items) ≡ texts_of f (drop start initial) (drop k items)
next_texts {A} f items k start d text initial low e =
    ap (λ (b : List ℕ). text ∷ texts_of f b (drop (k + 1) items)) (sym (drop-drop (length text) start initial))
    ∙ sym (texts_of-more f items k d (drop start initial) text low e)

texts_next : {A : Type 0} (f : A → Result (List ℕ) Refused) (items : List A) (k start : ℕ) (d : A) (text block initial : List ℕ)
    → k < length items → start ≤ length block → Ok text ≡ text_if_room (f (get_or items k d)) (drop start initial)
    → take (start + length text) (with_text start text block) ++ concat (texts_of f (drop (start + length text) initial) (drop (k + 1) items))
    ≡ take start block ++ concat (texts_of f (drop start initial) (drop k items))
texts_next {A} f items k start d text block initial low room e =
    let rest = texts_of f (drop (start + length text) initial) (drop (k + 1) items) in
    ap (λ (z : List ℕ). z ++ concat rest) (take-with_text start text block room) ∙ append_assoc (take start block) text (concat rest)
    ∙ ap (λ (z : List (List ℕ)). take start block ++ concat z) (next_texts f items k start d text initial low e)

pub spans_next : {A : Type 0} (f : A → Result (List ℕ) Refused) (items : List A) (k start : ℕ) (d : A) (text initial : List ℕ)
    (spans : List MuxanduSpan) → k < length items → k < length spans
    → Ok text ≡ text_if_room (f (get_or items k d)) (drop start initial)
    → take (k + 1) (set spans k (record { start = start; length = length text }))
    ++ spans_of (start + length text) (texts_of f (drop (start + length text) initial) (drop (k + 1) items))
    ≡ take k spans ++ spans_of start (texts_of f (drop start initial) (drop k items))
spans_next {A} f items k start d text initial spans low room e =
    let span : MuxanduSpan = record { start = start; length = length text } in
    let rest = spans_of (start + length text) (texts_of f (drop (start + length text) initial) (drop (k + 1) items)) in
    ap (λ (z : List MuxanduSpan). z ++ rest) (take_more_set spans k span room) ∙ append_assoc (take k spans) (span ∷ []) rest
    ∙ ap (λ (z : List (List ℕ)). take k spans ++ spans_of start z) (next_texts f items k start d text initial low e)

pub status_next : {A : Type 0} (f : A → Result (List ℕ) Refused) (items : List A) (k start : ℕ) (d : A) (text initial : List ℕ)
    → k < length items → Ok text ≡ text_if_room (f (get_or items k d)) (drop start initial)
    → status_of_texts f (drop (start + length text) initial) (drop (k + 1) items) ≡ status_of_texts f (drop start initial) (drop k items)
status_next {A} f items k start d text initial low e =
    ap (λ (b : List ℕ). status_of_texts f b (drop (k + 1) items)) (sym (drop-drop (length text) start initial))
    ∙ sym (status_of_texts-more f items k d (drop start initial) text low e)

pub count_next : {A : Type 0} (f : A → Result (List ℕ) Refused) (items : List A) (k start : ℕ) (d : A) (text initial : List ℕ)
    → k < length items → Ok text ≡ text_if_room (f (get_or items k d)) (drop start initial)
    → k + 1 + length (texts_of f (drop (start + length text) initial) (drop (k + 1) items))
    ≡ k + length (texts_of f (drop start initial) (drop k items))
count_next {A} f items k start d text initial low e =
    omega (arith, ap (length {A = List ℕ}) (next_texts f items k start d text initial low e))

-- ---- the same by the number of bytes, and by what the block is then

pub texts_after : {A : Type 0} (f : A → Result (List ℕ) Refused) (items : List A) (k start n : ℕ) (d : A) (text block now initial : List ℕ)
    → k < length items → start ≤ length block → Ok text ≡ text_if_room (f (get_or items k d)) (drop start initial) → n ≡ length text
    → now ≡ with_text start text block
    → take (start + n) now ++ concat (texts_of f (drop (start + n) initial) (drop (k + 1) items))
    ≡ take start block ++ concat (texts_of f (drop start initial) (drop k items))
texts_after f items k start n d text block now initial low room e size made =
    rw (made, size) (texts_next f items k start d text block initial low room e)

pub behind_after : (start n : ℕ) (text block now initial : List ℕ) → start ≤ length block → drop start block ≡ drop start initial
    → n ≡ length text → now ≡ with_text start text block → drop (start + n) now ≡ drop (start + n) initial
behind_after start n text block now initial low behind size made = rw (made, size) (drop-with_text start text block initial low behind)

pub room_after : (start n : ℕ) (text block now : List ℕ) → start ≤ length block → length text ≤ length (drop start block) → n ≡ length text
    → now ≡ with_text start text block → start + n ≤ length now
room_after start n text block now low fits size made = rw (made, size) (room-with_text start text block low fits)

-- ---- the end, with no text left

pub texts_end : (start : ℕ) (block initial : List ℕ) (left all : List (List ℕ)) → start ≤ length block → left ≡ []
    → take start block ++ concat left ≡ concat all → drop start block ≡ drop start initial
    → block ≡ concat all ++ drop (length (concat all)) initial
texts_end start block initial left all low none before behind =
    let front : take start block ≡ concat all = sym (append-nil (take start block))
    ∙ ap (λ (z : List (List ℕ)). take start block ++ concat z) (sym none) ∙ before in
    let size : start ≡ length (concat all) = sym (length-take-le start block low) ∙ ap (length {A = ℕ}) front in
    sym (take-append-drop start block) ∙ ap (λ (z : List ℕ). z ++ drop start block) front ∙ ap (λ (z : List ℕ). concat all ++ z) behind
    ∙ ap (λ (n : ℕ). concat all ++ drop n initial) size

pub spans_end : (start k : ℕ) (spans initial : List MuxanduSpan) (left all : List (List ℕ)) → left ≡ []
    → take k spans ++ spans_of start left ≡ spans_of 0 all → drop k spans ≡ drop k initial → spans ≡ spans_of 0 all ++ drop k initial
spans_end start k spans initial left all none before behind =
    let front : take k spans ≡ spans_of 0 all = sym (append-nil (take k spans))
    ∙ ap (λ (z : List (List ℕ)). take k spans ++ spans_of start z) (sym none) ∙ before in
    sym (take-append-drop k spans) ∙ ap (λ (z : List MuxanduSpan). z ++ drop k spans) front
    ∙ ap (λ (z : List MuxanduSpan). spans_of 0 all ++ z) behind

pub count_end : (k : ℕ) (left all : List (List ℕ)) → left ≡ [] → k + length left ≡ length all → k ≡ length all
count_end k left all none before = omega (arith, before, ap (length {A = List ℕ}) none)
