-- What the words of a line ask for.
use Rattle.std.proofs.Common.{◌≡◌, ◌≢◌, ℕ, ◌+◌, ◌<◌, ◌≤◌, Bool, true, false, cond, nat_lt, nat_eq, List, [], ◌∷◌, ◌++◌, length, Option, Some, None}
use Rattle.std.proofs.Common.{refl, sym, ◌∙◌, ap, arith, append_assoc, Bor}
use Rattle.std.specs.Prelude.{codes}
use Rattle.std.specs.Char.{is_ascii_digit}
use Rattle.std.specs.List.{join_with_byte}
use Rattle.std.specs.Option.{option_map, option_map_or}
use Rattle.std.specs.Str.{bytes_eq}
use Rattle.std.proofs.lemmas.Bool.{and_right, false_from_ne_true}
use Rattle.std.proofs.lemmas.Bool.Decides.{nat_tests}
use Rattle.std.proofs.lemmas.List.Folds.{list_all-append}
use Rattle.std.proofs.lemmas.List.Splits.{join_with_byte-slice_split}
use Rattle.std.proofs.lemmas.Slice.Eq.{bytes_eq-Decides}
use Rattle.std.proofs.lemmas.List.{length-append}
use Rattle.times_bench.specs.Numbers.{number_digits, is_numeral, number_of, i64_of}
use Rattle.times_bench.specs.Requests.{Unix, unix_request, stamp_request, parse_instant, run_request, chain_request}
use Rattle.times_bench.specs.Requests.{request_of_words, request_of}
use Rattle.times_bench.specs.Words.{words_of, words_left, bytes_left, exactly_one, exactly_two, all_of}
use Rattle.times_bench.proofs.WordLemmas.{length-cut_at-some}

-- a text with a space is no number
is_numeral-space : (front back : List ℕ) → is_numeral (front ++ 32 ∷ back) ≡ false
is_numeral-space [] back = refl
is_numeral-space (byte ∷ front) back = list_all-append is_ascii_digit (byte ∷ front) (32 ∷ back) ∙ and_right _ false refl

number_digits-space : (front back : List ℕ) → is_numeral (number_digits (front ++ 32 ∷ back)) ≡ false
number_digits-space [] back = refl
number_digits-space (byte ∷ front) back =
    elim (nat_eq byte 45) as (λ t. is_numeral (cond t (front ++ 32 ∷ back) (byte ∷ front ++ 32 ∷ back)) ≡ false)
    [ true ↦ is_numeral-space front back | false ↦ is_numeral-space (byte ∷ front) back ]

i64_of-space : (front back : List ℕ) → i64_of (front ++ 32 ∷ back) ≡ None
unfolding i64_of number_of
i64_of-space front back = rw (number_digits-space front back) refl

-- what follows `unix` is a number, or it is more words than one
unix_request-joined : (words : List (List ℕ)) (text : List ℕ) → 0 < length words → join_with_byte 32 words ≡ text
    → unix_request words ≡ option_map Unix (i64_of text)
unfolding unix_request exactly_one
unix_request-joined [] text some e = absurd (omega (arith, some))
unix_request-joined (word ∷ []) text some e = rw e refl
unix_request-joined (word ∷ next ∷ words) text some e =
    rw (← e) (ap (option_map Unix) (sym (i64_of-space word (join_with_byte 32 (next ∷ words)))))

pub unix_request-number : (text : List ℕ) → unix_request (words_of text) ≡ option_map Unix (i64_of text)
unix_request-number text =
    unix_request-joined (words_of text) text (length-cut_at-some 32 text) (join_with_byte-slice_split 32 text)

-- the places that what is left takes: its bytes, and the space before them
abbrev pub room_left : Option (Bor (List ℕ)) → ℕ
room_left left = option_map_or (λ text. length text.now + 1) left 0

pub bytes_left-room : (left : Option (Bor (List ℕ))) → bytes_left left ≤ room_left left
bytes_left-room None = omega arith
bytes_left-room (Some text) = omega arith

join-next : (word : List ℕ) (words : List (List ℕ)) → 0 < length words → join_with_byte 32 (word ∷ words) ≡ word ++ 32 ∷ join_with_byte 32 words
join-next word [] some = absurd (omega (arith, some))
join-next word (next ∷ words) some = refl

-- the bytes of a text are those of its first word and what is left
pub length-words : (text word : List ℕ) (left : Option (Bor (List ℕ))) → words_of text ≡ word ∷ words_left left → length text ≡ length word + room_left left
length-words text word None e = let joined = rw e at (join_with_byte-slice_split 32 text) in omega (arith, ap length joined)
length-words text word (Some next) e =
    let more = join-next word (words_of next.now) (length-cut_at-some 32 next.now) in
    let joined = rw (e, more, join_with_byte-slice_split 32 next.now) at (join_with_byte-slice_split 32 text) in
    omega (arith, ap length joined, length-append word (32 ∷ next.now))

-- the items of the words before, and those of what is left
abbrev pub AllSoFar : {A : Type 0} → (List ℕ → Option A) → Option (List A) → List A → List (List ℕ) → Type 0
AllSoFar read all items words = all ≡ option_map (λ more. items ++ more) (all_of read words)

-- an item more behind the items is one more before the others
pub items-next : {A : Type 0} (items : List A) (item : A) (others : Option (List A))
    → option_map (λ more. items ++ more) (option_map (λ others. item ∷ others) others) ≡ option_map (λ more. (items ++ item ∷ []) ++ more) others
items-next items item None = refl
items-next items item (Some others) = ap Some (sym (append_assoc items (item ∷ []) others))

-- a line of at most 1,024 bytes is read by its words
pub request_of-front : (line text : List ℕ) → length line ≤ 1024 → line ≡ text → request_of line ≡ request_of_words (words_of text)
unfolding request_of
request_of-front line text short e = let within : nat_lt 1024 (length line) ≡ false = grind (arith, nat_tests) in rw within (rw e refl)

pub request_of-long : (line : List ℕ) → 1024 < length line → request_of line ≡ None
unfolding request_of
request_of-long line long = let over : nat_lt 1024 (length line) ≡ true = grind (arith, nat_tests) in rw over refl

-- a line that begins with no kind of request
abbrev pub AsksNothing : List ℕ → Type 0
AsksNothing line = (rest : List ℕ) → (line ≢ codes "unix " ++ rest) × (line ≢ codes "stamp " ++ rest) × (line ≢ codes "run " ++ rest)
    × (line ≢ codes "chain " ++ rest)

other_kind : (word rest line : List ℕ) → word ++ 32 ∷ rest ≡ line → AsksNothing line → (words : List (List ℕ)) → request_of_words (word ∷ words) ≡ None
other_kind word rest line e none words =
    let other : (front : List ℕ) → ¬ (line ≡ front ++ 32 ∷ rest) → bytes_eq word front ≡ false =
    (λ front h. false_from_ne_true _ (λ is. h (sym e ∙ ap (λ (z : List ℕ). z ++ 32 ∷ rest) ((bytes_eq-Decides word front).0 is)))) in
    let no = none rest in
    rw (other (codes "unix") no.0, other (codes "stamp") no.1, other (codes "run") no.2, other (codes "chain") no.3) refl

-- a first word alone asks for nothing
kind_alone : (is_unix is_stamp is_run is_chain : Bool)
    → cond is_unix (unix_request []) (cond is_stamp (stamp_request []) (cond is_run (run_request []) (cond is_chain (chain_request []) None))) ≡ None
unfolding unix_request stamp_request parse_instant run_request chain_request exactly_one exactly_two
kind_alone true is_stamp is_run is_chain = refl
kind_alone false true is_run is_chain = refl
kind_alone false false true is_chain = refl
kind_alone false false false true = refl
kind_alone false false false false = refl

request_of_words-other : (words : List (List ℕ)) (line : List ℕ) → join_with_byte 32 words ≡ line → AsksNothing line → request_of_words words ≡ None
request_of_words-other [] line e none = refl
request_of_words-other (kind ∷ []) line e none = kind_alone _ _ _ _
request_of_words-other (kind ∷ next ∷ words) line e none = other_kind kind (join_with_byte 32 (next ∷ words)) line e none (next ∷ words)

pub request_of-other : (line : List ℕ) → length line ≤ 1024 → AsksNothing line → request_of line ≡ None
request_of-other line short none =
    request_of-front line line short refl ∙ request_of_words-other (words_of line) line (join_with_byte-slice_split 32 line) none
