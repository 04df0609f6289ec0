-- The lines of an input, cut at its line feeds.
use Rattle.std.proofs.Common.{◌≡◌, ◌≢◌, ℕ, ◌+◌, ◌-◌, ◌<◌, ◌≤◌, suc, get_or, take, List, [], ◌∷◌, ◌++◌, length, refl, sym, ◌∙◌, ap, arith}
use Rattle.std.proofs.Common.{add-one, append_assoc, append-nil, true, false, cond, nat_eq, ◌==◌}
use Rattle.std.proofs.lemmas.Bool.Decides.{nat_tests}
use Rattle.std.proofs.lemmas.List.Splits.{length-slice_split}
use Rattle.std.proofs.Math.Seq.{take-add, take-suc}
use Rattle.std.proofs.lemmas.Grind.{common_steps}
use Rattle.std.specs.List.{onto_first, between}
use Rattle.line_devices.specs.Lines.{pieces_of, without_last, unless_empty, without_empty_last, lines_of, whole_lines_of}
use Rattle.line_devices.specs.LineParts.{HasNone, ended_from, rest_from}

-- one part of the input after another
pub ended_from-append : (piece xs ys : List ℕ) → ended_from piece (xs ++ ys) ≡ ended_from piece xs ++ ended_from (rest_from piece xs) ys
unfolding ended_from rest_from
ended_from-append piece [] ys = refl
ended_from-append piece (byte ∷ xs) ys =
    elim (nat_eq byte 10) as (λ t. cond t (piece ∷ ended_from [] (xs ++ ys)) (ended_from (piece ++ byte ∷ []) (xs ++ ys))
    ≡ cond t (piece ∷ ended_from [] xs) (ended_from (piece ++ byte ∷ []) xs)
    ++ ended_from (cond t (rest_from [] xs) (rest_from (piece ++ byte ∷ []) xs)) ys)
    [ true ↦ ap (λ (z : List (List ℕ)). piece ∷ z) (ended_from-append [] xs ys) | false ↦ ended_from-append (piece ++ byte ∷ []) xs ys ]

pub rest_from-append : (piece xs ys : List ℕ) → rest_from piece (xs ++ ys) ≡ rest_from (rest_from piece xs) ys
unfolding rest_from
rest_from-append piece [] ys = refl
rest_from-append piece (byte ∷ xs) ys =
    elim (nat_eq byte 10) as (λ t. cond t (rest_from [] (xs ++ ys)) (rest_from (piece ++ byte ∷ []) (xs ++ ys))
    ≡ rest_from (cond t (rest_from [] xs) (rest_from (piece ++ byte ∷ []) xs)) ys)
    [ true ↦ rest_from-append [] xs ys | false ↦ rest_from-append (piece ++ byte ∷ []) xs ys ]

-- bytes of which none is a line feed end no line
pub none_ended : (piece xs : List ℕ) → HasNone 10 xs 0 (length xs) → (ended_from piece xs ≡ []) × (rest_from piece xs ≡ piece ++ xs)
unfolding ended_from rest_from
none_ended piece [] h = (refl, sym (append-nil piece))
none_ended piece (byte ∷ xs) h =
    let other : byte ≢ 10 = h 0 (omega arith) (omega arith) in
    let t : nat_eq byte 10 ≡ false = grind (arith, nat_tests) in
    let more = none_ended (piece ++ byte ∷ []) xs (λ k a b. h (suc k) (omega arith) (omega arith)) in
    rw t (more.0, more.1 ∙ append_assoc piece (byte ∷ []) xs)

-- a part of a block
pub take-between : (block : List ℕ) (from end : ℕ) → from ≤ end → take end block ≡ take from block ++ between from end block
take-between block from end low =
    let place : from + (end - from) ≡ end = omega arith in rw place at (take-add from (end - from) block)

pub HasNone-between : (block : List ℕ) (from end : ℕ) → from ≤ end → end ≤ length block → HasNone 10 block from end
    → HasNone 10 (between from end block) 0 (length (between from end block))
HasNone-between block from end low high h = λ k a b.
    let count : length (between from end block) ≡ end - from = grind (arith, common_steps) in
    let at : get_or (between from end block) k 0 ≡ get_or block (from + k) 0 = grind (arith, common_steps) in
    rw at (h (from + k) (omega arith) (omega arith))

-- up to the next line feed no line ends
pub ended_until : (piece block : List ℕ) (from end : ℕ) → from ≤ end → end ≤ length block → HasNone 10 block from end
    → (ended_from piece (take end block) ≡ ended_from piece (take from block))
    × (rest_from piece (take end block) ≡ rest_from piece (take from block) ++ between from end block)
ended_until piece block from end low high h =
    let none = none_ended (rest_from piece (take from block)) (between from end block) (HasNone-between block from end low high h) in
    rw (take-between block from end low, ended_from-append piece (take from block) (between from end block))
    (rw (rest_from-append piece (take from block) (between from end block), none.0) (append-nil (ended_from piece (take from block)), none.1))

-- the block up to a line feed, and with it
pub take-line_feed : (block : List ℕ) (end : ℕ) → end < length block → get_or block end 0 ≡ 10 → take (end + 1) block ≡ take end block ++ 10 ∷ []
take-line_feed block end low is = rw (add-one, take-suc block end 0 low, is) refl

-- one more line feed
pub ended_from-line_feed : (piece xs : List ℕ) → ended_from piece (xs ++ 10 ∷ []) ≡ ended_from piece xs ++ rest_from piece xs ∷ []
unfolding ended_from rest_from
ended_from-line_feed piece xs = ended_from-append piece xs (10 ∷ [])

pub rest_from-line_feed : (piece xs : List ℕ) → rest_from piece (xs ++ 10 ∷ []) ≡ []
unfolding ended_from rest_from
rest_from-line_feed piece xs = rest_from-append piece xs (10 ∷ [])

-- some pieces, with another piece in front of the first of them
abbrev behind : List ℕ → List (List ℕ) → List (List ℕ)
behind piece [] = piece ∷ []
behind piece (x ∷ xs) = (piece ++ x) ∷ xs

behind-nil : (xs : List (List ℕ)) → 0 < length xs → behind [] xs ≡ xs
behind-nil [] h = absurd (omega (arith, h))
behind-nil (x ∷ xs) h = refl

behind-onto_first : (piece : List ℕ) (byte : ℕ) (xs : List (List ℕ)) → behind piece (onto_first byte xs) ≡ behind (piece ++ byte ∷ []) xs
behind-onto_first piece byte [] = refl
behind-onto_first piece byte (x ∷ xs) = ap (λ (z : List ℕ). z ∷ xs) (sym (append_assoc piece (byte ∷ []) x))

some_pieces : (input : List ℕ) → 0 < length (pieces_of input)
some_pieces input = omega (arith, length-slice_split (λ byte. byte == 10) input)

behind-pieces_of : (piece input : List ℕ) → behind piece (pieces_of input) ≡ ended_from piece input ++ rest_from piece input ∷ []
unfolding ended_from rest_from
behind-pieces_of piece [] = ap (λ (z : List ℕ). z ∷ []) (append-nil piece)
behind-pieces_of piece (byte ∷ input) =
    elim (nat_eq byte 10) as (λ t. behind piece (cond t ([] ∷ pieces_of input) (onto_first byte (pieces_of input)))
    ≡ cond t (piece ∷ ended_from [] input) (ended_from (piece ++ byte ∷ []) input)
    ++ cond t (rest_from [] input) (rest_from (piece ++ byte ∷ []) input) ∷ []) [
      | true ↦ ap (λ (z : List ℕ). z ∷ pieces_of input) (append-nil piece)
          ∙ ap (λ (z : List (List ℕ)). piece ∷ z) (sym (behind-nil (pieces_of input) (some_pieces input)) ∙ behind-pieces_of [] input)
      | false ↦ behind-onto_first piece byte (pieces_of input) ∙ behind-pieces_of (piece ++ byte ∷ []) input
    ]

-- the pieces of an input are the lines that a line feed ends, and the rest
pub pieces_of-parts : (input : List ℕ) → pieces_of input ≡ ended_from [] input ++ rest_from [] input ∷ []
pieces_of-parts input = sym (behind-nil (pieces_of input) (some_pieces input)) ∙ behind-pieces_of [] input

without_last-append : (xs : List (List ℕ)) (piece : List ℕ) → without_last (xs ++ piece ∷ []) ≡ xs
without_last-append [] piece = refl
without_last-append (x ∷ []) piece = refl
without_last-append (x ∷ y ∷ xs) piece = ap (λ (z : List (List ℕ)). x ∷ z) (without_last-append (y ∷ xs) piece)

without_empty_last-append : (xs : List (List ℕ)) (piece : List ℕ) → without_empty_last (xs ++ piece ∷ []) ≡ xs ++ unless_empty piece
without_empty_last-append [] piece = refl
without_empty_last-append (x ∷ []) piece = refl
without_empty_last-append (x ∷ y ∷ xs) piece = ap (λ (z : List (List ℕ)). x ∷ z) (without_empty_last-append (y ∷ xs) piece)

-- the lines of an input
pub lines_of-parts : (input : List ℕ) → lines_of input ≡ ended_from [] input ++ unless_empty (rest_from [] input)
lines_of-parts input =
    ap without_empty_last (pieces_of-parts input) ∙ without_empty_last-append (ended_from [] input) (rest_from [] input)

pub lines_of-append : (xs ys rest : List ℕ) → lines_of ((xs ++ ys) ++ rest) ≡ (ended_from [] xs ++ ended_from (rest_from [] xs) ys)
    ++ (ended_from (rest_from [] (xs ++ ys)) rest ++ unless_empty (rest_from [] ((xs ++ ys) ++ rest)))
lines_of-append xs ys rest =
    rw (lines_of-parts ((xs ++ ys) ++ rest), ended_from-append [] (xs ++ ys) rest, ended_from-append [] xs ys) (append_assoc (ended_from [] xs ++ _) _ _)

pub whole_lines_of-parts : (input : List ℕ) → whole_lines_of input ≡ ended_from [] input
whole_lines_of-parts input =
    ap without_last (pieces_of-parts input) ∙ without_last-append (ended_from [] input) (rest_from [] input)
