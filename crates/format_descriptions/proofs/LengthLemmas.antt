-- The length of a description's text, counted piece by piece.
use Rattle.std.proofs.Common.{◌≡◌, refl, ℕ, ◌+◌, ◌<◌, ◌≤◌, List, [], ◌∷◌, ◌++◌, length, length-append, arith}
use Rattle.std.specs.Prelude.{true, false, nat_lt, Result, Ok, Err, IfOk, IfErr}
use Rattle.std.proofs.lemmas.Bool.Decides.{nat_tests}
use Rattle.format_descriptions.specs.DescriptionTexts.{SourceFault, in_brackets, and_then, with_piece, source_length}
use Rattle.format_descriptions.specs.declared.item_refusal.ItemFault.TheVariants.{NoRoom}

pub length-in_brackets : (name a b c d : List ℕ)
    → length (in_brackets name a b c d) ≡ length name + length a + length b + length c + length d + 1
length-in_brackets name a b c d =
    omega (
      arith,
      length-append name (a ++ (b ++ (c ++ (d ++ 93 ∷ [])))),
      length-append a (b ++ (c ++ (d ++ 93 ∷ []))),
      length-append b (c ++ (d ++ 93 ∷ [])),
      length-append c (d ++ 93 ∷ []),
      length-append d (93 ∷ []),
    )

-- a piece that fits, and one that does not
pub piece-fits : (room left : ℕ) (text piece : List ℕ) (n : ℕ) → n ≡ length text + length piece → n ≤ room
    → Ok n ≡ source_length (with_piece room left text piece)
piece-fits room left text piece n is fits =
    let test : nat_lt room (length text + length piece) ≡ false = grind (arith, nat_tests) in
    rw (test, length-append text piece, is) refl

pub piece-fails : (room left : ℕ) (text piece : List ℕ) → room < length text + length piece
    → Err (NoRoom, left) ≡ source_length (with_piece room left text piece)
piece-fails room left text piece fails =
    let test : nat_lt room (length text + length piece) ≡ true = grind (arith, nat_tests) in
    rw test refl

-- a text of a length
pub text-of : (r : Result (List ℕ) SourceFault) (n : ℕ) → Ok n ≡ source_length r → (text : List ℕ) × (r ≡ Ok text) × (length text ≡ n)
text-of (Ok text) n e = (text, refl, cc)
text-of (Err fault) n e = absurd cc

pub fault-of : (r : Result (List ℕ) SourceFault) (fault : SourceFault) → Err fault ≡ source_length r → r ≡ Err fault
fault-of (Ok text) fault e = absurd cc
fault-of (Err other) fault e = cc

-- the pieces of a component in brackets, of which the last is counted by a result
pub words-counted : (room left used : ℕ) (text name a b c d : List ℕ) (r : Result ℕ SourceFault)
    → used ≡ length text + length name + length a + length b + length c + length d → IfOk r (λ n. n ≤ room) → IfOk r (λ n. n ≡ used + 1)
    → IfErr r (λ fault. (fault ≡ (NoRoom, left)) × (room < used + 1)) → r ≡ source_length (with_piece room left text (in_brackets name a b c d))
words-counted room left used text name a b c d (Ok n) is within fits fails =
    piece-fits room left text (in_brackets name a b c d) n (omega (arith, is, fits, length-in_brackets name a b c d)) within
words-counted room left used text name a b c d (Err fault) is within fits fails =
    rw fails.0 (piece-fails room left text (in_brackets name a b c d) (omega (arith, is, fails.1, length-in_brackets name a b c d)))

-- a fault ends all, and a text goes on
pub fault-ends : (put : Result (List ℕ) SourceFault) (next : List ℕ → Result (List ℕ) SourceFault) (fault : SourceFault)
    (all : Result (List ℕ) SourceFault) → Err fault ≡ source_length put → and_then put next ≡ all → Err fault ≡ source_length all
fault-ends put next fault all is so =
    let there : put ≡ Err fault = fault-of put fault is in
    let end : Err fault ≡ all = rw there at so in rw (← end) refl

pub text-goes : (put : Result (List ℕ) SourceFault) (next : List ℕ → Result (List ℕ) SourceFault) (n : ℕ) (all : Result (List ℕ) SourceFault)
    → Ok n ≡ source_length put → and_then put next ≡ all → (text : List ℕ) × (length text ≡ n) × (next text ≡ all)
text-goes put next n all is so =
    let found = text-of put n is in (found.0, found.2, rw found.1 at so)
