-- The loop over the terms: what is left of the text gives what the whole text gives.
use Rattle.std.proofs.Common.{◌≡◌, ℕ, suc, ◌+◌, ◌-◌, ◌<◌, ◌≤◌, ◌==◌, Bool, false, ℤ, List, length, Result, Ok, Err, refl, sym, ◌∙◌, arith}
use Rattle.duration_texts.specs.Pieces.{past, is_blank}
use Rattle.duration_texts.specs.Reading.{terms_from, term_at, no_digit, goes_on}
use Rattle.duration_texts.specs.declared.faults.Stop.{Stop}

one_left : (n k : ℕ) → k < n → n - k ≡ suc (n - (k + 1))
one_left n k low = omega arith

-- a fault in the next term
pub terms_from-fault : (n k : ℕ) (negative : Bool) (sum : ℤ) (rest : List ℕ) (stop : Stop) (whole : Result ℤ Stop) → k < n
    → term_at negative sum rest ≡ Err stop → terms_from (n - k) negative sum rest ≡ whole → Err stop ≡ whole
unfolding terms_from
terms_from-fault n k negative sum rest stop whole low e before =
    sym (rw (one_left n k low) (rw e refl)) ∙ before

-- the last term
pub terms_from-ends : (n k : ℕ) (negative : Bool) (sum : ℤ) (rest : List ℕ) (sign : Bool) (more : ℤ) (after : List ℕ) (whole : Result ℤ Stop) → k < n
    → term_at negative sum rest ≡ Ok (sign, more, after) → length (past is_blank after) ≡ 0 → terms_from (n - k) negative sum rest ≡ whole → Ok more ≡ whole
unfolding terms_from
terms_from-ends n k negative sum rest sign more after whole low e none before =
    sym (rw (one_left n k low) (rw e (rw none refl))) ∙ before

-- a term before others
pub terms_from-next : (n k : ℕ) (negative : Bool) (sum : ℤ) (rest : List ℕ) (sign : Bool) (more : ℤ) (after : List ℕ) (whole : Result ℤ Stop) → k < n
    → term_at negative sum rest ≡ Ok (sign, more, after) → (length (past is_blank after) == 0) ≡ false → terms_from (n - k) negative sum rest ≡ whole
    → terms_from (n - (k + 1)) (goes_on sign after) more (past is_blank after) ≡ whole
unfolding terms_from
terms_from-next n k negative sum rest sign more after whole low e some before =
    sym (rw (one_left n k low) (rw e (rw some refl))) ∙ before

-- no term is left to read
pub terms_from-done : (n k : ℕ) (negative : Bool) (sum : ℤ) (rest : List ℕ) (whole : Result ℤ Stop) → n ≤ k
    → terms_from (n - k) negative sum rest ≡ whole → Err (no_digit rest) ≡ whole
unfolding terms_from
terms_from-done n k negative sum rest whole end before =
    let none : n - k ≡ 0 = omega arith in
    sym (rw none refl) ∙ before
