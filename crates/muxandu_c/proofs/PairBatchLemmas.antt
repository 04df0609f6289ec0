-- The pairs of two columns: how many there are, and what each leads to.
use Rattle.std.proofs.Common.{◌≡◌, ℕ, ◌<◌, ◌≤◌, List, length, get_or, Result, arith}
use Rattle.std.proofs.lemmas.Slice.Zip.{length-zip, get_or-zip}
use Rattle.std.specs.List.{zip}
use Rattle.muxandu_c.specs.PairBatches.{of_pair}
use Rattle.muxandu_c.specs.declared.refused.Refused.{Refused}

-- as many pairs as the first column has items
pub length-pairs : {A B : Type 0} (firsts : List A) (seconds : List B) → length firsts ≤ length seconds → length (zip firsts seconds) ≡ length firsts
length-pairs firsts seconds pairs = let all = length-zip firsts seconds in omega (arith, all, pairs)

-- the answer to the items of both columns at a place is the one to their pair
pub of_pair-at : {A B C : Type 0} (f : A → B → Result C Refused) (firsts : List A) (seconds : List B) (k : ℕ) (d : A) (e : B) (x : A) (y : B)
    (answer : Result C Refused) → k < length firsts → k < length seconds → x ≡ get_or firsts k d → y ≡ get_or seconds k e → answer ≡ f x y
    → answer ≡ of_pair f (get_or (zip firsts seconds) k (d, e))
of_pair-at f firsts seconds k d e x y answer low second_low first second given =
    rw (get_or-zip firsts seconds k (d, e) low second_low, ← first, ← second) given
