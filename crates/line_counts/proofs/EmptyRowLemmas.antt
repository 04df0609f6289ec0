-- The rows of buckets without lines.
use Rattle.std.proofs.Common.{◌≡◌, ℕ, zero, suc, ◌<◌, ◌≤◌, nat_lt, false, true, List, ◌++◌, refl, ap, arith, ℤ}
use Rattle.std.proofs.lemmas.Bool.Decides.{nat_tests}
use Rattle.line_counts.specs.Counting.{Counting, empty_count, most}
use Rattle.line_counts.specs.Counts.{empty_rows, empty_run}
use Rattle.line_counts.specs.RowLaws.{AreAllBefore, bucket_after, buckets_from, rows_of_none}

-- the buckets after the first one
rest-before : (next : ℤ → ℤ) (count : ℕ) (from to : ℤ) → AreAllBefore next (suc count) from to → AreAllBefore next count (next from) to
unfolding bucket_after
rest-before next count from to h = record {
  before = λ k below. h.before (suc k) (omega (arith, below));
  reached = h.reached;
}

-- they are as many
pub empty_count-all : (next : ℤ → ℤ) (room count : ℕ) (from to : ℤ) → count ≤ room → AreAllBefore next count from to
    → empty_count next room from to ≡ count
unfolding empty_count bucket_after
empty_count-all next zero zero from to fits h = refl
empty_count-all next (suc room) zero from to fits h = rw h.reached refl
empty_count-all next zero (suc count) from to fits h = absurd (omega (arith, fits))
empty_count-all next (suc room) (suc count) from to fits h =
    rw (h.before 0 (omega arith)) (ap suc (empty_count-all next room count (next from) to (omega (arith, fits)) (rest-before next count from to h)))

-- and each has a row
pub empty_rows-all : {M : Type 0} (counting : Counting M) (room count : ℕ) (from to : ℤ) → count ≤ room → AreAllBefore counting.next count from to
    → empty_rows counting room from to ≡ rows_of_none counting count from
unfolding empty_rows bucket_after buckets_from
empty_rows-all counting zero zero from to fits h = refl
empty_rows-all counting (suc room) zero from to fits h = rw h.reached refl
empty_rows-all counting zero (suc count) from to fits h = absurd (omega (arith, fits))
empty_rows-all counting (suc room) (suc count) from to fits h =
    rw (h.before 0 (omega arith)) (ap (λ (z : List ℕ). counting.row from 0 ++ z)
    (empty_rows-all counting room count (counting.next from) to (omega (arith, fits)) (rest-before counting.next count from to h)))

-- the text of the buckets between two
pub empty_run-rows : {M : Type 0} (counting : Counting M) (count : ℕ) (from to : ℤ) → count ≤ most → AreAllBefore counting.next count from to
    → count ≤ counting.most_empty → empty_run counting from to ≡ rows_of_none counting count from
empty_run-rows counting count from to fits h few =
    let test : nat_lt counting.most_empty count ≡ false = grind (arith, nat_tests) in
    rw (empty_count-all counting.next most count from to fits h, test) (empty_rows-all counting most count from to fits h)

pub empty_run-in_place : {M : Type 0} (counting : Counting M) (count : ℕ) (from to : ℤ) → count ≤ most → AreAllBefore counting.next count from to
    → counting.most_empty < count → empty_run counting from to ≡ counting.in_place count
empty_run-in_place counting count from to fits h many =
    let test : nat_lt counting.most_empty count ≡ true = grind (arith, nat_tests) in
    rw (empty_count-all counting.next most count from to fits h, test) refl
