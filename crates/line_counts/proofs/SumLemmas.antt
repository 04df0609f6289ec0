-- The rows of a bucket add up to the number of its lines.
use Rattle.std.proofs.Common.{◌≡◌, ℕ, zero, suc, ◌+◌, ◌≤◌, Bool, true, false, cond, nat_eq, List, [], ◌∷◌, ◌++◌, length, length-append, Option, Some, None}
use Rattle.std.proofs.Common.{ℤ, refl, ap, ◌∙◌, arith}
use Rattle.std.proofs.lemmas.Bool.Decides.{nat_tests}
use Rattle.std.specs.Ordering.{int_eq}
use Rattle.std.specs.Prelude.{int_lt, nat_lt, ⊤}
use Rattle.line_devices.specs.Lines.{lines_of}
use Rattle.line_counts.specs.Counting.{Counting, empty_count, most}
use Rattle.line_counts.specs.Counts.{Counted, bucket_at, count_end, count_input, count_line, count_lines, instant_at}
use Rattle.line_counts.specs.Counts.{empty_rows, empty_run, ended_rows, first_tally, last_row}
use Rattle.line_counts.specs.Counts.{one_more, row_after, rows_by, tally_at, tally_by}
use Rattle.line_counts.specs.Laws.{lines_in, marks, one_if_in, row_marks, with_marks}
use Rattle.line_counts.specs.declared.tallies.Row.{Row}
use Rattle.line_counts.specs.declared.tallies.Tally.{Tally}
use Rattle.line_counts.proofs.CountLemmas.{ended_lines, first_of}

length-marks : (n : ℕ) → length (marks n) ≡ n
unfolding marks
length-marks zero = refl
length-marks (suc n) = ap suc (length-marks n)

-- the lines of a row that count for a bucket
abbrev lines_of_row : ℤ → Option Row → ℕ
lines_of_row bucket None = 0
lines_of_row bucket (Some row) = cond (int_eq row.start bucket) row.count 0

marks_if : (b : Bool) (count : ℕ) → length (cond b (marks count) []) ≡ cond b count 0
marks_if true count = length-marks count
marks_if false count = refl

no_marks : (b : Bool) → length (cond b (marks 0) []) ≡ 0
no_marks true = length-marks 0
no_marks false = refl

empty_if : (b d : Bool) (rest : List ℕ) → length rest ≡ 0 → length (cond b (cond d (marks 0) [] ++ rest) []) ≡ 0
empty_if true d rest e = length-append (cond d (marks 0) []) rest ∙ omega (arith, no_marks d, e)
empty_if false d rest e = refl

length-empty_rows : {M : Type 0} (c : Counting M) (bucket : ℤ) (n : ℕ) (from to : ℤ) → length (empty_rows (with_marks c bucket) n from to) ≡ 0
unfolding empty_rows
length-empty_rows c bucket zero from to = refl
length-empty_rows c bucket (suc n) from to =
    empty_if (int_lt from to) (int_eq from bucket) (empty_rows (with_marks c bucket) n (c.next from) to) (length-empty_rows c bucket n (c.next from) to)

no_more : (b : Bool) (rest : List ℕ) → length rest ≡ 0 → length (cond b [] rest) ≡ 0
no_more true rest e = refl
no_more false rest e = e

length-empty_run : {M : Type 0} (c : Counting M) (bucket from to : ℤ) → length (empty_run (with_marks c bucket) from to) ≡ 0
length-empty_run c bucket from to =
    no_more (nat_lt c.most_empty (empty_count c.next most from to)) (empty_rows (with_marks c bucket) most from to) (length-empty_rows c bucket most from to)

length-last_row : {M : Type 0} (c : Counting M) (bucket : ℤ) (row : Option Row) → length (last_row (with_marks c bucket) row) ≡ lines_of_row bucket row
length-last_row c bucket None = refl
length-last_row c bucket (Some row) = marks_if (int_eq row.start bucket) row.count

-- a row of at most so many lines
abbrev HasAtMost : Option Row → ℕ → Type 0
HasAtMost None n = ⊤
HasAtMost (Some row) n = row.count ≤ n

one_more-below : (n k : ℕ) → n ≤ k → suc k ≤ most → one_more n ≡ n + 1
one_more-below n k low high = grind (arith, nat_tests)

int_eq-is : (a b : ℤ) → int_eq a b ≡ true → a ≡ b
int_eq-is a b e = grind (arith, nat_tests)

counts : (b : Bool) (n : ℕ) → 0 + cond b (n + 1) 0 ≡ cond b n 0 + cond b 1 0
counts true n = omega arith
counts false n = omega arith

-- a line in the bucket of the row, or in another
row_grows : {M : Type 0} (c : Counting M) (bucket start : ℤ) (row : Row) (same : Bool) (k : ℕ) → row.count ≤ k → suc k ≤ most → int_eq row.start start ≡ same
    → length (cond same [] ((with_marks c bucket).row row.start row.count ++ empty_run (with_marks c bucket) (c.next row.start) start))
    + lines_of_row bucket (Some (cond same (record { start = start; count = one_more row.count }) (record { start = start; count = 1 })))
    ≡ lines_of_row bucket (Some row) + cond (int_eq start bucket) 1 0
row_grows c bucket start row true k low high e =
    let is = int_eq-is row.start start e in
    let more = one_more-below row.count k low high in
    rw (is, more) (counts (int_eq start bucket) row.count)
row_grows c bucket start row false k low high e =
    let first = marks_if (int_eq row.start bucket) row.count in
    let rest = length-empty_run c bucket (c.next row.start) start in
    let all = length-append (row_marks bucket row.start row.count) (empty_run (with_marks c bucket) (c.next row.start) start) in
    omega (arith, all, first, rest)

row_adds : {M : Type 0} (c : Counting M) (bucket : ℤ) (row : Option Row) (start : ℤ) (k : ℕ) → HasAtMost row k → suc k ≤ most
    → length (ended_rows (with_marks c bucket) row start) + lines_of_row bucket (Some (row_after row start))
    ≡ lines_of_row bucket row + cond (int_eq start bucket) 1 0
row_adds c bucket None start k low high = refl
row_adds c bucket (Some row) start k low high = row_grows c bucket start row (int_eq row.start start) k low high refl

-- a line, by its bucket
line_adds : {M : Type 0} (c : Counting M) (bucket : ℤ) (tally : Tally M) (own : Option ℤ) (k : ℕ) → HasAtMost tally.row k → suc k ≤ most
    → length (rows_by (with_marks c bucket) tally.row own) + lines_of_row bucket (tally_by tally own).row ≡ lines_of_row bucket tally.row + one_if_in bucket own
line_adds c bucket tally None k low high = omega arith
line_adds c bucket tally (Some start) k low high = row_adds c bucket tally.row start k low high

-- the row after a line has one line more at most
at_most : (row : Row) (start : ℤ) (same : Bool) (k : ℕ) → row.count ≤ k → suc k ≤ most
    → (cond {A = Row} same (record { start = start; count = one_more row.count }) (record { start = start; count = 1 })).count ≤ suc k
at_most row start true k low high = let more = one_more-below row.count k low high in omega (arith, more, low)
at_most row start false k low high = omega arith

larger : (row : Option Row) (k : ℕ) → HasAtMost row k → HasAtMost row (suc k)
larger None k low = tt
larger (Some row) k low = omega (arith, low)

after_at_most : (row : Option Row) (start : ℤ) (k : ℕ) → HasAtMost row k → suc k ≤ most → (row_after row start).count ≤ suc k
after_at_most None start k low high = omega arith
after_at_most (Some row) start k low high = at_most row start (int_eq row.start start) k low high

row_at_most : {M : Type 0} (tally : Tally M) (own : Option ℤ) (k : ℕ) → HasAtMost tally.row k → suc k ≤ most → HasAtMost (tally_by tally own).row (suc k)
row_at_most tally None k low high = larger tally.row k low
row_at_most tally (Some start) k low high = after_at_most tally.row start k low high

one_later : {M : Type 0} (tally : Tally M) (bucket : Option ℤ) → (tally_by tally bucket).lines ≡ one_more tally.lines
one_later tally None = refl
one_later tally (Some start) = refl

memory_kept : {M : Type 0} (tally : Tally M) (bucket : Option ℤ) → (tally_by tally bucket).memory ≡ tally.memory
memory_kept tally None = refl
memory_kept tally (Some start) = refl

-- the last instant stays
last_kept : {M : Type 0} (tally : Tally M) (bucket : Option ℤ) → (tally_by tally bucket).last ≡ tally.last
last_kept tally None = refl
last_kept tally (Some start) = refl

-- no line is left
ended-none : {M : Type 0} (c : Counting M) (tally : Tally M) → ended_lines c false tally [] ≡ count_end c tally
unfolding count_lines
ended-none c tally = refl

-- lines, after a tally
all_add : {M : Type 0} (c : Counting M) (bucket : ℤ) (tally : Tally M) (lines : List (List ℕ)) (k : ℕ) → HasAtMost tally.row k → k + length lines ≤ most
    → length (ended_lines (with_marks c bucket) false tally lines).text ≡ lines_of_row bucket tally.row
    + lines_in c bucket tally.memory tally.lines tally.last lines
unfolding count_line lines_in
all_add {M} c bucket tally [] k low high =
    let last = ap (λ (z : Counted M). length z.text) (ended-none (with_marks c bucket) tally) ∙ length-last_row c bucket tally.row in omega (arith, last)
all_add {M} c bucket tally (line ∷ lines) k low high =
    let own = instant_at c tally line in
    let at = tally_at c tally line own in
    let start = bucket_at c own in
    let after = tally_by at start in
    let rows = rows_by (with_marks c bucket) at.row start in
    let next : suc k ≤ most = omega (arith, high) in
    let whole = ap (λ (z : Counted M). length z.text) (first_of (with_marks c bucket) false tally line lines)
    ∙ length-append rows (ended_lines (with_marks c bucket) false after lines).text in
    let more = all_add c bucket after lines (suc k) (row_at_most at start k low next) (omega (arith, high)) in
    let rest = more ∙ ap (λ (z : M). lines_of_row bucket after.row + lines_in c bucket z after.lines after.last lines) (memory_kept at start)
    ∙ ap (λ (z : ℕ). lines_of_row bucket after.row + lines_in c bucket at.memory z after.last lines) (one_later at start)
    ∙ ap (λ (z : Option ℤ). lines_of_row bucket after.row + lines_in c bucket at.memory (one_more tally.lines) z lines) (last_kept at start) in
    let first = line_adds c bucket at start k low next in
    whole ∙ omega (arith, rest, first)

input-lines : {M : Type 0} (c : Counting M) (input : List ℕ) → count_input c false input ≡ ended_lines c false (first_tally c) (lines_of input)
unfolding count_input
input-lines c input = refl

pub counts-add_up : {M : Type 0} (c : Counting M) (bucket : ℤ) (input : List ℕ) → length (lines_of input) ≤ most
    → length (count_input (with_marks c bucket) false input).text ≡ lines_in c bucket c.memory 0 None (lines_of input)
counts-add_up {M} c bucket input few =
    let sum = ap (λ (z : Counted M). length z.text) (input-lines (with_marks c bucket) input)
    ∙ all_add c bucket (first_tally c) (lines_of input) 0 tt (omega (arith, few)) in
    omega (arith, sum)
