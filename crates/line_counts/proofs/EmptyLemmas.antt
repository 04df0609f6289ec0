-- A number in place of rows is that of the buckets without lines there.
use Rattle.std.proofs.Common.{◌≡◌, ℕ, zero, suc, Bool, true, false, cond, List, [], ◌∷◌, ◌++◌, Option, Some, None, Ok, ℤ, refl, sym, ap, ◌∙◌}
use Rattle.std.specs.Ordering.{int_eq}
use Rattle.std.specs.Prelude.{int_lt, nat_lt}
use Rattle.line_devices.specs.Lines.{lines_of}
use Rattle.line_counts.specs.Counting.{Counting, empty_count, most}
use Rattle.line_counts.specs.Counts.{Counted, bucket_at, count_by, count_end, count_input, count_line, count_lines, empty_rows, empty_run, ended_rows}
use Rattle.line_counts.specs.Counts.{fault_of, first_tally, instant_at, outcome, rows_by, rows_to, tally_at, tally_by, then_on}
use Rattle.line_counts.specs.Laws.{marks, with_empty_marks}
use Rattle.line_counts.specs.declared.tallies.CountFault.{CountFault}
use Rattle.line_counts.specs.declared.tallies.Row.{Row}
use Rattle.line_counts.specs.declared.tallies.Tally.{Tally}
use Rattle.line_counts.proofs.CountLemmas.{then_on-same}

one_more_mark : (b : Bool) (rest : List ℕ) (k : ℕ) → rest ≡ marks k → cond b (marks 1 ++ rest) [] ≡ marks (cond b (suc k) 0)
unfolding marks
one_more_mark true rest k e = ap (λ (z : List ℕ). 0 ∷ z) e
one_more_mark false rest k e = refl

-- each row is a mark
empty_rows-marks : {M : Type 0} (c : Counting M) (m n : ℕ) (from to : ℤ) → empty_rows (with_empty_marks c m) n from to ≡ marks (empty_count c.next n from to)
unfolding empty_rows empty_count marks
empty_rows-marks c m zero from to = refl
empty_rows-marks c m (suc n) from to =
    one_more_mark (int_lt from to) (empty_rows (with_empty_marks c m) n (c.next from) to) (empty_count c.next n (c.next from) to)
    (empty_rows-marks c m n (c.next from) to)

either_way : (b : Bool) (k : ℕ) (rest : List ℕ) → rest ≡ marks k → cond b (marks k) rest ≡ marks k
either_way true k rest e = refl
either_way false k rest e = e

empty_run-marks : {M : Type 0} (c : Counting M) (m : ℕ) (from to : ℤ) → empty_run (with_empty_marks c m) from to ≡ marks (empty_count c.next most from to)
empty_run-marks c m from to =
    let count = empty_count c.next most from to in
    either_way (nat_lt m count) count (empty_rows (with_empty_marks c m) most from to) (empty_rows-marks c m most from to)

rows_to-same : {M : Type 0} (c : Counting M) (m n : ℕ) (row : Row) (to : ℤ) → rows_to (with_empty_marks c m) row to ≡ rows_to (with_empty_marks c n) row to
rows_to-same c m n row to =
    ap (λ (z : List ℕ). (with_empty_marks c m).row row.start row.count ++ z)
    (empty_run-marks c m (c.next row.start) to ∙ sym (empty_run-marks c n (c.next row.start) to))

ended_rows-same : {M : Type 0} (c : Counting M) (m n : ℕ) (row : Option Row) (start : ℤ)
    → ended_rows (with_empty_marks c m) row start ≡ ended_rows (with_empty_marks c n) row start
ended_rows-same c m n None start = refl
ended_rows-same c m n (Some row) start = ap (λ (z : List ℕ). cond (int_eq row.start start) [] z) (rows_to-same c m n row start)

rows_by-same : {M : Type 0} (c : Counting M) (m n : ℕ) (row : Option Row) (bucket : Option ℤ)
    → rows_by (with_empty_marks c m) row bucket ≡ rows_by (with_empty_marks c n) row bucket
rows_by-same c m n row None = refl
rows_by-same c m n row (Some start) = ended_rows-same c m n row start

count_by-same : {M : Type 0} (c : Counting M) (m n : ℕ) (fault : Option CountFault) (tally : Tally M) (bucket : Option ℤ)
    → count_by (with_empty_marks c m) fault tally bucket ≡ count_by (with_empty_marks c n) fault tally bucket
count_by-same c m n (Some fault) tally bucket = refl
count_by-same c m n None tally bucket = ap (λ (z : List ℕ). outcome z (Ok (tally_by tally bucket))) (rows_by-same c m n tally.row bucket)

count_line-same : {M : Type 0} (c : Counting M) (m n : ℕ) (s : Bool) (tally : Tally M) (line : List ℕ)
    → count_line (with_empty_marks c m) s tally line ≡ count_line (with_empty_marks c n) s tally line
unfolding count_line
count_line-same c m n s tally line =
    let own = instant_at c tally line in
    let at = tally_at c tally line own in
    let bucket = bucket_at c own in
    count_by-same c m n (fault_of s at bucket) at bucket

count_lines-same : {M : Type 0} (c : Counting M) (m n : ℕ) (s : Bool) (tally : Tally M) (lines : List (List ℕ))
    → count_lines (with_empty_marks c m) s tally lines ≡ count_lines (with_empty_marks c n) s tally lines
unfolding count_lines
count_lines-same c m n s tally [] = refl
count_lines-same {M} c m n s tally (line ∷ lines) =
    let first = count_line (with_empty_marks c m) s tally line in
    then_on-same first.text first.end (λ next. count_lines (with_empty_marks c m) s next lines)
    (λ next. count_lines (with_empty_marks c n) s next lines) (λ next. count_lines-same c m n s next lines)
    ∙ ap (λ (z : Counted M). then_on z.text z.end (λ next. count_lines (with_empty_marks c n) s next lines)) (count_line-same c m n s tally line)

pub empty-runs_add_up : {M : Type 0} (c : Counting M) (s : Bool) (m : ℕ) (input : List ℕ)
    → count_input (with_empty_marks c m) s input ≡ count_input (with_empty_marks c most) s input
unfolding count_input
empty-runs_add_up {M} c s m input =
    ap (λ (z : Counted M). then_on z.text z.end (count_end (with_empty_marks c m))) (count_lines-same c m most s (first_tally c) (lines_of input))
