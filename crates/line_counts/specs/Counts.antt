-- The rows of an input: a run of lines of one bucket has a row, and so has each bucket without lines before the next one, unless these
-- are more than have rows. A text with their number is in place of those rows.
use Rattle.std.specs.Prelude.{ℕ, suc, zero, ◌+◌, ◌==◌, Bool, true, false, min, nat_lt, List, [], ◌∷◌, ◌++◌, if◌then◌else◌, ℤ, int_lt, Option}
use Rattle.std.specs.Prelude.{Some, None, is_some, Result, Ok, Err}
use Rattle.std.specs.Option.{option_and_then, option_or}
use Rattle.std.specs.Ordering.{int_eq}
use Rattle.line_devices.specs.Lines.{lines_of, whole_lines_of}
use Rattle.line_devices.specs.StampTallies.{kind_of}
use Rattle.line_devices.specs.StampTallies as stamp_tallies
use Rattle.line_counts.specs.Counting.{Counting, empty_count, most}
use Rattle.line_counts.specs.declared.tallies.CountFault.{CountFault}
use Rattle.line_counts.specs.declared.tallies.CountFault.TheVariants.{Missing, Back}
use Rattle.line_counts.specs.declared.tallies.Row.{Row}
use Rattle.line_counts.specs.declared.tallies.Tally.{Tally}

-- one more, up to the greatest count
abbrev pub one_more : ℕ → ℕ
one_more count = min (count + 1) most

-- the tally before the first line
abbrev pub first_tally : {M : Type 0} → Counting M → Tally M
first_tally counting =
    record { lines = 0; last = None; row = None; back = None; stamps = stamp_tallies.first_tally; memory = counting.memory }

-- at most this number of rows without lines, from a bucket on and before another
unfoldable pub empty_rows : {M : Type 0} → Counting M → ℕ → ℤ → ℤ → List ℕ
empty_rows counting zero from to = []
empty_rows counting (suc more) from to =
    if int_lt from to then counting.row from 0 ++ empty_rows counting more (counting.next from) to else []

-- what is written of a number of buckets without lines, from one on and before another: their rows, or the text in their place
abbrev pub empty_by : {M : Type 0} → Counting M → ℕ → ℤ → ℤ → List ℕ
empty_by counting count from to = if nat_lt counting.most_empty count then counting.in_place count else empty_rows counting most from to

-- the buckets without lines, from one on and before another
abbrev pub empty_run : {M : Type 0} → Counting M → ℤ → ℤ → List ℕ
empty_run counting from to = empty_by counting (empty_count counting.next most from to) from to

-- a row, and the buckets without lines between it and a line of another bucket
abbrev pub rows_to : {M : Type 0} → Counting M → Row → ℤ → List ℕ
rows_to counting row to = counting.row row.start row.count ++ empty_run counting (counting.next row.start) to

-- the rows that a line of a bucket ends: those before its own, unless the row has that bucket
abbrev pub ended_rows : {M : Type 0} → Counting M → Option Row → ℤ → List ℕ
ended_rows counting None start = []
ended_rows counting (Some row) start = if int_eq row.start start then [] else rows_to counting row start

-- the last row
abbrev pub last_row : {M : Type 0} → Counting M → Option Row → List ℕ
last_row counting None = []
last_row counting (Some row) = counting.row row.start row.count

-- the row after a line of a bucket
abbrev pub row_after : Option Row → ℤ → Row
row_after None start = record { start = start; count = 1 }
row_after (Some row) start =
    if int_eq row.start start then record { start = start; count = one_more row.count } else record { start = start; count = 1 }

-- whether a bucket is before that of the row
abbrev pub goes_back : Option Row → ℤ → Bool
goes_back None start = false
goes_back (Some row) start = int_lt start row.start

-- the text for a line, and the tally after it or the fault that ends the run
pub record Counted (M : Type 0) : Type 0 where
  pub text : List ℕ
  pub end : Result (Tally M) CountFault

abbrev pub outcome : {M : Type 0} → List ℕ → Result (Tally M) CountFault → Counted M
outcome text end = record { text = text; end = end }

-- the number of the line after a tally
abbrev pub next_line : {M : Type 0} → Tally M → ℕ
next_line tally = one_more tally.lines

-- the number of a line that goes back
abbrev pub back_of : Bool → ℕ → Option ℕ
back_of true line = Some line
back_of false line = None

-- the tally after a line of a bucket
abbrev pub tally_after : {M : Type 0} → Tally M → ℤ → Tally M
tally_after tally start = record {
  lines = next_line tally;
  last = tally.last;
  row = Some (row_after tally.row start);
  back = option_or tally.back (back_of (goes_back tally.row start) (next_line tally));
  stamps = tally.stamps;
  memory = tally.memory;
}

-- the tally after a line without a bucket
abbrev pub tally_passed : {M : Type 0} → Tally M → Tally M
tally_passed tally = record tally { lines = next_line tally }

-- the fault of a line if the run is strict: it has no bucket, or goes back
abbrev pub fault_of : {M : Type 0} → Bool → Tally M → Option ℤ → Option CountFault
fault_of false tally bucket = None
fault_of true tally None = Some (Missing (next_line tally))
fault_of true tally (Some start) = if goes_back tally.row start then Some (Back (next_line tally)) else None

-- the rows that a line ends, by its bucket
abbrev pub rows_by : {M : Type 0} → Counting M → Option Row → Option ℤ → List ℕ
rows_by counting row None = []
rows_by counting row (Some start) = ended_rows counting row start

-- the tally after a line, by its bucket
abbrev pub tally_by : {M : Type 0} → Tally M → Option ℤ → Tally M
tally_by tally None = tally_passed tally
tally_by tally (Some start) = tally_after tally start

-- a line, by its fault: that comes after the last row
abbrev pub count_by : {M : Type 0} → Counting M → Option CountFault → Tally M → Option ℤ → Counted M
count_by counting (Some fault) tally bucket = outcome (last_row counting tally.row) (Err fault)
count_by counting None tally bucket = outcome (rows_by counting tally.row bucket) (Ok (tally_by tally bucket))

-- the instant of the next line
abbrev pub instant_at : {M : Type 0} → Counting M → Tally M → List ℕ → Option ℤ
instant_at counting tally line = counting.instant tally.memory tally.last (tally.lines == 0) line

-- the bucket of a line, by its instant
abbrev pub bucket_at : {M : Type 0} → Counting M → Option ℤ → Option ℤ
bucket_at counting own = option_and_then counting.bucket own

-- the tally at a line of an instant, which is the last one from then on
abbrev pub tally_at : {M : Type 0} → Counting M → Tally M → List ℕ → Option ℤ → Tally M
tally_at counting tally line own = record tally {
  last = option_or own tally.last;
  stamps = stamp_tallies.tally_after tally.stamps (next_line tally) (kind_of line (is_some own));
  memory = counting.after tally.memory (next_line tally) (kind_of line (is_some own)) line;
}

-- a line, by its instant
abbrev pub count_own : {M : Type 0} → Counting M → Bool → Tally M → List ℕ → Option ℤ → Counted M
count_own counting is_strict tally line own =
    let at = tally_at counting tally line own in
    let bucket = bucket_at counting own in
    count_by counting (fault_of is_strict at bucket) at bucket

-- a line
unfoldable pub count_line : {M : Type 0} → Counting M → Bool → Tally M → List ℕ → Counted M
count_line counting is_strict tally line = count_own counting is_strict tally line (instant_at counting tally line)

-- what follows a text
abbrev pub then_on : {M : Type 0} → List ℕ → Result (Tally M) CountFault → (Tally M → Counted M) → Counted M
then_on text (Ok tally) next = outcome (text ++ (next tally).text) (next tally).end
then_on text (Err fault) next = outcome text (Err fault)

-- lines, one after another
unfoldable pub count_lines : {M : Type 0} → Counting M → Bool → Tally M → List (List ℕ) → Counted M
count_lines counting is_strict tally [] = outcome [] (Ok tally)
count_lines counting is_strict tally (line ∷ lines) =
    let first = count_line counting is_strict tally line in then_on first.text first.end (λ next. count_lines counting is_strict next lines)

-- the end of the input, after its last row
abbrev pub count_end : {M : Type 0} → Counting M → Tally M → Counted M
count_end counting tally = outcome (last_row counting tally.row) (Ok tally)

-- an input: its lines, and its end
unfoldable pub count_input : {M : Type 0} → Counting M → Bool → List ℕ → Counted M
count_input counting is_strict input =
    let lines = count_lines counting is_strict (first_tally counting) (lines_of input) in then_on lines.text lines.end (count_end counting)

-- the bytes that were read, while more may follow: the lines that ended
unfoldable pub count_open : {M : Type 0} → Counting M → Bool → List ℕ → Counted M
count_open counting is_strict taken = count_lines counting is_strict (first_tally counting) (whole_lines_of taken)
