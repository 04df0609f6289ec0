-- Laws of counts. A function of `src/laws.rt` proves each of them.
use Rattle.std.specs.Prelude.{◌≡◌, ℕ, zero, suc, ◌+◌, ◌≤◌, ◌==◌, Bool, false, is_some, List, [], ◌∷◌, length, if◌then◌else◌, ℤ, Option, Some, None}
use Rattle.std.specs.Option.{option_or}
use Rattle.std.specs.Ordering.{int_eq}
use Rattle.line_devices.specs.Lines.{lines_of}
use Rattle.line_devices.specs.StampTallies.{kind_of}
use Rattle.line_counts.specs.Counting.{Counting, most}
use Rattle.line_counts.specs.Counts.{bucket_at, count_input, one_more}

-- this number of bytes
unfoldable pub marks : ℕ → List ℕ
marks zero = []
marks (suc more) = 0 ∷ marks more

-- a row of as many bytes as it has lines, if it is of one bucket, and else of none
abbrev pub row_marks : ℤ → ℤ → ℕ → List ℕ
row_marks bucket start count = if int_eq start bucket then marks count else []

-- the same count with such rows: its output has as many bytes as the rows of that bucket have lines together
abbrev pub with_marks : {M : Type 0} → Counting M → ℤ → Counting M
with_marks counting bucket = record {
  memory = counting.memory;
  instant = counting.instant;
  after = counting.after;
  bucket = counting.bucket;
  next = counting.next;
  row = row_marks bucket;
  most_empty = counting.most_empty;
  in_place = λ count. [];
}

-- 1 for a line of a bucket, and 0 for another
abbrev pub one_if_in : ℤ → Option ℤ → ℕ
one_if_in bucket None = 0
one_if_in bucket (Some start) = if int_eq start bucket then 1 else 0

-- the number of the lines of a bucket, after so many lines, of which this is known and this is the last instant
unfoldable pub lines_in : {M : Type 0} → Counting M → ℤ → M → ℕ → Option ℤ → List (List ℕ) → ℕ
lines_in counting bucket memory number last [] = 0
lines_in counting bucket memory number last (line ∷ lines) =
    let own = counting.instant memory last (number == 0) line in
    let next = counting.after memory (one_more number) (kind_of line (is_some own)) line in
    one_if_in bucket (bucket_at counting own) + lines_in counting bucket next (one_more number) (option_or own last) lines

-- the rows of a bucket have together as many lines as the input has in that bucket, whatever the order of the lines
abbrev pub CountsAddUp : Type 0 → Type 0
CountsAddUp M =
    (counting : Counting M) (bucket : ℤ) (input : List ℕ) → length (lines_of input) ≤ most
    → length (count_input (with_marks counting bucket) false input).text ≡ lines_in counting bucket counting.memory 0 None (lines_of input)

-- as many bytes for buckets without lines as there are, where this number of them one after another have rows, and none for others
abbrev pub with_empty_marks : {M : Type 0} → Counting M → ℕ → Counting M
with_empty_marks counting most_empty = record {
  memory = counting.memory;
  instant = counting.instant;
  after = counting.after;
  bucket = counting.bucket;
  next = counting.next;
  row = λ start count. marks (if count == 0 then 1 else 0);
  most_empty = most_empty;
  in_place = marks;
}

-- a number in place of rows is that of the buckets without lines there: whatever number of them have rows, they are as many in all
abbrev pub EmptyRunsAddUp : Type 0 → Type 0
EmptyRunsAddUp M =
    (counting : Counting M) (is_strict : Bool) (most_empty : ℕ) (input : List ℕ)
    → count_input (with_empty_marks counting most_empty) is_strict input ≡ count_input (with_empty_marks counting most) is_strict input
