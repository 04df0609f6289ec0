-- Laws of the rows without lines. A function of `src/laws.rt` proves each of them.
use Rattle.std.specs.Prelude.{◌≡◌, ℕ, zero, suc, ◌<◌, ◌≤◌, false, true, List, [], ◌∷◌, ◌++◌, map, ℤ, int_lt, Some}
use Rattle.std.specs.List.{concat}
use Rattle.std.specs.Ordering.{int_eq}
use Rattle.line_counts.specs.Counting.{Counting, most}
use Rattle.line_counts.specs.Counts.{ended_rows}
use Rattle.line_counts.specs.declared.tallies.Row.{Row}

-- this number of buckets one after another, from one on
unfoldable pub buckets_from : (ℤ → ℤ) → ℕ → ℤ → List ℤ
buckets_from next zero from = []
buckets_from next (suc more) from = from ∷ buckets_from next more (next from)

-- the bucket this number of buckets after one
unfoldable pub bucket_after : (ℤ → ℤ) → ℕ → ℤ → ℤ
bucket_after next zero from = from
bucket_after next (suc more) from = bucket_after next more (next from)

-- this number of buckets are before a bucket, and the one after them is not: there are no others between
pub record AreAllBefore (next : ℤ → ℤ) (count : ℕ) (from to : ℤ) : Type 0 where
  pub before : (k : ℕ) → k < count → int_lt (bucket_after next k from) to ≡ true
  pub reached : int_lt (bucket_after next count from) to ≡ false

-- a row of 0 for each of the buckets from one on
abbrev pub rows_of_none : {M : Type 0} → Counting M → ℕ → ℤ → List ℕ
rows_of_none counting count from = concat (map (λ bucket. counting.row bucket 0) (buckets_from counting.next count from))

-- a line of another bucket ends the row, and each bucket between has a row of 0, in their order, so that none is left out. If these are more
-- than have rows, the text in their place has their number
pub record RowsLeaveNoneOut {M : Type 0} (counting : Counting M) (row : Row) (start : ℤ) (count : ℕ) : Type 0 where
  pub rows : count ≤ counting.most_empty
      → ended_rows counting (Some row) start ≡ counting.row row.start row.count ++ rows_of_none counting count (counting.next row.start)
  pub in_place : counting.most_empty < count
      → ended_rows counting (Some row) start ≡ counting.row row.start row.count ++ counting.in_place count

-- each row that a line ends does
abbrev pub NoRowIsLeftOut : Type 0 → Type 0
NoRowIsLeftOut M =
    (counting : Counting M) (row : Row) (start : ℤ) (count : ℕ) → count ≤ most → int_eq row.start start ≡ false
    → AreAllBefore counting.next count (counting.next row.start) start → RowsLeaveNoneOut counting row start count
