-- How lines are put into buckets, and how rows are written.
use Rattle.std.specs.Prelude.{ℕ, suc, zero, ◌-◌, ◌^◌, Bool, List, ℤ, int_lt, Option, if◌then◌else◌}
use Rattle.line_devices.specs.declared.stamp_tallies.LineKind.{LineKind}

-- what is known before the first line; the instant of a line, if it has one: by what is known of the lines before it, by the last instant
-- before it, by whether it is the first line, and by its bytes; what is known after a line, by what was known before it, by its number, by
-- how it counts, and by its bytes; the bucket of
-- an instant, if it has one: the instant at which the bucket starts; the bucket after a bucket; the text of a row, of a bucket and the
-- number of its lines; the most buckets without lines one after another that have rows; the text in place of the rows of more, by their
-- number
pub record Counting (M : Type 0) : Type 0 where
  pub memory : M
  pub instant : M → Option ℤ → Bool → List ℕ → Option ℤ
  pub after : M → ℕ → LineKind → List ℕ → M
  pub bucket : ℤ → Option ℤ
  pub next : ℤ → ℤ
  pub row : ℤ → ℕ → List ℕ
  pub most_empty : ℕ
  pub in_place : ℕ → List ℕ

-- the greatest count
abbrev pub most : ℕ
most = 2 ^ 64 - 1

-- the number of the buckets from one on and before another, at most this one
unfoldable pub empty_count : (ℤ → ℤ) → ℕ → ℤ → ℤ → ℕ
empty_count next zero from to = 0
empty_count next (suc more) from to = if int_lt from to then suc (empty_count next more (next from) to) else 0
