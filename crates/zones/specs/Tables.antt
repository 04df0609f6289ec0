-- Tables of transitions, in Unix seconds.
use Rattle.std.specs.Prelude.{◌≡◌, ℕ, ◌+◌, ◌-◌, ◌<◌, ◌≤◌, ◌==◌, false, if◌then◌else◌, ℤ, pos, ◌+ℤ◌, ◌≤ℤ◌, ◌<ℤ◌, int_le, List, length, get_or, Option, Some}
use Rattle.std.specs.Prelude.{None}
use Rattle.std.specs.Int.{int_min, int_max}
use Rattle.std.specs.List.{prefix_len}
use Rattle.calendar_values.specs.Offsets.{IsOffset}
use Rattle.zones.specs.Clocks.{IsTypeAt}
use Rattle.zones.specs.Ranges.{IsTailSecond}
use Rattle.zones.specs.Seconds.{IsSecond}
use Rattle.zones.specs.declared.time_type.TimeType.{TimeType}
use Rattle.zones.specs.declared.transition.Transition.{Transition}

-- the wall clock where the gap or the fold of a transition starts, and where it has ended
abbrev pub row_start : Transition → ℤ
row_start r = r.second +ℤ int_min r.before.offset r.after.offset

abbrev pub row_end : Transition → ℤ
row_end r = r.second +ℤ int_max r.before.offset r.after.offset

-- 0 is a second, and an offset
pub zero_is_second : IsTailSecond (pos 0)
zero_is_second = (Prim.search, Prim.search)

pub zero_is_offset : IsOffset (pos 0)
zero_is_offset = (Prim.search, Prim.search)

-- what stands for a kind of local time, and for a row, past the end of a table
abbrev pub no_type : TimeType
no_type = record {
  offset = pos 0;
  is_daylight = false;
  designation = 0;
  offset_in = zero_is_offset;
}

abbrev pub no_row : Transition
no_row = record {
  second = pos 0;
  before = no_type;
  after = no_type;
  second_in = zero_is_second;
}

-- the row at a place
abbrev pub row_at : List Transition → ℕ → Transition
row_at rows k = get_or rows k no_row

-- the kind of local time after that many transitions, and its offset
abbrev pub type_after : TimeType → List Transition → ℕ → TimeType
type_after first rows count = if count == 0 then first else (row_at rows (count - 1)).after

abbrev pub offset_after : TimeType → List Transition → ℕ → ℤ
offset_after first rows count = (type_after first rows count).offset

-- the second of the transition at a place, if the table has one
abbrev pub table_second : List Transition → ℕ → ℤ
table_second rows k = (row_at rows k).second

abbrev pub InTable : List Transition → ℕ → Type 0
InTable rows k = k < length rows

-- the row before that many, if any
abbrev pub row_before : List Transition → ℕ → Option Transition
row_before rows count = if count == 0 then None else Some (row_at rows (count - 1))

-- a table that runs forward: each transition lies in range, starts from the kind that the one before it left, lies after it,
-- and its gap or fold starts no earlier than the gap or the fold before it ends
pub record IsForward (first : TimeType) (rows : List Transition) : Type 0 where
  pub in_range : (k : ℕ) → k < length rows → IsSecond (row_at rows k).second
  pub goes_on : (k : ℕ) → k < length rows → (row_at rows k).before ≡ type_after first rows k
  pub rises : (k : ℕ) → k + 1 < length rows → (row_at rows k).second <ℤ (row_at rows (k + 1)).second
  pub apart : (k : ℕ) → k + 1 < length rows → row_end (row_at rows k) ≤ℤ row_start (row_at rows (k + 1))

-- a row goes on from the one before it
pub record Follows (first : TimeType) (rows : List Transition) (k : ℕ) : Type 0 where
  pub in_range : IsSecond (row_at rows k).second
  pub goes_on : (row_at rows k).before ≡ type_after first rows k
  pub rises : (j : ℕ) → j + 1 ≡ k → (row_at rows j).second <ℤ (row_at rows k).second
  pub apart : (j : ℕ) → j + 1 ≡ k → row_end (row_at rows j) ≤ℤ row_start (row_at rows k)

-- this many rows go on, and the row at that place, if any, does not
pub record GoesOnTo (first : TimeType) (rows : List Transition) (count : ℕ) : Type 0 where
  pub bound : count ≤ length rows
  pub go_on : (k : ℕ) → k < count → Follows first rows k
  pub ends : count < length rows → Follows first rows count → ⊥

-- how many transitions lie at or before the second
abbrev pub count_at : List Transition → ℤ → ℕ
count_at rows second = prefix_len (λ r. int_le r.second second) rows

-- how many gaps and folds start at or before the wall clock
abbrev pub start_count_at : List Transition → ℤ → ℕ
start_count_at rows local = prefix_len (λ r. int_le (row_start r) local) rows

-- the kind of local time at a second: that after the last transition at or before it
abbrev pub IsTableType : TimeType → List Transition → ℤ → TimeType → Type 0
IsTableType first rows second found = IsTypeAt (InTable rows) (table_second rows) (type_after first rows) second found

-- the gap or the fold of the last row has ended at the wall clock
abbrev pub IsClear : List Transition → ℤ → Type 0
IsClear rows local = (k : ℕ) → k + 1 ≡ length rows → row_end (row_at rows k) ≤ℤ local
