-- Tables as sequences.
use Rattle.std.proofs.Common.{◌≡◌, ℕ, ◌+◌, ◌-◌, ◌≤◌, ◌<◌, ◌==◌, true, false, ℤ, ◌≤ℤ◌, ◌<ℤ◌, int_le, List, length, Option, Some, None, inl, inr, refl, sym}
use Rattle.std.proofs.Common.{ap, subst, arith}
use Rattle.std.proofs.lemmas.Bool.Decides.{leb_tells, nat_tests}
use Rattle.std.proofs.lemmas.Int.{clamps}
use Rattle.std.proofs.lemmas.List.Sums.{prefix_len_is, prefix_len_passes, prefix_len_stops, prefix_len-le-length}
use borrow.Author.Differences.{le-true, le-false}
use Rattle.calendar_values.specs.SignedArith.{signed_arith}
use Rattle.zones.specs.declared.time_type.TimeType.{TimeType}
use Rattle.zones.specs.declared.transition.Transition.{Transition}
use Rattle.zones.specs.Tables.{row_at, row_start, row_end, type_after, offset_after, table_second, InTable, count_at, start_count_at, IsForward, GoesOnTo}
use Rattle.zones.specs.Tables.{no_row, row_before}
use Rattle.zones.specs.Clocks.{Runs, IsPlace, IsTransition, IsLastBy, start, end}
use Rattle.zones.proofs.Sequences.{seconds_rise, starts_rise}

pub next_type : (first : TimeType) (rows : List Transition) (k : ℕ) → type_after first rows (k + 1) ≡ (row_at rows k).after
next_type first rows k =
    let some : (k + 1 == 0) ≡ false = grind (arith, nat_tests) in
    let same : k + 1 - 1 ≡ k = omega arith in
    rw (some, same) refl

pub next_offset : (first : TimeType) (rows : List Transition) (k : ℕ) → offset_after first rows (k + 1) ≡ (row_at rows k).after.offset
next_offset first rows k = ap (λ (t : TimeType). t.offset) (next_type first rows k)

pub before_offset : (first : TimeType) (rows : List Transition) → IsForward first rows → (k : ℕ) → k < length rows → (row_at rows k).before.offset ≡
    offset_after first rows k
before_offset first rows f k l = ap (λ (t : TimeType). t.offset) (f.goes_on k l)

pub row_start_is : (first : TimeType) (rows : List Transition) → IsForward first rows → (k : ℕ) → k < length rows → row_start (row_at rows k) ≡ start
    (table_second rows) (offset_after first rows) k
row_start_is first rows f k l =
    let before = before_offset first rows f k l in
    let after = next_offset first rows k in
    omega (arith, signed_arith, clamps)

pub row_end_is : (first : TimeType) (rows : List Transition) → IsForward first rows → (k : ℕ) → k < length rows → row_end (row_at rows k) ≡ end
    (table_second rows) (offset_after first rows) k
row_end_is first rows f k l =
    let before = before_offset first rows f k l in
    let after = next_offset first rows k in
    omega (arith, signed_arith, clamps)

-- a row is the transition at its place
pub row_is : (first : TimeType) (rows : List Transition) → IsForward first rows → (k : ℕ) → k < length rows → IsTransition (table_second rows)
    (type_after first rows) k (row_at rows k)
row_is first rows f k l = record {
  second = refl;
  before = f.goes_on k l;
  after = sym (next_type first rows k);
}

pub table_runs : (first : TimeType) (rows : List Transition) → IsForward first rows → Runs (InTable rows) (table_second rows) (offset_after first rows)
table_runs first rows f = record {
  down = λ k h. omega arith;
  rises = λ k h. f.rises k h;
  apart = λ k h.
      let a = f.apart k h in
      let e = row_end_is first rows f k (omega arith) in
      let s = row_start_is first rows f (k + 1) h in
      omega (arith, signed_arith);
}

pub le_yes : (a b : ℤ) → a ≤ℤ b → int_le a b ≡ true
le_yes a b h = elim (int_le a b) as (λ v. int_le a b ≡ v → v ≡ true) [
  | true ↦ λ e. refl
  | false ↦ λ e. let over = le-false a b e in absurd (omega (arith, signed_arith))
] refl

pub le_no : (a b : ℤ) → b <ℤ a → int_le a b ≡ false
le_no a b h = elim (int_le a b) as (λ v. int_le a b ≡ v → v ≡ false) [
  | true ↦ λ e. let under = le-true a b e in absurd (omega (arith, signed_arith))
  | false ↦ λ e. refl
] refl

-- the place of a second
pub place_of_count : (rows : List Transition) (t : ℤ) → IsPlace (InTable rows) (table_second rows) t (count_at rows t)
place_of_count rows t =
    let n = count_at rows t in
    let bound : n ≤ length rows = prefix_len-le-length (λ r. int_le r.second t) rows in
    record {
      reached = λ j h.
          let passes : int_le (row_at rows j).second t ≡ true = prefix_len_passes (λ r. int_le r.second t) rows j no_row (omega arith) in
          let under = le-true (row_at rows j).second t passes in
          (omega arith, omega (arith, signed_arith));
      ahead = λ h.
          let stops : int_le (row_at rows n).second t ≡ false = prefix_len_stops (λ r. int_le r.second t) rows no_row h in
          let over = le-false (row_at rows n).second t stops in
          omega (arith, signed_arith);
    }

-- and the only one
pub count_of_passed : (rows : List Transition) (t : ℤ) (n : ℕ) → n ≤ length rows → ((k : ℕ) → k < n → (row_at rows k).second ≤ℤ t) →
    (n < length rows → t <ℤ (row_at rows n).second) → count_at rows t ≡ n
count_of_passed rows t n bound passed ahead =
    prefix_len_is (λ r. int_le r.second t) rows n no_row bound (λ k l. le_yes _ _ (passed k l)) (λ l. le_no _ _ (ahead l))

pub start_count_of_passed : (rows : List Transition) (t : ℤ) (n : ℕ) → n ≤ length rows → ((k : ℕ) → k < n → row_start (row_at rows k) ≤ℤ t) →
    (n < length rows → t <ℤ row_start (row_at rows n)) → start_count_at rows t ≡ n
start_count_of_passed rows t n bound passed ahead =
    prefix_len_is (λ r. int_le (row_start r) t) rows n no_row bound (λ k l. le_yes _ _ (passed k l)) (λ l. le_no _ _ (ahead l))

-- the place of a wall clock among the starts of gaps and folds
pub place_of_start_count : (first : TimeType) (rows : List Transition) → IsForward first rows → (t : ℤ) → IsPlace (InTable rows)
    (start (table_second rows) (offset_after first rows)) t (start_count_at rows t)
place_of_start_count first rows f t =
    let n = start_count_at rows t in
    let bound : n ≤ length rows = prefix_len-le-length (λ r. int_le (row_start r) t) rows in
    record {
      reached = λ j h.
          let passes : int_le (row_start (row_at rows j)) t ≡ true = prefix_len_passes (λ r. int_le (row_start r) t) rows j no_row (omega arith) in
          let under = le-true (row_start (row_at rows j)) t passes in
          let is = row_start_is first rows f j (omega arith) in
          (omega arith, omega (arith, signed_arith));
      ahead = λ h.
          let stops : int_le (row_start (row_at rows n)) t ≡ false = prefix_len_stops (λ r. int_le (row_start r) t) rows no_row h in
          let over = le-false (row_start (row_at rows n)) t stops in
          let is = row_start_is first rows f n h in
          omega (arith, signed_arith);
    }

-- the row before a count, where that many keys have passed
pub last_row : (first : TimeType) (rows : List Transition) → IsForward first rows → (key : ℕ → ℤ) (t : ℤ) (n : ℕ) → n ≤ length rows → IsPlace
    (InTable rows) key t n
    → IsLastBy (InTable rows) key (table_second rows) (type_after first rows) t (row_before rows n)
last_row first rows f key t n bound place = elim (leb_tells n 0) [
  | inl none ↦
      let zero : n ≡ 0 = omega arith in
      let at_0 : IsPlace (InTable rows) key t 0 = rw zero at place in
      let same : row_before rows n ≡ None = rw zero refl in
      rw same at_0
  | inr some ↦
      let m = n - 1 in
      let e : n ≡ m + 1 = omega arith in
      let test : (n == 0) ≡ false = grind (arith, nat_tests) in
      let same : row_before rows n ≡ Some (row_at rows m) = rw test refl in
      let here : IsPlace (InTable rows) key t (m + 1) = rw e at place in
      rw same (m, here, row_is first rows f m (omega arith))
]

-- the same with the count and the row as a call returns them
pub last_row_by : (first : TimeType) (rows : List Transition) → IsForward first rows → (key : ℕ → ℤ) (t : ℤ) (n : ℕ) → n ≤ length rows → IsPlace
    (InTable rows) key t n
    → (found : Option Transition) → found ≡ row_before rows n → IsLastBy (InTable rows) key (table_second rows) (type_after first rows) t found
last_row_by first rows f key t n bound place found is =
    subst (λ (o : Option Transition). IsLastBy (InTable rows) key (table_second rows) (type_after first rows) t o) (sym is)
    (last_row first rows f key t n bound place)

-- where all rows go on, the table runs forward
pub forward_of : (first : TimeType) (rows : List Transition) (n : ℕ) → n ≡ length rows → GoesOnTo first rows n → IsForward first rows
forward_of first rows n e h = record {
  in_range = λ k l. (h.go_on k (omega arith)).in_range;
  goes_on = λ k l. (h.go_on k (omega arith)).goes_on;
  rises = λ k l. (h.go_on (k + 1) (omega arith)).rises k refl;
  apart = λ k l. (h.go_on (k + 1) (omega arith)).apart k refl;
}

-- a count of which the last transition has begun and the next one has not
pub count_is : (first : TimeType) (rows : List Transition) → IsForward first rows → (t : ℤ) (n : ℕ) → n ≤ length rows
    → ((k : ℕ) → k + 1 ≡ n → table_second rows k ≤ℤ t) → (n < length rows → t <ℤ table_second rows n) → count_at rows t ≡ n
count_is first rows f t n bound begun ahead =
    count_of_passed rows t n bound
    (λ k l.
    let last = begun (n - 1) (omega arith) in
    let up = seconds_rise (table_runs first rows f) k (n - 1) (omega arith) (omega arith) in
    omega (arith, signed_arith))
    ahead

-- a count of which the last gap or fold has started and the next one has not
pub start_count_is : (first : TimeType) (rows : List Transition) → IsForward first rows → (t : ℤ) (n : ℕ) → n ≤ length rows
    → ((k : ℕ) → k + 1 ≡ n → row_start (row_at rows k) ≤ℤ t) → (n < length rows → t <ℤ row_start (row_at rows n)) → start_count_at rows t ≡ n
start_count_is first rows f t n bound begun ahead =
    start_count_of_passed rows t n bound
    (λ k l.
    let last = begun (n - 1) (omega arith) in
    let up = starts_rise (table_runs first rows f) k (n - 1) (omega arith) (omega arith) in
    let at_k = row_start_is first rows f k (omega arith) in
    let at_n = row_start_is first rows f (n - 1) (omega arith) in
    omega (arith, signed_arith))
    ahead
