-- The rows of buckets without lines, sent one after another.
use Rattle.std.proofs.Common.{◌≡◌, ℕ, zero, suc, true, false, List, [], ◌++◌, Option, ℤ, refl, sym, ap, subst, ◌∙◌, append_assoc, append-nil}
use Rattle.std.specs.Prelude.{int_lt}
use Rattle.line_devices.specs.Writing.{AppendsBeginning, Sends}
use Rattle.line_devices.specs.WritingLemmas.{AppendsBeginning-longer, AppendsBeginning-pending, Sends-append, Sends-nothing}
use Rattle.line_counts.specs.Counting.{Counting, most}
use Rattle.line_counts.specs.Counts.{empty_rows}

-- no bucket is left
empty_rows-none : {M : Type 0} (c : Counting M) (n : ℕ) (start to : ℤ) → int_lt start to ≡ false → empty_rows c n start to ≡ []
unfolding empty_rows
empty_rows-none c zero start to e = refl
empty_rows-none c (suc n) start to e = rw e refl

-- a row, and the others
empty_rows-one : {M : Type 0} (c : Counting M) (n : ℕ) (start to : ℤ) → int_lt start to ≡ true
    → empty_rows c (suc n) start to ≡ c.row start 0 ++ empty_rows c n (c.next start) to
unfolding empty_rows
empty_rows-one c n start to e = rw e refl

empty_rows-over : {M : Type 0} (c : Counting M) (n : ℕ) (start to : ℤ) → n ≡ 0 → empty_rows c n start to ≡ []
unfolding empty_rows
empty_rows-over c n start to e = rw e refl

-- the rows before a bucket were sent, and so many at most are left
pub record RowsSent {M : Type 0} (c : Counting M) (from to : ℤ) (base now : Option (List ℕ)) (was_pending pending : List ℕ) (left : ℕ) (start : ℤ) : Type 0
  where
    pub done : List ℕ
    pub whole : empty_rows c most from to ≡ done ++ empty_rows c left start to
    pub sent : Sends base now pending (was_pending ++ done)

pub rows_first : {M : Type 0} (c : Counting M) (from to : ℤ) (base : Option (List ℕ)) (pending : List ℕ)
    → RowsSent c from to base base pending pending most from
rows_first c from to base pending = record {
  done = [];
  whole = refl;
  sent = subst (λ (z : List ℕ). Sends base base pending z) (sym (append-nil pending)) (Sends-nothing base pending);
}

pub rows_next : {M : Type 0} (c : Counting M) (from to : ℤ) (base b d : Option (List ℕ)) (was pending pending' : List ℕ) (left n : ℕ) (start : ℤ)
    → RowsSent c from to base b was pending left start → left ≡ suc n → int_lt start to ≡ true → Sends b d pending' (pending ++ c.row start 0)
    → RowsSent c from to base d was pending' n (c.next start)
rows_next c from to base b d was pending pending' left n start h e lt sent = record {
  done = h.done ++ c.row start 0;
  whole = h.whole ∙ ap (λ (z : ℕ). h.done ++ empty_rows c z start to) e ∙ ap (λ (z : List ℕ). h.done ++ z) (empty_rows-one c n start to lt)
      ∙ sym (append_assoc h.done (c.row start 0) _);
  sent = subst (λ (z : List ℕ). Sends base d pending' z) (append_assoc was h.done (c.row start 0))
      (Sends-append base b d pending (was ++ h.done) pending' (c.row start 0) h.sent sent);
}

pub rows_cut : {M : Type 0} (c : Counting M) (from to : ℤ) (base b d : Option (List ℕ)) (was pending : List ℕ) (left n : ℕ) (start : ℤ)
    → RowsSent c from to base b was pending left start → left ≡ suc n → int_lt start to ≡ true → AppendsBeginning b d (pending ++ c.row start 0)
    → AppendsBeginning base d (was ++ empty_rows c most from to)
rows_cut c from to base b d was pending left n start h e lt cut =
    let rest = empty_rows c n (c.next start) to in
    let whole = h.whole ∙ ap (λ (z : ℕ). h.done ++ empty_rows c z start to) e ∙ ap (λ (z : List ℕ). h.done ++ z) (empty_rows-one c n start to lt)
    ∙ sym (append_assoc h.done (c.row start 0) rest) in
    let all : ((was ++ h.done) ++ c.row start 0) ++ rest ≡ was ++ empty_rows c most from to =
    ap (λ (z : List ℕ). z ++ rest) (append_assoc was h.done (c.row start 0)) ∙ append_assoc was (h.done ++ c.row start 0) rest
    ∙ ap (λ (z : List ℕ). was ++ z) (sym whole) in
    subst (λ (z : List ℕ). AppendsBeginning base d z) all
    (AppendsBeginning-longer base d _ rest (AppendsBeginning-pending base b d pending (was ++ h.done) (c.row start 0) h.sent cut))

all_sent : {M : Type 0} (c : Counting M) (from to : ℤ) (base now : Option (List ℕ)) (was pending : List ℕ) (left : ℕ) (start : ℤ)
    → RowsSent c from to base now was pending left start → empty_rows c left start to ≡ [] → Sends base now pending (was ++ empty_rows c most from to)
all_sent c from to base now was pending left start h none =
    let whole = h.whole ∙ ap (λ (z : List ℕ). h.done ++ z) none ∙ append-nil h.done in
    subst (λ (z : List ℕ). Sends base now pending (was ++ z)) (sym whole) h.sent

pub rows_end : {M : Type 0} (c : Counting M) (from to : ℤ) (base now : Option (List ℕ)) (was pending : List ℕ) (left : ℕ) (start : ℤ)
    → RowsSent c from to base now was pending left start → int_lt start to ≡ false → Sends base now pending (was ++ empty_rows c most from to)
rows_end c from to base now was pending left start h e = all_sent c from to base now was pending left start h (empty_rows-none c left start to e)

pub rows_over : {M : Type 0} (c : Counting M) (from to : ℤ) (base now : Option (List ℕ)) (was pending : List ℕ) (left : ℕ) (start : ℤ)
    → RowsSent c from to base now was pending left start → left ≡ 0 → Sends base now pending (was ++ empty_rows c most from to)
rows_over c from to base now was pending left start h e = all_sent c from to base now was pending left start h (empty_rows-over c left start to e)

-- a row, and those behind it
pub ended_sent : (base b d : Option (List ℕ)) (pending pending' pending'' row more : List ℕ) → Sends base b pending' (pending ++ row)
    → Sends b d pending'' (pending' ++ more) → Sends base d pending'' (pending ++ (row ++ more))
ended_sent base b d pending pending' pending'' row more first second =
    subst (λ (z : List ℕ). Sends base d pending'' z) (append_assoc pending row more)
    (Sends-append base b d pending' (pending ++ row) pending'' more first second)

pub ended_cut : (base b d : Option (List ℕ)) (pending pending' row more : List ℕ) → Sends base b pending' (pending ++ row)
    → AppendsBeginning b d (pending' ++ more) → AppendsBeginning base d (pending ++ (row ++ more))
ended_cut base b d pending pending' row more first cut =
    subst (λ (z : List ℕ). AppendsBeginning base d z) (append_assoc pending row more)
    (AppendsBeginning-pending base b d pending' (pending ++ row) more first cut)

pub row_cut : (base d : Option (List ℕ)) (pending row more : List ℕ) → AppendsBeginning base d (pending ++ row)
    → AppendsBeginning base d (pending ++ (row ++ more))
row_cut base d pending row more cut =
    subst (λ (z : List ℕ). AppendsBeginning base d z) (append_assoc pending row more) (AppendsBeginning-longer base d (pending ++ row) more cut)
