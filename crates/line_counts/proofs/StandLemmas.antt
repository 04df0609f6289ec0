-- What was sent of an input, as more of it is taken in.
use Rattle.std.proofs.Common.{◌≡◌, ◌≢◌, inl, inr, ℕ, ◌≤◌, ◌<◌, Bool, true, false, List, [], ◌∷◌, ◌++◌, length, length-take, take, drop, Option}
use Rattle.std.proofs.Common.{Ok, ℤ, refl, sym, ap, subst, ◌∙◌, arith, append_assoc, append-nil, take-append-drop}
use Rattle.std.specs.Io.KnownBytes.{Appends}
use Rattle.std.proofs.lemmas.Bool.{cases_lt}
use Rattle.std.proofs.lemmas.List.{get_or-take, take_all, take-append-le}
use Rattle.std.specs.Prelude.{IsTrue, ◌↔◌}
use Rattle.line_devices.specs.LineLemmas.{none_ended, ended_from-append, rest_from-append, ended_from-line_feed, rest_from-line_feed}
use Rattle.line_devices.specs.LineParts.{ended_from, rest_from, HasNone}
use Rattle.line_devices.specs.Lines.{lines_of}
use Rattle.line_devices.specs.Writing.{AppendsBeginning, Sends}
use Rattle.line_devices.specs.WritingLemmas.{Appends-append, Appends-flushed, Appends-nil}
use Rattle.line_devices.specs.WritingLemmas.{AppendsBeginning-longer, AppendsBeginning-pending, AppendsBeginning-flushed}
use Rattle.line_devices.specs.WritingLemmas.{Sends-append, Sends-flushed, Sends-nothing}
use Rattle.line_devices.specs.declared.stamp_tallies.LineKind.{LineKind}
use Rattle.line_counts.specs.Counting.{Counting}
use Rattle.line_counts.specs.Counts.{Counted, count_input, count_line, count_lines, count_open, outcome, first_tally, last_row}
use Rattle.line_counts.specs.Progress.{AllSent, Completes, Ends, Falls, Stands, Takes}
use Rattle.line_counts.specs.declared.lines.Work.{Work}
use Rattle.line_counts.specs.declared.tallies.CountFault.{CountFault}
use Rattle.line_counts.specs.declared.tallies.CountFault.TheVariants.{Read, Write, Missing, Back}
use Rattle.line_counts.specs.declared.tallies.Tally.{Tally}
use Rattle.line_counts.proofs.CountLemmas.{count_line-by_head, input_begins, input_ended, input_falls}
use Rattle.line_counts.proofs.CountLemmas.{input_known, lines_after, lines_after_feed, lines_all_ended}
use Rattle.line_counts.proofs.CountLemmas.{lines_at_end, lines_more, open_known}
use Rattle.line_counts.proofs.StampLemmas.{input_stamps}

pub part_split : (taken part : List ℕ) (n : ℕ) → (taken ++ take n part) ++ drop n part ≡ taken ++ part
part_split taken part n = append_assoc taken (take n part) (drop n part) ∙ ap (λ (z : List ℕ). taken ++ z) (take-append-drop n part)

-- the first bytes of first bytes
take-take : (n : ℕ) (xs ys : List ℕ) → take n (take n xs ++ ys) ≡ take n (xs ++ ys)
take-take n xs ys =
    elim (cases_lt n (length xs)) [
      | inl more ↦
          let long : n ≤ length (take n xs) = omega (arith, more, length-take n xs) in
          take-append-le n (take n xs) ys long ∙ take_all n (take n xs) (omega (arith, length-take n xs)) ∙ sym (take-append-le n xs ys (omega (arith, more)))
      | inr all ↦ ap (λ (z : List ℕ). take n (z ++ ys)) (take_all n xs all)
    ]

-- up to a line feed there is none
pub none_in_front : (text : List ℕ) (end : ℕ) → HasNone 10 text 0 end → HasNone 10 (take end text) 0 (length (take end text))
none_in_front text end h = λ k from to.
    let low : (k < end) × (k < length text) = omega (arith, to, length-take end text) in
    subst (λ (z : ℕ). z ≢ 10) (sym (get_or-take end text k 0 low.0)) (h k from low.0)

pub not_empty : (r : Bool) (head : List ℕ) → (IsTrue r ↔ (head ≡ [])) → r ≡ false → head ≢ []
not_empty true head iff e = absurd cc
not_empty false head iff e = λ none. let t = iff.1 none in cc

pub is_empty : (r : Bool) (head : List ℕ) → (IsTrue r ↔ (head ≡ [])) → r ≡ true → head ≡ []
is_empty true head iff e = iff.0 refl
is_empty false head iff e = absurd cc

-- how the head of a line decides
abbrev pub ByHead : {M : Type 0} → Counting M → Type 0
ByHead {M} c =
    ((memory : M) (last : Option ℤ) (is_first : Bool) (line : List ℕ)
    → c.instant memory last is_first (take 65536 line) ≡ c.instant memory last is_first line)
    × ((memory : M) (number : ℕ) (kind : LineKind) (line : List ℕ) → c.after memory number kind (take 65536 line) ≡ c.after memory number kind line)

-- before anything is read
pub stands_first : {M : Type 0} (c : Counting M) (s : Bool) (base : Option (List ℕ)) (pending : List ℕ) (work : Work M) → work.tally ≡ (first_tally c)
    → work.head ≡ []
    → pending ≡ [] → Stands c s base base pending work []
unfolding ended_from rest_from count_lines
stands_first {M} c s base pending work t h none = record {
  text = [];
  lines = ap (λ (z : Tally M). outcome [] (Ok z)) (sym t);
  head = h;
  sent = subst (λ (z : List ℕ). Sends base base z []) (sym none) (Sends-nothing base []);
}

-- a part without a line feed is taken in
pub stands_part : {M : Type 0} (c : Counting M) (s : Bool) (base now : Option (List ℕ)) (pending : List ℕ) (work work' : Work M) (taken part : List ℕ)
    → Stands c s base now pending work taken → HasNone 10 part 0 (length part) → work'.tally ≡ work.tally
    → work'.head ≡ take 65536 (work.head ++ part) → Stands c s base now pending work' (taken ++ part)
stands_part {M} c s base now pending work work' taken part h none t head =
    let grown = none_ended (rest_from [] taken) part none in
    let ended : ended_from [] (taken ++ part) ≡ ended_from [] taken =
    ended_from-append [] taken part ∙ ap (λ (z : List (List ℕ)). ended_from [] taken ++ z) grown.0 ∙ append-nil (ended_from [] taken) in
    let rest : rest_from [] (taken ++ part) ≡ rest_from [] taken ++ part = rest_from-append [] taken part ∙ grown.1 in
    record {
      text = h.text;
      lines = ap (count_lines c s (first_tally c)) ended ∙ h.lines ∙ ap (λ (z : Tally M). outcome h.text (Ok z)) (sym t);
      head = head ∙ ap (λ (z : List ℕ). take 65536 (z ++ part)) h.head ∙ take-take 65536 (rest_from [] taken) part ∙ ap (take 65536) (sym rest);
      sent = h.sent;
    }

-- the line of a head
line_of : {M : Type 0} (c : Counting M) (s : Bool) (base now : Option (List ℕ)) (pending : List ℕ) (work : Work M) (taken : List ℕ) → ByHead c
    → Stands c s base now pending work taken → count_line c s work.tally work.head ≡ count_line c s work.tally (rest_from [] taken)
line_of c s base now pending work taken by_head h =
    ap (count_line c s work.tally) h.head ∙ count_line-by_head c s work.tally (rest_from [] taken) by_head.0 by_head.1

-- a line feed ends a line that was counted
pub stands_line : {M : Type 0} (c : Counting M) (s : Bool) (base b d : Option (List ℕ)) (pending pending' : List ℕ) (work work' : Work M) (taken : List ℕ)
    → ByHead c
    → Stands c s base b pending work taken → work'.head ≡ []
    → Takes (Ok tt) (count_line c s work.tally work.head) work'.tally b d pending pending' → Stands c s base d pending' work' (taken ++ 10 ∷ [])
stands_line {M} c s base b d pending pending' work work' taken by_head h none takes =
    let line = line_of c s base b pending work taken by_head h in
    let sent = subst (λ (z : Counted M). Sends b d pending' (pending ++ z.text)) line takes.0 in
    let end = sym (ap (λ (z : Counted M). z.end) line) ∙ takes.1 in
    record {
      text = h.text ++ (count_line c s work.tally (rest_from [] taken)).text;
      lines = ap (count_lines c s (first_tally c)) (ended_from-line_feed [] taken)
          ∙ lines_more c s (ended_from [] taken) (rest_from [] taken) h.text work.tally work'.tally h.lines end;
      head = none ∙ ap (take 65536) (sym (rest_from-line_feed [] taken));
      sent = Sends-append base b d pending h.text pending' (count_line c s work.tally (rest_from [] taken)).text h.sent sent;
    }

-- ---- faults

-- what was sent before a text that was written whole
written_after : (base b d : Option (List ℕ)) (pending text more : List ℕ) → Sends base b pending text → Appends b d (pending ++ more)
    → Appends base d (text ++ more)
written_after base b d pending text more h written =
    subst (λ (z : List ℕ). Appends base d z) (sym (append_assoc h.sent pending more) ∙ ap (λ (z : List ℕ). z ++ more) (sym h.whole))
    (Appends-append base b d h.sent (pending ++ more) h.appended written)

-- a beginning of what the input comes to
begun : {M : Type 0} (c : Counting M) (s : Bool) (base d : Option (List ℕ)) (input text : List ℕ) → (z : List ℕ) × ((count_input c s input).text ≡ text ++ z)
    → AppendsBeginning base d text → AppendsBeginning base d (count_input c s input).text
begun c s base d input text whole h =
    subst (λ (z : List ℕ). AppendsBeginning base d z) (sym whole.1) (AppendsBeginning-longer base d text whole.0 h)

-- a fault at a line of an input
line_falls : {M : Type 0} (c : Counting M) (s : Bool) (base b d : Option (List ℕ)) (pending text input line : List ℕ) (lines left : List (List ℕ)) (tally :
    Tally M)
    (fault : CountFault) → lines_of input ≡ lines ++ line ∷ left → count_lines c s (first_tally c) lines ≡ outcome text (Ok tally)
    → Sends base b pending text → Falls fault (count_line c s tally line) b d pending → Ends c s base d fault input
line_falls c s base b d pending text input line lines left tally Read is e sent falls = falls
line_falls c s base b d pending text input line lines left tally Write is e sent falls =
    begun c s base d input (text ++ (count_line c s tally line).text) (input_begins c s input lines left line text tally is e)
    (AppendsBeginning-pending base b d pending text (count_line c s tally line).text sent falls)
line_falls {M} c s base b d pending text input line lines left tally (Missing number) is e sent falls =
    let whole = input_falls c s input lines left line text tally (Missing number) is e falls.1 in (
      subst (λ (z : Counted M). Appends base d z.text) (sym whole) (written_after base b d pending text _ sent falls.0),
      ap (λ (z : Counted M). z.end) whole,
    )
line_falls {M} c s base b d pending text input line lines left tally (Back number) is e sent falls =
    let whole = input_falls c s input lines left line text tally (Back number) is e falls.1 in (
      subst (λ (z : Counted M). Appends base d z.text) (sym whole) (written_after base b d pending text _ sent falls.0),
      ap (λ (z : Counted M). z.end) whole,
    )

-- at a line that a line feed ends
pub feed_falls : {M : Type 0} (c : Counting M) (s : Bool) (base b d : Option (List ℕ)) (pending : List ℕ) (work : Work M) (taken more : List ℕ) (fault :
    CountFault)
    → ByHead c → Stands c s base b pending work taken → Falls fault (count_line c s work.tally work.head) b d pending
    → Ends c s base d fault ((taken ++ 10 ∷ []) ++ more)
feed_falls {M} c s base b d pending work taken more fault by_head h falls =
    let after = lines_after_feed taken more in
    line_falls c s base b d pending h.text ((taken ++ 10 ∷ []) ++ more) (rest_from [] taken) (ended_from [] taken) after.0 work.tally fault after.1 h.lines
    h.sent
    (subst (λ (z : Counted M). Falls fault z b d pending) (line_of c s base b pending work taken by_head h) falls)

-- what is pending could not be written
pub stands_cut : {M : Type 0} (c : Counting M) (s : Bool) (base b d : Option (List ℕ)) (pending : List ℕ) (work : Work M) (taken more : List ℕ)
    → Stands c s base b pending work taken → AppendsBeginning b d pending → Ends c s base d Write (taken ++ more)
stands_cut c s base b d pending work taken more h cut =
    let after = lines_after taken more in
    begun c s base d (taken ++ more) h.text (input_known c s (taken ++ more) (ended_from [] taken) after.0 h.text work.tally after.1 h.lines)
    (AppendsBeginning-flushed base b d pending h.text h.sent cut)

-- what was pending was written
pub stands_flushed : {M : Type 0} (c : Counting M) (s : Bool) (base b d : Option (List ℕ)) (pending : List ℕ) (work : Work M) (taken : List ℕ)
    → Stands c s base b pending work taken → Appends b d pending → Stands c s base d [] work taken
stands_flushed c s base b d pending work taken h written =
    record { text = h.text; lines = h.lines; head = h.head; sent = Sends-flushed base b d pending h.text h.sent written }

-- the rows that the bytes which were read end were written, where nothing is pending
pub written_open : {M : Type 0} (c : Counting M) (s : Bool) (base now : Option (List ℕ)) (pending : List ℕ) (work : Work M) (taken : List ℕ)
    → Stands c s base now pending work taken → pending ≡ [] → Appends base now (count_open c s taken).text
written_open c s base now pending work taken h none =
    subst (λ (z : List ℕ). Appends base now z) (sym (open_known c s taken h.text work.tally h.lines))
    (Appends-flushed base now now pending h.text h.sent (subst (λ (z : List ℕ). Appends now now z) (sym none) (Appends-nil now)))

-- ---- the end of the input

-- no first bytes, no bytes
no_rest : (xs : List ℕ) → take 65536 xs ≡ [] → xs ≡ []
no_rest [] e = refl
no_rest (x ∷ xs) e = absurd (omega (arith, ap (length {A = ℕ}) e, length-take 65536 (x ∷ xs)))

some_rest : (xs : List ℕ) → take 65536 xs ≢ [] → (byte : ℕ) × (rest : List ℕ) × (xs ≡ byte ∷ rest)
some_rest [] e = absurd (e (take_all 65536 [] (omega arith)))
some_rest (x ∷ xs) e = (x, xs, refl)

pub all_ended : {M : Type 0} (c : Counting M) (s : Bool) (base now : Option (List ℕ)) (pending : List ℕ) (work : Work M) (taken : List ℕ)
    → Stands c s base now pending work taken → work.head ≡ [] → AllSent c s base now pending work.tally taken
all_ended c s base now pending work taken h none =
    let rest : rest_from [] taken ≡ [] = no_rest (rest_from [] taken) (sym h.head ∙ none) in
    record { text = h.text; lines = ap (count_lines c s (first_tally c)) (lines_all_ended taken rest) ∙ h.lines; sent = h.sent }

-- with a last line that no line feed ends
pub all_counted : {M : Type 0} (c : Counting M) (s : Bool) (base b d : Option (List ℕ)) (pending pending' : List ℕ) (work : Work M) (tally' : Tally M)
    (taken : List ℕ) → ByHead c
    → Stands c s base b pending work taken → work.head ≢ [] → Takes (Ok tt) (count_line c s work.tally work.head) tally' b d pending pending'
    → AllSent c s base d pending' tally' taken
all_counted {M} c s base b d pending pending' work tally' taken by_head h some takes =
    let line = line_of c s base b pending work taken by_head h in
    let rest = some_rest (rest_from [] taken) (λ e. some (h.head ∙ e)) in
    let sent = subst (λ (z : Counted M). Sends b d pending' (pending ++ z.text)) line takes.0 in
    let end = sym (ap (λ (z : Counted M). z.end) line) ∙ takes.1 in
    record {
      text = h.text ++ (count_line c s work.tally (rest_from [] taken)).text;
      lines = ap (count_lines c s (first_tally c)) (lines_at_end taken rest.0 rest.1 rest.2)
          ∙ lines_more c s (ended_from [] taken) (rest_from [] taken) h.text work.tally tally' h.lines end;
      sent = Sends-append base b d pending h.text pending' (count_line c s work.tally (rest_from [] taken)).text h.sent sent;
    }

pub last_falls : {M : Type 0} (c : Counting M) (s : Bool) (base b d : Option (List ℕ)) (pending : List ℕ) (work : Work M) (taken : List ℕ) (fault : CountFault)
    → ByHead c → Stands c s base b pending work taken → work.head ≢ [] → Falls fault (count_line c s work.tally work.head) b d pending
    → Ends c s base d fault taken
last_falls {M} c s base b d pending work taken fault by_head h some falls =
    let rest = some_rest (rest_from [] taken) (λ e. some (h.head ∙ e)) in
    line_falls c s base b d pending h.text taken (rest_from [] taken) (ended_from [] taken) [] work.tally fault
    (lines_at_end taken rest.0 rest.1 rest.2) h.lines h.sent
    (subst (λ (z : Counted M). Falls fault z b d pending) (line_of c s base b pending work taken by_head h) falls)

-- the last row
pub completes : {M : Type 0} (c : Counting M) (s : Bool) (base b d e : Option (List ℕ)) (pending pending' : List ℕ) (tally : Tally M) (input : List ℕ)
    → AllSent c s base b pending tally input → Sends b d pending' (pending ++ last_row c tally.row) → Appends d e pending'
    → Completes c s base e input tally
completes {M} c s base b d e pending pending' tally input h sent written =
    let whole = input_ended c s input h.text tally h.lines in
    let all = Sends-append base b d pending h.text pending' (last_row c tally.row) h.sent sent in
    record {
      written = subst (λ (z : Counted M). Appends base e z.text) (sym whole) (Appends-flushed base d e pending' (h.text ++ last_row c tally.row) all written);
      well = ap (λ (z : Counted M). z.end) whole;
      stamps = input_stamps c s input h.text tally h.lines;
    }

pub last_cut : {M : Type 0} (c : Counting M) (s : Bool) (base b d : Option (List ℕ)) (pending : List ℕ) (tally : Tally M) (input : List ℕ)
    → AllSent c s base b pending tally input → AppendsBeginning b d (pending ++ last_row c tally.row) → Ends c s base d Write input
last_cut {M} c s base b d pending tally input h cut =
    let whole = input_ended c s input h.text tally h.lines in
    subst (λ (z : Counted M). AppendsBeginning base d z.text) (sym whole) (AppendsBeginning-pending base b d pending h.text (last_row c tally.row) h.sent cut)

pub end_cut : {M : Type 0} (c : Counting M) (s : Bool) (base b d e : Option (List ℕ)) (pending pending' : List ℕ) (tally : Tally M) (input : List ℕ)
    → AllSent c s base b pending tally input → Sends b d pending' (pending ++ last_row c tally.row) → AppendsBeginning d e pending'
    → Ends c s base e Write input
end_cut {M} c s base b d e pending pending' tally input h sent cut =
    let whole = input_ended c s input h.text tally h.lines in
    let all = Sends-append base b d pending h.text pending' (last_row c tally.row) h.sent sent in
    subst (λ (z : Counted M). AppendsBeginning base e z.text) (sym whole) (AppendsBeginning-flushed base d e pending' (h.text ++ last_row c tally.row) all cut)
