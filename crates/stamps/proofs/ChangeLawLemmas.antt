-- A form stays without a reason to change.
use Rattle.std.proofs.Common.{◌≡◌, ◌≢◌, refl, sym, ap, ap₂, subst, ◌∙◌, ℕ, ◌+◌, length, Bool, true, false, List, [], ◌∷◌, ◌++◌, Option, Some}
use Rattle.std.proofs.Common.{None, Result, Ok, Err, arith, take}
use Rattle.std.specs.Prelude.{◌&&◌, ◌==◌, nat_le, nat_lt, if◌then◌else◌}
use Rattle.std.proofs.lemmas.Bool.{and_parts}
use Rattle.std.proofs.lemmas.Bool.Decides.{nat_tests}
use Rattle.line_devices.specs.Lines.{pieces_of, unless_empty, whole_lines_of}
use Rattle.line_devices.specs.declared.stamp_tallies.LineKind.{LineKind}
use Rattle.line_devices.specs.declared.stamp_tallies.LineKind.TheVariants.{Stamped, Bare, Continued, Empty, Long}
use Rattle.log_forms.specs.Choices.{choice_of, is_read_by_any}
use Rattle.stamps.specs.Changes.{anew_with, at_most, choice_after, number_now, reader_by, row_length}
use Rattle.stamps.specs.Changes.{tried, tried_with, unless_over, with_change, with_longer_wait, with_one_more}
use Rattle.stamps.specs.Choosing.{chosen_by_two, chosen_with, if_both_read, reads}
use Rattle.stamps.specs.Decisions.{decision_by, decision_of, first_state, is_first, line_kind, one_more, reading, stamp_after, state_after, state_by}
use Rattle.stamps.specs.Laws.{IsReadAsAtFirst, IsReason, kinds_in, line_stamps, rows_are_short}
use Rattle.stamps.specs.Readers.{line_stamp}
use Rattle.stamps.specs.Runs.{Run, input_run, known_after, known_at_end, last_of, last_run, line_feed, line_run, output_of, run, then_on}
use Rattle.stamps.specs.Tallies.{kinds_of}
use Rattle.stamps.specs.Zoned.{with_zone}
use Rattle.stamps.specs.declared.changes.Anew.{Anew}
use Rattle.stamps.specs.declared.changes.Change.{Change}
use Rattle.stamps.specs.declared.changes.Choice.{Choice}
use Rattle.stamps.specs.declared.decide.Decision.{Decision}
use Rattle.stamps.specs.declared.decide.Decision.TheVariants.{Keep, Skip, Stop, Tell}
use Rattle.stamps.specs.declared.decide.State.{State}
use Rattle.stamps.specs.declared.readers.LineRefusal.{LineRefusal}
use Rattle.stamps.specs.declared.readers.LineStamp.{LineStamp}
use Rattle.stamps.specs.declared.readers.Reader.{Reader}
use Rattle.stamps.specs.declared.reading.ReadingMisuse.{ReadingMisuse}
use Rattle.stamps.specs.declared.task.Task.{Task}
use Rattle.stamps.proofs.LineLawLemmas.{later}
use Rattle.stamps.proofs.RunLemmas.{all_run, input_run-all, lines_of-last}

-- the task that words give the form of
abbrev pub fixed : Task → Task
fixed task = reading task.reader task.action

-- no reader was chosen, and none is looked for yet
abbrev pub Waits : Choice → Type 0
Waits choice = (choice.own ≡ None) × (choice.wait ≡ 15)

-- whether a row stays short with a line of this kind
abbrev pub stays_short : ℕ → LineKind → Bool
stays_short row Stamped = true
stays_short row Bare = nat_lt (row + 1) 15
stays_short row Long = nat_lt (row + 1) 15
stays_short row Continued = true
stays_short row Empty = true

-- the length of a row with a line of this kind
abbrev pub row_with : ℕ → LineKind → ℕ
row_with row Stamped = 0
row_with row Bare = row + 1
row_with row Long = row + 1
row_with row Continued = row
row_with row Empty = row

pub rows_more : (row : ℕ) (kind : LineKind) (kinds : List LineKind) → rows_are_short row (kind ∷ kinds) ≡ true
    → (stays_short row kind ≡ true) × (rows_are_short (row_with row kind) kinds ≡ true)
unfolding rows_are_short
rows_more row Stamped kinds e = (refl, e)
rows_more row Bare kinds e = and_parts (nat_lt (row + 1) 15) (rows_are_short (row + 1) kinds) e
rows_more row Long kinds e = and_parts (nat_lt (row + 1) 15) (rows_are_short (row + 1) kinds) e
rows_more row Continued kinds e = (refl, e)
rows_more row Empty kinds e = (refl, e)

pub reader_same : (anew : Option Anew) (own : Option Reader) (first : Reader) → own ≡ None → reader_by anew own first ≡ first
reader_same None own first e = refl
reader_same (Some anew) own first e = rw e refl

stamp_same : (task : Task) (s : State) (line : List ℕ) → s.choice.own ≡ None
    → stamp_after task s line ≡ line_stamp task.reader s.last (is_first s) line
stamp_same task s line e =
    ap (λ (r : Reader). line_stamp r s.last (is_first s) line) (reader_same task.anew s.choice.own task.reader e)

-- the choice is that of a form which words give
pub choice_same : (anew : Option Anew) (choice : Choice) (number : ℕ) (kind : LineKind) (line : List ℕ) → choice.wait ≡ 15
    → stays_short choice.row kind ≡ true → choice_after anew choice number kind line ≡ choice_after None choice number kind line
choice_same anew choice number Stamped line w e = refl
choice_same anew choice number Continued line w e = refl
choice_same anew choice number Empty line w e = refl
choice_same None choice number Bare line w e = refl
choice_same None choice number Long line w e = refl
choice_same (Some anew) choice number Bare line w e =
    let short : nat_le choice.wait (at_most (choice.row + 1)) ≡ false = grind (arith, nat_tests) in rw short refl
choice_same (Some anew) choice number Long line w e =
    let short : nat_le choice.wait (at_most (choice.row + 1)) ≡ false = grind (arith, nat_tests) in rw short refl

-- and it waits as before, for a row of this length
pub waits_on : (choice : Choice) (number : ℕ) (kind : LineKind) (line : List ℕ) → Waits choice → Waits (choice_after None choice number kind line)
waits_on choice number Stamped line h = h
waits_on choice number Bare line h = h
waits_on choice number Long line h = h
waits_on choice number Continued line h = h
waits_on choice number Empty line h = h

pub row_is : (choice : Choice) (number : ℕ) (kind : LineKind) (line : List ℕ) → stays_short choice.row kind ≡ true
    → (choice_after None choice number kind line).row ≡ row_with choice.row kind
row_is choice number Stamped line e = refl
row_is choice number Bare line e = grind (arith, nat_tests)
row_is choice number Long line e = grind (arith, nat_tests)
row_is choice number Continued line e = refl
row_is choice number Empty line e = refl

state_same : (task : Task) (s : State) (line : List ℕ) → Waits s.choice
    → stays_short s.choice.row (line_kind line (line_stamp task.reader s.last (is_first s) line)) ≡ true
    → state_after task s line ≡ state_after (fixed task) s line
unfolding state_after
state_same task s line h e =
    let stamp = line_stamp task.reader s.last (is_first s) line in
    let kind = line_kind line stamp in
    ap (λ (z : Result LineStamp LineRefusal). state_by task s line (line_kind line z) z) (stamp_same task s line h.0)
    ∙ ap (λ (choice : Choice). record (state_by (fixed task) s line kind stamp) { choice = choice })
    (choice_same task.anew s.choice (one_more s.lines) kind line h.1 e)

decision_same : (task : Task) (s : State) (line : List ℕ) → Waits s.choice
    → stays_short s.choice.row (line_kind line (line_stamp task.reader s.last (is_first s) line)) ≡ true
    → decision_of task s line ≡ decision_of (fixed task) s line
unfolding decision_of state_after
decision_same task s line h e =
    let stamp = line_stamp task.reader s.last (is_first s) line in
    ap (λ (z : Result LineStamp LineRefusal). decision_by task.action s.last s.latest (state_by task s line (line_kind line z) z) z)
    (stamp_same task s line h.0)
    ∙ ap (λ (choice : Choice).
    decision_by task.action s.last s.latest (record (state_by (fixed task) s line (line_kind line stamp) stamp) { choice = choice }) stamp)
    (choice_same task.anew s.choice (one_more s.lines) (line_kind line stamp) line h.1 e)

-- ---- all lines

-- the kinds of the lines after a state
abbrev kinds_from : Task → State → List (List ℕ) → List LineKind
kinds_from task s lines = kinds_of lines (line_stamps task.reader s.last (is_first s) lines)

-- the kind of the next line
abbrev next_kind : Task → State → List ℕ → LineKind
next_kind task s line = line_kind line (line_stamp task.reader s.last (is_first s) line)

kinds_next : (task : Task) (s : State) (line : List ℕ) (rest : List (List ℕ)) → kinds_from task s (line ∷ rest)
    ≡ next_kind task s line ∷ kinds_of rest (line_stamps task.reader (state_after (fixed task) s line).last false rest)
unfolding line_stamps state_after
kinds_next task s line rest = refl

-- the row is that of the state after a line
row_next : (task : Task) (s : State) (line : List ℕ) → stays_short s.choice.row (next_kind task s line) ≡ true
    → (state_after (fixed task) s line).choice.row ≡ row_with s.choice.row (next_kind task s line)
unfolding state_after
row_next task s line e = row_is s.choice (one_more s.lines) (next_kind task s line) line e

waits_next : (task : Task) (s : State) (line : List ℕ) → Waits s.choice → Waits (state_after (fixed task) s line).choice
unfolding state_after
waits_next task s line h = waits_on s.choice (one_more s.lines) (next_kind task s line) line h

-- the run of a line by its decision
abbrev run_by : Decision → State → List ℕ → Run
run_by decision after line = run (output_of decision line ++ line_feed decision) (known_after decision after)

line_same : (task : Task) (s : State) (line : List ℕ) → decision_of task s line ≡ decision_of (fixed task) s line
    → state_after task s line ≡ state_after (fixed task) s line
    → line_run task s line ≡ run_by (decision_of (fixed task) s line) (state_after (fixed task) s line) line
unfolding line_run
line_same task s line d a = ap₂ (λ (decision : Decision) (after : State). run_by decision after line) d a

line_fixed : (task : Task) (s : State) (line : List ℕ)
    → line_run (fixed task) s line ≡ run_by (decision_of (fixed task) s line) (state_after (fixed task) s line) line
unfolding line_run
line_fixed task s line = refl

last_same : (task : Task) (s : State) (byte : ℕ) (line : List ℕ) → decision_of task s (byte ∷ line) ≡ decision_of (fixed task) s (byte ∷ line)
    → state_after task s (byte ∷ line) ≡ state_after (fixed task) s (byte ∷ line) → last_run task s (byte ∷ line) ≡ last_run (fixed task) s (byte ∷ line)
unfolding last_run
last_same task s byte line d a =
    ap₂ (λ (decision : Decision) (after : State). run (output_of decision (byte ∷ line)) (known_at_end task (known_after decision after))) d a

none_same : (task : Task) (s : State) → last_run task s [] ≡ last_run (fixed task) s []
unfolding last_run
none_same task s = refl

next_same : (decision : Decision) (line : List ℕ) (after : State) (next next' : State → Run) → next after ≡ next' after
    → then_on (run_by decision after line).text (run_by decision after line).end next
    ≡ then_on (run_by decision after line).text (run_by decision after line).end next'
next_same (Keep start text count) line after next next' e =
    ap (λ (z : Run). then_on (output_of (Keep start text count) line ++ line_feed (Keep start text count)) (Ok after) (λ _. z)) e
next_same Skip line after next next' e = ap (λ (z : Run). then_on [] (Ok after) (λ _. z)) e
next_same (Tell note) line after next next' e =
    ap (λ (z : Run). then_on (output_of (Tell note) line ++ line_feed (Tell note)) (Ok after) (λ _. z)) e
next_same (Stop found) line after next next' e = refl

all_same : (task : Task) (s : State) (lines : List (List ℕ)) (piece : List ℕ) → Waits s.choice
    → rows_are_short s.choice.row (kinds_from task s (lines ++ unless_empty piece)) ≡ true
    → all_run task s lines piece ≡ all_run (fixed task) s lines piece
all_same task s [] [] h e = none_same task s
all_same task s [] (byte ∷ piece) h e =
    let line = byte ∷ piece in
    let short = (rows_more s.choice.row (next_kind task s line) _ (ap (rows_are_short s.choice.row) (sym (kinds_next task s line [])) ∙ e)).0 in
    last_same task s byte piece (decision_same task s line h short) (state_same task s line h short)
all_same task s (line ∷ lines) piece h e =
    let rest = lines ++ unless_empty piece in
    let after = state_after (fixed task) s line in
    let kind = next_kind task s line in
    let more = rows_more s.choice.row kind _ (ap (rows_are_short s.choice.row) (sym (kinds_next task s line rest)) ∙ e) in
    let short : rows_are_short after.choice.row (kinds_from task after rest) ≡ true =
    ap (λ (z : ℕ). rows_are_short z (kinds_from task after rest)) (row_next task s line more.0)
    ∙ ap (λ (z : Bool). rows_are_short (row_with s.choice.row kind) (kinds_of rest (line_stamps task.reader after.last z rest)))
    (later (fixed task) s line) ∙ more.1
    in
    ap (λ (z : Run). then_on z.text z.end (λ next. all_run task next lines piece))
    (line_same task s line (decision_same task s line h more.0) (state_same task s line h more.0))
    ∙ next_same (decision_of (fixed task) s line) line after (λ next. all_run task next lines piece) (λ next. all_run (fixed task) next lines piece)
    (all_same task after lines piece (waits_next task s line h) short)
    ∙ ap (λ (z : Run). then_on z.text z.end (λ next. all_run (fixed task) next lines piece)) (sym (line_fixed task s line))

pub stays : (task : Task) (input : List ℕ) → rows_are_short 0 (kinds_in task.reader input) ≡ true
    → input_run task input ≡ input_run (reading task.reader task.action) input
stays task input e =
    let lines = whole_lines_of input in
    let piece = last_of (pieces_of input) in
    let kinds = λ (z : List (List ℕ)). kinds_of z (line_stamps task.reader None true z) in
    input_run-all task input
    ∙ all_same task (first_state task) lines piece (refl, refl)
    (ap (λ (z : List (List ℕ)). rows_are_short 0 (kinds z)) (sym (lines_of-last input)) ∙ e)
    ∙ sym (input_run-all (fixed task) input)

-- ---- where another reader reads on, there is a reason

number-by : (b : Bool) (choice other : Choice) → other.number ≡ choice.number → (if b then other else choice).number ≡ choice.number
number-by true choice other e = e
number-by false choice other e = refl

number-over : (choice : Choice) → (unless_over choice).number ≡ choice.number
number-over choice = number-by (nat_le (at_most (choice.wait + row_length)) choice.row) choice (with_longer_wait choice) refl

noted_by : (b : Bool) (choice one other : Choice) → one.number ≡ choice.number → other.number ≡ choice.number
    → (if b then one else other).number ≡ choice.number
noted_by true choice one other e f = e
noted_by false choice one other e f = f

number-noted : (choice : Choice) (change : Change) → (with_change choice change).number ≡ choice.number
number-noted choice change =
    noted_by (nat_lt (length choice.changes) 8) choice (record choice { changes = choice.changes ++ change ∷ [] })
    (record choice { more = at_most (choice.more + 1) }) refl refl

changed_by : (anew : Anew) (choice : Choice) (number to n : ℕ) (b : Bool) (r : Result Reader ReadingMisuse)
    → (if b then with_longer_wait choice else anew_with anew choice number n r).number ≡ Some to → choice.number ≢ Some to → n ≡ to
changed_by anew choice number to n true r e stays_on = absurd (stays_on e)
changed_by anew choice number to n false (Ok reader) e stays_on =
    let same : Some n ≡ Some to = sym (number-noted (record choice { own = Some (with_zone anew.zone reader); number = Some n; row = 0; wait = row_length })
    (record { line = number; from = number_now anew choice; to = n; lacks = None })) ∙ e in
    cc
changed_by anew choice number to n false (Err misuse) e stays_on =
    absurd (stays_on (sym (number-noted (with_longer_wait choice) (record { line = number; from = number_now anew choice; to = n; lacks = Some misuse })) ∙ e))

both_by : (b : Bool) (m n : ℕ) → (if b then Some m else None) ≡ Some n → (b ≡ true) × (m ≡ n)
both_by true m n e = let same : m ≡ n = cc in (refl, same)
both_by false m n e = absurd cc

both : (o : Option ℕ) (first second : List ℕ) (n : ℕ) → if_both_read o first second ≡ Some n → (reads n first ≡ true) × (reads n second ≡ true)
both None first second n e = absurd cc
both (Some m) first second n e =
    let parts = both_by (reads m first && reads m second) m n e in
    subst (λ (z : ℕ). (reads z first ≡ true) × (reads z second ≡ true)) parts.1 (and_parts (reads m first) (reads m second) parts.0)

tried_number : (anew : Anew) (choice : Choice) (number to : ℕ) (front : List ℕ) (o : Option ℕ) → chosen_by_two choice.front front ≡ o
    → (tried_with anew choice number front o).number ≡ Some to → choice.number ≢ Some to → (reads to choice.front ≡ true) × (reads to front ≡ true)
tried_number anew choice number to front None is e stays_on = absurd (stays_on (sym (number-over (record choice { front = front })) ∙ e))
tried_number anew choice number to front (Some n) is e stays_on =
    let same = changed_by anew choice number to n (n == number_now anew choice) (chosen_with n anew.offset anew.year) e stays_on in
    subst (λ (z : ℕ). (reads z choice.front ≡ true) × (reads z front ≡ true)) same (both (choice_of (choice.front ∷ front ∷ [])) choice.front front n is)

tried_by : (anew : Anew) (choice : Choice) (number to : ℕ) (front : List ℕ) (b : Bool)
    → (if b then tried_with anew choice number front (chosen_by_two choice.front front) else unless_over choice).number ≡ Some to
    → choice.number ≢ Some to → (reads to choice.front ≡ true) × (reads to front ≡ true)
tried_by anew choice number to front true e stays_on = tried_number anew choice number to front (chosen_by_two choice.front front) refl e stays_on
tried_by anew choice number to front false e stays_on = absurd (stays_on (sym (number-over choice) ∙ e))

row_by : (anew : Anew) (choice : Choice) (number to : ℕ) (front : List ℕ) (b : Bool)
    → (if b then tried anew choice number front else choice).number ≡ Some to → choice.number ≢ Some to
    → (b ≡ true) × ((reads to choice.front ≡ true) × (reads to front ≡ true))
row_by anew choice number to front true e stays_on = (refl, tried_by anew choice number to front (is_read_by_any front) e stays_on)
row_by anew choice number to front false e stays_on = absurd (stays_on e)

pub reason : (anew : Anew) (choice : Choice) (number to : ℕ) (kind : LineKind) (line : List ℕ)
    → (choice_after (Some anew) choice number kind line).number ≡ Some to → choice.number ≢ Some to → IsReason choice kind line to
reason anew choice number to Stamped line e stays_on = absurd (stays_on e)
reason anew choice number to Continued line e stays_on = absurd (stays_on e)
reason anew choice number to Empty line e stays_on = absurd (stays_on e)
reason anew choice number to Bare line e stays_on =
    let next = with_one_more choice in
    let all = row_by anew next number to (take 1024 line) (nat_le next.wait next.row) e stays_on in
    let long = all.0 in
    record { bare = refl; row = grind (arith, nat_tests); before = all.1.0; here = all.1.1 }
reason anew choice number to Long line e stays_on =
    let next = with_one_more choice in
    let all = row_by anew next number to (take 1024 line) (nat_le next.wait next.row) e stays_on in
    let long = all.0 in
    record { bare = refl; row = grind (arith, nat_tests); before = all.1.0; here = all.1.1 }

-- ---- and it reads as it would from the first line on

own_by : (b : Bool) (choice one other : Choice) → one.own ≡ choice.own → other.own ≡ choice.own → (if b then one else other).own ≡ choice.own
own_by true choice one other e f = e
own_by false choice one other e f = f

own-noted : (choice : Choice) (change : Change) → (with_change choice change).own ≡ choice.own
own-noted choice change =
    own_by (nat_lt (length choice.changes) 8) choice (record choice { changes = choice.changes ++ change ∷ [] })
    (record choice { more = at_most (choice.more + 1) }) refl refl

changed_as : (anew : Anew) (choice : Choice) (number to n : ℕ) (b : Bool) (r : Result Reader ReadingMisuse)
    → chosen_with n anew.offset anew.year ≡ r
    → (if b then with_longer_wait choice else anew_with anew choice number n r).number ≡ Some to → choice.number ≢ Some to
    → IsReadAsAtFirst anew to (if b then with_longer_wait choice else anew_with anew choice number n r).own
changed_as anew choice number to n true r is e stays_on = absurd (stays_on e)
changed_as anew choice number to n false (Ok reader) is e stays_on =
    let same : n ≡ to = changed_by anew choice number to n false (Ok reader) e stays_on in
    let changed = record choice { own = Some (with_zone anew.zone reader); number = Some n; row = 0; wait = row_length } in (
      reader,
      subst (λ (z : ℕ). chosen_with z anew.offset anew.year ≡ Ok reader) same is,
      own-noted changed (record { line = number; from = number_now anew choice; to = n; lacks = None }),
    )
changed_as anew choice number to n false (Err misuse) is e stays_on =
    absurd (stays_on (sym (number-noted (with_longer_wait choice) (record { line = number; from = number_now anew choice; to = n; lacks = Some misuse })) ∙ e))

tried_as : (anew : Anew) (choice : Choice) (number to : ℕ) (front : List ℕ) (o : Option ℕ)
    → (tried_with anew choice number front o).number ≡ Some to → choice.number ≢ Some to
    → IsReadAsAtFirst anew to (tried_with anew choice number front o).own
tried_as anew choice number to front None e stays_on = absurd (stays_on (sym (number-over (record choice { front = front })) ∙ e))
tried_as anew choice number to front (Some n) e stays_on =
    changed_as anew choice number to n (n == number_now anew choice) (chosen_with n anew.offset anew.year) refl e stays_on

found_as : (anew : Anew) (choice : Choice) (number to : ℕ) (front : List ℕ) (b : Bool)
    → (if b then tried_with anew choice number front (chosen_by_two choice.front front) else unless_over choice).number ≡ Some to
    → choice.number ≢ Some to
    → IsReadAsAtFirst anew to (if b then tried_with anew choice number front (chosen_by_two choice.front front) else unless_over choice).own
found_as anew choice number to front true e stays_on = tried_as anew choice number to front (chosen_by_two choice.front front) e stays_on
found_as anew choice number to front false e stays_on = absurd (stays_on (sym (number-over choice) ∙ e))

row_as : (anew : Anew) (choice : Choice) (number to : ℕ) (front : List ℕ) (b : Bool)
    → (if b then tried anew choice number front else choice).number ≡ Some to → choice.number ≢ Some to
    → IsReadAsAtFirst anew to (if b then tried anew choice number front else choice).own
row_as anew choice number to front true e stays_on = found_as anew choice number to front (is_read_by_any front) e stays_on
row_as anew choice number to front false e stays_on = absurd (stays_on e)

pub as_at_first : (anew : Anew) (choice : Choice) (number to : ℕ) (kind : LineKind) (line : List ℕ)
    → (choice_after (Some anew) choice number kind line).number ≡ Some to → choice.number ≢ Some to
    → IsReadAsAtFirst anew to (choice_after (Some anew) choice number kind line).own
as_at_first anew choice number to Stamped line e stays_on = absurd (stays_on e)
as_at_first anew choice number to Continued line e stays_on = absurd (stays_on e)
as_at_first anew choice number to Empty line e stays_on = absurd (stays_on e)
as_at_first anew choice number to Bare line e stays_on =
    let next = with_one_more choice in row_as anew next number to (take 1024 line) (nat_le next.wait next.row) e stays_on
as_at_first anew choice number to Long line e stays_on =
    let next = with_one_more choice in row_as anew next number to (take 1024 line) (nat_le next.wait next.row) e stays_on
