-- What was sent of an input, as more of it is taken in.
use Rattle.std.proofs.Common.{◌≡◌, ◌≢◌, inl, inr, ℕ, ◌+◌, ◌≤◌, ◌<◌, List, []}
use Rattle.std.proofs.Common.{◌∷◌, ◌++◌, length, length-append, take, drop, Option, Some, None, Result, Ok}
use Rattle.std.proofs.Common.{Err}
use Rattle.std.proofs.Common.{refl, sym, ap, subst, ◌∙◌, arith, append_assoc, append-nil}
use Rattle.std.specs.Io.KnownBytes.{Appends}
use Rattle.std.proofs.lemmas.List.{length-take, length-drop, take-append-drop, get_or-take, get_or-drop}
use Rattle.line_devices.specs.LineLemmas.{none_ended, ended_from-append, rest_from-append, rest_from-line_feed}
use Rattle.line_devices.specs.LineParts.{ended_from, rest_from, HasNone}
use Rattle.line_devices.specs.Writing.{AppendsBeginning, Sends}
use Rattle.line_devices.specs.WritingLemmas.{Appends-flushed, AppendsBeginning-longer, AppendsBeginning-pending, AppendsBeginning-flushed, Sends-append}
use Rattle.line_devices.specs.WritingLemmas.{Sends-flushed, Sends-nothing}
use Rattle.stamps.specs.Decisions.{decision_of, finding_at_end, first_state, state_after}
use Rattle.stamps.specs.LineStamps.{longest_head}
use Rattle.stamps.specs.Progress.{Begins, Completes, Decided, Ends, Keeps, KeepsLine, Passes, Settled, Stands, to_send, progress_of}
use Rattle.stamps.specs.Runs.{Run, run, behind, output_of, line_feed, known_after, known_at_end, known_unless, line_run, last_run, lines_run, input_run}
use Rattle.stamps.specs.declared.decide.Decision.{Decision}
use Rattle.stamps.specs.declared.decide.Decision.TheVariants.{Keep, Skip, Stop, Tell}
use Rattle.stamps.specs.declared.decide.State.{State}
use Rattle.stamps.specs.declared.finding.Finding.{Finding}
use Rattle.stamps.specs.declared.lines.LineFault.{LineFault}
use Rattle.stamps.specs.declared.lines.LineFault.TheVariants.{Write, Found}
use Rattle.stamps.specs.declared.lines.Progress.{Progress}
use Rattle.stamps.specs.declared.lines.Progress.TheVariants.{Kept, Skipped}
use Rattle.stamps.specs.declared.lines.Work.{Work}
use Rattle.stamps.specs.declared.lines.Progress.TheVariants.{Skipped}
use Rattle.stamps.specs.declared.task.Task.{Task}
use Rattle.stamps.proofs.LongLineLemmas.{Continues, continues_long, last_run-some, decision_of-longer, state_after-longer, output_of-longer}
use Rattle.stamps.proofs.RunLemmas.{run_from, then_on-text, input_run-known, lines_run-line_feed}
use Rattle.stamps.proofs.TallyLemmas.{input_tally}

-- ---- bytes of which none is a line feed

abbrev pub HasNoFeed : List ℕ → Type 0
HasNoFeed part = HasNone 10 part 0 (length part)

-- the lines that ended stay, and the last piece grows
pub part_taken : (taken part : List ℕ) → HasNoFeed part
    → (ended_from [] (taken ++ part) ≡ ended_from [] taken) × (rest_from [] (taken ++ part) ≡ rest_from [] taken ++ part)
part_taken taken part h =
    let none = none_ended (rest_from [] taken) part h in (
      ended_from-append [] taken part ∙ ap (λ (z : List (List ℕ)). ended_from [] taken ++ z) none.0 ∙ append-nil (ended_from [] taken),
      rest_from-append [] taken part ∙ none.1,
    )

pub HasNoFeed-take : (part : List ℕ) (n : ℕ) → HasNoFeed part → HasNoFeed (take n part)
HasNoFeed-take part n h = λ k from to.
    let low : (k < n) × (k < length part) = omega (arith, to, length-take n part) in
    subst (λ (z : ℕ). z ≢ 10) (sym (get_or-take n part k 0 low.0)) (h k from low.1)

pub HasNoFeed-drop : (part : List ℕ) (n : ℕ) → HasNoFeed part → HasNoFeed (drop n part)
HasNoFeed-drop part n h = λ k from to.
    let low : n + k < length part = omega (arith, to, length-drop n part) in
    subst (λ (z : ℕ). z ≢ 10) (sym (get_or-drop n part k 0)) (h (n + k) (omega arith) low)

pub part_split : (taken part : List ℕ) (n : ℕ) → (taken ++ take n part) ++ drop n part ≡ taken ++ part
part_split taken part n = append_assoc taken (take n part) (drop n part) ∙ ap (λ (z : List ℕ). taken ++ z) (take-append-drop n part)

-- ---- faults

-- a beginning of what the input comes to was written
cut_short : (task : Task) (base now : Option (List ℕ)) (taken more text : List ℕ) (before : State) (begun rest : List ℕ)
    → lines_run task (first_state task) (ended_from [] taken) ≡ run text (Ok before)
    → (run_from task before (rest_from [] taken) more).text ≡ begun ++ rest → AppendsBeginning base now (text ++ begun)
    → AppendsBeginning base now (input_run task (taken ++ more)).text
cut_short task base now taken more text before begun rest e f h =
    let whole : (input_run task (taken ++ more)).text ≡ (text ++ begun) ++ rest = ap (λ (z : Run). z.text) (input_run-known task taken more text before e)
    ∙ ap (λ (z : List ℕ). text ++ z) f ∙ sym (append_assoc text begun rest) in
    subst (λ (z : List ℕ). AppendsBeginning base now z) (sym whole) (AppendsBeginning-longer base now (text ++ begun) rest h)

-- all was written up to the line that ended the run
stopped_at : (task : Task) (base now : Option (List ℕ)) (taken more text : List ℕ) (before : State) (found : Finding)
    → lines_run task (first_state task) (ended_from [] taken) ≡ run text (Ok before)
    → run_from task before (rest_from [] taken) more ≡ run [] (Err found) → Appends base now text → Ends task base now (Found found) (taken ++ more)
stopped_at task base now taken more text before found e f h =
    let whole = input_run-known task taken more text before e ∙ ap (behind text) f in (
      subst (λ (z : List ℕ). Appends base now z) (sym (ap (λ (z : Run). z.text) whole ∙ append-nil text)) h,
      ap (λ (z : Run). z.end) whole,
    )

-- the last line could not be sent
pub begin_fault : (task : Task) (base b c : Option (List ℕ)) (pending pending' : List ℕ) (work : Work) (taken part more line : List ℕ) (known : State)
    (fault : LineFault) → Keeps task base b pending work taken → HasNoFeed part → line ≡ rest_from [] taken ++ part
    → ((state : State) → Continues task state line more)
    → Begins (Err fault) (decision_of task work.state line) known b c pending pending' line → Ends task base c fault ((taken ++ part) ++ more)
begin_fault task base b c pending pending' work taken part more line known Write keeps none e continues begins =
    let grown = part_taken taken part none in
    let rest = grown.1 ∙ sym e in
    let cont = continues work.state in
    cut_short task base c (taken ++ part) more keeps.text work.state (output_of (decision_of task work.state line) line) cont.rest
    (ap (lines_run task (first_state task)) grown.0 ∙ keeps.lines) (ap (λ (z : List ℕ). (run_from task work.state z more).text) rest ∙ cont.begins)
    (AppendsBeginning-pending base b c pending keeps.text (output_of (decision_of task work.state line) line) keeps.sent begins)
begin_fault task base b c pending pending' work taken part more line known (Found found) keeps none e continues begins =
    let grown = part_taken taken part none in
    let rest = grown.1 ∙ sym e in
    let cont = continues work.state in
    stopped_at task base c (taken ++ part) more keeps.text work.state found (ap (lines_run task (first_state task)) grown.0 ∙ keeps.lines)
    (ap (λ (z : List ℕ). run_from task work.state z more) rest ∙ cont.stops found begins.1)
    (Appends-flushed base b c pending keeps.text keeps.sent begins.0)

-- ---- one step after another

-- a part is kept
pub kept_more : (task : Task) (base now : Option (List ℕ)) (pending : List ℕ) (work work' : Work) (taken part : List ℕ)
    → Keeps task base now pending work taken → HasNoFeed part → work'.state ≡ work.state → work'.progress ≡ Kept → work'.head ≡ work.head ++ part
    → length (work.head ++ part) < longest_head → Keeps task base now pending work' (taken ++ part)
kept_more task base now pending work work' taken part keeps none s p h short =
    let grown = part_taken taken part none in
    let rest : rest_from [] (taken ++ part) ≡ work.head ++ part = grown.1 ∙ ap (λ (z : List ℕ). z ++ part) (sym keeps.head) in
    record {
      text = keeps.text;
      lines = ap (lines_run task (first_state task)) grown.0 ∙ keeps.lines ∙ ap (λ (z : State). run keeps.text (Ok z)) (sym s);
      progress = p;
      head = h ∙ sym rest;
      short = omega (arith, short, ap (length {A = ℕ}) rest);
      sent = keeps.sent;
    }

-- the last line was decided and sent
pub begun : (task : Task) (base b c : Option (List ℕ)) (pending pending' : List ℕ) (work work' : Work) (taken part line : List ℕ) (progress : Progress)
    → Keeps task base b pending work taken → HasNoFeed part → line ≡ rest_from [] taken ++ part → work'.state ≡ state_after task work.state line
    → work'.progress ≡ progress → Begins (Ok progress) (decision_of task work.state line) work'.state b c pending pending' line
    → Decided task base c pending' work' (taken ++ part)
begun task base b c pending pending' work work' taken part line progress keeps none e s p begins =
    let grown = part_taken taken part none in
    let rest = grown.1 ∙ sym e in
    let decision = decision_of task work.state line in
    record {
      text = keeps.text;
      before = work.state;
      lines = ap (lines_run task (first_state task)) grown.0 ∙ keeps.lines;
      state = s ∙ ap (state_after task work.state) (sym rest);
      known = ap (λ (z : List ℕ). known_after (decision_of task work.state z) work'.state) rest ∙ begins.2;
      progress = p ∙ begins.1 ∙ ap (λ (z : List ℕ). progress_of (decision_of task work.state z)) (sym rest);
      sent = subst (λ (z : List ℕ). Sends base c pending' (keeps.text ++ output_of (decision_of task work.state z) z)) (sym rest)
          (Sends-append base b c pending keeps.text pending' (output_of decision line) keeps.sent begins.0);
    }

-- of a decided line that is as long as a stamp may be
abbrev pub IsLong : List ℕ → Type 0
IsLong taken = longest_head ≤ length (rest_from [] taken)

pub long_more : (taken part : List ℕ) → HasNoFeed part → IsLong taken → IsLong (taken ++ part)
long_more taken part none long =
    omega (arith, long, ap (length {A = ℕ}) (part_taken taken part none).1, length-append (rest_from [] taken) part)

-- more of it was sent
pub decided_more : (task : Task) (base b c : Option (List ℕ)) (pending pending' : List ℕ) (work : Work) (taken part : List ℕ)
    → Decided task base b pending work taken → IsLong taken → HasNoFeed part → Sends b c pending' (pending ++ to_send work.progress part)
    → Decided task base c pending' work (taken ++ part)
decided_more task base b c pending pending' work taken part decided long none sent =
    let grown = part_taken taken part none in
    let before = decided.before in
    let line = rest_from [] taken in
    let same = ap (decision_of task before) grown.1 ∙ decision_of-longer task before line part long in
    let more : Sends b c pending' (pending ++ to_send (progress_of (decision_of task before line)) part) = subst
    (λ (z : Progress). Sends b c pending' (pending ++ to_send z part)) decided.progress sent in
    let all : output_of (decision_of task before (rest_from [] (taken ++ part))) (rest_from [] (taken ++ part))
    ≡ output_of (decision_of task before line) line ++ to_send (progress_of (decision_of task before line)) part = ap
    (λ (z : List ℕ). output_of (decision_of task before z) z) grown.1 ∙ output_of-longer task before line part long in
    record {
      text = decided.text;
      before = before;
      lines = ap (lines_run task (first_state task)) grown.0 ∙ decided.lines;
      state = decided.state ∙ sym (ap (state_after task before) grown.1 ∙ state_after-longer task before line part long);
      known = ap (λ (z : Decision). known_after z work.state) same ∙ decided.known;
      progress = decided.progress ∙ ap progress_of (sym same);
      sent = subst (λ (z : List ℕ). Sends base c pending' z)
          (append_assoc decided.text (output_of (decision_of task before line) line) (to_send (progress_of (decision_of task before line)) part)
          ∙ ap (λ (z : List ℕ). decided.text ++ z) (sym all)) (Sends-append base b c pending _ pending' _ decided.sent more);
    }

-- more of it could not be sent
pub pass_fault : (task : Task) (base b c : Option (List ℕ)) (pending pending' : List ℕ) (work : Work) (taken part more : List ℕ) (fault : LineFault)
    → Decided task base b pending work taken → IsLong taken → HasNoFeed part
    → Passes {T = Unit} (Err fault) b c pending' (pending ++ to_send work.progress part) → Ends task base c fault ((taken ++ part) ++ more)
pass_fault task base b c pending pending' work taken part more Write decided long none cut =
    let grown = part_taken taken part none in
    let before = decided.before in
    let line = rest_from [] taken in
    let decision = decision_of task before line in
    let bytes = to_send (progress_of decision) part in
    let short : AppendsBeginning b c (pending ++ bytes) = subst (λ (z : Progress). AppendsBeginning b c (pending ++ to_send z part)) decided.progress cut in
    let written = AppendsBeginning-pending base b c pending (decided.text ++ output_of decision line) bytes decided.sent short in
    let cont = continues_long task before (rest_from [] (taken ++ part)) more (long_more taken part none long) in
    let all = ap (λ (z : List ℕ). output_of (decision_of task before z) z) grown.1 ∙ output_of-longer task before line part long in
    cut_short task base c (taken ++ part) more decided.text before (output_of decision line ++ bytes) cont.rest
    (ap (lines_run task (first_state task)) grown.0 ∙ decided.lines) (cont.begins ∙ ap (λ (z : List ℕ). z ++ cont.rest) all)
    (subst (λ (z : List ℕ). AppendsBeginning base c z) (append_assoc decided.text (output_of decision line) bytes) written)
pass_fault task base b c pending pending' work taken part more (Found found) decided long none cut = absurd cut

-- ---- the end of a line

-- a line and its line feed come first
line_begins : (task : Task) (state : State) (line more : List ℕ)
    → (z : List ℕ) × ((run_from task state line (10 ∷ more)).text ≡ (output_of (decision_of task state line) line ++ line_feed
    (decision_of task state line)) ++ z)
unfolding line_run
line_begins task state line more =
    then_on-text (output_of (decision_of task state line) line ++ line_feed (decision_of task state line))
    (known_after (decision_of task state line) (state_after task state line)) (λ next. run_from task next [] more)

line_feed-to_send : (decision : Decision) → to_send (progress_of decision) (10 ∷ []) ≡ line_feed decision
line_feed-to_send (Keep start text count) = refl
line_feed-to_send Skip = refl
line_feed-to_send (Tell note) = refl
line_feed-to_send (Stop found) = refl

line_run-known : (task : Task) (before state : State) (line : List ℕ) → state ≡ state_after task before line
    → known_after (decision_of task before line) state ≡ Ok state
    → line_run task before line ≡ run (output_of (decision_of task before line) line ++ line_feed (decision_of task before line)) (Ok state)
unfolding line_run
line_run-known task before state line s known =
    ap (run (output_of (decision_of task before line) line ++ line_feed (decision_of task before line)))
    (subst (λ (z : State). known_after (decision_of task before line) z ≡ Ok state) s known)

pub line_ended : (task : Task) (base b c : Option (List ℕ)) (pending pending' : List ℕ) (work work' : Work) (taken : List ℕ)
    → Decided task base b pending work taken → work'.state ≡ work.state → work'.progress ≡ Kept → work'.head ≡ []
    → Sends b c pending' (pending ++ to_send work.progress (10 ∷ [])) → Keeps task base c pending' work' (taken ++ 10 ∷ [])
line_ended task base b c pending pending' work work' taken decided s p h sent =
    let before = decided.before in
    let line = rest_from [] taken in
    let decision = decision_of task before line in
    let feed : to_send work.progress (10 ∷ []) ≡ line_feed decision = ap (λ (z : Progress). to_send z (10 ∷ [])) decided.progress
    ∙ line_feed-to_send decision in
    let rest = rest_from-line_feed [] taken in
    record {
      text = decided.text ++ (output_of decision line ++ line_feed decision);
      lines = lines_run-line_feed task taken decided.text before decided.lines
          ∙ ap (behind decided.text) (line_run-known task before work.state line decided.state decided.known)
          ∙ ap (λ (z : State). run (decided.text ++ (output_of decision line ++ line_feed decision)) (Ok z)) (sym s);
      progress = p;
      head = h ∙ sym rest;
      short = omega (arith, ap (length {A = ℕ}) rest);
      sent = subst (λ (z : List ℕ). Sends base c pending' z) (append_assoc decided.text (output_of decision line) (line_feed decision))
          (Sends-append base b c pending (decided.text ++ output_of decision line) pending' (line_feed decision) decided.sent
          (subst (λ (z : List ℕ). Sends b c pending' (pending ++ z)) feed sent));
    }

pub line_end_fault : (task : Task) (base b c : Option (List ℕ)) (pending pending' : List ℕ) (work : Work) (taken more : List ℕ) (fault : LineFault)
    → Decided task base b pending work taken → Passes {T = Unit} (Err fault) b c pending' (pending ++ to_send work.progress (10 ∷ []))
    → Ends task base c fault ((taken ++ 10 ∷ []) ++ more)
line_end_fault task base b c pending pending' work taken more Write decided cut =
    let before = decided.before in
    let line = rest_from [] taken in
    let decision = decision_of task before line in
    let feed : to_send work.progress (10 ∷ []) ≡ line_feed decision = ap (λ (z : Progress). to_send z (10 ∷ [])) decided.progress
    ∙ line_feed-to_send decision in
    let short = subst (λ (z : List ℕ). AppendsBeginning b c (pending ++ z)) feed cut in
    let written = AppendsBeginning-pending base b c pending (decided.text ++ output_of decision line) (line_feed decision) decided.sent short in
    let front = line_begins task before line more in
    subst (λ (z : List ℕ). Ends task base c Write z) (sym (append_assoc taken (10 ∷ []) more))
    (cut_short task base c taken (10 ∷ more) decided.text before (output_of decision line ++ line_feed decision) front.0 decided.lines front.1
    (subst (λ (z : List ℕ). AppendsBeginning base c z) (append_assoc decided.text (output_of decision line) (line_feed decision)) written))
line_end_fault task base b c pending pending' work taken more (Found found) decided cut = absurd cut

-- ---- the end of the input

open_text : (task : Task) (taken text : List ℕ) (before : State) → lines_run task (first_state task) (ended_from [] taken) ≡ run text (Ok before)
    → input_run task taken ≡ behind text (run_from task before (rest_from [] taken) [])
open_text task taken text before e = ap (input_run task) (sym (append-nil taken)) ∙ input_run-known task taken [] text before e

-- what the input comes to where it ends here
last_line : (task : Task) (state : State) (line : List ℕ) → 0 < length line → run_from task state line []
    ≡ run (output_of (decision_of task state line) line) (known_at_end task (known_after (decision_of task state line) (state_after task state line)))
last_line task state line some = last_run-some task state line some

-- all is known where it is settled
whole_text : (task : Task) (base now : Option (List ℕ)) (pending : List ℕ) (work : Work) (taken : List ℕ)
    → Settled task base now pending work taken
    → (bytes : List ℕ) × Sends base now pending bytes × (input_run task taken ≡ run bytes (known_at_end task (Ok work.state)))
unfolding last_run
whole_text task base now pending work taken (inl (keeps, none)) =
    let end = open_text task taken keeps.text work.state keeps.lines ∙ ap (λ (z : List ℕ). behind keeps.text (run_from task work.state z [])) none in
    (keeps.text, keeps.sent, end ∙ ap (λ (z : List ℕ). run z (known_at_end task (Ok work.state))) (append-nil keeps.text))
whole_text task base now pending work taken (inr (decided, some)) =
    let before = decided.before in
    let line = rest_from [] taken in
    let decision = decision_of task before line in
    let known : known_after decision (state_after task before line) ≡ Ok work.state = subst
    (λ (z : State). known_after decision z ≡ Ok work.state) decided.state decided.known in (
      decided.text ++ output_of decision line,
      decided.sent,
      open_text task taken decided.text before decided.lines ∙ ap (behind decided.text) (last_line task before line some)
          ∙ ap (λ (z : Result State Finding). run (decided.text ++ output_of decision line) (known_at_end task z)) known,
    )

-- all was written, and this is known then
all_written : (task : Task) (base b c : Option (List ℕ)) (pending : List ℕ) (work : Work) (taken : List ℕ)
    → Settled task base b pending work taken → Appends b c pending
    → Appends base c (input_run task taken).text × ((input_run task taken).end ≡ known_at_end task (Ok work.state))
all_written task base b c pending work taken settled written =
    let all = whole_text task base b pending work taken settled in (
      subst (λ (z : List ℕ). Appends base c z) (sym (ap (λ (z : Run). z.text) all.2)) (Appends-flushed base b c pending all.0 all.1 written),
      ap (λ (z : Run). z.end) all.2,
    )

pub completed : (task : Task) (base b c : Option (List ℕ)) (pending : List ℕ) (work : Work) (taken : List ℕ)
    → Settled task base b pending work taken → Appends b c pending → finding_at_end task work.state ≡ None → Completes task base c work taken
completed task base b c pending work taken settled written none =
    let all = all_written task base b c pending work taken settled written in
    let end = all.1 ∙ ap (λ (z : Option Finding). known_unless z work.state) none in
    record { written = all.0; end = end; tally = input_tally task taken work.state end }

-- the end of the input ends the run
pub found_at_end : (task : Task) (base b c : Option (List ℕ)) (pending : List ℕ) (work : Work) (taken : List ℕ) (found : Finding)
    → Settled task base b pending work taken → Appends b c pending → finding_at_end task work.state ≡ Some found
    → Ends task base c (Found found) taken
found_at_end task base b c pending work taken found settled written e =
    let all = all_written task base b c pending work taken settled written in
    (all.0, all.1 ∙ ap (λ (z : Option Finding). known_unless z work.state) e)

pub completion_fault : (task : Task) (base b c : Option (List ℕ)) (pending : List ℕ) (work : Work) (taken : List ℕ)
    → Settled task base b pending work taken → AppendsBeginning b c pending → Ends task base c Write taken
completion_fault task base b c pending work taken settled cut =
    let all = whole_text task base b pending work taken settled in
    subst (λ (z : List ℕ). AppendsBeginning base c z) (sym (ap (λ (z : Run). z.text) all.2)) (AppendsBeginning-flushed base b c pending all.0 all.1 cut)

-- ---- between two blocks

-- what is pending could not be written
pub stands_fault : (task : Task) (base b c : Option (List ℕ)) (pending : List ℕ) (work : Work) (taken more : List ℕ)
    → Stands task base b pending work taken → AppendsBeginning b c pending → Ends task base c Write (taken ++ more)
stands_fault task base b c pending work taken more (inl keeps) cut =
    cut_short task base c taken more keeps.text work.state [] (run_from task work.state (rest_from [] taken) more).text keeps.lines refl
    (subst (λ (z : List ℕ). AppendsBeginning base c z) (sym (append-nil keeps.text)) (AppendsBeginning-flushed base b c pending keeps.text keeps.sent cut))
stands_fault task base b c pending work taken more (inr (decided, long)) cut =
    let before = decided.before in
    let line = rest_from [] taken in
    let cont = continues_long task before line more long in
    cut_short task base c taken more decided.text before (output_of (decision_of task before line) line) cont.rest decided.lines cont.begins
    (AppendsBeginning-flushed base b c pending (decided.text ++ output_of (decision_of task before line) line) decided.sent cut)

-- what is pending was written
pub stands_flushed : (task : Task) (base b c : Option (List ℕ)) (pending pending' : List ℕ) (work : Work) (taken : List ℕ)
    → Stands task base b pending work taken → Appends b c pending → pending' ≡ [] → Stands task base c pending' work taken
stands_flushed task base b c pending pending' work taken (inl keeps) written none =
    inl record {
      text = keeps.text;
      lines = keeps.lines;
      progress = keeps.progress;
      head = keeps.head;
      short = keeps.short;
      sent = subst (λ (z : List ℕ). Sends base c z keeps.text) (sym none) (Sends-flushed base b c pending keeps.text keeps.sent written);
    }
stands_flushed task base b c pending pending' work taken (inr (decided, long)) written none =
    let all = decided.text ++ output_of (decision_of task decided.before (rest_from [] taken)) (rest_from [] taken) in
    inr (
      record {
        text = decided.text;
        before = decided.before;
        lines = decided.lines;
        state = decided.state;
        known = decided.known;
        progress = decided.progress;
        sent = subst (λ (z : List ℕ). Sends base c z all) (sym none) (Sends-flushed base b c pending all decided.sent written);
      },
      long,
    )

-- ---- a line that goes on

pub begins_kept : (r : Result Progress LineFault) (decision : Decision) (known : State) (old new : Option (List ℕ)) (pending pending' line text : List ℕ)
    (start count : ℕ) → Keep start text count ≡ decision
    → KeepsLine r old new pending' (pending ++ (take start line ++ (text ++ drop (start + count) line)))
    → Begins r decision known old new pending pending' line
begins_kept (Ok progress) decision known old new pending pending' line text start count e h = (
  subst (λ (z : Decision). Sends old new pending' (pending ++ output_of z line)) e h.0,
  h.1 ∙ ap progress_of e,
  ap (λ (z : Decision). known_after z known) (sym e),
)
begins_kept (Err Write) decision known old new pending pending' line text start count e h =
    subst (λ (z : Decision). AppendsBeginning old new (pending ++ output_of z line)) e h
begins_kept (Err (Found found)) decision known old new pending pending' line text start count e h = absurd h

-- a line that does not go on
pub begins_skipped : (decision : Decision) (known : State) (now : Option (List ℕ)) (pending line : List ℕ) → Skip ≡ decision
    → Begins (Ok Skipped) decision known now now pending pending line
begins_skipped decision known now pending line e =
    subst (λ (z : Decision). Begins (Ok Skipped) z known now now pending pending line) e (rw (append-nil pending) (Sends-nothing now pending), refl, refl)
