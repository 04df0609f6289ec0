-- Lines since a bound, and the others.
use Rattle.std.proofs.Common.{◌≡◌, refl, sym, ap, ◌∙◌, subst, ℕ, Bool, true, false, not, ◌&&◌, List}
use Rattle.std.proofs.Common.{[], ◌∷◌, ◌++◌, map, ℤ, int_lt, Option, Some, None, Result, Ok, Err, IsOk}
use Rattle.std.proofs.lemmas.List.{append-nil}
use Rattle.line_devices.specs.Lines.{pieces_of, unless_empty, whole_lines_of}
use Rattle.stamps.specs.Decisions.{decision_by, decision_of, finding_by, first_state, going_on, goes_on, goes_on_first, is_first, reading}
use Rattle.stamps.specs.Decisions.{state_after}
use Rattle.stamps.specs.Decisions as decisions
use Rattle.stamps.specs.Laws.{both_marks, fed, instants_up_to, is_since, line_stamps, line_texts, lines_since, marked_texts, stamps_of}
use Rattle.stamps.specs.Readers.{line_stamp}
use Rattle.stamps.specs.Runs.{Run, input_run, known_after, known_at_end, known_unless, last_of, last_run, line_feed, line_run, output_of, then_on}
use Rattle.stamps.specs.declared.readers.LineRefusal.{LineRefusal}
use Rattle.stamps.specs.declared.readers.LineStamp.{LineStamp}
use Rattle.stamps.specs.declared.readers.Reader.{Reader}
use Rattle.stamps.specs.declared.decide.Decision.{Decision}
use Rattle.stamps.specs.declared.decide.State.{State}
use Rattle.stamps.specs.declared.task.Task.{Task}
use Rattle.stamps.specs.declared.task.Action.{Action}
use Rattle.stamps.specs.declared.task.Action.TheVariants.{Since, Until, Between}
use Rattle.stamps.specs.declared.finding.Finding.{Finding}
use Rattle.stamps.proofs.LineLawLemmas.{later}
use Rattle.stamps.proofs.RunLemmas.{all_run, input_run-all, lines_of-last}

-- ---- tasks that write the lines whose instant passes a test

pub record Cuts (action : Action) (test : Option ℤ → Bool) : Type 0 where
  pub decides : (last latest : Option ℤ) (after : State) (stamp : Result LineStamp LineRefusal)
      → decision_by action last latest after stamp ≡ going_on after.goes_on
  pub marks : (was : Bool) (last : Option ℤ) (stamp : Result LineStamp LineRefusal) → was ≡ test last
      → goes_on action was stamp ≡ test (decisions.last_of last stamp)
  pub first : goes_on_first action ≡ test None
  pub ends : (state : State) → finding_by action state ≡ None

not-not : (b : Bool) → b ≡ not (not b)
not-not true = refl
not-not false = refl

since_marks : (b : ℤ) (was : Bool) (last : Option ℤ) (stamp : Result LineStamp LineRefusal) → was ≡ is_since b last
    → goes_on (Since b) was stamp ≡ is_since b (decisions.last_of last stamp)
since_marks b was last (Ok stamp) e = refl
since_marks b was last (Err refusal) e = e

pub since_cuts : (b : ℤ) → Cuts (Since b) (is_since b)
since_cuts b =
    record { decides = λ last latest after stamp. refl; marks = since_marks b; first = refl; ends = λ state. refl }

pub is_until : ℤ → Option ℤ → Bool
is_until b last = not (is_since b last)

until_marks : (b : ℤ) (was : Bool) (last : Option ℤ) (stamp : Result LineStamp LineRefusal) → was ≡ is_until b last
    → goes_on (Until b) was stamp ≡ is_until b (decisions.last_of last stamp)
unfolding is_until
until_marks b was last (Ok stamp) e = not-not (int_lt stamp.instant b)
until_marks b was last (Err refusal) e = e

pub until_cuts : (b : ℤ) → Cuts (Until b) (is_until b)
unfolding is_until
until_cuts b =
    record { decides = λ last latest after stamp. refl; marks = until_marks b; first = refl; ends = λ state. refl }

unfoldable pub is_between : ℤ → ℤ → Option ℤ → Bool
is_between from to last = is_since from last && is_until to last

between_marks : (from to : ℤ) (was : Bool) (last : Option ℤ) (stamp : Result LineStamp LineRefusal) → was ≡ is_between from to last
    → goes_on (Between from to) was stamp ≡ is_between from to (decisions.last_of last stamp)
unfolding is_between is_until
between_marks from to was last (Ok stamp) e = ap (λ (z : Bool). not (int_lt stamp.instant from) && z) (not-not (int_lt stamp.instant to))
between_marks from to was last (Err refusal) e = e

pub between_cuts : (from to : ℤ) → Cuts (Between from to) (is_between from to)
unfolding is_between is_until
between_cuts from to =
    record { decides = λ last latest after stamp. refl; marks = between_marks from to; first = refl; ends = λ state. refl }

-- ---- a line that goes on whole, or not at all

whole_line : (g : Bool) (state : State) (line : List ℕ) (marks : List Bool) (texts : List (List ℕ)) (next : State → Run)
    → (next state).text ≡ marked_texts marks texts
    → (then_on (output_of (going_on g) line ++ line_feed (going_on g)) (known_after (going_on g) state) next).text ≡ marked_texts (g ∷ marks) (fed line ∷ texts)
unfolding marked_texts
whole_line true state line marks texts next e = ap (λ (z : List ℕ). fed line ++ z) e
whole_line false state line marks texts next e = e

whole_last : (g : Bool) (line : List ℕ) → output_of (going_on g) line ≡ marked_texts (g ∷ []) (line ∷ [])
unfolding marked_texts
whole_last true line = sym (append-nil line)
whole_last false line = refl

line_ends : (g : Bool) (state : State) (line : List ℕ) (next : State → Run) → IsOk (next state).end
    → IsOk (then_on (output_of (going_on g) line ++ line_feed (going_on g)) (known_after (going_on g) state) next).end
line_ends true state line next e = e
line_ends false state line next e = e

no_finding : (found : Option Finding) (state : State) → found ≡ None → IsOk (known_unless found state)
no_finding None state e = refl
no_finding (Some found) state e = absurd cc

known_ends : (task : Task) (g : Bool) (state : State) → finding_by task.action state ≡ None → IsOk (known_at_end task (known_after (going_on g) state))
known_ends task true state e = no_finding (finding_by task.action state) state e
known_ends task false state e = no_finding (finding_by task.action state) state e

-- ---- lines

-- for each of the lines behind what is known, whether its instant passes the test
pub marks_from : Reader → (Option ℤ → Bool) → Bool → Option ℤ → List (List ℕ) → List Bool
marks_from r test first last lines = map test (instants_up_to last (line_stamps r last first lines))

cut_all : (a : Action) (test : Option ℤ → Bool) (c : Cuts a test) (r : Reader) (s : State) (lines : List (List ℕ)) (piece : List ℕ)
    → s.goes_on ≡ test s.last
    → (all_run (reading r a) s lines piece).text
    ≡ marked_texts (marks_from r test (is_first s) s.last (lines ++ unless_empty piece)) (map fed lines ++ unless_empty piece)
unfolding last_run line_run decision_of line_stamps instants_up_to marked_texts state_after marks_from
cut_all a test c r s [] [] e = refl
cut_all a test c r s [] (byte ∷ piece) e =
    let line = byte ∷ piece in
    let stamp = line_stamp r s.last (is_first s) line in
    let after = state_after (reading r a) s line in
    ap (λ (z : Decision). output_of z line) (c.decides s.last s.latest after stamp)
    ∙ whole_last (goes_on a s.goes_on stamp) line
    ∙ ap (λ (z : Bool). marked_texts (z ∷ []) (line ∷ [])) (c.marks s.goes_on s.last stamp e)
cut_all a test c r s (line ∷ lines) piece e =
    let stamp = line_stamp r s.last (is_first s) line in
    let g = goes_on a s.goes_on stamp in
    let after = state_after (reading r a) s line in
    let mark = c.marks s.goes_on s.last stamp e in
    let texts = map fed lines ++ unless_empty piece in
    let more = cut_all a test c r after lines piece mark
    ∙ ap (λ (z : Bool). marked_texts (marks_from r test z after.last (lines ++ unless_empty piece)) texts) (later (reading r a) s line) in
    let marks = marks_from r test false after.last (lines ++ unless_empty piece) in
    let next : State → Run = λ (known : State). all_run (reading r a) known lines piece in
    ap (λ (z : Decision). (then_on (output_of z line ++ line_feed z) (known_after z after) next).text) (c.decides s.last s.latest after stamp)
    ∙ whole_line g after line marks texts next more
    ∙ ap (λ (z : Bool). marked_texts (z ∷ marks) (fed line ∷ texts)) mark

cut_ends : (a : Action) (test : Option ℤ → Bool) (c : Cuts a test) (r : Reader) (s : State) (lines : List (List ℕ)) (piece : List ℕ)
    → IsOk (all_run (reading r a) s lines piece).end
unfolding last_run line_run decision_of state_after
cut_ends a test c r s [] [] = no_finding (finding_by a s) s (c.ends s)
cut_ends a test c r s [] (byte ∷ piece) =
    let line = byte ∷ piece in
    let stamp = line_stamp r s.last (is_first s) line in
    let after = state_after (reading r a) s line in
    subst (λ (z : Decision). IsOk (known_at_end (reading r a) (known_after z after))) (sym (c.decides s.last s.latest after stamp))
    (known_ends (reading r a) (goes_on a s.goes_on stamp) after (c.ends after))
cut_ends a test c r s (line ∷ lines) piece =
    let stamp = line_stamp r s.last (is_first s) line in
    let after = state_after (reading r a) s line in
    let next : State → Run = λ (known : State). all_run (reading r a) known lines piece in
    subst (λ (z : Decision). IsOk (then_on (output_of z line ++ line_feed z) (known_after z after) next).end)
    (sym (c.decides s.last s.latest after stamp))
    (line_ends (goes_on a s.goes_on stamp) after line next (cut_ends a test c r after lines piece))

-- ---- an input

abbrev whole : List ℕ → List (List ℕ)
whole input = whole_lines_of input

abbrev piece_of : List ℕ → List ℕ
piece_of input = last_of (pieces_of input)

text_of : (task : Task) (input : List ℕ) → (input_run task input).text ≡ (all_run task (first_state task) (whole input) (piece_of input)).text
text_of task input = ap (λ (z : Run). z.text) (input_run-all task input)

end_of : (task : Task) (input : List ℕ) → IsOk (all_run task (first_state task) (whole input) (piece_of input)).end → IsOk (input_run task input).end
end_of task input h = subst (λ (z : Run). IsOk z.end) (sym (input_run-all task input)) h

-- a task that cuts writes the lines whose instant passes its test, and to the end
pub cut_text : (a : Action) (test : Option ℤ → Bool) → Cuts a test → (reader : Reader) (input : List ℕ)
    → (input_run (reading reader a) input).text ≡ marked_texts (map test (instants_up_to None (stamps_of reader input))) (line_texts input)
unfolding marks_from
cut_text a test c r input =
    text_of (reading r a) input ∙ cut_all a test c r (first_state (reading r a)) (whole input) (piece_of input) c.first
    ∙ ap (λ (z : List (List ℕ)). marked_texts (marks_from r test true None z) (line_texts input)) (sym (lines_of-last input))

pub cut_end : (a : Action) (test : Option ℤ → Bool) → Cuts a test → (reader : Reader) (input : List ℕ) → IsOk (input_run (reading reader a) input).end
cut_end a test c r input = end_of (reading r a) input (cut_ends a test c r (first_state (reading r a)) (whole input) (piece_of input))

pub since_text : (reader : Reader) (bound : ℤ) (input : List ℕ)
    → (input_run (reading reader (Since bound)) input).text ≡ marked_texts (lines_since reader bound input) (line_texts input)
since_text r b input = cut_text (Since b) (is_since b) (since_cuts b) r input

not_marks : (b : ℤ) (instants : List (Option ℤ)) → map (is_until b) instants ≡ map not (map (is_since b) instants)
unfolding is_until
not_marks b [] = refl
not_marks b (i ∷ more) = ap (λ (z : List Bool). is_until b i ∷ z) (not_marks b more)

pub until_text : (reader : Reader) (bound : ℤ) (input : List ℕ)
    → (input_run (reading reader (Until bound)) input).text ≡ marked_texts (map not (lines_since reader bound input)) (line_texts input)
until_text r b input =
    cut_text (Until b) (is_until b) (until_cuts b) r input
    ∙ ap (λ (z : List Bool). marked_texts z (line_texts input)) (not_marks b (instants_up_to None (stamps_of r input)))

pub since_end : (reader : Reader) (bound : ℤ) (input : List ℕ) → IsOk (input_run (reading reader (Since bound)) input).end
since_end r b input = cut_end (Since b) (is_since b) (since_cuts b) r input

pub until_end : (reader : Reader) (bound : ℤ) (input : List ℕ) → IsOk (input_run (reading reader (Until bound)) input).end
until_end r b input = cut_end (Until b) (is_until b) (until_cuts b) r input

-- ---- `between`

meet_marks : (from to : ℤ) (instants : List (Option ℤ))
    → map (is_between from to) instants ≡ both_marks (map (is_since from) instants) (map not (map (is_since to) instants))
unfolding both_marks is_between is_until
meet_marks from to [] = refl
meet_marks from to (i ∷ more) = ap (λ (z : List Bool). is_between from to i ∷ z) (meet_marks from to more)

pub between_text : (reader : Reader) (from to : ℤ) (input : List ℕ)
    → (input_run (reading reader (Between from to)) input).text
    ≡ marked_texts (both_marks (lines_since reader from input) (map not (lines_since reader to input))) (line_texts input)
between_text r from to input =
    cut_text (Between from to) (is_between from to) (between_cuts from to) r input
    ∙ ap (λ (z : List Bool). marked_texts z (line_texts input)) (meet_marks from to (instants_up_to None (stamps_of r input)))

pub between_end : (reader : Reader) (from to : ℤ) (input : List ℕ) → IsOk (input_run (reading reader (Between from to)) input).end
between_end r from to input = cut_end (Between from to) (is_between from to) (between_cuts from to) r input
