-- Instants in order, of lines that all have a stamp, or of which one has.
use Rattle.std.proofs.Common.{◌≡◌, ◌↔◌, refl, sym, ap₂, ◌∙◌, subst, ℕ, Bool, true, false, not, ◌&&◌, ◌||◌}
use Rattle.std.proofs.Common.{nat_lt, List, [], ◌∷◌, ◌++◌, ℤ, Option, Some, None, Result, Ok, Err, IsOk, IsTrue, arith}
use Rattle.std.specs.Prelude.{if◌then◌else◌, is_none}
use Rattle.std.specs.List.{list_all, list_any}
use Rattle.std.specs.Result.{is_ok}
use Rattle.std.proofs.lemmas.Bool.{and_parts}
use Rattle.std.proofs.lemmas.Bool.Decides.{nat_tests}
use Rattle.line_devices.specs.Lines.{pieces_of, unless_empty, whole_lines_of}
use Rattle.stamps.specs.Decisions.{check_line, decision_of, finding_at_end, first_state, is_earlier, is_first, one_more, reading, state_after, stop_if}
use Rattle.stamps.specs.Decisions as decisions
use Rattle.stamps.specs.Laws.{instants, is_empty_or_any, is_out_of_range, line_stamps, none_earlier, stamps_of}
use Rattle.stamps.specs.Readers.{line_stamp}
use Rattle.stamps.specs.Runs.{Run, input_run, known_after, known_at_end, known_unless, last_of, last_run, line_feed, line_run, output_of, then_on}
use Rattle.stamps.specs.declared.readers.LineRefusal.{LineRefusal}
use Rattle.stamps.specs.declared.readers.LineRefusal.TheVariants.{Absent, OutOfRange, Part}
use Rattle.stamps.specs.declared.readers.LineStamp.{LineStamp}
use Rattle.stamps.specs.declared.readers.Reader.{Reader}
use Rattle.stamps.specs.declared.decide.State.{State}
use Rattle.stamps.specs.declared.finding.Cause.{Cause}
use Rattle.stamps.specs.declared.finding.Cause.TheVariants.{Earlier, Missing, Refused, Unread}
use Rattle.stamps.specs.declared.finding.Finding.TheVariants.{NoStamp}
use Rattle.stamps.specs.declared.task.Task.{Task}
use Rattle.stamps.specs.declared.task.Action.TheVariants.{Check}
use Rattle.stamps.proofs.LineLawLemmas.{later}
use Rattle.stamps.proofs.RunLemmas.{all_run, input_run-all, lines_of-last}

-- whether `check` passes a line with this stamp, but for the order
abbrev passes : Bool → Result LineStamp LineRefusal → Bool
passes is_strict (Ok stamp) = true
passes is_strict (Err Absent) = not is_strict
passes is_strict (Err (OutOfRange component)) = false
passes is_strict (Err (Part refusal)) = false

-- whether there is a stamp, or no line, behind so many lines of which the last stamp is known
abbrev closes : ℕ → Option ℤ → List (Result LineStamp LineRefusal) → Bool
closes lines last [] = not (nat_lt 0 lines && is_none last)
closes lines last (stamp ∷ stamps) = closes (one_more lines) (decisions.last_of last stamp) stamps

-- whether `check` finds nothing in the lines of these stamps
abbrev Passes : Bool → ℕ → Option ℤ → List (Result LineStamp LineRefusal) → Type 0
Passes is_strict lines last stamps =
    IsTrue (list_all (passes is_strict) stamps) × IsTrue (none_earlier last (instants stamps)) × IsTrue (closes lines last stamps)

-- ---- a line

-- a line that passes or not, and all that follows it
passed_on : (fails : Bool) (number : ℕ) (cause : Cause) (state : State) (line : List ℕ) (next : State → Run)
    → let decision = stop_if fails number cause in
    IsOk (then_on (output_of decision line ++ line_feed decision) (known_after decision state) next).end ↔ (IsTrue (not fails) × IsOk (next state).end)
passed_on true number cause state line next = (λ e. absurd cc, λ e. let f = e.0 in absurd cc)
passed_on false number cause state line next = (λ e. (refl, e), λ e. e.1)

passed_at_end : (task : Task) (fails : Bool) (number : ℕ) (cause : Cause) (state : State)
    → IsOk (known_at_end task (known_after (stop_if fails number cause) state)) ↔ (IsTrue (not fails) × IsOk (known_at_end task (Ok state)))
passed_at_end task true number cause state = (λ e. absurd cc, λ e. let f = e.0 in absurd cc)
passed_at_end task false number cause state = (λ e. (refl, e), λ e. e.1)

both : (a b : Bool) → IsTrue a → IsTrue b → IsTrue (a && b)
both a b e f = rw (e, f) refl

-- whether `check` ends at a line with this stamp
abbrev fails : Bool → Option ℤ → Result LineStamp LineRefusal → Bool
fails is_strict last (Ok stamp) = is_earlier stamp.instant last
fails is_strict last (Err Absent) = is_strict
fails is_strict last (Err (OutOfRange component)) = true
fails is_strict last (Err (Part refusal)) = true

checked_on : (is_strict : Bool) (number : ℕ) (last : Option ℤ) (stamp : Result LineStamp LineRefusal) (state : State) (line : List ℕ) (next : State → Run)
    → let decision = check_line is_strict number last stamp in
    IsOk (then_on (output_of decision line ++ line_feed decision) (known_after decision state) next).end
    ↔ (IsTrue (not (fails is_strict last stamp)) × IsOk (next state).end)
checked_on is_strict number last (Ok stamp) state line next = passed_on (is_earlier stamp.instant last) number Earlier state line next
checked_on is_strict number last (Err Absent) state line next = passed_on is_strict number Missing state line next
checked_on is_strict number last (Err (OutOfRange component)) state line next = passed_on true number (Refused component) state line next
checked_on is_strict number last (Err (Part refusal)) state line next = passed_on true number (Unread refusal) state line next

checked_at_end : (task : Task) (is_strict : Bool) (number : ℕ) (last : Option ℤ) (stamp : Result LineStamp LineRefusal) (state : State)
    → IsOk (known_at_end task (known_after (check_line is_strict number last stamp) state))
    ↔ (IsTrue (not (fails is_strict last stamp)) × IsOk (known_at_end task (Ok state)))
checked_at_end task is_strict number last (Ok stamp) state = passed_at_end task (is_earlier stamp.instant last) number Earlier state
checked_at_end task is_strict number last (Err Absent) state = passed_at_end task is_strict number Missing state
checked_at_end task is_strict number last (Err (OutOfRange component)) state = passed_at_end task true number (Refused component) state
checked_at_end task is_strict number last (Err (Part refusal)) state = passed_at_end task true number (Unread refusal) state

-- what a line passes, and what those behind it pass
passes_with : (is_strict : Bool) (lines : ℕ) (last : Option ℤ) (stamp : Result LineStamp LineRefusal)
    (stamps : List (Result LineStamp LineRefusal)) (Q P : Type 0)
    → Q ↔ (IsTrue (not (fails is_strict last stamp)) × P) → P ↔ Passes is_strict (one_more lines) (decisions.last_of last stamp) stamps
    → Q ↔ Passes is_strict lines last (stamp ∷ stamps)
unfolding instants none_earlier
passes_with is_strict lines last (Ok stamp) stamps Q P q p = (
  λ e.
      let f = q.0 e in
      let g = p.0 f.1 in
      (g.0, both (not (is_earlier stamp.instant last)) (none_earlier (Some stamp.instant) (instants stamps)) f.0 g.1, g.2),
  λ e.
      let f = and_parts (not (is_earlier stamp.instant last)) (none_earlier (Some stamp.instant) (instants stamps)) e.1 in
      q.1 (f.0, p.1 (e.0, f.1, e.2)),
)
passes_with is_strict lines last (Err Absent) stamps Q P q p = (
  λ e.
      let f = q.0 e in
      let g = p.0 f.1 in
      (both (not is_strict) (list_all (passes is_strict) stamps) f.0 g.0, g.1, g.2),
  λ e.
      let f = and_parts (not is_strict) (list_all (passes is_strict) stamps) e.0 in
      q.1 (f.0, p.1 (f.1, e.1, e.2)),
)
passes_with is_strict lines last (Err (OutOfRange component)) stamps Q P q p = (
  λ e.
      let f = (q.0 e).0 in
      absurd cc,
  λ e.
      let f = e.0 in
      absurd cc,
)
passes_with is_strict lines last (Err (Part refusal)) stamps Q P q p = (
  λ e.
      let f = (q.0 e).0 in
      absurd cc,
  λ e.
      let f = e.0 in
      absurd cc,
)

-- ---- the end of the input

closes_at : (test : Bool) (state : State) → IsOk (known_unless (if test then Some NoStamp else None) state) ↔ IsTrue (not test)
closes_at true state = (λ e. absurd cc, λ e. absurd cc)
closes_at false state = (λ e. refl, λ e. refl)

passes_at_end : (r : Reader) (is_strict : Bool) (s : State) → IsOk (known_at_end (reading r (Check is_strict)) (Ok s)) ↔ Passes is_strict s.lines s.last []
unfolding instants none_earlier
passes_at_end r is_strict s =
    let close = closes_at (nat_lt 0 s.lines && is_none s.last) s in
    (λ e. (refl, refl, close.0 e), λ e. close.1 e.2)

-- ---- all lines

check_all : (r : Reader) (is_strict : Bool) (s : State) (lines : List (List ℕ)) (piece : List ℕ)
    → IsOk (all_run (reading r (Check is_strict)) s lines piece).end
    ↔ Passes is_strict s.lines s.last (line_stamps r s.last (is_first s) (lines ++ unless_empty piece))
unfolding last_run line_run decision_of line_stamps state_after
check_all r is_strict s [] [] = passes_at_end r is_strict s
check_all r is_strict s [] (byte ∷ piece) =
    let stamp = line_stamp r s.last (is_first s) (byte ∷ piece) in
    let after = state_after (reading r (Check is_strict)) s (byte ∷ piece) in
    passes_with is_strict s.lines s.last stamp [] _ _ (checked_at_end (reading r (Check is_strict)) is_strict (one_more s.lines) s.last stamp after)
    (passes_at_end r is_strict after)
check_all r is_strict s (line ∷ lines) piece =
    let stamp = line_stamp r s.last (is_first s) line in
    let after = state_after (reading r (Check is_strict)) s line in
    let rest = lines ++ unless_empty piece in
    let more = subst (λ (z : Bool). IsOk (all_run (reading r (Check is_strict)) after lines piece).end
    ↔ Passes is_strict after.lines after.last (line_stamps r after.last z rest))
    (later (reading r (Check is_strict)) s line) (check_all r is_strict after lines piece) in
    passes_with is_strict s.lines s.last stamp (line_stamps r after.last false rest) _ _
    (checked_on is_strict (one_more s.lines) s.last stamp after line (λ next. all_run (reading r (Check is_strict)) next lines piece)) more

-- ---- in the words of the law

closes_later : (lines : ℕ) (last : Option ℤ) (stamps : List (Result LineStamp LineRefusal)) → nat_lt 0 lines ≡ true
    → closes lines last stamps ≡ (not (is_none last) || list_any is_ok stamps)
closes_later lines None [] e = rw e refl
closes_later lines (Some i) [] e = rw e refl
closes_later lines None (Ok stamp ∷ stamps) e = closes_later (one_more lines) (Some stamp.instant) stamps (grind (arith, nat_tests))
closes_later lines (Some i) (Ok stamp ∷ stamps) e = closes_later (one_more lines) (Some stamp.instant) stamps (grind (arith, nat_tests))
closes_later lines last (Err refusal ∷ stamps) e = closes_later (one_more lines) last stamps (grind (arith, nat_tests))

closes_first : (stamps : List (Result LineStamp LineRefusal)) → closes 0 None stamps ≡ is_empty_or_any is_ok stamps
closes_first [] = refl
closes_first (Ok stamp ∷ stamps) = closes_later 1 (Some stamp.instant) stamps refl
closes_first (Err refusal ∷ stamps) = closes_later 1 None stamps refl

all_same : {A : Type 0} (p q : A → Bool) (xs : List A) → ((x : A) → p x ≡ q x) → list_all p xs ≡ list_all q xs
all_same p q [] h = refl
all_same p q (x ∷ xs) h = ap₂ (λ (a b : Bool). a && b) (h x) (all_same p q xs h)

passes_lenient : (stamp : Result LineStamp LineRefusal) → passes false stamp ≡ not (is_out_of_range stamp)
passes_lenient (Ok stamp) = refl
passes_lenient (Err Absent) = refl
passes_lenient (Err (OutOfRange component)) = refl
passes_lenient (Err (Part refusal)) = refl

passes_strict : (stamp : Result LineStamp LineRefusal) → passes true stamp ≡ is_ok stamp
passes_strict (Ok stamp) = refl
passes_strict (Err Absent) = refl
passes_strict (Err (OutOfRange component)) = refl
passes_strict (Err (Part refusal)) = refl

any_of_all : (stamps : List (Result LineStamp LineRefusal)) → IsTrue (list_all is_ok stamps) → IsTrue (is_empty_or_any is_ok stamps)
any_of_all [] e = refl
any_of_all (Ok stamp ∷ stamps) e = refl
any_of_all (Err refusal ∷ stamps) e = absurd cc

check_input : (r : Reader) (is_strict : Bool) (input : List ℕ)
    → IsOk (input_run (reading r (Check is_strict)) input).end ↔ Passes is_strict 0 None (stamps_of r input)
check_input r is_strict input =
    subst (λ (z : List (List ℕ)). IsOk (input_run (reading r (Check is_strict)) input).end
    ↔ Passes is_strict 0 None (line_stamps r None true z)) (sym (lines_of-last input))
    (subst (λ (z : Run). IsOk z.end ↔ Passes is_strict 0 None (line_stamps r None true (whole_lines_of input ++ unless_empty (last_of (pieces_of input)))))
    (sym (input_run-all (reading r (Check is_strict)) input))
    (check_all r is_strict (first_state (reading r (Check is_strict))) (whole_lines_of input) (last_of (pieces_of input))))

pub lenient : (r : Reader) (input : List ℕ) → IsOk (input_run (reading r (Check false)) input).end
    ↔ (IsTrue (list_all (λ stamp. not (is_out_of_range stamp)) (stamps_of r input)) × IsTrue (none_earlier None (instants (stamps_of r input)))
    × IsTrue (is_empty_or_any is_ok (stamps_of r input)))
lenient r input =
    let stamps = stamps_of r input in
    let all = all_same (passes false) (λ stamp. not (is_out_of_range stamp)) stamps passes_lenient in
    let any = closes_first stamps in
    let h = check_input r false input in (
      λ e.
          let f = h.0 e in
          (sym all ∙ f.0, f.1, sym any ∙ f.2),
      λ e. h.1 (all ∙ e.0, e.1, any ∙ e.2),
    )

pub strict : (r : Reader) (input : List ℕ) → IsOk (input_run (reading r (Check true)) input).end
    ↔ (IsTrue (list_all is_ok (stamps_of r input)) × IsTrue (none_earlier None (instants (stamps_of r input))))
strict r input =
    let stamps = stamps_of r input in
    let all = all_same (passes true) is_ok stamps passes_strict in
    let any = closes_first stamps in
    let h = check_input r true input in (
      λ e.
          let f = h.0 e in
          (sym all ∙ f.0, f.1),
      λ e. h.1 (all ∙ e.0, e.1, any ∙ any_of_all stamps e.0),
    )
