-- The tally at the end of a run is that of its input.
use Rattle.std.proofs.Common.{◌≡◌, refl, sym, ap, ap₂, ◌∙◌, ℕ, ◌+◌, List, [], ◌∷◌, ◌++◌, length, length-append, Option, Some, None}
use Rattle.std.proofs.Common.{Result, Ok, Err, arith, append_assoc, append-nil}
use Rattle.line_devices.specs.Lines.{pieces_of, unless_empty, whole_lines_of}
use Rattle.line_devices.specs.StampTallies.{as_count, tally_after, tally_of_kinds}
use Rattle.line_devices.specs.StampTallyLemmas.{tally_of_kinds-nil, tally_of_kinds-push}
use Rattle.line_devices.specs.declared.stamp_tallies.LineKind.{LineKind}
use Rattle.line_devices.specs.declared.stamp_tallies.StampTally.{StampTally}
use Rattle.stamps.specs.Decisions.{decision_of, finding_at_end, first_state, line_kind, one_more, stamp_after, state_after}
use Rattle.stamps.specs.Runs.{Run, input_run, known_after, known_at_end, known_unless, last_of, last_run, line_run, then_on}
use Rattle.stamps.specs.Tallies.{kinds_of, stamps_from, tally_of}
use Rattle.stamps.specs.declared.decide.Decision.{Decision}
use Rattle.stamps.specs.declared.decide.Decision.TheVariants.{Keep, Skip, Stop, Tell}
use Rattle.stamps.specs.declared.decide.State.{State}
use Rattle.stamps.specs.declared.finding.Finding.{Finding}
use Rattle.stamps.specs.declared.task.Task.{Task}
use Rattle.stamps.proofs.RunLemmas.{all_run, input_run-all, lines_of-last}

-- the state knows lines of these kinds
abbrev Tallied : State → List LineKind → Type 0
Tallied s kinds = (s.lines ≡ as_count (length kinds)) × (s.tally ≡ tally_of_kinds kinds)

-- the kind of the next line
abbrev next_kind : Task → State → List ℕ → LineKind
next_kind task s line = line_kind line (stamp_after task s line)

tallied_more : (task : Task) (s : State) (kinds : List LineKind) (line : List ℕ) → Tallied s kinds
    → Tallied (state_after task s line) (kinds ++ next_kind task s line ∷ [])
unfolding state_after
tallied_more task s kinds line h =
    let kind = next_kind task s line in
    let number : one_more s.lines ≡ as_count (length kinds + 1) = omega (arith, h.0) in (
      number ∙ ap as_count (sym (length-append kinds (kind ∷ []))),
      ap₂ (λ (tally : StampTally) (n : ℕ). tally_after tally n kind) h.1 number ∙ sym (tally_of_kinds-push kinds kind),
    )

-- ---- runs that end well

known_is : (decision : Decision) (state final : State) → known_after decision state ≡ Ok final → state ≡ final
known_is (Keep start text count) state final e = cc
known_is Skip state final e = cc
known_is (Tell note) state final e = cc
known_is (Stop found) state final e = absurd cc

unless_is : (found : Option Finding) (state final : State) → known_unless found state ≡ Ok final → state ≡ final
unless_is None state final e = cc
unless_is (Some found) state final e = absurd cc

at_end_is : (task : Task) (known : Result State Finding) (final : State) → known_at_end task known ≡ Ok final → known ≡ Ok final
at_end_is task (Ok state) final e = ap (λ (z : State). Ok z) (unless_is (finding_at_end task state) state final e)
at_end_is task (Err found) final e = absurd cc

then_is : (text : List ℕ) (decision : Decision) (state final : State) (next : State → Run)
    → (then_on text (known_after decision state) next).end ≡ Ok final → (next state).end ≡ Ok final
then_is text (Keep start shown count) state final next e = e
then_is text Skip state final next e = e
then_is text (Tell note) state final next e = e
then_is text (Stop found) state final next e = absurd cc

tally_all : (task : Task) (s final : State) (kinds : List LineKind) (lines : List (List ℕ)) (piece : List ℕ) → Tallied s kinds
    → (all_run task s lines piece).end ≡ Ok final
    → let rest = lines ++ unless_empty piece in
    final.tally ≡ tally_of_kinds (kinds ++ kinds_of rest (stamps_from task s rest))
unfolding last_run line_run stamps_from
tally_all task s final kinds [] [] h e =
    let same = unless_is (finding_at_end task s) s final e in
    ap (λ (z : State). z.tally) (sym same) ∙ h.1 ∙ ap tally_of_kinds (sym (append-nil kinds))
tally_all task s final kinds [] (byte ∷ piece) h e =
    let line = byte ∷ piece in
    let same = known_is (decision_of task s line) (state_after task s line) final (at_end_is task _ final e) in
    ap (λ (z : State). z.tally) (sym same) ∙ (tallied_more task s kinds line h).1
tally_all task s final kinds (line ∷ lines) piece h e =
    let after = state_after task s line in
    let kind = next_kind task s line in
    let rest = lines ++ unless_empty piece in
    let more = then_is _ (decision_of task s line) after final (λ next. all_run task next lines piece) e in
    let all = tally_all task after final (kinds ++ kind ∷ []) lines piece (tallied_more task s kinds line h) more in
    all ∙ ap tally_of_kinds (append_assoc kinds (kind ∷ []) (kinds_of rest (stamps_from task after rest)))

-- the run of an input that ends well has its tally
pub input_tally : (task : Task) (input : List ℕ) (final : State) → (input_run task input).end ≡ Ok final → final.tally ≡ tally_of task input
unfolding tally_of
input_tally task input final e =
    let end = sym (ap (λ (z : Run). z.end) (input_run-all task input)) ∙ e in
    tally_all task (first_state task) final [] (whole_lines_of input) (last_of (pieces_of input)) (refl, sym tally_of_kinds-nil) end
    ∙ ap (λ (z : List (List ℕ)). tally_of_kinds (kinds_of z (stamps_from task (first_state task) z))) (sym (lines_of-last input))
