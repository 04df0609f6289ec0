-- What an input comes to, part by part.
use Rattle.std.proofs.Common.{◌≡◌, ℕ, true, false, cond, nat_eq, List, [], ◌∷◌, ◌++◌, Result, Ok}
use Rattle.std.proofs.Common.{Err}
use Rattle.std.proofs.Common.{refl, sym, ap, ◌∙◌, append_assoc, append-nil}
use Rattle.line_devices.specs.LineLemmas.{pieces_of-parts, whole_lines_of-parts, ended_from-line_feed}
use Rattle.line_devices.specs.LineParts.{ended_from, rest_from}
use Rattle.line_devices.specs.Lines.{lines_of, pieces_of, unless_empty, whole_lines_of, without_empty_last, without_last}
use Rattle.stamps.specs.Decisions.{first_state}
use Rattle.stamps.specs.Runs.{Run, run, behind, then_on, line_run, last_run, lines_run, last_of, input_run, begun_run, open_run}
use Rattle.stamps.specs.declared.decide.State.{State}
use Rattle.stamps.specs.declared.finding.Finding.{Finding}
use Rattle.stamps.specs.declared.task.Task.{Task}

-- ---- one run after another

pub behind-nil : (r : Run) → behind [] r ≡ r
behind-nil r = refl

then_on-behind : (a text : List ℕ) (end : Result State Finding) (next : State → Run) → then_on (a ++ text) end next ≡ behind a (then_on text end next)
then_on-behind a text (Ok state) next = ap (λ (z : List ℕ). run z (next state).end) (append_assoc a text (next state).text)
then_on-behind a text (Err found) next = refl

then_on-then_on : (text : List ℕ) (end : Result State Finding) (next last : State → Run)
    → then_on (then_on text end next).text (then_on text end next).end last ≡ then_on text end (λ state. then_on (next state).text (next state).end last)
then_on-then_on text (Ok state) next last = then_on-behind text (next state).text (next state).end last
then_on-then_on text (Err found) next last = refl

then_on-same : (text : List ℕ) (end : Result State Finding) (next other : State → Run) → ((state : State) → next state ≡ other state)
    → then_on text end next ≡ then_on text end other
then_on-same text (Ok state) next other h = ap (behind text) (h state)
then_on-same text (Err found) next other h = refl

-- what comes first stands in front
pub then_on-text : (text : List ℕ) (end : Result State Finding) (next : State → Run) → (z : List ℕ) × ((then_on text end next).text ≡ text ++ z)
then_on-text text (Ok state) next = ((next state).text, refl)
then_on-text text (Err found) next = ([], sym (append-nil text))

-- ---- an input, byte by byte: `piece` is what came of a line before

abbrev pub run_from : Task → State → List ℕ → List ℕ → Run
run_from task state piece [] = last_run task state piece
run_from task state piece (byte ∷ more) =
    cond (nat_eq byte 10) (then_on (line_run task state piece).text (line_run task state piece).end (λ next. run_from task next [] more))
    (run_from task state (piece ++ byte ∷ []) more)

-- lines, and then what follows a piece
abbrev after_lines : Task → Run → List ℕ → List ℕ → Run
after_lines task lines piece more = then_on lines.text lines.end (λ next. run_from task next piece more)

run_from-append : (task : Task) (state : State) (piece xs more : List ℕ)
    → run_from task state piece (xs ++ more) ≡ after_lines task (lines_run task state (ended_from piece xs)) (rest_from piece xs) more
unfolding ended_from rest_from lines_run
run_from-append task state piece [] more = sym (behind-nil (run_from task state piece more))
run_from-append task state piece (byte ∷ xs) more =
    let first = line_run task state piece in
    elim (nat_eq byte 10) as (λ t. cond t (then_on first.text first.end (λ next. run_from task next [] (xs ++ more)))
    (run_from task state (piece ++ byte ∷ []) (xs ++ more))
    ≡ after_lines task (lines_run task state (cond t (piece ∷ ended_from [] xs) (ended_from (piece ++ byte ∷ []) xs)))
    (cond t (rest_from [] xs) (rest_from (piece ++ byte ∷ []) xs)) more) [
      | true ↦
          then_on-same first.text first.end (λ next. run_from task next [] (xs ++ more))
          (λ next. after_lines task (lines_run task next (ended_from [] xs)) (rest_from [] xs) more) (λ next. run_from-append task next [] xs more)
          ∙ sym (then_on-then_on first.text first.end (λ next. lines_run task next (ended_from [] xs)) (λ next. run_from task next (rest_from [] xs) more))
      | false ↦ run_from-append task state (piece ++ byte ∷ []) xs more
    ]

last_of-append : (xs : List (List ℕ)) (piece : List ℕ) → last_of (xs ++ piece ∷ []) ≡ piece
last_of-append [] piece = refl
last_of-append (x ∷ []) piece = refl
last_of-append (x ∷ y ∷ xs) piece = last_of-append (y ∷ xs) piece

pub last_of-pieces : (input : List ℕ) → last_of (pieces_of input) ≡ rest_from [] input
last_of-pieces input = ap last_of (pieces_of-parts input) ∙ last_of-append (ended_from [] input) (rest_from [] input)

-- lines, and what stands behind them
abbrev from_lines : Task → List (List ℕ) → List ℕ → Run
from_lines task lines piece =
    then_on (lines_run task (first_state task) lines).text (lines_run task (first_state task) lines).end (λ next. last_run task next piece)

input_run-from : (task : Task) (input : List ℕ) → input_run task input ≡ run_from task (first_state task) [] input
unfolding input_run
input_run-from task input =
    ap (λ (z : List (List ℕ)). from_lines task z (last_of (pieces_of input))) (whole_lines_of-parts input)
    ∙ ap (λ (z : List ℕ). from_lines task (ended_from [] input) z) (last_of-pieces input)
    ∙ sym (run_from-append task (first_state task) [] input [])
    ∙ ap (run_from task (first_state task) []) (append-nil input)

-- where the lines that ended are known, the input comes to their text and what follows
pub input_run-known : (task : Task) (taken more text : List ℕ) (before : State)
    → lines_run task (first_state task) (ended_from [] taken) ≡ run text (Ok before)
    → input_run task (taken ++ more) ≡ behind text (run_from task before (rest_from [] taken) more)
input_run-known task taken more text before e =
    input_run-from task (taken ++ more) ∙ run_from-append task (first_state task) [] taken more
    ∙ ap (λ (z : Run). after_lines task z (rest_from [] taken) more) e

nothing_behind : (text : List ℕ) (end : Result State Finding) → then_on text end (λ next. run [] (Ok next)) ≡ run text end
nothing_behind text (Ok state) = ap (λ (z : List ℕ). run z (Ok state)) (append-nil text)
nothing_behind text (Err found) = refl

-- nothing follows
then_on-nothing : (r : Run) → then_on r.text r.end (λ next. run [] (Ok next)) ≡ r
then_on-nothing r = nothing_behind r.text r.end

-- a line more
lines_run-one : (task : Task) (state : State) (lines : List (List ℕ)) (line : List ℕ)
    → lines_run task state (lines ++ line ∷ [])
    ≡ then_on (lines_run task state lines).text (lines_run task state lines).end (λ next. line_run task next line)
unfolding lines_run
lines_run-one task state [] line = then_on-nothing (line_run task state line)
lines_run-one task state (first ∷ lines) line =
    let r = line_run task state first in
    then_on-same r.text r.end (λ next. lines_run task next (lines ++ line ∷ []))
    (λ next. then_on (lines_run task next lines).text (lines_run task next lines).end (λ last. line_run task last line))
    (λ next. lines_run-one task next lines line)
    ∙ sym (then_on-then_on r.text r.end (λ next. lines_run task next lines) (λ last. line_run task last line))

-- and with a line feed more, the last piece is a line that ended
pub lines_run-line_feed : (task : Task) (taken text : List ℕ) (before : State)
    → lines_run task (first_state task) (ended_from [] taken) ≡ run text (Ok before)
    → lines_run task (first_state task) (ended_from [] (taken ++ 10 ∷ [])) ≡ behind text (line_run task before (rest_from [] taken))
lines_run-line_feed task taken text before e =
    ap (lines_run task (first_state task)) (ended_from-line_feed [] taken)
    ∙ lines_run-one task (first_state task) (ended_from [] taken) (rest_from [] taken)
    ∙ ap (λ (z : Run). then_on z.text z.end (λ next. line_run task next (rest_from [] taken))) e

-- lines, and of what stands behind them what was begun
abbrev open_lines : Task → List (List ℕ) → List ℕ → Run
open_lines task lines piece =
    then_on (lines_run task (first_state task) lines).text (lines_run task (first_state task) lines).end (λ next. begun_run task next piece)

-- what is written while more may come, where the lines that ended are known
pub open_run-known : (task : Task) (taken text : List ℕ) (before : State)
    → lines_run task (first_state task) (ended_from [] taken) ≡ run text (Ok before)
    → open_run task taken ≡ behind text (begun_run task before (rest_from [] taken))
unfolding open_run
open_run-known task taken text before e =
    ap (λ (z : List (List ℕ)). open_lines task z (last_of (pieces_of taken))) (whole_lines_of-parts taken)
    ∙ ap (λ (z : List ℕ). open_lines task (ended_from [] taken) z) (last_of-pieces taken)
    ∙ ap (λ (z : Run). then_on z.text z.end (λ next. begun_run task next (rest_from [] taken))) e

-- ---- an input, line by line

-- lines that line feeds end, and what stands behind them
abbrev pub all_run : Task → State → List (List ℕ) → List ℕ → Run
all_run task state [] piece = last_run task state piece
all_run task state (line ∷ lines) piece =
    then_on (line_run task state line).text (line_run task state line).end (λ next. all_run task next lines piece)

lines_run-all : (task : Task) (state : State) (lines : List (List ℕ)) (piece : List ℕ)
    → then_on (lines_run task state lines).text (lines_run task state lines).end (λ next. last_run task next piece) ≡ all_run task state lines piece
unfolding lines_run
lines_run-all task state [] piece = behind-nil (last_run task state piece)
lines_run-all task state (line ∷ lines) piece =
    let r = line_run task state line in
    then_on-then_on r.text r.end (λ next. lines_run task next lines) (λ next. last_run task next piece)
    ∙ then_on-same r.text r.end (λ next. then_on (lines_run task next lines).text (lines_run task next lines).end (λ last. last_run task last piece))
    (λ next. all_run task next lines piece) (λ next. lines_run-all task next lines piece)

pub input_run-all : (task : Task) (input : List ℕ)
    → input_run task input ≡ all_run task (first_state task) (whole_lines_of input) (last_of (pieces_of input))
unfolding input_run
input_run-all task input = lines_run-all task (first_state task) (whole_lines_of input) (last_of (pieces_of input))

-- the lines of an input are those that line feeds end, and what stands behind them
without_empty-parts : (pieces : List (List ℕ)) → without_empty_last pieces ≡ without_last pieces ++ unless_empty (last_of pieces)
without_empty-parts [] = refl
without_empty-parts (piece ∷ []) = refl
without_empty-parts (piece ∷ next ∷ pieces) = ap (λ (z : List (List ℕ)). piece ∷ z) (without_empty-parts (next ∷ pieces))

pub lines_of-last : (input : List ℕ) → lines_of input ≡ whole_lines_of input ++ unless_empty (last_of (pieces_of input))
lines_of-last input = without_empty-parts (pieces_of input)
