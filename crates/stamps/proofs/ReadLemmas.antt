-- Reading an input to its end, a block at a time.
use Rattle.std.proofs.Common.{◌≡◌, inl, inr, ℕ, ◌≤◌, ◌<◌, true, false, nat_lt, List, [], length, Option, Ok}
use Rattle.std.proofs.Common.{refl, sym, ap, subst, ◌∙◌, arith}
use Rattle.std.proofs.Common.{append-nil}
use Rattle.std.specs.Io.KnownBytes.{Appends}
use Rattle.std.proofs.lemmas.Bool.Decides.{nat_tests}
use Rattle.line_devices.specs.LineParts.{ended_from, rest_from}
use Rattle.line_devices.specs.Writing.{Sends}
use Rattle.line_devices.specs.WritingLemmas.{Appends-nil, Appends-flushed, Sends-nothing}
use Rattle.stamps.specs.Decisions.{decision_of, state_after, first_state}
use Rattle.stamps.specs.LineStamps.{longest_head}
use Rattle.stamps.specs.Progress.{Stands}
use Rattle.stamps.specs.Runs.{Run, run, behind, output_of, known_after, lines_run, begun_run, open_run}
use Rattle.stamps.specs.declared.decide.State.{State}
use Rattle.stamps.specs.declared.lines.Progress.TheVariants.{Kept}
use Rattle.stamps.specs.declared.lines.Work.{Work}
use Rattle.stamps.specs.declared.task.Task.{Task}
use Rattle.stamps.proofs.RunLemmas.{open_run-known}

-- before anything is read
pub stands_first : (task : Task) (base : Option (List ℕ)) (pending : List ℕ) (work : Work) → work.state ≡ first_state task → work.progress ≡ Kept
    → work.head ≡ [] → pending ≡ [] → Stands task base base pending work []
unfolding ended_from rest_from lines_run
stands_first task base pending work s p h none =
    inl record {
      text = [];
      lines = ap (λ (z : State). run [] (Ok z)) (sym s);
      progress = p;
      head = h;
      short = omega arith;
      sent = subst (λ (z : List ℕ). Sends base base z []) (sym none) (Sends-nothing base []);
    }

-- of the last line nothing was begun
begun_run-short : (task : Task) (state : State) (line : List ℕ) → length line < longest_head → begun_run task state line ≡ run [] (Ok state)
begun_run-short task state line short =
    let t : nat_lt (length line) longest_head ≡ true = grind (arith, nat_tests) in rw t refl

begun_run-long : (task : Task) (state : State) (line : List ℕ) → longest_head ≤ length line
    → begun_run task state line ≡ run (output_of (decision_of task state line) line) (known_after (decision_of task state line) (state_after task state line))
begun_run-long task state line long =
    let t : nat_lt (length line) longest_head ≡ false = grind (arith, nat_tests) in
    rw t refl

-- where nothing is pending, all that was sent was written
all_sent : (base now : Option (List ℕ)) (pending bytes : List ℕ) → Sends base now pending bytes → pending ≡ [] → Appends base now bytes
all_sent base now pending bytes h none =
    Appends-flushed base now now pending bytes h (subst (λ (z : List ℕ). Appends now now z) (sym none) (Appends-nil now))

-- what can be told of the bytes that were read was written, where nothing is pending
pub written_open : (task : Task) (base now : Option (List ℕ)) (pending : List ℕ) (work : Work) (taken : List ℕ)
    → Stands task base now pending work taken → pending ≡ [] → Appends base now (open_run task taken).text
written_open task base now pending work taken (inl keeps) none =
    let text = open_run-known task taken keeps.text work.state keeps.lines
    ∙ ap (behind keeps.text) (begun_run-short task work.state (rest_from [] taken) keeps.short) in
    subst (λ (z : List ℕ). Appends base now z) (sym (ap (λ (z : Run). z.text) text ∙ append-nil keeps.text))
    (all_sent base now pending keeps.text keeps.sent none)
written_open task base now pending work taken (inr (decided, long)) none =
    let text = open_run-known task taken decided.text decided.before decided.lines
    ∙ ap (behind decided.text) (begun_run-long task decided.before (rest_from [] taken) long) in
    subst (λ (z : List ℕ). Appends base now z) (sym (ap (λ (z : Run). z.text) text)) (all_sent base now pending _ decided.sent none)
