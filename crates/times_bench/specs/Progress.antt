-- The answers to lines that are written, which a failed write or a lack of memory may end.
use Rattle.std.specs.Prelude.{◌≡◌, ℕ, ◌+◌, ◌≤◌, Bool, true, IsTrue, List, ◌∷◌, ◌++◌, length, Option, Result, Ok, Err, MatchResult}
use Rattle.std.specs.Io.KnownBytes.{Appends}
use Rattle.times_bench.specs.declared.sending.AnswerFault.{AnswerFault}
use Rattle.times_bench.specs.declared.sending.AnswerFault.TheVariants.{Write, Memory}
use Rattle.times_bench.specs.Answers.{takes_memory, answer_of, answers_of}
use Rattle.line_devices.specs.Writing.{AppendsBeginning, Sends}

-- an answer has room after the pending bytes: 256 replies and the parts after them, each of at most 64 bytes
abbrev pub HasRoom : List ℕ → Type 0
HasRoom pending = length pending + 16_640 ≤ 65_536

-- the lines begin with those before, and then have a line that takes memory
pub record StopsAtMemory (lines before : List (List ℕ)) : Type 0 where
  pub line : List ℕ
  pub after : List (List ℕ)
  pub whole : lines ≡ before ++ line ∷ after
  pub takes : IsTrue (takes_memory line)

-- exactly the answers to the lines before one that takes memory were written
pub record AnswersBeforeMemory (old new : Option (List ℕ)) (lines : List (List ℕ)) : Type 0 where
  pub before : List (List ℕ)
  pub stops : StopsAtMemory lines before
  pub appended : Appends old new (answers_of before)

-- the condition after a failed write, and the condition if there was no memory
abbrev pub AtFault : AnswerFault → Type 0 → Type 0 → Type 0
AtFault Write Cut Short = Cut
AtFault Memory Cut Short = Short

-- the mark after the work: a failed write sets it
abbrev pub mark_after : {T : Type 0} → Result T AnswerFault → Bool → Bool
mark_after (Ok done) mark = mark
mark_after (Err Write) mark = true
mark_after (Err Memory) mark = mark

-- the pending bytes were written, or a beginning of them
abbrev pub WritesPending : {T : Type 0} → Result T AnswerFault → Option (List ℕ) → Option (List ℕ) → List ℕ → Type 0
WritesPending result old new pending =
    MatchResult result (λ _. Appends old new pending) (λ fault. AtFault fault (AppendsBeginning old new pending) ⊥)

-- the answer to a line was sent after the pending bytes, or a beginning of both was written. Without memory, the pending bytes
-- were written
abbrev pub SendsAnswer : {T : Type 0} → Result T AnswerFault → Option (List ℕ) → Option (List ℕ) → List ℕ → List ℕ → List ℕ → Type 0
SendsAnswer result old new was_pending pending line =
    MatchResult result (λ _. Sends old new pending (was_pending ++ answer_of line))
    (λ fault. AtFault fault (AppendsBeginning old new (was_pending ++ answer_of line)) (Appends old new was_pending × IsTrue (takes_memory line)))

-- the answers to the lines were written, or a beginning of them. Without memory, those to the lines before one that takes memory
abbrev pub WritesAnswers : {T : Type 0} → Result T AnswerFault → Option (List ℕ) → Option (List ℕ) → List (List ℕ) → Type 0
WritesAnswers result old new lines =
    MatchResult result (λ _. Appends old new (answers_of lines))
    (λ fault. AtFault fault (AppendsBeginning old new (answers_of lines)) (AnswersBeforeMemory old new lines))
