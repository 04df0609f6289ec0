-- Reading an input to its end, a block at a time.
use Rattle.std.proofs.Common.{◌≡◌, ℕ, List, [], ◌++◌, Option}
use Rattle.std.specs.Io.KnownBytes.{Appends}
use Rattle.std.proofs.lemmas.Grind.{flat_map-append}
use Rattle.times_bench.specs.Progress.{AnswersBeforeMemory}
use Rattle.line_devices.specs.Writing.{AppendsBeginning}
use Rattle.line_devices.specs.Lines.{lines_of, whole_lines_of, unless_empty}
use Rattle.line_devices.specs.LineParts.{ended_from, rest_from}
use Rattle.times_bench.specs.Answers.{answer_of, answers_of}
use Rattle.line_devices.specs.LineLemmas.{lines_of-parts, lines_of-append, whole_lines_of-parts}
use Rattle.times_bench.proofs.FeedLemmas.{answers_of-append, AnswersBeforeMemory-append, AnswersBeforeMemory-longer}
use Rattle.line_devices.specs.WritingLemmas.{AppendsBeginning-longer, Appends-append, AppendsBeginning-append}

-- so many answers were written: those of the lines that were read whole
abbrev pub AnswersWritten : Option (List ℕ) → Option (List ℕ) → List ℕ → Type 0
AnswersWritten a b taken = Appends a b (answers_of (ended_from [] taken))

-- one block more was answered
pub AnswersWritten-append : (a b c : Option (List ℕ)) (taken block : List ℕ) → AnswersWritten a b taken
    → Appends b c (answers_of (ended_from (rest_from [] taken) block)) → AnswersWritten a c (taken ++ block)
AnswersWritten-append a b c taken block h k = rw (answers_of-append [] taken block) (Appends-append a b c _ _ h k)

pub answers_of-whole_lines_of : (a b : Option (List ℕ)) (taken : List ℕ) → AnswersWritten a b taken → Appends a b (answers_of (whole_lines_of taken))
answers_of-whole_lines_of a b taken h = rw (whole_lines_of-parts taken) h

-- the answers to all lines are those to the ended ones, and then that to the last one
answers_of-lines_of : (taken : List ℕ) → answers_of (lines_of taken) ≡ answers_of (ended_from [] taken) ++ answers_of (unless_empty (rest_from [] taken))
answers_of-lines_of taken =
    rw (lines_of-parts taken) (flat_map-append answer_of (ended_from [] taken) (unless_empty (rest_from [] taken)))

-- the last line was answered
pub Appends-last : (a b c : Option (List ℕ)) (taken : List ℕ) → AnswersWritten a b taken
    → Appends b c (answers_of (unless_empty (rest_from [] taken))) → Appends a c (answers_of (lines_of taken))
Appends-last a b c taken h k = rw (answers_of-lines_of taken) (Appends-append a b c _ _ h k)

-- the answer to the last line was cut short
pub AppendsBeginning-last : (a b c : Option (List ℕ)) (taken : List ℕ) → AnswersWritten a b taken
    → AppendsBeginning b c (answers_of (unless_empty (rest_from [] taken))) → AppendsBeginning a c (answers_of (lines_of taken))
AppendsBeginning-last a b c taken h k = rw (answers_of-lines_of taken) (AppendsBeginning-append a b c _ _ h k)

-- the last line takes memory
pub AnswersBeforeMemory-last : (a b c : Option (List ℕ)) (taken : List ℕ) → AnswersWritten a b taken
    → AnswersBeforeMemory b c (unless_empty (rest_from [] taken)) → AnswersBeforeMemory a c (lines_of taken)
AnswersBeforeMemory-last a b c taken h k = rw (lines_of-parts taken) (AnswersBeforeMemory-append a b c _ _ h k)

-- the answers to the lines of a block were cut short, and so are those of the input
pub AppendsBeginning-block : (a b c : Option (List ℕ)) (taken block rest : List ℕ) → AnswersWritten a b taken
    → AppendsBeginning b c (answers_of (ended_from (rest_from [] taken) block)) → AppendsBeginning a c (answers_of (lines_of ((taken ++ block) ++ rest)))
AppendsBeginning-block a b c taken block rest h k =
    let lines = ended_from (rest_from [] taken) block in
    rw (lines_of-append taken block rest, flat_map-append answer_of (ended_from [] taken ++ lines) _, flat_map-append answer_of (ended_from [] taken) lines)
    (AppendsBeginning-longer a c _ _ (AppendsBeginning-append a b c _ _ h k))

-- a line of a block takes memory, and so it stands in the input
pub AnswersBeforeMemory-block : (a b c : Option (List ℕ)) (taken block rest : List ℕ) → AnswersWritten a b taken
    → AnswersBeforeMemory b c (ended_from (rest_from [] taken) block) → AnswersBeforeMemory a c (lines_of ((taken ++ block) ++ rest))
AnswersBeforeMemory-block a b c taken block rest h k =
    rw (lines_of-append taken block rest) (AnswersBeforeMemory-longer a c _ _ (AnswersBeforeMemory-append a b c _ _ h k))
