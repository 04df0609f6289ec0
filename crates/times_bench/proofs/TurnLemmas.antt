-- What a turn of the loop over blocks comes to.
use Rattle.std.proofs.Common.{◌≡◌, ◌≢◌, ℕ, ◌-◌, ◌^◌, ◌<◌, ◌≤◌, zero, suc, true, false, List, [], ◌++◌, length}
use Rattle.std.proofs.Common.{take, Result, Ok, Err, refl, ◌∙◌, inl, inr, arith, subst, sym}
use Rattle.std.specs.Io.KnownBytes.{Appends, Consumes, Keeps, IsAtEnd}
use Rattle.std.specs.Prelude.{IsErrAnd}
use Rattle.line_devices.specs.Device.{Devices}
use Rattle.line_devices.specs.InputLemmas.{Consumes-nil, Consumes-append, Consumes-keep, input-end, input-begin, input-none_left, input-long}
use Rattle.line_devices.specs.InputLemmas.{turns-more}
use Rattle.line_devices.specs.LineLemmas.{rest_from-append}
use Rattle.line_devices.specs.LineParts.{ended_from, rest_from}
use Rattle.line_devices.specs.Lines.{unless_empty}
use Rattle.line_devices.specs.Writing.{AppendsBeginning}
use Rattle.line_devices.specs.WritingLemmas.{Appends-nil}
use Rattle.times_bench.specs.Answers.{answers_of}
use Rattle.times_bench.specs.Faults.{bench_fault}
use Rattle.times_bench.specs.LineParts.{Holds}
use Rattle.times_bench.specs.Progress.{AnswersBeforeMemory, AtFault, mark_after}
use Rattle.times_bench.specs.Turns.{Stands, Completes, StopsAtRead, Stops, Turns}
use Rattle.times_bench.specs.declared.bench.BenchFault.{BenchFault}
use Rattle.times_bench.specs.declared.sending.AnswerFault.{AnswerFault}
use Rattle.times_bench.specs.declared.sending.AnswerFault.TheVariants.{Write, Memory}
use Rattle.times_bench.proofs.ReadLemmas.{AnswersWritten-append, answers_of-whole_lines_of, Appends-last, AppendsBeginning-last, AppendsBeginning-block}
use Rattle.times_bench.proofs.ReadLemmas.{AnswersBeforeMemory-last, AnswersBeforeMemory-block}

-- before anything is read
pub Stands-first : (at : Devices) (pending line : List ℕ) → at.read_failed ≡ false → at.write_failed ≡ false → pending ≡ [] → line ≡ []
    → Stands at at pending line []
unfolding ended_from rest_from
Stands-first at pending line r w none new = record {
  consumed = Consumes-nil at.left;
  answered = Appends-nil at.written;
  held = rw new refl;
  empty = none;
  no_read_failed = r;
  no_write_failed = w;
}

-- a read failed
pub read_fails : (first old now : Devices) (pending line taken : List ℕ) → Stands first old pending line taken → Keeps old.left now.left
    → now.read_failed ≡ true → now.written ≡ old.written → now.write_failed ≡ old.write_failed → StopsAtRead first now
read_fails first old now pending line taken h left r same w = record {
  read_failed = inl r;
  answered = (
    taken,
    Consumes-keep first.left old.left now.left taken h.consumed left,
    rw same (answers_of-whole_lines_of first.written old.written taken h.answered),
  );
  no_write_failed = w ∙ h.no_write_failed;
}

-- so many reads reached no end
pub reads_end : (first now : Devices) (pending line taken : List ℕ) (turns : ℕ) → Stands first now pending line taken → turns ≤ length taken
    → 2 ^ 64 - 1 ≤ turns → StopsAtRead first now
reads_end first now pending line taken turns h long most = record {
  read_failed = inr (input-long first.left now.left taken turns _ h.consumed long most);
  answered = (taken, h.consumed, answers_of-whole_lines_of first.written now.written taken h.answered);
  no_write_failed = h.no_write_failed;
}

-- a block more was answered
pub block_answered : (first old now : Devices) (pending line pending' line' taken block : List ℕ) → Stands first old pending line taken
    → Consumes old.left now.left block → Appends old.written now.written (answers_of (ended_from (rest_from [] taken) block))
    → Holds (rest_from (rest_from [] taken) block) line' → pending' ≡ [] → now.read_failed ≡ old.read_failed → now.write_failed ≡ old.write_failed
    → Stands first now pending' line' (taken ++ block)
block_answered first old now pending line pending' line' taken block h read written held none r w = record {
  consumed = Consumes-append first.left old.left now.left taken block h.consumed read;
  answered = AnswersWritten-append first.written old.written now.written taken block h.answered written;
  held = rw (rest_from-append [] taken block) held;
  empty = none;
  no_read_failed = r ∙ h.no_read_failed;
  no_write_failed = w ∙ h.no_write_failed;
}

-- a fault ended the answers to a block
pub block_fails : (first old now : Devices) (pending line taken block : List ℕ) (fault : AnswerFault) → Stands first old pending line taken
    → Consumes old.left now.left block
    → (let lines = ended_from (rest_from [] taken) block in
    AtFault fault (AppendsBeginning old.written now.written (answers_of lines)) (AnswersBeforeMemory old.written now.written lines))
    → now.read_failed ≡ old.read_failed → now.write_failed ≡ mark_after {T = Unit} (Err fault) old.write_failed → Stops (bench_fault fault) first now
block_fails first old now pending line taken block Write h read cut r w = record {
  write_failed = w;
  answered = input-begin first.left now.left (taken ++ block) _ (Consumes-append first.left old.left now.left taken block h.consumed read)
      (λ rest. AppendsBeginning-block first.written old.written now.written taken block rest h.answered cut);
  no_read_failed = r ∙ h.no_read_failed;
}
block_fails first old now pending line taken block Memory h read short r w = record {
  answered = input-begin first.left now.left (taken ++ block) _ (Consumes-append first.left old.left now.left taken block h.consumed read)
      (λ rest. AnswersBeforeMemory-block first.written old.written now.written taken block rest h.answered short);
  no_read_failed = r ∙ h.no_read_failed;
  no_write_failed = w ∙ h.no_write_failed;
}

-- the last line was answered
pub end_answered : (first old now : Devices) (pending line taken : List ℕ) → Stands first old pending line taken
    → Consumes old.left now.left [] → IsAtEnd now.left → Appends old.written now.written (answers_of (unless_empty (rest_from [] taken)))
    → now.read_failed ≡ old.read_failed → now.write_failed ≡ old.write_failed → Completes first now
end_answered first old now pending line taken h none end written r w = record {
  none_left = input-none_left first.left old.left now.left taken h.consumed none end;
  answered = input-end first.left old.left now.left taken _ h.consumed none end
      (Appends-last first.written old.written now.written taken h.answered written);
  no_read_failed = r ∙ h.no_read_failed;
  no_write_failed = w ∙ h.no_write_failed;
}

-- a fault ended the answer to the last line
pub end_fails : (first old now : Devices) (pending line taken : List ℕ) (fault : AnswerFault) → Stands first old pending line taken
    → Consumes old.left now.left [] → IsAtEnd now.left
    → (let lines = unless_empty (rest_from [] taken) in
    AtFault fault (AppendsBeginning old.written now.written (answers_of lines)) (AnswersBeforeMemory old.written now.written lines))
    → now.read_failed ≡ old.read_failed → now.write_failed ≡ mark_after {T = Unit} (Err fault) old.write_failed → Stops (bench_fault fault) first now
end_fails first old now pending line taken Write h none end cut r w = record {
  write_failed = w;
  answered = input-end first.left old.left now.left taken _ h.consumed none end
      (AppendsBeginning-last first.written old.written now.written taken h.answered cut);
  no_read_failed = r ∙ h.no_read_failed;
}
end_fails first old now pending line taken Memory h none end short r w = record {
  answered = input-end first.left old.left now.left taken _ h.consumed none end
      (AnswersBeforeMemory-last first.written old.written now.written taken h.answered short);
  no_read_failed = r ∙ h.no_read_failed;
  no_write_failed = w ∙ h.no_write_failed;
}

-- the fault of the answers is one of the work
pub Turns-fault : (first now : Devices) (pending line taken : List ℕ) (result : Result ℕ BenchFault) (fault : AnswerFault)
    → IsErrAnd result (λ made. made ≡ bench_fault fault) → Stops (bench_fault fault) first now → Turns result first now pending line taken
Turns-fault first now pending line taken (Ok count) fault made stops = absurd made
Turns-fault first now pending line taken (Err ended) fault made stops = subst (λ (z : BenchFault). Stops z first now) (sym made) stops

-- a turn that took a byte or more
pub Turns-more : (first now : Devices) (pending line taken buffer : List ℕ) (count : ℕ) → count ≢ 0 → count ≡ length (take count buffer)
    → Stands first now pending line (taken ++ take count buffer) → Turns (Ok count) first now pending line taken
Turns-more first now pending line taken buffer zero some e h = absurd (some refl)
Turns-more first now pending line taken buffer (suc more) some e h =
    (taken ++ take (suc more) buffer, omega (arith, turns-more taken buffer (length taken) (suc more) (omega arith) e some), h)

pub Turns-longer : (first now : Devices) (pending line taken : List ℕ) (count : ℕ) → count ≢ 0 → Turns (Ok count) first now pending line taken
    → (longer : List ℕ) × (length taken < length longer) × Stands first now pending line longer
Turns-longer first now pending line taken zero some turns = absurd (some refl)
Turns-longer first now pending line taken (suc more) some turns = turns

-- a turn that took none
pub Turns-end : (first now : Devices) (pending line taken : List ℕ) (count : ℕ) → count ≡ 0 → Turns (Ok count) first now pending line taken
    → Completes first now
Turns-end first now pending line taken count e turns = rw e at turns

-- what holds where a fault ended the work
pub Stops-by : (first now : Devices) (result : Result Unit BenchFault) (fault ended : BenchFault) → IsErrAnd result (λ made. made ≡ fault)
    → Stops fault first now → result ≡ Err ended → Stops ended first now
Stops-by first now (Ok done) fault ended made stops is = absurd made
Stops-by first now (Err by) fault ended made stops is =
    let same : fault ≡ ended = cc in subst (λ (z : BenchFault). Stops z first now) same stops
