-- What a turn of the loop over blocks comes to.
use Rattle.std.proofs.Common.{◌≡◌, ◌≢◌, ℕ, ◌-◌, ◌^◌, ◌<◌, ◌≤◌, zero, suc, true, false, List, [], ◌++◌, length, Option, Some, None, Result, Ok, Err}
use Rattle.std.proofs.Common.{refl, ◌∙◌, inl, inr, arith, subst, sym, take}
use Rattle.std.specs.Io.KnownBytes.{Consumes, Keeps, IsAtEnd}
use Rattle.std.specs.Prelude.{IfSome, IsErrAnd}
use Rattle.line_devices.specs.Device.{Devices}
use Rattle.line_devices.specs.InputLemmas.{Consumes-nil, Consumes-append, Consumes-keep, input-end, input-begin, input-none_left, input-long}
use Rattle.line_devices.specs.InputLemmas.{turns-more}
use Rattle.line_devices.specs.declared.stamp_tallies.StampTally.{StampTally}
use Rattle.stamps.specs.Decisions.{first_state}
use Rattle.stamps.specs.Faults.{stamp_fault, FoundIn}
use Rattle.stamps.specs.Progress.{Completes, Ends, Stands, mark_after}
use Rattle.stamps.specs.Runs.{input_run}
use Rattle.stamps.specs.Turns.{GoesOn, EndsWell, StopsAtRead, Stops, Turns}
use Rattle.stamps.specs.declared.finding.Finding.{Finding}
use Rattle.stamps.specs.declared.lines.LineFault.{LineFault}
use Rattle.stamps.specs.declared.lines.LineFault.TheVariants.{Write, Found}
use Rattle.stamps.specs.declared.lines.Progress.TheVariants.{Kept}
use Rattle.stamps.specs.declared.lines.Work.{Work}
use Rattle.stamps.specs.declared.stamps.StampFault.{StampFault}
use Rattle.stamps.specs.declared.task.Task.{Task}
use Rattle.stamps.proofs.ReadLemmas.{stands_first, written_open}

-- before anything is read
pub GoesOn-first : (task : Task) (at : Devices) (pending : List ℕ) (work : Work) → at.read_failed ≡ false → at.write_failed ≡ false → pending ≡ []
    → work.state ≡ first_state task → work.progress ≡ Kept → work.head ≡ [] → GoesOn task at at pending work []
GoesOn-first task at pending work r w none s p h = record {
  consumed = Consumes-nil at.left;
  stands = stands_first task at.written pending work s p h none;
  empty = none;
  no_read_failed = r;
  no_write_failed = w;
}

-- a read failed
pub read_fails : (task : Task) (first old now : Devices) (pending : List ℕ) (work : Work) (taken : List ℕ) → GoesOn task first old pending work taken
    → Keeps old.left now.left → now.read_failed ≡ true → now.written ≡ old.written → now.write_failed ≡ old.write_failed → StopsAtRead task first now
read_fails task first old now pending work taken h left r same w = record {
  read_failed = inl r;
  written = (
    taken,
    Consumes-keep first.left old.left now.left taken h.consumed left,
    rw same (written_open task first.written old.written pending work taken h.stands h.empty),
  );
  no_write_failed = w ∙ h.no_write_failed;
}

-- so many reads reached no end
pub reads_end : (task : Task) (first now : Devices) (pending : List ℕ) (work : Work) (taken : List ℕ) (turns : ℕ)
    → GoesOn task first now pending work taken → turns ≤ length taken → 2 ^ 64 - 1 ≤ turns → StopsAtRead task first now
reads_end task first now pending work taken turns h long most = record {
  read_failed = inr (input-long first.left now.left taken turns _ h.consumed long most);
  written = (taken, h.consumed, written_open task first.written now.written pending work taken h.stands h.empty);
  no_write_failed = h.no_write_failed;
}

-- a block more was taken in
pub block_taken : (task : Task) (first old now : Devices) (pending pending' : List ℕ) (work work' : Work) (taken block : List ℕ)
    → GoesOn task first old pending work taken → Consumes old.left now.left block
    → Stands task first.written now.written pending' work' (taken ++ block) → pending' ≡ [] → now.read_failed ≡ old.read_failed
    → now.write_failed ≡ old.write_failed → GoesOn task first now pending' work' (taken ++ block)
block_taken task first old now pending pending' work work' taken block h read stands none r w = record {
  consumed = Consumes-append first.left old.left now.left taken block h.consumed read;
  stands = stands;
  empty = none;
  no_read_failed = r ∙ h.no_read_failed;
  no_write_failed = w ∙ h.no_write_failed;
}

-- all of the input was taken in
pub input_ends : (task : Task) (first old now : Devices) (pending : List ℕ) (work after : Work) (taken : List ℕ) → GoesOn task first old pending work taken
    → Consumes old.left now.left [] → IsAtEnd now.left → Completes task first.written now.written after taken → now.read_failed ≡ old.read_failed
    → now.write_failed ≡ old.write_failed → EndsWell task first now after
input_ends task first old now pending work after taken h none end completes r w = record {
  none_left = input-none_left first.left old.left now.left taken h.consumed none end;
  written = input-end first.left old.left now.left taken _ h.consumed none end completes.written;
  end = input-end first.left old.left now.left taken _ h.consumed none end completes.end;
  tally = input-end first.left old.left now.left taken _ h.consumed none end completes.tally;
  no_read_failed = r ∙ h.no_read_failed;
  no_write_failed = w ∙ h.no_write_failed;
}

-- a fault ended the work on a block, or behind the last one
found_in : (task : Task) (base now : Option (List ℕ)) (found : Finding) (left : Option (List ℕ))
    → IfSome left (λ input. Ends task base now (Found found) input) → IfSome left (λ input. FoundIn base now (input_run task input) found)
found_in task base now found None h = tt
found_in task base now found (Some input) h = record { written = h.0; named = h.1 }

fails : (task : Task) (first old now : Devices) (pending : List ℕ) (work : Work) (taken : List ℕ) (fault : LineFault)
    → GoesOn task first old pending work taken → IfSome first.left (λ input. Ends task first.written now.written fault input)
    → now.read_failed ≡ old.read_failed → now.write_failed ≡ mark_after {T = Unit} (Err fault) old.write_failed → Stops task (stamp_fault fault) first now
fails task first old now pending work taken Write h ends r w =
    record { write_failed = w; written = ends; no_read_failed = r ∙ h.no_read_failed }
fails task first old now pending work taken (Found found) h ends r w = record {
  found_in = found_in task first.written now.written found first.left ends;
  no_read_failed = r ∙ h.no_read_failed;
  no_write_failed = w ∙ h.no_write_failed;
}

pub block_fails : (task : Task) (first old now : Devices) (pending : List ℕ) (work : Work) (taken block : List ℕ) (fault : LineFault)
    → GoesOn task first old pending work taken → Consumes old.left now.left block
    → ((more : List ℕ) → Ends task first.written now.written fault ((taken ++ block) ++ more)) → now.read_failed ≡ old.read_failed
    → now.write_failed ≡ mark_after {T = Unit} (Err fault) old.write_failed → Stops task (stamp_fault fault) first now
block_fails task first old now pending work taken block fault h read ends r w =
    let consumed = Consumes-append first.left old.left now.left taken block h.consumed read in
    fails task first old now pending work taken fault h (input-begin first.left now.left (taken ++ block) _ consumed ends) r w

pub end_fails : (task : Task) (first old now : Devices) (pending : List ℕ) (work : Work) (taken : List ℕ) (fault : LineFault)
    → GoesOn task first old pending work taken → Consumes old.left now.left [] → IsAtEnd now.left → Ends task first.written now.written fault taken
    → now.read_failed ≡ old.read_failed → now.write_failed ≡ mark_after {T = Unit} (Err fault) old.write_failed → Stops task (stamp_fault fault) first now
end_fails task first old now pending work taken fault h none end ends r w =
    fails task first old now pending work taken fault h (input-end first.left old.left now.left taken _ h.consumed none end ends) r w

-- the fault of the work on lines is one of the whole
pub Turns-fault : (task : Task) (first now : Devices) (pending : List ℕ) (work : Work) (taken : List ℕ) (result : Result ℕ StampFault)
    (fault : LineFault) → IsErrAnd result (λ made. made ≡ stamp_fault fault) → Stops task (stamp_fault fault) first now
    → Turns result task first now pending work taken
Turns-fault task first now pending work taken (Ok count) fault made stops = absurd made
Turns-fault task first now pending work taken (Err ended) fault made stops = subst (λ (z : StampFault). Stops task z first now) (sym made) stops

-- a turn that took a byte or more
pub Turns-more : (task : Task) (first now : Devices) (pending : List ℕ) (work : Work) (taken buffer : List ℕ) (count : ℕ) → count ≢ 0
    → count ≡ length (take count buffer) → GoesOn task first now pending work (taken ++ take count buffer)
    → Turns (Ok count) task first now pending work taken
Turns-more task first now pending work taken buffer zero some e h = absurd (some refl)
Turns-more task first now pending work taken buffer (suc more) some e h =
    (taken ++ take (suc more) buffer, omega (arith, turns-more taken buffer (length taken) (suc more) (omega arith) e some), h)

pub Turns-longer : (task : Task) (first now : Devices) (pending : List ℕ) (work : Work) (taken : List ℕ) (count : ℕ) → count ≢ 0
    → Turns (Ok count) task first now pending work taken
    → (longer : List ℕ) × (length taken < length longer) × GoesOn task first now pending work longer
Turns-longer task first now pending work taken zero some turns = absurd (some refl)
Turns-longer task first now pending work taken (suc more) some turns = turns

-- a turn that took none
pub Turns-end : (task : Task) (first now : Devices) (pending : List ℕ) (work : Work) (taken : List ℕ) (count : ℕ) → count ≡ 0
    → Turns (Ok count) task first now pending work taken → EndsWell task first now work
Turns-end task first now pending work taken count e turns = rw e at turns

-- what holds where a fault ended the work
pub Stops-by : (task : Task) (first now : Devices) (result : Result StampTally StampFault) (fault ended : StampFault) → IsErrAnd result (λ made. made ≡ fault)
    → Stops task fault first now → result ≡ Err ended → Stops task ended first now
Stops-by task first now (Ok done) fault ended made stops is = absurd made
Stops-by task first now (Err by) fault ended made stops is =
    let same : fault ≡ ended = cc in subst (λ (z : StampFault). Stops task z first now) same stops
