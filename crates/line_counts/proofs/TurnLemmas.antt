-- The end of the work, from what holds between two reads.
use Rattle.std.proofs.Common.{◌≡◌, ◌≢◌, ℕ, zero, suc, ◌-◌, ◌^◌, ◌≤◌, ◌<◌, Bool, true, false, List, [], ◌++◌, length, Option, Result, Ok, Err}
use Rattle.std.proofs.Common.{refl, ◌∙◌, inl, inr, arith}
use Rattle.std.specs.Io.KnownBytes.{Consumes, Keeps, IsAtEnd}
use Rattle.std.specs.Prelude.{IfSome, IfOk, IfErr}
use Rattle.line_devices.specs.Device.{Devices}
use Rattle.line_devices.specs.InputLemmas.{Consumes-nil, Consumes-append, Consumes-keep, input-end, input-begin, input-none_left, input-long}
use Rattle.line_counts.specs.Counting.{Counting}
use Rattle.line_counts.specs.Counts.{first_tally}
use Rattle.line_counts.specs.Progress.{Completes, Ends, Stands, mark_after, mark_of}
use Rattle.line_counts.specs.Turns.{EndsWell, Finishes, GoesOn, StopsAtRead}
use Rattle.line_counts.specs.declared.lines.Work.{Work}
use Rattle.line_counts.specs.declared.tallies.CountFault.{CountFault}
use Rattle.line_counts.specs.declared.tallies.CountFault.TheVariants.{Read, Write, Missing, Back}
use Rattle.line_counts.specs.declared.tallies.Tally.{Tally}
use Rattle.line_counts.proofs.StandLemmas.{stands_first, written_open}

-- before anything is read
pub GoesOn-first : {M : Type 0} (c : Counting M) (s : Bool) (at : Devices) (pending : List ℕ) (work : Work M) → at.read_failed ≡ false → at.write_failed ≡ false
    → pending ≡ [] → work.tally ≡ (first_tally c) → work.head ≡ [] → GoesOn c s at at pending work []
GoesOn-first c s at pending work r w none t h = record {
  consumed = Consumes-nil at.left;
  stands = stands_first c s at.written pending work t h none;
  empty = none;
  no_read_failed = r;
  no_write_failed = w;
}

-- a read failed
pub read_fails : {M : Type 0} (c : Counting M) (s : Bool) (first old now : Devices) (pending : List ℕ) (work : Work M) (taken : List ℕ)
    → GoesOn c s first old pending work taken → Keeps old.left now.left → now.read_failed ≡ true → now.written ≡ old.written
    → now.write_failed ≡ old.write_failed → StopsAtRead c s first now
read_fails c s first old now pending work taken h left r same w = record {
  read_failed = inl r;
  written = (
    taken,
    Consumes-keep first.left old.left now.left taken h.consumed left,
    rw same (written_open c s first.written old.written pending work taken h.stands h.empty),
  );
  no_write_failed = w ∙ h.no_write_failed;
}

-- so many reads reached no end
pub reads_end : {M : Type 0} (c : Counting M) (s : Bool) (first now : Devices) (pending : List ℕ) (work : Work M) (taken : List ℕ) (turns : ℕ)
    → GoesOn c s first now pending work taken → turns ≤ length taken → 2 ^ 64 - 1 ≤ turns → StopsAtRead c s first now
reads_end c s first now pending work taken turns h long most = record {
  read_failed = inr (input-long first.left now.left taken turns _ h.consumed long most);
  written = (taken, h.consumed, written_open c s first.written now.written pending work taken h.stands h.empty);
  no_write_failed = h.no_write_failed;
}

-- a block more was taken in
pub block_taken : {M : Type 0} (c : Counting M) (s : Bool) (first old now : Devices) (pending pending' : List ℕ) (work work' : Work M) (taken block : List ℕ)
    → GoesOn c s first old pending work taken → Consumes old.left now.left block
    → Stands c s first.written now.written pending' work' (taken ++ block) → pending' ≡ [] → now.read_failed ≡ old.read_failed
    → now.write_failed ≡ old.write_failed → GoesOn c s first now pending' work' (taken ++ block)
block_taken c s first old now pending pending' work work' taken block h read stands none r w = record {
  consumed = Consumes-append first.left old.left now.left taken block h.consumed read;
  stands = stands;
  empty = none;
  no_read_failed = r ∙ h.no_read_failed;
  no_write_failed = w ∙ h.no_write_failed;
}

-- all of the input was taken in
pub input_ends : {M : Type 0} (c : Counting M) (s : Bool) (first old now : Devices) (pending : List ℕ) (work : Work M) (taken : List ℕ) (tally : Tally M)
    → GoesOn c s first old pending work taken → Consumes old.left now.left [] → IsAtEnd now.left
    → Completes c s first.written now.written taken tally → now.read_failed ≡ old.read_failed
    → now.write_failed ≡ old.write_failed → EndsWell c s first now tally
input_ends c s first old now pending work taken tally h none end completes r w = record {
  none_left = input-none_left first.left old.left now.left taken h.consumed none end;
  completes = input-end first.left old.left now.left taken (λ input. Completes c s first.written now.written input tally) h.consumed none end completes;
  no_read_failed = r ∙ h.no_read_failed;
  no_write_failed = w ∙ h.no_write_failed;
}

-- a fault ended the work
falls : {M : Type 0} (c : Counting M) (s : Bool) (first old now : Devices) (pending : List ℕ) (work : Work M) (taken input : List ℕ) (fault : CountFault)
    → GoesOn c s first old pending work taken → Ends c s first.written now.written fault input
    → IfSome first.left (λ input. Ends c s first.written now.written fault input) → now.read_failed ≡ old.read_failed
    → now.write_failed ≡ mark_of fault old.write_failed → Finishes (Err fault) c s first now
falls c s first old now pending work taken input Read h one ends r w = absurd one
falls c s first old now pending work taken input Write h one ends r w = record { ends = ends; mark_is = w; no_read_failed = r ∙ h.no_read_failed }
falls c s first old now pending work taken input (Missing line) h one ends r w =
    record { ends = ends; mark_is = w ∙ h.no_write_failed; no_read_failed = r ∙ h.no_read_failed }
falls c s first old now pending work taken input (Back line) h one ends r w =
    record { ends = ends; mark_is = w ∙ h.no_write_failed; no_read_failed = r ∙ h.no_read_failed }

-- on a block
pub block_falls : {M : Type 0} (c : Counting M) (s : Bool) (first old now : Devices) (pending : List ℕ) (work : Work M) (taken block : List ℕ) (fault :
    CountFault)
    → GoesOn c s first old pending work taken → Consumes old.left now.left block
    → ((more : List ℕ) → Ends c s first.written now.written fault ((taken ++ block) ++ more)) → now.read_failed ≡ old.read_failed
    → now.write_failed ≡ mark_of fault old.write_failed → Finishes (Err fault) c s first now
block_falls c s first old now pending work taken block fault h read ends r w =
    let consumed = Consumes-append first.left old.left now.left taken block h.consumed read in
    falls c s first old now pending work taken ((taken ++ block) ++ []) fault h (ends [])
    (input-begin first.left now.left (taken ++ block) (λ input. Ends c s first.written now.written fault input) consumed ends) r w

-- after the last one
pub end_falls : {M : Type 0} (c : Counting M) (s : Bool) (first old now : Devices) (pending : List ℕ) (work : Work M) (taken : List ℕ) (fault : CountFault)
    → GoesOn c s first old pending work taken → Consumes old.left now.left [] → IsAtEnd now.left → Ends c s first.written now.written fault taken
    → now.read_failed ≡ old.read_failed → now.write_failed ≡ mark_of fault old.write_failed → Finishes (Err fault) c s first now
end_falls c s first old now pending work taken fault h none end ends r w =
    falls c s first old now pending work taken taken fault h ends
    (input-end first.left old.left now.left taken (λ input. Ends c s first.written now.written fault input) h.consumed none end ends) r w

pub some_count : (n : ℕ) → n ≢ 0 → 0 < n
some_count zero e = absurd (e refl)
some_count (suc n) e = omega arith
