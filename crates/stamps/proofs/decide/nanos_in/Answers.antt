use Rattle.std.proofs.Common.{sym}
use Rattle.rfc3339.specs.Front.{front_reading_of}
use Rattle.rfc3339.specs.Reading.{front_at}
use Rattle.stamps.proofs.FrontLemmas.{front_instant, front_none}
use Rattle.stamps.proofs.decide.nanos_in.Goals as goal

pub returns-in-Ok : goal.returns-in-Ok
unfolding front_reading_of
returns-in-Ok c = λ before.
    let front = c.args.front.now in
    front_instant before front (front_at front) _ _ (sym c.in-Ok.ensures.reading) (rw c.behind.ensures at c.nanos_before.ensures)

pub returns-in-Err : goal.returns-in-Err
unfolding front_reading_of
returns-in-Err c = λ before. front_none before c.args.front.now (front_at c.args.front.now) _ (sym c.in-Err.ensures.reading)
