use Rattle.stamps.proofs.decide.update.Goals as goal

pub returns-in-Ok : goal.returns-in-Ok
returns-in-Ok c = rw c.in-Ok.is (c.take_stamp.ensures c.args.line.now)
