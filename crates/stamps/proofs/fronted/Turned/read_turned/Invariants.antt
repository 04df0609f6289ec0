use Rattle.std.proofs.Common.{◌≡◌}
use Rattle.std.specs.Io.KnownBytes.{Keeps}
use Rattle.stamps.specs.FrontRuns.{IsInStep, turned_left}
use Rattle.stamps.proofs.fronted.Turned.read_turned.Given as goal

-- nothing of the text is given, and none is lost
abbrev pub invariant-turns : goal.invariant-turns
invariant-turns g l = record {
  turning : l.self.turning ≡ l.fn.self.turning;
  left : IsInStep l.fn.self → Keeps (turned_left g.R.Read.remaining l.fn.self) (turned_left g.R.Read.remaining l.self);
  step : IsInStep l.fn.self → IsInStep l.self;
}
