use Rattle.std.proofs.Common.{◌≡◌, ◌+◌, drop}
use Rattle.rfc3339.specs.Faults.{standing}
use Rattle.rfc3339.proofs.fault.standing.Given as goal

-- the bytes so far may stand where they do
abbrev pub invariant-loop-k : goal.invariant-loop-k
invariant-loop-k l = record { place : l.k + standing l.place (drop l.k l.text) ≡ standing l.first l.text }
