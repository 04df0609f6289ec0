use Rattle.std.proofs.Common.{◌≡◌, ◌+◌, drop}
use Rattle.local_texts.specs.LocalFaults.{valid_bytes}
use Rattle.local_texts.proofs.faults.valid_bytes.Given as goal

-- the bytes so far are valid at their places
abbrev pub invariant-loop-k : goal.invariant-loop-k
invariant-loop-k l = record { count : l.k + valid_bytes (l.place + l.k) (drop l.k l.text) ≡ valid_bytes l.place l.text }
