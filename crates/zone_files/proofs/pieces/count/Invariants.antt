use Rattle.std.proofs.Common.{◌≡◌, ◌+◌, length, drop}
use Rattle.zone_files.specs.Pieces.{front, is_of}
use Rattle.zone_files.proofs.pieces.count.Given as goal

-- the bytes so far are of the kind
abbrev pub invariant-loop-k : goal.invariant-loop-k
invariant-loop-k l = record { count : l.k + length (front (is_of l.kind) (drop l.k l.text)) ≡ length (front (is_of l.kind) l.text) }
