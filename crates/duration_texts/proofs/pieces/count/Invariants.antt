use Rattle.std.proofs.Common.{◌≡◌, ◌+◌, length, drop}
use Rattle.duration_texts.specs.Pieces.{front, is_of}
use Rattle.duration_texts.proofs.pieces.count.Given as goal

-- the bytes so far are of the kind
abbrev pub invariant-loop-k : goal.invariant-loop-k
invariant-loop-k l = record { count : l.k + length (front (is_of l.kind) (drop l.k l.text)) ≡ length (front (is_of l.kind) l.text) }
