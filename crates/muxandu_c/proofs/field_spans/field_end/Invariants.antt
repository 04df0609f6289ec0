use Rattle.std.proofs.Common.{◌≡◌, drop}
use Rattle.muxandu_c.specs.FieldSpans.{ahead_of}
use Rattle.muxandu_c.proofs.field_spans.field_end.Given as goal

-- what is ahead of the bytes so far is what is ahead of the field
abbrev pub invariant-loop-k : goal.invariant-loop-k
invariant-loop-k l =
    record { ahead : ahead_of l.separator l.quote l.place l.k (drop l.k l.texts) ≡ ahead_of l.separator l.quote 0 l.start (drop l.start l.texts) }
