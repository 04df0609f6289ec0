use Rattle.std.proofs.Common.{◌≡◌, ◌-◌, take, drop}
use Rattle.muxandu_c.specs.FieldSpans.{place_after}
use Rattle.muxandu_c.proofs.field_spans.place_after.Given as goal

-- the place after the bytes that are left is the place after all
abbrev pub invariant-loop-k : goal.invariant-loop-k
invariant-loop-k l =
    record {
      place :
          place_after l.quote l.place (take (l.end - l.k) (drop l.k l.texts)) ≡ place_after l.quote 0 (take (l.end - l.start) (drop l.start l.texts));
    }
