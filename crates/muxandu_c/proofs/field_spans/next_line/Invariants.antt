use Rattle.std.proofs.Common.{◌≡◌, ◌≤◌, ◌-◌, length, drop}
use Rattle.muxandu_c.specs.FieldSpans.{ended_at}
use Rattle.muxandu_c.proofs.field_spans.next_line.Given as goal

-- the lines that follow are those that follow the first field
abbrev pub invariant-fields : goal.invariant-fields
invariant-fields l =
    record {
      lines :
          (ended_at l.separator l.quote l.last (drop l.last l.texts)).lines ≡ (ended_at l.separator l.quote l.end (drop l.end l.texts)).lines;
      later : l.end ≤ l.last;
      at_most : l.last ≤ length l.texts;
    }

abbrev pub decreases-fields : goal.decreases-fields
decreases-fields l = length l.texts - l.last
