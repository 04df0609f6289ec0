use Rattle.std.proofs.Common.{◌≡◌, ◌≤◌, length, drop}
use Rattle.muxandu_c.specs.FieldSpans.{ahead_of, ended_at, span_of_number}
use Rattle.muxandu_c.proofs.field_spans.span_of_number.Given as goal

-- the span of the field that is left to find, and the lines that follow, are those of the first field
abbrev pub invariant-fields : goal.invariant-fields
invariant-fields l =
    let all = ahead_of l.separator l.quote 0 l.first (drop l.first l.texts) in
    let here = ahead_of l.separator l.quote 0 l.start (drop l.start l.texts) in
    record {
      span : span_of_number l.quote l.texts l.left l.start here.end here.fields ≡ span_of_number l.quote l.texts l.number l.first all.end all.fields;
      ahead : ended_at l.separator l.quote l.end (drop l.end l.texts) ≡ here;
      lines : here.lines ≡ all.lines;
      order : l.start ≤ l.end;
      later : l.first ≤ l.start;
      at_most : l.end ≤ length l.texts;
    }

abbrev pub decreases-fields : goal.decreases-fields
decreases-fields l = l.left
