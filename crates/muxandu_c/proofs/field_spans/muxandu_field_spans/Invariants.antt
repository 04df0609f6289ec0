use Rattle.std.proofs.Common.{◌≡◌, ◌≤◌, ◌-◌, ◌++◌, length, take, drop}
use Rattle.muxandu_c.specs.FieldSpans.{lines_from, spans_of_lines, field_spans}
use Rattle.muxandu_c.proofs.field_spans.muxandu_field_spans.Given as goal

-- the spans so far and those of the lines that are left are all spans
abbrev pub invariant-lines : goal.invariant-lines
invariant-lines l =
    record {
      done :
          take l.count l.out ++ spans_of_lines l.quote l.texts l.field (lines_from l.separator l.quote l.line (drop l.line l.texts))
          ≡ field_spans l.field l.separator l.quote l.texts;
      behind : drop l.count l.out ≡ drop l.count l.initial.out;
      room : l.count ≤ length l.out;
      at_most : l.line ≤ length l.texts;
    }

abbrev pub decreases-lines : goal.decreases-lines
decreases-lines l = length l.texts - l.line
