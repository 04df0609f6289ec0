use Rattle.std.proofs.Common.{rules, ap, sym, ◌∙◌}
use Rattle.muxandu_c.specs.FieldSpans.{Ahead}
use Rattle.muxandu_c.proofs.FieldSpanLemmas.{lines-more, lines-next_line, lines-none}
use Rattle.muxandu_c.proofs.field_spans.next_line.Goals as goal

pub returns-then-is_line_end-clause-next : goal.returns-then-is_line_end-clause-next
returns-then-is_line_end-clause-next c =
    lines-next_line c.args.separator c.args.quote c.fields.last c.args.texts.now c.fields-test.true
    (sym c.is_line_end.ensures.value ∙ c.if-is_line_end.true) ∙ c.fields.invariant.lines

pub fields-preserved : goal.fields-preserved
fields-preserved c = record {
  lines =
      ap (λ (a : Ahead). a.lines) c.field_end-last.ensures.ahead
      ∙ lines-more c.args.separator c.args.quote c.fields.last c.args.texts.now (sym c.is_line_end.ensures.value ∙ c.if-is_line_end.false)
      ∙ c.fields.invariant.lines;
  later = search rules;
  at_most = search rules;
}

pub returns-clause-next : goal.returns-clause-next
returns-clause-next c =
    lines-none c.args.separator c.args.quote c.fields.last c.args.texts.now c.fields-test.false ∙ c.fields.invariant.lines
