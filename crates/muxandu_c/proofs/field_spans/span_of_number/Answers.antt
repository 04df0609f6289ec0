use Rattle.std.proofs.Common.{rules, ap, sym, ◌∙◌}
use Rattle.muxandu_c.specs.FieldSpans.{Ahead}
use Rattle.muxandu_c.proofs.FieldSpanLemmas.{lines-more, number-last, number-more, number-none_left}
use Rattle.muxandu_c.proofs.field_spans.span_of_number.Goals as goal

pub returns-then-is_line_end-clause-span : goal.returns-then-is_line_end-clause-span
returns-then-is_line_end-clause-span c =
    number-last c.args.separator c.args.quote c.args.texts.now c.fields.left c.fields.start c.fields.end _ _ c.fields-test.true
    (sym c.is_line_end.ensures.value ∙ c.if-is_line_end.true) c.fields.invariant.ahead c.fields.invariant.span

pub returns-then-is_line_end-clause-lines : goal.returns-then-is_line_end-clause-lines
returns-then-is_line_end-clause-lines c = ap (λ (a : Ahead). a.lines) c.fields.invariant.ahead ∙ c.fields.invariant.lines

pub fields-preserved : goal.fields-preserved
fields-preserved c =
    let before = c.fields.invariant in
    let more = sym c.is_line_end.ensures.value ∙ c.if-is_line_end.false in
    record {
      span =
          number-more c.args.separator c.args.quote c.args.texts.now c.fields.left c.fields.start c.fields.end _ _ c.fields-test.true more before.ahead
          before.span;
      ahead = c.field_end-end-in-fields.ensures.ahead;
      lines =
          lines-more c.args.separator c.args.quote c.fields.end c.args.texts.now more ∙ ap (λ (a : Ahead). a.lines) before.ahead ∙ before.lines;
      order = search rules;
      later = search rules;
      at_most = search rules;
    }

pub returns-clause-span : goal.returns-clause-span
returns-clause-span c =
    number-none_left c.args.separator c.args.quote c.args.texts.now c.fields.left c.fields.start c.fields.end _ c.span_of_field.result _ (search rules)
    c.span_of_field.ensures c.fields.invariant.ahead c.fields.invariant.span

pub returns-clause-lines : goal.returns-clause-lines
returns-clause-lines c = ap (λ (a : Ahead). a.lines) c.fields.invariant.ahead ∙ c.fields.invariant.lines
