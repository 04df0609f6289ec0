use Rattle.std.proofs.Common.{rules, ◌∙◌}
use Rattle.muxandu_c.proofs.FieldSpanLemmas.{spans-more, spans-no_room}
use Rattle.muxandu_c.proofs.ValuesLemmas.{behind_next}
use Rattle.muxandu_c.proofs.field_spans.muxandu_field_spans.Goals as goal

pub returns-then-count-out-clause-status : goal.returns-then-count-out-clause-status
returns-then-count-out-clause-status c =
    let none = spans-no_room c.args.separator c.args.quote c.args.field c.lines.line c.lines.count c.args.texts.now c.lines.out c.args.out.now _
    c.lines-test.true c.if-count-out.true (search rules) c.lines.invariant.done c.lines.invariant.behind in
    c.stop_at.ensures.status ∙ none.1

pub lines-preserved : goal.lines-preserved
lines-preserved c = record {
  done =
      spans-more c.args.separator c.args.quote c.args.field c.lines.line c.span_in_line-next.result.1 c.lines.count c.args.texts.now c.lines.out _
      c.span_in_line-next.result.0 c.lines-test.true (search rules) c.span_in_line-next.ensures.span c.span_in_line-next.ensures.next
      c.lines.invariant.done;
  behind = behind_next c.lines.out c.args.out.now c.lines.count c.span_in_line-next.result.0 c.lines.invariant.behind;
  room = search rules;
  at_most = search rules;
}
