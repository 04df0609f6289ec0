use Rattle.std.proofs.Common.{rules}
use Rattle.muxandu_c.proofs.FieldSpanLemmas.{field-ends, field-goes_on, field-all}
use Rattle.muxandu_c.proofs.field_spans.field_end.Goals as goal

pub returns-then-ends_field-clause-ahead : goal.returns-then-ends_field-clause-ahead
returns-then-ends_field-clause-ahead c =
    field-ends c.args.separator c.args.quote c.loop-k.place c.loop-k.k c.args.texts.now _ c.ends_field.result _ (search rules) c.ends_field.ensures
    c.if-ends_field.true c.loop-k.invariant.ahead

pub loop-k-preserved : goal.loop-k-preserved
loop-k-preserved c = record {
  ahead =
      field-goes_on c.args.separator c.args.quote c.loop-k.place c.loop-k.k c.args.texts.now _ c.ends_field.result c.next_place-place.result _ (search rules)
      c.ends_field.ensures c.if-ends_field.false c.next_place-place.ensures c.loop-k.invariant.ahead;
}

pub returns-clause-ahead : goal.returns-clause-ahead
returns-clause-ahead c =
    field-all c.args.separator c.args.quote c.loop-k.place c.loop-k.k _ c.args.texts.now _ (search rules) (search rules) c.loop-k.invariant.ahead
