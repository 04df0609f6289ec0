use Rattle.muxandu_c.proofs.FieldSpanLemmas.{place_after-more}
use Rattle.muxandu_c.proofs.field_spans.place_after.Goals as goal

pub loop-k-preserved : goal.loop-k-preserved
loop-k-preserved c = record {
  place =
      place_after-more c.args.quote c.loop-k.place c.next_place-place.result c.loop-k.k c.args.end c.args.texts.now _ _ c.loop-k-test.true c.requires.last
      c.next_place-place.ensures c.loop-k.invariant.place;
}
