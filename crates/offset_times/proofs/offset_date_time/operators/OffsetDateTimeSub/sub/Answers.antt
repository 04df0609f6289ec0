use Rattle.std.proofs.Common.{◌∙◌, ap, ℤ, ◌-ℤ◌}
use Rattle.offset_times.specs.Local.{offset_nanos}
use Rattle.offset_times.proofs.LocalLemmas.{instants_apart, IsDuration-apart}
use Rattle.offset_times.proofs.offset_date_time.operators.OffsetDateTimeSub.sub.Goals as goal

pub add-requires : goal.add-requires
add-requires c =
    let walls = c.sub.ensures ∙ ap (λ (w : ℤ). w -ℤ c.date_time-2.result) c.date_time.ensures.value ∙
    ap (λ (w : ℤ). c.args.self.wall -ℤ w) c.date_time-2.ensures.value in
    let offsets = c.between_offsets-offsets.ensures ∙ ap (λ (o : ℤ). offset_nanos (c.offset-2.result -ℤ o)) c.offset.ensures.value ∙
    ap (λ (o : ℤ). offset_nanos (o -ℤ c.args.self.offset)) c.offset-2.ensures.value in
    IsDuration-apart c.args.self c.args.other c.sub.result c.between_offsets-offsets.result c.offset.ensures.self_in_range
    c.offset-2.ensures.self_in_range walls offsets

pub returns : goal.returns
returns c =
    let walls = c.sub.ensures ∙ ap (λ (w : ℤ). w -ℤ c.date_time-2.result) c.date_time.ensures.value ∙
    ap (λ (w : ℤ). c.args.self.wall -ℤ w) c.date_time-2.ensures.value in
    let offsets = c.between_offsets-offsets.ensures ∙ ap (λ (o : ℤ). offset_nanos (c.offset-2.result -ℤ o)) c.offset.ensures.value ∙
    ap (λ (o : ℤ). offset_nanos (o -ℤ c.args.self.offset)) c.offset-2.ensures.value in
    c.add.ensures ∙ instants_apart c.args.self c.args.other c.sub.result c.between_offsets-offsets.result walls offsets
