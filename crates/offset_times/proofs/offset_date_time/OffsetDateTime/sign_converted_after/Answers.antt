use Rattle.std.proofs.Common.{◌≡◌, ◌∙◌, rules, ap, ℤ, pos, int_cmp, to_z, of_z, w64}
use Rattle.offset_times.specs.Local.{instant_of, shown_at}
use Rattle.offset_times.proofs.InstantOrderLemmas.{int_cmp-shown}
use Rattle.offset_times.proofs.offset_date_time.OffsetDateTime.sign_converted_after.Goals as goal

pub returns : goal.returns
returns c =
    let sign : to_z w64 (of_z w64 c.sign_of_parts_after.result) ≡ c.sign_of_parts_after.result = search rules in
    let shown = c.shown_raw.ensures.shown ∙ ap (λ (o : ℤ). shown_at (instant_of c.args.other) o) c.offset.ensures.value in
    ap (λ (s : ℤ). int_cmp s (pos 0)) sign ∙ rw (c.raw.ensures.shown, shown) at c.sign_of_parts_after.ensures
    ∙ int_cmp-shown c.args.self c.args.other
