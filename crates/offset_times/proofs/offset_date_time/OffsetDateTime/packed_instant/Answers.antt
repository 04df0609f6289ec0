use Rattle.std.proofs.Common.{◌≡◌, ◌∙◌, rules, ap, ℤ, to_z, of_z, w32}
use Rattle.std.specs.Int.{w128}
use Rattle.offset_times.specs.Local.{instant_of}
use Rattle.offset_times.proofs.InstantOrderLemmas.{packed_parts-is}
use Rattle.plain_times.specs.Packed.{packed_parts}
use Rattle.offset_times.proofs.offset_date_time.OffsetDateTime.packed_instant.Goals as goal

pub returns : goal.returns
returns c =
    let raw = c.to_utc_raw-year.ensures in
    let year : to_z w32 (of_z w32 c.to_utc_raw-year.result.0) ≡ c.to_utc_raw-year.result.0 = search rules in
    let back : to_z w128 (of_z w128 c.packed_number.result) ≡ c.packed_number.result = search rules in
    back ∙ c.packed_number.ensures ∙ ap (λ (y : ℤ). packed_parts y c.to_utc_raw-year.result.1 c.to_utc_raw-year.result.2) year ∙
    packed_parts-is (instant_of c.args.self) c.to_utc_raw-year.result.0 c.to_utc_raw-year.result.1 c.to_utc_raw-year.result.2 raw.date raw.clock raw.shown
