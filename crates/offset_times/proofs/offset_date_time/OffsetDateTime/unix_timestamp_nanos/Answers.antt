use Rattle.std.proofs.Common.{◌∙◌, arith}
use Rattle.calendar_values.specs.SignedArith.{signed_arith}
use Rattle.offset_times.proofs.LocalLemmas.{instant_of-nanos, FitsSigned-nanos}
use Rattle.offset_times.proofs.offset_date_time.OffsetDateTime.unix_timestamp_nanos.Goals as goal

pub overflow_cast-offset : goal.overflow_cast-offset
overflow_cast-offset c = omega (arith, signed_arith)

pub overflow_mul-result : goal.overflow_mul-result
overflow_mul-result c = omega (arith, signed_arith)

pub overflow_sub-result : goal.overflow_sub-result
overflow_sub-result c =
    FitsSigned-nanos c.args.self c.unix_timestamp_nanos.result c.whole_seconds-offset.result c.offset.ensures.self_in_range
    (c.unix_timestamp_nanos.ensures.value ∙ c.as_utc.ensures ∙ c.date_time.ensures.value)
    (c.whole_seconds-offset.ensures.value ∙ c.offset.ensures.value)

pub returns : goal.returns
returns c =
    instant_of-nanos c.args.self c.unix_timestamp_nanos.result c.whole_seconds-offset.result c.offset.ensures.self_in_range
    (c.unix_timestamp_nanos.ensures.value ∙ c.as_utc.ensures ∙ c.date_time.ensures.value)
    (c.whole_seconds-offset.ensures.value ∙ c.offset.ensures.value)
