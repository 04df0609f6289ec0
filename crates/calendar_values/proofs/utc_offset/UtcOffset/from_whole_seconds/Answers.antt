use Rattle.std.proofs.Common.{◌∙◌, sym, ap, arith}
use Rattle.std.specs.Prelude.{Ok}
use Rattle.calendar_values.specs.SignedArith.{signed_arith}
use Rattle.calendar_values.specs.Offsets.{IsOffset}
use Rattle.calendar_values.specs.OffsetPartLemmas.{AreSignedOffsetParts-of, seconds_of_parts-of}
use Rattle.calendar_values.proofs.OffsetLemmas.{computed_hours, computed_minutes, computed_seconds, offset_of_seconds-in}
use Rattle.calendar_values.proofs.utc_offset.UtcOffset.from_whole_seconds.Goals as goal

pub invariant_of-result : goal.invariant_of-result
invariant_of-result c =
    let o = c.args.seconds in
    let in_range : IsOffset o = omega (arith, signed_arith) in
    rw (computed_hours o in_range, computed_minutes o in_range, computed_seconds o in_range) (AreSignedOffsetParts-of o in_range)

pub returns : goal.returns
returns c =
    let o = c.args.seconds in
    let in_range : IsOffset o = omega (arith, signed_arith) in
    rw (computed_hours o in_range, computed_minutes o in_range, computed_seconds o in_range) (record {
      value = (in_range, seconds_of_parts-of o);
      refused = tt;
      equation = ap Ok (seconds_of_parts-of o) ∙ sym (offset_of_seconds-in o in_range);
    })
