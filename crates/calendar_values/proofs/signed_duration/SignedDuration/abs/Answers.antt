use Rattle.std.proofs.Common.{◌≡◌, pos, unsigned_abs, FitsSigned, w32, w64, to_z-of_z, arith, rules, inl}
use Rattle.calendar_values.specs.SignedArith.{signed_arith}
use Rattle.calendar_values.proofs.DurationLemmas.{duration_of_parts-abs}
use Rattle.calendar_values.proofs.signed_duration.SignedDuration.abs.Goals as goal

pub invariant_of-result-2 : goal.invariant_of-result-2
invariant_of-result-2 c = record {
  in_range = omega (arith, signed_arith);
  one_sign = inl (omega (arith, signed_arith), omega (arith, signed_arith));
}

pub returns : goal.returns
returns c =
    let s : FitsSigned w64 c.self.inside.seconds = search rules in
    let n : FitsSigned w32 c.self.inside.nanoseconds = omega (arith, signed_arith, c.self.invariant.in_range) in
    let whole : FitsSigned w64 c.abs.result = search rules in
    let part : FitsSigned w32 c.abs-2.result = search rules in
    let seconds : c.abs.result ≡ pos (unsigned_abs c.self.inside.seconds) = simp to_z-of_z at c.abs.ensures.value in
    let nanoseconds : c.abs-2.result ≡ pos (unsigned_abs c.self.inside.nanoseconds) = simp to_z-of_z at c.abs-2.ensures.value in
    simp to_z-of_z (rw (seconds, nanoseconds, ← c.self.view_is)
    (duration_of_parts-abs _ _ c.self.invariant (omega (arith, signed_arith, c.abs.type_inv, seconds))))
