use Rattle.std.proofs.Common.{rules, arith, sym, ◌∙◌}
use Rattle.rfc3339.specs.FieldDigitLemmas.{loop_drop, digits_at-none, length-digit}
use Rattle.iso_texts.proofs.reading.after_digits.Goals as goal

pub loop-more-smaller : goal.loop-more-smaller
loop-more-smaller c = omega (arith, length-digit _ _ _ (sym c.in-Some.ensures.value))

pub loop-more-preserved : goal.loop-more-preserved
loop-more-preserved c = record { value = loop_drop _ _ _ _ (sym c.in-Some.ensures.value) c.loop-more.invariant.value }

pub returns : goal.returns
returns c = sym (digits_at-none 0 c.loop-more.rest.now (search rules)) ∙ c.loop-more.invariant.value
