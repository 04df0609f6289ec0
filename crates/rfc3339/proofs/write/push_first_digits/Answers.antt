use Rattle.std.proofs.Common.{append-nil, refl, sym, ◌∙◌}
use Rattle.rfc3339.proofs.WriteLemmas.{pushed_first}
use Rattle.rfc3339.specs.Texts.{fraction_of_digits}
use Rattle.rfc3339.proofs.write.push_first_digits.Goals as goal

pub returns-then-digits-eq0-clause-value : goal.returns-then-digits-eq0-clause-value
unfolding fraction_of_digits
returns-then-digits-eq0-clause-value c = rw c.if-digits-eq0.true (sym (append-nil c.args.text.now))

pub returns-clause-value : goal.returns-clause-value
returns-clause-value c =
    pushed_first c.args.text.now c.push_bytes.new.self c.args.digits c.args.nanosecond c.if-digits-eq0.false
    (c.push_bytes.ensures.value ∙ rw (c.push.ensures.value, c.as_bytes.ensures.value, c.push_nine_digits.ensures.value, c.new-nine.ensures, c.min.ensures) refl)
