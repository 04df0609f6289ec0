use Rattle.std.proofs.Common.{◌∙◌, sym, append_assoc, [], ◌∷◌}
use Rattle.calendar_values.proofs.DigitLemmas.{fraction_digits-zero}
use Rattle.calendar_values.proofs.time.texts.push_fraction.Goals as goal

pub returns-then-nanosecond-eq0-clause-text : goal.returns-then-nanosecond-eq0-clause-text
returns-then-nanosecond-eq0-clause-text c =
    rw (c.if-nanosecond-eq0.true, fraction_digits-zero)
    (c.push_bytes.ensures.value ∙ sym (append_assoc c.args.text.now (46 ∷ []) (48 ∷ [])))
