use Rattle.std.proofs.Common.{rules, sym, ap, ◌∙◌, ◌≡◌, ◌==◌, false, length, to_z, of_z}
use Rattle.std.specs.Int.{w128}
use Rattle.duration_texts.proofs.TermLoopLemmas.{terms_from-fault, terms_from-ends, terms_from-next, terms_from-done}
use Rattle.duration_texts.proofs.terms.terms.Goals as goal

pub returns-in-Err-clause-value : goal.returns-in-Err-clause-value
returns-in-Err-clause-value c =
    terms_from-fault (length c.args.text.now) c.loop.counter c.loop.negative _ c.loop.rest.now c.in-Err.stop _ c.loop-test.true
    (sym c.in-Err.ensures.value) c.loop.invariant.value

pub returns-then-is_empty-clause-value : goal.returns-then-is_empty-clause-value
returns-then-is_empty-clause-value c =
    let same : to_z w128 (of_z w128 c.in-Ok.read.1) ≡ c.in-Ok.read.1 = search rules in
    let none : length c.past_blanks-next.result.now ≡ 0 = search rules in
    rw same (terms_from-ends (length c.args.text.now) c.loop.counter c.loop.negative _ c.loop.rest.now c.in-Ok.read.0 c.in-Ok.read.1 c.in-Ok.read.2.now _
    c.loop-test.true (sym c.in-Ok.ensures.value) (ap length (sym c.past_blanks-next.ensures) ∙ none) c.loop.invariant.value)

pub loop-preserved : goal.loop-preserved
loop-preserved c =
    let same : to_z w128 (of_z w128 c.in-Ok.read.1) ≡ c.in-Ok.read.1 = search rules in
    let some : (length c.past_blanks-next.result.now == 0) ≡ false = sym c.is_empty.ensures ∙ c.if-is_empty.false in
    rw same (rw c.goes_on-negative.ensures (rw c.past_blanks-next.ensures (record {
      value =
          terms_from-next (length c.args.text.now) c.loop.counter c.loop.negative _ c.loop.rest.now c.in-Ok.read.0 c.in-Ok.read.1
          c.in-Ok.read.2.now _ c.loop-test.true (sym c.in-Ok.ensures.value) (rw (sym c.past_blanks-next.ensures) some) c.loop.invariant.value;
      in_range = c.in-Ok.ensures.in_range;
    })))

pub returns-clause-value : goal.returns-clause-value
returns-clause-value c =
    rw c.no_digit.ensures (terms_from-done (length c.args.text.now) c.loop.counter c.loop.negative _ c.loop.rest.now _ c.loop-test.false c.loop.invariant.value)
