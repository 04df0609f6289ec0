use Rattle.std.proofs.Common.{arith, ◌<◌, length, take}
use Rattle.std.proofs.lemmas.Str.Parse.{digit_at}
use Rattle.std.proofs.lemmas.List.{length-take, take_all}
use Rattle.calendar_values.specs.SignedArith.{signed_arith, signed_casts}
use Rattle.times_bench.proofs.NumberLemmas.{digits_below, IsValueOf-more}
use Rattle.times_bench.proofs.numbers.parse_digits.Goals as goal
use Rattle.times_bench.proofs.numbers.parse_digits.Goals.{then-byte-lt48-via-then-byte-lt48, then-byte-lt48-via-else-byte-lt48+then-byte-gt57}

pub returns-then-byte-lt48 : goal.returns-then-byte-lt48
returns-then-byte-lt48 c = λ n.
    let h = digit_at c.args.text.now c.loop-byte.byte-index n.1 (omega arith) in
    elim c.then-byte-lt48.branch [
      | then-byte-lt48-via-then-byte-lt48 w ↦ omega (arith, w.if-byte-lt48, h)
      | then-byte-lt48-via-else-byte-lt48+then-byte-gt57 w ↦ omega (arith, w.if-byte-gt57, h)
    ]

pub overflow_mul-value : goal.overflow_mul-value
overflow_mul-value c =
    let count = length-take c.loop-byte.byte-index c.args.text.now in
    omega (arith, digits_below (take c.loop-byte.byte-index c.args.text.now) 17 c.loop-byte.invariant.all (omega arith))

pub overflow_add-value : goal.overflow_add-value
overflow_add-value c =
    let count = length-take c.loop-byte.byte-index c.args.text.now in
    omega (arith, digits_below (take c.loop-byte.byte-index c.args.text.now) 17 c.loop-byte.invariant.all (omega arith))

pub loop-byte-preserved : goal.loop-byte-preserved
loop-byte-preserved c = IsValueOf-more c.args.text.now c.loop-byte.byte-index c.loop-byte.value (omega arith) c.loop-byte.invariant (omega arith) (omega arith)

pub overflow_cast-result : goal.overflow_cast-result
overflow_cast-result c =
    let h = rw (take_all c.loop-byte.byte-index c.args.text.now (omega arith)) at c.loop-byte.invariant in
    omega (arith, signed_arith, h.is, digits_below c.args.text.now 18 h.all c.requires)

pub returns : goal.returns
returns c =
    let h = rw (take_all c.loop-byte.byte-index c.args.text.now (omega arith)) at c.loop-byte.invariant in
    let some : 0 < length c.args.text.now = grind (arith, c.is_empty.ensures) in
    ((some, h.all), omega (arith, signed_casts, h.is, digits_below c.args.text.now 18 h.all c.requires))
