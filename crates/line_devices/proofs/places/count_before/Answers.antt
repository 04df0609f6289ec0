use Rattle.std.proofs.Common.{eqb, sym, ap, ◌∙◌, arith, w8}
use lib.Count.{count_trailing_zeros}
use lib.Lanes.{chunk}
use Rattle.std.proofs.lemmas.Bool.{eqb-true, eqb-false}
use Rattle.std.proofs.lemmas.Simd.{length-chunk, bitmask_splat, none_from_empty_mask, trailing_mask_l, run_in_chunk_le, run_in_chunk_fails, run_in_chunk_stops}
use Rattle.line_devices.proofs.places.count_before.Goals as goal

pub returns-then-marks-eq0-clause-before : goal.returns-then-marks-eq0-clause-before
returns-then-marks-eq0-clause-before c = λ k from to.
    let text = c.args.text.now in
    let v = chunk c.args.place 16 text in
    let marks = bitmask_splat w8 eqb v 16 c.args.byte (length-chunk c.args.place 16 text c.requires) (omega arith) in
    eqb-false _ _ (none_from_empty_mask (λ x. eqb x c.args.byte) text c.args.place 16 0 c.requires (sym marks ∙ c.if-marks-eq0.true) k from to)

pub returns-clause-bound : goal.returns-clause-bound
returns-clause-bound c =
    let text = c.args.text.now in
    let v = chunk c.args.place 16 text in
    let long = length-chunk c.args.place 16 text c.requires in
    let marks = bitmask_splat w8 eqb v 16 c.args.byte long (omega arith) in
    let counted = ap (count_trailing_zeros 64) marks
    ∙ trailing_mask_l (λ x. eqb x c.args.byte) 64 v (omega arith) (omega (arith, marks, c.if-marks-eq0.false)) in
    run_in_chunk_le (λ x. eqb x c.args.byte) text c.args.place 16 _ 0 c.requires counted

pub returns-clause-before : goal.returns-clause-before
returns-clause-before c = λ k from to.
    let text = c.args.text.now in
    let v = chunk c.args.place 16 text in
    let long = length-chunk c.args.place 16 text c.requires in
    let marks = bitmask_splat w8 eqb v 16 c.args.byte long (omega arith) in
    let counted = ap (count_trailing_zeros 64) marks
    ∙ trailing_mask_l (λ x. eqb x c.args.byte) 64 v (omega arith) (omega (arith, marks, c.if-marks-eq0.false)) in
    eqb-false _ _ (run_in_chunk_fails (λ x. eqb x c.args.byte) text c.args.place 16 _ 0 c.requires counted k from to)

pub returns-clause-byte_there : goal.returns-clause-byte_there
returns-clause-byte_there c = λ short.
    let text = c.args.text.now in
    let v = chunk c.args.place 16 text in
    let long = length-chunk c.args.place 16 text c.requires in
    let marks = bitmask_splat w8 eqb v 16 c.args.byte long (omega arith) in
    let counted = ap (count_trailing_zeros 64) marks
    ∙ trailing_mask_l (λ x. eqb x c.args.byte) 64 v (omega arith) (omega (arith, marks, c.if-marks-eq0.false)) in
    eqb-true _ _ (run_in_chunk_stops (λ x. eqb x c.args.byte) text c.args.place 16 _ 0 c.requires counted short)
