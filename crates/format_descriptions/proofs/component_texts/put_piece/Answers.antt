use Rattle.std.proofs.Common.{arith, ap, length, ℕ, ◌+◌, ◌-◌}
use Rattle.std.proofs.lemmas.Slice.{drop-put_mid}
use Rattle.format_descriptions.proofs.component_texts.put_piece.Goals as goal

pub returns-clause-others : goal.returns-clause-others
returns-clause-others c = λ k above.
    drop-put_mid c.args.used (c.args.used + length c.args.piece.now - c.args.used) c.args.room.now c.copy_from_slice.new.self k (omega (arith, above))
    (omega (arith, c.requires)) (omega (arith, ap (length {A = ℕ}) c.copy_from_slice.ensures.after))
