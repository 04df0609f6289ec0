use Rattle.std.proofs.Common.{◌∙◌, refl}
use Rattle.muxandu_c.proofs.TextBlockLemmas.{mid_of-rest, put_mid-rest}
use Rattle.muxandu_c.proofs.formats.write_format_at.Goals as goal

pub returns-clause-length : goal.returns-clause-length
returns-clause-length c = rw⁻¹ (mid_of-rest c.args.start c.args.block.now) c.write_format.ensures.length

pub returns-clause-written : goal.returns-clause-written
returns-clause-written c =
    put_mid-rest c.args.start c.args.block.now _ ∙ rw (c.write_format.ensures.written, mid_of-rest c.args.start c.args.block.now) refl
