use Rattle.rfc3339.proofs.PutLemmas.{put_wall_parts}
use Rattle.rfc3339.proofs.write_into.put_wall.Goals as goal

pub returns : goal.returns
returns c =
    put_wall_parts c.args.parts c.args.bytes.now c.put_pair.new.bytes c.put_pair-2.new.bytes c.put_part.new.bytes c.put_part-2.new.bytes
    c.put_part-3.new.bytes c.put_part-4.new.bytes c.put_part-5.new.bytes c.requires.year c.put_pair.ensures c.put_pair-2.ensures c.put_part.ensures
    c.put_part-2.ensures c.put_part-3.ensures c.put_part-4.ensures c.put_part-5.ensures
