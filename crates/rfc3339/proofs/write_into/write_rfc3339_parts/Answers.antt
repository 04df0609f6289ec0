use Rattle.rfc3339.proofs.PutLemmas.{put_all}
use Rattle.rfc3339.proofs.write_into.write_rfc3339_parts.Goals as goal

pub returns-clause-text : goal.returns-clause-text
returns-clause-text c =
    (put_all c.args.parts c.args.bytes.now c.put_wall.new.bytes c.put_fraction-end.new.bytes c.put_offset.new.bytes c.put_fraction-end.result
    c.put_offset.result c.requires.parts c.requires.nanosecond c.put_wall.ensures c.put_fraction-end.ensures.value c.put_fraction-end.ensures.place
    c.put_offset.ensures.value c.put_offset.ensures.place).0

pub returns-clause-length : goal.returns-clause-length
returns-clause-length c =
    (put_all c.args.parts c.args.bytes.now c.put_wall.new.bytes c.put_fraction-end.new.bytes c.put_offset.new.bytes c.put_fraction-end.result
    c.put_offset.result c.requires.parts c.requires.nanosecond c.put_wall.ensures c.put_fraction-end.ensures.value c.put_fraction-end.ensures.place
    c.put_offset.ensures.value c.put_offset.ensures.place).1
