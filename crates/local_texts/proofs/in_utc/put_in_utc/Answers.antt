use Rattle.std.proofs.Common.{rules}
use Rattle.local_texts.proofs.PutLemmas.{put_whole, put_in_room}
use Rattle.local_texts.proofs.in_utc.put_in_utc.Goals as goal

pub returns-clause-written : goal.returns-clause-written
returns-clause-written c =
    put_whole c.args.date.now c.args.text.now _ _ c.args.room.now c.copy_from_slice.ensures.after c.copy_from_slice-2.ensures.after c.requires (search rules)

pub returns-clause-whole : goal.returns-clause-whole
returns-clause-whole c =
    put_in_room c.args.date.now c.args.text.now _ _ c.args.room.now
    c.copy_from_slice.ensures.after c.copy_from_slice-2.ensures.after c.requires (search rules)
