use Rattle.std.proofs.Common.{rules, refl}
use Rattle.muxandu_c.proofs.DescriptionLemmas.{text_short}
use Rattle.muxandu_c.proofs.descriptions.write_items.Goals as goal

pub returns-in-Ok-clause-size : goal.returns-in-Ok-clause-size
returns-in-Ok-clause-size c = let put = c.in-Ok.ensures.written in rw (put.1, put.2) refl

pub returns-in-Ok-clause-written : goal.returns-in-Ok-clause-written
returns-in-Ok-clause-written c = let put = c.in-Ok.ensures.written in rw (put.1, put.2, put.3) refl

pub returns-in-Ok-clause-room : goal.returns-in-Ok-clause-room
returns-in-Ok-clause-room c =
    let put = c.in-Ok.ensures.written in
    rw put.1 (text_short c.args.version c.args.items.now put.0 _ c.args.buffer.now c.write_description.new.room c.requires put.1 put.3 (search rules))

pub returns-in-Err-clause-size : goal.returns-in-Err-clause-size
returns-in-Err-clause-size c =
    let fault = c.in-Err.ensures.refused in rw (fault.1, ← fault.2, c.refused_items.ensures, c.reason_of_item_fault.ensures) refl

pub returns-in-Err-clause-written : goal.returns-in-Err-clause-written
returns-in-Err-clause-written c = let fault = c.in-Err.ensures.refused in rw fault.1 c.in-Err.ensures.unchanged

pub returns-in-Err-clause-room : goal.returns-in-Err-clause-room
returns-in-Err-clause-room c = let fault = c.in-Err.ensures.refused in rw fault.1 tt
