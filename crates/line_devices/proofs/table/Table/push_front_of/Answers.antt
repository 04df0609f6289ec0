use Rattle.std.proofs.Common.{sym}
use Rattle.std.proofs.Math.Seq.{take-append-add}
use Rattle.line_devices.proofs.table.Table.push_front_of.Goals as goal

pub returns-else-items-room : goal.returns-else-items-room
returns-else-items-room g c =
    rw (c.push_all-else-items-room.ensures, ← c.room-room.ensures) (sym (take-append-add c.args.self.now c.args.items.now c.room-room.result))
