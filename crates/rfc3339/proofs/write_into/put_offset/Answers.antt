use Rattle.rfc3339.proofs.PutLemmas.{no_offset_text, some_offset_text}
use Rattle.rfc3339.proofs.write_into.put_offset.Goals as goal

pub returns-then-hour-minute-clause-value : goal.returns-then-hour-minute-clause-value
returns-then-hour-minute-clause-value c = rw (no_offset_text c.args.is_west c.args.hour c.args.minute c.if-hour-minute.true) c.write_at.ensures.value

pub returns-then-hour-minute-clause-place : goal.returns-then-hour-minute-clause-place
returns-then-hour-minute-clause-place c = rw (no_offset_text c.args.is_west c.args.hour c.args.minute c.if-hour-minute.true) c.write_at.ensures.place

pub returns-clause-value : goal.returns-clause-value
returns-clause-value c =
    rw (some_offset_text c.args.is_west c.args.hour c.args.minute c.if-hour-minute.false c.requires.hour c.requires.minute)
    (rw (← c.offset_bytes.ensures) c.write_at-2.ensures.value)

pub returns-clause-place : goal.returns-clause-place
returns-clause-place c =
    rw (some_offset_text c.args.is_west c.args.hour c.args.minute c.if-hour-minute.false c.requires.hour c.requires.minute)
    (rw (← c.offset_bytes.ensures) c.write_at-2.ensures.place)
