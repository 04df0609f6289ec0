use Rattle.std.proofs.Common.{rules, w32, to_z, of_z}
use Rattle.muxandu_c.proofs.AnswerLemmas.{date_time_to_offset-of}
use Rattle.muxandu_c.proofs.date_times.date_time_to_offset.Goals as goal

pub returns : goal.returns
returns c =
    let o = c.in_ok-checked_offset.field-0 in
    date_time_to_offset-of c.args.date_time c.args.offset_seconds (to_z w32 (of_z w32 c.args.offset_seconds)) c.in_ok-at.at o (to_z w32 (of_z w32 o)) _
    c.shown_parts.ensures (search rules) c.in_ok-at.ensures.value c.in_ok-checked_offset.ensures.value (search rules)
