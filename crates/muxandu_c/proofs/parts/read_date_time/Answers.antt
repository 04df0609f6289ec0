use Rattle.std.proofs.Common.{rules, w32, to_z, of_z}
use Rattle.muxandu_c.proofs.AnswerLemmas.{date_time_value-of, date_time_parts-of}
use Rattle.muxandu_c.proofs.parts.read_date_time.Goals as goal

pub returns-clause-value : goal.returns-clause-value
returns-clause-value c =
    let v = c.args.date_time in
    date_time_value-of v (to_z w32 (of_z w32 v.year)) (to_z w32 (of_z w32 v.offset_seconds)) c.in_ok-date.date c.in_ok-time.time c.in_ok-offset.offset
    c.new_in_offset.result (search rules) (search rules) c.in_ok-date.ensures.value c.in_ok-time.ensures.equation c.in_ok-offset.ensures.value
    c.new_in_offset.ensures.value

pub returns-clause-shown : goal.returns-clause-shown
returns-clause-shown c =
    let v = c.args.date_time in
    date_time_parts-of v (to_z w32 (of_z w32 v.year)) (to_z w32 (of_z w32 v.offset_seconds)) c.in_ok-date.date c.in_ok-time.time c.in_ok-offset.offset
    c.new_in_offset.result (search rules) (search rules) c.in_ok-date.ensures.shown c.in_ok-time.ensures.value.0 c.in_ok-time.ensures.value.1
    c.in_ok-offset.ensures.seconds c.new_in_offset.ensures.value
