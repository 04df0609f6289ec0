use Rattle.std.proofs.Common.{arith, refl, append_assoc, ◌+◌, ◌<◌, unsigned_abs}
use Rattle.rfc3339.proofs.WriteLemmas.{back_part, no_part, some_size, time_offset_text_of, sign_of_parts}
use Rattle.rfc3339.specs.Texts.{time_offset_text}
use Rattle.rfc3339.proofs.write.push_offset.Goals as goal
use Rattle.rfc3339.proofs.write.push_offset.Goals.{else-hours-eq0-via-then-hours-eq0+else-minutes-eq0, else-hours-eq0-via-else-hours-eq0}
use Rattle.rfc3339.proofs.write.push_offset.Goals.{then-is_west, else-is_west}

pub returns-then-minutes-eq0-clause-value : goal.returns-then-minutes-eq0-clause-value
unfolding time_offset_text
returns-then-minutes-eq0-clause-value c =
    let p = c.requires.parts in
    let hours = no_part c.args.hours (omega (arith, p.hours_in_range)) c.if-hours-eq0.true in
    let minutes = no_part c.args.minutes p.minutes_in_range c.if-minutes-eq0.true in rw (hours, minutes) c.push.ensures.value

pub returns-clause-value : goal.returns-clause-value
returns-clause-value c =
    let p = c.requires.parts in
    let h = back_part c.args.hours (omega (arith, p.hours_in_range)) in
    let m = back_part c.args.minutes p.minutes_in_range in
    let some : 0 < unsigned_abs c.args.hours + unsigned_abs c.args.minutes = elim c.else-hours-eq0.branch [
      | else-hours-eq0-via-then-hours-eq0+else-minutes-eq0 w ↦ omega (arith, some_size c.args.minutes w.if-minutes-eq0.false)
      | else-hours-eq0-via-else-hours-eq0 w ↦ omega (arith, some_size c.args.hours w.if-hours-eq0.false)
    ] in
    let text = time_offset_text_of c.args.hours c.args.minutes _ p some (sign_of_parts c.args.hours c.args.minutes p) in
    elim c.if-is_west.branch [
      | then-is_west w ↦
          rw (c.push_part-2.ensures.value, c.push_part.ensures.value, c.unsigned_abs.ensures.value, c.unsigned_abs-2.ensures.value, h, m, text, w.sign-is)
          (rw (rw (h, m) at w.if-is_west.true) (simp append_assoc refl))
      | else-is_west w ↦
          rw (c.push_part-2.ensures.value, c.push_part.ensures.value, c.unsigned_abs.ensures.value, c.unsigned_abs-2.ensures.value, h, m, text, w.sign-is)
          (rw (rw (h, m) at w.if-is_west.false) (simp append_assoc refl))
    ]
