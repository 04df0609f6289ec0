use Rattle.std.proofs.Common.{arith, ◌<◌, ◌+◌, ◌++◌, length, take, drop, refl}
use Rattle.std.proofs.lemmas.Result.{err_from_is_err_and}
use Rattle.line_counts.specs.declared.lines.Work.{Work}
use Rattle.line_counts.proofs.BlockLemmas.{line_joined, line_rejoined}
use Rattle.line_counts.proofs.StandLemmas.{feed_falls, none_in_front, stands_line, stands_part}
use Rattle.line_counts.proofs.lines.take_front.Goals as goal

pub returns-then-end-text-clause-stands : goal.returns-then-end-text-clause-stands
returns-then-end-text-clause-stands g c = λ base taken h.
    stands_part (g.B.Buckets.counting c.args.buckets.now) c.args.is_strict base _ c.args.pending.now c.args.work.now _ taken _ h
    (none_in_front c.args.text.now c.place_of-end.result c.place_of-end.ensures.before) refl c.push_front_of.ensures

pub returns-in_err-take_line-clause-ends : goal.returns-in_err-take_line-clause-ends
returns-in_err-take_line-clause-ends g c =
    let p = err_from_is_err_and c.from_residual.result c.from_residual.ensures.1 in
    let text = c.args.text.now in
    let end = c.place_of-end.result in
    let low : end < length text = omega (arith, c.place_of-end.ensures.bounds, c.if-end-text.false) in
    let work : Work _ = record { tally = c.args.work.now.tally; head = c.push_front_of.new.self } in
    rw (p.1, p.2) (λ base taken more h.
    let part =
    stands_part (g.B.Buckets.counting c.args.buckets.now) c.args.is_strict base _ c.args.pending.now c.args.work.now work taken (take end text) h
    (none_in_front text end c.place_of-end.ensures.before) refl c.push_front_of.ensures in
    rw (← line_rejoined taken text more end low (c.place_of-end.ensures.byte_there low))
    (feed_falls (g.B.Buckets.counting c.args.buckets.now) c.args.is_strict base _ _ c.args.pending.now work (taken ++ take end text) (drop (end + 1) text ++
    more) _
    (g.met.B.Buckets.by_head c.args.buckets.now, g.met.B.Buckets.remembers_head c.args.buckets.now) part (rw c.items.ensures.value at
    c.in_err-take_line.ensures.takes)))

pub returns-clause-stands : goal.returns-clause-stands
returns-clause-stands g c = λ base taken h.
    let text = c.args.text.now in
    let end = c.place_of-end.result in
    let low : end < length text = omega (arith, c.place_of-end.ensures.bounds, c.if-end-text.false) in
    let work : Work _ = record { tally = c.args.work.now.tally; head = c.push_front_of.new.self } in
    let part =
    stands_part (g.B.Buckets.counting c.args.buckets.now) c.args.is_strict base _ c.args.pending.now c.args.work.now work taken (take end text) h
    (none_in_front text end c.place_of-end.ensures.before) refl c.push_front_of.ensures in
    rw (← line_joined taken text end low (c.place_of-end.ensures.byte_there low))
    (stands_line (g.B.Buckets.counting c.args.buckets.now) c.args.is_strict base _ _ c.args.pending.now c.take_line.new.pending work _ (taken ++ take end text)
    (g.met.B.Buckets.by_head c.args.buckets.now, g.met.B.Buckets.remembers_head c.args.buckets.now) part c.clear.ensures (rw c.items.ensures.value at
    c.in_ok-take_line.ensures.takes))
