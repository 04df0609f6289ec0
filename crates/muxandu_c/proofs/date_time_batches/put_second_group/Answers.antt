use Rattle.std.proofs.Common.{◌≡◌, ◌+◌, get_or, pos, w64, to_z, of_z}
use Rattle.lanes.specs.Seconds.{IsInside, second_of}
use Rattle.muxandu_c.specs.DateTimeBatches.{lane_of_date_time}
use Rattle.muxandu_c.specs.Values.{second_of_date_time}
use Rattle.muxandu_c.specs.declared.values.MuxanduDateTime.{MuxanduDateTime}
use Rattle.muxandu_c.proofs.DateTimeBatchLemmas.{second_of-call, second_of-back}
use Rattle.muxandu_c.proofs.SecondBatchLemmas.{values_of-four, status_of_items-four}
use Rattle.muxandu_c.proofs.date_time_batches.put_second_group.Goals as goal

abbrev none : MuxanduDateTime
none = record { year = pos 0; month = 0; day = 0; hour = 0; minute = 0; second = 0; nanosecond = 0; offset_seconds = pos 0 }

-- the four date-times
abbrev a : goal.After-out-then-are_inside-3-1 → MuxanduDateTime
a c = get_or c.args.date_times.now c.args.place none

abbrev b : goal.After-out-then-are_inside-3-1 → MuxanduDateTime
b c = get_or c.args.date_times.now (c.args.place + 1) none

abbrev third : goal.After-out-then-are_inside-3-1 → MuxanduDateTime
third c = get_or c.args.date_times.now (c.args.place + 2) none

abbrev d : goal.After-out-then-are_inside-3-1 → MuxanduDateTime
d c = get_or c.args.date_times.now (c.args.place + 3) none

-- and the lanes of one
abbrev inside : MuxanduDateTime → Type 0
inside v = IsInside (lane_of_date_time v)

at-a : (c : goal.After-out-then-are_inside-3-1) → inside (a c)
at-a c = rw c.lane_of_date_time-a.ensures at (c.are_inside.ensures.0 c.if-are_inside.true).0

at-b : (c : goal.After-out-then-are_inside-3-1) → inside (b c)
at-b c = rw c.lane_of_date_time-b.ensures at (c.are_inside.ensures.0 c.if-are_inside.true).1

at-third : (c : goal.After-out-then-are_inside-3-1) → inside (third c)
at-third c = rw c.lane_of_date_time-c.ensures at (c.are_inside.ensures.0 c.if-are_inside.true).2

at-d : (c : goal.After-out-then-are_inside-3-1) → inside (d c)
at-d c = rw c.lane_of_date_time-d.ensures at (c.are_inside.ensures.0 c.if-are_inside.true).3

put-a : (c : goal.After-out-then-are_inside-3-1) →
    to_z w64 (of_z w64 (get_or c.seconds-values.result 0 (pos 0))) ≡ second_of (lane_of_date_time (a c))
put-a c = rw (c.seconds-values.ensures, c.lane_of_date_time-a.ensures) (second_of-back (a c) (at-a c))

put-b : (c : goal.After-out-then-are_inside-3-1) →
    to_z w64 (of_z w64 (get_or c.seconds-values.result 1 (pos 0))) ≡ second_of (lane_of_date_time (b c))
put-b c = rw (c.seconds-values.ensures, c.lane_of_date_time-b.ensures) (second_of-back (b c) (at-b c))

put-third : (c : goal.After-out-then-are_inside-3-1) →
    to_z w64 (of_z w64 (get_or c.seconds-values.result 2 (pos 0))) ≡ second_of (lane_of_date_time (third c))
put-third c = rw (c.seconds-values.ensures, c.lane_of_date_time-c.ensures) (second_of-back (third c) (at-third c))

put-d : (c : goal.After-out-then-are_inside-3-1) →
    to_z w64 (of_z w64 (get_or c.seconds-values.result 3 (pos 0))) ≡ second_of (lane_of_date_time (d c))
put-d c = rw (c.seconds-values.ensures, c.lane_of_date_time-d.ensures) (second_of-back (d c) (at-d c))

pub returns-then-are_inside-clause-values : goal.returns-then-are_inside-clause-values
returns-then-are_inside-clause-values c = λ done.
    rw (put-a c, put-b c, put-third c, put-d c) (values_of-four second_of_date_time c.args.date_times.now c.args.place none c.args.out.now
    (second_of (lane_of_date_time (a c))) (second_of (lane_of_date_time (b c))) (second_of (lane_of_date_time (third c)))
    (second_of (lane_of_date_time (d c))) c.requires.items c.requires.room (second_of-call (a c) (at-a c)) (second_of-call (b c) (at-b c))
    (second_of-call (third c) (at-third c)) (second_of-call (d c) (at-d c)))

pub returns-then-are_inside-clause-status : goal.returns-then-are_inside-clause-status
returns-then-are_inside-clause-status c = λ done.
    status_of_items-four second_of_date_time c.args.date_times.now c.args.place none
    (second_of (lane_of_date_time (a c))) (second_of (lane_of_date_time (b c))) (second_of (lane_of_date_time (third c)))
    (second_of (lane_of_date_time (d c))) c.requires.items (second_of-call (a c) (at-a c)) (second_of-call (b c) (at-b c))
    (second_of-call (third c) (at-third c)) (second_of-call (d c) (at-d c))
