use Rattle.std.proofs.Common.{◌≡◌, ◌+◌, rules, get_or, ℤ, pos, ◌+ℤ◌, Ok, arith, w32, w64, to_z, of_z}
use Rattle.calendar_values.specs.SignedArith.{signed_arith}
use Rattle.lanes.specs.DateTimes.{IsWallSecond}
use Rattle.muxandu_c.specs.SecondBatches.{date_time_at_offset, with_four}
use Rattle.muxandu_c.specs.Values.{date_time_of_second}
use Rattle.muxandu_c.proofs.SecondBatchLemmas.{date_time_at_offset-call, values_of-four, status_of_items-four}
use Rattle.muxandu_c.proofs.second_batches.put_group.Goals as goal

-- the four seconds
abbrev a : goal.After-out-1 → ℤ
a c = get_or c.args.seconds.now c.args.place (pos 0)

abbrev b : goal.After-out-1 → ℤ
b c = get_or c.args.seconds.now (c.args.place + 1) (pos 0)

abbrev third : goal.After-out-1 → ℤ
third c = get_or c.args.seconds.now (c.args.place + 2) (pos 0)

abbrev d : goal.After-out-1 → ℤ
d c = get_or c.args.seconds.now (c.args.place + 3) (pos 0)

-- and what clocks show then
abbrev clocks : goal.After-out-1 → ℤ → ℤ
clocks c second = second +ℤ c.args.offset_seconds

at-a : (c : goal.After-out-1) → IsWallSecond (a c) × IsWallSecond (clocks c (a c))
at-a c = (search rules, search rules)

at-b : (c : goal.After-out-1) → IsWallSecond (b c) × IsWallSecond (clocks c (b c))
at-b c = (search rules, search rules)

at-third : (c : goal.After-out-1) → IsWallSecond (third c) × IsWallSecond (clocks c (third c))
at-third c = (search rules, search rules)

at-d : (c : goal.After-out-1) → IsWallSecond (d c) × IsWallSecond (clocks c (d c))
at-d c = (search rules, search rules)

back : (w : ℤ) → IsWallSecond w → to_z w64 (of_z w64 w) ≡ w
back w h = omega (arith, signed_arith)

call : (c : goal.After-out-1) (second : ℤ) → IsWallSecond second × IsWallSecond (clocks c second) →
    Ok (date_time_at_offset c.args.offset_seconds (clocks c second)) ≡ date_time_of_second c.args.offset_seconds second
call c second h = date_time_at_offset-call c.args.offset_seconds second c.requires.offset h.0 h.1

put : (c : goal.After-out-1) → c.put_date_times.new.out ≡ with_four c.args.out.now c.args.place
    (date_time_at_offset c.args.offset_seconds (clocks c (a c))) (date_time_at_offset c.args.offset_seconds (clocks c (b c)))
    (date_time_at_offset c.args.offset_seconds (clocks c (third c))) (date_time_at_offset c.args.offset_seconds (clocks c (d c)))
put c =
    let wide : to_z w64 (of_z w64 c.from-offset.result) ≡ c.args.offset_seconds = search rules in
    let offset : to_z w32 (of_z w32 c.args.offset_seconds) ≡ c.args.offset_seconds = search rules in
    simp (
      back (a c) (at-a c).0,
      back (b c) (at-b c).0,
      back (third c) (at-third c).0,
      back (d c) (at-d c).0,
      wide,
      offset,
      back (clocks c (a c)) (at-a c).1,
      back (clocks c (b c)) (at-b c).1,
      back (clocks c (third c)) (at-third c).1,
      back (clocks c (d c)) (at-d c).1,
    )
    at c.put_date_times.ensures

pub returns-then-d-le-LAST-clause-values : goal.returns-then-d-le-LAST-clause-values
returns-then-d-le-LAST-clause-values c = λ done.
    rw (put c) (values_of-four (date_time_of_second c.args.offset_seconds) c.args.seconds.now c.args.place (pos 0) c.args.out.now _ _ _ _
    c.requires.items c.requires.room (call c (a c) (at-a c)) (call c (b c) (at-b c)) (call c (third c) (at-third c)) (call c (d c) (at-d c)))

pub returns-then-d-le-LAST-clause-status : goal.returns-then-d-le-LAST-clause-status
returns-then-d-le-LAST-clause-status c = λ done.
    status_of_items-four (date_time_of_second c.args.offset_seconds) c.args.seconds.now c.args.place (pos 0) _ _ _ _
    c.requires.items (call c (a c) (at-a c)) (call c (b c) (at-b c)) (call c (third c) (at-third c)) (call c (d c) (at-d c))

pub put_date_times-requires-clause-a : goal.put_date_times-requires-clause-a
put_date_times-requires-clause-a c =
    let offset : c.from-offset.result ≡ c.args.offset_seconds = search rules in
    omega (arith, signed_arith)

pub put_date_times-requires-clause-b : goal.put_date_times-requires-clause-b
put_date_times-requires-clause-b c =
    let offset : c.from-offset.result ≡ c.args.offset_seconds = search rules in
    omega (arith, signed_arith)

pub put_date_times-requires-clause-c : goal.put_date_times-requires-clause-c
put_date_times-requires-clause-c c =
    let offset : c.from-offset.result ≡ c.args.offset_seconds = search rules in
    omega (arith, signed_arith)

pub put_date_times-requires-clause-d : goal.put_date_times-requires-clause-d
put_date_times-requires-clause-d c =
    let offset : c.from-offset.result ≡ c.args.offset_seconds = search rules in
    omega (arith, signed_arith)
