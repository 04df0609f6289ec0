use Rattle.std.proofs.Common.{◌≡◌, ℕ, ◌+◌, ◌<◌, List, [], ◌∷◌, ◌++◌, length, map, take, get_or, arith, rules, ℤ, pos, to_z, of_z, w64}
use Rattle.std.proofs.lemmas.List.{map_more, get_or_default}
use Rattle.utc_times.specs.UnixTime.{instant_of_second}
use Rattle.stamp_times.proofs.timestamp.Timestamp.from_seconds_slice.Goals as goal

made-more : (old new : List ℤ) (seconds : List ℤ) (k : ℕ) (stamp second : ℤ) → k < length seconds → second ≡ get_or seconds k (pos 0)
    → old ≡ map instant_of_second (take k seconds) → stamp ≡ instant_of_second second → new ≡ old ++ stamp ∷ []
    → new ≡ map instant_of_second (take (k + 1) seconds)
made-more old new seconds k stamp second below here made e put =
    rw (put, made, e, here, map_more instant_of_second seconds k (pos 0) below)

pub loop-place-preserved : goal.loop-place-preserved
loop-place-preserved c =
    let second : to_z w64 (of_z w64 (get_or c.args.seconds.now c.loop-place.place (pos 0))) ≡ get_or c.args.seconds.now c.loop-place.place (pos 0)
    = search rules in
    record {
      made = made-more _ _ _ _ _ _ c.loop-place-test.true second c.loop-place.invariant.made c.in-Ok.ensures.value.1 c.put_in_room.ensures.items;
      count = omega arith;
      room = omega arith;
    }

pub returns-in-Err-clause-before : goal.returns-in-Err-clause-before
returns-in-Err-clause-before c = c.loop-place.invariant.made

pub returns-in-Err-clause-refused : goal.returns-in-Err-clause-refused
returns-in-Err-clause-refused c =
    let second : to_z w64 (of_z w64 (get_or c.args.seconds.now c.loop-place.place (pos 0))) ≡ get_or c.args.seconds.now c.loop-place.place (pos 0)
    = search rules in
    let refused = rw second at c.in-Err.ensures.value in
    (c.loop-place-test.true, λ d. rw (get_or_default c.args.seconds.now c.loop-place.place d (pos 0) c.loop-place-test.true) refused)
