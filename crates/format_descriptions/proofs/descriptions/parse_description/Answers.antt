use Rattle.std.proofs.Common.{rules, ◌≡◌, ◌+◌, ◌-◌, ◌<◌, ◌∷◌, length, suc, arith, refl}
use Rattle.std.proofs.lemmas.Grind.{take-set_at}
use Rattle.std.proofs.lemmas.List.{length-take-le, take-append-drop, length-set, drop-set-lt}
use Rattle.format_descriptions.proofs.DescriptionLemmas.{step_on, step_item, step_full, step_fault, end_fault, end_items}
use Rattle.format_descriptions.proofs.DescriptionLemmas.{first_on, first_item, first_full, first_fault, first_end, room_with}
use Rattle.format_descriptions.proofs.descriptions.parse_description.Goals as goal

pub returns-in-Err-clause-count : goal.returns-in-Err-clause-count
returns-in-Err-clause-count c =
    let front : c.loop-first.rest.now ≡ c.in-Some.first.now ∷ c.in-Some.more.now = search rules in
    let all = step_fault c.args.version _ _ c.loop-first.state c.in-Err.fault _ _ _ _ c.loop-first.invariant.same front c.in-Err.ensures in
    rw (all, c.refusal.ensures) refl

pub returns-in-Err-clause-items : goal.returns-in-Err-clause-items
returns-in-Err-clause-items c =
    let front : c.loop-first.rest.now ≡ c.in-Some.first.now ∷ c.in-Some.more.now = search rules in
    let all = step_fault c.args.version _ _ c.loop-first.state c.in-Err.fault _ _ _ _ c.loop-first.invariant.same front c.in-Err.ensures in
    rw all tt

pub returns-in-Err-clause-refused : goal.returns-in-Err-clause-refused
returns-in-Err-clause-refused c =
    let front : c.loop-first.rest.now ≡ c.in-Some.first.now ∷ c.in-Some.more.now = search rules in
    let all = step_fault c.args.version _ _ c.loop-first.state c.in-Err.fault _ _ _ _ c.loop-first.invariant.same front c.in-Err.ensures in
    rw c.refusal.ensures (c.in-Err.fault.1, all, refl)

pub returns-then-count-room-clause-count : goal.returns-then-count-room-clause-count
returns-then-count-room-clause-count c =
    let front : c.loop-first.rest.now ≡ c.in-Some.first.now ∷ c.in-Some.more.now = search rules in
    let full : length c.args.room.now - c.loop-first.count ≡ 0 = omega (arith, c.if-count-room.true, c.loop-first.invariant.length) in
    let all =
    step_full c.args.version _ _ c.loop-first.state c.in-Ok.read c.in-Some-item.item _ _ _ _ c.loop-first.invariant.same front
    c.in-Ok.ensures c.in-Some-item.is full
    in
    rw (all, c.refusal-then-count-room.ensures) refl

pub returns-then-count-room-clause-items : goal.returns-then-count-room-clause-items
returns-then-count-room-clause-items c =
    let front : c.loop-first.rest.now ≡ c.in-Some.first.now ∷ c.in-Some.more.now = search rules in
    let full : length c.args.room.now - c.loop-first.count ≡ 0 = omega (arith, c.if-count-room.true, c.loop-first.invariant.length) in
    let all =
    step_full c.args.version _ _ c.loop-first.state c.in-Ok.read c.in-Some-item.item _ _ _ _ c.loop-first.invariant.same front
    c.in-Ok.ensures c.in-Some-item.is full
    in
    rw all tt

pub returns-then-count-room-clause-refused : goal.returns-then-count-room-clause-refused
returns-then-count-room-clause-refused c =
    let front : c.loop-first.rest.now ≡ c.in-Some.first.now ∷ c.in-Some.more.now = search rules in
    let full : length c.args.room.now - c.loop-first.count ≡ 0 = omega (arith, c.if-count-room.true, c.loop-first.invariant.length) in
    let all =
    step_full c.args.version _ _ c.loop-first.state c.in-Ok.read c.in-Some-item.item _ _ _ _ c.loop-first.invariant.same front
    c.in-Ok.ensures c.in-Some-item.is full
    in
    rw c.refusal-then-count-room.ensures (length c.loop-first.rest.now, all, refl)

pub loop-first-preserved-else-count-room : goal.loop-first-preserved-else-count-room
loop-first-preserved-else-count-room c =
    let front : c.loop-first.rest.now ≡ c.in-Some.first.now ∷ c.in-Some.more.now = search rules in
    let below : c.loop-first.count < length c.loop-first.room = omega (arith, c.if-count-room.false) in
    let more : length c.args.room.now - c.loop-first.count ≡ suc (length c.args.room.now - (c.loop-first.count + 1)) =
    omega (arith, c.if-count-room.false, c.loop-first.invariant.length)
    in
    record {
      same =
          rw (take-set_at c.loop-first.room c.loop-first.count (c.loop-first.count + 1) c.in-Some-item.item refl below)
          (step_item c.args.version _ _ _ c.loop-first.state c.in-Ok.read c.in-Some-item.item _ _ _ _ c.loop-first.invariant.same front
          c.in-Ok.ensures c.in-Some-item.is more);
      first =
          rw (take-set_at c.loop-first.room c.loop-first.count (c.loop-first.count + 1) c.in-Some-item.item refl below)
          (first_item c.args.version _ _ _ c.loop-first.state c.in-Ok.read c.in-Some-item.item _ _ _ _ c.loop-first.invariant.first front
          c.in-Ok.ensures c.in-Some-item.is more);
      others = λ k above.
          rw (drop-set-lt k c.loop-first.room c.loop-first.count c.in-Some-item.item (omega (arith, above)))
          (c.loop-first.invariant.others k (omega (arith, above)));
      count = omega (arith, c.if-count-room.false, c.loop-first.invariant.length);
      length = rw (length-set c.loop-first.room c.loop-first.count c.in-Some-item.item) c.loop-first.invariant.length;
    }

pub loop-first-preserved : goal.loop-first-preserved
loop-first-preserved c =
    let front : c.loop-first.rest.now ≡ c.in-Some.first.now ∷ c.in-Some.more.now = search rules in
    record {
      same = step_on c.args.version _ _ c.loop-first.state c.in-Ok.read _ _ _ _ c.loop-first.invariant.same front c.in-Ok.ensures
          c.in_default-item.is;
      first = first_on c.args.version _ _ c.loop-first.state c.in-Ok.read _ _ _ _ c.loop-first.invariant.first front c.in-Ok.ensures
          c.in_default-item.is;
      others = c.loop-first.invariant.others;
      count = c.loop-first.invariant.count;
      length = c.loop-first.invariant.length;
    }

pub returns-in-Some-group_fault_at_end-clause-count : goal.returns-in-Some-group_fault_at_end-clause-count
returns-in-Some-group_fault_at_end-clause-count c =
    let none : length c.loop-first.rest.now ≡ 0 = search rules in
    let all =
    end_fault c.args.version _ c.loop-first.state c.in-Some-group_fault_at_end.fault _ _ _ c.loop-first.invariant.same none
    c.in-Some-group_fault_at_end.ensures
    in
    rw (all, c.refusal-in-Some-group_fault_at_end.ensures) refl

pub returns-in-Some-group_fault_at_end-clause-items : goal.returns-in-Some-group_fault_at_end-clause-items
returns-in-Some-group_fault_at_end-clause-items c =
    let none : length c.loop-first.rest.now ≡ 0 = search rules in
    let all =
    end_fault c.args.version _ c.loop-first.state c.in-Some-group_fault_at_end.fault _ _ _ c.loop-first.invariant.same none
    c.in-Some-group_fault_at_end.ensures
    in
    rw all tt

pub returns-in-Some-group_fault_at_end-clause-refused : goal.returns-in-Some-group_fault_at_end-clause-refused
returns-in-Some-group_fault_at_end-clause-refused c =
    let none : length c.loop-first.rest.now ≡ 0 = search rules in
    let all =
    end_fault c.args.version _ c.loop-first.state c.in-Some-group_fault_at_end.fault _ _ _ c.loop-first.invariant.same none
    c.in-Some-group_fault_at_end.ensures
    in
    rw c.refusal-in-Some-group_fault_at_end.ensures (c.in-Some-group_fault_at_end.fault.1, all, refl)

pub returns-in-None-clause-count : goal.returns-in-None-clause-count
returns-in-None-clause-count c =
    let none : length c.loop-first.rest.now ≡ 0 = search rules in
    let all = end_items c.args.version _ c.loop-first.state _ _ _ c.loop-first.invariant.same none c.in-None.ensures in
    let short = length-take-le c.loop-first.count c.loop-first.room (omega (arith, c.loop-first.invariant.count, c.loop-first.invariant.length)) in
    rw (all, short) refl

pub returns-in-None-clause-items : goal.returns-in-None-clause-items
returns-in-None-clause-items c =
    let none : length c.loop-first.rest.now ≡ 0 = search rules in
    let all = end_items c.args.version _ c.loop-first.state _ _ _ c.loop-first.invariant.same none c.in-None.ensures in
    let short = length-take-le c.loop-first.count c.loop-first.room (omega (arith, c.loop-first.invariant.count, c.loop-first.invariant.length)) in
    rw (all, short, ← c.loop-first.invariant.others c.loop-first.count (omega arith), take-append-drop c.loop-first.count c.loop-first.room) refl

pub returns-in-None-clause-read : goal.returns-in-None-clause-read
returns-in-None-clause-read c =
    let none : length c.loop-first.rest.now ≡ 0 = search rules in
    let all = end_items c.args.version _ c.loop-first.state _ _ _ c.loop-first.invariant.same none c.in-None.ensures in
    let short = length-take-le c.loop-first.count c.loop-first.room (omega (arith, c.loop-first.invariant.count, c.loop-first.invariant.length)) in
    (_, all, short, rw (← c.loop-first.invariant.others c.loop-first.count (omega arith), take-append-drop c.loop-first.count c.loop-first.room) refl)

pub returns-in-Err-clause-room : goal.returns-in-Err-clause-room
returns-in-Err-clause-room c =
    let front : c.loop-first.rest.now ≡ c.in-Some.first.now ∷ c.in-Some.more.now = search rules in
    let all =
    first_fault c.args.version _ _ c.loop-first.state c.in-Err.fault _ _ _ _ c.loop-first.invariant.first front c.in-Err.ensures
    in
    room_with c.loop-first.count c.loop-first.room c.args.room.now _ all (omega (arith, c.loop-first.invariant.count, c.loop-first.invariant.length))
    (c.loop-first.invariant.others c.loop-first.count (omega arith))

pub returns-then-count-room-clause-room : goal.returns-then-count-room-clause-room
returns-then-count-room-clause-room c =
    let front : c.loop-first.rest.now ≡ c.in-Some.first.now ∷ c.in-Some.more.now = search rules in
    let full : length c.args.room.now - c.loop-first.count ≡ 0 = omega (arith, c.if-count-room.true, c.loop-first.invariant.length) in
    let all =
    first_full c.args.version _ _ c.loop-first.state c.in-Ok.read c.in-Some-item.item _ _ _ _ c.loop-first.invariant.first front
    c.in-Ok.ensures c.in-Some-item.is full
    in
    room_with c.loop-first.count c.loop-first.room c.args.room.now _ all (omega (arith, c.loop-first.invariant.count, c.loop-first.invariant.length))
    (c.loop-first.invariant.others c.loop-first.count (omega arith))

pub returns-in-Some-group_fault_at_end-clause-room : goal.returns-in-Some-group_fault_at_end-clause-room
returns-in-Some-group_fault_at_end-clause-room c =
    let none : length c.loop-first.rest.now ≡ 0 = search rules in
    let all = first_end c.args.version _ c.loop-first.state _ _ _ c.loop-first.invariant.first none in
    room_with c.loop-first.count c.loop-first.room c.args.room.now _ all (omega (arith, c.loop-first.invariant.count, c.loop-first.invariant.length))
    (c.loop-first.invariant.others c.loop-first.count (omega arith))

pub returns-in-None-clause-room : goal.returns-in-None-clause-room
returns-in-None-clause-room c =
    let none : length c.loop-first.rest.now ≡ 0 = search rules in
    let all = first_end c.args.version _ c.loop-first.state _ _ _ c.loop-first.invariant.first none in
    room_with c.loop-first.count c.loop-first.room c.args.room.now _ all (omega (arith, c.loop-first.invariant.count, c.loop-first.invariant.length))
    (c.loop-first.invariant.others c.loop-first.count (omega arith))
