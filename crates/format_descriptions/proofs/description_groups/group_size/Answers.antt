use Rattle.std.proofs.Common.{rules, ◌≡◌, ◌∷◌, suc, length, arith, refl}
use Rattle.format_descriptions.proofs.DescriptionLemmas.{size_ends, size_fault, size_on, size_none}
use Rattle.format_descriptions.proofs.description_groups.group_size.Goals as goal

pub returns-then-ends_group : goal.returns-then-ends_group
returns-then-ends_group c =
    let front : c.loop-first.rest.now ≡ c.in-Some.first.now ∷ c.in-Some.more.now = search rules in
    size_ends _ _ _ _ _ _ _ _ c.loop-first.invariant.same front c.if-ends_group.ensures

pub returns-in-Err : goal.returns-in-Err
returns-in-Err c =
    let front : c.loop-first.rest.now ≡ c.in-Some.first.now ∷ c.in-Some.more.now = search rules in
    size_fault c.args.version c.args.groups _ _ c.loop-first.state _ _ _ _ c.loop-first.invariant.same front c.if-ends_group.ensures c.in-Err.ensures

pub loop-first-preserved : goal.loop-first-preserved
loop-first-preserved c =
    let front : c.loop-first.rest.now ≡ c.in-Some.first.now ∷ c.in-Some.more.now = search rules in
    let longer : length c.loop-first.rest.now ≡ suc (length c.in-Some.more.now) = rw front refl in
    record {
      same =
          rw c.item_count-size.ensures.value
          (size_on c.args.version c.args.groups _ _ c.loop-first.state c.in-Ok.read _ _ _ c.loop-first.invariant.same front c.if-ends_group.ensures
          c.in-Ok.ensures);
      room = omega (arith, longer, c.item_count-size.ensures.at_most, c.loop-first.invariant.room);
    }

pub returns : goal.returns
returns c =
    let none : length c.loop-first.rest.now ≡ 0 = search rules in
    size_none _ _ _ _ _ _ c.loop-first.invariant.same none
