use Rattle.std.proofs.Common.{rules, ◌≡◌, ◌-◌, ◌∷◌, None, Some, suc, true, false, length, arith, refl}
use Rattle.format_descriptions.specs.Groups.{size_of, is_other}
use Rattle.format_descriptions.proofs.ItemLemmas.{goes_on, group_goes_on, other_goes_on, group_unfit, all_written, count_written}
use Rattle.format_descriptions.proofs.write.+write_items.Goals.{else-not-is_other-via-then-not-is_other+else-not-write_items}
use Rattle.format_descriptions.proofs.write.+write_items.Goals.{else-not-is_other-via-else-not-is_other}
use Rattle.format_descriptions.proofs.write.+write_items.Goals as goal

pub returns-then-count-eq0-clause-text : goal.returns-then-count-eq0-clause-text
returns-then-count-eq0-clause-text t c =
    let all = count_written c.loop-item.items.now _ c.args.date c.args.time c.args.offset c.loop-item.text _ c.if-count-eq0.true c.loop-item.invariant.text in
    ((rw (← all) c.loop-item.invariant.room, rw (← all) c.loop-item.invariant.ascii), all)

pub returns-then-not-put_item-clause-none : goal.returns-then-not-put_item-clause-none
returns-then-not-put_item-clause-none t c =
    let front : c.loop-item.items.now ≡ c.in-Some.item.now ∷ c.in-Some.others.now = search rules in
    let place : c.loop-item.count ≡ suc (c.loop-item.count - 1) = omega (arith, c.if-count-eq0.false) in
    let plain : None ≡ size_of c.in-Some.item.now = search rules in
    group_unfit c.loop-item.text _ _ _ c.if-not-put_item.ensures.none
    (goes_on c.in-Some.item.now _ _ _ _ c.args.date c.args.time c.args.offset c.loop-item.text _ _ front place plain c.loop-item.invariant.text refl)

pub loop-item-preserved-in_default-size_of : goal.loop-item-preserved-in_default-size_of
loop-item-preserved-in_default-size_of t c =
    let front : c.loop-item.items.now ≡ c.in-Some.item.now ∷ c.in-Some.others.now = search rules in
    let place : c.loop-item.count ≡ suc (c.loop-item.count - 1) = omega (arith, c.if-count-eq0.false) in
    let plain : None ≡ size_of c.in-Some.item.now = search rules in
    let added = c.if-not-put_item.ensures.text in
    record {
      text =
          rw added.1
          (goes_on c.in-Some.item.now _ _ _ _ c.args.date c.args.time c.args.offset c.loop-item.text _ _ front place plain c.loop-item.invariant.text
          refl);
      room = rw added.1 added.0.0;
      ascii = rw added.1 added.0.1;
      fewer = search rules;
    }

pub returns-then-not-write_items-clause-none : goal.returns-then-not-write_items-clause-none
returns-then-not-write_items-clause-none t c =
    let front : c.loop-item.items.now ≡ c.in-Some.item.now ∷ c.in-Some.others.now = search rules in
    let place : c.loop-item.count ≡ suc (c.loop-item.count - 1) = omega (arith, c.if-count-eq0.false) in
    let head : Some c.in-Some-size_of.size ≡ size_of c.in-Some.item.now = search rules in
    let own : is_other c.in-Some.item.now ≡ false = search rules in
    group_unfit c.loop-item.text _ _ _ (rw c.min.ensures at c.if-not-write_items.ensures.none)
    (group_goes_on c.in-Some.item.now _ _ _ _ _ c.args.date c.args.time c.args.offset c.loop-item.text _ front place head own c.loop-item.invariant.text)

pub loop-item-preserved : goal.loop-item-preserved
loop-item-preserved t c =
    let front : c.loop-item.items.now ≡ c.in-Some.item.now ∷ c.in-Some.others.now = search rules in
    let place : c.loop-item.count ≡ suc (c.loop-item.count - 1) = omega (arith, c.if-count-eq0.false) in
    let head : Some c.in-Some-size_of.size ≡ size_of c.in-Some.item.now = search rules in
    elim c.else-not-is_other.branch [
      | else-not-is_other-via-then-not-is_other+else-not-write_items w ↦
          let own : is_other c.in-Some.item.now ≡ false = search rules in
          let added = w.if-not-write_items.ensures.text in
          record {
            text =
                rw (c.behind-items.ensures.items, c.saturating_sub-count.ensures, w.text-is, added.1, w.min.ensures)
                (group_goes_on c.in-Some.item.now _ _ _ _ _ c.args.date c.args.time c.args.offset c.loop-item.text _ front place head own
                c.loop-item.invariant.text);
            room = rw (w.text-is, added.1) added.0.0;
            ascii = rw (w.text-is, added.1) added.0.1;
            fewer = search rules;
          }
      | else-not-is_other-via-else-not-is_other w ↦
          let other : is_other c.in-Some.item.now ≡ true = search rules in
          record {
            text =
                rw (c.behind-items.ensures.items, c.saturating_sub-count.ensures, w.text-is)
                (other_goes_on c.in-Some.item.now _ _ _ _ _ c.args.date c.args.time c.args.offset c.loop-item.text _ front place head other
                c.loop-item.invariant.text);
            room = rw w.text-is c.loop-item.invariant.room;
            ascii = rw w.text-is c.loop-item.invariant.ascii;
            fewer = search rules;
          }
    ]

pub returns-clause-text : goal.returns-clause-text
returns-clause-text t c =
    let none : length c.loop-item.items.now ≡ 0 = search rules in
    let all = all_written c.loop-item.items.now _ c.args.date c.args.time c.args.offset c.loop-item.text _ none c.loop-item.invariant.text in
    ((rw (← all) c.loop-item.invariant.room, rw (← all) c.loop-item.invariant.ascii), all)
