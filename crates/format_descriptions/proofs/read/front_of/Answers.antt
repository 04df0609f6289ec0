use Rattle.std.proofs.Common.{rules, ◌≡◌, ◌∷◌, None, Some, length, arith, sym}
use Rattle.format_descriptions.specs.Groups.{size_of}
use Rattle.format_descriptions.specs.Read.{item_at}
use Rattle.format_descriptions.specs.declared.item.Item.TheVariants.{Byte}
use Rattle.format_descriptions.proofs.ReadLemmas.{all_none, all_on, all_stops, byte_on, byte_stops}
use Rattle.rfc3339.specs.Reading.{mark_at}
use Rattle.format_descriptions.proofs.read.front_of.Goals as goal

pub returns-in_default-after_mark-clause-value : goal.returns-in_default-after_mark-clause-value
returns-in_default-after_mark-clause-value c =
    let front : c.loop-item.items.now ≡ Byte c.in-Byte.byte ∷ c.in-Some.others.now = search rules in
    let is : None ≡ mark_at c.in-Byte.byte c.loop-item.rest.now = search rules in
    sym (byte_stops c.in-Byte.byte _ _ _ _ _ front is c.loop-item.invariant.same)

pub loop-item-preserved-in-Byte : goal.loop-item-preserved-in-Byte
loop-item-preserved-in-Byte c =
    let front : c.loop-item.items.now ≡ Byte c.in-Byte.byte ∷ c.in-Some.others.now = search rules in
    let is : Some c.in-Some-after_mark.more.now ≡ mark_at c.in-Byte.byte c.loop-item.rest.now = search rules in
    record {
      same = byte_on c.in-Byte.byte _ _ _ _ _ _ front is c.loop-item.invariant.same;
      shorter = omega (arith, c.in-Some-after_mark.ensures.shorter, c.loop-item.invariant.shorter);
    }

pub returns-in_default-item_at-clause-value : goal.returns-in_default-item_at-clause-value
returns-in_default-item_at-clause-value c =
    let front : c.loop-item.items.now ≡ c.in-Some.item.now ∷ c.in-Some.others.now = search rules in
    let plain : None ≡ size_of c.in-Some.item.now = search rules in
    let is : None ≡ item_at c.in-Some.item.now c.loop-item.rest.now c.loop-item.parts = search rules in
    sym (all_stops c.in-Some.item.now _ _ _ _ _ front plain is c.loop-item.invariant.same)

pub loop-item-preserved : goal.loop-item-preserved
loop-item-preserved c =
    let front : c.loop-item.items.now ≡ c.in-Some.item.now ∷ c.in-Some.others.now = search rules in
    let plain : None ≡ size_of c.in-Some.item.now = search rules in
    let is : Some (c.item_at.new.parts, c.in-Some-item_at.more.now) ≡ item_at c.in-Some.item.now c.loop-item.rest.now c.loop-item.parts =
    search rules
    in
    record {
      same = all_on c.in-Some.item.now _ _ _ _ _ _ _ front plain is c.loop-item.invariant.same;
      shorter = omega (arith, c.in-Some-item_at.ensures.shorter, c.loop-item.invariant.shorter);
    }

pub returns-clause-value : goal.returns-clause-value
returns-clause-value c =
    let none : length c.loop-item.items.now ≡ 0 = search rules in
    sym (all_none c.loop-item.items.now _ _ _ none c.loop-item.invariant.same)
