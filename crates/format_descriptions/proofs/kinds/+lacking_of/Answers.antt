use Rattle.std.proofs.Common.{rules, ◌≡◌, ◌-◌, ◌∷◌, None, Some, suc, true, false, length, min, arith, sym}
use Rattle.format_descriptions.specs.Groups.{size_of, is_other, written_from}
use Rattle.format_descriptions.specs.Kinds.{flat_lacking}
use Rattle.format_descriptions.proofs.KindLemmas.{lacking_ends, lacking_none, lacking_part, part_on, byte_on, lacking_group, group_on, other_on}
use Rattle.format_descriptions.proofs.kinds.+lacking_of.Goals.{then-not-is_other+in_default-lacking_of, else-not-is_other}
use Rattle.format_descriptions.proofs.kinds.+lacking_of.Goals as goal

pub returns-then-count-eq0 : goal.returns-then-count-eq0
returns-then-count-eq0 t c = sym (lacking_ends _ _ _ c.loop-item.items.now _ _ c.if-count-eq0.true c.loop-item.invariant.same)

pub returns-then-not-by_kind : goal.returns-then-not-by_kind
returns-then-not-by_kind t c =
    let front : c.loop-item.items.now ≡ c.in-Some.item.now ∷ c.in-Some.others.now = search rules in
    let place : c.loop-item.count ≡ suc (c.loop-item.count - 1) = omega (arith, c.if-count-eq0.false) in
    sym (lacking_part _ _ _ c.in-Some.item.now c.in-Part.component _ _ _ _ _ front place c.in-Part.is c.if-not-by_kind.ensures c.loop-item.invariant.same)

pub loop-item-preserved-else-not-by_kind : goal.loop-item-preserved-else-not-by_kind
loop-item-preserved-else-not-by_kind t c =
    let front : c.loop-item.items.now ≡ c.in-Some.item.now ∷ c.in-Some.others.now = search rules in
    let place : c.loop-item.count ≡ suc (c.loop-item.count - 1) = omega (arith, c.if-count-eq0.false) in
    record {
      same =
          part_on _ _ _ c.in-Some.item.now c.in-Part.component _ _ _ _ _ front place c.in-Part.is c.if-not-by_kind.ensures c.loop-item.invariant.same;
      fewer = search rules;
    }

pub loop-item-preserved-in_default-item : goal.loop-item-preserved-in_default-item
loop-item-preserved-in_default-item t c =
    let front : c.loop-item.items.now ≡ c.in-Some.item.now ∷ c.in-Some.others.now = search rules in
    let place : c.loop-item.count ≡ suc (c.loop-item.count - 1) = omega (arith, c.if-count-eq0.false) in
    let plain : None ≡ size_of c.in-Some.item.now = search rules in
    record {
      same = byte_on _ _ _ c.in-Some.item.now _ _ _ _ _ front place plain c.in_default-item.not-Part c.loop-item.invariant.same;
      fewer = search rules;
    }

pub returns-in-Some-lacking_of : goal.returns-in-Some-lacking_of
returns-in-Some-lacking_of t c =
    let front : c.loop-item.items.now ≡ c.in-Some.item.now ∷ c.in-Some.others.now = search rules in
    let place : c.loop-item.count ≡ suc (c.loop-item.count - 1) = omega (arith, c.if-count-eq0.false) in
    let head : Some c.in-Some-size_of.size ≡ size_of c.in-Some.item.now = search rules in
    let own : is_other c.in-Some.item.now ≡ false = search rules in
    let is :
    Some c.in-Some-lacking_of.component ≡ flat_lacking c.args.date c.args.time c.args.offset
    (written_from c.in-Some.others.now 0 (min c.in-Some-size_of.size (c.loop-item.count - 1))) =
    search rules
    in
    sym (lacking_group _ _ _ c.in-Some.item.now c.in-Some-lacking_of.component _ _ _ _ _ _ front place head own is c.loop-item.invariant.same)

pub loop-item-preserved : goal.loop-item-preserved
loop-item-preserved t c =
    let front : c.loop-item.items.now ≡ c.in-Some.item.now ∷ c.in-Some.others.now = search rules in
    let place : c.loop-item.count ≡ suc (c.loop-item.count - 1) = omega (arith, c.if-count-eq0.false) in
    let head : Some c.in-Some-size_of.size ≡ size_of c.in-Some.item.now = search rules in
    record {
      same =
          rw (c.behind-items.ensures.items, c.saturating_sub-count.ensures)
          (elim c.if-not-is_other.branch [
            | then-not-is_other+in_default-lacking_of w ↦
                let own : is_other c.in-Some.item.now ≡ false = search rules in
                let is :
                None ≡ flat_lacking c.args.date c.args.time c.args.offset
                (written_from c.in-Some.others.now 0 (min c.in-Some-size_of.size (c.loop-item.count - 1))) =
                search rules
                in
                group_on _ _ _ c.in-Some.item.now _ _ _ _ _ _ front place head own is c.loop-item.invariant.same
            | else-not-is_other w ↦
                let other : is_other c.in-Some.item.now ≡ true = search rules in
                other_on _ _ _ c.in-Some.item.now _ _ _ _ _ _ front place head other c.loop-item.invariant.same
          ]);
      fewer = search rules;
    }

pub returns : goal.returns
returns t c =
    let none : length c.loop-item.items.now ≡ 0 = search rules in
    sym (lacking_none _ _ _ c.loop-item.items.now _ _ none c.loop-item.invariant.same)
