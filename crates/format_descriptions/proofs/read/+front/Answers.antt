use Rattle.std.proofs.Common.{rules, ◌≡◌, ◌-◌, ◌∷◌, None, Some, Ok, Err, suc, true, false, length, min, arith, sym, ◌∙◌, ◌≤◌, IfSome}
use Rattle.format_descriptions.specs.Groups.{size_of, is_other}
use Rattle.format_descriptions.specs.Read.{read_from, try_group, item_at}
use Rattle.format_descriptions.proofs.ReadLemmas.{read_ends, read_none, read_on, read_stops, read_fault, read_fault_plain, read_passed}
use Rattle.format_descriptions.proofs.ReadLemmas.{tried_first, tried_instead, group_read, group_fault, fault_after-within}
use Rattle.format_descriptions.proofs.KeptPartLemmas.{all-known}
use Rattle.format_descriptions.proofs.read.+front.Goals.{in-None+else-is_other, in-Some-fault-2+else-not-is_other, in-Ok, in-Err}
use Rattle.format_descriptions.proofs.read.+front.Goals as goal

pub returns-then-count-eq0-clause-value : goal.returns-then-count-eq0-clause-value
returns-then-count-eq0-clause-value t c =
    c.front_end.ensures.value ∙ sym (read_ends c.loop-item.items.now _ _ _ _ _ c.if-count-eq0.true c.loop-item.invariant.same)

pub returns-in-Some-fault-clause-value : goal.returns-in-Some-fault-clause-value
returns-in-Some-fault-clause-value t c =
    let front : c.loop-item.items.now ≡ c.in-Some.item.now ∷ c.in-Some.others.now = search rules in
    let place : c.loop-item.count ≡ suc (c.loop-item.count - 1) = omega (arith, c.if-count-eq0.false) in
    let plain : None ≡ size_of c.in-Some.item.now = search rules in
    sym (read_fault_plain c.in-Some.item.now _ _ _ _ _ _ _ _ _ front place c.in-Some-fault.is plain c.loop-item.invariant.same)

pub returns-in_default-group_item_at-clause-value : goal.returns-in_default-group_item_at-clause-value
returns-in_default-group_item_at-clause-value t c =
    let front : c.loop-item.items.now ≡ c.in-Some.item.now ∷ c.in-Some.others.now = search rules in
    let place : c.loop-item.count ≡ suc (c.loop-item.count - 1) = omega (arith, c.if-count-eq0.false) in
    let plain : None ≡ size_of c.in-Some.item.now = search rules in
    let is : None ≡ item_at c.in-Some.item.now c.loop-item.rest.now c.loop-item.parts = search rules in
    sym (read_stops c.in-Some.item.now _ _ _ _ _ _ _ _ front place c.in_default-fault.is plain is c.loop-item.invariant.same)

pub loop-item-preserved-in_default-size_of : goal.loop-item-preserved-in_default-size_of
loop-item-preserved-in_default-size_of t c =
    let front : c.loop-item.items.now ≡ c.in-Some.item.now ∷ c.in-Some.others.now = search rules in
    let place : c.loop-item.count ≡ suc (c.loop-item.count - 1) = omega (arith, c.if-count-eq0.false) in
    let plain : None ≡ size_of c.in-Some.item.now = search rules in
    let is : Some (c.group_item_at.new.parts, c.in-Some-group_item_at.more.now) ≡ item_at c.in-Some.item.now c.loop-item.rest.now c.loop-item.parts =
    search rules
    in
    record {
      same =
          rw c.in_default-fault.is
          (read_on c.in-Some.item.now _ _ _ _ _ _ _ _ _ _ front place c.in_default-fault.is plain is c.loop-item.invariant.same);
      kept = λ old h. c.in-Some-group_item_at.ensures.kept old (c.loop-item.invariant.kept old h);
      shorter = omega (arith, c.in-Some-group_item_at.ensures.shorter, c.loop-item.invariant.shorter);
      left = c.loop-item.invariant.left;
      fewer = search rules;
    }

pub loop-item-preserved-then-is_other : goal.loop-item-preserved-then-is_other
loop-item-preserved-then-is_other t c =
    let front : c.loop-item.items.now ≡ c.in-Some.item.now ∷ c.in-Some.others.now = search rules in
    let place : c.loop-item.count ≡ suc (c.loop-item.count - 1) = omega (arith, c.if-count-eq0.false) in
    let head : Some c.in-Some-size_of.size ≡ size_of c.in-Some.item.now = search rules in
    let other : is_other c.in-Some.item.now ≡ true = search rules in
    record {
      same =
          rw (c.behind-items.ensures.items, c.saturating_sub-count.ensures, c.in-None.is)
          (read_passed c.in-Some.item.now _ _ _ _ _ _ _ _ _ front place c.in-None.is head other c.loop-item.invariant.same);
      kept = c.loop-item.invariant.kept;
      shorter = c.loop-item.invariant.shorter;
      left = c.loop-item.invariant.left;
      fewer = search rules;
    }

pub returns-then-not-is_other-clause-value : goal.returns-then-not-is_other-clause-value
returns-then-not-is_other-clause-value t c =
    let front : c.loop-item.items.now ≡ c.in-Some.item.now ∷ c.in-Some.others.now = search rules in
    let place : c.loop-item.count ≡ suc (c.loop-item.count - 1) = omega (arith, c.if-count-eq0.false) in
    let own : is_other c.in-Some.item.now ≡ false = search rules in
    sym (read_fault c.in-Some.item.now _ _ _ _ _ _ _ _ _ front place c.in-Some-fault-2.is own c.loop-item.invariant.same)

pub loop-item-preserved-then-fails_at_once : goal.loop-item-preserved-then-fails_at_once
loop-item-preserved-then-fails_at_once t c =
    let front : c.loop-item.items.now ≡ c.in-Some.item.now ∷ c.in-Some.others.now = search rules in
    let place : c.loop-item.count ≡ suc (c.loop-item.count - 1) = omega (arith, c.if-count-eq0.false) in
    let head : Some c.in-Some-size_of.size ≡ size_of c.in-Some.item.now = search rules in
    let group :
    try_group c.in-Some.item.now c.in-Some-size_of.size (λ s n f t q. read_from c.in-Some.others.now s n f t q) (c.loop-item.count - 1) c.match-fault-2.fault
    c.loop-item.rest.now c.loop-item.parts ≡ read_from c.args.items.now 0 c.args.count None c.args.text.now c.args.parts.now =
    elim c.match-fault-2.branch [
      | in-None+else-is_other w ↦
          let own : is_other c.in-Some.item.now ≡ false = search rules in
          rw w.fault-is (tried_first c.in-Some.item.now _ _ _ _ _ _ _ _ _ front place w.in-None.is head own c.loop-item.invariant.same)
      | in-Some-fault-2+else-not-is_other w ↦
          let other : is_other c.in-Some.item.now ≡ true = search rules in
          rw w.fault-is (tried_instead c.in-Some.item.now _ _ _ _ _ _ _ _ _ _ front place w.in-Some-fault-2.is head other c.loop-item.invariant.same)
    ]
    in
    let before : IfSome c.match-fault-2.fault (λ left. left ≤ length c.args.text.now) = elim c.match-fault-2.branch [
      | in-None+else-is_other w ↦ rw w.fault-is c.loop-item.invariant.left
      | in-Some-fault-2+else-not-is_other w ↦ rw w.fault-is (rw w.in-Some-fault-2.is at c.loop-item.invariant.left)
    ]
    in
    let fails : read_from c.in-Some.others.now 0 c.min.result None c.loop-item.rest.now c.loop-item.parts ≡ Err (length c.loop-item.rest.now) =
    c.fails_at_once.ensures c.if-fails_at_once.true c.loop-item.parts
    in
    let is : Err (length c.loop-item.rest.now) ≡ read_from c.in-Some.others.now 0 (min c.in-Some-size_of.size (c.loop-item.count - 1)) None
    c.loop-item.rest.now c.loop-item.parts =
    sym (rw c.min.ensures at fails)
    in
    record {
      same =
          rw (
            c.behind-items-then-fails_at_once.ensures.items,
            c.saturating_sub-count-then-fails_at_once.ensures,
            c.fault_after-fault.ensures,
          )
          (group_fault c.in-Some.item.now _ _ _ _ _ _ _ _ is group);
      kept = c.loop-item.invariant.kept;
      shorter = c.loop-item.invariant.shorter;
      left =
          rw c.fault_after-fault.ensures
          (fault_after-within c.in-Some.item.now c.match-fault-2.fault (length c.loop-item.rest.now) (length c.args.text.now) before
          c.loop-item.invariant.shorter);
      fewer = search rules;
    }

pub loop-item-preserved : goal.loop-item-preserved
loop-item-preserved t c =
    let front : c.loop-item.items.now ≡ c.in-Some.item.now ∷ c.in-Some.others.now = search rules in
    let place : c.loop-item.count ≡ suc (c.loop-item.count - 1) = omega (arith, c.if-count-eq0.false) in
    let head : Some c.in-Some-size_of.size ≡ size_of c.in-Some.item.now = search rules in
    let group :
    try_group c.in-Some.item.now c.in-Some-size_of.size (λ s n f t q. read_from c.in-Some.others.now s n f t q) (c.loop-item.count - 1) c.match-fault-2.fault
    c.loop-item.rest.now c.loop-item.parts ≡ read_from c.args.items.now 0 c.args.count None c.args.text.now c.args.parts.now =
    elim c.match-fault-2.branch [
      | in-None+else-is_other w ↦
          let own : is_other c.in-Some.item.now ≡ false = search rules in
          rw w.fault-is (tried_first c.in-Some.item.now _ _ _ _ _ _ _ _ _ front place w.in-None.is head own c.loop-item.invariant.same)
      | in-Some-fault-2+else-not-is_other w ↦
          let other : is_other c.in-Some.item.now ≡ true = search rules in
          rw w.fault-is (tried_instead c.in-Some.item.now _ _ _ _ _ _ _ _ _ _ front place w.in-Some-fault-2.is head other c.loop-item.invariant.same)
    ]
    in
    let before : IfSome c.match-fault-2.fault (λ left. left ≤ length c.args.text.now) = elim c.match-fault-2.branch [
      | in-None+else-is_other w ↦ rw w.fault-is c.loop-item.invariant.left
      | in-Some-fault-2+else-not-is_other w ↦ rw w.fault-is (rw w.in-Some-fault-2.is at c.loop-item.invariant.left)
    ]
    in
    elim c.match-front.branch [
      | in-Ok w ↦
          let is : Ok (c.front.new.parts, w.in-Ok.more.now) ≡ read_from c.in-Some.others.now 0
          (min c.in-Some-size_of.size (c.loop-item.count - 1)) None c.loop-item.rest.now c.loop-item.parts =
          search rules
          in
          record {
            same =
                rw (c.behind-items-in-Some.ensures.items, c.saturating_sub-count-in-Some.ensures, w.fault-is, w.rest-is, w.parts-is)
                (group_read c.in-Some.item.now _ _ _ _ _ _ _ _ _ is group);
            kept = λ old h. rw w.parts-is (w.in-Ok.ensures.kept old (c.loop-item.invariant.kept old h));
            shorter = search rules;
            left = search rules;
            fewer = search rules;
          }
      | in-Err w ↦
          let is : Err w.in-Err.left ≡ read_from c.in-Some.others.now 0
          (min c.in-Some-size_of.size (c.loop-item.count - 1)) None c.loop-item.rest.now c.loop-item.parts =
          search rules
          in
          let back : w.restore.new.parts ≡ c.loop-item.parts =
          w.restore.ensures ∙ rw c.keep-before.ensures (w.in-Err.ensures.kept c.loop-item.parts (all-known c.loop-item.parts))
          in
          record {
            same =
                rw (
                  c.behind-items-in-Some.ensures.items,
                  c.saturating_sub-count-in-Some.ensures,
                  w.fault-is,
                  w.rest-is,
                  w.parts-is,
                  back,
                  w.fault_after-fault-in-Err.ensures,
                )
                (group_fault c.in-Some.item.now _ _ _ _ _ _ _ _ is group);
            kept = λ old h. rw (w.parts-is, back) (c.loop-item.invariant.kept old h);
            shorter = search rules;
            left =
                rw w.fault-is
                (rw w.fault_after-fault-in-Err.ensures
                (fault_after-within c.in-Some.item.now c.match-fault-2.fault w.in-Err.left (length c.args.text.now) before
                (omega (arith, w.in-Err.ensures.left, c.loop-item.invariant.shorter))));
            fewer = search rules;
          }
    ]

pub returns-clause-value : goal.returns-clause-value
returns-clause-value t c =
    let none : length c.loop-item.items.now ≡ 0 = search rules in
    c.front_end-2.ensures.value ∙ sym (read_none c.loop-item.items.now _ _ _ _ _ none c.loop-item.invariant.same)
