use Rattle.std.proofs.Common.{rules, ◌≡◌, ◌∙◌, ◌-◌, ◌+◌, ◌∷◌, length, take, suc, None, Some, arith, false}
use Rattle.format_descriptions.specs.DescriptionTexts.{with_piece, source_from, group_end}
use Rattle.format_descriptions.specs.Groups.{size_of}
use Rattle.format_descriptions.proofs.PutLemmas.{none_left, count_left, plain_on, plain_fails, head_step, head_put, fails, goes, source_from-drop}
use Rattle.format_descriptions.proofs.description_texts.+put_items.Goals as goal

pub returns-then-count-eq0-clause-text : goal.returns-then-count-eq0-clause-text
returns-then-count-eq0-clause-text t c =
    let front : c.loop-item.items.now ≡ c.in-Some.item.now ∷ c.in-Some.others.now = search rules in
    let all = count_left c.args.version _ _ c.args.depth c.loop-item.several c.in-Some.item.now _ _ _ _ _ front c.if-count-eq0.true c.loop-item.invariant.room
    c.loop-item.invariant.text
    in
    rw (← all, ← c.last_end.ensures) c.put_piece.ensures.text

pub returns-in-Err-clause-text : goal.returns-in-Err-clause-text
returns-in-Err-clause-text t c =
    let front : c.loop-item.items.now ≡ c.in-Some.item.now ∷ c.in-Some.others.now = search rules in
    let place : c.loop-item.count ≡ suc (c.loop-item.count - 1) = omega (arith, c.if-count-eq0.false) in
    let plain : None ≡ size_of c.in-Some.item.now = search rules in
    plain_fails c.args.version _ _ c.args.depth c.loop-item.several c.in-Some.item.now _ _ _ _ _ _ _ front place c.loop-item.invariant.room plain
    c.loop-item.invariant.text c.in-Err.ensures.text

pub loop-item-preserved-in_default-size_of : goal.loop-item-preserved-in_default-size_of
loop-item-preserved-in_default-size_of t c =
    let front : c.loop-item.items.now ≡ c.in-Some.item.now ∷ c.in-Some.others.now = search rules in
    let place : c.loop-item.count ≡ suc (c.loop-item.count - 1) = omega (arith, c.if-count-eq0.false) in
    let plain : None ≡ size_of c.in-Some.item.now = search rules in
    record {
      text = plain_on c.args.version _ _ c.args.depth c.loop-item.several c.in-Some.item.now _ _ _ _ _ _ _ front place c.loop-item.invariant.room plain
          c.loop-item.invariant.text c.in-Ok.ensures.text;
      room = c.put_item.auto.room ∙ c.loop-item.invariant.room;
      within = omega (arith, c.in-Ok.ensures.within, c.loop-item.invariant.room);
      more = omega (arith, c.in-Ok.ensures.more, c.loop-item.invariant.more);
      others = λ k above. c.in-Ok.ensures.others k above ∙ c.loop-item.invariant.others k (omega (arith, above, c.in-Ok.ensures.more));
      fewer = search rules;
    }

pub returns-in-Err-put_opening-clause-text : goal.returns-in-Err-put_opening-clause-text
returns-in-Err-put_opening-clause-text t c =
    let front : c.loop-item.items.now ≡ c.in-Some.item.now ∷ c.in-Some.others.now = search rules in
    let place : c.loop-item.count ≡ suc (c.loop-item.count - 1) = omega (arith, c.if-count-eq0.false) in
    let head : Some c.in-Some-size_of.size ≡ size_of c.in-Some.item.now = search rules in
    let all = head_step c.args.version _ c.args.depth c.loop-item.several c.in-Some.item.now _ _ _ _ c.in-Some-size_of.size _ _ front place head
    c.loop-item.invariant.text
    in
    fails _ _ (λ r. head_put r (length c.loop-item.items.now) c.args.depth c.loop-item.several c.in-Some.item.now c.in-Some-size_of.size (c.loop-item.count - 1)
    (take c.loop-item.used c.loop-item.room)) _ _ _ c.loop-item.invariant.room c.in-Err-put_opening.ensures.text all

pub returns-in-Err-put_items-clause-text : goal.returns-in-Err-put_items-clause-text
returns-in-Err-put_items-clause-text t c =
    let front : c.loop-item.items.now ≡ c.in-Some.item.now ∷ c.in-Some.others.now = search rules in
    let place : c.loop-item.count ≡ suc (c.loop-item.count - 1) = omega (arith, c.if-count-eq0.false) in
    let head : Some c.in-Some-size_of.size ≡ size_of c.in-Some.item.now = search rules in
    let all = head_step c.args.version _ c.args.depth c.loop-item.several c.in-Some.item.now _ _ _ _ c.in-Some-size_of.size _ _ front place head
    c.loop-item.invariant.text
    in
    let begun = goes _ _
    (λ r. head_put r (length c.loop-item.items.now) c.args.depth c.loop-item.several c.in-Some.item.now c.in-Some-size_of.size (c.loop-item.count - 1)
    (take c.loop-item.used c.loop-item.room)) _ _ _ c.loop-item.invariant.room c.in-Ok-put_opening.ensures.text all in
    let room : length c.put_opening.new.room ≡ length c.args.room.now = c.put_opening.auto.room ∙ c.loop-item.invariant.room in
    fails _ _ (λ r. source_from c.args.version r (c.args.depth + 1) false c.in-Some.others.now 0 c.in-Some-size_of.size
    (take c.in-Ok-put_opening.longer c.put_opening.new.room)) _ _ _ room c.in-Err-put_items.ensures.text begun

pub returns-in-Err-put_piece-clause-text : goal.returns-in-Err-put_piece-clause-text
returns-in-Err-put_piece-clause-text t c =
    let front : c.loop-item.items.now ≡ c.in-Some.item.now ∷ c.in-Some.others.now = search rules in
    let place : c.loop-item.count ≡ suc (c.loop-item.count - 1) = omega (arith, c.if-count-eq0.false) in
    let head : Some c.in-Some-size_of.size ≡ size_of c.in-Some.item.now = search rules in
    let all = head_step c.args.version _ c.args.depth c.loop-item.several c.in-Some.item.now _ _ _ _ c.in-Some-size_of.size _ _ front place head
    c.loop-item.invariant.text
    in
    let begun = goes _ _
    (λ r. head_put r (length c.loop-item.items.now) c.args.depth c.loop-item.several c.in-Some.item.now c.in-Some-size_of.size (c.loop-item.count - 1)
    (take c.loop-item.used c.loop-item.room)) _ _ _ c.loop-item.invariant.room c.in-Ok-put_opening.ensures.text all in
    let room : length c.put_opening.new.room ≡ length c.args.room.now = c.put_opening.auto.room ∙ c.loop-item.invariant.room in
    let own = goes _ _
    (λ r. source_from c.args.version r (c.args.depth + 1) false c.in-Some.others.now 0 c.in-Some-size_of.size
    (take c.in-Ok-put_opening.longer c.put_opening.new.room)) _ _ _ room c.in-Ok-put_items.ensures.text begun in
    let more : length c.put_items.new.room ≡ length c.args.room.now = c.put_items.auto.room ∙ room in
    fails _ _ (λ r. with_piece r (length c.loop-item.items.now) (take c.in-Ok-put_items.longer c.put_items.new.room) (group_end c.in-Some.item.now)) _ _ _
    more (rw c.group_end.ensures at c.in-Err-put_piece.ensures.text) own

pub loop-item-preserved : goal.loop-item-preserved
loop-item-preserved t c =
    let front : c.loop-item.items.now ≡ c.in-Some.item.now ∷ c.in-Some.others.now = search rules in
    let place : c.loop-item.count ≡ suc (c.loop-item.count - 1) = omega (arith, c.if-count-eq0.false) in
    let head : Some c.in-Some-size_of.size ≡ size_of c.in-Some.item.now = search rules in
    let all = head_step c.args.version _ c.args.depth c.loop-item.several c.in-Some.item.now _ _ _ _ c.in-Some-size_of.size _ _ front place head
    c.loop-item.invariant.text
    in
    let begun = goes _ _
    (λ r. head_put r (length c.loop-item.items.now) c.args.depth c.loop-item.several c.in-Some.item.now c.in-Some-size_of.size (c.loop-item.count - 1)
    (take c.loop-item.used c.loop-item.room)) _ _ _ c.loop-item.invariant.room c.in-Ok-put_opening.ensures.text all in
    let room : length c.put_opening.new.room ≡ length c.args.room.now = c.put_opening.auto.room ∙ c.loop-item.invariant.room in
    let own = goes _ _
    (λ r. source_from c.args.version r (c.args.depth + 1) false c.in-Some.others.now 0 c.in-Some-size_of.size
    (take c.in-Ok-put_opening.longer c.put_opening.new.room)) _ _ _ room c.in-Ok-put_items.ensures.text begun in
    let more : length c.put_items.new.room ≡ length c.args.room.now = c.put_items.auto.room ∙ room in
    let closed = goes _ _
    (λ r. with_piece r (length c.loop-item.items.now) (take c.in-Ok-put_items.longer c.put_items.new.room) (group_end c.in-Some.item.now)) _ _ _ more
    (rw c.group_end.ensures at c.in-Ok-put_piece.ensures.text) own in
    record {
      text =
          rw (c.is_several-several.ensures, c.behind-items.ensures.items, ← source_from-drop) closed;
      room = c.put_piece-in-Some.auto.room ∙ more;
      within = omega (arith, c.in-Ok-put_piece.ensures.within, more);
      more = omega (arith, c.in-Ok-put_piece.ensures.more, c.in-Ok-put_items.ensures.more, c.in-Ok-put_opening.ensures.more, c.loop-item.invariant.more);
      others = λ k above.
          c.in-Ok-put_piece.ensures.others k above
          ∙ c.in-Ok-put_items.ensures.others k (omega (arith, above, c.in-Ok-put_piece.ensures.more))
          ∙ c.in-Ok-put_opening.ensures.others k (omega (arith, above, c.in-Ok-put_piece.ensures.more, c.in-Ok-put_items.ensures.more))
          ∙ c.loop-item.invariant.others k
          (omega (arith, above, c.in-Ok-put_piece.ensures.more, c.in-Ok-put_items.ensures.more, c.in-Ok-put_opening.ensures.more));
      fewer = search rules;
    }

pub returns-clause-text : goal.returns-clause-text
returns-clause-text t c =
    let none : length c.loop-item.items.now ≡ 0 = search rules in
    let all = none_left c.args.version _ _ c.args.depth c.loop-item.several _ _ _ _ none c.loop-item.invariant.room c.loop-item.invariant.text in
    rw (← all, ← c.last_end-2.ensures) c.put_piece-2.ensures.text
