use Rattle.std.proofs.Common.{rules, ◌≡◌, ◌∙◌, ◌-◌, ◌∷◌, ap, length, suc, None, Some, arith, refl}
use Rattle.format_descriptions.specs.DescriptionTexts.{source_length}
use Rattle.format_descriptions.specs.Groups.{size_of}
use Rattle.format_descriptions.proofs.LengthLemmas.{fault-ends, text-goes}
use Rattle.format_descriptions.proofs.PutLemmas.{none_left, count_left, plain_step, head_step, source_from-drop}
use Rattle.format_descriptions.proofs.description_lengths.+count_items.Goals as goal

pub returns-then-count-eq0-clause-count : goal.returns-then-count-eq0-clause-count
returns-then-count-eq0-clause-count t c = λ before is.
    let front : c.loop-item.items.now ≡ c.in-Some.item.now ∷ c.in-Some.others.now = search rules in
    let text = c.loop-item.invariant.text before is in
    let all = count_left c.args.version _ _ c.args.depth c.loop-item.several c.in-Some.item.now _ _ _ _ _ front c.if-count-eq0.true refl text.2 in
    c.count_piece.ensures.count text.0 text.1 ∙ rw c.last_end.ensures (ap source_length all)

pub returns-in-Err-clause-count : goal.returns-in-Err-clause-count
returns-in-Err-clause-count t c = λ before is.
    let front : c.loop-item.items.now ≡ c.in-Some.item.now ∷ c.in-Some.others.now = search rules in
    let place : c.loop-item.count ≡ suc (c.loop-item.count - 1) = omega (arith, c.if-count-eq0.false) in
    let plain : None ≡ size_of c.in-Some.item.now = search rules in
    let text = c.loop-item.invariant.text before is in
    let all = plain_step c.args.version c.args.room c.args.depth c.loop-item.several c.in-Some.item.now _ _ _ _ _ _ front place plain text.2 in
    fault-ends _ _ _ _ (c.in-Err.ensures.count text.0 text.1) all

pub loop-item-preserved-in_default-size_of : goal.loop-item-preserved-in_default-size_of
loop-item-preserved-in_default-size_of t c =
    let front : c.loop-item.items.now ≡ c.in-Some.item.now ∷ c.in-Some.others.now = search rules in
    let place : c.loop-item.count ≡ suc (c.loop-item.count - 1) = omega (arith, c.if-count-eq0.false) in
    let plain : None ≡ size_of c.in-Some.item.now = search rules in
    record {
      text = λ before is.
          let text = c.loop-item.invariant.text before is in
          let all = plain_step c.args.version c.args.room c.args.depth c.loop-item.several c.in-Some.item.now _ _ _ _ _ _ front place plain text.2 in
          text-goes _ _ _ _ (c.in-Ok.ensures.count text.0 text.1) all;
      within = c.in-Ok.ensures.within;
      fewer = search rules;
    }

pub returns-in-Err-count_opening-clause-count : goal.returns-in-Err-count_opening-clause-count
returns-in-Err-count_opening-clause-count t c = λ before is.
    let front : c.loop-item.items.now ≡ c.in-Some.item.now ∷ c.in-Some.others.now = search rules in
    let place : c.loop-item.count ≡ suc (c.loop-item.count - 1) = omega (arith, c.if-count-eq0.false) in
    let head : Some c.in-Some-size_of.size ≡ size_of c.in-Some.item.now = search rules in
    let text = c.loop-item.invariant.text before is in
    let all = head_step c.args.version c.args.room c.args.depth c.loop-item.several c.in-Some.item.now _ _ _ _ _ _ _ front place head text.2 in
    fault-ends _ _ _ _ (c.in-Err-count_opening.ensures.count text.0 text.1) all

pub returns-in-Err-count_items-clause-count : goal.returns-in-Err-count_items-clause-count
returns-in-Err-count_items-clause-count t c = λ before is.
    let front : c.loop-item.items.now ≡ c.in-Some.item.now ∷ c.in-Some.others.now = search rules in
    let place : c.loop-item.count ≡ suc (c.loop-item.count - 1) = omega (arith, c.if-count-eq0.false) in
    let head : Some c.in-Some-size_of.size ≡ size_of c.in-Some.item.now = search rules in
    let text = c.loop-item.invariant.text before is in
    let all = head_step c.args.version c.args.room c.args.depth c.loop-item.several c.in-Some.item.now _ _ _ _ _ _ _ front place head text.2 in
    let begun = text-goes _ _ _ _ (c.in-Ok-count_opening.ensures.count text.0 text.1) all in
    fault-ends _ _ _ _ (c.in-Err-count_items.ensures.count begun.0 begun.1) begun.2

pub returns-in-Err-count_piece-clause-count : goal.returns-in-Err-count_piece-clause-count
returns-in-Err-count_piece-clause-count t c = λ before is.
    let front : c.loop-item.items.now ≡ c.in-Some.item.now ∷ c.in-Some.others.now = search rules in
    let place : c.loop-item.count ≡ suc (c.loop-item.count - 1) = omega (arith, c.if-count-eq0.false) in
    let head : Some c.in-Some-size_of.size ≡ size_of c.in-Some.item.now = search rules in
    let text = c.loop-item.invariant.text before is in
    let all = head_step c.args.version c.args.room c.args.depth c.loop-item.several c.in-Some.item.now _ _ _ _ _ _ _ front place head text.2 in
    let begun = text-goes _ _ _ _ (c.in-Ok-count_opening.ensures.count text.0 text.1) all in
    let own = text-goes _ _ _ _ (c.in-Ok-count_items.ensures.count begun.0 begun.1) begun.2 in
    fault-ends _ _ _ _ (rw c.group_end.ensures at (c.in-Err-count_piece.ensures.count own.0 own.1)) own.2

pub loop-item-preserved : goal.loop-item-preserved
loop-item-preserved t c =
    let front : c.loop-item.items.now ≡ c.in-Some.item.now ∷ c.in-Some.others.now = search rules in
    let place : c.loop-item.count ≡ suc (c.loop-item.count - 1) = omega (arith, c.if-count-eq0.false) in
    let head : Some c.in-Some-size_of.size ≡ size_of c.in-Some.item.now = search rules in
    record {
      text = λ before is.
          let text = c.loop-item.invariant.text before is in
          let all = head_step c.args.version c.args.room c.args.depth c.loop-item.several c.in-Some.item.now _ _ _ _ _ _ _ front place head text.2 in
          let begun = text-goes _ _ _ _ (c.in-Ok-count_opening.ensures.count text.0 text.1) all in
          let own = text-goes _ _ _ _ (c.in-Ok-count_items.ensures.count begun.0 begun.1) begun.2 in
          let closed = text-goes _ _ _ _ (rw c.group_end.ensures at (c.in-Ok-count_piece.ensures.count own.0 own.1)) own.2 in
          (closed.0, closed.1, rw (c.is_several-several.ensures, c.behind-items.ensures.items, ← source_from-drop) closed.2);
      within = c.in-Ok-count_piece.ensures.within;
      fewer = search rules;
    }

pub returns-clause-count : goal.returns-clause-count
returns-clause-count t c = λ before is.
    let none : length c.loop-item.items.now ≡ 0 = search rules in
    let text = c.loop-item.invariant.text before is in
    let all = none_left c.args.version _ _ c.args.depth c.loop-item.several _ _ _ _ none refl text.2 in
    c.count_piece-2.ensures.count text.0 text.1 ∙ rw c.last_end-2.ensures (ap source_length all)
