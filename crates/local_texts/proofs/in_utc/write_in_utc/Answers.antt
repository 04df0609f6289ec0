use Rattle.std.proofs.Common.{arith, ap, sym, ◌≡◌, ◌∙◌, ◌++◌, ◌+◌, ◌-◌, ◌∷◌, [], true, false, List, ℕ, length, drop}
use Rattle.std.specs.Char.{is_ascii_digit}
use Rattle.std.specs.List.{list_all}
use Rattle.rfc3339.specs.Reading.{parts_at}
use Rattle.local_texts.proofs.CutLemmas.{parts_at-joined_cut, parts_at-joined_other}
use Rattle.local_texts.proofs.in_utc.write_in_utc.Goals as goal

pub returns-then-are_digits-clause-same : goal.returns-then-are_digits-clause-same
returns-then-are_digits-clause-same c =
    let most = 29 - length c.args.date.now in
    let whole : length c.args.date.now + most ≡ 29 = omega (arith, c.requires) in
    let all : list_all is_ascii_digit (drop most c.args.text.now) ≡ true =
    ap (list_all is_ascii_digit) (sym c.split_at.ensures.back) ∙ sym c.are_digits.ensures ∙ c.if-are_digits.true in
    ap parts_at (c.put_in_utc-then-are_digits.ensures.written ∙ ap (λ (z : List ℕ). c.args.date.now ++ z ++ 90 ∷ []) c.split_at.ensures.front)
    ∙ parts_at-joined_cut c.args.date.now c.args.text.now most whole c.if-text-most.false all

pub returns-else-are_digits-clause-other : goal.returns-else-are_digits-clause-other
returns-else-are_digits-clause-other c =
    let most = 29 - length c.args.date.now in
    let whole : length c.args.date.now + most ≡ 29 = omega (arith, c.requires) in
    let other : list_all is_ascii_digit (drop most c.args.text.now) ≡ false =
    ap (list_all is_ascii_digit) (sym c.split_at.ensures.back) ∙ sym c.are_digits.ensures ∙ c.if-are_digits.false in
    parts_at-joined_other c.args.date.now c.args.text.now most whole c.if-text-most.false other
