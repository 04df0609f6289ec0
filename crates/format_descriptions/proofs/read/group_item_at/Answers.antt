use Rattle.std.proofs.Common.{rules, ◌≡◌, Some}
use Rattle.format_descriptions.specs.Read.{item_at}
use Rattle.format_descriptions.proofs.KeptPartLemmas.{item-keeps}
use Rattle.format_descriptions.proofs.read.group_item_at.Goals as goal

pub returns-in-Some-clause-kept : goal.returns-in-Some-clause-kept
returns-in-Some-clause-kept c =
    let is : Some (c.item_at.new.parts, c.in-Some.rest.now) ≡ item_at c.args.item.now c.args.text.now c.args.parts.now = search rules in
    item-keeps c.args.item.now c.args.text.now c.args.parts.now (c.item_at.new.parts, c.in-Some.rest.now) is
