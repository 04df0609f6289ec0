use Rattle.std.proofs.Common.{rules, ◌≡◌, ◌∷◌, None}
use Rattle.rfc3339.specs.Reading.{mark_at}
use Rattle.format_descriptions.specs.declared.item.Item.TheVariants.{Byte}
use Rattle.format_descriptions.proofs.ReadLemmas.{byte_fails}
use Rattle.format_descriptions.proofs.read.fails_at_once.Goals as goal

pub returns-in-Some-Byte-default : goal.returns-in-Some-Byte-default
returns-in-Some-Byte-default c = λ is parts.
    let front : c.args.items.now ≡ Byte c.in-Some-Byte-default.byte ∷ c.in-Some-Byte-default.field-0-1.now = search rules in
    let none : mark_at c.in-Some-Byte-default.byte c.args.text.now ≡ None = search rules in
    byte_fails c.in-Some-Byte-default.byte c.args.items.now _ c.args.count c.args.text.now parts front c.if-count-gt0.true none
