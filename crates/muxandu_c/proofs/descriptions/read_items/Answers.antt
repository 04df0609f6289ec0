use Rattle.std.proofs.Common.{rules, ◌≡◌, ◌≤◌, length, refl}
use Rattle.muxandu_c.specs.Batches.{status_of_items}
use Rattle.muxandu_c.specs.Descriptions.{item_or_refused}
use Rattle.muxandu_c.proofs.DescriptionLemmas.{items_of-refused, size_of-read, room-read}
use Rattle.muxandu_c.proofs.descriptions.read_items.Goals as goal

pub returns-then-fill-ne0-clause-count : goal.returns-then-fill-ne0-clause-count
returns-then-fill-ne0-clause-count c =
    let few : length c.args.numbers.now ≤ 128 = search rules in
    let bad : status_of_items item_or_refused c.args.numbers.now ≡ 0 → ⊥ = search rules in
    rw (items_of-refused c.args.numbers.now few bad) refl

pub returns-then-fill-ne0-clause-items : goal.returns-then-fill-ne0-clause-items
returns-then-fill-ne0-clause-items c =
    let few : length c.args.numbers.now ≤ 128 = search rules in
    let bad : status_of_items item_or_refused c.args.numbers.now ≡ 0 → ⊥ = search rules in
    rw (items_of-refused c.args.numbers.now few bad) tt

pub returns-clause-count : goal.returns-clause-count
returns-clause-count c =
    let few : length c.args.numbers.now ≤ 128 = search rules in
    let good : status_of_items item_or_refused c.args.numbers.now ≡ 0 = search rules in size_of-read c.args.numbers.now few good

pub returns-clause-items : goal.returns-clause-items
returns-clause-items c =
    let few : length c.args.numbers.now ≤ 128 = search rules in
    let good : status_of_items item_or_refused c.args.numbers.now ≡ 0 = search rules in
    room-read c.args.numbers.now _ _ few good c.fill.ensures.written
