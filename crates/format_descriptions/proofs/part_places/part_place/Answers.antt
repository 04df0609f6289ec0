use Rattle.std.proofs.Common.{rules, ◌≡◌}
use Rattle.format_descriptions.specs.PartPlaces.{part_place}
use Rattle.format_descriptions.proofs.PlaceLemmas.{places-returned}
use Rattle.format_descriptions.proofs.part_places.part_place.Goals as goal

pub returns-then-has_part-clause-given : goal.returns-then-has_part-clause-given
unfolding part_place
returns-then-has_part-clause-given c =
    let is : c.last_place.result ≡ part_place c.args.items.now c.args.text.now c.args.field = search rules in
    places-returned c.args.items.now c.args.text.now c.args.field c.last_place.result is
