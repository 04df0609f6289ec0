use Rattle.std.proofs.Common.{◌≡◌, ◌≤◌, length}
use Rattle.format_descriptions.specs.PartPlaces.{last_place}
use Rattle.format_descriptions.proofs.part_places.last_place.Given as goal

-- the items that are left have the place that all have
abbrev pub invariant-loop-count : goal.invariant-loop-count
invariant-loop-count l = record {
  same : last_place l.count l.items l.text l.field ≡ last_place l.fn.count l.fn.items l.fn.text l.fn.field;
  within : l.count ≤ length l.items;
}

abbrev pub decreases-loop-count : goal.decreases-loop-count
decreases-loop-count l = l.count
