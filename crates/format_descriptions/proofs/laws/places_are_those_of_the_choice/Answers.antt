use Rattle.format_descriptions.proofs.PlaceLemmas.{places-given, places-found}
use Rattle.format_descriptions.proofs.laws.places_are_those_of_the_choice.Goals as goal

pub returns : goal.returns
returns c = record { place = places-given; found = places-found }
