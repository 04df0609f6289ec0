use Rattle.format_descriptions.specs.Groups.{written_items}
use Rattle.format_descriptions.specs.Read.{no_parts}
use Rattle.format_descriptions.specs.RoundTrips.{parts_of}
use Rattle.format_descriptions.proofs.PartLemmas.{AreParts-none}
use Rattle.format_descriptions.proofs.RoundTripLemmas.{AreParts-of}
use Rattle.format_descriptions.proofs.ValueLawLemmas.{NamesAgain-of}
use Rattle.format_descriptions.proofs.laws.written_values_are_named.Goals as goal

pub returns : goal.returns
returns c = λ items day clock o in_range w.
    NamesAgain-of (parts_of items day clock o no_parts) day clock o in_range w
    (AreParts-of (written_items items) day clock o no_parts (AreParts-none day clock o))
