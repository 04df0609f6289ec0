use Rattle.format_descriptions.specs.Groups.{written_items}
use Rattle.format_descriptions.specs.Read.{no_parts}
use Rattle.format_descriptions.proofs.PartLemmas.{AreParts-none}
use Rattle.format_descriptions.proofs.RoundTripLemmas.{written-again, AreParts-of}
use Rattle.format_descriptions.proofs.laws.written_texts_read_back.Goals as goal

pub returns : goal.returns
returns c = λ items day clock o h w. record {
  reading = written-again items day clock o no_parts h w (AreParts-none day clock o);
  parts = AreParts-of (written_items items) day clock o no_parts (AreParts-none day clock o);
}
