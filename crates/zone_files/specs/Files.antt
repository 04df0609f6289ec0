-- The parts of a file, without where they lie in memory.
use Rattle.std.specs.Option.{option_map}
use Rattle.zone_files.specs.Blocks.{BlockParts}
use Rattle.zone_files.specs.FileReading.{FileParts}
use Rattle.zone_files.specs.Rules.{rule_parts}
use Rattle.zone_files.specs.declared.blocks.Block.{Block}
use Rattle.zone_files.specs.declared.files.Parsed.{Parsed}

abbrev pub block_parts : Block → BlockParts
block_parts block = record { times = block.times.now; indexes = block.indexes.now; types = block.types.now; names = block.names.now }

abbrev pub parsed_parts : Parsed → FileParts
parsed_parts file = record {
  wide = file.is_wide;
  count = file.count;
  block = block_parts file.block;
  rule = option_map rule_parts file.rule;
}
