use Rattle.std.proofs.Common.{◌∙◌}
use Rattle.zone_files.specs.Files.{parsed_parts}
use Rattle.zone_files.proofs.FileLemmas.{file-derived, file-whole, file_of-again}
use Rattle.zone_files.proofs.files.reading_of.Goals as goal

pub returns-clause-derived : goal.returns-clause-derived
returns-clause-derived c = file-derived c.args.bytes.now parsed_parts c.first_reading.result c.first_reading.ensures.reading

pub returns-clause-all : goal.returns-clause-all
returns-clause-all c file h = c.first_reading.ensures.reading ∙ file_of-again c.args.bytes.now file h

pub returns-clause-whole : goal.returns-clause-whole
returns-clause-whole c = file-whole c.args.bytes.now parsed_parts c.first_reading.result c.first_reading.ensures.reading
