use Rattle.muxandu_c.proofs.written_texts.write_numbers.Goals as goal

pub write_rfc3339_parts-requires-clause-parts : goal.write_rfc3339_parts-requires-clause-parts
write_rfc3339_parts-requires-clause-parts c = (c.requires.numbers c.in-Some.parts c.in-Some.is).parts

pub write_rfc3339_parts-requires-clause-year : goal.write_rfc3339_parts-requires-clause-year
write_rfc3339_parts-requires-clause-year c = (c.requires.numbers c.in-Some.parts c.in-Some.is).year

pub write_rfc3339_parts-requires-clause-nanosecond : goal.write_rfc3339_parts-requires-clause-nanosecond
write_rfc3339_parts-requires-clause-nanosecond c = (c.requires.numbers c.in-Some.parts c.in-Some.is).nanosecond
