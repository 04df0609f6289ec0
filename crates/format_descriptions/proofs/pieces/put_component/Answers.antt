use Rattle.format_descriptions.specs.Written.{component_text}
use Rattle.format_descriptions.proofs.pieces.put_component.Goals as goal

pub returns-in-OffsetWord-clause-none : goal.returns-in-OffsetWord-clause-none
unfolding component_text
returns-in-OffsetWord-clause-none c = rw c.in-OffsetWord.is c.put_offset_word.ensures.none

pub returns-in-YearSince-clause-none : goal.returns-in-YearSince-clause-none
unfolding component_text
returns-in-YearSince-clause-none c = rw c.in-YearSince.is c.put_year_since.ensures.none
