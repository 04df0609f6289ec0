use Rattle.std.proofs.Common.{sym}
use Rattle.rfc3339.proofs.LeapLemmas.{leap_second-value, leap_second-none, leap_second-refused, leap_second-has_text}
use Rattle.rfc3339.specs.ReadInstantLemmas.{instant_of-in_range, instant_of-next_in_range}
use Rattle.rfc3339.specs.Texts.{HasText}
use Rattle.rfc3339.proofs.leap.leap_second.Goals as goal

-- what is read can be written
has_text : (c : goal.In-Ok) → HasText c.in-Ok.at
has_text c = leap_second-has_text c.args.parts c.in-Ok.at c.in-Ok.ensures.value c.requires.year

pub is_last_of_month-requires-clause-instant : goal.is_last_of_month-requires-clause-instant
is_last_of_month-requires-clause-instant c = instant_of-in_range c.in-Ok.at (has_text c)

pub is_last_of_month-requires-clause-next : goal.is_last_of_month-requires-clause-next
is_last_of_month-requires-clause-next c = instant_of-next_in_range c.in-Ok.at (has_text c)

pub returns-then-is_last_of_month-clause-value : goal.returns-then-is_last_of_month-clause-value
returns-then-is_last_of_month-clause-value c =
    leap_second-value c.args.parts c.in-Ok.at c.requires.second c.in-Ok.ensures.value (sym c.if-is_last_of_month.ensures)

pub returns-then-is_last_of_month-clause-has_text : goal.returns-then-is_last_of_month-clause-has_text
returns-then-is_last_of_month-clause-has_text c =
    leap_second-has_text c.args.parts c.in-Ok.at c.in-Ok.ensures.value c.requires.year

pub returns-else-is_last_of_month-clause-value : goal.returns-else-is_last_of_month-clause-value
returns-else-is_last_of_month-clause-value c =
    leap_second-none c.args.parts c.in-Ok.at c.requires.second c.in-Ok.ensures.value (sym c.if-is_last_of_month.ensures)

pub returns-in-Err-clause-value : goal.returns-in-Err-clause-value
returns-in-Err-clause-value c = leap_second-refused c.args.parts c.in-Err.refusal c.requires.second c.in-Err.ensures.value
