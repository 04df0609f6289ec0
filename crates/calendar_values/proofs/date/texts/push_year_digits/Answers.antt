use Rattle.calendar_values.proofs.DigitLemmas.{year_digits-pushed_short, year_digits-pushed_long}
use Rattle.calendar_values.proofs.date.texts.push_year_digits.Goals as goal

pub returns-then-year-lt10000-clause-text : goal.returns-then-year-lt10000-clause-text
returns-then-year-lt10000-clause-text c =
    year_digits-pushed_short _ _ c.args.year c.if-year-lt10000.true c.push_four_digits.ensures.value

pub returns-else-year-lt10000-clause-text : goal.returns-else-year-lt10000-clause-text
returns-else-year-lt10000-clause-text c =
    year_digits-pushed_long _ _ _ c.args.year c.if-year-lt10000.false c.requires.year c.push_short_decimal.ensures.value
    c.push_four_digits-else-year-lt10000.ensures.value
