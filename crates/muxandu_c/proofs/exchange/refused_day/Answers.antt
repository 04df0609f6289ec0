use Rattle.std.proofs.Common.{◌==◌, ◌||◌, nat_lt, sym, ◌∙◌, arith}
use Rattle.muxandu_c.proofs.DayDigitLemmas.{day_digits, day_digits_in_front, date_digits, of_its_month, of_no_month}
use Rattle.muxandu_c.proofs.exchange.refused_day.Goals as goal

pub returns-in_default-clause-spelled : goal.returns-in_default-clause-spelled
returns-in_default-clause-spelled c p is = absurd (omega (arith, (day_digits c.args.text.now p is).0, c.in_default.len_below))

pub returns-in_default-clause-front : goal.returns-in_default-clause-front
returns-in_default-clause-front c stamp rest p e is =
    absurd (omega (arith, (day_digits_in_front c.args.text.now stamp rest p e is).0, c.in_default.len_below))

pub returns-in_default-clause-date : goal.returns-in_default-clause-date
returns-in_default-clause-date c year month day is =
    absurd (omega (arith, (date_digits c.args.text.now year month day is).0, c.in_default.len_below))

pub returns-then-is_some_day-clause-spelled : goal.returns-then-is_some_day-clause-spelled
returns-then-is_some_day-clause-spelled c p is =
    let digits = day_digits c.args.text.now p is in
    of_its_month (p.day == 0 || nat_lt 31 p.day)
    (sym (c.is_some_day.ensures p.day is.fits.day digits.1 digits.2) ∙ c.if-is_some_day.true)

pub returns-then-is_some_day-clause-front : goal.returns-then-is_some_day-clause-front
returns-then-is_some_day-clause-front c stamp rest p e is =
    let digits = day_digits_in_front c.args.text.now stamp rest p e is in
    of_its_month (p.day == 0 || nat_lt 31 p.day)
    (sym (c.is_some_day.ensures p.day is.fits.day digits.1 digits.2) ∙ c.if-is_some_day.true)

pub returns-then-is_some_day-clause-date : goal.returns-then-is_some_day-clause-date
returns-then-is_some_day-clause-date c year month day is =
    let digits = date_digits c.args.text.now year month day is in
    of_its_month (day == 0 || nat_lt 31 day) (sym (c.is_some_day.ensures day is.day_fits digits.1 digits.2) ∙ c.if-is_some_day.true)

pub returns-else-is_some_day-clause-spelled : goal.returns-else-is_some_day-clause-spelled
returns-else-is_some_day-clause-spelled c p is =
    let digits = day_digits c.args.text.now p is in
    of_no_month (p.day == 0 || nat_lt 31 p.day)
    (sym (c.is_some_day.ensures p.day is.fits.day digits.1 digits.2) ∙ c.if-is_some_day.false)

pub returns-else-is_some_day-clause-front : goal.returns-else-is_some_day-clause-front
returns-else-is_some_day-clause-front c stamp rest p e is =
    let digits = day_digits_in_front c.args.text.now stamp rest p e is in
    of_no_month (p.day == 0 || nat_lt 31 p.day)
    (sym (c.is_some_day.ensures p.day is.fits.day digits.1 digits.2) ∙ c.if-is_some_day.false)

pub returns-else-is_some_day-clause-date : goal.returns-else-is_some_day-clause-date
returns-else-is_some_day-clause-date c year month day is =
    let digits = date_digits c.args.text.now year month day is in
    of_no_month (day == 0 || nat_lt 31 day) (sym (c.is_some_day.ensures day is.day_fits digits.1 digits.2) ∙ c.if-is_some_day.false)
