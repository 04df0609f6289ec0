use Rattle.std.proofs.Common.{rules, ◌≡◌, Err}
use Rattle.format_descriptions.proofs.PlainDateLemmas.{calendar_day, month_day-err}
use Rattle.format_descriptions.proofs.values.month_day.Goals as goal

pub returns-in-Err : goal.returns-in-Err
returns-in-Err c =
    let is : Err c.in-Err.refusal ≡ calendar_day c.args.year c.args.month c.args.day = search rules in
    month_day-err c.args.parts c.args.year c.args.month c.args.day c.in-Err.refusal is
