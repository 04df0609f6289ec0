use Rattle.std.proofs.Common.{rules, ◌≡◌, false}
use Rattle.calendar_values.specs.Calendar.{year_of}
use Rattle.format_descriptions.specs.Written.{is_year_since}
use Rattle.format_descriptions.proofs.ItemLemmas.{no_year}
use Rattle.format_descriptions.proofs.pieces.put_year_since.Goals as goal

pub returns-then-not-is_year_since-clause-none : goal.returns-then-not-is_year_since-clause-none
returns-then-not-is_year_since-clause-none c =
    let other : false ≡ is_year_since c.args.first (year_of c.args.date) = search rules in no_year c.args.first (year_of c.args.date) other
