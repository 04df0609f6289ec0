use Rattle.std.proofs.Common.{rules, ◌≡◌, Some}
use Rattle.rfc3339.specs.Reading.{two_digits_at}
use Rattle.format_descriptions.proofs.DigitsFirstLemmas.{two_first}
use Rattle.format_descriptions.proofs.reading.two.Goals as goal

pub returns-in-Some-clause-value : goal.returns-in-Some-clause-value
returns-in-Some-clause-value c =
    let is : Some (c.in-Some.number, c.in-Some.rest.now) ≡ two_digits_at c.args.text.now = search rules in
    two_first c.args.padding c.args.text.now _ _ is
