use Rattle.std.proofs.Common.{refl}
use Rattle.stamps.proofs.YearLawLemmas.{name-given, named-gives, no-year, none-given, other-year, own-year}
use Rattle.stamps.specs.Years.{last_sign}
use Rattle.stamps.proofs.laws.years_are_given.Goals as goal

pub returns-clause-values : goal.returns-clause-values
returns-clause-values c = record {
  name = name-given;
  alone = none-given;
  named = named-gives;
  own = own-year;
  others = other-year;
  none = no-year;
}

pub returns-clause-once : goal.returns-clause-once
unfolding last_sign
returns-clause-once c = record {
  one_file = refl;
  two_files = refl;
  all_files = refl;
  one_and_all = refl;
  all_and_one = refl;
  digits = refl;
  change = refl;
  two_digits = refl;
  other_word = refl;
  no_digit = refl;
}
