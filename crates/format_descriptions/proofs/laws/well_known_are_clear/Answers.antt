use Rattle.std.proofs.Common.{refl}
use Rattle.format_descriptions.specs.Groups.{written_from}
use Rattle.format_descriptions.proofs.laws.well_known_are_clear.Goals as goal

pub returns : goal.returns
unfolding written_from
returns c = record {
  date = refl;
  time = refl;
  offset = refl;
  fixed = refl;
  fixed_at = refl;
  rfc2822 = refl;
  iso8601 = refl;
  iso8601_date = refl;
  iso8601_time = refl;
}
