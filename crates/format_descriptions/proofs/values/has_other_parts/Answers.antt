use Rattle.std.proofs.Common.{refl}
use Rattle.format_descriptions.proofs.values.has_other_parts.Goals as goal

pub returns : goal.returns
returns c =
    rw (
      c.is_some.ensures,
      c.is_some-2.ensures,
      c.is_some-3.ensures,
      c.is_some-4.ensures,
      c.is_some-5.ensures,
      c.is_some-6.ensures,
      c.is_some-7.ensures,
      c.is_some-8.ensures,
      c.is_some-9.ensures,
      c.is_some-10.ensures,
      c.is_some-11.ensures,
      c.is_some-12.ensures,
    ) refl
