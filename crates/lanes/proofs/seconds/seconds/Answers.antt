use Rattle.std.proofs.Common.{rules, ◌≡◌}
use Rattle.lanes.specs.Seconds.{second_of}
use Rattle.lanes.proofs.CountLemmas.{march_year-bound, second_of-lane, four-seconds}
use Rattle.lanes.proofs.seconds.seconds.Goals as goal

pub march_days-march-requires : goal.march_days-march-requires
march_days-march-requires c =
    rw (c.march_years.ensures, c.parts_of-parts.ensures.year, c.parts_of-parts.ensures.month) (
      march_year-bound c.args.a c.requires.a,
      (
        march_year-bound c.args.b c.requires.b,
        (march_year-bound c.args.c c.requires.c, (march_year-bound c.args.d c.requires.d, tt)),
      ),
    )

pub returns : goal.returns
returns c =
    let parts = c.parts_of-parts.ensures in
    let a = rw (
      c.march_days-march.ensures,
      c.month_days.ensures,
      c.march_years.ensures,
      parts.year,
      parts.month,
      parts.day,
      parts.hour,
      parts.minute,
      parts.second,
      parts.offset,
    ) at c.cast_signed.ensures in
    let b = rw (
      c.march_days-march.ensures,
      c.month_days.ensures,
      c.march_years.ensures,
      parts.year,
      parts.month,
      parts.day,
      parts.hour,
      parts.minute,
      parts.second,
      parts.offset,
    ) at c.cast_signed-2.ensures in
    let third = rw (
      c.march_days-march.ensures,
      c.month_days.ensures,
      c.march_years.ensures,
      parts.year,
      parts.month,
      parts.day,
      parts.hour,
      parts.minute,
      parts.second,
      parts.offset,
    ) at c.cast_signed-3.ensures in
    let d = rw (
      c.march_days-march.ensures,
      c.month_days.ensures,
      c.march_years.ensures,
      parts.year,
      parts.month,
      parts.day,
      parts.hour,
      parts.minute,
      parts.second,
      parts.offset,
    ) at c.cast_signed-4.ensures in
    four-seconds (search rules) (search rules) (search rules) (search rules) (second_of-lane c.args.a _ c.requires.a a)
    (second_of-lane c.args.b _ c.requires.b b) (second_of-lane c.args.c _ c.requires.c third) (second_of-lane c.args.d _ c.requires.d d)
