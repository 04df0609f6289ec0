use Rattle.std.proofs.Common.{get_or}
use Rattle.rfc3339.proofs.WallLemmas.{wall_at-digits, wall_digits, wall_year}
use Rattle.rfc3339.proofs.reading.wall.Goals as goal

pub returns-then-are_digits-after_year-clause-value : goal.returns-then-are_digits-after_year-clause-value
returns-then-are_digits-after_year-clause-value c =
    let text = c.args.text.now in
    let tests = rw (
      c.are_digits.ensures,
      c.are_digits-2.ensures,
      c.are_digits-3.ensures,
      c.are_digits-4.ensures,
      c.is_separator.ensures,
      c.are_digits-5.ensures,
      c.are_digits-6.ensures,
      c.are_digits-7.ensures,
    ) at c.if-are_digits-after_year.true in
    let digits = wall_digits (get_or text 0 0) (get_or text 1 0) (get_or text 2 0) (get_or text 3 0) (get_or text 4 0) (get_or text 5 0) (get_or
    text 6 0) (get_or text 7 0) (get_or text 8 0) (get_or text 9 0) (get_or text 10 0) (get_or text 11 0) (get_or text 12 0) (get_or text 13
    0) (get_or text 14 0) (get_or text 15 0) (get_or text 16 0) (get_or text 17 0) (get_or text 18 0) tests in
    rw (
      c.of_digits.ensures digits.0,
      c.of_digits-then-are_digits-after_year.ensures digits.1,
      c.of_digits-then-are_digits-after_year-2.ensures
          digits.2,
      c.of_digits-then-are_digits-after_year-3.ensures digits.3,
    )
    (rw (
      c.of_digits-then-are_digits-after_year-4.ensures digits.4,
      c.of_digits-then-are_digits-after_year-5.ensures digits.5,
      c.of_digits-then-are_digits-after_year-6.ensures digits.6,
    )
    (wall_at-digits text c.in-len19-up.len_at_least tests))

pub returns-then-are_digits-after_year-clause-in_range : goal.returns-then-are_digits-after_year-clause-in_range
returns-then-are_digits-after_year-clause-in_range c =
    let text = c.args.text.now in
    let tests = rw (
      c.are_digits.ensures,
      c.are_digits-2.ensures,
      c.are_digits-3.ensures,
      c.are_digits-4.ensures,
      c.is_separator.ensures,
      c.are_digits-5.ensures,
      c.are_digits-6.ensures,
      c.are_digits-7.ensures,
    ) at c.if-are_digits-after_year.true in
    let digits = wall_digits (get_or text 0 0) (get_or text 1 0) (get_or text 2 0) (get_or text 3 0) (get_or text 4 0) (get_or text 5 0) (get_or
    text 6 0) (get_or text 7 0) (get_or text 8 0) (get_or text 9 0) (get_or text 10 0) (get_or text 11 0) (get_or text 12 0) (get_or text 13
    0) (get_or text 14 0) (get_or text 15 0) (get_or text 16 0) (get_or text 17 0) (get_or text 18 0) tests in
    rw (c.of_digits.ensures digits.0, c.of_digits-then-are_digits-after_year.ensures digits.1) (wall_year _ _ _ _ digits.0 digits.1)
