use Rattle.std.proofs.Common.{rules, FitsSigned, w32}
use Rattle.lanes.proofs.PartLemmas.{leap_day_of-bound, month_length_of-bound, inside-four, Fit}
use Rattle.lanes.proofs.seconds.are_inside.Goals as goal

pub month_lengths-lengths-requires-clause-leap_day : goal.month_lengths-lengths-requires-clause-leap_day
month_lengths-lengths-requires-clause-leap_day c =
    rw (c.leap_days.ensures, c.march_years.ensures, c.parts_of-parts.ensures.year, c.parts_of-parts.ensures.month)
    (leap_day_of-bound _ _, (leap_day_of-bound _ _, (leap_day_of-bound _ _, (leap_day_of-bound _ _, tt))))

pub days_within-requires : goal.days_within-requires
days_within-requires c =
    rw (
      c.month_lengths-lengths.ensures,
      c.leap_days.ensures,
      c.march_years.ensures,
      c.parts_of-parts.ensures.year,
      c.parts_of-parts.ensures.month,
    )
    (month_length_of-bound _ _ _, (month_length_of-bound _ _ _, (month_length_of-bound _ _ _, (month_length_of-bound _ _ _, tt))))

pub returns : goal.returns
returns c =
    let parts = c.parts_of-parts.ensures in
    let fit_a : Fit c.args.a = (search rules, search rules) in
    let fit_b : Fit c.args.b = (search rules, search rules) in
    let fit_c : Fit c.args.c = (search rules, search rules) in
    let fit_d : Fit c.args.d = (search rules, search rules) in
    rw (
      c.within.ensures,
      c.within-2.ensures,
      c.days_within.ensures,
      c.within-3.ensures,
      c.within-4.ensures,
      c.within-5.ensures,
      c.within-6.ensures,
      c.within-7.ensures,
      c.month_lengths-lengths.ensures,
      c.leap_days.ensures,
      c.march_years.ensures,
      parts.year,
      parts.month,
      parts.day,
      parts.hour,
      parts.minute,
      parts.second,
      parts.nanosecond,
      parts.offset,
    )
    (inside-four c.args.a c.args.b c.args.c c.args.d fit_a fit_b fit_c fit_d)
