use Rattle.std.proofs.Common.{◌≡◌, ◌<◌, ◌≤◌, ◌+ℤ◌, ◌≤ℤ◌, ap, arith, length, negsuc, of_z, pos, rules, to_z, w32, ◌∙◌, ℤ}
use Rattle.calendar_values.specs.Calendar.{year_of}
use Rattle.calendar_values.specs.SignedArith.{signed_arith}
use Rattle.calendar_values.specs.WallClock.{wall_day}
use Rattle.line_devices.specs.Lines.{pieces_of}
use Rattle.stamps.proofs.FirstYearLemmas.{first-at_bound, line_has, line_lacks, none_left}
use Rattle.stamps.proofs.first_years.first_year.Goals as goal

-- the top year
next_year : (year : ℤ) → negsuc 999_998 ≤ℤ year → year ≤ℤ pos 999_999 → to_z w32 (of_z w32 (to_z w32 (of_z w32 year) +ℤ pos 1)) ≡ year +ℤ pos 1
next_year year low high = omega (arith, signed_arith, low, high)

pub returns-in-Some-clause-year : goal.returns-in-Some-clause-year
returns-in-Some-clause-year c = λ bound h.
    let back : to_z w32 (of_z w32 c.in-Some.year) ≡ c.in-Some.year = search rules in
    rw back (first-at_bound c.args.reader.now (pieces_of c.args.head.now) c.args.changed c.days.result c.saturating_add-bound.result bound _ _ _
    c.saturating_add-bound.ensures c.days.ensures.value
    (next_year c.year-top.result c.year-top.ensures.in_range.0 c.year-top.ensures.in_range.1 ∙ ap (λ (z : ℤ). z +ℤ pos 1) c.year-top.ensures.value)
    (c.lines.invariant.left _ _ (line_has c.args.reader.now c.lines.reader _ c.args.head.now c.lines.from c.place_of-end.result _ _ _ _
    c.place_of-end.ensures.bounds.0 c.place_of-end.ensures.bounds.1 c.place_of-end.ensures.before c.place_of-end.ensures.byte_there
    c.lines.invariant.same c.in-Some.ensures.year)) h)

pub returns-in-Some-clause-same : goal.returns-in-Some-clause-same
returns-in-Some-clause-same c = λ year. c.latest_year.ensures.same year ∙ c.lines.invariant.same year

pub lines-preserved : goal.lines-preserved
lines-preserved c = record {
  same = λ year. c.latest_year.ensures.same year ∙ c.lines.invariant.same year;
  within = omega (arith, c.place_of-end.ensures.bounds.1);
  left = λ other year h. c.lines.invariant.left other year (line_lacks c.args.reader.now c.lines.reader _ c.args.head.now c.lines.from
      c.place_of-end.result _ _ other year c.place_of-end.ensures.bounds.0 c.place_of-end.ensures.bounds.1 c.place_of-end.ensures.before
      c.place_of-end.ensures.byte_there c.lines.invariant.same c.in_default.ensures.year h);
}

pub returns-clause-year : goal.returns-clause-year
returns-clause-year c = λ bound h.
    let past : length c.args.head.now < c.lines.from = omega (arith, c.lines-test.false) in
    let own : to_z w32 (of_z w32 c.year.result) ≡ c.year.result = search rules in
    rw (own, c.year.ensures.value) (first-at_bound c.args.reader.now (pieces_of c.args.head.now) c.args.changed c.days.result
    c.saturating_add-bound.result bound _ _ _ c.saturating_add-bound.ensures c.days.ensures.value
    (next_year c.year-top.result c.year-top.ensures.in_range.0 c.year-top.ensures.in_range.1 ∙ ap (λ (z : ℤ). z +ℤ pos 1) c.year-top.ensures.value)
    (c.lines.invariant.left _ _ (none_left c.args.reader.now _ c.args.head.now c.lines.from _ _ _ past)) h)
