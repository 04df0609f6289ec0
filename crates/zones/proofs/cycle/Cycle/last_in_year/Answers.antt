use Rattle.std.proofs.Common.{pos, ◌+ℤ◌, ◌*ℤ◌, arith, sym, subst}
use Rattle.calendar_values.specs.Calendar.{year_start}
use Rattle.calendar_values.specs.SignedArith.{signed_arith}
use Rattle.zones.specs.Cycles.{IsLastMoment}
use Rattle.zones.proofs.MonthsLemmas.{within_year, after_year, before_year, two_back, searched}
use Rattle.zones.proofs.cycle.Cycle.last_in_year.Goals as goal

pub returns-then-until-first : goal.returns-then-until-first
returns-then-until-first c =
    let y = c.args.year in
    let f = c.earliest_first-first.result in
    let fl = c.earliest_first-first.ensures.low in
    let fh = c.earliest_first-first.ensures.high in
    let s = c.earliest_second-second.result in
    let sl = c.earliest_second-second.ensures.low in
    let sh = c.earliest_second-second.ensures.high in
    let found = after_year c.args.self y f s c.args.from c.args.until c.earliest_first-first.ensures.near c.earliest_second-second.ensures.near
    (omega (arith, signed_arith)) (omega (arith, signed_arith)) in
    subst (IsLastMoment c.args.self (year_start y *ℤ pos 86_400 +ℤ c.args.from) (year_start y *ℤ pos 86_400 +ℤ c.args.until))
    (sym (two_back y c.requires.year_in).1) ((searched y c.requires.year_in).1, found.0, found.1)

pub returns-then-from-first : goal.returns-then-from-first
returns-then-from-first c =
    let y = c.args.year in
    let f = c.earliest_first-first.result in
    let fl = c.earliest_first-first.ensures.low in
    let fh = c.earliest_first-first.ensures.high in
    let s = c.earliest_second-second.result in
    let sl = c.earliest_second-second.ensures.low in
    let sh = c.earliest_second-second.ensures.high in
    let found = within_year c.args.self y f s c.args.from c.args.until c.earliest_first-first.ensures.near c.earliest_second-second.ensures.near
    (omega (arith, signed_arith)) (omega (arith, signed_arith)) in
    subst (IsLastMoment c.args.self (year_start y *ℤ pos 86_400 +ℤ c.args.from) (year_start y *ℤ pos 86_400 +ℤ c.args.until))
    (sym (two_back y c.requires.year_in).0) ((searched y c.requires.year_in).0, found.0, found.1)

pub returns-then-from-second-2 : goal.returns-then-from-second-2
returns-then-from-second-2 c =
    let y = c.args.year in
    let f = c.earliest_first-first.result in
    let fl = c.earliest_first-first.ensures.low in
    let fh = c.earliest_first-first.ensures.high in
    let s = c.earliest_second-second.result in
    let sl = c.earliest_second-second.ensures.low in
    let sh = c.earliest_second-second.ensures.high in
    let found = before_year c.args.self y f s c.args.from c.args.until c.earliest_first-first.ensures.near c.earliest_second-second.ensures.near
    (omega (arith, signed_arith)) (omega (arith, signed_arith)) in
    subst (IsLastMoment c.args.self (year_start y *ℤ pos 86_400 +ℤ c.args.from) (year_start y *ℤ pos 86_400 +ℤ c.args.until))
    (sym (two_back y c.requires.year_in).2) ((searched y c.requires.year_in).2, found.0, found.1)
