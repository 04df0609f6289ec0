use Rattle.std.proofs.Common.{◌≡◌, ◌+◌, ◌-◌, ◌/◌, ◌<◌, length, get_or, arith, refl, sym, ap}
use Rattle.std.proofs.lemmas.List.{get_or_read_under}
use Rattle.calendar_values.specs.SignedArith.{signed_arith}
use Rattle.zones.specs.declared.transition.Transition.{Transition}
use Rattle.zones.specs.Tables.{row_at, no_row}
use Rattle.zones.proofs.Sequences.{seconds_rise}
use Rattle.zones.proofs.TableLemmas.{table_runs, count_of_passed}
use Rattle.zones.proofs.tables.count_by_halves.Goals as goal

pub loop-low-preserved-then-rows-middle : goal.loop-low-preserved-then-rows-middle
loop-low-preserved-then-rows-middle c =
    let middle = c.loop-low.low + (c.loop-low.high - c.loop-low.low) / 2 in
    let inside : middle < length c.args.rows.now = omega arith in
    let is : row_at c.args.rows.now middle ≡ c.index-rows-middle.result =
    sym (get_or_read_under c.args.rows.now middle (length c.args.rows.now) c.index-rows-middle.result no_row c.index-rows-middle.is inside refl) in
    let same = ap (λ (r : Transition). r.second) is in
    let fit = (get_or c.args.rows.now middle c.index-rows-middle.result).second_in in
    let same2 = ap (λ (r : Transition). r.second) c.index-rows-middle.is in
    record {
      ordered = omega arith;
      bounded = omega arith;
      passed = λ k l.
          let up = seconds_rise (table_runs c.args.first c.args.rows.now c.requires) k middle (omega arith) inside in
          omega (arith, signed_arith);
      ahead = λ k l m. c.loop-low.invariant.ahead k l m;
    }

pub loop-low-preserved : goal.loop-low-preserved
loop-low-preserved c =
    let middle = c.loop-low.low + (c.loop-low.high - c.loop-low.low) / 2 in
    let inside : middle < length c.args.rows.now = omega arith in
    let is : row_at c.args.rows.now middle ≡ c.index-rows-middle.result =
    sym (get_or_read_under c.args.rows.now middle (length c.args.rows.now) c.index-rows-middle.result no_row c.index-rows-middle.is inside refl) in
    let same = ap (λ (r : Transition). r.second) is in
    let fit = (get_or c.args.rows.now middle c.index-rows-middle.result).second_in in
    let same2 = ap (λ (r : Transition). r.second) c.index-rows-middle.is in
    record {
      ordered = omega arith;
      bounded = omega arith;
      passed = λ k l. c.loop-low.invariant.passed k l;
      ahead = λ k l m.
          let up = seconds_rise (table_runs c.args.first c.args.rows.now c.requires) middle k l m in
          omega (arith, signed_arith);
    }

pub returns-clause-value : goal.returns-clause-value
returns-clause-value c =
    sym (count_of_passed c.args.rows.now c.args.second c.loop-low.low (omega arith)
    (λ k l. let passed = c.loop-low.invariant.passed k l in omega (arith, signed_arith))
    (λ l. let ahead = c.loop-low.invariant.ahead c.loop-low.low (omega arith) l in omega (arith, signed_arith)))
