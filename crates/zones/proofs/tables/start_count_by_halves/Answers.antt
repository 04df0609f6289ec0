use Rattle.std.proofs.Common.{◌≡◌, ◌+◌, ◌-◌, ◌/◌, ◌<◌, length, FitsSigned, arith, refl, sym, ap, ◌∙◌}
use Rattle.std.proofs.lemmas.List.{get_or_read_under}
use mir.Syntax.{w64}
use Rattle.calendar_values.specs.SignedArith.{signed_arith}
use Rattle.zones.specs.Tables.{row_at, row_start, no_row}
use Rattle.zones.proofs.Sequences.{starts_rise}
use Rattle.zones.proofs.TableLemmas.{table_runs, row_start_is, start_count_of_passed}
use Rattle.zones.proofs.tables.start_count_by_halves.Goals as goal

pub loop-low-preserved-then-start-local : goal.loop-low-preserved-then-start-local
loop-low-preserved-then-start-local c =
    let middle = c.loop-low.low + (c.loop-low.high - c.loop-low.low) / 2 in
    let inside : middle < length c.args.rows.now = omega arith in
    let is : row_at c.args.rows.now middle ≡ c.index-rows-middle.result =
    sym (get_or_read_under c.args.rows.now middle (length c.args.rows.now) c.index-rows-middle.result no_row c.index-rows-middle.is inside refl) in
    let same = ap row_start is ∙ sym c.start.ensures in
    let fit : FitsSigned w64 c.start.result = record { sfits = c.start.type_inv } in
    let at_m = row_start_is c.args.first c.args.rows.now c.requires middle (omega arith) in
    record {
      ordered = omega arith;
      bounded = omega arith;
      passed = λ k l.
          let up = starts_rise (table_runs c.args.first c.args.rows.now c.requires) k middle (omega arith) inside in
          let at_k = row_start_is c.args.first c.args.rows.now c.requires k (omega arith) in
          omega (arith, signed_arith);
      ahead = λ k l m. c.loop-low.invariant.ahead k l m;
    }

pub loop-low-preserved : goal.loop-low-preserved
loop-low-preserved c =
    let middle = c.loop-low.low + (c.loop-low.high - c.loop-low.low) / 2 in
    let inside : middle < length c.args.rows.now = omega arith in
    let is : row_at c.args.rows.now middle ≡ c.index-rows-middle.result =
    sym (get_or_read_under c.args.rows.now middle (length c.args.rows.now) c.index-rows-middle.result no_row c.index-rows-middle.is inside refl) in
    let same = ap row_start is ∙ sym c.start.ensures in
    let fit : FitsSigned w64 c.start.result = record { sfits = c.start.type_inv } in
    let at_m = row_start_is c.args.first c.args.rows.now c.requires middle (omega arith) in
    record {
      ordered = omega arith;
      bounded = omega arith;
      passed = λ k l. c.loop-low.invariant.passed k l;
      ahead = λ k l m.
          let up = starts_rise (table_runs c.args.first c.args.rows.now c.requires) middle k l m in
          let at_k = row_start_is c.args.first c.args.rows.now c.requires k (omega arith) in
          omega (arith, signed_arith);
    }

pub returns-clause-value : goal.returns-clause-value
returns-clause-value c =
    sym (start_count_of_passed c.args.rows.now c.args.local c.loop-low.low (omega arith)
    (λ k l. let passed = c.loop-low.invariant.passed k l in omega (arith, signed_arith))
    (λ l. let ahead = c.loop-low.invariant.ahead c.loop-low.low (omega arith) l in omega (arith, signed_arith)))
