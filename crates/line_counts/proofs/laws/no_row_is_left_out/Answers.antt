use Rattle.std.proofs.Common.{◌++◌, ap, List, ℕ}
use Rattle.line_counts.proofs.EmptyRowLemmas.{empty_run-in_place, empty_run-rows}
use Rattle.line_counts.proofs.laws.no_row_is_left_out.Goals as goal

pub returns : goal.returns
returns g c = λ counting row start count fits other h. record {
  rows = λ few. rw other
      (ap (λ (z : List ℕ). counting.row row.start row.count ++ z) (empty_run-rows counting count (counting.next row.start) start fits h few));
  in_place = λ many. rw other
      (ap (λ (z : List ℕ). counting.row row.start row.count ++ z) (empty_run-in_place counting count (counting.next row.start) start fits h many));
}
