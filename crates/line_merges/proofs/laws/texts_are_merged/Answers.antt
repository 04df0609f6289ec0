use Rattle.std.proofs.Common.{ap, ◌∙◌, map, List}
use Rattle.std.specs.List.{concat}
use Rattle.line_merges.proofs.ByteLemmas.{lines-keep}
use Rattle.line_merges.proofs.MergeLemmas.{merges-in_order, merges-keep}
use Rattle.line_merges.proofs.MergeTextLemmas.{merge_text-lines}
use Rattle.line_merges.specs.Lines.{Line, line_text, log_lines}
use Rattle.line_merges.proofs.laws.texts_are_merged.Goals as goal

pub returns : goal.returns
returns g c = λ readings texts out h. record {
  lines = merge_text-lines readings texts out h;
  logs = λ k.
      ap (λ (z : List Line). concat (map line_text z)) (merges-keep (λ j. log_lines (readings j) (texts j)) out h k)
      ∙ lines-keep (readings k) (texts k);
  order = λ ordered. merges-in_order (λ j. log_lines (readings j) (texts j)) out h ordered;
}
