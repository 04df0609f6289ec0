-- Laws of merges in the words of texts. A function of `src/laws.rt` proves each of them.
use Rattle.std.specs.Prelude.{◌≡◌, ℕ, List, map}
use Rattle.std.specs.List.{concat}
use Rattle.line_devices.specs.Lines.{lines_of}
use Rattle.line_merges.specs.Instants.{LogReading}
use Rattle.line_merges.specs.Laws.{AreInOrder, IsOrdered, own_lines}
use Rattle.line_merges.specs.Lines.{Line, line_text, log_lines}
use Rattle.line_merges.specs.Merges.{IsMerge, merge_text}

-- the lines are a merge of these texts
abbrev pub IsMergeOf : {M : Type 0} → (ℕ → LogReading M) → (ℕ → List ℕ) → List (ℕ × Line) → Type 0
IsMergeOf readings texts out = IsMerge (λ k. log_lines (readings k) (texts k)) out

-- the text of a merge has its lines, as they are cut at line feeds, each once and no others. The lines of a log, each with its line feed,
-- are the text of the log. If no line of a log is earlier than the line before it, no line of the merge is
pub record MergesKeepTexts {M : Type 0} (readings : ℕ → LogReading M) (texts : ℕ → List ℕ) (out : List (ℕ × Line)) : Type 0 where
  pub lines : lines_of (merge_text out) ≡ map (λ (line : ℕ × Line). line.1.bytes) out
  pub logs : (k : ℕ) → concat (map line_text (own_lines k out)) ≡ texts k
  pub order : ((k : ℕ) → IsOrdered (log_lines (readings k) (texts k))) → AreInOrder out

-- each merge of texts does, whatever is known of the lines before
abbrev pub TextsAreMerged : Type 0 → Type 0
TextsAreMerged M =
    (readings : ℕ → LogReading M) (texts : ℕ → List ℕ) (out : List (ℕ × Line)) → IsMergeOf readings texts out → MergesKeepTexts readings texts out
