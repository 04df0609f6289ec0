-- The merge of logs: their lines in the order of the instants.
use Rattle.std.specs.Prelude.{◌≡◌, ℕ, ◌<◌, ◌==◌, Bool, true, false, not, List, [], ◌∷◌, ◌++◌, drop, if◌then◌else◌}
use Rattle.line_merges.specs.Instants.{is_before}
use Rattle.line_merges.specs.LineFronts.{feed_if}
use Rattle.line_merges.specs.Lines.{Line, line_text}

-- logs, without the first line of one of them
abbrev pub behind : (ℕ → List Line) → ℕ → ℕ → List Line
behind logs k j = if j == k then drop 1 (logs j) else logs j

-- no log has a next line that is earlier, and no log before it one of the same instant
abbrev pub IsFirst : (ℕ → List Line) → ℕ → Line → Type 0
IsFirst logs k line =
    (j : ℕ) (other : Line) (rest : List Line) → logs j ≡ other ∷ rest
    → (is_before other.instant line.instant ≡ false) × (j < k → is_before line.instant other.instant ≡ true)

-- lines with the numbers of their logs: each is the first of those that are left, and none is left at the end
abbrev pub IsMerge : (ℕ → List Line) → List (ℕ × Line) → Type 0
IsMerge logs [] = (j : ℕ) → logs j ≡ []
IsMerge logs (out ∷ more) =
    (rest : List Line) × (logs out.0 ≡ out.1 ∷ rest) × IsFirst logs out.0 out.1 × IsMerge (behind logs out.0) more

-- the text of lines: a line that no line feed ends gets one if another line follows. The first argument says whether the line before has none
unfoldable pub text_from : Bool → List (ℕ × Line) → List ℕ
text_from is_open [] = []
text_from is_open (out ∷ more) = feed_if is_open ++ (line_text out.1 ++ text_from (not out.1.is_ended) more)

-- the text of a merge
abbrev pub merge_text : List (ℕ × Line) → List ℕ
merge_text out = text_from false out
