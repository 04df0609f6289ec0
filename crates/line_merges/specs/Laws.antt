-- Laws of merges. A function of `src/laws.rt` proves each of them.
use Rattle.std.specs.Prelude.{◌≡◌, ℕ, ◌<◌, ◌==◌, true, false, ⊤, List, [], ◌∷◌, map, if◌then◌else◌}
use Rattle.std.specs.List.{concat}
use Rattle.line_merges.specs.Instants.{LogReading, is_before}
use Rattle.line_merges.specs.Lines.{Line, line_text, log_lines}
use Rattle.line_merges.specs.Merges.{IsMerge}

-- the lines of one log
unfoldable pub own_lines : ℕ → List (ℕ × Line) → List Line
own_lines k [] = []
own_lines k (out ∷ more) = if out.0 == k then out.1 ∷ own_lines k more else own_lines k more

-- a merge has the lines of each log, in their order, and no others
abbrev pub MergesKeepLogs : Type 0
MergesKeepLogs = (logs : ℕ → List Line) (out : List (ℕ × Line)) → IsMerge logs out → (k : ℕ) → own_lines k out ≡ logs k

-- a line follows another: it is not earlier, and at the same instant not of a log before it
abbrev pub Follows : ℕ × Line → ℕ × Line → Type 0
Follows a b = (is_before b.1.instant a.1.instant ≡ false) × (b.0 < a.0 → is_before a.1.instant b.1.instant ≡ true)

abbrev pub FollowFrom : ℕ × Line → List (ℕ × Line) → Type 0
FollowFrom a [] = ⊤
FollowFrom a (b ∷ more) = Follows a b × FollowFrom b more

-- each line follows the one before
abbrev pub AreInOrder : List (ℕ × Line) → Type 0
AreInOrder [] = ⊤
AreInOrder (a ∷ more) = FollowFrom a more

abbrev pub NotEarlierFrom : Line → List Line → Type 0
NotEarlierFrom a [] = ⊤
NotEarlierFrom a (b ∷ more) = (is_before b.instant a.instant ≡ false) × NotEarlierFrom b more

-- no line is earlier than the one before
abbrev pub IsOrdered : List Line → Type 0
IsOrdered [] = ⊤
IsOrdered (a ∷ more) = NotEarlierFrom a more

-- where each log is in order, so is the merge
abbrev pub MergesAreInOrder : Type 0
MergesAreInOrder =
    (logs : ℕ → List Line) (out : List (ℕ × Line)) → IsMerge logs out → ((k : ℕ) → IsOrdered (logs k)) → AreInOrder out

-- logs have one merge
abbrev pub MergesAreOne : Type 0
MergesAreOne = (logs : ℕ → List Line) (out other : List (ℕ × Line)) → IsMerge logs out → IsMerge logs other → out ≡ other

-- after a line comes the next line of its log, if that has the same instant, as a line without a timestamp has
abbrev pub MergesKeepTogether : Type 0
MergesKeepTogether =
    (logs : ℕ → List Line) (k : ℕ) (line next : Line) (rest : List Line) (more : List (ℕ × Line)) → IsMerge logs ((k, line) ∷ more)
    → logs k ≡ line ∷ next ∷ rest → next.instant ≡ line.instant → (after : List (ℕ × Line)) × (more ≡ (k, next) ∷ after)

-- the lines of a log have all its bytes, whatever is known of the lines before
abbrev pub LinesKeepBytes : Type 0 → Type 0
LinesKeepBytes M = (reading : LogReading M) (log : List ℕ) → concat (map line_text (log_lines reading log)) ≡ log
