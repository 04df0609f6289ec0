-- Laws of sorts. A function of `src/laws.rt` proves each of them.
use Rattle.std.specs.Prelude.{◌≡◌, ℕ, ◌+◌, ◌<◌, false, List, [], ◌∷◌, ℤ, Option, length, slice_index_or, ⊤, None}
use Rattle.line_merges.specs.Instants.{is_before}
use Rattle.line_merges.specs.Lines.{Line}
use Rattle.line_merges.specs.Sorts.{IsInOrderOf, far_after_lines, first_distance, first_lateness, is_far, is_late, late_after_lines}
use Rattle.line_merges.specs.declared.sorts.Held.{Held}

-- no line of a sorted log is earlier than the one before it
abbrev pub SortsAreInOrder : Type 0
SortsAreInOrder =
    (held out : List Held) → IsInOrderOf held out → (k : ℕ) (line : Held) → k + 1 < length out
    → is_before (slice_index_or out (k + 1) line).instant (slice_index_or out k line).instant ≡ false

-- no line is earlier than an instant by more than a window
abbrev pub NoneLateFrom : ℤ → Option ℤ → List Line → Type 0
NoneLateFrom window latest [] = ⊤
NoneLateFrom window latest (line ∷ lines) = (is_late window latest line.instant ≡ false) × NoneLateFrom window latest lines

-- no line is earlier than a line before it by more than a window
abbrev pub IsWithin : ℤ → List Line → Type 0
IsWithin window [] = ⊤
IsWithin window (line ∷ lines) = NoneLateFrom window line.instant lines × IsWithin window lines

-- no line is late exactly if none is earlier than a line before it by more than the window
pub record LateLinesAreTold : Type 0 where
  pub none : (window : ℤ) (lines : List Line) → IsWithin window lines
      → ((late_after_lines (first_lateness window) lines).count ≡ 0) × ((late_after_lines (first_lateness window) lines).first ≡ None)
  pub within : (window : ℤ) (lines : List Line) → (late_after_lines (first_lateness window) lines).count ≡ 0 → IsWithin window lines

-- no line is further from its place in the log than so many lines, behind so many lines in the order
abbrev pub AreNear : ℕ → ℕ → List Held → Type 0
AreNear most before [] = ⊤
AreNear most before (line ∷ lines) = (is_far most line.number (before + 1) ≡ false) × AreNear most (before + 1) lines

-- no line is far exactly if each line of a sorted log is at most so many lines from its place in the log
pub record FarLinesAreTold : Type 0 where
  pub none : (most : ℕ) (out : List Held) → AreNear most 0 out
      → ((far_after_lines (first_distance most) 0 out).count ≡ 0) × ((far_after_lines (first_distance most) 0 out).first ≡ None)
  pub near : (most : ℕ) (out : List Held) → (far_after_lines (first_distance most) 0 out).count ≡ 0 → AreNear most 0 out
