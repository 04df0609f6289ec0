use Rattle.std.proofs.Common.{◌≡◌, ◌+◌, ◌-◌, List, ℕ, cond, false, length, take, true}
use Rattle.std.specs.Prelude.{◌⊎◌}
use Rattle.std.specs.Io.KnownBytes.{IsAtEnd, Keeps}
use Rattle.line_devices.specs.LineParts.{HasNone}
use Rattle.stamps.specs.Ahead.{has_fault, head_of, inner_of, left_of}
use Rattle.stamps.specs.Leading.{Stands}
use Rattle.stamps.proofs.first_lines.look_further.Given as goal

-- what is known of the lines of the bytes that were read ahead
abbrev pub invariant-reads : goal.invariant-reads
invariant-reads g l = record {
  left : Keeps (left_of g.R.Read.remaining l.fn.input) (left_of g.R.Read.remaining l.input);
  chooses : l.lines.chooses ≡ l.fn.lines.chooses;
  told : l.is_told ≡ l.lines.is_told;
  stands : (first : ℕ) → Stands l.reader first (take 65536 (head_of l.fn.input)) l.fn.lines
      → Stands l.reader first (take 65536 (head_of l.input)) l.lines;
  all : l.is_told ≡ false → HasNone 10 (take 65536 (head_of l.input)) l.lines.from (length (take 65536 (head_of l.input)));
  at_end : l.is_at_end ≡ true → has_fault l.input ≡ false
      → (l.is_whole ≡ true) ⊎ IsAtEnd (g.R.Read.remaining (inner_of l.input));
}

abbrev pub decreases-reads : goal.decreases-reads
decreases-reads g l = (65536 - length (head_of l.input)) + cond l.is_at_end 0 1
