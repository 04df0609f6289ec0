use Rattle.std.proofs.Common.{◌==◌, ◌≤◌, ◌+◌, ◌-◌, ℤ, length, true}
use Rattle.line_devices.specs.Lines.{pieces_of}
use Rattle.stamps.specs.FirstYears.{IsFirstYear, SameInYears}
use Rattle.stamps.proofs.FirstYearLemmas.{left_from}
use Rattle.stamps.proofs.first_years.first_year.Given as goal

-- the lines before this place have no year
abbrev pub invariant-lines : goal.invariant-lines
invariant-lines l = record {
  same : SameInYears l.fn.reader l.reader;
  within : l.from ≤ length l.head + 1;
  left : (other year : ℤ) → IsFirstYear l.fn.reader (l.from == 0) (left_from l.head l.from) l.bound l.top other year
      → IsFirstYear l.fn.reader true (pieces_of l.head) l.bound l.top other year;
}

abbrev pub decreases-lines : goal.decreases-lines
decreases-lines l = length l.head + 1 - l.from
