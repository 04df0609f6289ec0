use Rattle.std.proofs.Common.{◌≡◌, ◌≤◌, length}
use Rattle.format_descriptions.specs.Rfc2822.{past_blanks}
use Rattle.format_descriptions.proofs.rfc2822.after_blanks.Given as goal

-- what follows the white space of the rest follows that of the text
abbrev pub invariant-loop-first : goal.invariant-loop-first
invariant-loop-first l = record {
  same : past_blanks l.rest ≡ past_blanks l.fn.text;
  shorter : length l.rest ≤ length l.fn.text;
}

abbrev pub decreases-loop-first : goal.decreases-loop-first
decreases-loop-first l = length l.rest
