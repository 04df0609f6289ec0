use Rattle.std.proofs.Common.{◌≡◌, ◌+◌, ◌≤◌, false, length}
use Rattle.format_descriptions.specs.Rfc2822.{are_comments}
use Rattle.format_descriptions.proofs.rfc2822.are_comments.Given as goal

-- the rest is of comments as the text is, and has fewer bytes than brackets are open
abbrev pub invariant-loop-first : goal.invariant-loop-first
invariant-loop-first l = record {
  same : are_comments l.is_quoted l.depth l.rest ≡ are_comments false 0 l.fn.text;
  within : l.depth + length l.rest ≤ length l.fn.text;
}

abbrev pub decreases-loop-first : goal.decreases-loop-first
decreases-loop-first l = length l.rest
