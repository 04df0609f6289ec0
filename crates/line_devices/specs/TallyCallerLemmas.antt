-- Tallies for callers that count the lines of an input one after another.
use Rattle.std.proofs.Common.{◌≡◌, sym, ◌∙◌, ap, ap₂, arith, ℕ, ◌+◌, List, [], ◌∷◌, ◌++◌, length}
use Rattle.std.specs.List.{count_by}
use Rattle.line_devices.specs.StampTallies.{as_count, is_bare, one_more_count, tally_after, tally_of_kinds}
use Rattle.line_devices.specs.StampTallyLemmas.{tally_of_kinds-nil, tally_of_kinds-push}
use Rattle.line_devices.specs.declared.stamp_tallies.LineKind.{LineKind}
use Rattle.line_devices.specs.declared.stamp_tallies.StampTally.{StampTally}

-- one more line, by the number of the lines before it
pub tally_of_kinds-next : (tally : StampTally) (lines : ℕ) (kinds : List LineKind) (kind : LineKind) → tally ≡ tally_of_kinds kinds
    → lines ≡ as_count (length kinds) → tally_after tally (one_more_count lines) kind ≡ tally_of_kinds (kinds ++ kind ∷ [])
tally_of_kinds-next tally lines kinds kind is number =
    let next : one_more_count lines ≡ as_count (length kinds + 1) = omega (arith, number) in
    ap₂ (λ (z : StampTally) (n : ℕ). tally_after z n kind) is next ∙ sym (tally_of_kinds-push kinds kind)

-- the lines of text without a stamp
pub tally_of_kinds-missing : (tally : StampTally) (kinds : List LineKind) → tally ≡ tally_of_kinds kinds
    → tally.missing ≡ as_count (count_by is_bare kinds)
unfolding tally_of_kinds
tally_of_kinds-missing tally kinds is = ap (λ (z : StampTally). z.missing) is

-- the rules that callers name
pub ruleset tallies = (tally_of_kinds-missing, tally_of_kinds-next, tally_of_kinds-nil)
