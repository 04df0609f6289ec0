-- The lines of an input that have no stamp.
use Rattle.std.specs.Prelude.{ℕ, ◌==◌, List, [], ◌∷◌, ℤ, Option, None, is_some}
use Rattle.std.specs.Option.{option_or}
use Rattle.line_devices.specs.Lines.{lines_of}
use Rattle.line_devices.specs.StampTallies.{kind_of, tally_of_kinds}
use Rattle.line_devices.specs.declared.stamp_tallies.LineKind.{LineKind}
use Rattle.line_devices.specs.declared.stamp_tallies.StampTally.{StampTally}
use Rattle.line_counts.specs.Counting.{Counting}
use Rattle.line_counts.specs.Counts.{one_more}

-- the kinds of lines, after so many lines, of which this is known and this is the last instant
unfoldable pub kinds_after : {M : Type 0} → Counting M → M → ℕ → Option ℤ → List (List ℕ) → List LineKind
kinds_after counting memory number last [] = []
kinds_after counting memory number last (line ∷ lines) =
    let own = counting.instant memory last (number == 0) line in
    let kind = kind_of line (is_some own) in
    kind ∷ kinds_after counting (counting.after memory (one_more number) kind line) (one_more number) (option_or own last) lines

-- the tally of an input: its lines, and those of them that have no instant
unfoldable pub stamp_tally : {M : Type 0} → Counting M → List ℕ → StampTally
stamp_tally counting input = tally_of_kinds (kinds_after counting counting.memory 0 None (lines_of input))
