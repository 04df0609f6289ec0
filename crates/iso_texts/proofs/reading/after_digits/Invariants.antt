use Rattle.std.proofs.Common.{◌≡◌, length}
use Rattle.rfc3339.specs.Reading.{digits_at}
use Rattle.iso_texts.proofs.reading.after_digits.Given as goal

abbrev pub invariant-loop-more : goal.invariant-loop-more
invariant-loop-more l = record { value : digits_at 0 l.rest ≡ digits_at 0 l.text }

abbrev pub decreases-loop-more : goal.decreases-loop-more
decreases-loop-more l = length l.rest
