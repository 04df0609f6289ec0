use Rattle.std.proofs.Common.{◌≡◌, ◌≤◌, length}
use Rattle.format_descriptions.specs.Reading.{word_at}
use Rattle.format_descriptions.proofs.reading.after_word.Given as goal

-- the letters that are left are in the rest as the word is in the text
abbrev pub invariant-loop-letter : goal.invariant-loop-letter
invariant-loop-letter l = record {
  same : word_at l.fn.case l.word l.rest ≡ word_at l.fn.case l.fn.word l.fn.text;
  shorter : length l.rest ≤ length l.fn.text;
}

abbrev pub decreases-loop-letter : goal.decreases-loop-letter
decreases-loop-letter l = length l.word
