use Rattle.std.proofs.Common.{◌≡◌, ◌-◌, length, pos, false}
use Rattle.calendar_values.specs.Durations.{IsDuration}
use Rattle.duration_texts.specs.Reading.{terms_from}
use Rattle.duration_texts.proofs.terms.terms.Given as goal

-- the terms that are left, with the sum so far
abbrev pub invariant-loop : goal.invariant-loop
invariant-loop l = record {
  value : terms_from (length l.text - l.counter) l.negative l.sum l.rest ≡ terms_from (length l.text) false (pos 0) l.text;
  in_range : IsDuration l.sum;
}
