use Rattle.std.proofs.Common.{◌≡◌, length, map, take}
use Rattle.std.specs.Prelude.{All}
use Rattle.stamps.specs.Leading.{IsWithin, line_at}
use Rattle.stamps.proofs.leading.Leading.look.Given as goal

-- the lines of the places so far
abbrev pub invariant-spans : goal.invariant-spans
invariant-spans l = record {
  count : length l.lines ≡ 16;
  same : All (IsWithin l.head) l.spans → map (λ line. line.now) (take l.k l.lines) ≡ map (line_at l.head) (take l.k l.spans);
}
