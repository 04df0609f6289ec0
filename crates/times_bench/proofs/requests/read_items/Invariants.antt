use Rattle.std.proofs.Common.{◌≤◌, ◌+◌, ◌*◌, length}
use Rattle.times_bench.specs.Words.{words_left, all_of}
use Rattle.times_bench.proofs.RequestLemmas.{AllSoFar, room_left}
use Rattle.times_bench.proofs.requests.read_items.Given as goal

abbrev pub invariant-words : goal.invariant-words
invariant-words g l =
    let read = g.T.LineWord.reading in
    record {
      so_far : AllSoFar read (all_of read (words_left l.words)) l.items (words_left l.left);
      room : 4 * length l.items + room_left l.left ≤ 1024;
    }

abbrev pub decreases-words : goal.decreases-words
decreases-words g l = room_left l.left
