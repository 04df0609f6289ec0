use Rattle.std.proofs.Common.{◌≡◌, ◌<◌, ap, arith, length}
use Rattle.line_merges.proofs.LineLemmas.{front_found, front_whole}
use Rattle.line_merges.proofs.logs.front_of.Goals as goal

pub returns-then-end-len : goal.returns-then-end-len
returns-then-end-len c =
    let bytes = c.args.buffer.now in
    let found = c.line_end-end.ensures in
    let low : c.line_end-end.result < length bytes = omega (arith, c.if-end-len.true, c.len.ensures, ap length found.same) in
    let front = front_found bytes c.line_end-end.result found.before low (found.byte_there low) in
    record { same = found.same; bound = omega arith; line = front.line; rest = front.rest; feed = front.feed_is }

pub returns-else-end-len : goal.returns-else-end-len
returns-else-end-len c =
    let bytes = c.args.buffer.now in
    let found = c.line_end-end.ensures in
    let all : c.line_end-end.result ≡ length bytes = omega (arith, c.if-end-len.false, c.len.ensures, ap length found.same, found.bound) in
    let front = front_whole bytes c.line_end-end.result found.before all in
    record { same = found.same; bound = found.bound; line = front.line; rest = front.rest; feed = front.feed_is }
