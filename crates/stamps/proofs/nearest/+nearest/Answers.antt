use Rattle.std.proofs.Common.{◌≡◌, ◌+◌, ◌-◌, ◌<◌, ◌≤◌, arith, drop, length, take}
use Rattle.stamps.specs.Nearest.{FitsNone, HasNoFit, IsLongest, tried_lines, tried_of}
use Rattle.stamps.proofs.NearestLemmas.{nearest_behind, nearest_here, rest_whole, tried_first, tried_none}
use Rattle.stamps.proofs.nearest.+nearest.Goals as goal

pub returns-then-end-head : goal.returns-then-end-head
returns-then-end-head t c =
    tried_none (4 - c.args.before) c.args.head.now c.place_of-end.result c.if-end-head.true c.place_of-end.ensures.before

pub returns-in-Some : goal.returns-in-Some
returns-in-Some t c =
    let before = c.args.before in
    let head = c.args.head.now in
    let end = c.place_of-end.result in
    let within : end < length head = omega (arith, c.place_of-end.ensures.bounds.1, c.if-end-head.false) in
    let some : before < 4 = omega (arith, c.requires, c.if-before-eq-MOST_LINES.false) in
    let lines = tried_first before head end some within c.place_of-end.ensures.before (c.place_of-end.ensures.byte_there within) in
    let one : before + 1 - before ≡ 1 = omega arith in
    let tried : c.min.result ≡ tried_of (take end head) = c.min.ensures in
    let longest = rw (c.in-Some.number-is, c.in-Some.rest-is) at c.in-Some.ensures in (
      omega arith,
      rw one (nearest_here (tried_lines (4 - before) head) (tried_lines (4 - (before + 1)) (drop (end + 1) head)) (take end head) c.in-Some.number
          c.in-Some.rest.now lines (rw tried at longest)),
    )

pub returns : goal.returns
returns t c =
    let before = c.args.before in
    let head = c.args.head.now in
    let end = c.place_of-end.result in
    let within : end < length head = omega (arith, c.place_of-end.ensures.bounds.1, c.if-end-head.false) in
    let some : before < 4 = omega (arith, c.requires, c.if-before-eq-MOST_LINES.false) in
    let lines = tried_first before head end some within c.place_of-end.ensures.before (c.place_of-end.ensures.byte_there within) in
    let tried : c.min.result ≡ tried_of (take end head) = c.min.ensures in
    let none : FitsNone (take end head) c.min.result = c.in_default.ensures in
    nearest_behind (λ near. near.line) (λ near. near.number) (λ near. near.rest.now) (tried_lines (4 - before) head)
    (tried_lines (4 - (before + 1)) (drop (end + 1) head)) (take end head) before c.nearest.result lines (rw tried at none)
    (rw (rest_whole head (end + 1)) at c.nearest.ensures)
