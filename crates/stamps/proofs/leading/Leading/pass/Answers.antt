use Rattle.std.proofs.Common.{arith, true}
use Rattle.stamps.specs.Leading.{Looked, ended_lines}
use Rattle.stamps.proofs.LeadingLemmas.{stands_empty, stands_line}
use Rattle.stamps.proofs.leading.Leading.pass.Goals as goal

pub returns-then-end-self-clause-stands : goal.returns-then-end-self-clause-stands
returns-then-end-self-clause-stands c = λ first not' h.
    stands_empty c.args.reader.now first c.args.end c.args.head.now c.args.self.now h c.if-end-self.true c.requires.within c.requires.none
    c.requires.feed

pub returns-clause-stands : goal.returns-clause-stands
returns-clause-stands c = λ first not' h.
    let self = c.args.self.now in
    let head = c.args.head.now in
    let looked : Looked c.args.reader.now head (ended_lines first self.from head) (record self { has_text = true }) = record {
      is_refused = h.looked.is_refused;
      is_told = h.looked.is_told;
      found = h.looked.found;
      within = h.looked.within;
      first = h.looked.first;
    } in
    stands_line c.args.reader.now first self.from c.args.end head c.take.new.self h.low (omega (arith, c.requires.low, c.if-end-self.false))
    c.requires.within c.requires.none c.requires.feed h.cut
    c.take.ensures.has_text
    (c.take.ensures.looked (ended_lines first self.from head) not' looked)
