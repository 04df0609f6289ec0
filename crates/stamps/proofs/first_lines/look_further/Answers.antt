use Rattle.std.proofs.Common.{◌≡◌, ◌∙◌, ◌++◌, ◌-◌, ◌<◌, List, Ok, ap, arith, inl, inr, length, sym, take, [], ℕ}
use Rattle.std.proofs.lemmas.Bool.Decides.{nat_tests}
use Rattle.std.proofs.lemmas.List.{append-nil}
use Rattle.stamps.specs.Ahead.{head_of}
use Rattle.stamps.proofs.FrontRunLemmas.{kept_same, kept_twice}
use Rattle.stamps.proofs.LeadingLemmas.{block_longer}
use Rattle.stamps.proofs.first_lines.look_further.Goals as goal

pub reads-init : goal.reads-init
reads-init g c =
    let block = take 65536 (head_of c.args.input.now) in
    let same : c.first_block.result.now ≡ block = c.first_block.ensures ∙ ap (take 65536) c.head.ensures in
    record {
      left = kept_same _;
      chooses = c.look_on-is_told.ensures.chooses;
      told = c.look_on-is_told.ensures.told;
      stands = λ first h. rw same at (c.look_on-is_told.ensures.stands first block [] (same ∙ sym (append-nil block)) h);
      all = λ not'. rw same at (c.look_on-is_told.ensures.all not');
      at_end = λ whole fault. inl whole;
    }

pub reads-preserved : goal.reads-preserved
reads-preserved g c =
    let old = head_of c.reads.input in
    let new = head_of c.read_on.new.self in
    let grown = c.in_ok-is_at_end.ensures.head in
    let low : length old < 65536 = rw c.head-then-not-is_at_end.ensures at c.if-head-lt-MOST_AHEAD.true in
    let same : c.first_block-in-reads.result.now ≡ take 65536 new = c.first_block-in-reads.ensures ∙ ap (take 65536) c.head-in-reads.ensures in
    let longer : take 65536 new ≡ take 65536 old ++ take (65536 - length old) grown.0 = ap (take 65536) grown.1 ∙ block_longer old grown.0 low in
    record {
      left = kept_twice _ _ _ c.reads.invariant.left c.in_ok-is_at_end.ensures.left;
      chooses = c.look_on-is_told-in-reads.ensures.chooses ∙ c.reads.invariant.chooses;
      told = c.look_on-is_told-in-reads.ensures.told;
      stands = λ first h. rw same at (c.look_on-is_told-in-reads.ensures.stands first (take 65536 old) (take (65536 - length old) grown.0)
          (same ∙ longer) (c.reads.invariant.stands first h));
      all = λ not'. rw same at (c.look_on-is_told-in-reads.ensures.all not');
      at_end = λ ended fault.
          let none : c.in_ok-is_at_end.field-0 ≡ 0 = grind (arith, nat_tests, ended) in
          inr (c.in_ok-is_at_end.ensures.end (ap (λ (z : ℕ). Ok z) none) fault);
    }

pub returns-then-is_at_end-clause-all : goal.returns-then-is_at_end-clause-all
returns-then-is_at_end-clause-all g c = λ not'. c.reads.invariant.all (c.reads.invariant.told ∙ not')

pub returns-else-is_at_end-clause-all : goal.returns-else-is_at_end-clause-all
returns-else-is_at_end-clause-all g c = λ not'. c.reads.invariant.all (c.reads.invariant.told ∙ not')
