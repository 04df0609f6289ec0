use Rattle.std.proofs.Common.{◌≡◌, ◌∙◌, ◌<◌, [], List, ℕ, arith, length, sym}
use Rattle.std.proofs.lemmas.Bool.{false≢true}
use Rattle.std.proofs.lemmas.Bool.Decides.{nat_tests}
use Rattle.std.proofs.lemmas.Grind.{common_steps}
use Rattle.std.proofs.lemmas.Result.{on_ok_weaker}
use Rattle.stamps.proofs.FrontRunLemmas.{ends_begun, ends_none, ends_open}
use Rattle.stamps.specs.FrontRuns.{text_of}
use Rattle.stamps.proofs.fronted.Fronts.end.Goals as goal

none_of : (items : List ℕ) (len : ℕ) → len ≡ 0 → length items ≡ len → items ≡ []
none_of items len zero same = grind (arith, common_steps)

pub returns-then-self : goal.returns-then-self
unfolding text_of
returns-then-self c =
    let self = c.args.self.now in
    record {
      text = λ short. ends_open c.args.turning.now self.known self.is_open self.head.items self.ready.items c.if-self.true;
      short = λ short. short;
    }

pub returns-then-is_empty : goal.returns-then-is_empty
unfolding text_of
returns-then-is_empty c =
    let self = c.args.self.now in
    record {
      text = λ short. ends_none c.args.turning.now self.known self.is_open self.head.items self.ready.items c.if-self.false
          (none_of self.head.items self.head.len (grind (arith, nat_tests, c.if-is_empty.ensures)) (omega (arith, self.head.ok)));
      short = λ short. short;
    }

pub returns : goal.returns
unfolding text_of
returns c =
    let self = c.args.self.now in
    let new = c.begin_line.new.self in
    let same : length self.head.items ≡ self.head.len = omega (arith, self.head.ok) in
    let some : 0 < self.head.len = grind (arith, nat_tests, c.if-is_empty.ensures) in
    record {
      text = on_ok_weaker c.begin_line.result (λ e short. ends_begun c.args.turning.now self.known self.is_open self.head.items self.ready.items
          new.ready.items c.if-self.false (omega (arith, same, some)) (short c.if-self.false) e) c.begin_line.ensures.ready;
      short = on_ok_weaker c.begin_line.result (λ e short closed. absurd (false≢true (sym closed ∙ e))) c.begin_line.ensures.open;
    }
