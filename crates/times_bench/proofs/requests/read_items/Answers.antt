use Rattle.std.proofs.Common.{rules, Some, append-nil, arith, [], ◌∷◌, length, length-append, ◌≡◌, ◌∙◌, sym, ap, None}
use Rattle.times_bench.specs.Words.{words_left, all_of}
use Rattle.times_bench.proofs.RequestLemmas.{items-next, length-words}
use Rattle.times_bench.proofs.requests.read_items.Goals as goal

pub returns-in_err-read : goal.returns-in_err-read
unfolding all_of
returns-in_err-read g c =
    let cut = ap words_left c.in-Some.is ∙ c.cut_at.ensures in
    rw c.from_residual.ensures (sym (rw (cut, ← c.in_err-read.ensures.value) at c.words.invariant.so_far))

pub words-smaller : goal.words-smaller
words-smaller g c = rw c.in-Some.is (omega (arith, length-words c.in-Some.text.now c.cut_at.result.0.now c.cut_at.result.1 c.cut_at.ensures))

pub words-preserved : goal.words-preserved
unfolding all_of
words-preserved g c =
    let item = c.in_ok-read.field-0 in
    let cut = ap words_left c.in-Some.is ∙ c.cut_at.ensures in
    let room = rw c.in-Some.is at c.words.invariant.room in
    let parts = length-words c.in-Some.text.now c.cut_at.result.0.now c.cut_at.result.1 c.cut_at.ensures in
    let long = c.in_ok-read.ensures.three_bytes in
    record {
      so_far = rw c.push.ensures ((rw (cut, ← c.in_ok-read.ensures.value) at c.words.invariant.so_far) ∙ items-next c.words.items item _);
      room = omega (arith, ap length c.push.ensures, length-append c.words.items (item ∷ []));
    }

pub returns : goal.returns
unfolding all_of
returns g c =
    let none : c.words.left ≡ None = search rules in
    sym ((rw none at c.words.invariant.so_far) ∙ ap Some (append-nil c.words.items))
