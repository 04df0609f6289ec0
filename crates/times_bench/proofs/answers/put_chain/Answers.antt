use Rattle.std.proofs.Common.{rules, refl, append_assoc, w64}
use Rattle.std.proofs.lemmas.Int.{to_z-of_z}
use Rattle.times_bench.specs.Answers.{chain_text, chain_answer}
use Rattle.times_bench.proofs.answers.put_chain.Goals as goal

pub returns-in-Ok-chain-clause-answer : goal.returns-in-Ok-chain-clause-answer
unfolding chain_answer chain_text
returns-in-Ok-chain-clause-answer c =
    let known = rw (to_z-of_z w64 c.in-Some.second (search rules)) at c.new.ensures.equation in
    let arrived = c.in-Ok-chain.ensures in
    rw (c.put_held.ensures.text, ← c.in-Some.ensures, ← known, c.in-Ok.is, ← c.items.ensures.value, ← c.held_start.ensures, arrived.arrived, arrived.held)
    refl

pub returns-in-Err-chain-clause-answer : goal.returns-in-Err-chain-clause-answer
unfolding chain_answer chain_text
returns-in-Err-chain-clause-answer c =
    let known = rw (to_z-of_z w64 c.in-Some.second (search rules)) at c.new.ensures.equation in
    let stopped = c.in-Err-chain.ensures in
    rw (c.put_held-in-Err-chain.ensures.text, c.put_text.ensures.text, c.stopped_text.ensures, ← c.in-Some.ensures)
    (rw (← known, c.in-Ok.is, ← c.items.ensures.value, ← c.held_start.ensures, stopped.stopped, stopped.kept) (simp append_assoc refl))

pub returns-in-Err-clause-answer : goal.returns-in-Err-clause-answer
unfolding chain_answer
returns-in-Err-clause-answer c =
    let known = rw (to_z-of_z w64 c.in-Some.second (search rules)) at c.new.ensures.equation in
    rw (c.put_text-in-Err.ensures.text, c.refused_text.ensures.text, ← c.in-Some.ensures, ← known, c.in-Err.is) refl
