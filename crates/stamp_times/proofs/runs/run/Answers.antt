use Rattle.std.proofs.Common.{◌≡◌, ℕ, ◌+◌, ◌<◌, ◌≤◌, ℤ, List, [], ◌∷◌, ◌++◌, length, drop, get_or, append_assoc, rules, arith, add-one, sym, ap, ◌∙◌}
use Rattle.std.proofs.Math.Seq.{drop-cons}
use Rattle.std.proofs.lemmas.List.{append-nil, drop_all}
use Rattle.stamp_times.specs.Counter.{reply, instant_after, replies, last_instant}
use Rattle.stamp_times.specs.declared.runs.calls.Call.{Call}
use Rattle.stamp_times.specs.declared.runs.calls.Reply.{Reply}
use Rattle.stamp_times.proofs.runs.run.Goals as goal

rest : (calls : List Call) (k : ℕ) (call : Call) → k < length calls → call ≡ get_or calls k call → drop k calls ≡ call ∷ drop (k + 1) calls
rest calls k call below here = rw (add-one, drop-cons calls k call below, ← here)

replies-more : (old new all : List Reply) (i j : ℤ) (r : Reply) (calls : List Call) (k : ℕ) (call : Call) → k < length calls
    → call ≡ get_or calls k call → r ≡ reply i call → j ≡ instant_after i call → new ≡ old ++ r ∷ [] → old ++ replies i (drop k calls) ≡ all
    → new ++ replies j (drop (k + 1) calls) ≡ all
replies-more old new all i j r calls k call below here replied moved e h =
    rw (e, append_assoc, replied, moved) (rw (rest calls k call below here) at h)

last_instant-more : (i j last : ℤ) (calls : List Call) (k : ℕ) (call : Call) → k < length calls → call ≡ get_or calls k call
    → j ≡ instant_after i call → last_instant i (drop k calls) ≡ last → last_instant j (drop (k + 1) calls) ≡ last
last_instant-more i j last calls k call below here moved h = rw moved (rw (rest calls k call below here) at h)

-- no call is left
replies-all : (done all : List Reply) (i : ℤ) (calls : List Call) (k : ℕ) → length calls ≤ k → done ++ replies i (drop k calls) ≡ all → done ≡ all
replies-all done all i calls k end h =
    sym (append-nil done) ∙ ap (λ (rest : List Call). done ++ replies i rest) (sym (drop_all k calls end)) ∙ h

last_instant-all : (i last : ℤ) (calls : List Call) (k : ℕ) → length calls ≤ k → last_instant i (drop k calls) ≡ last → i ≡ last
last_instant-all i last calls k end h = ap (last_instant i) (sym (drop_all k calls end)) ∙ h

pub loop-call-preserved : goal.loop-call-preserved
loop-call-preserved g c = record {
  replied = replies-more _ _ _ _ _ _ _ _ _ c.loop-call-test.true c.call-item.is c.step-reply.ensures.reply c.step-reply.ensures.next
      c.put_in_room.ensures.items c.loop-call.invariant.replied;
  ends = last_instant-more _ _ _ _ _ _ c.loop-call-test.true c.call-item.is c.step-reply.ensures.next c.loop-call.invariant.ends;
  count = omega arith;
  room = omega arith;
}

pub returns-clause-replies : goal.returns-clause-replies
returns-clause-replies g c = replies-all _ _ _ c.args.calls.now c.loop-call.call-index (search rules) c.loop-call.invariant.replied

pub returns-clause-last : goal.returns-clause-last
returns-clause-last g c = last_instant-all _ _ c.args.calls.now c.loop-call.call-index (search rules) c.loop-call.invariant.ends
