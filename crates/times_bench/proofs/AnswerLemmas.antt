-- What a line is answered with.
use Rattle.std.proofs.Common.{◌≡◌, ℕ, ℤ, ◌+◌, ◌<◌, List, ◌∷◌, ◌++◌, length, drop, get_or, flat_map, codes, append_assoc, add-one}
use Rattle.std.proofs.Common.{sym, ap, ◌∙◌, ◌≤◌, append-nil, arith, length-append}
use Rattle.std.proofs.Math.Seq.{drop-cons}
use Rattle.std.proofs.lemmas.List.{drop_all}
use Rattle.stamp_times.specs.Counter.{reply, instant_after, replies, last_instant}
use Rattle.stamp_times.specs.declared.runs.calls.Call.{Call}
use Rattle.stamp_times.specs.declared.runs.calls.Reply.{Reply}
use Rattle.times_bench.specs.Progress.{HasRoom}
use Rattle.times_bench.specs.ReplyTexts.{reply_text}

-- the text of a reply, as it is put
abbrev pub ended : Reply → List ℕ
ended reply = reply_text reply ++ codes "; "

-- the replies to the calls from a place on
abbrev pub told : ℤ → List Call → ℕ → List ℕ
told i calls k = flat_map ended (replies i (drop k calls))

rest : (calls : List Call) (k : ℕ) (call : Call) → k < length calls → call ≡ get_or calls k call → drop k calls ≡ call ∷ drop (k + 1) calls
rest calls k call below here = rw (add-one, drop-cons calls k call below, ← here)

-- a call more
pub told-more : (old new all : List ℕ) (i j : ℤ) (calls : List Call) (k : ℕ) (call : Call) → k < length calls → call ≡ get_or calls k call
    → j ≡ instant_after i call → new ≡ old ++ ended (reply i call) → old ++ told i calls k ≡ all → new ++ told j calls (k + 1) ≡ all
told-more old new all i j calls k call below here moved e h =
    rw (e, append_assoc, moved) (rw (rest calls k call below here) at h)

pub last_instant-more : (i j last : ℤ) (calls : List Call) (k : ℕ) (call : Call) → k < length calls → call ≡ get_or calls k call
    → j ≡ instant_after i call → last_instant i (drop k calls) ≡ last → last_instant j (drop (k + 1) calls) ≡ last
last_instant-more i j last calls k call below here moved h = rw moved (rw (rest calls k call below here) at h)

-- no call is left
pub told-all : (done all : List ℕ) (i : ℤ) (calls : List Call) (k : ℕ) → length calls ≤ k → done ++ told i calls k ≡ all → done ≡ all
told-all done all i calls k end h =
    sym (append-nil done) ∙ ap (λ (rest : List Call). done ++ flat_map ended (replies i rest)) (sym (drop_all k calls end)) ∙ h

pub last_instant-all : (i last : ℤ) (calls : List Call) (k : ℕ) → length calls ≤ k → last_instant i (drop k calls) ≡ last → i ≡ last
last_instant-all i last calls k end h = ap (last_instant i) (sym (drop_all k calls end)) ∙ h

-- replies have room where an answer has, and so has the end behind them
pub replies_fit : (pending replies : List ℕ) (count : ℕ) → HasRoom pending → count ≤ 16_384 → count ≡ length replies
    → length pending + length replies ≤ 65_536
replies_fit pending replies count room few e = omega (arith, room, few, e)

pub end_fits : (pending replies : List ℕ) (count : ℕ) → HasRoom pending → count ≤ 16_384 → count ≡ length replies
    → length (pending ++ replies) + 64 ≤ 65_536
end_fits pending replies count room few e = omega (arith, room, few, e, length-append pending replies)

pub answer_fits : (pending replies : List ℕ) (count all : ℕ) → HasRoom pending → count ≤ 16_384 → count ≡ length replies
    → all ≤ length (pending ++ replies) + 64 → all < 65_536
answer_fits pending replies count all room few e most = omega (arith, room, few, e, most, length-append pending replies)
