-- One more step of a chain of conversions.
use Rattle.std.proofs.Common.{◌≡◌, ℕ, ◌+◌, ◌<◌, ℤ, List, [], ◌∷◌, ◌++◌, Option, Some, None, SomeIff, length, take, drop, get_or, sym}
use Rattle.std.proofs.Common.{ap, ◌∙◌, refl, arith, add-one, option_map, Bool, true, false, if◌then◌else◌, suc, IsSome}
use Rattle.std.proofs.Math.Seq.{drop-cons}
use Rattle.std.proofs.lemmas.List.{take_more}
use Rattle.calendar_values.specs.WallClock.{IsWallClock}
use Rattle.offset_times.specs.InstantLemmas.{instant_of-local_at}
use Rattle.plain_times.specs.SumLemmas.{wall_clock_if_any-in, wall_clock_if_any-SomeIff}
use Rattle.stamp_times.specs.Laws.{ChainsCompose, stop_of_both}
use Rattle.stamp_times.specs.Travel.{held_instant, shown_by, holds, held_by, stop_index, held_after}
use Rattle.stamp_times.specs.declared.chains.steps.Held.{Held}
use Rattle.stamp_times.specs.declared.chains.steps.Step.{Step}
use Rattle.stamp_times.specs.declared.chains.steps.Step.TheVariants.{ToStamp, ToUtc, ToOffset}

-- a place counted from k on
abbrev pub later : ℕ → Option ℕ → Option ℕ
later k place = option_map (λ n. n + k) place

-- a step keeps the instant
pub held_instant-held_by : (step : Step) (i : ℤ) → held_instant (held_by step i) ≡ i
held_instant-held_by ToStamp i = refl
held_instant-held_by ToUtc i = refl
held_instant-held_by (ToOffset o) i = instant_of-local_at i o

pub held_instant-kept : (next : Held) (step : Step) (i : ℤ) → next ≡ held_by step i → held_instant next ≡ i
held_instant-kept next step i e = ap held_instant e ∙ held_instant-held_by step i

later-later : (k : ℕ) (place : Option ℕ) → later k (later 1 place) ≡ later (k + 1) place
later-later k None = refl
later-later k (Some n) = let e : (n + 1) + k ≡ n + (k + 1) = omega arith in rw e refl

-- steps after steps
held_after-append : (held : Held) (i : ℤ) (first rest : List Step) → held_after held i (first ++ rest) ≡ held_after (held_after held i first) i rest
held_after-append held i [] rest = refl
held_after-append held i (step ∷ first) rest = held_after-append (held_by step i) i first rest

stop_of_both-none : (stop : Option ℕ) → stop_of_both None 0 stop ≡ stop
stop_of_both-none None = refl
stop_of_both-none (Some k) = let e : k + 0 ≡ k = omega arith in rw e refl

stop_of_both-one_on : (is_held : Bool) (first : Option ℕ) (steps : ℕ) (stop : Option ℕ)
    → (if is_held then later 1 (stop_of_both first steps stop) else Some 0) ≡ stop_of_both (if is_held then later 1 first else Some 0) (suc steps) stop
stop_of_both-one_on false first steps stop = refl
stop_of_both-one_on true (Some k) steps stop = refl
stop_of_both-one_on true None steps None = refl
stop_of_both-one_on true None steps (Some k) = let e : (k + steps) + 1 ≡ k + suc steps = omega arith in rw e refl

stop_index-append : (i : ℤ) (first rest : List Step) → stop_index i (first ++ rest) ≡ stop_of_both (stop_index i first) (length first) (stop_index i rest)
stop_index-append i [] rest = sym (stop_of_both-none (stop_index i rest))
stop_index-append i (step ∷ first) rest =
    ap (λ stop. if holds step i then later 1 stop else Some 0) (stop_index-append i first rest)
    ∙ stop_of_both-one_on (holds step i) (stop_index i first) (length first) (stop_index i rest)

pub chains-compose : ChainsCompose
chains-compose = record { stop = stop_index-append; held = held_after-append }

travel-on : (i : ℤ) (step : Step) (steps : List Step) → IsWallClock (shown_by step i) → stop_index i (step ∷ steps) ≡ later 1 (stop_index i steps)
travel-on i step steps h = rw (wall_clock_if_any-in (shown_by step i) h) refl

travel-stopped : (i : ℤ) (step : Step) (steps : List Step) → SomeIff None (IsWallClock (shown_by step i)) (held_by step i)
    → stop_index i (step ∷ steps) ≡ Some 0
travel-stopped i step steps h = rw (sym (wall_clock_if_any-SomeIff None (shown_by step i) h)) refl

rest : (steps : List Step) (k : ℕ) (step : Step) → k < length steps → step ≡ get_or steps k step → drop k steps ≡ step ∷ drop (k + 1) steps
rest steps k step below here = rw (add-one, drop-cons steps k step below, ← here) refl

pub held_after-more : (start next : Held) (i : ℤ) (steps : List Step) (k : ℕ) (step : Step) → k < length steps → step ≡ get_or steps k step →
    next ≡ held_by step i → next ≡ held_after start i (take (k + 1) steps)
held_after-more start next i steps k step below here e = rw (take_more steps k step below, ← here, held_after-append) e

pub travel-more : (i : ℤ) (steps : List Step) (k : ℕ) (step : Step) → k < length steps → step ≡ get_or steps k step → IsWallClock (shown_by step i) →
    stop_index i steps ≡ later k (stop_index i (drop k steps)) → stop_index i steps ≡ later (k + 1) (stop_index i (drop (k + 1) steps))
travel-more i steps k step below here h so =
    rw (rest steps k step below here, travel-on i step (drop (k + 1) steps) h, later-later k (stop_index i (drop (k + 1) steps))) at so

pub travel-ends : (i : ℤ) (steps : List Step) (k : ℕ) (step : Step) → k < length steps → step ≡ get_or steps k step →
    SomeIff None (IsWallClock (shown_by step i)) (held_by step i) → stop_index i steps ≡ later k (stop_index i (drop k steps)) → stop_index i steps ≡ Some k
travel-ends i steps k step below here h so =
    let from_here : 0 + k ≡ k = omega arith in
    rw (rest steps k step below here, travel-stopped i step (drop (k + 1) steps) h, from_here) at so

-- what the last step leads to
pub held_after-last : (start next : Held) (i : ℤ) (steps rest : List Step) (last : Step) → steps ≡ rest ++ last ∷ [] → next ≡ held_by last i →
    next ≡ held_after start i steps
held_after-last start next i steps rest last e is = is ∙ sym (rw e (held_after-append start i rest (last ∷ [])))

pub held_by-some : (found : Option Held) (next : Held) (i : ℤ) (step : Step) → SomeIff found (IsWallClock (shown_by step i)) (held_by step i) →
    found ≡ Some next → next ≡ held_by step i
held_by-some found next i step h e = (rw e at h).1

pub held_by-is_some : (found : Option Held) (i : ℤ) (step : Step) → IsWallClock (shown_by step i) →
    SomeIff found (IsWallClock (shown_by step i)) (held_by step i) → IsSome found
held_by-is_some None i step in_range h = absurd (h in_range)
held_by-is_some (Some next) i step in_range h = refl
