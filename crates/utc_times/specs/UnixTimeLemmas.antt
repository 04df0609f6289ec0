-- Results of Unix time: a value exactly if the instant is in range, and the same as one equation.
use Rattle.std.proofs.Common.{List, ℕ, ◌≡◌, sym, ap, ◌∙◌, arith, ℤ, ◌<ℤ◌, Result, Ok, Err, OkIff, IfErr}
use Rattle.std.proofs.lemmas.Int.{by_lt_z, ints}
use Rattle.calendar_values.specs.Refusals.{Refusal, outright_refusal}
use Rattle.calendar_values.specs.WallClock.{first_wall_clock, last_wall_clock, IsInstant}
use Rattle.utc_times.specs.UnixTime.{instant_or_refusal}

pub instant_or_refusal-in : (name : List ℕ) (i : ℤ) → IsInstant i → instant_or_refusal name i ≡ Ok i
unfolding instant_or_refusal
instant_or_refusal-in name i h = grind (arith, ints)

pub instant_or_refusal-before : (name : List ℕ) (i : ℤ) → i <ℤ first_wall_clock → instant_or_refusal name i ≡ Err (outright_refusal name)
unfolding instant_or_refusal
instant_or_refusal-before name i low = grind (arith, ints)

pub instant_or_refusal-after : (name : List ℕ) (i : ℤ) → last_wall_clock <ℤ i → instant_or_refusal name i ≡ Err (outright_refusal name)
unfolding instant_or_refusal
instant_or_refusal-after name i high = grind (arith, ints)

-- a result that is the instant exactly if it is in range, and else this error
pub OkIff-instant : (name : List ℕ) (r : Result ℤ Refusal) (i : ℤ) → OkIff r (IsInstant i) i →
    IfErr r (λ refusal. refusal ≡ outright_refusal name) → r ≡ instant_or_refusal name i
OkIff-instant name (Ok x) i h refused = ap Ok h.1 ∙ sym (instant_or_refusal-in name i h.0)
OkIff-instant name (Err refusal) i h refused =
    by_lt_z i first_wall_clock
    (λ low. ap Err refused ∙ sym (instant_or_refusal-before name i low))
    (λ first. by_lt_z last_wall_clock i
    (λ high. ap Err refused ∙ sym (instant_or_refusal-after name i high))
    (λ last. absurd (h (first, last))))

-- the same result for an equal number
pub OkIff-same : (r : Result ℤ Refusal) (i j : ℤ) → OkIff r (IsInstant i) i → i ≡ j → OkIff r (IsInstant j) j
OkIff-same r i j h e = rw (← e) h
