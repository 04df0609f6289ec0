-- An instant that the range has is what its count comes to.
use Rattle.std.proofs.Common.{◌≡◌, ℕ, ℤ, List, Ok, Err, OkIff, ap}
use Rattle.calendar_values.specs.Outcomes.{Gives, Outcome, within, answer_within}
use Rattle.calendar_values.specs.Refusals.{Refusal}
use Rattle.calendar_values.specs.WallClock.{IsWallClock}
use Rattle.utc_times.specs.UnixTime.{instant_outcome}
use Rattle.utc_times.specs.UnixTimeLemmas.{OkIff-instant}

pub Gives-instant : (name : List ℕ) (v i : ℤ) → IsWallClock i → v ≡ i → Gives (Ok v) (instant_outcome name i)
Gives-instant name v i within e =
    let value : OkIff {E = Refusal} (Ok v) (IsWallClock i) i = (within, e) in
    record { value = value; refused = tt; equation = OkIff-instant name (Ok v) i value tt }

-- what a part gives is put in its place, and its refusal is the refusal of the whole
pub Gives-accepted : {S T : Type 0} (put : S → T) (outcome : Outcome S) (v : S) → Gives (Ok v) outcome → Gives (Ok (put v)) (within put outcome)
Gives-accepted put outcome v h = record { value = (h.value.0, ap put h.value.1); refused = tt; equation = ap (answer_within put) h.equation }

pub Gives-refused : {S T : Type 0} (put : S → T) (outcome : Outcome S) (r : Refusal) → Gives (Err r) outcome → Gives (Err r) (within put outcome)
Gives-refused put outcome r h = record { value = h.value; refused = h.refused; equation = ap (answer_within put) h.equation }
