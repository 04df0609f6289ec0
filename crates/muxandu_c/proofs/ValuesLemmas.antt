-- A batch goes on: one more value, an item that is refused, and the end of the items.
use Rattle.std.proofs.Common.{◌≡◌, ℕ, ◌+◌, ◌<◌, ◌≤◌, List, [], ◌∷◌, ◌++◌, length, take, drop, get_or, set}
use Rattle.std.proofs.Common.{Result, Ok, Err, refl, subst, sym, ◌∙◌, ap, arith, inl, inr}
use Rattle.std.proofs.lemmas.List.{drop_more, take_more_set, drop_all, append-nil, append_assoc, drop-set-lt, drop-drop}
use Rattle.muxandu_c.specs.Answers.{status_number}
use Rattle.muxandu_c.specs.Batches.{AreValuesOf}
use Rattle.muxandu_c.specs.declared.refused.Refused.{Refused}

-- the values so far go before those of the items that are left
abbrev pub GoBefore : {A B : Type 0} → (A → Result B Refused → Type 0) → List A → ℕ → List B → Type 0
GoBefore {A} {B} Answers xs k done =
    (values : List B) (status : ℕ) → AreValuesOf Answers (drop k xs) values status → AreValuesOf Answers xs (done ++ values) status

-- no items have no values
none_left : {A B : Type 0} (Answers : A → Result B Refused → Type 0) (xs : List A) → xs ≡ [] → AreValuesOf Answers xs [] 0
unfolding AreValuesOf
none_left Answers [] is = (refl, refl)
none_left Answers (x ∷ xs) is = absurd cc

-- all items have their values
pub all_done : {A B : Type 0} (Answers : A → Result B Refused → Type 0) (xs : List A) (k : ℕ) (done : List B)
    → length xs ≤ k → GoBefore Answers xs k done → AreValuesOf Answers xs done 0
all_done {A} {B} Answers xs k done end before =
    subst (λ (z : List B). AreValuesOf Answers xs z 0) (append-nil done) (before [] 0 (none_left Answers (drop k xs) (drop_all k xs end)))

-- the next item is refused
first_refused : {A B : Type 0} (Answers : A → Result B Refused → Type 0) (x : A) (xs : List A) (refusal : Refused)
    → Answers x (Err refusal) → AreValuesOf Answers (x ∷ xs) [] (status_number refusal)
unfolding AreValuesOf
first_refused Answers x xs refusal h = inl (refusal, h, refl, refl)

pub next_refused : {A B : Type 0} (Answers : A → Result B Refused → Type 0) (xs : List A) (k : ℕ) (d : A) (done : List B) (refusal : Refused)
    → k < length xs → Answers (get_or xs k d) (Err refusal) → GoBefore Answers xs k done → AreValuesOf Answers xs done (status_number refusal)
next_refused {A} {B} Answers xs k d done refusal low h before =
    let stops : AreValuesOf Answers (drop k xs) [] (status_number refusal) =
    subst (λ (z : List A). AreValuesOf Answers z [] (status_number refusal)) (sym (drop_more xs k d low)) (first_refused Answers _ _ refusal h) in
    subst (λ (z : List B). AreValuesOf Answers xs z (status_number refusal)) (append-nil done) (before [] _ stops)

-- the next item has a value
first_value : {A B : Type 0} (Answers : A → Result B Refused → Type 0) (x : A) (xs : List A) (value : B) (rest : List B) (status : ℕ)
    → Answers x (Ok value) → AreValuesOf Answers xs rest status → AreValuesOf Answers (x ∷ xs) (value ∷ rest) status
unfolding AreValuesOf
first_value Answers x xs value rest status h more = inr (value, rest, h, refl, more)

pub next_value : {A B : Type 0} (Answers : A → Result B Refused → Type 0) (xs : List A) (k : ℕ) (d : A) (out : List B) (value : B)
    → k < length xs → k < length out → Answers (get_or xs k d) (Ok value) → GoBefore Answers xs k (take k out)
    → GoBefore Answers xs (k + 1) (take (k + 1) (set out k value))
next_value {A} {B} Answers xs k d out value low room h before = λ values status more.
    let goes_on : AreValuesOf Answers (drop k xs) (value ∷ values) status =
    subst (λ (z : List A). AreValuesOf Answers z (value ∷ values) status) (sym (drop_more xs k d low)) (first_value Answers _ _ value values status h more) in
    let front : take k out ++ (value ∷ values) ≡ take (k + 1) (set out k value) ++ values =
    sym (ap (λ (z : List B). z ++ values) (take_more_set out k value room) ∙ append_assoc (take k out) (value ∷ []) values) in
    subst (λ (z : List B). AreValuesOf Answers xs z status) front (before (value ∷ values) status goes_on)

-- what is behind the next value is as it was
pub behind_next : {B : Type 0} (out initial : List B) (k : ℕ) (value : B)
    → drop k out ≡ drop k initial → drop (k + 1) (set out k value) ≡ drop (k + 1) initial
behind_next {B} out initial k value behind =
    drop-set-lt (k + 1) out k value (omega arith) ∙ sym (drop-drop 1 k out) ∙ ap (λ (z : List B). drop 1 z) behind ∙ drop-drop 1 k initial
