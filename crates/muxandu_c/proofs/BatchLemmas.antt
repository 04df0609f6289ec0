-- The values of a batch, item by item: one more value, an item that is refused, and the end of the items.
use Rattle.std.proofs.Common.{◌≡◌, ℕ, ◌+◌, ◌<◌, ◌≤◌, List, [], ◌∷◌, ◌++◌, length, take, drop, get_or, set, Result, Ok, Err, refl, sym, ap, ◌∙◌}
use Rattle.std.proofs.lemmas.List.{drop_more, drop_all, take_more_set, append-nil, append_assoc, take-append-drop, length-take-le}
use Rattle.muxandu_c.specs.Answers.{status_number}
use Rattle.muxandu_c.specs.Batches.{values_of, status_of_items}
use Rattle.muxandu_c.specs.declared.refused.Refused.{Refused}

-- an item that is refused, with which the values end
pub values_of-refused : {A B : Type 0} (f : A → Result B Refused) (items : List A) (k : ℕ) (d : A) (done : List B) (refusal : Refused)
    → k < length items → Err refusal ≡ f (get_or items k d) → done ++ values_of f (drop k items) ≡ values_of f items → done ≡ values_of f items
values_of-refused {A} {B} f items k d done refusal low e before =
    let none : values_of f (drop k items) ≡ [] = rw (drop_more items k d low, ← e) refl in
    sym (append-nil done) ∙ ap (λ (rest : List B). done ++ rest) (sym none) ∙ before

pub status_of_items-refused : {A B : Type 0} (f : A → Result B Refused) (items : List A) (k : ℕ) (d : A) (refusal : Refused)
    → k < length items → Err refusal ≡ f (get_or items k d) → status_of_items f (drop k items) ≡ status_of_items f items
    → status_number refusal ≡ status_of_items f items
status_of_items-refused f items k d refusal low e before =
    let last : status_of_items f (drop k items) ≡ status_number refusal = rw (drop_more items k d low, ← e) refl in
    sym last ∙ before

-- no item is left
pub values_of-all : {A B : Type 0} (f : A → Result B Refused) (items : List A) (k : ℕ) (done : List B)
    → length items ≤ k → done ++ values_of f (drop k items) ≡ values_of f items → done ≡ values_of f items
values_of-all {A} {B} f items k done end before =
    let none : values_of f (drop k items) ≡ [] = ap (values_of f) (drop_all k items end) in
    sym (append-nil done) ∙ ap (λ (rest : List B). done ++ rest) (sym none) ∙ before

pub status_of_items-all : {A B : Type 0} (f : A → Result B Refused) (items : List A) (k : ℕ)
    → length items ≤ k → status_of_items f (drop k items) ≡ status_of_items f items → 0 ≡ status_of_items f items
status_of_items-all f items k end before = sym (ap (status_of_items f) (drop_all k items end)) ∙ before

-- one more value, put behind those that were there
pub values_of-more : {A B : Type 0} (f : A → Result B Refused) (items : List A) (k : ℕ) (d : A) (out : List B) (value : B)
    → k < length items → k < length out → Ok value ≡ f (get_or items k d)
    → take (k + 1) (set out k value) ++ values_of f (drop (k + 1) items) ≡ take k out ++ values_of f (drop k items)
values_of-more f items k d out value low room e =
    rw (take_more_set out k value room, drop_more items k d low, ← e) (append_assoc (take k out) (value ∷ []) _)

pub status_of_items-more : {A B : Type 0} (f : A → Result B Refused) (items : List A) (k : ℕ) (d : A) (value : B)
    → k < length items → Ok value ≡ f (get_or items k d) → status_of_items f (drop (k + 1) items) ≡ status_of_items f (drop k items)
status_of_items-more f items k d value low e = rw (drop_more items k d low, ← e) refl

-- how many values are in front, and what is behind them
pub length-front : {B : Type 0} (k : ℕ) (out values : List B) → k ≤ length out → take k out ≡ values → k ≡ length values
length-front k out values room done = sym (length-take-le k out room) ∙ ap length done

pub front-behind : {B : Type 0} (k : ℕ) (out initial values : List B) → take k out ≡ values → drop k out ≡ drop k initial
    → out ≡ values ++ drop k initial
front-behind {B} k out initial values done behind =
    sym (take-append-drop k out) ∙ ap (λ (front : List B). front ++ drop k out) done ∙ ap (λ (rest : List B). values ++ rest) behind
