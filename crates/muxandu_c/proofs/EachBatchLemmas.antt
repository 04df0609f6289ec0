-- The values and the statuses of each item: one more item, and the end of the items.
use Rattle.std.proofs.Common.{◌≡◌, ℕ, ◌+◌, ◌<◌, ◌≤◌, List, [], ◌∷◌, ◌++◌, length, take, drop, get_or, set, Result, refl, sym, ap, ◌∙◌, arith}
use Rattle.std.proofs.lemmas.List.{drop_more, drop_all, take_more_set, append-nil, append_assoc, take-append-drop, drop-set-lt}
use Rattle.muxandu_c.specs.Answers.{status_of, value_or}
use Rattle.muxandu_c.specs.EachBatches.{written_each, status_of_each, count_of, count_of_values}
use Rattle.muxandu_c.specs.declared.refused.Refused.{Refused}

-- one more item: what it leaves in its place, its status, and whether it is counted
pub written_each-more : {A B : Type 0} (f : A → Result B Refused) (items : List A) (k : ℕ) (d x : A) (out : List B) (e place value : B)
    (answer : Result B Refused) (all : List B) → k < length items → k < length out → x ≡ get_or items k d → answer ≡ f x → place ≡ get_or out k e
    → value ≡ value_or answer place → take k out ++ written_each f (drop k items) (drop k out) ≡ all
    → take (k + 1) (set out k value) ++ written_each f (drop (k + 1) items) (drop (k + 1) (set out k value)) ≡ all
written_each-more f items k d x out e place value answer all low room item converted there made before =
    let moved : take (k + 1) (set out k value) ++ written_each f (drop (k + 1) items) (drop (k + 1) (set out k value))
    ≡ take k out ++ written_each f (drop k items) (drop k out) = rw (
      take_more_set out k value room,
      drop-set-lt (k + 1) out k value (omega arith),
      drop_more items k d low,
      drop_more out k e room,
      ← item,
      ← there,
      ← converted,
      ← made,
    ) (append_assoc (take k out) (value ∷ []) _) in
    moved ∙ before

pub status_of_each-more : {A B : Type 0} (f : A → Result B Refused) (items : List A) (k : ℕ) (d x : A) (statuses : List ℕ) (status : ℕ)
    (answer : Result B Refused) (all : List ℕ) → k < length items → k < length statuses → x ≡ get_or items k d → answer ≡ f x
    → status ≡ status_of answer → take k statuses ++ status_of_each f (drop k items) ≡ all
    → take (k + 1) (set statuses k status) ++ status_of_each f (drop (k + 1) items) ≡ all
status_of_each-more f items k d x statuses status answer all low room item converted made before =
    let moved : take (k + 1) (set statuses k status) ++ status_of_each f (drop (k + 1) items) ≡ take k statuses ++ status_of_each f (drop k items) =
    rw (take_more_set statuses k status room, drop_more items k d low, ← item, ← converted, ← made) (append_assoc (take k statuses) (status ∷ []) _) in
    moved ∙ before

pub count_of_values-more : {A B : Type 0} (f : A → Result B Refused) (items : List A) (k : ℕ) (d x : A) (count one all : ℕ) (answer : Result B Refused)
    → k < length items → x ≡ get_or items k d → answer ≡ f x → one ≡ count_of answer → count + count_of_values f (drop k items) ≡ all
    → (count + one) + count_of_values f (drop (k + 1) items) ≡ all
count_of_values-more f items k d x count one all answer low item converted made before =
    let here : count_of_values f (drop k items) ≡ one + count_of_values f (drop (k + 1) items) =
    rw (drop_more items k d low, ← item, ← converted, ← made) refl in
    omega (arith, here, before)

-- no item is left
pub written_each-all : {A B : Type 0} (f : A → Result B Refused) (items : List A) (k : ℕ) (out all : List B) → length items ≤ k
    → take k out ++ written_each f (drop k items) (drop k out) ≡ all → out ≡ all
written_each-all {A} {B} f items k out all end before =
    sym (take-append-drop k out) ∙ ap (λ (rest : List A). take k out ++ written_each f rest (drop k out)) (sym (drop_all k items end)) ∙ before

pub status_of_each-all : {A B : Type 0} (f : A → Result B Refused) (items : List A) (k : ℕ) (done : List ℕ) → length items ≤ k
    → done ++ status_of_each f (drop k items) ≡ status_of_each f items → done ≡ status_of_each f items
status_of_each-all f items k done end before =
    sym (append-nil done) ∙ ap (λ (rest : List ℕ). done ++ rest) (sym (ap (status_of_each f) (drop_all k items end))) ∙ before

pub count_of_values-all : {A B : Type 0} (f : A → Result B Refused) (items : List A) (k count : ℕ) → length items ≤ k
    → count + count_of_values f (drop k items) ≡ count_of_values f items → count ≡ count_of_values f items
count_of_values-all f items k count end before = let none = ap (count_of_values f) (drop_all k items end) in omega (arith, none, before)
