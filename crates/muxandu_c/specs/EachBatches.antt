-- Many values in one call that continues after errors: each item has a status of its own.
use Rattle.std.specs.Prelude.{ℕ, ◌+◌, ◌||◌, List, [], ◌∷◌, Result, Ok, Err, length, nat_lt, if◌then◌else◌}
use Rattle.muxandu_c.specs.Answers.{status_of, status_number, value_or}
use Rattle.muxandu_c.specs.declared.refused.Refused.{Refused}
use Rattle.muxandu_c.specs.declared.refused.Refused.TheVariants as refused

-- the places of items after a call: the value of each, or the old value of its place after an error
abbrev pub written_each : {A B : Type 0} → (A → Result B Refused) → List A → List B → List B
written_each f [] there = there
written_each f (x ∷ xs) [] = []
written_each f (x ∷ xs) (place ∷ there) = value_or (f x) place ∷ written_each f xs there

-- the status of each item
abbrev pub status_of_each : {A B : Type 0} → (A → Result B Refused) → List A → List ℕ
status_of_each f [] = []
status_of_each f (x ∷ xs) = status_of (f x) ∷ status_of_each f xs

-- 1 for an item that has a value, and 0 for an error
abbrev pub count_of : {B : Type 0} → Result B Refused → ℕ
count_of (Ok value) = 1
count_of (Err refusal) = 0

-- the number of items that have a value
abbrev pub count_of_values : {A B : Type 0} → (A → Result B Refused) → List A → ℕ
count_of_values f [] = 0
count_of_values f (x ∷ xs) = count_of (f x) + count_of_values f xs

-- the items, if there is room for their values and for their statuses
abbrev pub with_both_rooms : {A B : Type 0} → List B → List ℕ → List A → List A
with_both_rooms there statuses items =
    if nat_lt (length there) (length items) || nat_lt (length statuses) (length items) then [] else items

-- the status of the call
abbrev pub room_status : {A B : Type 0} → List B → List ℕ → List A → ℕ
room_status there statuses items =
    if nat_lt (length there) (length items) || nat_lt (length statuses) (length items) then status_number refused.Buffer else 0
