-- Many values in one call over two columns: the items of both at one place are a pair, and the pairs are the items.
use Rattle.std.specs.Prelude.{ℕ, ◌||◌, List, [], Result, length, nat_lt, if◌then◌else◌}
use Rattle.std.specs.List.{zip}
use Rattle.muxandu_c.specs.Answers.{status_number}
use Rattle.muxandu_c.specs.Batches.{values_of, status_of_items}
use Rattle.muxandu_c.specs.declared.refused.Refused.{Refused}
use Rattle.muxandu_c.specs.declared.refused.Refused.TheVariants as refused

-- the result of a pair
abbrev pub of_pair : {A B C : Type 0} → (A → B → Result C Refused) → A × B → Result C Refused
of_pair f pair = f pair.0 pair.1

-- the pairs, if the second column has an item for each of the first, and if there is room for all of their values
abbrev pub pairs_with_room : {A B C : Type 0} → List C → List A → List B → List (A × B)
pairs_with_room there firsts seconds =
    if nat_lt (length there) (length firsts) || nat_lt (length seconds) (length firsts) then [] else zip firsts seconds

-- the values of a call with these columns
abbrev pub pair_values : {A B C : Type 0} → (A → B → Result C Refused) → List C → List A → List B → List C
pair_values f there firsts seconds = values_of (of_pair f) (pairs_with_room there firsts seconds)

-- the status of a call with these columns
abbrev pub pair_status : {A B C : Type 0} → (A → B → Result C Refused) → List C → List A → List B → ℕ
pair_status f there firsts seconds =
    if nat_lt (length there) (length firsts) || nat_lt (length seconds) (length firsts) then status_number refused.Buffer
    else status_of_items (of_pair f) (zip firsts seconds)

-- the pairs, if there is room for their statuses too
abbrev pub pairs_with_rooms : {A B C : Type 0} → List C → List ℕ → List A → List B → List (A × B)
pairs_with_rooms there statuses firsts seconds =
    if nat_lt (length statuses) (length firsts) then [] else pairs_with_room there firsts seconds

-- the status of a call that continues after errors
abbrev pub pair_room_status : {A B C : Type 0} → List C → List ℕ → List A → List B → ℕ
pair_room_status there statuses firsts seconds =
    if nat_lt (length statuses) (length firsts)
    then status_number refused.Buffer
    else (if nat_lt (length there) (length firsts) || nat_lt (length seconds) (length firsts) then status_number refused.Buffer else 0)
