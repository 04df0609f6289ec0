-- The items of a description, one after another.
use Rattle.std.proofs.Common.{◌≡◌, ℕ, suc, true, false, ◌+◌, List, [], ◌∷◌, ◌++◌, length, refl, sym, append_assoc, append-nil, arith}
use Rattle.std.proofs.Common.{◌≤◌, take, drop}
use Rattle.std.proofs.lemmas.List.{length-take-le, take-append-drop}
use Rattle.std.proofs.Common.{Option, Some, None, Result, Ok, Err}
use Rattle.format_descriptions.specs.DescriptionGroups.{group_step, group_fault_at_end, unsized_step, ends_group, item_count, group_size}
use Rattle.format_descriptions.specs.DescriptionSteps.{Fault}
use Rattle.format_descriptions.specs.Descriptions.{items_from, item_before, end_of_items, items_before_fault}
use Rattle.format_descriptions.specs.declared.description_refusal.DescriptionFault.TheVariants.{NoRoom}
use Rattle.format_descriptions.specs.declared.description_steps.DescriptionVersion.{DescriptionVersion}
use Rattle.format_descriptions.specs.declared.description_groups.State.{State}
use Rattle.format_descriptions.specs.declared.item.Item.{Item}

-- items behind others
abbrev pub behind : List Item → Result (List Item) Fault → Result (List Item) Fault
behind before (Ok items) = Ok (before ++ items)
behind before (Err fault) = Err fault

pub behind-item : (before : List Item) (item : Item) (read : Result (List Item) Fault)
    → behind (before ++ item ∷ []) read ≡ behind before (item_before item read)
behind-item before item (Ok items) = rw append_assoc refl
behind-item before item (Err fault) = refl

-- a step without an item
pub step_on : (v : DescriptionVersion) (n first : ℕ) (p : State) (r : State × Option Item) (rest text : List ℕ) (before : List Item)
    (all : Result (List Item) Fault)
    → behind before (items_from v n p rest) ≡ all → rest ≡ first ∷ text → Ok r ≡ group_step v p first rest text → r.1 ≡ None
    → behind before (items_from v n r.0 text) ≡ all
unfolding items_from
step_on v n first p r rest text before all so front is none =
    let read : Ok r ≡ group_step v p first (first ∷ text) text = rw (← front) is in rw (front, ← read, none) at so

-- a step with an item, in a room that has a place for it
pub step_item : (v : DescriptionVersion) (n more first : ℕ) (p : State) (r : State × Option Item) (item : Item) (rest text : List ℕ) (before : List Item)
    (all : Result (List Item) Fault)
    → behind before (items_from v n p rest) ≡ all → rest ≡ first ∷ text → Ok r ≡ group_step v p first rest text → r.1 ≡ Some item → n ≡ suc more
    → behind (before ++ item ∷ []) (items_from v more r.0 text) ≡ all
unfolding items_from
step_item v n more first p r item rest text before all so front is some place =
    let read : Ok r ≡ group_step v p first (first ∷ text) text = rw (← front) is in
    let same : behind before (item_before item (items_from v more r.0 text)) ≡ all = rw (front, place, ← read, some) at so in
    rw (behind-item before item (items_from v more r.0 text)) same

-- a step with an item, in a room that has no place
pub step_full : (v : DescriptionVersion) (n first : ℕ) (p : State) (r : State × Option Item) (item : Item) (rest text : List ℕ) (before : List Item)
    (all : Result (List Item) Fault)
    → behind before (items_from v n p rest) ≡ all → rest ≡ first ∷ text → Ok r ≡ group_step v p first rest text → r.1 ≡ Some item → n ≡ 0
    → all ≡ Err (NoRoom, length rest)
unfolding items_from
step_full v n first p r item rest text before all so front is some full =
    let read : Ok r ≡ group_step v p first (first ∷ text) text = rw (← front) is in
    let same : Err (NoRoom, length (first ∷ text)) ≡ all = rw (front, full, ← read, some) at so in
    rw front (sym same)

-- a fault
pub step_fault : (v : DescriptionVersion) (n first : ℕ) (p : State) (fault : Fault) (rest text : List ℕ) (before : List Item)
    (all : Result (List Item) Fault)
    → behind before (items_from v n p rest) ≡ all → rest ≡ first ∷ text → Err fault ≡ group_step v p first rest text → all ≡ Err fault
unfolding items_from
step_fault v n first p fault rest text before all so front is =
    let read : Err fault ≡ group_step v p first (first ∷ text) text = rw (← front) is in
    let same : Err fault ≡ all = rw (front, ← read) at so in sym same

-- the end
at_end : (v : DescriptionVersion) (n : ℕ) (p : State) (rest : List ℕ) (before : List Item) (all : Result (List Item) Fault)
    → behind before (items_from v n p rest) ≡ all → length rest ≡ 0 → behind before (end_of_items (group_fault_at_end p)) ≡ all
unfolding items_from
at_end v n p [] before all so none = so
at_end v n p (first ∷ rest) before all so none = absurd (omega (arith, none))

pub end_fault : (v : DescriptionVersion) (n : ℕ) (p : State) (fault : Fault) (rest : List ℕ) (before : List Item)
    (all : Result (List Item) Fault)
    → behind before (items_from v n p rest) ≡ all → length rest ≡ 0 → Some fault ≡ group_fault_at_end p → all ≡ Err fault
end_fault v n p fault rest before all so none is =
    let same : Err fault ≡ all = rw (← is) at (at_end v n p rest before all so none) in sym same

pub end_items : (v : DescriptionVersion) (n : ℕ) (p : State) (rest : List ℕ) (before : List Item) (all : Result (List Item) Fault)
    → behind before (items_from v n p rest) ≡ all → length rest ≡ 0 → None ≡ group_fault_at_end p → all ≡ Ok before
end_items v n p rest before all so none is =
    let same : Ok (before ++ []) ≡ all = rw (← is) at (at_end v n p rest before all so none) in
    let short : Ok before ≡ all = rw append-nil at same in sym short

-- the items of a group, one after another
pub size_ends : (v : DescriptionVersion) (groups first size : ℕ) (s : State) (rest text : List ℕ) (all : ℕ)
    → size + group_size v groups s rest ≡ all → rest ≡ first ∷ text → true ≡ ends_group groups s first → size ≡ all
unfolding group_size
size_ends v groups first size s rest text all so front ends =
    let same : size + 0 ≡ all = rw (front, ← ends) at so in omega (arith, same)

pub size_fault : (v : DescriptionVersion) (groups first size : ℕ) (s : State) (fault : Fault) (rest text : List ℕ) (all : ℕ)
    → size + group_size v groups s rest ≡ all → rest ≡ first ∷ text → false ≡ ends_group groups s first
    → Err fault ≡ unsized_step v s s.spot first rest → size ≡ all
unfolding group_size
size_fault v groups first size s fault rest text all so front more is =
    let read : Err fault ≡ unsized_step v s s.spot first (first ∷ text) = rw (← front) is in
    let same : size + 0 ≡ all = rw (front, ← more, ← read) at so in omega (arith, same)

pub size_on : (v : DescriptionVersion) (groups first size : ℕ) (s : State) (r : State × Option Item) (rest text : List ℕ) (all : ℕ)
    → size + group_size v groups s rest ≡ all → rest ≡ first ∷ text → false ≡ ends_group groups s first
    → Ok r ≡ unsized_step v s s.spot first rest → (size + item_count r.1) + group_size v groups r.0 text ≡ all
unfolding group_size
size_on v groups first size s r rest text all so front more is =
    let read : Ok r ≡ unsized_step v s s.spot first (first ∷ text) = rw (← front) is in
    let same : size + (item_count r.1 + group_size v groups r.0 text) ≡ all = rw (front, ← more, ← read) at so in omega (arith, same)

pub size_none : (v : DescriptionVersion) (groups size : ℕ) (s : State) (rest : List ℕ) (all : ℕ)
    → size + group_size v groups s rest ≡ all → length rest ≡ 0 → size ≡ all
unfolding group_size
size_none v groups size s [] all so none = omega (arith, so)
size_none v groups size s (first ∷ rest) all so none = absurd (omega (arith, none))

-- ---- the items before a fault

-- a step without an item
pub first_on : (v : DescriptionVersion) (n first : ℕ) (p : State) (r : State × Option Item) (rest text : List ℕ) (before all : List Item)
    → before ++ items_before_fault v n p rest ≡ all → rest ≡ first ∷ text → Ok r ≡ group_step v p first rest text → r.1 ≡ None
    → before ++ items_before_fault v n r.0 text ≡ all
unfolding items_before_fault
first_on v n first p r rest text before all so front is none =
    let read : Ok r ≡ group_step v p first (first ∷ text) text = rw (← front) is in rw (front, ← read, none) at so

-- a step with an item, in a room that has a place for it
pub first_item : (v : DescriptionVersion) (n more first : ℕ) (p : State) (r : State × Option Item) (item : Item) (rest text : List ℕ)
    (before all : List Item)
    → before ++ items_before_fault v n p rest ≡ all → rest ≡ first ∷ text → Ok r ≡ group_step v p first rest text → r.1 ≡ Some item → n ≡ suc more
    → (before ++ item ∷ []) ++ items_before_fault v more r.0 text ≡ all
unfolding items_before_fault
first_item v n more first p r item rest text before all so front is some place =
    let read : Ok r ≡ group_step v p first (first ∷ text) text = rw (← front) is in
    let same : before ++ item ∷ items_before_fault v more r.0 text ≡ all = rw (front, place, ← read, some) at so in
    rw (append_assoc before (item ∷ []) (items_before_fault v more r.0 text)) same

-- a step with an item, in a room that has no place
pub first_full : (v : DescriptionVersion) (n first : ℕ) (p : State) (r : State × Option Item) (item : Item) (rest text : List ℕ)
    (before all : List Item)
    → before ++ items_before_fault v n p rest ≡ all → rest ≡ first ∷ text → Ok r ≡ group_step v p first rest text → r.1 ≡ Some item → n ≡ 0
    → before ≡ all
unfolding items_before_fault
first_full v n first p r item rest text before all so front is some full =
    let read : Ok r ≡ group_step v p first (first ∷ text) text = rw (← front) is in
    let same : before ++ [] ≡ all = rw (front, full, ← read, some) at so in
    rw append-nil at same

-- a fault
pub first_fault : (v : DescriptionVersion) (n first : ℕ) (p : State) (fault : Fault) (rest text : List ℕ) (before all : List Item)
    → before ++ items_before_fault v n p rest ≡ all → rest ≡ first ∷ text → Err fault ≡ group_step v p first rest text → before ≡ all
unfolding items_before_fault
first_fault v n first p fault rest text before all so front is =
    let read : Err fault ≡ group_step v p first (first ∷ text) text = rw (← front) is in
    let same : before ++ [] ≡ all = rw (front, ← read) at so in
    rw append-nil at same

-- the end
pub first_end : (v : DescriptionVersion) (n : ℕ) (p : State) (rest : List ℕ) (before all : List Item)
    → before ++ items_before_fault v n p rest ≡ all → length rest ≡ 0 → before ≡ all
unfolding items_before_fault
first_end v n p [] before all so none = rw append-nil at so
first_end v n p (first ∷ rest) before all so none = absurd (omega (arith, none))

-- the items that were put at the front of a room
pub room_with : (count : ℕ) (room old all : List Item) → take count room ≡ all → count ≤ length room → drop count room ≡ drop count old
    → room ≡ all ++ drop (length all) old
room_with count room old all same fits others =
    let size = length-take-le count room fits in
    rw (← same, size, ← others) (sym (take-append-drop count room))
