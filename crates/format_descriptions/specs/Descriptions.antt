-- The items of a text that is a description.
use Rattle.std.specs.Prelude.{ℕ, zero, suc, ◌-◌, List, [], ◌∷◌, length, Option, Some, None, Result, Ok, Err}
use Rattle.format_descriptions.specs.DescriptionGroups.{GroupStep, at_front, group_step, group_fault_at_end}
use Rattle.format_descriptions.specs.DescriptionSteps.{Fault}
use Rattle.format_descriptions.specs.declared.description_groups.State.{State}
use Rattle.format_descriptions.specs.declared.description_refusal.DescriptionFault.TheVariants.{NoRoom}
use Rattle.format_descriptions.specs.declared.description_refusal.DescriptionRefusal.{DescriptionRefusal}
use Rattle.format_descriptions.specs.declared.description_steps.DescriptionVersion.{DescriptionVersion}
use Rattle.format_descriptions.specs.declared.item.Item.{Item}

-- no items, unless there is a fault
abbrev pub end_of_items : Option Fault → Result (List Item) Fault
end_of_items None = Ok []
end_of_items (Some fault) = Err fault

-- an item before the others
abbrev pub item_before : Item → Result (List Item) Fault → Result (List Item) Fault
item_before item (Ok items) = Ok (item ∷ items)
item_before item (Err fault) = Err fault

-- the item of a step, if it has one, and those of the next steps, or the fault if no room is left
abbrev pub in_room : ℕ → ℕ → (ℕ → Result (List Item) Fault) → Option Item → Result (List Item) Fault
in_room room left next None = next room
in_room zero left next (Some item) = Err (NoRoom, left)
in_room (suc room) left next (Some item) = item_before item (next room)

-- the items of a step and of the next steps, or the fault
abbrev pub after_step : ℕ → ℕ → (State → ℕ → Result (List Item) Fault) → GroupStep → Result (List Item) Fault
after_step room left next (Err fault) = Err fault
after_step room left next (Ok read) = in_room room left (next read.0) read.1

-- the items of a text from this state on, `room` of them at most, or the fault
unfoldable pub items_from : DescriptionVersion → ℕ → State → List ℕ → Result (List Item) Fault
items_from version room s [] = end_of_items (group_fault_at_end s)
items_from version room s (first ∷ text) =
    after_step room (length (first ∷ text)) (λ next more. items_from version more next text) (group_step version s first (first ∷ text) text)

-- the items of a description, `room` of them at most, or the fault
abbrev pub items_of_description : DescriptionVersion → ℕ → List ℕ → Result (List Item) Fault
items_of_description version room text = items_from version room at_front text

-- the item of a step, if it has one and there is room for it, and those of the next steps
abbrev pub within_room : ℕ → (ℕ → List Item) → Option Item → List Item
within_room room next None = next room
within_room zero next (Some item) = []
within_room (suc room) next (Some item) = item ∷ next room

-- the item of a step and those of the next steps, or none if it has a fault
abbrev pub unless_step_fails : ℕ → (State → ℕ → List Item) → GroupStep → List Item
unless_step_fails room next (Err fault) = []
unless_step_fails room next (Ok read) = within_room room (next read.0) read.1

-- the items of a text from this state on that come before its first fault, `room` of them at most
unfoldable pub items_before_fault : DescriptionVersion → ℕ → State → List ℕ → List Item
items_before_fault version room s [] = []
items_before_fault version room s (first ∷ text) =
    unless_step_fails room (λ next more. items_before_fault version more next text) (group_step version s first (first ∷ text) text)

-- the items of a text that come before its first fault, `room` of them at most: all of them if it has no fault
abbrev pub first_items : DescriptionVersion → ℕ → List ℕ → List Item
first_items version room text = items_before_fault version room at_front text

-- a fault by its place from the front
abbrev pub refusal_of : List ℕ → Fault → DescriptionRefusal
refusal_of text fault = record { place = length text - fault.1; fault = fault.0 }
