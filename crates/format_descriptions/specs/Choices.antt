-- Choices of a description: the items without groups that it can stand for, and those that a reading takes.
use Rattle.std.specs.Prelude.{◌≡◌, ℕ, Bool, true, false, List, [], ◌∷◌, ◌++◌, take, drop, IsTrue, Some, Ok, Err}
use Rattle.format_descriptions.specs.Groups.{has_no_group, written_items}
use Rattle.format_descriptions.specs.Read.{component_at, agrees, with_part, front_of, items_at}
use Rattle.format_descriptions.specs.Spelled.{Spells}
use Rattle.format_descriptions.specs.declared.component.Component.{Component}
use Rattle.format_descriptions.specs.declared.item.Item.{Item}
use Rattle.format_descriptions.specs.declared.item.Item.TheVariants.{Byte, Part, Optional, First, Or}
use Rattle.format_descriptions.specs.declared.parts.Parts.{Parts}

-- the items of a choice: an optional group is in it or not, and of a first group and those in its place one is
-- `true` begins with a group that replaces the one before it
pub data IsChoice : Bool → List Item → List Item → Type 0 where
  ends : IsChoice false [] []
  byte : {byte : ℕ} {items chosen : List Item} → IsChoice false items chosen → IsChoice false (Byte byte ∷ items) (Byte byte ∷ chosen)
  part : {component : Component} {items chosen : List Item} → IsChoice false items chosen
      → IsChoice false (Part component ∷ items) (Part component ∷ chosen)
  optional : {size : ℕ} {items own others : List Item} → IsChoice false (take size items) own → IsChoice false (drop size items) others
      → IsChoice false (Optional size ∷ items) (own ++ others)
  optional_left_out : {size : ℕ} {items others : List Item} → IsChoice false (drop size items) others
      → IsChoice false (Optional size ∷ items) others
  first : {size : ℕ} {items own others : List Item} → IsChoice false (take size items) own → IsChoice false (drop size items) others
      → IsChoice false (First size ∷ items) (own ++ others)
  first_replaced : {size : ℕ} {items others : List Item} → IsChoice true (drop size items) others → IsChoice false (First size ∷ items) others
  other : {size : ℕ} {items own others : List Item} → IsChoice false (take size items) own → IsChoice false (drop size items) others
      → IsChoice true (Or size ∷ items) (own ++ others)
  other_replaced : {size : ℕ} {items others : List Item} → IsChoice true (drop size items) others → IsChoice true (Or size ∷ items) others
  other_left_out : {size : ℕ} {items others : List Item} → IsChoice false (drop size items) others → IsChoice false (Or size ∷ items) others

-- the choice that a reading takes of items, from a text and the parts before it to the rest and the parts after it
-- a group is left out or replaced only where its items do not read the text
pub data Takes : Bool → List Item → List Item → List ℕ → Parts → List ℕ → Parts → Type 0 where
  ends : {text : List ℕ} {p : Parts} → Takes false [] [] text p text p
  byte : {byte : ℕ} {items chosen : List Item} {text rest : List ℕ} {p q : Parts} → Takes false items chosen text p rest q
      → Takes false (Byte byte ∷ items) (Byte byte ∷ chosen) (byte ∷ text) p rest q
  part : {component : Component} {n : Bool × ℕ} {items chosen : List Item} {text after rest : List ℕ} {p q : Parts}
      → component_at component text ≡ Some (n, after) → agrees component n p ≡ true → Takes false items chosen after (with_part component n p) rest q
      → Takes false (Part component ∷ items) (Part component ∷ chosen) text p rest q
  optional : {size : ℕ} {items own others : List Item} {text after rest : List ℕ} {p m q : Parts} → Takes false (take size items) own text p after m
      → Takes false (drop size items) others after m rest q → Takes false (Optional size ∷ items) (own ++ others) text p rest q
  optional_left_out : {size left : ℕ} {items others : List Item} {text rest : List ℕ} {p q : Parts} → front_of (take size items) text p ≡ Err left
      → Takes false (drop size items) others text p rest q → Takes false (Optional size ∷ items) others text p rest q
  first : {size : ℕ} {items own others : List Item} {text after rest : List ℕ} {p m q : Parts} → Takes false (take size items) own text p after m
      → Takes false (drop size items) others after m rest q → Takes false (First size ∷ items) (own ++ others) text p rest q
  first_replaced : {size left : ℕ} {items others : List Item} {text rest : List ℕ} {p q : Parts} → front_of (take size items) text p ≡ Err left
      → Takes true (drop size items) others text p rest q → Takes false (First size ∷ items) others text p rest q
  other : {size : ℕ} {items own others : List Item} {text after rest : List ℕ} {p m q : Parts} → Takes false (take size items) own text p after m
      → Takes false (drop size items) others after m rest q → Takes true (Or size ∷ items) (own ++ others) text p rest q
  other_replaced : {size left : ℕ} {items others : List Item} {text rest : List ℕ} {p q : Parts} → front_of (take size items) text p ≡ Err left
      → Takes true (drop size items) others text p rest q → Takes true (Or size ∷ items) others text p rest q
  other_left_out : {size : ℕ} {items others : List Item} {text rest : List ℕ} {p q : Parts} → Takes false (drop size items) others text p rest q
      → Takes false (Or size ∷ items) others text p rest q

-- a text that items read spells a choice of them, which has no groups; and what the items write is a choice of them
pub record TextsSpellChoices : Type 0 where
  pub read : (items : List Item) (text : List ℕ) (p q : Parts) → items_at items text p ≡ Ok q
      → (chosen : List Item) × IsChoice false items chosen × IsTrue (has_no_group chosen) × Spells chosen text p q
  pub written : (items : List Item) → IsChoice false items (written_items items)

-- what items read at the front of a text spells a choice of them, and the rest of the text follows it
pub record FrontsSpellChoices : Type 0 where
  pub read : (items : List Item) (text rest : List ℕ) (p q : Parts) → front_of items text p ≡ Ok (q, rest)
      → (chosen : List Item) × (front : List ℕ) × IsChoice false items chosen × (text ≡ front ++ rest) × Spells chosen front p q

-- what is read of a text is what the choice reads that is taken: at each group the first of its choices that reads the text
-- there; and what a choice reads that is taken is read
pub record FirstChoicesAreTaken : Type 0 where
  pub taken : (items : List Item) (text rest : List ℕ) (p q : Parts) → front_of items text p ≡ Ok (q, rest)
      → (chosen : List Item) × Takes false items chosen text p rest q × (front_of chosen text p ≡ Ok (q, rest))
  pub read : (items chosen : List Item) (text rest : List ℕ) (p q : Parts) → Takes false items chosen text p rest q
      → front_of items text p ≡ Ok (q, rest)
  pub choice : (items chosen : List Item) (text rest : List ℕ) (p q : Parts) → Takes false items chosen text p rest q
      → IsChoice false items chosen
