-- The groups of items: the number of items in a group, and the items that a description writes.
use Rattle.std.specs.Prelude.{ℕ, zero, suc, ◌-◌, Bool, true, false, List, [], ◌∷◌, ◌++◌, length, min, Option, Some, None}
use Rattle.format_descriptions.specs.declared.item.Item.{Item}
use Rattle.format_descriptions.specs.declared.item.Item.TheVariants.{Byte, Part, Optional, First, Or}

-- the number of items in the group of a head
abbrev pub size_of : Item → Option ℕ
size_of (Byte byte) = None
size_of (Part component) = None
size_of (Optional size) = Some size
size_of (First size) = Some size
size_of (Or size) = Some size

-- the head of a group in place of another
abbrev pub is_other : Item → Bool
is_other (Byte byte) = false
is_other (Part component) = false
is_other (Optional size) = false
is_other (First size) = false
is_other (Or size) = true

-- the fault after a group that failed, which another group can still replace: that of the first of several
abbrev pub fault_after : Item → Option ℕ → ℕ → Option ℕ
fault_after (Byte byte) earlier left = earlier
fault_after (Part component) earlier left = earlier
fault_after (Optional size) earlier left = earlier
fault_after (First size) earlier left = Some left
fault_after (Or size) earlier left = earlier

-- the items that a group writes: none of a group in place of another
abbrev pub own_items : Bool → List Item → List Item
own_items true own = []
own_items false own = own

-- an item that is no head, or the items of a group, and then the others
-- the numbers count the items to skip and to take
abbrev pub written_by : Item → (ℕ → ℕ → List Item) → ℕ → Option ℕ → List Item
written_by item others count None = item ∷ others 0 count
written_by item others count (Some size) = own_items (is_other item) (others 0 (min size count)) ++ others size (count - size)

-- the items that are written, none of them a head, by the numbers of items to skip and to take
unfoldable pub written_from : List Item → ℕ → ℕ → List Item
written_from [] skip count = []
written_from (item ∷ items) (suc skip) count = written_from items skip count
written_from (item ∷ items) zero zero = []
written_from (item ∷ items) zero (suc count) = written_by item (λ s n. written_from items s n) count (size_of item)

-- the items that a description writes
abbrev pub written_items : List Item → List Item
written_items items = written_from items 0 (length items)

-- no item is the head of a group
abbrev pub has_no_group : List Item → Bool
has_no_group [] = true
has_no_group (Byte byte ∷ items) = has_no_group items
has_no_group (Part component ∷ items) = has_no_group items
has_no_group (Optional size ∷ items) = false
has_no_group (First size ∷ items) = false
has_no_group (Or size ∷ items) = false
