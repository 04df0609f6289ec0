-- Items read one after another, and their groups.
use Rattle.std.proofs.Common.{◌≡◌, ℕ, zero, suc, ◌-◌, true, false, List, [], ◌∷◌, length, drop, min, refl, sym, Option, Some, None, Ok, Err}
use Rattle.std.proofs.Common.{◌≤◌, ◌<◌, arith}
use Rattle.std.specs.Prelude.{IfSome}
use Rattle.format_descriptions.specs.Groups.{size_of, is_other, fault_after}
use Rattle.format_descriptions.specs.Read.{Front, Reader, item_at, front_of, read_from, read_end, read_instead, try_group}
use Rattle.format_descriptions.specs.declared.item.Item.{Item}
use Rattle.format_descriptions.specs.declared.item.Item.TheVariants.{Byte, Part, Optional, First, Or}
use Rattle.format_descriptions.specs.declared.parts.Parts.{Parts}
use Rattle.format_descriptions.proofs.GroupLemmas.{read_from-drop}
use Rattle.rfc3339.specs.Reading.{mark_at}

-- the end of the items, and that of those which are taken
pub read_ends : (items : List Item) (count : ℕ) (fault : Option ℕ) (text : List ℕ) (p : Parts) (all : Front) → count ≡ 0
    → read_from items 0 count fault text p ≡ all → all ≡ read_end fault text p
unfolding read_from
read_ends [] count fault text p all none so = sym so
read_ends (item ∷ items) zero fault text p all none so = sym so
read_ends (item ∷ items) (suc count) fault text p all none so = absurd (omega (arith, none))

pub read_none : (items : List Item) (count : ℕ) (fault : Option ℕ) (text : List ℕ) (p : Parts) (all : Front) → length items ≡ 0
    → read_from items 0 count fault text p ≡ all → all ≡ read_end fault text p
unfolding read_from
read_none [] count fault text p all none so = sym so
read_none (item ∷ items) count fault text p all none so = absurd (omega (arith, none))

-- an item that is no head
pub read_on : (item : Item) (items others : List Item) (count n : ℕ) (fault : Option ℕ) (text rest : List ℕ) (p q : Parts) (all : Front)
    → items ≡ item ∷ others → count ≡ suc n → fault ≡ None → None ≡ size_of item → Some (q, rest) ≡ item_at item text p
    → read_from items 0 count fault text p ≡ all → read_from others 0 n None rest q ≡ all
unfolding read_from
read_on item items others count n fault text rest p q all front place none plain is so = rw (front, place, none, ← plain, ← is) at so

pub read_stops : (item : Item) (items others : List Item) (count n : ℕ) (fault : Option ℕ) (text : List ℕ) (p : Parts) (all : Front)
    → items ≡ item ∷ others → count ≡ suc n → fault ≡ None → None ≡ size_of item → None ≡ item_at item text p
    → read_from items 0 count fault text p ≡ all → all ≡ Err (length text)
unfolding read_from
read_stops item items others count n fault text p all front place none plain is so = sym (rw (front, place, none, ← plain, ← is) at so)

-- behind a fault an item that is no other group
instead-none : (item : Item) (others : Reader) (count left : ℕ) (text : List ℕ) (p : Parts) (size : Option ℕ) → is_other item ≡ false
    → read_instead item others count left text p size ≡ Err left
instead-none item others count left text p None plain = refl
instead-none item others count left text p (Some size) plain = rw plain refl

pub read_fault : (item : Item) (items others : List Item) (count n left : ℕ) (fault : Option ℕ) (text : List ℕ) (p : Parts) (all : Front)
    → items ≡ item ∷ others → count ≡ suc n → fault ≡ Some left → is_other item ≡ false → read_from items 0 count fault text p ≡ all → all ≡ Err left
unfolding read_from
read_fault item items others count n left fault text p all front place some plain so =
    sym (rw (front, place, some, instead-none item (λ s n f t q. read_from others s n f t q) n left text p (size_of item) plain) at so)

pub read_fault_plain : (item : Item) (items others : List Item) (count n left : ℕ) (fault : Option ℕ) (text : List ℕ) (p : Parts) (all : Front)
    → items ≡ item ∷ others → count ≡ suc n → fault ≡ Some left → None ≡ size_of item → read_from items 0 count fault text p ≡ all → all ≡ Err left
unfolding read_from
read_fault_plain item items others count n left fault text p all front place some plain so = sym (rw (front, place, some, ← plain) at so)

-- a group in place of one that was read
pub read_passed : (item : Item) (items others : List Item) (size count n : ℕ) (fault : Option ℕ) (text : List ℕ) (p : Parts) (all : Front)
    → items ≡ item ∷ others → count ≡ suc n → fault ≡ None → Some size ≡ size_of item → is_other item ≡ true
    → read_from items 0 count fault text p ≡ all → read_from (drop size others) 0 (n - size) None text p ≡ all
unfolding read_from
read_passed item items others size count n fault text p all front place none head other so =
    rw (← read_from-drop others size (n - size) None text p) (rw (front, place, none, ← head, other) at so)

-- a group that is tried: nothing is read behind a fault but another group
pub tried_first : (item : Item) (items others : List Item) (size count n : ℕ) (fault : Option ℕ) (text : List ℕ) (p : Parts) (all : Front)
    → items ≡ item ∷ others → count ≡ suc n → fault ≡ None → Some size ≡ size_of item → is_other item ≡ false
    → read_from items 0 count fault text p ≡ all → try_group item size (λ s n f t q. read_from others s n f t q) n fault text p ≡ all
unfolding read_from
tried_first item items others size count n fault text p all front place none head own so = rw none (rw (front, place, none, ← head, own) at so)

pub tried_instead : (item : Item) (items others : List Item) (size count n left : ℕ) (fault : Option ℕ) (text : List ℕ) (p : Parts) (all : Front)
    → items ≡ item ∷ others → count ≡ suc n → fault ≡ Some left → Some size ≡ size_of item → is_other item ≡ true
    → read_from items 0 count fault text p ≡ all → try_group item size (λ s n f t q. read_from others s n f t q) n (Some left) text p ≡ all
unfolding read_from
tried_instead item items others size count n left fault text p all front place some head other so =
    rw (front, place, some, ← head, other) at so

pub group_read : (item : Item) (others : List Item) (size n : ℕ) (fault : Option ℕ) (text rest : List ℕ) (p q : Parts) (all : Front)
    → Ok (q, rest) ≡ read_from others 0 (min size n) None text p → try_group item size (λ s n f t q. read_from others s n f t q) n fault text p ≡ all
    → read_from (drop size others) 0 (n - size) None rest q ≡ all
group_read item others size n fault text rest p q all is so = rw (← read_from-drop others size (n - size) None rest q) (rw (← is) at so)

pub group_fault : (item : Item) (others : List Item) (size n left : ℕ) (fault : Option ℕ) (text : List ℕ) (p : Parts) (all : Front)
    → Err left ≡ read_from others 0 (min size n) None text p → try_group item size (λ s n f t q. read_from others s n f t q) n fault text p ≡ all
    → read_from (drop size others) 0 (n - size) (fault_after item fault left) text p ≡ all
group_fault item others size n left fault text p all is so =
    rw (← read_from-drop others size (n - size) (fault_after item fault left) text p) (rw (← is) at so)

-- the fault that waits is one of the text
pub fault_after-within : (item : Item) (fault : Option ℕ) (left most : ℕ) → IfSome fault (λ l. l ≤ most) → left ≤ most
    → IfSome (fault_after item fault left) (λ l. l ≤ most)
fault_after-within (Byte byte) fault left most before within = before
fault_after-within (Part component) fault left most before within = before
fault_after-within (Optional size) fault left most before within = before
fault_after-within (First size) fault left most before within = within
fault_after-within (Or size) fault left most before within = before

-- a group whose first item is a byte that the text does not begin with
pub byte_fails : (byte : ℕ) (items others : List Item) (count : ℕ) (text : List ℕ) (p : Parts) → items ≡ Byte byte ∷ others → 0 < count
    → mark_at byte text ≡ None → read_from items 0 count None text p ≡ Err (length text)
unfolding read_from item_at
byte_fails byte items others zero text p front some none = absurd (omega (arith, some))
byte_fails byte items others (suc n) text p front some none = rw (front, none) refl

-- all items: one that is no head is read at once, and then the others
pub all_none : (items : List Item) (text : List ℕ) (p : Parts) (all : Front) → length items ≡ 0 → front_of items text p ≡ all → all ≡ Ok (p, text)
all_none items text p all none so = read_none items (length items) None text p all none so

pub all_on : (item : Item) (items others : List Item) (text rest : List ℕ) (p q : Parts) (all : Front) → items ≡ item ∷ others → None ≡ size_of item
    → Some (q, rest) ≡ item_at item text p → front_of items text p ≡ all → front_of others rest q ≡ all
all_on item items others text rest p q all front plain is so =
    read_on item items others (length items) (length others) None text rest p q all front (rw front refl) refl plain is so

pub all_stops : (item : Item) (items others : List Item) (text : List ℕ) (p : Parts) (all : Front) → items ≡ item ∷ others → None ≡ size_of item
    → None ≡ item_at item text p → front_of items text p ≡ all → all ≡ Err (length text)
all_stops item items others text p all front plain is so =
    read_stops item items others (length items) (length others) None text p all front (rw front refl) refl plain is so

-- a byte is read at once
pub byte_on : (byte : ℕ) (items others : List Item) (text rest : List ℕ) (p : Parts) (all : Front) → items ≡ Byte byte ∷ others
    → Some rest ≡ mark_at byte text → front_of items text p ≡ all → front_of others rest p ≡ all
unfolding item_at
byte_on byte items others text rest p all front is so = all_on (Byte byte) items others text rest p p all front refl (rw (← is) refl) so

pub byte_stops : (byte : ℕ) (items others : List Item) (text : List ℕ) (p : Parts) (all : Front) → items ≡ Byte byte ∷ others
    → None ≡ mark_at byte text → front_of items text p ≡ all → all ≡ Err (length text)
unfolding item_at
byte_stops byte items others text p all front is so = all_stops (Byte byte) items others text p all front refl (rw (← is) refl) so
