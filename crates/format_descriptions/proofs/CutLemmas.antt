-- Items that are cut: a reading of the first of them is that of all items of the list that is cut there.
use Rattle.std.proofs.Common.{◌≡◌, ℕ, zero, suc, ◌-◌, ◌≤◌, ◌⊎◌, List, [], ◌∷◌, length, take, drop, min, refl, sym, ◌∙◌, arith, inl, inr}
use Rattle.std.proofs.Common.{Option, Some, None, Ok, Err}
use Rattle.std.proofs.Math.Nat.{min-eq_left, min-eq_right}
use Rattle.std.proofs.Math.Seq.{take-length}
use Rattle.std.proofs.lemmas.Bool.{cases_order}
use Rattle.std.proofs.lemmas.List.{length-take, take_min, length-drop}
use Rattle.format_descriptions.specs.Read.{Front, Reader, item_at, going_on, after_group, read_from, read_end, read_item, front_of, try_group}
use Rattle.format_descriptions.specs.Groups.{fault_after}
use Rattle.format_descriptions.specs.declared.item.Item.{Item}
use Rattle.format_descriptions.specs.declared.item.Item.TheVariants.{Byte, Part, Optional, First, Or}
use Rattle.format_descriptions.specs.declared.parts.Parts.{Parts}
use Rattle.format_descriptions.proofs.GroupLemmas.{read_from-drop}

-- how many of `count` items are kept, where there is room for `room`
abbrev pub Kept : ℕ → ℕ → ℕ → Type 0
Kept kept count room = (kept ≤ count) × (kept ≤ room) × (kept ≡ count ⊎ kept ≡ room)

pub min-by : (size n : ℕ) → ((size ≤ n) × (min size n ≡ size)) ⊎ ((n ≤ size) × (min size n ≡ n))
min-by size n = elim (cases_order size n) [
  | inl same ↦ inl (omega (arith, same), min-eq_left (omega (arith, same)))
  | inr (inl below) ↦ inl (omega (arith, below), min-eq_left (omega (arith, below)))
  | inr (inr past) ↦ inr (omega (arith, past), min-eq_right (omega (arith, past)))
]

pub kept-group : (size kept count room : ℕ) → Kept kept count room → Kept (min size kept) (min size count) room
kept-group size kept count room k = elim (min-by size kept) [
  | inl small ↦
      let other : min size count ≡ size = min-eq_left (omega (arith, small.0, k.0)) in
      (omega (arith, small.1, other), omega (arith, small.0, small.1, k.1), inl (omega (arith, small.1, other)))
  | inr large ↦ elim (min-by size count) [
    | inl less ↦ elim k.2 [
      | inl all ↦ (omega (arith, large, less), omega (arith, large.1, k.1), inl (omega (arith, large, less, all)))
      | inr full ↦ (omega (arith, large, less), omega (arith, large.1, k.1), inr (omega (arith, large.1, full)))
    ]
    | inr more ↦ elim k.2 [
      | inl all ↦ (omega (arith, large, more, k.0), omega (arith, large.1, k.1), inl (omega (arith, large.1, more.1, all)))
      | inr full ↦ (omega (arith, large, more, k.0), omega (arith, large.1, k.1), inr (omega (arith, large.1, full)))
    ]
  ]
]

pub kept-room : (kept count room : ℕ) → Kept kept count room → Kept kept count (room - 0)
kept-room kept count room k = elim k.2 [
  | inl all ↦ (k.0, omega (arith, k.1), inl all)
  | inr full ↦ (k.0, omega (arith, k.1), inr (omega (arith, full)))
]

pub kept-less : (kept count most skip : ℕ) → Kept kept count (suc most - suc skip) → Kept kept count (most - skip)
kept-less kept count most skip k = elim k.2 [
  | inl all ↦ (k.0, omega (arith, k.1), inl all)
  | inr full ↦ (k.0, omega (arith, k.1), inr (omega (arith, full)))
]

pub kept-next : (kept count most : ℕ) → Kept (suc kept) (suc count) (suc most - 0) → Kept kept count most
kept-next kept count most k = elim k.2 [
  | inl all ↦ (omega (arith, k.0), omega (arith, k.1), inl (omega (arith, all)))
  | inr full ↦ (omega (arith, k.0), omega (arith, k.1), inr (omega (arith, full)))
]

pub no_room : (count most : ℕ) → Kept zero (suc count) (suc most - 0) → ⊥
no_room count most k = elim k.2 [
  | inl all ↦ omega (arith, all)
  | inr full ↦ omega (arith, full)
]

pub kept-others : (size kept count room : ℕ) → Kept kept count room → Kept (kept - size) (count - size) (room - size)
kept-others size kept count room k = elim k.2 [
  | inl all ↦ (omega (arith, k.0), omega (arith, k.1), inl (omega (arith, all)))
  | inr full ↦ (omega (arith, k.0), omega (arith, k.1), inr (omega (arith, full)))
]

-- two readings of the same
going-same : (text : List ℕ) (f g : Parts × List ℕ → Front) (o : Option (Parts × List ℕ)) → ((read : Parts × List ℕ) → f read ≡ g read)
    → going_on text f o ≡ going_on text g o
going-same text f g None same = refl
going-same text f g (Some read) same = same read

group-same : (faulty broken : ℕ → Front) (f g : Parts × List ℕ → Front) (a b : Front) → a ≡ b → ((left : ℕ) → faulty left ≡ broken left)
    → ((read : Parts × List ℕ) → f read ≡ g read) → after_group faulty f a ≡ after_group broken g b
group-same faulty broken f g (Err left) b e bad same = rw (← e) (bad left)
group-same faulty broken f g (Ok read) b e bad same = rw (← e) (same read)

none-read : (items : List Item) (skip : ℕ) (fault : Option ℕ) (text : List ℕ) (p : Parts) → read_from items skip 0 fault text p ≡ read_end fault text p
unfolding read_from
none-read [] skip fault text p = refl
none-read (item ∷ items) zero fault text p = refl
none-read (item ∷ items) (suc skip) fault text p = none-read items skip fault text p

-- the two readers of what follows an item
tried-same : (item : Item) (size kept count : ℕ) (a b : Reader) (fault : Option ℕ) (text : List ℕ) (p : Parts)
    → ((t : List ℕ) (q : Parts) → a 0 (min size kept) None t q ≡ b 0 (min size count) None t q)
    → ((f : Option ℕ) (t : List ℕ) (q : Parts) → a size (kept - size) f t q ≡ b size (count - size) f t q)
    → try_group item size a kept fault text p ≡ try_group item size b count fault text p
tried-same item size kept count a b fault text p own others =
    group-same _ _ _ _ _ _ (own text p) (λ left. others (fault_after item fault left) text p) (λ read. others None read.1 read.0)

item-same : (item : Item) (kept count room : ℕ) (a b : Reader) (fault : Option ℕ) (text : List ℕ) (p : Parts) → Kept kept count room
    → ((s k n : ℕ) (f : Option ℕ) (t : List ℕ) (q : Parts) → Kept k n (room - s) → a s k f t q ≡ b s n f t q)
    → read_item item a kept fault text p ≡ read_item item b count fault text p
item-same (Byte byte) kept count room a b None text p k same =
    going-same text _ _ (item_at (Byte byte) text p) (λ read. same 0 kept count None read.1 read.0 (kept-room kept count room k))
item-same (Byte byte) kept count room a b (Some left) text p k same = refl
item-same (Part component) kept count room a b None text p k same =
    going-same text _ _ (item_at (Part component) text p) (λ read. same 0 kept count None read.1 read.0 (kept-room kept count room k))
item-same (Part component) kept count room a b (Some left) text p k same = refl
item-same (Optional size) kept count room a b None text p k same =
    tried-same (Optional size) size kept count a b None text p
    (λ t q. same 0 _ _ None t q (kept-room _ _ room (kept-group size kept count room k)))
    (λ f t q. same size _ _ f t q (kept-others size kept count room k))
item-same (Optional size) kept count room a b (Some left) text p k same = refl
item-same (First size) kept count room a b None text p k same =
    tried-same (First size) size kept count a b None text p
    (λ t q. same 0 _ _ None t q (kept-room _ _ room (kept-group size kept count room k)))
    (λ f t q. same size _ _ f t q (kept-others size kept count room k))
item-same (First size) kept count room a b (Some left) text p k same = refl
item-same (Or size) kept count room a b None text p k same = same size _ _ None text p (kept-others size kept count room k)
item-same (Or size) kept count room a b (Some left) text p k same =
    tried-same (Or size) size kept count a b (Some left) text p
    (λ t q. same 0 _ _ None t q (kept-room _ _ room (kept-group size kept count room k)))
    (λ f t q. same size _ _ f t q (kept-others size kept count room k))

-- a list that is cut after `most` items
cut-read : (items : List Item) (most skip kept count : ℕ) (fault : Option ℕ) (text : List ℕ) (p : Parts) → Kept kept count (most - skip)
    → read_from items skip kept fault text p ≡ read_from (take most items) skip count fault text p
unfolding read_from
cut-read [] zero skip kept count fault text p k = refl
cut-read [] (suc most) skip kept count fault text p k = refl
cut-read (item ∷ items) zero skip kept count fault text p k =
    let none : kept ≡ 0 = omega (arith, k.1) in rw none (none-read (item ∷ items) skip fault text p)
cut-read (item ∷ items) (suc most) (suc skip) kept count fault text p k = cut-read items most skip kept count fault text p (kept-less kept count most skip k)
cut-read (item ∷ items) (suc most) zero zero zero fault text p k = refl
cut-read (item ∷ items) (suc most) zero zero (suc count) fault text p k = absurd (no_room count most k)
cut-read (item ∷ items) (suc most) zero (suc kept) zero fault text p k = absurd (omega (arith, k.0))
cut-read (item ∷ items) (suc most) zero (suc kept) (suc count) fault text p k =
    item-same item kept count most _ _ fault text p (kept-next kept count most k)
    (λ s m n f t q e. cut-read items most s m n f t q e)

-- the first items are read as a list of their own
pub front-cut : (items : List Item) (count : ℕ) (text : List ℕ) (p : Parts) → read_from items 0 count None text p ≡ front_of (take count items) text p
front-cut items count text p =
    let size : length (take count items) ≡ min count (length items) = length-take count items in
    let whole : Kept (min count (length items)) count (length items - 0) = elim (min-by count (length items)) [
      | inl small ↦ (omega (arith, small.1), omega (arith, small), inl small.1)
      | inr large ↦ (omega (arith, large), omega (arith, large), inr (omega (arith, large)))
    ]
    in
    let short : Kept (min count (length items)) (length (take count items)) (count - 0) = elim (min-by count (length items)) [
      | inl small ↦ (omega (arith, size), omega (arith, small), inl (sym size))
      | inr large ↦ (omega (arith, size), omega (arith, large), inl (sym size))
    ]
    in
    let all = rw (take-length items) at (cut-read items (length items) 0 _ count None text p whole) in
    sym all ∙ cut-read items count 0 _ (length (take count items)) None text p short

-- the items of a group, and those after it
pub own-is : (items : List Item) (size : ℕ) (text : List ℕ) (p : Parts)
    → read_from items 0 (min size (length items)) None text p ≡ front_of (take size items) text p
own-is items size text p = rw (← take_min size items) (front-cut items (min size (length items)) text p)

-- a reading of all items, after a fault or after none
abbrev pub front_by : Option ℕ → List Item → List ℕ → Parts → Front
front_by fault items text p = read_from items 0 (length items) fault text p

pub others-is : (items : List Item) (size : ℕ) (fault : Option ℕ) (text : List ℕ) (p : Parts)
    → read_from items size (length items - size) fault text p ≡ front_by fault (drop size items) text p
others-is items size fault text p = rw (length-drop size items) (read_from-drop items size (length items - size) fault text p)

-- a group that is tried, and those after it
abbrev pub tried : ℕ → List Item → (ℕ → Option ℕ) → List ℕ → Parts → Front → Front
tried size items fault text p own =
    after_group (λ left. front_by (fault left) (drop size items) text p) (λ read. front_by None (drop size items) read.1 read.0) own

try-is : (item : Item) (size : ℕ) (items : List Item) (fault : Option ℕ) (text : List ℕ) (p : Parts)
    → try_group item size (λ s n f t q. read_from items s n f t q) (length items) fault text p
    ≡ tried size items (fault_after item fault) text p (front_of (take size items) text p)
try-is item size items fault text p =
    group-same _ _ _ _ _ _ (own-is items size text p) (λ left. others-is items size (fault_after item fault left) text p)
    (λ read. others-is items size None read.1 read.0)

pub optional-is : (size : ℕ) (items : List Item) (text : List ℕ) (p : Parts)
    → front_of (Optional size ∷ items) text p ≡ tried size items (λ left. None) text p (front_of (take size items) text p)
unfolding read_from
optional-is size items text p = try-is (Optional size) size items None text p

pub first-is : (size : ℕ) (items : List Item) (text : List ℕ) (p : Parts)
    → front_of (First size ∷ items) text p ≡ tried size items (λ left. Some left) text p (front_of (take size items) text p)
unfolding read_from
first-is size items text p = try-is (First size) size items None text p

pub or-is : (size : ℕ) (items : List Item) (text : List ℕ) (p : Parts)
    → front_of (Or size ∷ items) text p ≡ front_of (drop size items) text p
unfolding read_from
or-is size items text p = others-is items size None text p

pub instead-is : (size : ℕ) (items : List Item) (left : ℕ) (text : List ℕ) (p : Parts)
    → front_by (Some left) (Or size ∷ items) text p ≡ tried size items (λ other. Some left) text p (front_of (take size items) text p)
unfolding read_from
instead-is size items left text p = try-is (Or size) size items (Some left) text p
