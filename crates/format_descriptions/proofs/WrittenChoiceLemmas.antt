-- What a description writes is one of its choices.
use Rattle.std.proofs.Common.{◌≡◌, ℕ, zero, suc, ◌-◌, ◌≤◌, Bool, false, List, [], ◌∷◌, ◌++◌, length, take, drop, min, refl, sym, ap, ◌∙◌, arith}
use Rattle.std.proofs.Common.{inl, inr}
use Rattle.std.proofs.Math.Seq.{take-length}
use Rattle.std.proofs.lemmas.List.{length-take, take_min, length-drop}
use Rattle.format_descriptions.specs.Choices.{IsChoice}
use Rattle.format_descriptions.specs.Groups.{size_of, own_items, written_by, written_from, written_items}
use Rattle.format_descriptions.specs.declared.item.Item.{Item}
use Rattle.format_descriptions.specs.declared.item.Item.TheVariants.{Byte, Part, Optional, First, Or}
use Rattle.format_descriptions.proofs.ChoiceLemmas.{take-fewer, drop-fewer}
use Rattle.format_descriptions.proofs.CutLemmas.{Kept, kept-group, kept-others, kept-room, kept-less, kept-next, no_room, min-by}
use Rattle.format_descriptions.proofs.GroupLemmas.{written_from-drop}

none-written : (items : List Item) (skip : ℕ) → written_from items skip 0 ≡ []
unfolding written_from
none-written [] skip = refl
none-written (item ∷ items) zero = refl
none-written (item ∷ items) (suc skip) = none-written items skip

-- the items of a group, and those after it
group-written : (is_other : Bool) (a b c d : List Item) → a ≡ b → c ≡ d → own_items is_other a ++ c ≡ own_items is_other b ++ d
group-written is_other a b c d own others = rw (own, others) refl

item-written : (item : Item) (kept count room : ℕ) (a b : ℕ → ℕ → List Item) → Kept kept count room
    → ((s k n : ℕ) → Kept k n (room - s) → a s k ≡ b s n) → written_by item a kept (size_of item) ≡ written_by item b count (size_of item)
item-written (Byte byte) kept count room a b k same = ap (λ (l : List Item). Byte byte ∷ l) (same 0 kept count (kept-room kept count room k))
item-written (Part c) kept count room a b k same = ap (λ (l : List Item). Part c ∷ l) (same 0 kept count (kept-room kept count room k))
item-written (Optional size) kept count room a b k same =
    group-written false _ _ _ _ (same 0 _ _ (kept-room _ _ room (kept-group size kept count room k)))
    (same size _ _ (kept-others size kept count room k))
item-written (First size) kept count room a b k same =
    group-written false _ _ _ _ (same 0 _ _ (kept-room _ _ room (kept-group size kept count room k)))
    (same size _ _ (kept-others size kept count room k))
item-written (Or size) kept count room a b k same = same size _ _ (kept-others size kept count room k)

-- a list that is cut after `most` items
cut-written : (items : List Item) (most skip kept count : ℕ) → Kept kept count (most - skip)
    → written_from items skip kept ≡ written_from (take most items) skip count
unfolding written_from
cut-written [] zero skip kept count k = refl
cut-written [] (suc most) skip kept count k = refl
cut-written (item ∷ items) zero skip kept count k =
    let none : kept ≡ 0 = omega (arith, k.1) in rw none (none-written (item ∷ items) skip)
cut-written (item ∷ items) (suc most) (suc skip) kept count k = cut-written items most skip kept count (kept-less kept count most skip k)
cut-written (item ∷ items) (suc most) zero zero zero k = refl
cut-written (item ∷ items) (suc most) zero zero (suc count) k = absurd (no_room count most k)
cut-written (item ∷ items) (suc most) zero (suc kept) zero k = absurd (omega (arith, k.0))
cut-written (item ∷ items) (suc most) zero (suc kept) (suc count) k =
    item-written item kept count most _ _ (kept-next kept count most k) (λ s m n e. cut-written items most s m n e)

front-written : (items : List Item) (count : ℕ) → written_from items 0 count ≡ written_items (take count items)
front-written items count =
    let size : length (take count items) ≡ min count (length items) = length-take count items in
    let whole : Kept (min count (length items)) count (length items - 0) = elim (min-by count (length items)) [
      | inl small ↦ (omega (arith, small.1), omega (arith, small), inl small.1)
      | inr large ↦ (omega (arith, large), omega (arith, large), inr (omega (arith, large)))
    ]
    in
    let short : Kept (min count (length items)) (length (take count items)) (count - 0) = elim (min-by count (length items)) [
      | inl small ↦ (omega (arith, size), omega (arith, small), inl (sym size))
      | inr large ↦ (omega (arith, size), omega (arith, large), inl (sym size))
    ]
    in
    let all = rw (take-length items) at (cut-written items (length items) 0 _ count whole) in
    sym all ∙ cut-written items count 0 _ (length (take count items)) short

own-written : (size : ℕ) (items : List Item) → written_from items 0 (min size (length items)) ≡ written_items (take size items)
own-written size items = rw (← take_min size items) (front-written items (min size (length items)))

others-written : (size : ℕ) (items : List Item) → written_from items size (length items - size) ≡ written_items (drop size items)
others-written size items = rw (length-drop size items) (written_from-drop items size (length items - size))

written-by : (n : ℕ) (items : List Item) → length items ≤ n → IsChoice false items (written_items items)
unfolding written_from
written-by n [] few = IsChoice.ends
written-by zero (item ∷ items) few = absurd (omega (arith, few))
written-by (suc n) (Byte byte ∷ items) few = IsChoice.byte (written-by n items (omega (arith, few)))
written-by (suc n) (Part c ∷ items) few = IsChoice.part (written-by n items (omega (arith, few)))
written-by (suc n) (Optional size ∷ items) few =
    rw (own-written size items, others-written size items)
    (IsChoice.optional (written-by n (take size items) (take-fewer size items n (omega (arith, few))))
    (written-by n (drop size items) (drop-fewer size items n (omega (arith, few)))))
written-by (suc n) (First size ∷ items) few =
    rw (own-written size items, others-written size items)
    (IsChoice.first (written-by n (take size items) (take-fewer size items n (omega (arith, few))))
    (written-by n (drop size items) (drop-fewer size items n (omega (arith, few)))))
written-by (suc n) (Or size ∷ items) few =
    rw (others-written size items)
    (IsChoice.other_left_out (written-by n (drop size items) (drop-fewer size items n (omega (arith, few)))))

pub written-choice : (items : List Item) → IsChoice false items (written_items items)
written-choice items = written-by (length items) items (omega arith)
