-- Groups of items: a number of items that is passed over, and what a description reads of what it writes.
use Rattle.std.proofs.Common.{◌≡◌, ℕ, zero, suc, ◌-◌, List, [], ◌∷◌, ◌++◌, length, drop, min, refl, Option, Some, None, Ok, Err}
use Rattle.format_descriptions.specs.Groups.{written_from, written_items}
use Rattle.format_descriptions.specs.Read.{Front, item_at, going_on, after_group, read_from, items_at}
use Rattle.format_descriptions.specs.declared.item.Item.{Item}
use Rattle.format_descriptions.specs.declared.item.Item.TheVariants.{Byte, Part, Optional, First, Or}
use Rattle.format_descriptions.specs.declared.parts.Parts.{Parts}

-- items that are passed over
pub read_from-drop : (items : List Item) (skip count : ℕ) (fault : Option ℕ) (text : List ℕ) (p : Parts)
    → read_from items skip count fault text p ≡ read_from (drop skip items) 0 count fault text p
unfolding read_from
read_from-drop [] zero count fault text p = refl
read_from-drop [] (suc skip) count fault text p = refl
read_from-drop (item ∷ items) zero count fault text p = refl
read_from-drop (item ∷ items) (suc skip) count fault text p = read_from-drop items skip count fault text p

pub written_from-drop : (items : List Item) (skip count : ℕ) → written_from items skip count ≡ written_from (drop skip items) 0 count
unfolding written_from
written_from-drop [] zero count = refl
written_from-drop [] (suc skip) count = refl
written_from-drop (item ∷ items) zero count = refl
written_from-drop (item ∷ items) (suc skip) count = written_from-drop items skip count

-- items that are read one after another, without groups
unfoldable pub flat_at : List Item → List ℕ → Parts → Front
flat_at [] text p = Ok (p, text)
flat_at (item ∷ items) text p = going_on text (λ read. flat_at items read.1 read.0) (item_at item text p)

-- what follows a reading
abbrev pub then_read : (Parts × List ℕ → Front) → Front → Front
then_read next (Err left) = Err left
then_read next (Ok read) = next read

going_on-then : (text : List ℕ) (f g : Parts × List ℕ → Front) (next : Parts × List ℕ → Front) (o : Option (Parts × List ℕ))
    → ((read : Parts × List ℕ) → f read ≡ then_read next (g read)) → going_on text f o ≡ then_read next (going_on text g o)
going_on-then text f g next None same = refl
going_on-then text f g next (Some read) same = same read

pub flat_at-append : (first second : List Item) (text : List ℕ) (p : Parts)
    → flat_at (first ++ second) text p ≡ then_read (λ read. flat_at second read.1 read.0) (flat_at first text p)
unfolding flat_at
flat_at-append [] second text p = refl
flat_at-append (item ∷ first) second text p =
    going_on-then text _ _ _ (item_at item text p) (λ read. flat_at-append first second read.1 read.0)

going_on-same : (text : List ℕ) (f g : Parts × List ℕ → Front) (o : Option (Parts × List ℕ)) (q : Parts × List ℕ)
    → ((read : Parts × List ℕ) → f read ≡ Ok q → g read ≡ Ok q) → going_on text f o ≡ Ok q → going_on text g o ≡ Ok q
going_on-same text f g None q others h = absurd cc
going_on-same text f g (Some read) q others h = others read h

after_group-same : (faulty : ℕ → Front) (f g : Parts × List ℕ → Front) (a b : Front) (q : Parts × List ℕ)
    → ((read : Parts × List ℕ) → a ≡ Ok read → b ≡ Ok read) → ((read : Parts × List ℕ) → f read ≡ Ok q → g read ≡ Ok q)
    → then_read f a ≡ Ok q → after_group faulty g b ≡ Ok q
after_group-same faulty f g (Err left) b q own others h = absurd cc
after_group-same faulty f g (Ok read) b q own others h = rw (own read refl) (others read h)

-- a text that the items which are written read, one after another, is read so by the description
pub read_from-written : (items : List Item) (skip count : ℕ) (text : List ℕ) (p : Parts) (q : Parts × List ℕ)
    → flat_at (written_from items skip count) text p ≡ Ok q → read_from items skip count None text p ≡ Ok q
unfolding read_from written_from flat_at
read_from-written [] skip count text p q h = h
read_from-written (item ∷ items) (suc skip) count text p q h = read_from-written items skip count text p q h
read_from-written (item ∷ items) zero zero text p q h = h
read_from-written (Byte byte ∷ items) zero (suc count) text p q h =
    going_on-same text _ _ _ q (λ read e. read_from-written items 0 count read.1 read.0 q e) h
read_from-written (Part component ∷ items) zero (suc count) text p q h =
    going_on-same text _ _ _ q (λ read e. read_from-written items 0 count read.1 read.0 q e) h
read_from-written (Optional size ∷ items) zero (suc count) text p q h =
    let both = rw (flat_at-append (written_from items 0 (min size count)) (written_from items size (count - size)) text p) at h in
    after_group-same _ (λ read. flat_at (written_from items size (count - size)) read.1 read.0) _ (flat_at (written_from items 0 (min size count)) text p) _ q
    (λ read e. read_from-written items 0 (min size count) text p read e)
    (λ read e. read_from-written items size (count - size) read.1 read.0 q e) both
read_from-written (First size ∷ items) zero (suc count) text p q h =
    let both = rw (flat_at-append (written_from items 0 (min size count)) (written_from items size (count - size)) text p) at h in
    after_group-same _ (λ read. flat_at (written_from items size (count - size)) read.1 read.0) _ (flat_at (written_from items 0 (min size count)) text p) _ q
    (λ read e. read_from-written items 0 (min size count) text p read e)
    (λ read e. read_from-written items size (count - size) read.1 read.0 q e) both
read_from-written (Or size ∷ items) zero (suc count) text p q h = read_from-written items size (count - size) text p q h

-- a reading to the end
pub items_at-written : (items : List Item) (text : List ℕ) (p q : Parts) → flat_at (written_items items) text p ≡ Ok (q, []) → items_at items text p ≡ Ok q
items_at-written items text p q h = rw (read_from-written items 0 (length items) text p (q, []) h) refl
