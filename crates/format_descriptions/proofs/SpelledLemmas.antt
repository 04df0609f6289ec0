-- Items read what they spell.
use Rattle.std.proofs.Common.{◌≡◌, ℕ, Bool, true, false, List, [], ◌∷◌, length, refl, sym, ap, Option, Some, None, Ok, Err, inl, inr}
use Rattle.std.specs.Char.{is_ascii_digit}
use Rattle.std.specs.Prelude.{IsTrue, not, ◌||◌}
use Rattle.std.proofs.lemmas.Bool.{and_parts, cases_Bool}
use Rattle.rfc3339.specs.FormLemmas.{bind_some, mark_takes, mark_again}
use Rattle.rfc3339.specs.Reading.{digit_at}
use Rattle.format_descriptions.specs.Groups.{has_no_group}
use Rattle.format_descriptions.specs.Read.{Front, agrees, with_part, part_given, item_at, going_on, read_from, at_end, items_at}
use Rattle.format_descriptions.specs.RoundTrips.{starts_apart}
use Rattle.format_descriptions.specs.Spelled.{Spells, reads_digits, is_end, are_none, may_follow, are_separate}
use Rattle.format_descriptions.specs.declared.component.Component.{Component}
use Rattle.format_descriptions.specs.declared.item.Item.{Item}
use Rattle.format_descriptions.specs.declared.item.Item.TheVariants.{Byte, Part, Optional, First, Or}
use Rattle.format_descriptions.specs.declared.parts.Parts.{Parts}
use Rattle.format_descriptions.proofs.SpelledApartLemmas.{component-no_digit}
use Rattle.format_descriptions.proofs.SpelledComponentLemmas.{component-taken, component-again}
use Rattle.format_descriptions.proofs.SpelledDigitLemmas.{no_digit-seen}

-- ---- the items that may follow a component

-- a text that items spell begins with no digit
no_digit-spelled : (items : List Item) (text : List ℕ) (p q : Parts) → Spells items text p q → IsTrue (starts_apart items)
    → digit_at text ≡ None
unfolding digit_at
no_digit-spelled [] text p q s h = rw s.0 refl
no_digit-spelled (Byte byte ∷ items) text p q s h = elim (cases_Bool (is_ascii_digit byte)) [
  | inl t ↦ let e = rw t at h in absurd cc
  | inr f ↦ rw s.1 (no_digit-seen byte s.0 f)
]
no_digit-spelled (Part c ∷ items) text p q s h = rw s.3 (component-no_digit c s.0 s.1 s.2 h s.4)
no_digit-spelled (Optional size ∷ items) text p q s h = absurd cc
no_digit-spelled (First size ∷ items) text p q s h = absurd cc
no_digit-spelled (Or size ∷ items) text p q s h = absurd cc

-- the second of two facts, where the first is one
follows : (a b : Bool) → IsTrue (not a || b) → IsTrue a → IsTrue b
follows true b h is = h
follows false b h is = absurd cc

pub none-spelled : (items : List Item) (text : List ℕ) (p q : Parts) → Spells items text p q → IsTrue (are_none items) → text ≡ []
none-spelled [] text p q s h = s.0
none-spelled (item ∷ items) text p q s h = absurd cc

pub follower-apart : (c : Component) (items : List Item) (text : List ℕ) (p q : Parts) → Spells items text p q → IsTrue (may_follow c items)
    → (IsTrue (reads_digits c) → digit_at text ≡ None) × (IsTrue (is_end c) → text ≡ [])
follower-apart c items text p q s h =
    let both = and_parts (not (is_end c) || are_none items) (not (reads_digits c) || starts_apart items) h in (
      λ digits. no_digit-spelled items text p q s (follows (reads_digits c) (starts_apart items) both.1 digits),
      λ end. none-spelled items text p q s (follows (is_end c) (are_none items) both.0 end),
    )

-- ---- items

pub given-takes : (c : Component) (p : Parts) (read : (Bool × ℕ) × List ℕ) (q : Parts × List ℕ) (b : Bool) → agrees c read.0 p ≡ b
    → part_given c p read ≡ Some q → (agrees c read.0 p ≡ true) × (q ≡ (with_part c read.0 p, read.1))
given-takes c p read q true e h =
    let is : Some (with_part c read.0 p, read.1) ≡ Some q = rw e at h in
    let pair : (with_part c read.0 p, read.1) ≡ q = cc in (e, sym pair)
given-takes c p read q false e h = let is = rw e at h in absurd cc

pub going-takes : (text : List ℕ) (next : Parts × List ℕ → Front) (o : Option (Parts × List ℕ)) (q : Parts × List ℕ)
    → going_on text next o ≡ Ok q
    → (read : Parts × List ℕ) × (o ≡ Some read) × (next read ≡ Ok q)
going-takes text next None q h = absurd cc
going-takes text next (Some read) q h = (read, refl, h)

pub same-read : (items : List Item) (count : ℕ) (a b q : Parts × List ℕ) → a ≡ b → read_from items 0 count None b.1 b.0 ≡ Ok q
    → read_from items 0 count None a.1 a.0 ≡ Ok q
same-read items count a b q e h = rw e h

front-spelled : (items : List Item) (text : List ℕ) (p q : Parts) → IsTrue (has_no_group items)
    → read_from items 0 (length items) None text p ≡ Ok (q, [])
    → Spells items text p q
unfolding read_from item_at
front-spelled [] text p q fixed h =
    let pair : (p, text) ≡ (q, []) = cc in
    (ap (λ (z : Parts × List ℕ). z.1) pair, ap (λ (z : Parts × List ℕ). z.0) pair)
front-spelled (Byte byte ∷ items) text p q fixed h =
    let went = going-takes text _ _ (q, []) h in
    let byte_read = bind_some _ _ _ went.1 in
    let pair : (p, byte_read.0) ≡ went.0 = cc in
    let others = same-read items (length items) (p, byte_read.0) went.0 (q, []) pair went.2 in
    (byte_read.0, mark_takes byte text byte_read.0 byte_read.1, front-spelled items byte_read.0 p q fixed others)
front-spelled (Part c ∷ items) text p q flat h =
    let went = going-takes text _ _ (q, []) h in
    let read = bind_some _ _ _ went.1 in
    let given = given-takes c p read.0 went.0 _ refl read.2 in
    let spelled = component-taken c text read.0.0 read.0.1 read.1 in (
      read.0.0,
      spelled.piece,
      read.0.1,
      spelled.front,
      spelled.is,
      given.0,
      front-spelled items read.0.1 (with_part c read.0.0 p) q flat
          (same-read items (length items) (with_part c read.0.0 p, read.0.1) went.0 (q, []) (sym given.1) went.2),
    )
front-spelled (Optional size ∷ items) text p q fixed h = absurd cc
front-spelled (First size ∷ items) text p q fixed h = absurd cc
front-spelled (Or size ∷ items) text p q fixed h = absurd cc

front-read : (items : List Item) (text : List ℕ) (p q : Parts) → IsTrue (are_separate items) → Spells items text p q
    → read_from items 0 (length items) None text p ≡ Ok (q, [])
unfolding read_from item_at
front-read [] text p q fixed s = rw (s.0, s.1) refl
front-read (Byte byte ∷ items) text p q fixed s =
    rw (s.1, mark_again byte s.0) (front-read items s.0 p q fixed s.2)
front-read (Part c ∷ items) text p q fixed s =
    let both = and_parts (may_follow c items) (are_separate items) fixed in
    let apart = follower-apart c items s.2 _ q s.6 both.0 in
    let read = component-again c s.0 s.1 s.2 apart.0 apart.1 s.4 in
    rw (s.3, read, s.5) (front-read items s.2 (with_part c s.0 p) q both.1 s.6)
front-read (Optional size ∷ items) text p q fixed s = absurd cc
front-read (First size ∷ items) text p q fixed s = absurd cc
front-read (Or size ∷ items) text p q fixed s = absurd cc

-- what is read, and the rest of the text
abbrev read_to : Parts → List ℕ → Front
read_to p rest = Ok (p, rest)

rest-takes : (p : Parts) (rest : List ℕ) (q : Parts) → at_end (read_to p rest) ≡ Ok q → read_to p rest ≡ read_to q []
rest-takes p [] q h = let same : p ≡ q = cc in rw same refl
rest-takes p (first ∷ rest) q h = absurd cc

pub end-takes : (front : Front) (q : Parts) → at_end front ≡ Ok q → front ≡ read_to q []
end-takes (Err left) q h = absurd cc
end-takes (Ok read) q h = rest-takes read.0 read.1 q h

pub items-spelled : (items : List Item) (text : List ℕ) (p q : Parts) → IsTrue (has_no_group items) → items_at items text p ≡ Ok q
    → Spells items text p q
items-spelled items text p q flat h = front-spelled items text p q flat (end-takes _ q h)

pub items-read : (items : List Item) (text : List ℕ) (p q : Parts) → IsTrue (are_separate items) → Spells items text p q
    → items_at items text p ≡ Ok q
items-read items text p q fixed s = rw (front-read items text p q fixed s) refl
