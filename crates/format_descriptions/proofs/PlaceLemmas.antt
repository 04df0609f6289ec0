-- The place of a part is that of the component that gives it, in the choice that is taken.
use Rattle.std.proofs.Common.{◌≡◌, ℕ, zero, suc, ◌+◌, ◌-◌, ◌<◌, true, false, List, [], ◌∷◌, ◌++◌, length, take, refl, sym, ap, ◌∙◌, arith}
use Rattle.std.proofs.Common.{Option, Some, None, Ok, Err, inl, inr, append_assoc, length-append}
use Rattle.std.specs.Prelude.{IsTrue, IfSome, slice_get, Result}
use Rattle.std.proofs.lemmas.Bool.{cases_order, cases_Bool}
use Rattle.std.proofs.lemmas.Option.{slice_get_within}
use Rattle.rfc3339.specs.FormLemmas.{bind_some, mark_takes}
use Rattle.format_descriptions.specs.Choices.{Takes}
use Rattle.format_descriptions.specs.Groups.{has_no_group}
use Rattle.format_descriptions.specs.PartPlaces.{has_part, is_component, place_by, place_of_item, last_place, place_if_read, part_place}
use Rattle.format_descriptions.specs.PlaceLaws.{IsGivenAt}
use Rattle.format_descriptions.specs.Read.{Front, with_part, item_at, front_of, no_parts}
use Rattle.format_descriptions.specs.declared.item.Item.{Item}
use Rattle.format_descriptions.specs.declared.item.Item.TheVariants.{Byte, Part, Optional, First, Or}
use Rattle.format_descriptions.specs.declared.part_places.PartPlace.{PartPlace}
use Rattle.format_descriptions.specs.declared.parts.Parts.{Parts}
use Rattle.format_descriptions.specs.declared.value_refusal.Field.{Field}
use Rattle.format_descriptions.proofs.ChoiceLemmas.{taken-by, taken-choice, choice-no_group, flat-front}
use Rattle.format_descriptions.proofs.GivenLemmas.{Given, NoneAt, taken-given}
use Rattle.format_descriptions.proofs.GroupLemmas.{flat_at}
use Rattle.format_descriptions.proofs.PartKeptLemmas.{no_part}
use Rattle.format_descriptions.proofs.SpelledComponentLemmas.{component-taken}
use Rattle.format_descriptions.proofs.SpelledLemmas.{going-takes, given-takes}

-- ---- the item that gives a part

-- the place of an item, by the readings of the items before it and of those up to it
place-some : (part : Field) (text : List ℕ) (a b : Parts × List ℕ) → has_part part a.0 ≡ false → has_part part b.0 ≡ true
    → place_by part (Ok (a.0, length text - length a.1)) (Ok (b.0, length text - length b.1))
    ≡ Some (record { place = length text - length a.1; length = length text - length b.1 - (length text - length a.1) })
place-some part text a b absent given = rw (absent, given) refl

-- how many bytes a front takes
abbrev counted : List ℕ → Front → Result (Parts × ℕ) ℕ
counted text (Err left) = Err (length text - left)
counted text (Ok read) = Ok (read.0, length text - length read.1)

place-none : (part : Field) (text : List ℕ) (o other : Front)
    → ((a b : Parts × List ℕ) → o ≡ Ok a → other ≡ Ok b → has_part part a.0 ≡ false → has_part part b.0 ≡ true → ⊥)
    → place_by part (counted text o) (counted text other) ≡ None
place-none part text (Err left) other none = refl
place-none part text (Ok a) (Err left) none = refl
place-none part text (Ok a) (Ok b) none = elim (cases_Bool (has_part part a.0)) [
  | inl t ↦ rw t refl
  | inr f ↦ elim (cases_Bool (has_part part b.0)) [
    | inl given ↦ absurd (none a b refl refl f given)
    | inr absent ↦ rw (f, absent) refl
  ]
]

item-none : (part : Field) (items : List Item) (text : List ℕ) (j : ℕ) → NoneAt part None items text no_parts j
    → place_of_item j items text part ≡ None
unfolding place_of_item
item-none part items text j none = elim (cases_Bool (is_component (slice_get items j))) [
  | inl t ↦
      let next : j + 1 ≡ suc j = omega arith in
      rw (t, next) (place-none part text (front_of (take j items) text no_parts) (front_of (take (suc j) items) text no_parts) (none t))
  | inr f ↦ rw f refl
]

-- the place that an item has
abbrev place_from : List ℕ → List ℕ → List ℕ → PartPlace
place_from text start behind = record { place = length text - length start; length = length text - length behind - (length text - length start) }

item-some : (part : Field) (items chosen : List Item) (text : List ℕ) (g : Given part None items chosen text no_parts)
    → place_of_item g.index items text part ≡ Some (place_from text g.start g.behind)
unfolding place_of_item
item-some part items chosen text g =
    let next : g.index + 1 ≡ suc g.index = omega arith in
    let is : is_component (slice_get items g.index) ≡ true = rw g.item refl in
    rw (is, next, g.without, g.upto)
    (place-some part text (g.earlier, g.start) (with_part g.component g.number g.earlier, g.behind) g.absent g.given)

last-some : (part : Field) (items : List Item) (text : List ℕ) (index : ℕ) (at : PartPlace) (count : ℕ) → index < count
    → place_of_item index items text part ≡ Some at → ((j : ℕ) → index < j → place_of_item j items text part ≡ None)
    → last_place count items text part ≡ Some at
unfolding last_place
last-some part items text index at zero few is none = absurd (omega (arith, few))
last-some part items text index at (suc count) few is none = elim (cases_order index count) [
  | inl same ↦ rw (sym same, is) refl
  | inr (inl below) ↦ rw (none count below) (last-some part items text index at count below is none)
  | inr (inr beyond) ↦ absurd (omega (arith, few, beyond))
]

place-of-read : (items : List Item) (text : List ℕ) (part : Field) (read : Parts × List ℕ) → front_of items text no_parts ≡ Ok read
    → has_part part read.0 ≡ true → part_place items text part ≡ last_place (length items) items text part
unfolding part_place
place-of-read items text part read h given = rw (h, given) refl

-- ---- the text before the place

flat-fronts : (items : List Item) (text : List ℕ) (p : Parts) (read : Parts × List ℕ) → IsTrue (has_no_group items)
    → flat_at items text p ≡ Ok read → (front : List ℕ) × (text ≡ front ++ read.1)
unfolding flat_at item_at
flat-fronts [] text p read plain h = let pair : (p, text) ≡ read = cc in ([], ap (λ (z : Parts × List ℕ). z.1) pair)
flat-fronts (Byte byte ∷ items) text p read plain h =
    let went = going-takes text _ _ read h in
    let byte_read = bind_some _ _ _ went.1 in
    let pair : (p, byte_read.0) ≡ went.0 = cc in
    let same : byte_read.0 ≡ went.0.1 = ap (λ (z : Parts × List ℕ). z.1) pair in
    let others = flat-fronts items went.0.1 went.0.0 read plain went.2 in
    (byte ∷ others.0, mark_takes byte text byte_read.0 byte_read.1 ∙ ap (λ (l : List ℕ). byte ∷ l) (same ∙ others.1))
flat-fronts (Part c ∷ items) text p read plain h =
    let went = going-takes text _ _ read h in
    let number = bind_some _ _ _ went.1 in
    let given = given-takes c p number.0 went.0 _ refl number.2 in
    let same : went.0.1 ≡ number.0.1 = ap (λ (z : Parts × List ℕ). z.1) given.1 in
    let piece = component-taken c text number.0.0 number.0.1 number.1 in
    let others = flat-fronts items went.0.1 went.0.0 read plain went.2 in (
      piece.piece ++ others.0,
      piece.front ∙ ap (λ (l : List ℕ). piece.piece ++ l) (sym same ∙ others.1) ∙ sym (append_assoc piece.piece others.0 read.1),
    )
flat-fronts (Optional size ∷ items) text p read plain h = absurd cc
flat-fronts (First size ∷ items) text p read plain h = absurd cc
flat-fronts (Or size ∷ items) text p read plain h = absurd cc

no_group-left : (first second : List Item) → IsTrue (has_no_group (first ++ second)) → IsTrue (has_no_group first)
no_group-left [] second h = refl
no_group-left (Byte byte ∷ first) second h = no_group-left first second h
no_group-left (Part c ∷ first) second h = no_group-left first second h
no_group-left (Optional size ∷ first) second h = absurd cc
no_group-left (First size ∷ first) second h = absurd cc
no_group-left (Or size ∷ first) second h = absurd cc

-- ---- the law

-- the choice that is taken, and the component that gives the part
abbrev Giver : List Item → List ℕ → Field → Parts × List ℕ → Type 0
Giver items text part read = (chosen : List Item) × Takes false items chosen text no_parts read.1 read.0 × Given part None items chosen text no_parts

giver : (items : List Item) (text : List ℕ) (part : Field) (read : Parts × List ℕ) → front_of items text no_parts ≡ Ok read
    → has_part part read.0 ≡ true → Giver items text part read
giver items text part read h given =
    let taken = taken-by (length items) items None text no_parts read (omega arith) h in
    (taken.0, taken.1, taken-given part 0 false items taken.0 text no_parts read.1 read.0 taken.1 (no_part part) given)

giver-place : (items : List Item) (text : List ℕ) (part : Field) (read : Parts × List ℕ) (g : Giver items text part read)
    → front_of items text no_parts ≡ Ok read → has_part part read.0 ≡ true
    → part_place items text part ≡ Some (place_from text g.2.start g.2.behind)
giver-place items text part read g h given =
    place-of-read items text part read h given
    ∙ last-some part items text g.2.index (place_from text g.2.start g.2.behind) (length items)
    (slice_get_within items g.2.index (Part g.2.component) g.2.item) (item-some part items g.0 text g.2)
    (λ j later. item-none part items text j (g.2.last j later))

same-place : (a b : PartPlace) → Some a ≡ Some b → a ≡ b
same-place a b h = cc

giver-is : (items : List Item) (text : List ℕ) (part : Field) (read : Parts × List ℕ) (at : PartPlace) (g : Giver items text part read)
    → at ≡ place_from text g.2.start g.2.behind → IsGivenAt items text part at
giver-is items text part read at g is =
    let plain = choice-no_group false items g.0 (taken-choice _ _ _ _ _ _ _ g.1) in
    let plain_before = no_group-left g.2.before (Part g.2.component ∷ g.2.after) (rw (sym g.2.split) plain) in
    let front = flat-fronts g.2.before text no_parts (g.2.earlier, g.2.start) plain_before g.2.flat in
    let got = component-taken g.2.component g.2.start g.2.number g.2.behind g.2.read in
    let all : length text ≡ length front.0 + length g.2.start = ap (λ (l : List ℕ). length l) front.1 ∙ length-append front.0 g.2.start in
    let own : length g.2.start ≡ length got.piece + length g.2.behind = ap (λ (l : List ℕ). length l) got.front ∙ length-append got.piece g.2.behind in
    let place : at.place ≡ length text - length g.2.start = ap (λ (z : PartPlace). z.place) is in
    let size : at.length ≡ length text - length g.2.behind - (length text - length g.2.start) = ap (λ (z : PartPlace). z.length) is in
    record {
      before = g.2.before;
      component = g.2.component;
      after = g.2.after;
      front = front.0;
      piece = got.piece;
      behind = g.2.behind;
      rest = read.1;
      number = g.2.number;
      earlier = g.2.earlier;
      all = read.0;
      taken = rw (sym g.2.split) g.1;
      spelled = front.1 ∙ ap (λ (l : List ℕ). front.0 ++ l) got.front ∙ sym (append_assoc front.0 got.piece g.2.behind);
      place = omega (arith, place, all);
      size = omega (arith, size, all, own);
      read_before = rw (sym got.front) (sym (flat-front g.2.before text no_parts plain_before) ∙ g.2.flat);
      read = rw (sym got.front) g.2.read;
      is = got.is;
      absent = g.2.absent;
      given = g.2.given;
    }

place-read : (items : List Item) (text : List ℕ) (part : Field) (at : PartPlace) (o : Front) → front_of items text no_parts ≡ o
    → place_if_read items text part o ≡ Some at → (read : Parts × List ℕ) × (o ≡ Ok read) × (has_part part read.0 ≡ true)
place-read items text part at (Err left) h e = absurd cc
place-read items text part at (Ok read) h e = elim (cases_Bool (has_part part read.0)) [
  | inl t ↦ (read, refl, t)
  | inr f ↦ let no = rw f at e in absurd cc
]

place-is : (items : List Item) (text : List ℕ) (part : Field) (at : PartPlace) → part_place items text part ≡ Some at
    → place_if_read items text part (front_of items text no_parts) ≡ Some at
unfolding part_place
place-is items text part at h = h

pub places-given : (items : List Item) (text : List ℕ) (part : Field) (at : PartPlace) → part_place items text part ≡ Some at
    → IsGivenAt items text part at
places-given items text part at h =
    let read = place-read items text part at (front_of items text no_parts) refl (place-is items text part at h) in
    let g = giver items text part read.0 read.1 read.2 in
    giver-is items text part read.0 at g (same-place at _ (sym h ∙ giver-place items text part read.0 g read.1 read.2))

pub places-found : (items : List Item) (text rest : List ℕ) (part : Field) (p : Parts) → front_of items text no_parts ≡ Ok (p, rest)
    → has_part part p ≡ true → (at : PartPlace) × (part_place items text part ≡ Some at)
places-found items text rest part p h given =
    let g = giver items text part (p, rest) h given in
    (place_from text g.2.start g.2.behind, giver-place items text part (p, rest) g h given)

-- the place that is returned
pub places-returned : (items : List Item) (text : List ℕ) (part : Field) (result : Option PartPlace) → result ≡ part_place items text part
    → IfSome result (λ at. IsGivenAt items text part at)
places-returned items text part None h = tt
places-returned items text part (Some at) h = places-given items text part at (sym h)
