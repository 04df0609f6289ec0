-- What items lack, one after another, and their groups.
use Rattle.std.proofs.Common.{◌≡◌, ℕ, zero, suc, ◌-◌, Bool, true, false, List, [], ◌∷◌, ◌++◌, length, drop, min, refl, sym, Option, Some, None, arith}
use Rattle.std.specs.Prelude.{if◌then◌else◌}
use Rattle.format_descriptions.specs.Groups.{size_of, is_other, written_from}
use Rattle.format_descriptions.specs.Kinds.{flat_lacking, by_kind}
use Rattle.format_descriptions.specs.declared.component.Component.{Component}
use Rattle.format_descriptions.specs.declared.item.Item.{Item}
use Rattle.format_descriptions.specs.declared.item.Item.TheVariants.{Byte, Part, Optional, First, Or}
use Rattle.format_descriptions.proofs.GroupLemmas.{written_from-drop}

-- the first of what one list of items lacks and another
abbrev pub or_others : Option Component → Option Component → Option Component
or_others None others = others
or_others (Some component) others = Some component

kind_step : (known : Bool) (c : Component) (a b others : Option Component) → a ≡ or_others b others
    → (if known then a else Some c) ≡ or_others (if known then b else Some c) others
kind_step true c a b others same = same
kind_step false c a b others same = refl

flat_lacking-append : (date time offset : Bool) (first second : List Item)
    → flat_lacking date time offset (first ++ second) ≡ or_others (flat_lacking date time offset first) (flat_lacking date time offset second)
unfolding flat_lacking
flat_lacking-append date time offset [] second = refl
flat_lacking-append date time offset (Byte byte ∷ first) second = flat_lacking-append date time offset first second
flat_lacking-append date time offset (Optional size ∷ first) second = flat_lacking-append date time offset first second
flat_lacking-append date time offset (First size ∷ first) second = flat_lacking-append date time offset first second
flat_lacking-append date time offset (Or size ∷ first) second = flat_lacking-append date time offset first second
flat_lacking-append date time offset (Part c ∷ first) second =
    kind_step (by_kind c date time offset) c _ _ _ (flat_lacking-append date time offset first second)

pub lacking_ends : (date time offset : Bool) (items : List Item) (count : ℕ) (all : Option Component) → count ≡ 0
    → flat_lacking date time offset (written_from items 0 count) ≡ all → all ≡ None
unfolding flat_lacking written_from
lacking_ends date time offset [] count all none so = sym so
lacking_ends date time offset (item ∷ items) zero all none so = sym so
lacking_ends date time offset (item ∷ items) (suc count) all none so = absurd (omega (arith, none))

pub lacking_none : (date time offset : Bool) (items : List Item) (count : ℕ) (all : Option Component) → length items ≡ 0
    → flat_lacking date time offset (written_from items 0 count) ≡ all → all ≡ None
unfolding flat_lacking written_from
lacking_none date time offset [] count all none so = sym so
lacking_none date time offset (item ∷ items) count all none so = absurd (omega (arith, none))

pub lacking_part : (date time offset : Bool) (item : Item) (c : Component) (items others : List Item) (count n : ℕ) (all : Option Component)
    → items ≡ item ∷ others → count ≡ suc n → item ≡ Part c → false ≡ by_kind c date time offset
    → flat_lacking date time offset (written_from items 0 count) ≡ all → all ≡ Some c
unfolding flat_lacking written_from
lacking_part date time offset item c items others count n all front place part kind so = sym (rw (front, place, part, ← kind) at so)

pub part_on : (date time offset : Bool) (item : Item) (c : Component) (items others : List Item) (count n : ℕ) (all : Option Component)
    → items ≡ item ∷ others → count ≡ suc n → item ≡ Part c → true ≡ by_kind c date time offset
    → flat_lacking date time offset (written_from items 0 count) ≡ all → flat_lacking date time offset (written_from others 0 n) ≡ all
unfolding flat_lacking written_from
part_on date time offset item c items others count n all front place part kind so = rw (front, place, part, ← kind) at so

pub byte_on : (date time offset : Bool) (item : Item) (items others : List Item) (count n : ℕ) (all : Option Component)
    → items ≡ item ∷ others → count ≡ suc n → None ≡ size_of item → ((c : Component) → item ≡ Part c → ⊥)
    → flat_lacking date time offset (written_from items 0 count) ≡ all → flat_lacking date time offset (written_from others 0 n) ≡ all
unfolding flat_lacking written_from
byte_on date time offset (Byte byte) items others count n all front place plain other so = rw (front, place) at so
byte_on date time offset (Part c) items others count n all front place plain other so = absurd (other c refl)
byte_on date time offset (Optional size) items others count n all front place plain other so = absurd cc
byte_on date time offset (First size) items others count n all front place plain other so = absurd cc
byte_on date time offset (Or size) items others count n all front place plain other so = absurd cc

pub lacking_group : (date time offset : Bool) (item : Item) (c : Component) (items others : List Item) (size count n : ℕ) (all : Option Component)
    → items ≡ item ∷ others → count ≡ suc n → Some size ≡ size_of item → is_other item ≡ false
    → Some c ≡ flat_lacking date time offset (written_from others 0 (min size n))
    → flat_lacking date time offset (written_from items 0 count) ≡ all → all ≡ Some c
unfolding written_from
lacking_group date time offset item c items others size count n all front place head own is so =
    let both =
    rw (front, place, ← head, own, flat_lacking-append date time offset (written_from others 0 (min size n)) (written_from others size (n - size)))
    at so
    in
    sym (rw (← is) at both)

pub group_on : (date time offset : Bool) (item : Item) (items others : List Item) (size count n : ℕ) (all : Option Component)
    → items ≡ item ∷ others → count ≡ suc n → Some size ≡ size_of item → is_other item ≡ false
    → None ≡ flat_lacking date time offset (written_from others 0 (min size n))
    → flat_lacking date time offset (written_from items 0 count) ≡ all → flat_lacking date time offset (written_from (drop size others) 0 (n - size)) ≡ all
unfolding written_from
group_on date time offset item items others size count n all front place head own is so =
    let both =
    rw (front, place, ← head, own, flat_lacking-append date time offset (written_from others 0 (min size n)) (written_from others size (n - size)))
    at so
    in
    rw (← written_from-drop others size (n - size)) (rw (← is) at both)

pub other_on : (date time offset : Bool) (item : Item) (items others : List Item) (size count n : ℕ) (all : Option Component)
    → items ≡ item ∷ others → count ≡ suc n → Some size ≡ size_of item → is_other item ≡ true
    → flat_lacking date time offset (written_from items 0 count) ≡ all → flat_lacking date time offset (written_from (drop size others) 0 (n - size)) ≡ all
unfolding written_from
other_on date time offset item items others size count n all front place head other so =
    rw (← written_from-drop others size (n - size)) (rw (front, place, ← head, other) at so)
