-- What is read of a text is what the choice reads that is taken.
use Rattle.std.proofs.Common.{◌≡◌, ℕ, zero, suc, ◌≤◌, Bool, true, false, List, [], ◌∷◌, ◌++◌, length, take, drop, refl, sym, ◌∙◌, arith}
use Rattle.std.proofs.Common.{Option, Some, None, Ok, Err}
use Rattle.std.specs.Prelude.{IsTrue, is_some}
use Rattle.std.proofs.Math.Nat.{min-le_right}
use Rattle.std.proofs.lemmas.List.{length-take, length-drop}
use Rattle.rfc3339.specs.FormLemmas.{bind_some, mark_takes, mark_again}
use Rattle.format_descriptions.specs.Choices.{IsChoice, Takes}
use Rattle.format_descriptions.specs.Groups.{has_no_group}
use Rattle.format_descriptions.specs.Read.{Front, with_part, item_at, going_on, read_from, front_of, items_at}
use Rattle.format_descriptions.specs.Spelled.{Spells}
use Rattle.format_descriptions.specs.declared.item.Item.{Item}
use Rattle.format_descriptions.specs.declared.item.Item.TheVariants.{Byte, Part, Optional, First, Or}
use Rattle.format_descriptions.specs.declared.parts.Parts.{Parts}
use Rattle.format_descriptions.proofs.CutLemmas.{front_by, tried, optional-is, first-is, or-is, instead-is}
use Rattle.format_descriptions.proofs.GroupLemmas.{flat_at, flat_at-append}
use Rattle.format_descriptions.proofs.SpelledLemmas.{going-takes, given-takes, same-read, items-spelled, end-takes}

-- the choice that is taken
abbrev pub Taken : Bool → List Item → List ℕ → Parts → Parts × List ℕ → Type 0
Taken instead items text p read = (chosen : List Item) × Takes instead items chosen text p read.1 read.0

byte-taken : (byte : ℕ) (items : List Item) (text after : List ℕ) (p : Parts) (read : Parts × List ℕ) → text ≡ byte ∷ after
    → Taken false items after p read → Taken false (Byte byte ∷ items) text p read
byte-taken byte items text after p read front others = (Byte byte ∷ others.0, rw front (Takes.byte others.1))

-- a group that was tried
optional-taken : (size : ℕ) (items : List Item) (text : List ℕ) (p : Parts) (read : Parts × List ℕ) (o : Front) → front_of (take size items) text p ≡ o
    → ((r : Parts × List ℕ) → front_of (take size items) text p ≡ Ok r → Taken false (take size items) text p r)
    → ((t : List ℕ) (q : Parts) → front_of (drop size items) t q ≡ Ok read → Taken false (drop size items) t q read)
    → tried size items (λ left. None) text p o ≡ Ok read → Taken false (Optional size ∷ items) text p read
optional-taken size items text p read (Err left) e own others h = let then = others text p h in (then.0, Takes.optional_left_out e then.1)
optional-taken size items text p read (Ok r) e own others h =
    let mine = own r e in let then = others r.1 r.0 h in (mine.0 ++ then.0, Takes.optional mine.1 then.1)

first-taken : (size : ℕ) (items : List Item) (text : List ℕ) (p : Parts) (read : Parts × List ℕ) (o : Front) → front_of (take size items) text p ≡ o
    → ((r : Parts × List ℕ) → front_of (take size items) text p ≡ Ok r → Taken false (take size items) text p r)
    → ((t : List ℕ) (q : Parts) → front_of (drop size items) t q ≡ Ok read → Taken false (drop size items) t q read)
    → ((left : ℕ) → front_by (Some left) (drop size items) text p ≡ Ok read → Taken true (drop size items) text p read)
    → tried size items (λ left. Some left) text p o ≡ Ok read → Taken false (First size ∷ items) text p read
first-taken size items text p read (Err left) e own others instead h =
    let then = instead left h in (then.0, Takes.first_replaced e then.1)
first-taken size items text p read (Ok r) e own others instead h =
    let mine = own r e in let then = others r.1 r.0 h in (mine.0 ++ then.0, Takes.first mine.1 then.1)

other-taken : (size left : ℕ) (items : List Item) (text : List ℕ) (p : Parts) (read : Parts × List ℕ) (o : Front) → front_of (take size items) text p ≡ o
    → ((r : Parts × List ℕ) → front_of (take size items) text p ≡ Ok r → Taken false (take size items) text p r)
    → ((t : List ℕ) (q : Parts) → front_of (drop size items) t q ≡ Ok read → Taken false (drop size items) t q read)
    → (front_by (Some left) (drop size items) text p ≡ Ok read → Taken true (drop size items) text p read)
    → tried size items (λ other. Some left) text p o ≡ Ok read → Taken true (Or size ∷ items) text p read
other-taken size left items text p read (Err other) e own others instead h =
    let then = instead h in (then.0, Takes.other_replaced e then.1)
other-taken size left items text p read (Ok r) e own others instead h =
    let mine = own r e in let then = others r.1 r.0 h in (mine.0 ++ then.0, Takes.other mine.1 then.1)

pub take-fewer : (size : ℕ) (items : List Item) (n : ℕ) → length items ≤ n → length (take size items) ≤ n
take-fewer size items n few = omega (arith, length-take size items, min-le_right size (length items), few)

pub drop-fewer : (size : ℕ) (items : List Item) (n : ℕ) → length items ≤ n → length (drop size items) ≤ n
drop-fewer size items n few = omega (arith, length-drop size items, few)

pub taken-by : (n : ℕ) (items : List Item) (fault : Option ℕ) (text : List ℕ) (p : Parts) (read : Parts × List ℕ) → length items ≤ n
    → front_by fault items text p ≡ Ok read → Taken (is_some fault) items text p read
unfolding read_from item_at
taken-by n [] None text p read few h = let pair : (p, text) ≡ read = cc in ([], rw (← pair) Takes.ends)
taken-by n [] (Some left) text p read few h = absurd cc
taken-by zero (item ∷ items) fault text p read few h = absurd (omega (arith, few))
taken-by (suc n) (Byte byte ∷ items) None text p read few h =
    let went = going-takes text _ _ read h in
    let byte_read = bind_some _ _ _ went.1 in
    let pair : (p, byte_read.0) ≡ went.0 = cc in
    let others = taken-by n items None byte_read.0 p read (omega (arith, few)) (same-read items (length items) (p, byte_read.0) went.0 read pair went.2) in
    byte-taken byte items text byte_read.0 p read (mark_takes byte text byte_read.0 byte_read.1) others
taken-by (suc n) (Byte byte ∷ items) (Some left) text p read few h = absurd cc
taken-by (suc n) (Part c ∷ items) None text p read few h =
    let went = going-takes text _ _ read h in
    let number = bind_some _ _ _ went.1 in
    let given = given-takes c p number.0 went.0 _ refl number.2 in
    let others = taken-by n items None number.0.1 (with_part c number.0.0 p) read (omega (arith, few))
    (same-read items (length items) (with_part c number.0.0 p, number.0.1) went.0 read (sym given.1) went.2)
    in
    (Part c ∷ others.0, Takes.part number.1 given.0 others.1)
taken-by (suc n) (Part c ∷ items) (Some left) text p read few h = absurd cc
taken-by (suc n) (Optional size ∷ items) None text p read few h =
    optional-taken size items text p read _ refl
    (λ r e. taken-by n (take size items) None text p r (take-fewer size items n (omega (arith, few))) e)
    (λ t q e. taken-by n (drop size items) None t q read (drop-fewer size items n (omega (arith, few))) e)
    (sym (optional-is size items text p) ∙ h)
taken-by (suc n) (Optional size ∷ items) (Some left) text p read few h = absurd cc
taken-by (suc n) (First size ∷ items) None text p read few h =
    first-taken size items text p read _ refl
    (λ r e. taken-by n (take size items) None text p r (take-fewer size items n (omega (arith, few))) e)
    (λ t q e. taken-by n (drop size items) None t q read (drop-fewer size items n (omega (arith, few))) e)
    (λ left e. taken-by n (drop size items) (Some left) text p read (drop-fewer size items n (omega (arith, few))) e)
    (sym (first-is size items text p) ∙ h)
taken-by (suc n) (First size ∷ items) (Some left) text p read few h = absurd cc
taken-by (suc n) (Or size ∷ items) None text p read few h =
    let others = taken-by n (drop size items) None text p read (drop-fewer size items n (omega (arith, few))) (sym (or-is size items text p) ∙ h) in
    (others.0, Takes.other_left_out others.1)
taken-by (suc n) (Or size ∷ items) (Some left) text p read few h =
    other-taken size left items text p read _ refl
    (λ r e. taken-by n (take size items) None text p r (take-fewer size items n (omega (arith, few))) e)
    (λ t q e. taken-by n (drop size items) None t q read (drop-fewer size items n (omega (arith, few))) e)
    (λ e. taken-by n (drop size items) (Some left) text p read (drop-fewer size items n (omega (arith, few))) e)
    (sym (instead-is size items left text p) ∙ h)

-- ---- what follows from a choice that is taken

pub taken-choice : (instead : Bool) (items chosen : List Item) (text : List ℕ) (p : Parts) (rest : List ℕ) (q : Parts)
    → Takes instead items chosen text p rest q → IsChoice instead items chosen
taken-choice _ _ _ _ _ _ _ Takes.ends = IsChoice.ends
taken-choice _ _ _ _ _ _ _ (Takes.byte others) = IsChoice.byte (taken-choice _ _ _ _ _ _ _ others)
taken-choice _ _ _ _ _ _ _ (Takes.part read agree others) = IsChoice.part (taken-choice _ _ _ _ _ _ _ others)
taken-choice _ _ _ _ _ _ _ (Takes.optional own others) = IsChoice.optional (taken-choice _ _ _ _ _ _ _ own) (taken-choice _ _ _ _ _ _ _ others)
taken-choice _ _ _ _ _ _ _ (Takes.optional_left_out fails others) = IsChoice.optional_left_out (taken-choice _ _ _ _ _ _ _ others)
taken-choice _ _ _ _ _ _ _ (Takes.first own others) = IsChoice.first (taken-choice _ _ _ _ _ _ _ own) (taken-choice _ _ _ _ _ _ _ others)
taken-choice _ _ _ _ _ _ _ (Takes.first_replaced fails others) = IsChoice.first_replaced (taken-choice _ _ _ _ _ _ _ others)
taken-choice _ _ _ _ _ _ _ (Takes.other own others) = IsChoice.other (taken-choice _ _ _ _ _ _ _ own) (taken-choice _ _ _ _ _ _ _ others)
taken-choice _ _ _ _ _ _ _ (Takes.other_replaced fails others) = IsChoice.other_replaced (taken-choice _ _ _ _ _ _ _ others)
taken-choice _ _ _ _ _ _ _ (Takes.other_left_out others) = IsChoice.other_left_out (taken-choice _ _ _ _ _ _ _ others)

no_group-append : (first second : List Item) → IsTrue (has_no_group first) → IsTrue (has_no_group second) → IsTrue (has_no_group (first ++ second))
no_group-append [] second a b = b
no_group-append (Byte byte ∷ first) second a b = no_group-append first second a b
no_group-append (Part c ∷ first) second a b = no_group-append first second a b
no_group-append (Optional size ∷ first) second a b = absurd cc
no_group-append (First size ∷ first) second a b = absurd cc
no_group-append (Or size ∷ first) second a b = absurd cc

pub choice-no_group : (instead : Bool) (items chosen : List Item) → IsChoice instead items chosen → IsTrue (has_no_group chosen)
choice-no_group _ _ _ IsChoice.ends = refl
choice-no_group _ _ _ (IsChoice.byte others) = choice-no_group _ _ _ others
choice-no_group _ _ _ (IsChoice.part others) = choice-no_group _ _ _ others
choice-no_group _ _ _ (IsChoice.optional {own = mine} {others = then} own others) =
    no_group-append mine then (choice-no_group _ _ _ own) (choice-no_group _ _ _ others)
choice-no_group _ _ _ (IsChoice.optional_left_out others) = choice-no_group _ _ _ others
choice-no_group _ _ _ (IsChoice.first {own = mine} {others = then} own others) =
    no_group-append mine then (choice-no_group _ _ _ own) (choice-no_group _ _ _ others)
choice-no_group _ _ _ (IsChoice.first_replaced others) = choice-no_group _ _ _ others
choice-no_group _ _ _ (IsChoice.other {own = mine} {others = then} own others) =
    no_group-append mine then (choice-no_group _ _ _ own) (choice-no_group _ _ _ others)
choice-no_group _ _ _ (IsChoice.other_replaced others) = choice-no_group _ _ _ others
choice-no_group _ _ _ (IsChoice.other_left_out others) = choice-no_group _ _ _ others

-- a fault before a group that replaces another
abbrev pub fault_of : Bool → ℕ → Option ℕ
fault_of true left = Some left
fault_of false left = None

pub taken-read : (left : ℕ) (instead : Bool) (items chosen : List Item) (text : List ℕ) (p : Parts) (rest : List ℕ) (q : Parts)
    → Takes instead items chosen text p rest q → front_by (fault_of instead left) items text p ≡ Ok (q, rest)
unfolding read_from item_at
taken-read left _ _ _ _ _ _ _ Takes.ends = refl
taken-read left _ _ _ _ _ _ _ (Takes.byte {byte = b} {text = text} others) = rw (mark_again b text) (taken-read left _ _ _ _ _ _ _ others)
taken-read left _ _ _ _ _ _ _ (Takes.part read agree others) = rw (read, agree) (taken-read left _ _ _ _ _ _ _ others)
taken-read left _ _ _ _ _ _ _ (Takes.optional {size = size} {items = items} {text = text} {p = p} own others) =
    optional-is size items text p ∙ rw (taken-read left _ _ _ _ _ _ _ own) (taken-read left _ _ _ _ _ _ _ others)
taken-read left _ _ _ _ _ _ _ (Takes.optional_left_out {size = size} {items = items} {text = text} {p = p} fails others) =
    optional-is size items text p ∙ rw fails (taken-read left _ _ _ _ _ _ _ others)
taken-read left _ _ _ _ _ _ _ (Takes.first {size = size} {items = items} {text = text} {p = p} own others) =
    first-is size items text p ∙ rw (taken-read left _ _ _ _ _ _ _ own) (taken-read left _ _ _ _ _ _ _ others)
taken-read left _ _ _ _ _ _ _ (Takes.first_replaced {size = size} {left = fault} {items = items} {text = text} {p = p} fails others) =
    first-is size items text p ∙ rw fails (taken-read fault _ _ _ _ _ _ _ others)
taken-read left _ _ _ _ _ _ _ (Takes.other {size = size} {items = items} {text = text} {p = p} own others) =
    instead-is size items left text p ∙ rw (taken-read left _ _ _ _ _ _ _ own) (taken-read left _ _ _ _ _ _ _ others)
taken-read left _ _ _ _ _ _ _ (Takes.other_replaced {size = size} {items = items} {text = text} {p = p} fails others) =
    instead-is size items left text p ∙ rw fails (taken-read left _ _ _ _ _ _ _ others)
taken-read left _ _ _ _ _ _ _ (Takes.other_left_out {size = size} {items = items} {text = text} {p = p} others) =
    or-is size items text p ∙ taken-read left _ _ _ _ _ _ _ others

pub taken-flat : (instead : Bool) (items chosen : List Item) (text : List ℕ) (p : Parts) (rest : List ℕ) (q : Parts)
    → Takes instead items chosen text p rest q → flat_at chosen text p ≡ Ok (q, rest)
unfolding flat_at item_at
taken-flat _ _ _ _ _ _ _ Takes.ends = refl
taken-flat _ _ _ _ _ _ _ (Takes.byte {byte = b} {text = text} others) = rw (mark_again b text) (taken-flat _ _ _ _ _ _ _ others)
taken-flat _ _ _ _ _ _ _ (Takes.part read agree others) = rw (read, agree) (taken-flat _ _ _ _ _ _ _ others)
taken-flat _ _ _ _ _ _ _ (Takes.optional {own = mine} {others = then} {text = text} {p = p} own others) =
    flat_at-append mine then text p ∙ rw (taken-flat _ _ _ _ _ _ _ own) (taken-flat _ _ _ _ _ _ _ others)
taken-flat _ _ _ _ _ _ _ (Takes.optional_left_out fails others) = taken-flat _ _ _ _ _ _ _ others
taken-flat _ _ _ _ _ _ _ (Takes.first {own = mine} {others = then} {text = text} {p = p} own others) =
    flat_at-append mine then text p ∙ rw (taken-flat _ _ _ _ _ _ _ own) (taken-flat _ _ _ _ _ _ _ others)
taken-flat _ _ _ _ _ _ _ (Takes.first_replaced fails others) = taken-flat _ _ _ _ _ _ _ others
taken-flat _ _ _ _ _ _ _ (Takes.other {own = mine} {others = then} {text = text} {p = p} own others) =
    flat_at-append mine then text p ∙ rw (taken-flat _ _ _ _ _ _ _ own) (taken-flat _ _ _ _ _ _ _ others)
taken-flat _ _ _ _ _ _ _ (Takes.other_replaced fails others) = taken-flat _ _ _ _ _ _ _ others
taken-flat _ _ _ _ _ _ _ (Takes.other_left_out others) = taken-flat _ _ _ _ _ _ _ others

-- items without groups are read one after another
going-equal : (text : List ℕ) (f g : Parts × List ℕ → Front) (o : Option (Parts × List ℕ)) → ((read : Parts × List ℕ) → f read ≡ g read)
    → going_on text f o ≡ going_on text g o
going-equal text f g None same = refl
going-equal text f g (Some read) same = same read

pub flat-front : (items : List Item) (text : List ℕ) (p : Parts) → IsTrue (has_no_group items) → flat_at items text p ≡ front_of items text p
unfolding flat_at read_from
flat-front [] text p flat = refl
flat-front (Byte byte ∷ items) text p flat = going-equal text _ _ (item_at (Byte byte) text p) (λ read. flat-front items read.1 read.0 flat)
flat-front (Part c ∷ items) text p flat = going-equal text _ _ (item_at (Part c) text p) (λ read. flat-front items read.1 read.0 flat)
flat-front (Optional size ∷ items) text p flat = absurd cc
flat-front (First size ∷ items) text p flat = absurd cc
flat-front (Or size ∷ items) text p flat = absurd cc

-- ---- the laws

pub first-choices-taken : (items : List Item) (text rest : List ℕ) (p q : Parts) → front_of items text p ≡ Ok (q, rest)
    → (chosen : List Item) × Takes false items chosen text p rest q × (front_of chosen text p ≡ Ok (q, rest))
first-choices-taken items text rest p q h =
    let taken = taken-by (length items) items None text p (q, rest) (omega arith) h in
    let plain = choice-no_group false items taken.0 (taken-choice _ _ _ _ _ _ _ taken.1) in
    (taken.0, taken.1, sym (flat-front taken.0 text p plain) ∙ taken-flat _ _ _ _ _ _ _ taken.1)

pub first-choices-read : (items chosen : List Item) (text rest : List ℕ) (p q : Parts) → Takes false items chosen text p rest q
    → front_of items text p ≡ Ok (q, rest)
first-choices-read items chosen text rest p q taken = taken-read 0 false items chosen text p rest q taken

pub texts-spell-choices : (items : List Item) (text : List ℕ) (p q : Parts) → items_at items text p ≡ Ok q
    → (chosen : List Item) × IsChoice false items chosen × IsTrue (has_no_group chosen) × Spells chosen text p q
texts-spell-choices items text p q h =
    let taken = first-choices-taken items text [] p q (end-takes _ q h) in
    let choice = taken-choice _ _ _ _ _ _ _ taken.1 in
    let plain = choice-no_group false items taken.0 choice in
    (taken.0, choice, plain, items-spelled taken.0 text p q plain (rw taken.2 refl))
