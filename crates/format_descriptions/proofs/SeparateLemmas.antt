-- A text that spells a separate choice is read.
use Rattle.std.proofs.Common.{◌≡◌, ℕ, ◌==◌, ◌⊎◌, Bool, true, false, List, [], ◌∷◌, ◌++◌, length, take, drop, refl, sym, ap, ◌∙◌, arith}
use Rattle.std.proofs.Common.{append_assoc, append-nil}
use Rattle.std.proofs.Common.{Option, Some, None, Ok, Err, inl, inr}
use Rattle.std.specs.Prelude.{IsTrue, not, ◌||◌, ◌&&◌}
use Rattle.std.proofs.lemmas.Bool.{and_parts, cases_Bool}
use Rattle.std.proofs.lemmas.Bool.Decides.{nat_tests}
use Rattle.rfc3339.specs.FormLemmas.{mark_again}
use Rattle.rfc3339.specs.Reading.{mark_at}
use Rattle.format_descriptions.specs.Choices.{IsChoice}
use Rattle.format_descriptions.specs.Read.{component_at, agrees, with_part, item_at, read_from, front_of, items_at}
use Rattle.format_descriptions.specs.SeparateChoices.{IsSeparateChoice, can_begin, has_text, never_begin, never_begin_as, never_read}
use Rattle.format_descriptions.specs.Spelled.{Spells, is_end, are_none, may_follow, are_separate}
use Rattle.format_descriptions.specs.declared.component.Component.{Component}
use Rattle.format_descriptions.specs.declared.component.Component.TheVariants.{Ignore, End}
use Rattle.format_descriptions.specs.declared.item.Item.{Item}
use Rattle.format_descriptions.specs.declared.item.Item.TheVariants.{Byte, Part, Optional, First, Or}
use Rattle.format_descriptions.specs.declared.parts.Parts.{Parts}
use Rattle.format_descriptions.proofs.BeginLemmas.{component-begins}
use Rattle.format_descriptions.proofs.ChoiceLemmas.{fault_of}
use Rattle.format_descriptions.proofs.CutLemmas.{front_by, optional-is, first-is, or-is, instead-is}
use Rattle.format_descriptions.proofs.SpelledComponentLemmas.{component-taken, component-again}
use Rattle.format_descriptions.proofs.SpelledLemmas.{follower-apart, none-spelled}

-- ---- groups that never read

split-or : (a b : Bool) → IsTrue (a || b) → (IsTrue a) ⊎ (IsTrue b)
split-or true b h = inl refl
split-or false b h = inr h

never : (b : Bool) → IsTrue (not b) → IsTrue b → ⊥
never true apart h = absurd cc
never false apart h = absurd cc

-- a text that begins with another byte
other-mark : (byte first : ℕ) (text : List ℕ) → (first ≡ byte → ⊥) → mark_at byte (first ∷ text) ≡ None
unfolding mark_at
other-mark byte first text differ = elim (cases_Bool (first == byte)) [
  | inl t ↦ absurd (differ (grind (arith, nat_tests, t)))
  | inr f ↦ rw f refl
]

no-mark : (byte : ℕ) → mark_at byte [] ≡ None
unfolding mark_at
no-mark byte = refl

differs : (a b : ℕ) → IsTrue (not (a == b)) → a ≡ b → ⊥
differs a b apart same = never (a == b) apart (grind (arith, nat_tests, same))

has-text : (c : Component) (b : ℕ) → IsTrue (not (can_begin c b)) → IsTrue (has_text c)
has-text (Ignore count) b h = absurd cc
has-text End b h = absurd cc
has-text c b h = refl

-- the end of the text
end-spelled : (c : Component) (items : List Item) (text : List ℕ) (p q : Parts) → Spells (Part c ∷ items) text p q → IsTrue (is_end c && are_none items)
    → text ≡ []
end-spelled End items text p q s h =
    let none : s.2 ≡ [] = none-spelled items s.2 _ q s.6 h in s.3 ∙ ap (λ (l : List ℕ). l ++ s.2) s.4.1 ∙ none
end-spelled c items text p q s h = absurd cc

never-begins : (byte : ℕ) (items : List Item) (text : List ℕ) (p q : Parts) → IsTrue (never_begin byte items) → Spells items text p q
    → mark_at byte text ≡ None
never-begins byte [] text p q h s = rw s.0 (no-mark byte)
never-begins byte (Byte other ∷ items) text p q h s = rw s.1 (other-mark byte other s.0 (differs other byte h))
never-begins byte (Part c ∷ items) text p q h s = elim (split-or (is_end c && are_none items) (not (can_begin c byte)) h) [
  | inl end ↦ rw (end-spelled c items text p q s end) (no-mark byte)
  | inr apart ↦
      let g = component-begins c s.0 s.1 (has-text c byte apart) s.4 in
      rw (s.3, g.front) (other-mark byte g.byte (g.tail ++ s.2) (λ same. never (can_begin c byte) apart (rw (sym same) g.is)))
]
never-begins byte (Optional size ∷ items) text p q h s = absurd cc
never-begins byte (First size ∷ items) text p q h s = absurd cc
never-begins byte (Or size ∷ items) text p q h s = absurd cc

-- a component that reads no text that begins with this byte, and not the end
never-component : (c : Component) (byte : ℕ) (text : List ℕ) (o : Option ((Bool × ℕ) × List ℕ)) → IsTrue (not (can_begin c byte))
    → component_at c (byte ∷ text) ≡ o → o ≡ None
never-component c byte text None apart e = refl
never-component c byte text (Some read) apart e =
    let got = component-taken c (byte ∷ text) read.0 read.1 e in
    let g = component-begins c read.0 got.piece (has-text c byte apart) got.is in
    let same : byte ∷ text ≡ g.byte ∷ (g.tail ++ read.1) = got.front ∙ ap (λ (l : List ℕ). l ++ read.1) g.front in
    let first : byte ≡ g.byte = cc in
    absurd (never (can_begin c byte) apart (rw first g.is))

never-end : (c : Component) (o : Option ((Bool × ℕ) × List ℕ)) → IsTrue (has_text c) → component_at c [] ≡ o → o ≡ None
never-end c None some e = refl
never-end c (Some read) some e =
    let got = component-taken c [] read.0 read.1 e in
    let g = component-begins c read.0 got.piece some got.is in
    let same : [] ≡ g.byte ∷ (g.tail ++ read.1) = got.front ∙ ap (λ (l : List ℕ). l ++ read.1) g.front in
    absurd cc

never-begins-as : (c : Component) (items : List Item) (text : List ℕ) (p q : Parts) → IsTrue (never_begin_as c items) → Spells items text p q
    → component_at c text ≡ None
never-begins-as c [] text p q h s = rw s.0 (never-end c (component_at c []) h refl)
never-begins-as c (Byte byte ∷ items) text p q h s = rw s.1 (never-component c byte s.0 (component_at c (byte ∷ s.0)) h refl)
never-begins-as c (Part other ∷ items) text p q h s =
    let both = and_parts (is_end other) (are_none items && has_text c) h in
    let more = and_parts (are_none items) (has_text c) both.1 in
    let end : IsTrue (is_end other && are_none items) = rw (both.0, more.0) refl in
    rw (end-spelled other items text p q s end) (never-end c (component_at c []) more.1 refl)
never-begins-as c (Optional size ∷ items) text p q h s = absurd cc
never-begins-as c (First size ∷ items) text p q h s = absurd cc
never-begins-as c (Or size ∷ items) text p q h s = absurd cc

-- a group that never reads what follows fails there
never-reads : (own items : List Item) (text : List ℕ) (p q : Parts) → IsTrue (never_read own items) → Spells items text p q
    → front_of own text p ≡ Err (length text)
unfolding read_from item_at
never-reads [] items text p q h s = absurd cc
never-reads (Byte byte ∷ own) items text p q h s = rw (never-begins byte items text p q h s) refl
never-reads (Part c ∷ own) items text p q h s = rw (never-begins-as c items text p q h s) refl
never-reads (Optional size ∷ own) items text p q h s = absurd cc
never-reads (First size ∷ own) items text p q h s = absurd cc
never-reads (Or size ∷ own) items text p q h s = absurd cc

-- ---- choices

-- what the items of a choice read, and what is left for those after it
record Reached (fault : Option ℕ) (items after : List Item) (text : List ℕ) (p q : Parts) : Type 0 where
  m : Parts
  rest : List ℕ
  read : front_by fault items text p ≡ Ok (m, rest)
  separate : IsTrue (are_separate after)
  spelled : Spells after rest m q

reached-on : (fault f : Option ℕ) (items others after : List Item) (text t : List ℕ) (p m q : Parts)
    → front_by fault items text p ≡ front_by f others t m → Reached f others after t m q → Reached fault items after text p q
reached-on fault f items others after text t p m q is r = record { m = r.m; rest = r.rest; read = is ∙ r.read; separate = r.separate; spelled = r.spelled }

byte-on : (byte : ℕ) (items : List Item) (text rest : List ℕ) (p : Parts) → text ≡ byte ∷ rest
    → front_by None (Byte byte ∷ items) text p ≡ front_by None items rest p
unfolding read_from item_at
byte-on byte items text rest p front = rw (front, mark_again byte rest) refl

part-on : (c : Component) (n : Bool × ℕ) (items : List Item) (text rest : List ℕ) (p : Parts) → component_at c text ≡ Some (n, rest)
    → agrees c n p ≡ true → front_by None (Part c ∷ items) text p ≡ front_by None items rest (with_part c n p)
unfolding read_from item_at
part-on c n items text rest p read agree = rw (read, agree) refl

none-on : (text : List ℕ) (p : Parts) → front_by None [] text p ≡ Ok (p, text)
unfolding read_from
none-on text p = refl

reached : (left : ℕ) (instead : Bool) (items after chosen : List Item) → IsSeparateChoice instead items after chosen → (text : List ℕ) (p q : Parts)
    → IsTrue (are_separate chosen) → Spells chosen text p q → Reached (fault_of instead left) items after text p q
reached left _ _ _ _ IsSeparateChoice.ends text p q apart s =
    record { m = p; rest = text; read = none-on text p; separate = apart; spelled = s }
reached left _ _ _ _ (IsSeparateChoice.byte {byte = b} {items = xs} {after = after} others) text p q apart s =
    reached-on None None (Byte b ∷ xs) xs after text s.0 p p q (byte-on b xs text s.0 p s.1) (reached left _ _ _ _ others s.0 p q apart s.2)
reached left _ _ _ _ (IsSeparateChoice.part {component = c} {items = xs} {after = after} {chosen = chosen} others) text p q apart s =
    let both = and_parts (may_follow c chosen) (are_separate chosen) apart in
    let follower = follower-apart c chosen s.2 _ q s.6 both.0 in
    let read : component_at c text ≡ Some (s.0, s.2) = rw s.3 (component-again c s.0 s.1 s.2 follower.0 follower.1 s.4) in
    reached-on None None (Part c ∷ xs) xs after text s.2 p (with_part c s.0 p) q (part-on c s.0 xs text s.2 p read s.5)
    (reached left _ _ _ _ others s.2 (with_part c s.0 p) q both.1 s.6)
reached left _ _ _ _ (IsSeparateChoice.optional {size = size} {items = xs} {after = after} own others) text p q apart s =
    let mine = reached left _ _ _ _ own text p q apart s in
    reached-on None None (Optional size ∷ xs) (drop size xs) after text mine.rest p mine.m q (optional-is size xs text p ∙ rw mine.read refl)
    (reached left _ _ _ _ others mine.rest mine.m q mine.separate mine.spelled)
reached left _ _ _ _ (IsSeparateChoice.optional_left_out {size = size} {items = xs} {after = after} {chosen = chosen} no_read others) text p q apart s =
    reached-on None None (Optional size ∷ xs) (drop size xs) after text text p p q
    (optional-is size xs text p ∙ rw (never-reads (take size xs) chosen text p q no_read s) refl)
    (reached left _ _ _ _ others text p q apart s)
reached left _ _ _ _ (IsSeparateChoice.first {size = size} {items = xs} {after = after} own others) text p q apart s =
    let mine = reached left _ _ _ _ own text p q apart s in
    reached-on None None (First size ∷ xs) (drop size xs) after text mine.rest p mine.m q (first-is size xs text p ∙ rw mine.read refl)
    (reached left _ _ _ _ others mine.rest mine.m q mine.separate mine.spelled)
reached left _ _ _ _ (IsSeparateChoice.first_replaced {size = size} {items = xs} {after = after} {chosen = chosen} no_read others) text p q apart s =
    reached-on None (Some (length text)) (First size ∷ xs) (drop size xs) after text text p p q
    (first-is size xs text p ∙ rw (never-reads (take size xs) chosen text p q no_read s) refl)
    (reached (length text) _ _ _ _ others text p q apart s)
reached left _ _ _ _ (IsSeparateChoice.other {size = size} {items = xs} {after = after} own others) text p q apart s =
    let mine = reached left _ _ _ _ own text p q apart s in
    reached-on (Some left) None (Or size ∷ xs) (drop size xs) after text mine.rest p mine.m q (instead-is size xs left text p ∙ rw mine.read refl)
    (reached left _ _ _ _ others mine.rest mine.m q mine.separate mine.spelled)
reached left _ _ _ _ (IsSeparateChoice.other_replaced {size = size} {items = xs} {after = after} {chosen = chosen} no_read others) text p q apart s =
    reached-on (Some left) (Some left) (Or size ∷ xs) (drop size xs) after text text p p q
    (instead-is size xs left text p ∙ rw (never-reads (take size xs) chosen text p q no_read s) refl)
    (reached left _ _ _ _ others text p q apart s)
reached left _ _ _ _ (IsSeparateChoice.other_left_out {size = size} {items = xs} {after = after} others) text p q apart s =
    reached-on None None (Or size ∷ xs) (drop size xs) after text text p p q (or-is size xs text p) (reached left _ _ _ _ others text p q apart s)

pub separate-choices-read : (items chosen : List Item) (text : List ℕ) (p q : Parts) → IsSeparateChoice false items [] chosen
    → IsTrue (are_separate chosen) → Spells chosen text p q → items_at items text p ≡ Ok q
separate-choices-read items chosen text p q choice apart s =
    let all = reached 0 false items [] chosen choice text p q apart s in rw (all.read, all.spelled.0, all.spelled.1) refl

-- ---- a separate choice is a choice

-- the items of a choice before those after it
abbrev Front_choice : Bool → List Item → List Item → List Item → Type 0
Front_choice instead items after chosen = (own : List Item) × IsChoice instead items own × (chosen ≡ own ++ after)

both-chosen : (mine more after others chosen : List Item) → chosen ≡ mine ++ others → others ≡ more ++ after → chosen ≡ (mine ++ more) ++ after
both-chosen mine more after others chosen first second =
    first ∙ ap (λ (l : List Item). mine ++ l) second ∙ sym (append_assoc mine more after)

front-choice : (instead : Bool) (items after chosen : List Item) → IsSeparateChoice instead items after chosen → Front_choice instead items after chosen
front-choice _ _ _ _ IsSeparateChoice.ends = ([], IsChoice.ends, refl)
front-choice _ _ _ _ (IsSeparateChoice.byte {byte = b} others) =
    let more = front-choice _ _ _ _ others in (Byte b ∷ more.0, IsChoice.byte more.1, ap (λ (l : List Item). Byte b ∷ l) more.2)
front-choice _ _ _ _ (IsSeparateChoice.part {component = c} others) =
    let more = front-choice _ _ _ _ others in (Part c ∷ more.0, IsChoice.part more.1, ap (λ (l : List Item). Part c ∷ l) more.2)
front-choice _ _ _ _ (IsSeparateChoice.optional own others) =
    let mine = front-choice _ _ _ _ own in
    let more = front-choice _ _ _ _ others in
    (mine.0 ++ more.0, IsChoice.optional mine.1 more.1, both-chosen mine.0 more.0 _ _ _ mine.2 more.2)
front-choice _ _ _ _ (IsSeparateChoice.optional_left_out apart others) =
    let more = front-choice _ _ _ _ others in (more.0, IsChoice.optional_left_out more.1, more.2)
front-choice _ _ _ _ (IsSeparateChoice.first own others) =
    let mine = front-choice _ _ _ _ own in
    let more = front-choice _ _ _ _ others in
    (mine.0 ++ more.0, IsChoice.first mine.1 more.1, both-chosen mine.0 more.0 _ _ _ mine.2 more.2)
front-choice _ _ _ _ (IsSeparateChoice.first_replaced apart others) =
    let more = front-choice _ _ _ _ others in (more.0, IsChoice.first_replaced more.1, more.2)
front-choice _ _ _ _ (IsSeparateChoice.other own others) =
    let mine = front-choice _ _ _ _ own in
    let more = front-choice _ _ _ _ others in
    (mine.0 ++ more.0, IsChoice.other mine.1 more.1, both-chosen mine.0 more.0 _ _ _ mine.2 more.2)
front-choice _ _ _ _ (IsSeparateChoice.other_replaced apart others) =
    let more = front-choice _ _ _ _ others in (more.0, IsChoice.other_replaced more.1, more.2)
front-choice _ _ _ _ (IsSeparateChoice.other_left_out others) =
    let more = front-choice _ _ _ _ others in (more.0, IsChoice.other_left_out more.1, more.2)

pub separate-choice-chosen : (items chosen : List Item) → IsSeparateChoice false items [] chosen → IsChoice false items chosen
separate-choice-chosen items chosen choice =
    let own = front-choice false items [] chosen choice in
    let same : chosen ≡ own.0 = own.2 ∙ append-nil own.0 in
    rw same own.1
