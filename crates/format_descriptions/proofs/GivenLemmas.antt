-- Readings of the first items of a list, and the last of them that gives a part.
use Rattle.std.proofs.Common.{◌≡◌, ℕ, zero, suc, ◌+◌, ◌-◌, ◌≤◌, ◌<◌, Bool, true, false, List, [], ◌∷◌, ◌++◌, length, take, drop, refl, sym, ap, ◌∙◌, arith}
use Rattle.std.proofs.Common.{Option, Some, None, Ok, Err, inl, inr, append_assoc}
use Rattle.std.specs.Prelude.{slice_get}
use Rattle.std.proofs.Math.Nat.{min-le_left}
use Rattle.std.proofs.lemmas.Bool.{cases_order, cases_Bool}
use Rattle.std.proofs.lemmas.List.{length-take, drop-take}
use Rattle.std.proofs.lemmas.Option.{slice_get_within}
use Rattle.rfc3339.specs.FormLemmas.{mark_again}
use Rattle.format_descriptions.specs.Choices.{Takes}
use Rattle.format_descriptions.specs.PartPlaces.{has_part, is_component}
use Rattle.format_descriptions.specs.Read.{Front, component_at, with_part, agrees, item_at, going_on, after_group, read_from, read_end, front_of}
use Rattle.format_descriptions.specs.declared.component.Component.{Component}
use Rattle.format_descriptions.specs.declared.item.Item.{Item}
use Rattle.format_descriptions.specs.declared.item.Item.TheVariants.{Byte, Part, Optional, First, Or}
use Rattle.format_descriptions.specs.declared.parts.Parts.{Parts}
use Rattle.format_descriptions.specs.declared.value_refusal.Field.{Field}
use Rattle.format_descriptions.proofs.ChoiceLemmas.{take-fewer, drop-fewer, taken-by, taken-read, taken-flat, fault_of}
use Rattle.format_descriptions.proofs.CutLemmas.{front_by, tried, optional-is, first-is, or-is, instead-is}
use Rattle.format_descriptions.proofs.GroupLemmas.{flat_at, flat_at-append}
use Rattle.format_descriptions.proofs.PartKeptLemmas.{taken-kept}

-- ---- lists that are cut

take-none : (a : ℕ) → take {A = Item} a [] ≡ []
take-none zero = refl
take-none (suc a) = refl

drop-none : (a : ℕ) → drop {A = Item} a [] ≡ []
drop-none zero = refl
drop-none (suc a) = refl

take-swap : (a b : ℕ) (xs : List Item) → take a (take b xs) ≡ take b (take a xs)
take-swap a b [] = rw (take-none b, take-none a) (sym (take-none b))
take-swap zero zero (x ∷ xs) = refl
take-swap zero (suc b) (x ∷ xs) = refl
take-swap (suc a) zero (x ∷ xs) = refl
take-swap (suc a) (suc b) (x ∷ xs) = ap (λ (l : List Item). x ∷ l) (take-swap a b xs)

take-short : (a b : ℕ) (xs : List Item) → a ≤ b → take a (take b xs) ≡ take a xs
take-short zero b xs h = refl
take-short (suc a) zero xs h = absurd (omega (arith, h))
take-short (suc a) (suc b) [] h = refl
take-short (suc a) (suc b) (x ∷ xs) h = ap (λ (l : List Item). x ∷ l) (take-short a b xs (omega (arith, h)))

drop-short : (a b : ℕ) (xs : List Item) → b ≤ a → drop a (take b xs) ≡ []
drop-short a zero xs h = drop-none a
drop-short zero (suc b) xs h = absurd (omega (arith, h))
drop-short (suc a) (suc b) [] h = refl
drop-short (suc a) (suc b) (x ∷ xs) h = drop-short a b xs (omega (arith, h))

get-take : (a i : ℕ) (xs : List Item) → i < a → slice_get (take a xs) i ≡ slice_get xs i
get-take zero i xs h = absurd (omega (arith, h))
get-take (suc a) i [] h = refl
get-take (suc a) zero (x ∷ xs) h = refl
get-take (suc a) (suc i) (x ∷ xs) h = get-take a i xs (omega (arith, h))

get-drop : (a i : ℕ) (xs : List Item) → slice_get (drop a xs) i ≡ slice_get xs (a + i)
get-drop zero i xs = let e : 0 + i ≡ i = omega arith in rw e refl
get-drop (suc a) i [] = refl
get-drop (suc a) i (x ∷ xs) = let e : suc a + i ≡ suc (a + i) = omega arith in rw e (get-drop a i xs)

-- ---- a group at the head of the items

-- how a head and the items after it are read
abbrev IsHead : Option ℕ → Item → ℕ → (ℕ → Option ℕ) → List ℕ → Parts → Type 0
IsHead fault head size then text p = (xs : List Item) → front_by fault (head ∷ xs) text p ≡ tried size xs then text p (front_of (take size xs) text p)

-- a group at the end of the items
abbrev shut : (ℕ → Option ℕ) → List ℕ → Parts → Front → Front
shut then text p own = after_group (λ left. read_end (then left) text p) (λ read. Ok (read.0, read.1)) own

cut-within : (fault : Option ℕ) (head : Item) (size : ℕ) (then : ℕ → Option ℕ) (items : List Item) (text : List ℕ) (p : Parts) (k : ℕ)
    → IsHead fault head size then text p → k ≤ size
    → front_by fault (take (suc k) (head ∷ items)) text p ≡ shut then text p (front_of (take k (take size items)) text p)
unfolding read_from
cut-within fault head size then items text p k is few =
    is (take k items) ∙ rw (drop-short size k items few, take-swap size k items) refl

cut-past : (fault : Option ℕ) (head : Item) (size : ℕ) (then : ℕ → Option ℕ) (items : List Item) (text : List ℕ) (p : Parts) (m k : ℕ)
    → IsHead fault head size then text p → m ≡ size + k
    → front_by fault (take (suc m) (head ∷ items)) text p
    ≡ after_group (λ left. front_by (then left) (take k (drop size items)) text p)
    (λ read. front_by None (take k (drop size items)) read.1 read.0) (front_of (take size items) text p)
cut-past fault head size then items text p m k is at =
    is (take m items) ∙ rw (at, drop-take size k items, take-short size (size + k) items (omega arith)) refl

or-past : (size : ℕ) (items : List Item) (text : List ℕ) (p : Parts) (m k : ℕ) → m ≡ size + k
    → front_by None (take (suc m) (Or size ∷ items)) text p ≡ front_of (take k (drop size items)) text p
or-past size items text p m k at = or-is size (take m items) text p ∙ rw (at, drop-take size k items) refl

or-within : (size : ℕ) (items : List Item) (text : List ℕ) (p : Parts) (m : ℕ) → m ≤ size
    → front_by None (take (suc m) (Or size ∷ items)) text p ≡ Ok (p, text)
unfolding read_from
or-within size items text p m few = or-is size (take m items) text p ∙ rw (drop-short size m items few) refl

-- ---- items that fail

abbrev Fails : Front → Type 0
Fails o = (left : ℕ) × (o ≡ Err left)

shut-fails : (then : ℕ → Option ℕ) (text : List ℕ) (p : Parts) (o other : Front) → (Fails o → Fails other)
    → ((a b : ℕ) → Fails (read_end (then a) text p) → Fails (read_end (then b) text p)) → Fails (shut then text p o) → Fails (shut then text p other)
shut-fails then text p (Err left) other on same h = let more = on (left, refl) in rw more.1 (same left more.0 h)
shut-fails then text p (Ok read) other on same h = let no = h.1 in absurd cc

past-fails : (f g : Parts × List ℕ → Front) (bad worse : ℕ → Front) (o : Front) → ((r : Parts × List ℕ) → Fails (f r) → Fails (g r))
    → ((l : ℕ) → Fails (bad l) → Fails (worse l)) → Fails (after_group bad f o) → Fails (after_group worse g o)
past-fails f g bad worse (Err left) others after h = after left h
past-fails f g bad worse (Ok read) others after h = others read h

-- an item that is a component
abbrev IsPart : List Item → ℕ → Type 0
IsPart items i = is_component (slice_get items i) ≡ true

-- the first items that fail fail with another component too
abbrev FailsOn : Option ℕ → List Item → List ℕ → Parts → ℕ → Type 0
FailsOn fault items text p j =
    IsPart items j → Fails (front_by fault (take j items) text p) → Fails (front_by fault (take (suc j) items) text p)

-- an index past another
past : (a b : ℕ) → a ≤ b → (k : ℕ) × (b ≡ a + k)
past a b h = (b - a, omega (arith, h))

group-fails-past : (fault : Option ℕ) (head : Item) (size : ℕ) (then : ℕ → Option ℕ) (items : List Item) (text : List ℕ) (p : Parts) (j k : ℕ)
    → IsHead fault head size then text p → j ≡ size + k → ((f : Option ℕ) (t : List ℕ) (q : Parts) → FailsOn f (drop size items) t q k)
    → FailsOn fault (head ∷ items) text p (suc j)
group-fails-past fault head size then items text p j k is at others part h =
    let own : IsPart (drop size items) k = rw (get-drop size k items) (rw at at part) in
    let before = rw (cut-past fault head size then items text p j k is at) at h in
    rw (cut-past fault head size then items text p (suc j) (suc k) is (omega (arith, at)))
    (past-fails _ _ _ _ (front_of (take size items) text p) (λ r. others None r.1 r.0 own) (λ l. others (then l) text p own) before)

group-fails-within : (fault : Option ℕ) (head : Item) (size : ℕ) (then : ℕ → Option ℕ) (items : List Item) (text : List ℕ) (p : Parts) (j : ℕ)
    → IsHead fault head size then text p → j < size → ((a b : ℕ) → Fails (read_end (then a) text p) → Fails (read_end (then b) text p))
    → FailsOn None (take size items) text p j → FailsOn fault (head ∷ items) text p (suc j)
group-fails-within fault head size then items text p j is few same own part h =
    let mine : IsPart (take size items) j = rw (get-take size j items few) part in
    let before = rw (cut-within fault head size then items text p j is (omega (arith, few))) at h in
    rw (cut-within fault head size then items text p (suc j) is (omega (arith, few)))
    (shut-fails then text p _ _ (own mine) same before)

group-fails : (fault : Option ℕ) (head : Item) (size : ℕ) (then : ℕ → Option ℕ) (items : List Item) (text : List ℕ) (p : Parts) (j : ℕ)
    → IsHead fault head size then text p → ((a b : ℕ) → Fails (read_end (then a) text p) → Fails (read_end (then b) text p))
    → FailsOn None (take size items) text p j → ((k : ℕ) (f : Option ℕ) (t : List ℕ) (q : Parts) → FailsOn f (drop size items) t q k)
    → FailsOn fault (head ∷ items) text p (suc j)
group-fails fault head size then items text p j is same own others = elim (cases_order j size) [
  | inl e ↦
      let at = past size j (omega (arith, e)) in group-fails-past fault head size then items text p j at.0 is at.1 (others at.0)
  | inr (inl few) ↦ group-fails-within fault head size then items text p j is few same own
  | inr (inr more) ↦
      let at = past size j (omega (arith, more)) in group-fails-past fault head size then items text p j at.0 is at.1 (others at.0)
]

or-fails-past : (size : ℕ) (items : List Item) (text : List ℕ) (p : Parts) (j k : ℕ) → j ≡ size + k
    → FailsOn None (drop size items) text p k → FailsOn None (Or size ∷ items) text p (suc j)
or-fails-past size items text p j k at others part h =
    let own : IsPart (drop size items) k = rw (get-drop size k items) (rw at at part) in
    let before = rw (or-past size items text p j k at) at h in
    rw (or-past size items text p (suc j) (suc k) (omega (arith, at))) (others own before)

or-fails : (size : ℕ) (items : List Item) (text : List ℕ) (p : Parts) (j : ℕ)
    → ((k : ℕ) → FailsOn None (drop size items) text p k) → FailsOn None (Or size ∷ items) text p (suc j)
or-fails size items text p j others part h = elim (cases_order j size) [
  | inl e ↦ let at = past size j (omega (arith, e)) in or-fails-past size items text p j at.0 at.1 (others at.0) part h
  | inr (inl few) ↦ let no = rw (or-within size items text p j (omega (arith, few))) at h.1 in absurd cc
  | inr (inr more) ↦ let at = past size j (omega (arith, more)) in or-fails-past size items text p j at.0 at.1 (others at.0) part h
]

going-fails : (text : List ℕ) (f g : Parts × List ℕ → Front) (o : Option (Parts × List ℕ)) → ((r : Parts × List ℕ) → Fails (f r) → Fails (g r))
    → Fails (going_on text f o) → Fails (going_on text g o)
going-fails text f g None others h = h
going-fails text f g (Some read) others h = others read h

fails-on : (n : ℕ) (items : List Item) (fault : Option ℕ) (text : List ℕ) (p : Parts) (j : ℕ) → length items ≤ n → FailsOn fault items text p j
unfolding read_from
fails-on n [] fault text p j few part h = absurd cc
fails-on zero (item ∷ items) fault text p j few part h = absurd (omega (arith, few))
fails-on (suc n) (Byte byte ∷ items) fault text p zero few part h = absurd cc
fails-on (suc n) (Byte byte ∷ items) None text p (suc j) few part h =
    going-fails text _ _ (item_at (Byte byte) text p) (λ r e. fails-on n items None r.1 r.0 j (omega (arith, few)) part e) h
fails-on (suc n) (Byte byte ∷ items) (Some left) text p (suc j) few part h = (left, refl)
fails-on (suc n) (Part c ∷ items) None text p zero few part h = let no = h.1 in absurd cc
fails-on (suc n) (Part c ∷ items) (Some left) text p zero few part h = (left, refl)
fails-on (suc n) (Part c ∷ items) None text p (suc j) few part h =
    going-fails text _ _ (item_at (Part c) text p) (λ r e. fails-on n items None r.1 r.0 j (omega (arith, few)) part e) h
fails-on (suc n) (Part c ∷ items) (Some left) text p (suc j) few part h = (left, refl)
fails-on (suc n) (Optional size ∷ items) fault text p zero few part h = absurd cc
fails-on (suc n) (Optional size ∷ items) None text p (suc j) few part h =
    group-fails None (Optional size) size (λ left. None) items text p j (λ xs. optional-is size xs text p) (λ a b e. e)
    (fails-on n (take size items) None text p j (take-fewer size items n (omega (arith, few))))
    (λ k f t q. fails-on n (drop size items) f t q k (drop-fewer size items n (omega (arith, few)))) part h
fails-on (suc n) (Optional size ∷ items) (Some left) text p (suc j) few part h = (left, refl)
fails-on (suc n) (First size ∷ items) fault text p zero few part h = absurd cc
fails-on (suc n) (First size ∷ items) None text p (suc j) few part h =
    group-fails None (First size) size (λ left. Some left) items text p j (λ xs. first-is size xs text p) (λ a b e. (b, refl))
    (fails-on n (take size items) None text p j (take-fewer size items n (omega (arith, few))))
    (λ k f t q. fails-on n (drop size items) f t q k (drop-fewer size items n (omega (arith, few)))) part h
fails-on (suc n) (First size ∷ items) (Some left) text p (suc j) few part h = (left, refl)
fails-on (suc n) (Or size ∷ items) fault text p zero few part h = absurd cc
fails-on (suc n) (Or size ∷ items) None text p (suc j) few part h =
    or-fails size items text p j (λ k. fails-on n (drop size items) None text p k (drop-fewer size items n (omega (arith, few)))) part h
fails-on (suc n) (Or size ∷ items) (Some left) text p (suc j) few part h =
    group-fails (Some left) (Or size) size (λ other. Some left) items text p j (λ xs. instead-is size xs left text p) (λ a b e. (left, refl))
    (fails-on n (take size items) None text p j (take-fewer size items n (omega (arith, few))))
    (λ k f t q. fails-on n (drop size items) f t q k (drop-fewer size items n (omega (arith, few)))) part h

-- ---- the last of the first items that gives a part

-- no item at this index gives the part
abbrev pub NoneAt : Field → Option ℕ → List Item → List ℕ → Parts → ℕ → Type 0
NoneAt part fault items text p j =
    IsPart items j → (a b : Parts × List ℕ) → front_by fault (take j items) text p ≡ Ok a → front_by fault (take (suc j) items) text p ≡ Ok b
    → has_part part a.0 ≡ false → has_part part b.0 ≡ true → ⊥

-- the item at this index gives the part, as a component of the choice, and none after it does
pub record Given (part : Field) (fault : Option ℕ) (items chosen : List Item) (text : List ℕ) (p : Parts) : Type 0 where
  pub index : ℕ
  pub component : Component
  pub number : Bool × ℕ
  pub before : List Item
  pub after : List Item
  pub earlier : Parts
  pub start : List ℕ
  pub behind : List ℕ
  pub item : slice_get items index ≡ Some (Part component)
  pub split : chosen ≡ before ++ Part component ∷ after
  pub flat : flat_at before text p ≡ Ok (earlier, start)
  pub read : component_at component start ≡ Some (number, behind)
  pub absent : has_part part earlier ≡ false
  pub given : has_part part (with_part component number earlier) ≡ true
  pub without : front_by fault (take index items) text p ≡ Ok (earlier, start)
  pub upto : front_by fault (take (suc index) items) text p ≡ Ok (with_part component number earlier, behind)
  pub last : (j : ℕ) → index < j → NoneAt part fault items text p j

both : (b : Bool) → b ≡ false → b ≡ true → ⊥
both true f t = absurd cc
both false f t = absurd cc

-- a part that was there before is there at each index
stays : (part : Field) (fault : Option ℕ) (items : List Item) (text : List ℕ) (p : Parts) (a : Parts × List ℕ)
    → front_by fault items text p ≡ Ok a → has_part part p ≡ true → has_part part a.0 ≡ true
stays part fault items text p a h is =
    let taken = taken-by (length items) items fault text p a (omega arith) h in taken-kept part _ _ _ _ _ _ _ taken.1 is

-- the items after a head, where they are read from another place
abbrev Shifted : Option ℕ → Item → ℕ → List Item → List ℕ → Parts → Option ℕ → List ℕ → Parts → Type 0
Shifted fault head size items text p f t q =
    (m k : ℕ) → m ≡ size + k → front_by fault (take (suc m) (head ∷ items)) text p ≡ front_by f (take k (drop size items)) t q

shifted-none : (part : Field) (fault : Option ℕ) (head : Item) (size : ℕ) (items : List Item) (text : List ℕ) (p : Parts) (f : Option ℕ)
    (t : List ℕ) (q : Parts) (m k : ℕ) → m ≡ size + k → Shifted fault head size items text p f t q → NoneAt part f (drop size items) t q k
    → NoneAt part fault (head ∷ items) text p (suc m)
shifted-none part fault head size items text p f t q m k at shift none is a b ea eb ha hb =
    let own : IsPart (drop size items) k = rw (get-drop size k items) (rw at at is) in
    none own a b (sym (shift m k at) ∙ ea) (sym (shift (suc m) (suc k) (omega (arith, at))) ∙ eb) ha hb

shifted-last : (part : Field) (fault : Option ℕ) (head : Item) (size : ℕ) (items : List Item) (text : List ℕ) (p : Parts) (f : Option ℕ)
    (t : List ℕ) (q : Parts) (index : ℕ) → Shifted fault head size items text p f t q
    → ((k : ℕ) → index < k → NoneAt part f (drop size items) t q k)
    → (j : ℕ) → suc (size + index) < j → NoneAt part fault (head ∷ items) text p j
shifted-last part fault head size items text p f t q index shift none zero h = absurd (omega (arith, h))
shifted-last part fault head size items text p f t q index shift none (suc j) h =
    let at = past size j (omega (arith, h)) in
    shifted-none part fault head size items text p f t q j at.0 at.1 shift (none at.0 (omega (arith, h, at.1)))

shifted : (part : Field) (fault : Option ℕ) (head : Item) (size : ℕ) (items pre chosen : List Item) (text : List ℕ) (p : Parts) (f : Option ℕ)
    (t : List ℕ) (q : Parts) → Shifted fault head size items text p f t q → flat_at pre text p ≡ Ok (q, t)
    → Given part f (drop size items) chosen t q → Given part fault (head ∷ items) (pre ++ chosen) text p
shifted part fault head size items pre chosen text p f t q shift front g = record {
  index = suc (size + g.index);
  component = g.component;
  number = g.number;
  before = pre ++ g.before;
  after = g.after;
  earlier = g.earlier;
  start = g.start;
  behind = g.behind;
  item = sym (get-drop size g.index items) ∙ g.item;
  split = rw g.split (sym (append_assoc pre g.before (Part g.component ∷ g.after)));
  flat = flat_at-append pre g.before text p ∙ rw front g.flat;
  read = g.read;
  absent = g.absent;
  given = g.given;
  without = shift (size + g.index) g.index refl ∙ g.without;
  upto = shift (suc (size + g.index)) (suc g.index) (omega arith) ∙ g.upto;
  last = shifted-last part fault head size items text p f t q g.index shift g.last;
}

-- the part is given in the group
ended : (part : Field) (fault : Option ℕ) (text : List ℕ) (p : Parts) (b : Parts × List ℕ) → has_part part p ≡ false
    → read_end fault text p ≡ Ok b → has_part part b.0 ≡ true → ⊥
ended part None text p b absent e h = let pair : (p, text) ≡ b = cc in
    let same : p ≡ b.0 = ap (λ (z : Parts × List ℕ). z.0) pair in
    both (has_part part p) absent (rw same h)
ended part (Some left) text p b absent e h = absurd cc

abbrev has_of : Field → Front → Bool
has_of part (Err left) = false
has_of part (Ok read) = has_part part read.0

within-none : (part : Field) (then : ℕ → Option ℕ) (text : List ℕ) (p : Parts) (o other : Front) (a b : Parts × List ℕ)
    → has_part part p ≡ false → (Fails o → Fails other)
    → ((a b : Parts × List ℕ) → o ≡ Ok a → other ≡ Ok b → has_part part a.0 ≡ false → has_part part b.0 ≡ true → ⊥)
    → shut then text p o ≡ Ok a → shut then text p other ≡ Ok b → has_part part a.0 ≡ false → has_part part b.0 ≡ true → ⊥
within-none part then text p o (Err left) a b absent fails none ea eb ha hb = ended part (then left) text p b absent eb hb
within-none part then text p (Err left) (Ok other) a b absent fails none ea eb ha hb = let no = fails (left, refl) in let e = no.1 in absurd cc
within-none part then text p (Ok read) (Ok other) a b absent fails none ea eb ha hb =
    let first : has_part part read.0 ≡ has_part part a.0 = ap (λ (z : Front). has_of part z) ea in
    let second : has_part part other.0 ≡ has_part part b.0 = ap (λ (z : Front). has_of part z) eb in
    none read other refl refl (first ∙ ha) (second ∙ hb)

within-at : (part : Field) (fault : Option ℕ) (head : Item) (size : ℕ) (then : ℕ → Option ℕ) (items : List Item) (text : List ℕ) (p : Parts)
    (j : ℕ) → IsHead fault head size then text p → has_part part p ≡ false → j < size → NoneAt part None (take size items) text p j
    → NoneAt part fault (head ∷ items) text p (suc j)
within-at part fault head size then items text p j is absent few none at a b ea eb ha hb =
    let own : IsPart (take size items) j = rw (get-take size j items few) at in
    within-none part then text p (front_of (take j (take size items)) text p) (front_of (take (suc j) (take size items)) text p) a b absent
    (fails-on (length (take size items)) (take size items) None text p j (omega arith) own)
    (none own)
    (sym (cut-within fault head size then items text p j is (omega (arith, few))) ∙ ea)
    (sym (cut-within fault head size then items text p (suc j) is (omega (arith, few))) ∙ eb)
    ha hb

-- the part was given in the group
behind-at : (part : Field) (fault : Option ℕ) (head : Item) (size : ℕ) (then : ℕ → Option ℕ) (items : List Item) (text : List ℕ) (p : Parts)
    (m : Parts × List ℕ) (j k : ℕ) → IsHead fault head size then text p → front_of (take size items) text p ≡ Ok m → has_part part m.0 ≡ true
    → j ≡ size + k → NoneAt part fault (head ∷ items) text p (suc j)
behind-at part fault head size then items text p m j k is own given at here a b ea eb ha hb =
    let read : front_by None (take k (drop size items)) m.1 m.0 ≡ Ok a = rw own at (sym (cut-past fault head size then items text p j k is at) ∙ ea) in
    both (has_part part a.0) ha (stays part None (take k (drop size items)) m.1 m.0 a read given)

own-last : (part : Field) (fault : Option ℕ) (head : Item) (size : ℕ) (then : ℕ → Option ℕ) (items : List Item) (text : List ℕ) (p : Parts)
    (m : Parts × List ℕ) (index : ℕ) → IsHead fault head size then text p → has_part part p ≡ false → front_of (take size items) text p ≡ Ok m
    → has_part part m.0 ≡ true → ((j : ℕ) → index < j → NoneAt part None (take size items) text p j)
    → (j : ℕ) → suc index < j → NoneAt part fault (head ∷ items) text p j
own-last part fault head size then items text p m index is absent own given none zero h = absurd (omega (arith, h))
own-last part fault head size then items text p m index is absent own given none (suc j) h = elim (cases_order j size) [
  | inl e ↦ let at = past size j (omega (arith, e)) in behind-at part fault head size then items text p m j at.0 is own given at.1
  | inr (inl few) ↦ within-at part fault head size then items text p j is absent few (none j (omega (arith, h)))
  | inr (inr more) ↦ let at = past size j (omega (arith, more)) in behind-at part fault head size then items text p m j at.0 is own given at.1
]

own-given : (part : Field) (fault : Option ℕ) (head : Item) (size : ℕ) (then : ℕ → Option ℕ) (items mine others : List Item) (text : List ℕ)
    (p : Parts) (m : Parts × List ℕ) → IsHead fault head size then text p → has_part part p ≡ false → front_of (take size items) text p ≡ Ok m
    → has_part part m.0 ≡ true → Given part None (take size items) mine text p → Given part fault (head ∷ items) (mine ++ others) text p
own-given part fault head size then items mine others text p m is absent own given g =
    let within : g.index < length (take size items) = slice_get_within (take size items) g.index (Part g.component) g.item in
    let few : g.index < size = omega (arith, within, length-take size items, min-le_left size (length items)) in
    record {
      index = suc g.index;
      component = g.component;
      number = g.number;
      before = g.before;
      after = g.after ++ others;
      earlier = g.earlier;
      start = g.start;
      behind = g.behind;
      item = sym (get-take size g.index items few) ∙ g.item;
      split = rw g.split (append_assoc g.before (Part g.component ∷ g.after) others);
      flat = g.flat;
      read = g.read;
      absent = g.absent;
      given = g.given;
      without = cut-within fault head size then items text p g.index is (omega (arith, few)) ∙ rw g.without refl;
      upto = cut-within fault head size then items text p (suc g.index) is (omega (arith, few)) ∙ rw g.upto refl;
      last = own-last part fault head size then items text p m g.index is absent own given g.last;
    }

-- ---- a choice that is taken

byte-shifted : (byte : ℕ) (items : List Item) (text : List ℕ) (p : Parts) → Shifted None (Byte byte) 0 items (byte ∷ text) p None text p
unfolding read_from item_at
byte-shifted byte items text p m k at = let same : m ≡ k = omega (arith, at) in rw (same, mark_again byte text) refl

part-shifted : (c : Component) (n : Bool × ℕ) (items : List Item) (text after : List ℕ) (p : Parts) → component_at c text ≡ Some (n, after)
    → agrees c n p ≡ true → Shifted None (Part c) 0 items text p None after (with_part c n p)
unfolding read_from item_at
part-shifted c n items text after p read agree m k at = let same : m ≡ k = omega (arith, at) in rw (same, read, agree) refl

byte-flat : (byte : ℕ) (text : List ℕ) (p : Parts) → flat_at (Byte byte ∷ []) (byte ∷ text) p ≡ Ok (p, text)
unfolding flat_at item_at
byte-flat byte text p = rw (mark_again byte text) refl

part-flat : (c : Component) (n : Bool × ℕ) (text after : List ℕ) (p : Parts) → component_at c text ≡ Some (n, after) → agrees c n p ≡ true
    → flat_at (Part c ∷ []) text p ≡ Ok (with_part c n p, after)
unfolding flat_at item_at
part-flat c n text after p read agree = rw (read, agree) refl

none-flat : (text : List ℕ) (p : Parts) → flat_at [] text p ≡ Ok (p, text)
unfolding flat_at
none-flat text p = refl

none-front : (text : List ℕ) (p : Parts) → front_by None [] text p ≡ Ok (p, text)
unfolding read_from
none-front text p = refl

-- a component that gives the part itself
here-none : (part : Field) (c : Component) (n : Bool × ℕ) (items : List Item) (text after : List ℕ) (p : Parts)
    → component_at c text ≡ Some (n, after) → agrees c n p ≡ true → has_part part (with_part c n p) ≡ true
    → (j : ℕ) → NoneAt part None (Part c ∷ items) text p (suc j)
here-none part c n items text after p read agree given j is a b ea eb ha hb =
    let others = sym (part-shifted c n items text after p read agree j j (omega arith)) ∙ ea in
    both (has_part part a.0) ha (stays part None (take j items) after (with_part c n p) a others given)

here-last : (part : Field) (c : Component) (n : Bool × ℕ) (items : List Item) (text after : List ℕ) (p : Parts)
    → component_at c text ≡ Some (n, after) → agrees c n p ≡ true → has_part part (with_part c n p) ≡ true
    → (j : ℕ) → 0 < j → NoneAt part None (Part c ∷ items) text p j
here-last part c n items text after p read agree given zero h = absurd (omega (arith, h))
here-last part c n items text after p read agree given (suc j) h = here-none part c n items text after p read agree given j

here : (part : Field) (c : Component) (n : Bool × ℕ) (items chosen : List Item) (text after : List ℕ) (p : Parts)
    → component_at c text ≡ Some (n, after) → agrees c n p ≡ true → has_part part p ≡ false → has_part part (with_part c n p) ≡ true
    → Given part None (Part c ∷ items) (Part c ∷ chosen) text p
here part c n items chosen text after p read agree absent given = record {
  index = 0;
  component = c;
  number = n;
  before = [];
  after = chosen;
  earlier = p;
  start = text;
  behind = after;
  item = refl;
  split = refl;
  flat = none-flat text p;
  read = read;
  absent = absent;
  given = given;
  without = none-front text p;
  upto = part-shifted c n items text after p read agree 0 0 (omega arith) ∙ none-front after (with_part c n p);
  last = here-last part c n items text after p read agree given;
}

-- the items after a group that was read or that failed
past-shifted : (fault : Option ℕ) (head : Item) (size : ℕ) (then : ℕ → Option ℕ) (items : List Item) (text : List ℕ) (p : Parts)
    (m : Parts × List ℕ) → IsHead fault head size then text p → front_of (take size items) text p ≡ Ok m
    → Shifted fault head size items text p None m.1 m.0
past-shifted fault head size then items text p m is own j k at = cut-past fault head size then items text p j k is at ∙ rw own refl

left-shifted : (fault : Option ℕ) (head : Item) (size : ℕ) (then : ℕ → Option ℕ) (items : List Item) (text : List ℕ) (p : Parts) (left : ℕ)
    → IsHead fault head size then text p → front_of (take size items) text p ≡ Err left → Shifted fault head size items text p (then left) text p
left-shifted fault head size then items text p left is own j k at = cut-past fault head size then items text p j k is at ∙ rw own refl

group-given : (part : Field) (fault : Option ℕ) (head : Item) (size : ℕ) (then : ℕ → Option ℕ) (items mine others : List Item)
    (text : List ℕ) (p : Parts) (after : List ℕ) (m : Parts) → IsHead fault head size then text p → has_part part p ≡ false
    → front_of (take size items) text p ≡ Ok (m, after) → flat_at mine text p ≡ Ok (m, after)
    → (has_part part m ≡ true → Given part None (take size items) mine text p)
    → (has_part part m ≡ false → Given part None (drop size items) others after m)
    → Given part fault (head ∷ items) (mine ++ others) text p
group-given part fault head size then items mine others text p after m is absent own flat first second = elim (cases_Bool (has_part part m)) [
  | inl t ↦ own-given part fault head size then items mine others text p (m, after) is absent own t (first t)
  | inr f ↦
      shifted part fault head size items mine others text p None after m (past-shifted fault head size then items text p (m, after) is own) flat (second f)
]

left-given : (part : Field) (fault : Option ℕ) (head : Item) (size left : ℕ) (then : ℕ → Option ℕ) (items others : List Item)
    (text : List ℕ) (p : Parts) → IsHead fault head size then text p → front_of (take size items) text p ≡ Err left
    → Given part (then left) (drop size items) others text p → Given part fault (head ∷ items) others text p
left-given part fault head size left then items others text p is own g =
    shifted part fault head size items [] others text p (then left) text p (left-shifted fault head size then items text p left is own) (none-flat text p) g

part-given : (part : Field) (c : Component) (n : Bool × ℕ) (items chosen : List Item) (text after : List ℕ) (p : Parts)
    → component_at c text ≡ Some (n, after) → agrees c n p ≡ true → has_part part p ≡ false
    → (has_part part (with_part c n p) ≡ false → Given part None items chosen after (with_part c n p))
    → Given part None (Part c ∷ items) (Part c ∷ chosen) text p
part-given part c n items chosen text after p read agree absent others = elim (cases_Bool (has_part part (with_part c n p))) [
  | inl t ↦ here part c n items chosen text after p read agree absent t
  | inr f ↦
      shifted part None (Part c) 0 items (Part c ∷ []) chosen text p None after (with_part c n p) (part-shifted c n items text after p read agree)
      (part-flat c n text after p read agree) (others f)
]

pub taken-given : (part : Field) (left : ℕ) (instead : Bool) (items chosen : List Item) (text : List ℕ) (p : Parts) (rest : List ℕ) (q : Parts)
    → Takes instead items chosen text p rest q → has_part part p ≡ false → has_part part q ≡ true
    → Given part (fault_of instead left) items chosen text p
taken-given part left _ _ _ _ _ _ _ (Takes.ends {p = p}) absent so = absurd (both (has_part part p) absent so)
taken-given part left _ _ _ _ _ _ _ (Takes.byte {byte = x} {items = xs} {chosen = a} {text = t} {p = p} more) absent so =
    shifted part None (Byte x) 0 xs (Byte x ∷ []) a (x ∷ t) p None t p (byte-shifted x xs t p) (byte-flat x t p)
    (taken-given part left _ _ _ _ _ _ _ more absent so)
taken-given part left _ _ _ _ _ _ _ (Takes.part {component = c} {n = n} {items = xs} {chosen = a} {text = t} {after = u} {p = p} read agree more) absent so =
    part-given part c n xs a t u p read agree absent (λ f. taken-given part left _ _ _ _ _ _ _ more f so)
taken-given part left _ _ _ _ _ _ _ (Takes.optional {size = s} {items = xs} {own = a} {others = b} {text = t} {after = u} {p = p} {m = m} own more) absent so =
    group-given part None (Optional s) s (λ left. None) xs a b t p u m (λ l. optional-is s l t p) absent
    (taken-read left _ _ _ _ _ _ _ own) (taken-flat _ _ _ _ _ _ _ own)
    (λ there. taken-given part left _ _ _ _ _ _ _ own absent there) (λ f. taken-given part left _ _ _ _ _ _ _ more f so)
taken-given part left _ _ _ _ _ _ _ (Takes.optional_left_out {size = s} {left = l} {items = xs} {others = b} {text = t} {p = p} fails more) absent so =
    left-given part None (Optional s) s l (λ left. None) xs b t p (λ l. optional-is s l t p) fails
    (taken-given part left _ _ _ _ _ _ _ more absent so)
taken-given part left _ _ _ _ _ _ _ (Takes.first {size = s} {items = xs} {own = a} {others = b} {text = t} {after = u} {p = p} {m = m} own more) absent so =
    group-given part None (First s) s (λ left. Some left) xs a b t p u m (λ l. first-is s l t p) absent
    (taken-read left _ _ _ _ _ _ _ own) (taken-flat _ _ _ _ _ _ _ own)
    (λ there. taken-given part left _ _ _ _ _ _ _ own absent there) (λ f. taken-given part left _ _ _ _ _ _ _ more f so)
taken-given part left _ _ _ _ _ _ _ (Takes.first_replaced {size = s} {left = l} {items = xs} {others = b} {text = t} {p = p} fails more) absent so =
    left-given part None (First s) s l (λ left. Some left) xs b t p (λ l. first-is s l t p) fails
    (taken-given part l _ _ _ _ _ _ _ more absent so)
taken-given part left _ _ _ _ _ _ _ (Takes.other {size = s} {items = xs} {own = a} {others = b} {text = t} {after = u} {p = p} {m = m} own more) absent so =
    group-given part (Some left) (Or s) s (λ other. Some left) xs a b t p u m (λ l. instead-is s l left t p) absent
    (taken-read left _ _ _ _ _ _ _ own) (taken-flat _ _ _ _ _ _ _ own)
    (λ there. taken-given part left _ _ _ _ _ _ _ own absent there) (λ f. taken-given part left _ _ _ _ _ _ _ more f so)
taken-given part left _ _ _ _ _ _ _ (Takes.other_replaced {size = s} {left = l} {items = xs} {others = b} {text = t} {p = p} fails more) absent so =
    left-given part (Some left) (Or s) s l (λ other. Some left) xs b t p (λ l. instead-is s l left t p) fails
    (taken-given part left _ _ _ _ _ _ _ more absent so)
taken-given part left _ _ _ _ _ _ _ (Takes.other_left_out {size = s} {items = xs} {others = b} {text = t} {p = p} more) absent so =
    shifted part None (Or s) s xs [] b t p None t p (λ m k at. or-past s xs t p m k at) (none-flat t p)
    (taken-given part left _ _ _ _ _ _ _ more absent so)
