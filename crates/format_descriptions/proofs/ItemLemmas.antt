-- Items written one after another, and their groups.
use Rattle.std.proofs.Common.{◌≡◌, ℕ, zero, suc, ◌+◌, ◌-◌, ◌==◌, ℤ, unsigned_abs, true, false, List, [], ◌∷◌, ◌++◌, length}
use Rattle.std.proofs.Common.{drop, min}
use Rattle.std.proofs.Common.{append_assoc, append-nil}
use Rattle.std.proofs.Common.{length-append, sym, ap, refl, ◌∙◌, arith, inl, inr, Some, None}
use Rattle.std.proofs.lemmas.Bool.{cases_order}
use Rattle.std.specs.Prelude.{IsAscii}
use Rattle.std.proofs.lemmas.List.{get_or-append-add, get_or_append_left, get_or_past}
use Rattle.format_descriptions.specs.Groups.{size_of, is_other, written_from}
use Rattle.format_descriptions.specs.Written.{flat_text, item_text, Fits, no_text, offset_word_text, is_year_since, year_since_text}
use Rattle.format_descriptions.specs.declared.modifiers.UtcWord.{UtcWord}
use Rattle.format_descriptions.specs.declared.item.Item.{Item}
use Rattle.format_descriptions.proofs.GroupLemmas.{written_from-drop}

-- what two lists of items write
flat_text-append : (first second : List Item) (day : ℤ) (clock : ℕ) (o : ℤ)
    → flat_text (first ++ second) day clock o ≡ flat_text first day clock o ++ flat_text second day clock o
unfolding flat_text
flat_text-append [] second day clock o = refl
flat_text-append (item ∷ first) second day clock o =
    rw (
      flat_text-append first second day clock o,
      append_assoc (item_text item day clock o) (flat_text first day clock o) (flat_text second day clock o),
    ) refl

-- an item that is no head, and then the others
pub goes_on : (item : Item) (items others : List Item) (count n : ℕ) (day : ℤ) (clock : ℕ) (o : ℤ) (old all piece : List ℕ) → items ≡ item ∷ others
    → count ≡ suc n → None ≡ size_of item → old ++ flat_text (written_from items 0 count) day clock o ≡ all → piece ≡ item_text item day clock o
    → (old ++ piece) ++ flat_text (written_from others 0 n) day clock o ≡ all
unfolding flat_text written_from
goes_on item items others count n day clock o old all piece front place plain so is =
    rw (is, append_assoc old (item_text item day clock o) (flat_text (written_from others 0 n) day clock o)) (rw (front, place, ← plain) at so)

-- the items of a group, and then the others
pub group_goes_on : (item : Item) (items others : List Item) (size count n : ℕ) (day : ℤ) (clock : ℕ) (o : ℤ) (old all : List ℕ) → items ≡ item ∷ others
    → count ≡ suc n → Some size ≡ size_of item → is_other item ≡ false → old ++ flat_text (written_from items 0 count) day clock o ≡ all
    → (old ++ flat_text (written_from others 0 (min size n)) day clock o) ++ flat_text (written_from (drop size others) 0 (n - size)) day clock o ≡ all
unfolding written_from
group_goes_on item items others size count n day clock o old all front place head own so =
    let own_text = flat_text (written_from others 0 (min size n)) day clock o in
    let both = rw (front, place, ← head, own, flat_text-append (written_from others 0 (min size n)) (written_from others size (n - size)) day clock o) at so in
    rw (append_assoc old own_text (flat_text (written_from (drop size others) 0 (n - size)) day clock o), ← written_from-drop others size (n - size)) both

-- a group in place of another
pub other_goes_on : (item : Item) (items others : List Item) (size count n : ℕ) (day : ℤ) (clock : ℕ) (o : ℤ) (old all : List ℕ) → items ≡ item ∷ others
    → count ≡ suc n → Some size ≡ size_of item → is_other item ≡ true → old ++ flat_text (written_from items 0 count) day clock o ≡ all
    → old ++ flat_text (written_from (drop size others) 0 (n - size)) day clock o ≡ all
unfolding written_from
other_goes_on item items others size count n day clock o old all front place head other so =
    rw (← written_from-drop others size (n - size)) (rw (front, place, ← head, other) at so)

-- there is nothing left, or nothing that is taken
pub all_written : (items : List Item) (n : ℕ) (day : ℤ) (clock : ℕ) (o : ℤ) (text all : List ℕ) → length items ≡ 0
    → text ++ flat_text (written_from items 0 n) day clock o ≡ all → text ≡ all
unfolding flat_text written_from
all_written [] n day clock o text all none so = sym (append-nil text) ∙ so
all_written (item ∷ items) n day clock o text all none so = absurd (omega (arith, none))

pub count_written : (items : List Item) (count : ℕ) (day : ℤ) (clock : ℕ) (o : ℤ) (text all : List ℕ) → count ≡ 0
    → text ++ flat_text (written_from items 0 count) day clock o ≡ all → text ≡ all
unfolding flat_text written_from
count_written [] count day clock o text all none so = sym (append-nil text) ∙ so
count_written (item ∷ items) zero day clock o text all none so = sym (append-nil text) ∙ so
count_written (item ∷ items) (suc count) day clock o text all none so = absurd (omega (arith, none))

IsAscii-right : (xs ys : List ℕ) → IsAscii (xs ++ ys) → IsAscii ys
IsAscii-right xs ys h = λ i. omega (arith, get_or-append-add xs ys i 0, h (length xs + i))

IsAscii-left : (xs ys : List ℕ) → IsAscii (xs ++ ys) → IsAscii xs
IsAscii-left xs ys h = λ i. elim (cases_order i (length xs)) [
  | inl same ↦ omega (arith, get_or_past xs i 0 (omega (arith, same)))
  | inr (inl below) ↦ omega (arith, get_or_append_left xs ys 0 i below, h i)
  | inr (inr past) ↦ omega (arith, get_or_past xs i 0 (omega (arith, past)))
]

-- a piece that is not ASCII
pub unwritable : (old piece : List ℕ) → ¬ IsAscii piece → ¬ Fits (old ++ piece)
unwritable old piece other fits = other (IsAscii-right old piece fits.1)

-- a group that does not fit
pub group_unfit : (old own others all : List ℕ) → ¬ Fits (old ++ own) → (old ++ own) ++ others ≡ all → ¬ Fits all
group_unfit old own others all other so fits =
    other
    (omega (arith, ap (length {A = ℕ}) so, length-append (old ++ own) others, fits.0), IsAscii-left (old ++ own) others (rw so fits.1))

-- what a component cannot write
no_text-not_ascii : ¬ IsAscii no_text
no_text-not_ascii h = omega (arith, h 0)

pub no_word : (word : UtcWord) (o : ℤ) → false ≡ (unsigned_abs o == 0) → ¬ IsAscii (offset_word_text word o)
unfolding offset_word_text
no_word word o other = rw (← other) no_text-not_ascii

pub no_year : (first : ℕ) (y : ℤ) → false ≡ is_year_since first y → ¬ IsAscii (year_since_text first y)
unfolding year_since_text
no_year first y other = rw (← other) no_text-not_ascii
