-- What descriptions write, and their items.
use Rattle.std.proofs.Common.{◌≡◌, ℕ, suc, ◌<◌, ◌≤◌, true, false, nat_lt, ◌*◌, ◌+◌, List, [], ◌∷◌, ◌++◌, length, take, refl, ap, ◌∙◌, arith}
use Rattle.std.proofs.Common.{Option, Some, None, Result, Ok, Err, inl, inr}
use Rattle.std.specs.Prelude.{SomeIff, OkIff, IfOk, IfErr, IsAscii}
use Rattle.std.specs.List.{list_all}
use Rattle.std.proofs.lemmas.Bool.Decides.{nat_tests}
use Rattle.std.proofs.lemmas.Bool.{cases_Bool, and_parts}
use Rattle.std.proofs.lemmas.List.{take_at, length-append}
use Rattle.std.proofs.lemmas.Str.Ascii.{IsAscii-nil, IsAscii-cons}
use Rattle.format_descriptions.specs.DescriptionTexts.{description_source}
use Rattle.format_descriptions.specs.SourceLengthLemmas.{length-description_source}
use Rattle.format_descriptions.specs.Written.{Fits}
use Rattle.format_descriptions.specs.declared.component.Component.{Component}
use Rattle.format_descriptions.specs.declared.description_steps.DescriptionVersion.{DescriptionVersion}
use Rattle.format_descriptions.specs.declared.format_refusal.FormatRefusal.{FormatRefusal}
use Rattle.format_descriptions.specs.declared.format_refusal.FormatRefusal.TheVariants.{Lacks, NoText}
use Rattle.format_descriptions.specs.declared.item.Item.{Item}
use Rattle.muxandu_c.specs.Batches.{value_before, status_before, values_of, status_of_items}
use Rattle.muxandu_c.specs.DescriptionItems.{item_of}
use Rattle.muxandu_c.specs.Descriptions.{refused_if_none, item_or_refused, item_before, all_items, items_of}
use Rattle.muxandu_c.specs.Outcomes.{size_of}
use Rattle.muxandu_c.specs.Formats.{fits, fitting, text_or_refused, unless_lacking}
use Rattle.muxandu_c.specs.declared.description_items.MuxanduItem.{MuxanduItem}
use Rattle.muxandu_c.specs.declared.refused.Refused.{Refused}
use Rattle.muxandu_c.specs.declared.refused.Refused.TheVariants as refused

-- ---- texts that fit

ascii_passes : (text : List ℕ) → IsAscii text → list_all (λ c. nat_lt c 128) text ≡ true
ascii_passes [] h = refl
ascii_passes (b ∷ text) h =
    let low : b < 128 = h 0 in
    let first : nat_lt b 128 ≡ true = grind (arith, nat_tests) in rw (first, ascii_passes text (λ i. h (suc i))) refl

passes_ascii : (text : List ℕ) → list_all (λ c. nat_lt c 128) text ≡ true → IsAscii text
passes_ascii [] h = IsAscii-nil
passes_ascii (b ∷ text) h =
    let both = and_parts (nat_lt b 128) (list_all (λ c. nat_lt c 128) text) h in
    let first = both.0 in
    let low : b < 128 = grind (arith, nat_tests) in IsAscii-cons b text low (passes_ascii text both.1)

fits-of : (text : List ℕ) → Fits text → fits text ≡ true
fits-of text h =
    let size = h.0 in
    let short : nat_lt (length text) 65 ≡ true = grind (arith, nat_tests) in rw (short, ascii_passes text h.1) refl

of-fits : (text : List ℕ) → fits text ≡ true → Fits text
of-fits text h =
    let both = and_parts (nat_lt (length text) 65) (list_all (λ c. nat_lt c 128) text) h in
    let size = both.0 in
    let short : length text ≤ 64 = grind (arith, nat_tests) in (short, passes_ascii text both.1)

fitting-none : (whole : List ℕ) → (Fits whole → ⊥) → Err refused.NoText ≡ fitting whole
unfolding fitting
fitting-none whole h = elim (cases_Bool (fits whole)) [
  | inl t ↦ absurd (h (of-fits whole t))
  | inr f ↦ rw f refl
]

fitting-some : (text whole : List ℕ) → Fits whole → text ≡ whole → Ok text ≡ fitting whole
unfolding fitting
fitting-some text whole h e = rw (fits-of whole h, e) refl

pub fitting-at_some : (text whole : List ℕ) → SomeIff (Some text) (Fits whole) whole → Ok text ≡ fitting whole
fitting-at_some text whole h = fitting-some text whole h.0 h.1

pub fitting-at_none : (whole : List ℕ) → SomeIff None (Fits whole) whole → Err refused.NoText ≡ fitting whole
fitting-at_none whole h = fitting-none whole h

-- a text, unless the value lacks a component
by_lacking : (lacks : Option Component) (r : Result (List ℕ) FormatRefusal) (whole : List ℕ) → (lacks ≡ None → OkIff r (Fits whole) whole)
    → ((c : Component) → lacks ≡ Some c → r ≡ Err (Lacks c)) → (lacks ≡ None → IfErr r (λ refusal. refusal ≡ NoText))
    → text_or_refused r ≡ unless_lacking lacks whole
by_lacking None (Ok text) whole written lacked none = let h = written refl in fitting-some text whole h.0 h.1
by_lacking None (Err refusal) whole written lacked none = fitting-none whole (written refl)
by_lacking (Some c) r whole written lacked none = rw (lacked c refl) refl

pub text_unless_lacking : (lacks : Option Component) (given : Result (List ℕ) Refused) (r : Result (List ℕ) FormatRefusal) (whole : List ℕ)
    → given ≡ text_or_refused r → (lacks ≡ None → OkIff r (Fits whole) whole)
    → ((c : Component) → lacks ≡ Some c → r ≡ Err (Lacks c)) → (lacks ≡ None → IfErr r (λ refusal. refusal ≡ NoText))
    → given ≡ unless_lacking lacks whole
text_unless_lacking lacks given r whole e written lacked none = e ∙ by_lacking lacks r whole written lacked none

-- ---- items of numbers

next_items : (o : Option Item) (rest : Result (List Item) Refused) (status : ℕ) (values : List Item) → (status ≡ 0 → rest ≡ Ok values)
    → status_before (refused_if_none o) status ≡ 0 → item_before (refused_if_none o) rest ≡ Ok (value_before (refused_if_none o) values)
next_items None rest status values then h = absurd (omega (arith, h))
next_items (Some item) rest status values then h = rw (then h) refl

pub items_of_values : (numbers : List MuxanduItem) → status_of_items item_or_refused numbers ≡ 0
    → all_items numbers ≡ Ok (values_of item_or_refused numbers)
items_of_values [] h = refl
items_of_values (v ∷ numbers) h =
    next_items (item_of v) (all_items numbers) (status_of_items item_or_refused numbers) (values_of item_or_refused numbers)
    (items_of_values numbers) h

next_refused : (o : Option Item) (rest : Result (List Item) Refused) (status : ℕ) → ((status ≡ 0 → ⊥) → rest ≡ Err refused.Unit)
    → (status_before (refused_if_none o) status ≡ 0 → ⊥) → item_before (refused_if_none o) rest ≡ Err refused.Unit
next_refused None rest status then h = refl
next_refused (Some item) rest status then h = rw (then h) refl

pub items_of_no_values : (numbers : List MuxanduItem) → (status_of_items item_or_refused numbers ≡ 0 → ⊥)
    → all_items numbers ≡ Err refused.Unit
items_of_no_values [] h = absurd (h refl)
items_of_no_values (v ∷ numbers) h =
    next_refused (item_of v) (all_items numbers) (status_of_items item_or_refused numbers) (items_of_no_values numbers) h

next_length : (o : Option Item) (status n : ℕ) (values : List Item) → (status ≡ 0 → length values ≡ n)
    → status_before (refused_if_none o) status ≡ 0 → length (value_before (refused_if_none o) values) ≡ suc n
next_length None status n values then h = absurd (omega (arith, h))
next_length (Some item) status n values then h = ap suc (then h)

pub length-items_of_values : (numbers : List MuxanduItem) → status_of_items item_or_refused numbers ≡ 0
    → length (values_of item_or_refused numbers) ≡ length numbers
length-items_of_values [] h = refl
length-items_of_values (v ∷ numbers) h =
    next_length (item_of v) (status_of_items item_or_refused numbers) (length numbers) (values_of item_or_refused numbers)
    (length-items_of_values numbers) h

pub items_of-refused : (numbers : List MuxanduItem) → length numbers ≤ 128 → (status_of_items item_or_refused numbers ≡ 0 → ⊥)
    → items_of numbers ≡ Err refused.Unit
items_of-refused numbers few bad =
    let short : nat_lt 128 (length numbers) ≡ false = grind (arith, nat_tests) in rw short (items_of_no_values numbers bad)

pub items_of-read : (numbers : List MuxanduItem) → length numbers ≤ 128 → status_of_items item_or_refused numbers ≡ 0
    → items_of numbers ≡ Ok (values_of item_or_refused numbers)
items_of-read numbers few good =
    let short : nat_lt 128 (length numbers) ≡ false = grind (arith, nat_tests) in rw short (items_of_values numbers good)

pub size_of-read : (numbers : List MuxanduItem) → length numbers ≤ 128 → status_of_items item_or_refused numbers ≡ 0
    → Ok (length numbers) ≡ size_of (items_of numbers)
size_of-read numbers few good = rw (items_of-read numbers few good, length-items_of_values numbers good) refl

pub room-read : (numbers : List MuxanduItem) (room rest : List Item) → length numbers ≤ 128 → status_of_items item_or_refused numbers ≡ 0
    → room ≡ values_of item_or_refused numbers ++ rest → IfOk (items_of numbers) (λ items. take (length items) room ≡ items)
room-read numbers room rest few good made =
    rw (items_of-read numbers few good, made) (take_at (values_of item_or_refused numbers) rest (length (values_of item_or_refused numbers)) refl)

-- ---- the texts of items

-- a text of at most 128 items has at most 10,241 bytes, in each buffer
pub text_short : (v : DescriptionVersion) (items : List Item) (text tail there new : List ℕ) → length items ≤ 128
    → description_source v (length there) items ≡ Ok text → new ≡ text ++ tail → length new ≡ length there → length text ≤ 10_241
text_short v items text tail there new few written put same = elim (cases_Bool (nat_lt (length there) (80 * length items + 1))) [
  | inl t ↦
      let low : length there < 80 * length items + 1 = grind (arith, nat_tests, t) in
      let whole : length (text ++ tail) ≡ length there = rw put at same in omega (arith, length-append text tail, whole, low, few)
  | inr f ↦
      let enough : 80 * length items + 1 ≤ length there = grind (arith, nat_tests, f) in
      let short : length text ≤ 80 * length items + 1 = rw written at (length-description_source v (length there) items enough) in
      omega (arith, short, few)
]
