-- The text of a description is read back as its items.
use Rattle.std.proofs.Common.{◌≡◌, ℕ, zero, suc, ◌+◌, ◌-◌, ◌*◌, ◌/◌, ◌%◌, ◌^◌, ◌<◌, ◌≤◌, ◌==◌, ◌||◌, Bool}
use Rattle.std.proofs.Common.{true, false, List, [], ◌∷◌, ◌++◌, length, codes}
use Rattle.std.proofs.Common.{lit≤, lit<}
use Rattle.std.proofs.Common.{refl, ap, arith, append_assoc, append-nil, inl, inr, pow-suc}
use Rattle.std.specs.Prelude.{Option, Some, None, Result, Ok, Err, nat_lt, not, if◌then◌else◌}
use Rattle.std.proofs.lemmas.Bool.{cases_Bool}
use Rattle.std.proofs.lemmas.Bool.Decides.{nat_tests}
use Rattle.std.proofs.Math.Pow.{pow_mono}
use Rattle.format_descriptions.specs.DescriptionGroups.{group_size, unsized_step, inside, group_at}
use Rattle.format_descriptions.specs.DescriptionGroups.{in_groups, began, in_group_word}
use Rattle.format_descriptions.specs.DescriptionGroups.{between_groups, head_of, item_of_size}
use Rattle.format_descriptions.specs.Groups.{size_of, is_other}
use Rattle.format_descriptions.specs.DescriptionSteps.{step, outside, escaped, open_bracket}
use Rattle.format_descriptions.specs.DescriptionTexts.{byte_source, component_source, plain_source, group_opening, group_end, is_several, end_of_several}
use Rattle.format_descriptions.specs.DescriptionTexts.{group_fault, fault_or, fault_of_other, SourceFault, with_piece, with_source, unless_fault, and_then}
use Rattle.format_descriptions.specs.DescriptionTexts.{last_end, source_from, description_source}
use Rattle.format_descriptions.specs.Descriptions.{items_from, items_of_description}
use Rattle.format_descriptions.specs.DescriptionGroups.{group_fault_at_end}
use Rattle.format_descriptions.specs.DescriptionSteps.{fault_at_end}
use Rattle.format_descriptions.specs.DescriptionWords.{is_white_space, is_word_at, ends_word}
use Rattle.format_descriptions.specs.declared.component.Component.{Component}
use Rattle.format_descriptions.specs.declared.description_groups.Spot.TheVariants.{Inside, GroupWord, BetweenGroups}
use Rattle.format_descriptions.specs.declared.description_groups.State.{State}
use Rattle.format_descriptions.specs.declared.description_steps.DescriptionVersion.{DescriptionVersion}
use Rattle.format_descriptions.specs.declared.description_steps.DescriptionVersion.TheVariants.{One, Two}
use Rattle.format_descriptions.specs.declared.description_steps.Place.TheVariants.{Outside, Escaped, Opened}
use Rattle.format_descriptions.specs.declared.item.Item.{Item}
use Rattle.format_descriptions.specs.declared.item.Item.TheVariants.{Byte, Part, Optional, First, Or}
use Rattle.format_descriptions.specs.declared.item_refusal.ItemFault.{ItemFault}
use Rattle.format_descriptions.specs.declared.item_refusal.ItemFault.TheVariants.{NoEscape, NoRoom, PastEnd, TooDeep}
use Rattle.format_descriptions.proofs.ComponentSourceLemmas.{IsAgain, component_again, inner_bytes}
use Rattle.format_descriptions.proofs.DescriptionAgainLemmas.{at, Reads, reads-none, reads-append, reads-on, reads-item, ends-other, ends-within}
use Rattle.format_descriptions.proofs.DescriptionAgainLemmas.{ends-deeper, opened, component_reads}

-- a text is read so whatever follows it, and wherever the outermost group began
abbrev pub ReadsOn : DescriptionVersion → ℕ → (ℕ → State) → List ℕ → List Item → (ℕ → State) → Type 0
ReadsOn v top s text own after = (outer : ℕ) (rest : List ℕ) → (next : ℕ) × Reads v top (s outer) text own rest (after next)

-- outside of brackets, and behind a group of several
abbrev pub plain_at : ℕ → ℕ → State
plain_at g outer = at g outer (Inside Outside)

abbrev pub between_at : ℕ → ℕ → State
between_at g outer = at (g * 2 + 1) outer (BetweenGroups true)

abbrev pub state_at : Bool → ℕ → ℕ → State
state_at false g = plain_at g
state_at true g = between_at g

on-none : (v : DescriptionVersion) (top : ℕ) (s : ℕ → State) → ReadsOn v top s [] [] s
on-none v top s outer rest = (outer, reads-none v top (s outer) rest)

on-append : (v : DescriptionVersion) (top : ℕ) (s middle after : ℕ → State) (first second : List ℕ) (own others : List Item)
    → ReadsOn v top s first own middle → ReadsOn v top middle second others after → ReadsOn v top s (first ++ second) (own ++ others) after
on-append v top s middle after first second own others front back outer rest =
    let one = front outer (second ++ rest) in
    let two = back one.0 rest in
    (two.0, reads-append v top (s outer) (middle one.0) (after two.0) first second rest own others one.1 two.1)

-- what is read for many groups is read for fewer
reads-fewer : (v : DescriptionVersion) (top fewer : ℕ) (s after : State) (text rest : List ℕ) (own : List Item) → fewer ≤ top
    → Reads v top s text own rest after → Reads v fewer s text own rest after
reads-fewer v top fewer s after text rest own less read = record { items = read.items; size = λ t low high. read.size t low (omega (arith, less, high)) }

-- one byte
plain_step : (v : DescriptionVersion) (g outer b : ℕ) (text : List ℕ) → (b == 93) ≡ false
    → unsized_step v (plain_at g outer) (Inside Outside) b text ≡ in_groups (plain_at g outer) (step v Outside b text)
unfolding unsized_step inside
plain_step v g outer b text other = elim (cases_Bool (nat_lt 1 g)) [ inl t ↦ rw (t, other) refl | inr f ↦ rw f refl ]

byte_on : (v : DescriptionVersion) (g b : ℕ) → (b == 93) ≡ false → (b == 91) ≡ false → ((text : List ℕ) → outside v b text ≡ Ok (Outside, Some (Byte b)))
    → ReadsOn v g (plain_at g) (b ∷ []) (Byte b ∷ []) (plain_at g)
unfolding step
byte_on v g b ends opens is outer rest = (
  outer,
  reads-item v g (plain_at g outer) (plain_at g outer) (plain_at g outer) b [] rest (Byte b) (Byte b) []
      (rw (plain_step v g outer b (b ∷ rest) ends, is (b ∷ rest)) refl) (ends-other g (plain_at g outer) b ends) refl (reads-none v g (plain_at g outer) rest),
)

-- a byte behind a backslash
escaped_on : (g b : ℕ) → (b == 91 || (b == 93 || b == 92)) ≡ true → ReadsOn Two g (plain_at g) (92 ∷ b ∷ []) (Byte b ∷ []) (plain_at g)
unfolding step outside unsized_step inside escaped
escaped_on g b is outer rest = (
  outer,
  reads-on Two g (plain_at g outer) (at g outer (Inside Escaped)) (plain_at g outer) 92 (b ∷ []) rest (Byte b ∷ [])
      (rw (plain_step Two g outer 92 (92 ∷ b ∷ rest) refl) refl) (ends-other g (plain_at g outer) 92 refl)
      (reads-item Two g (at g outer (Inside Escaped)) (plain_at g outer) (plain_at g outer) b [] rest (Byte b) (Byte b) [] (rw is refl)
      (ends-within g (at g outer (Inside Escaped)) b refl) refl (reads-none Two g (plain_at g outer) rest)),
)

-- two brackets
doubled_on : (g : ℕ) → ReadsOn One g (plain_at g) (91 ∷ 91 ∷ []) (Byte 91 ∷ []) (plain_at g)
unfolding step unsized_step inside open_bracket group_at is_word_at
doubled_on g outer rest = (
  outer,
  reads-on One g (plain_at g outer) (at g outer (Inside (Opened (length (91 ∷ 91 ∷ rest))))) (plain_at g outer) 91 (91 ∷ []) rest (Byte 91 ∷ [])
      (opened One g outer (91 ∷ rest)) (ends-other g (plain_at g outer) 91 refl)
      (reads-item One g (at g outer (Inside (Opened (length (91 ∷ 91 ∷ rest))))) (plain_at g outer) (plain_at g outer) 91 [] rest (Byte 91) (Byte 91) [] refl
      (ends-within g (at g outer (Inside (Opened (length (91 ∷ 91 ∷ rest))))) 91 refl) refl (reads-none One g (plain_at g outer) rest)),
)

-- a `]` in no group
closing_on : (g : ℕ) → nat_lt 1 g ≡ false → ReadsOn One g (plain_at g) (93 ∷ []) (Byte 93 ∷ []) (plain_at g)
unfolding step unsized_step inside outside
closing_on g none outer rest = (
  outer,
  reads-item One g (plain_at g outer) (plain_at g outer) (plain_at g outer) 93 [] rest (Byte 93) (Byte 93) []
      (rw none refl) (λ t low high. absurd (grind (arith, nat_tests, none, low, high))) refl (reads-none One g (plain_at g outer) rest),
)

-- a text without a fault is read as this item
abbrev pub IsReadAs : DescriptionVersion → ℕ → Item → Result (List ℕ) ItemFault → Type 0
IsReadAs v g item (Err fault) = Unit {0}
IsReadAs v g item (Ok piece) = ReadsOn v g (plain_at g) piece (item ∷ []) (plain_at g)

neither : (a b : Bool) → (a || b) ≡ false → (a ≡ false) × (b ≡ false)
neither true b h = absurd cc
neither false b h = (refl, h)

byte_again : (v : DescriptionVersion) (in_group : Bool) (g b : ℕ) → nat_lt 1 g ≡ in_group → IsReadAs v g (Byte b) (byte_source v in_group b)
unfolding byte_source outside
byte_again One in_group g b groups = elim (cases_Bool (b == 91)) [
  | inl t ↦ let same : b ≡ 91 = grind (arith, nat_tests, t) in rw same (doubled_on g)
  | inr opens ↦ elim (cases_Bool (b == 93)) [
    | inl t ↦
        let same : b ≡ 93 = grind (arith, nat_tests, t) in
        rw same (elim in_group as (λ x. nat_lt 1 g ≡ x → IsReadAs One g (Byte 93) (if x then Err NoEscape else Ok (93 ∷ []))) [
          | true ↦ λ some. tt
          | false ↦ λ none. closing_on g none
        ] groups)
    | inr ends ↦ rw (opens, ends) (byte_on One g b ends opens (λ text. rw (opens) refl))
  ]
]
byte_again Two in_group g b groups = elim (cases_Bool (b == 91 || (b == 93 || b == 92))) [
  | inl t ↦ rw t (escaped_on g b t)
  | inr f ↦
      let first = neither (b == 91) (b == 93 || b == 92) f in
      let others = neither (b == 93) (b == 92) first.1 in
      rw f (byte_on Two g b others.0 first.0 (λ text. rw (first.0, others.1) refl))
]

-- a component
component_by : (v : DescriptionVersion) (g : ℕ) (c : Component) (source : Result (List ℕ) ItemFault)
    → ((rest : List ℕ) → IsAgain c rest source) → IsReadAs v g (Part c) source
component_by v g c (Err fault) again = tt
component_by v g c (Ok text) again = λ outer rest.
    let read = again rest in (outer, rw read.0 (component_reads v g g outer c (inner_bytes text) rest read.1))

-- an item that is no head of a group
plain_again : (v : DescriptionVersion) (in_group : Bool) (g : ℕ) (item : Item) → nat_lt 1 g ≡ in_group → size_of item ≡ None
    → IsReadAs v g item (plain_source v in_group item)
plain_again v in_group g (Byte b) groups plain = byte_again v in_group g b groups
plain_again v in_group g (Part c) groups plain = component_by v g c (component_source c) (λ rest. component_again c rest)
plain_again v in_group g (Optional size) groups plain = absurd cc
plain_again v in_group g (First size) groups plain = absurd cc
plain_again v in_group g (Or size) groups plain = absurd cc

-- the number of bytes of the word of a group is not asked
word_on : (v : DescriptionVersion) (top g outer b : ℕ) (text rest : List ℕ) (own : List Item) (after : State)
    → is_white_space b ≡ false → (b == 93) ≡ false → (b == 91) ≡ false
    → Reads v top (at g outer GroupWord) text own rest after → Reads v top (at g outer GroupWord) (b ∷ text) own rest after
unfolding unsized_step in_group_word
word_on v top g outer b text rest own after white ends opens back =
    reads-on v top (at g outer GroupWord) (at g outer GroupWord) after b text rest own (rw (white, ends, opens) refl)
    (ends-other top (at g outer GroupWord) b ends) back

-- white space behind the word of a group
space_on : (v : DescriptionVersion) (top g outer : ℕ) (text rest : List ℕ) (own : List Item) (after : State)
    → Reads v top (at g outer (BetweenGroups false)) text own rest after → Reads v top (at g outer GroupWord) (32 ∷ text) own rest after
unfolding unsized_step in_group_word
space_on v top g outer text rest own after back =
    reads-on v top (at g outer GroupWord) (at g outer (BetweenGroups false)) after 32 text rest own refl (ends-other top (at g outer GroupWord) 32 refl) back

-- the `[` of the items of a group
head_on : (v : DescriptionVersion) (top g outer size : ℕ) (is_first has_group : Bool) (text rest : List ℕ) (own : List Item) (after : State)
    → (g % 2 == 1) ≡ is_first → (is_first || not has_group) ≡ true → group_size v g (plain_at g outer) (text ++ rest) ≡ size
    → Reads v top (plain_at g outer) text own rest after
    → Reads v top (at g outer (BetweenGroups has_group)) (91 ∷ text) (item_of_size (head_of is_first has_group) size ∷ own) rest after
unfolding unsized_step between_groups
head_on v top g outer size is_first has_group text rest own after first begins same back =
    reads-item v top (at g outer (BetweenGroups has_group)) (plain_at g outer) after 91 text rest (head_of is_first has_group)
    (item_of_size (head_of is_first has_group) size) own (rw (first, begins) refl) (ends-other top (at g outer (BetweenGroups has_group)) 91 refl)
    (rw same refl) back

-- the word of a group behind a `[`
optional_begins : (v : DescriptionVersion) (g outer n : ℕ) (text : List ℕ) → nat_lt 4_294_967_295 g ≡ false
    → unsized_step v (at g outer (Inside (Opened n))) (Inside (Opened n)) 111 (codes "optional " ++ text)
    ≡ Ok (at (g * 2) (if nat_lt 1 g then outer else n) GroupWord, None)
unfolding unsized_step inside group_at is_word_at ends_word began
optional_begins v g outer n text below = rw below refl

first_begins : (v : DescriptionVersion) (g outer n : ℕ) (text : List ℕ) → nat_lt 4_294_967_295 g ≡ false
    → unsized_step v (at g outer (Inside (Opened n))) (Inside (Opened n)) 102 (codes "first " ++ text)
    ≡ Ok (at (g * 2 + 1) (if nat_lt 1 g then outer else n) GroupWord, None)
unfolding unsized_step inside group_at is_word_at ends_word began
first_begins v g outer n text below = rw below refl

-- the `]` of the items of a group
items_end : (v : DescriptionVersion) (g groups outer : ℕ) (text rest : List ℕ) (after : State) → g < groups → 1 < groups
    → Reads v g (at groups outer (BetweenGroups true)) text [] rest after → Reads v g (plain_at groups outer) (93 ∷ text) [] rest after
unfolding unsized_step inside
items_end v g groups outer text rest after deeper in_group back =
    let many : nat_lt 1 groups ≡ true = grind (arith, nat_tests) in
    reads-on v g (plain_at groups outer) (at groups outer (BetweenGroups true)) after 93 text rest [] (rw many refl)
    (ends-deeper g (plain_at groups outer) 93 deeper) back

-- the `]` of a group, or of several
group_ends : (v : DescriptionVersion) (g groups outer : ℕ) (rest : List ℕ) → groups / 2 ≡ g
    → Reads v g (at groups outer (BetweenGroups true)) (93 ∷ []) [] rest (plain_at g outer)
unfolding unsized_step between_groups
group_ends v g groups outer rest half =
    reads-on v g (at groups outer (BetweenGroups true)) (plain_at g outer) (plain_at g outer) 93 [] rest [] (rw half refl)
    (ends-within g (at groups outer (BetweenGroups true)) 93 refl) (reads-none v g (plain_at g outer) rest)

-- no item of a group is behind its `]`
size-end : (v : DescriptionVersion) (groups outer : ℕ) (text : List ℕ) → group_size v groups (plain_at groups outer) (93 ∷ text) ≡ 0
unfolding group_size
size-end v groups outer text = let same : (groups == groups) ≡ true = grind (arith, nat_tests) in rw same refl

-- the items of a group, and its `]`
own_reads : (v : DescriptionVersion) (g groups outer next : ℕ) (inner ends rest : List ℕ) (own : List Item) (after : State) → g ≤ groups
    → Reads v groups (plain_at groups outer) inner own (ends ++ rest) (plain_at groups next) → Reads v g (plain_at groups next) ends [] rest after
    → Reads v g (plain_at groups outer) (inner ++ ends) own rest after
own_reads v g groups outer next inner ends rest own after less content ending =
    let whole = reads-append v g (plain_at groups outer) (plain_at groups next) after inner ends rest own []
    (reads-fewer v groups g (plain_at groups outer) (plain_at groups next) inner (ends ++ rest) own less content) ending
    in
    rw append-nil at whole

own_size : (v : DescriptionVersion) (groups outer next : ℕ) (inner ends rest : List ℕ) (own : List Item) → 2 ≤ groups
    → Reads v groups (plain_at groups outer) inner own ((93 ∷ ends) ++ rest) (plain_at groups next)
    → group_size v groups (plain_at groups outer) ((inner ++ 93 ∷ ends) ++ rest) ≡ length own
own_size v groups outer next inner ends rest own low content =
    rw (append_assoc inner (93 ∷ ends) rest)
    (let all = content.size groups low (omega arith) in omega (arith, all, size-end v groups next (ends ++ rest)))

optional_again : (v : DescriptionVersion) (g : ℕ) (inner : List ℕ) (own : List Item) → 1 ≤ g → nat_lt 4_294_967_295 g ≡ false
    → ReadsOn v (g * 2) (plain_at (g * 2)) inner own (plain_at (g * 2))
    → ReadsOn v g (plain_at g) (codes "[optional [" ++ (inner ++ codes "]]")) (Optional (length own) ∷ own) (plain_at g)
optional_again v g inner own some below read outer rest =
    let n : ℕ = length (codes "[optional [" ++ ((inner ++ codes "]]") ++ rest)) in
    let begun : ℕ = if nat_lt 1 g then outer else n in
    let content = read begun (codes "]]" ++ rest) in
    let ending = items_end v g (g * 2) content.0 (codes "]") rest (plain_at g content.0) (omega arith) (omega arith)
    (group_ends v g (g * 2) content.0 rest (omega arith))
    in
    let whole = own_reads v g (g * 2) begun content.0 inner (codes "]]") rest own (plain_at g content.0) (omega arith) content.1 ending in
    let size = own_size v (g * 2) begun content.0 inner (codes "]") rest own (omega arith) content.1 in
    let even : (g * 2 % 2 == 1) ≡ false = grind (arith, nat_tests) in
    let word : (b : ℕ) (text : List ℕ) → is_white_space b ≡ false → (b == 93) ≡ false → (b == 91) ≡ false
    → Reads v g (at (g * 2) begun GroupWord) text (Optional (length own) ∷ own) rest (plain_at g content.0)
    → Reads v g (at (g * 2) begun GroupWord) (b ∷ text) (Optional (length own) ∷ own) rest (plain_at g content.0)
    = λ b text white ends opens back.
    word_on v g (g * 2) begun b text rest (Optional (length own) ∷ own) (plain_at g content.0) white ends opens back
    in (
      content.0,
      reads-on v g (plain_at g outer) (at g outer (Inside (Opened n))) (plain_at g content.0) 91 (codes "optional [" ++ (inner ++ codes "]]")) rest
          (Optional (length own) ∷ own) (opened v g outer (codes "optional [" ++ ((inner ++ codes "]]") ++ rest))) (ends-other g (plain_at g outer) 91 refl)
          (reads-on v g (at g outer (Inside (Opened n))) (at (g * 2) begun GroupWord) (plain_at g content.0) 111 (codes "ptional [" ++ (inner ++ codes "]]"))
          rest
          (Optional (length own) ∷ own) (optional_begins v g outer n (91 ∷ ((inner ++ codes "]]") ++ rest)) below)
          (ends-within g (at g outer (Inside (Opened n))) 111 refl)
          (word 112 _ refl refl refl (word 116 _ refl refl refl (word 105 _ refl refl refl (word 111 _ refl refl refl (word 110 _ refl refl refl
          (word 97 _ refl refl refl (word 108 _ refl refl refl
          (space_on v g (g * 2) begun (91 ∷ (inner ++ codes "]]")) rest (Optional (length own) ∷ own) (plain_at g content.0)
          (head_on v g (g * 2) begun (length own) false false (inner ++ codes "]]") rest own (plain_at g content.0) even refl size whole)))))))))),
    )

first_again : (v : DescriptionVersion) (g : ℕ) (inner : List ℕ) (own : List Item) → 1 ≤ g → nat_lt 4_294_967_295 g ≡ false
    → ReadsOn v (g * 2 + 1) (plain_at (g * 2 + 1)) inner own (plain_at (g * 2 + 1))
    → ReadsOn v g (plain_at g) (codes "[first [" ++ (inner ++ codes "]")) (First (length own) ∷ own) (between_at g)
first_again v g inner own some below read outer rest =
    let n : ℕ = length (codes "[first [" ++ ((inner ++ codes "]") ++ rest)) in
    let begun : ℕ = if nat_lt 1 g then outer else n in
    let content = read begun (codes "]" ++ rest) in
    let ending = items_end v g (g * 2 + 1) content.0 [] rest (between_at g content.0) (omega arith) (omega arith)
    (reads-none v g (between_at g content.0) rest)
    in
    let whole = own_reads v g (g * 2 + 1) begun content.0 inner (codes "]") rest own (between_at g content.0) (omega arith) content.1 ending in
    let size = own_size v (g * 2 + 1) begun content.0 inner [] rest own (omega arith) content.1 in
    let odd : ((g * 2 + 1) % 2 == 1) ≡ true = grind (arith, nat_tests) in
    let word : (b : ℕ) (text : List ℕ) → is_white_space b ≡ false → (b == 93) ≡ false → (b == 91) ≡ false
    → Reads v g (at (g * 2 + 1) begun GroupWord) text (First (length own) ∷ own) rest (between_at g content.0)
    → Reads v g (at (g * 2 + 1) begun GroupWord) (b ∷ text) (First (length own) ∷ own) rest (between_at g content.0)
    = λ b text white ends opens back.
    word_on v g (g * 2 + 1) begun b text rest (First (length own) ∷ own) (between_at g content.0) white ends opens back
    in (
      content.0,
      reads-on v g (plain_at g outer) (at g outer (Inside (Opened n))) (between_at g content.0) 91 (codes "first [" ++ (inner ++ codes "]")) rest
          (First (length own) ∷ own) (opened v g outer (codes "first [" ++ ((inner ++ codes "]") ++ rest))) (ends-other g (plain_at g outer) 91 refl)
          (reads-on v g (at g outer (Inside (Opened n))) (at (g * 2 + 1) begun GroupWord) (between_at g content.0) 102
          (codes "irst [" ++ (inner ++ codes "]")) rest
          (First (length own) ∷ own) (first_begins v g outer n (91 ∷ ((inner ++ codes "]") ++ rest)) below)
          (ends-within g (at g outer (Inside (Opened n))) 102 refl)
          (word 105 _ refl refl refl (word 114 _ refl refl refl (word 115 _ refl refl refl (word 116 _ refl refl refl
          (space_on v g (g * 2 + 1) begun (91 ∷ (inner ++ codes "]")) rest (First (length own) ∷ own) (between_at g content.0)
          (head_on v g (g * 2 + 1) begun (length own) true false (inner ++ codes "]") rest own (between_at g content.0) odd refl size whole))))))),
    )

-- white space behind a group
between_on : (v : DescriptionVersion) (top g outer : ℕ) (text rest : List ℕ) (own : List Item) (after : State)
    → Reads v top (between_at g outer) text own rest after → Reads v top (between_at g outer) (32 ∷ text) own rest after
unfolding unsized_step between_groups
between_on v top g outer text rest own after back =
    reads-on v top (between_at g outer) (between_at g outer) after 32 text rest own refl (ends-other top (between_at g outer) 32 refl) back

other_again : (v : DescriptionVersion) (g : ℕ) (inner : List ℕ) (own : List Item) → 1 ≤ g
    → ReadsOn v (g * 2 + 1) (plain_at (g * 2 + 1)) inner own (plain_at (g * 2 + 1))
    → ReadsOn v g (between_at g) (codes " [" ++ (inner ++ codes "]")) (Or (length own) ∷ own) (between_at g)
other_again v g inner own some read outer rest =
    let content = read outer (codes "]" ++ rest) in
    let ending = items_end v g (g * 2 + 1) content.0 [] rest (between_at g content.0) (omega arith) (omega arith)
    (reads-none v g (between_at g content.0) rest)
    in
    let whole = own_reads v g (g * 2 + 1) outer content.0 inner (codes "]") rest own (between_at g content.0) (omega arith) content.1 ending in
    let size = own_size v (g * 2 + 1) outer content.0 inner [] rest own (omega arith) content.1 in
    let odd : ((g * 2 + 1) % 2 == 1) ≡ true = grind (arith, nat_tests) in (
      content.0,
      between_on v g g outer (91 ∷ (inner ++ codes "]")) rest (Or (length own) ∷ own) (between_at g content.0)
          (head_on v g (g * 2 + 1) outer (length own) true true (inner ++ codes "]") rest own (between_at g content.0) odd refl size whole),
    )

-- the `]` of several groups
several_end : (v : DescriptionVersion) (g : ℕ) → ReadsOn v g (between_at g) (codes "]") [] (plain_at g)
several_end v g outer rest = (outer, group_ends v g (g * 2 + 1) outer rest (omega arith))

-- so many items behind those to skip
abbrev pub taken : List Item → ℕ → ℕ → List Item
taken [] skip count = []
taken (item ∷ items) (suc skip) count = taken items skip count
taken (item ∷ items) zero zero = []
taken (item ∷ items) zero (suc count) = item ∷ taken items 0 count

taken-split : (items : List Item) (skip size count : ℕ) → size ≤ count
    → taken items skip count ≡ taken items skip size ++ taken items (skip + size) (count - size)
taken-split [] skip size count less = refl
taken-split (item ∷ items) (suc skip) size count less =
    let same : suc skip + size ≡ suc (skip + size) = omega arith in rw same (taken-split items skip size count less)
taken-split (item ∷ items) zero zero count less =
    let none : 0 + 0 ≡ 0 = omega arith in let all : count - 0 ≡ count = omega arith in rw (none, all) refl
taken-split (item ∷ items) zero (suc size) zero less = absurd (omega arith)
taken-split (item ∷ items) zero (suc size) (suc count) less =
    let same : 0 + suc size ≡ suc (0 + size) = omega arith in
    let fewer : suc count - suc size ≡ count - size = omega arith in
    rw (same, fewer) (ap (λ more. item ∷ more) (taken-split items 0 size count (omega arith)))

length-taken : (items : List Item) (skip count : ℕ) → skip + count ≤ length items → length (taken items skip count) ≡ count
length-taken [] skip count enough = omega arith
length-taken (item ∷ items) (suc skip) count enough = length-taken items skip count (omega arith)
length-taken (item ∷ items) zero zero enough = refl
length-taken (item ∷ items) zero (suc count) enough = ap suc (length-taken items 0 count (omega arith))

taken-all : (items : List Item) → taken items 0 (length items) ≡ items
taken-all [] = refl
taken-all (item ∷ items) = ap (λ more. item ∷ more) (taken-all items)

-- so many groups are open
pub record IsDepth (depth g : ℕ) : Type 0 where
  pub low : 2 ^ depth ≤ g
  pub high : g < 2 ^ suc depth

deeper : (depth g bit : ℕ) → IsDepth depth g → bit ≤ 1 → IsDepth (depth + 1) (g * 2 + bit)
deeper depth g bit is_depth small =
    let next : depth + 1 ≡ suc depth = omega arith in
    let one : 2 ^ suc depth ≡ 2 ^ depth * 2 = pow-suc 2 depth in
    let two : 2 ^ suc (suc depth) ≡ 2 ^ suc depth * 2 = pow-suc 2 (suc depth) in
    rw next (record { low = omega (arith, one, is_depth.low); high = omega (arith, two, is_depth.high, small) })

some_groups : (depth g : ℕ) → IsDepth depth g → 1 ≤ g
some_groups depth g is_depth = omega (arith, is_depth.low, pow_mono {i = 0} {j = depth} (omega arith))

in_groups_of : (depth g : ℕ) → IsDepth depth g → nat_lt 1 g ≡ nat_lt 0 depth
in_groups_of zero g is_depth = let one : g ≡ 1 = omega (arith, is_depth.low, is_depth.high) in rw one refl
in_groups_of (suc depth) g is_depth =
    let two : 2 ^ suc depth ≡ 2 ^ depth * 2 = pow-suc 2 depth in
    let many : 1 < g = omega (arith, two, is_depth.low, pow_mono {i = 0} {j = depth} (omega arith)) in
    let left : nat_lt 1 g ≡ true = grind (arith, nat_tests) in
    let right : nat_lt 0 (suc depth) ≡ true = grind (arith, nat_tests) in
    rw (left, right) refl

not_too_deep : (depth g : ℕ) → IsDepth depth g → depth ≤ 31 → nat_lt 4_294_967_295 g ≡ false
not_too_deep depth g is_depth low =
    let most : 2 ^ suc depth ≤ 2 ^ 32 = pow_mono {i = suc depth} {j = 32} (omega arith) in
    let below : g ≤ 4_294_967_295 = omega (arith, most, is_depth.high) in
    grind (arith, nat_tests)

-- what a piece adds to a text, and how it is read
pub record IsDescribed (v : DescriptionVersion) (g : ℕ) (several : Bool) (text all : List ℕ) (own : List Item) : Type 0 where
  pub piece : List ℕ
  pub is : all ≡ text ++ piece
  pub reads : ReadsOn v g (state_at several g) piece own (plain_at g)

-- the text before another piece
then_ok : {Goal : Type 0} (before : Result (List ℕ) SourceFault) (next : List ℕ → Result (List ℕ) SourceFault) (all : List ℕ)
    → and_then before next ≡ Ok all → ((text : List ℕ) → before ≡ Ok text → next text ≡ Ok all → Goal) → Goal
then_ok (Err fault) next all is go = absurd cc
then_ok (Ok text) next all is go = go text refl is

piece_ok : (room left : ℕ) (text piece all : List ℕ) → with_piece room left text piece ≡ Ok all → all ≡ text ++ piece
piece_ok room left text piece all is = elim (cases_Bool (nat_lt room (length text + length piece))) [
  | inl t ↦ let wrong : ◌≡◌ {A = Result (List ℕ) SourceFault} (Err (NoRoom, left)) (Ok all) = rw t at is in absurd cc
  | inr f ↦ let right : ◌≡◌ {A = Result (List ℕ) SourceFault} (Ok (text ++ piece)) (Ok all) = rw f at is in cc
]

source_ok : {Goal : Type 0} (room left : ℕ) (text all : List ℕ) (source : Result (List ℕ) ItemFault) → with_source room left text source ≡ Ok all
    → ((piece : List ℕ) → source ≡ Ok piece → all ≡ text ++ piece → Goal) → Goal
source_ok room left text all (Err fault) is go = absurd cc
source_ok room left text all (Ok piece) is go = go piece refl (piece_ok room left text piece all is)

unless_ok : {Goal : Type 0} (room left : ℕ) (text piece all : List ℕ) (fault : Option ItemFault) → unless_fault room left text piece fault ≡ Ok all
    → (fault ≡ None → all ≡ text ++ piece → Goal) → Goal
unless_ok room left text piece all (Some fault) is go = absurd cc
unless_ok room left text piece all None is go = go refl (piece_ok room left text piece all is)

fits_group : {Goal : Type 0} (depth size count : ℕ) (fault : Option ItemFault) → fault_or depth size count fault ≡ None
    → (fault ≡ None → size ≤ count → depth ≤ 31 → Goal) → Goal
fits_group depth size count (Some fault) is go = absurd cc
fits_group depth size count None is go = elim (cases_Bool (nat_lt count size)) [
  | inl t ↦ let wrong : Some PastEnd ≡ None = rw t at is in absurd cc
  | inr f ↦ elim (cases_Bool (nat_lt 31 depth)) [
    | inl t ↦ let wrong : Some TooDeep ≡ None = rw (f, t) at is in absurd cc
    | inr f2 ↦ go refl (grind (arith, nat_tests, f)) (grind (arith, nat_tests, f2))
  ]
]

-- pieces that follow one another
joined : (text a b c one two all : List ℕ) → one ≡ text ++ a → two ≡ one ++ b → all ≡ two ++ c → all ≡ text ++ (a ++ (b ++ c))
joined text a b c one two all first second third = rw (third, second, first) (simp append_assoc)

group_joined : (text a b c d e one two three four all : List ℕ) → one ≡ text ++ a → two ≡ one ++ b → three ≡ two ++ c → four ≡ three ++ d → all ≡ four ++ e
    → all ≡ text ++ ((a ++ (b ++ (c ++ d))) ++ e)
group_joined text a b c d e one two three four all first second third fourth fifth = rw (fifth, fourth, third, second, first) (simp append_assoc)

-- the `]` of several groups before an item that is no group in place of another
ended_reads : (v : DescriptionVersion) (g : ℕ) (several : Bool) (item : Item) → is_other item ≡ false
    → ReadsOn v g (state_at several g) (end_of_several several item) [] (plain_at g)
ended_reads v g false item own = on-none v g (plain_at g)
ended_reads v g true (Byte b) own = several_end v g
ended_reads v g true (Part c) own = several_end v g
ended_reads v g true (Optional size) own = several_end v g
ended_reads v g true (First size) own = several_end v g
ended_reads v g true (Or size) own = absurd cc

-- the text of items is read back, whatever is before it
abbrev pub Again : DescriptionVersion → ℕ → List Item → Type 0
Again v room items = (depth g : ℕ) (several : Bool) (skip count : ℕ) (text all : List ℕ) → IsDepth depth g → skip + count ≤ length items
    → source_from v room depth several items skip count text ≡ Ok all → IsDescribed v g several text all (taken items skip count)

-- an item that is no head of a group, and those behind it
plain_described : (v : DescriptionVersion) (room left depth g : ℕ) (several : Bool) (item : Item) (items : List Item) (count : ℕ) (text all : List ℕ)
    → Again v room items → IsDepth depth g → count ≤ length items → size_of item ≡ None → is_other item ≡ false
    → and_then (with_piece room left text (end_of_several several item)) (λ ended.
    and_then (with_source room left ended (plain_source v (nat_lt 0 depth) item)) (λ longer. source_from v room depth false items 0 count longer)) ≡ Ok all
    → IsDescribed v g several text all (item ∷ taken items 0 count)
plain_described v room left depth g several item items count text all again is_depth enough plain own is =
    then_ok (with_piece room left text (end_of_several several item)) _ all is (λ ended is_ended next.
    then_ok (with_source room left ended (plain_source v (nat_lt 0 depth) item)) _ all next (λ longer is_longer others.
    source_ok room left ended longer (plain_source v (nat_lt 0 depth) item) is_longer (λ piece is_piece with_it.
    let more = again depth g false 0 count longer all is_depth (omega arith) others in
    let item_reads : IsReadAs v g item (Ok piece) = rw is_piece at (plain_again v (nat_lt 0 depth) g item (in_groups_of depth g is_depth) plain) in
    let ended_is = piece_ok room left text (end_of_several several item) ended is_ended in
    record {
      piece = end_of_several several item ++ (piece ++ more.piece);
      is = joined text (end_of_several several item) piece more.piece ended longer all ended_is with_it more.is;
      reads =
          on-append v g (state_at several g) (plain_at g) (plain_at g) (end_of_several several item) (piece ++ more.piece) [] (item ∷ taken items 0 count)
          (ended_reads v g several item own)
          (on-append v g (plain_at g) (plain_at g) (plain_at g) piece more.piece (item ∷ []) (taken items 0 count) item_reads more.reads);
    })))

-- the groups inside the group of a head
abbrev pub inner_groups : Item → ℕ → ℕ
inner_groups (Byte b) g = g
inner_groups (Part c) g = g
inner_groups (Optional size) g = g * 2
inner_groups (First size) g = g * 2 + 1
inner_groups (Or size) g = g * 2 + 1

inner_depth : (depth g size : ℕ) (item : Item) → IsDepth depth g → size_of item ≡ Some size → IsDepth (depth + 1) (inner_groups item g)
inner_depth depth g size (Byte b) is_depth head = absurd cc
inner_depth depth g size (Part c) is_depth head = absurd cc
inner_depth depth g size (Optional s) is_depth head =
    let same : g * 2 + 0 ≡ g * 2 = omega arith in rw same at (deeper depth g 0 is_depth (omega arith))
inner_depth depth g size (First s) is_depth head = deeper depth g 1 is_depth (omega arith)
inner_depth depth g size (Or s) is_depth head = deeper depth g 1 is_depth (omega arith)

-- a group in its brackets, behind the `]` of several groups if it is none of them
group_again : (v : DescriptionVersion) (depth g size : ℕ) (several : Bool) (item : Item) (inner : List ℕ) (own : List Item)
    → IsDepth depth g → depth ≤ 31 → fault_of_other several item ≡ None → size_of item ≡ Some size → length own ≡ size
    → ReadsOn v (inner_groups item g) (plain_at (inner_groups item g)) inner own (plain_at (inner_groups item g))
    → ReadsOn v g (state_at several g) (end_of_several several item ++ (group_opening item ++ (inner ++ group_end item))) (item ∷ own)
    (state_at (is_several item) g)
group_again v depth g size several (Byte b) inner own is_depth low follows head same read = absurd cc
group_again v depth g size several (Part c) inner own is_depth low follows head same read = absurd cc
group_again v depth g size several (Optional s) inner own is_depth low follows head same read =
    let is_size : length own ≡ s = cc in
    let whole = optional_again v g inner own (some_groups depth g is_depth) (not_too_deep depth g is_depth low) read in
    on-append v g (state_at several g) (plain_at g) (plain_at g) (end_of_several several (Optional s)) (codes "[optional [" ++ (inner ++ codes "]]")) []
    (Optional s ∷ own) (ended_reads v g several (Optional s) refl) (rw is_size at whole)
group_again v depth g size several (First s) inner own is_depth low follows head same read =
    let is_size : length own ≡ s = cc in
    let whole = first_again v g inner own (some_groups depth g is_depth) (not_too_deep depth g is_depth low) read in
    on-append v g (state_at several g) (plain_at g) (between_at g) (end_of_several several (First s)) (codes "[first [" ++ (inner ++ codes "]")) []
    (First s ∷ own) (ended_reads v g several (First s) refl) (rw is_size at whole)
group_again v depth g size false (Or s) inner own is_depth low follows head same read = absurd cc
group_again v depth g size true (Or s) inner own is_depth low follows head same read =
    let is_size : length own ≡ s = cc in
    rw is_size at (other_again v g inner own (some_groups depth g is_depth) read)

-- a group, and the items behind it
group_described : (v : DescriptionVersion) (room left depth g : ℕ) (several : Bool) (item : Item) (items : List Item) (size count : ℕ) (text all : List ℕ)
    → Again v room items → IsDepth depth g → count ≤ length items → size_of item ≡ Some size
    → and_then (with_piece room left text (end_of_several several item)) (λ ended.
    and_then (unless_fault room left ended (group_opening item) (group_fault depth several item size count)) (λ begun.
    and_then (source_from v room (depth + 1) false items 0 size begun) (λ own.
    and_then (with_piece room left own (group_end item)) (λ closed. source_from v room depth (is_several item) items size (count - size) closed)))) ≡ Ok all
    → IsDescribed v g several text all (item ∷ taken items 0 count)
group_described v room left depth g several item items size count text all again is_depth enough head is =
    then_ok (with_piece room left text (end_of_several several item)) _ all is (λ ended is_ended next.
    then_ok (unless_fault room left ended (group_opening item) (group_fault depth several item size count)) _ all next (λ begun is_begun rest.
    unless_ok room left ended (group_opening item) begun (group_fault depth several item size count) is_begun (λ no_fault with_opening.
    fits_group depth size count (fault_of_other several item) no_fault (λ follows less low.
    then_ok (source_from v room (depth + 1) false items 0 size begun) _ all rest (λ own is_own closing.
    then_ok (with_piece room left own (group_end item)) _ all closing (λ closed is_closed others.
    let inner = again (depth + 1) (inner_groups item g) false 0 size begun own (inner_depth depth g size item is_depth head) (omega (arith, less, enough))
    is_own in
    let more = again depth g (is_several item) size (count - size) closed all is_depth (omega (arith, less, enough)) others in
    let ended_is = piece_ok room left text (end_of_several several item) ended is_ended in
    let closed_is = piece_ok room left own (group_end item) closed is_closed in
    let none : 0 + size ≡ size = omega arith in
    let split : taken items 0 count ≡ taken items 0 size ++ taken items size (count - size) = rw none at (taken-split items 0 size count less) in
    let front = group_again v depth g size several item inner.piece (taken items 0 size) is_depth low follows head
    (length-taken items 0 size (omega (arith, less, enough))) inner.reads
    in
    record {
      piece = (end_of_several several item ++ (group_opening item ++ (inner.piece ++ group_end item))) ++ more.piece;
      is = group_joined text (end_of_several several item) (group_opening item) inner.piece (group_end item) more.piece ended begun own closed all ended_is
          with_opening inner.is closed_is more.is;
      reads =
          rw split
          (on-append v g (state_at several g) (state_at (is_several item) g) (plain_at g)
          (end_of_several several item ++ (group_opening item ++ (inner.piece ++ group_end item))) more.piece (item ∷ taken items 0 size)
          (taken items size (count - size)) front more.reads);
    }))))))

-- the end of the items
end_described : (v : DescriptionVersion) (room left g : ℕ) (several : Bool) (text all : List ℕ) → with_piece room left text (last_end several) ≡ Ok all
    → IsDescribed v g several text all []
end_described v room left g false text all is = record { piece = []; is = piece_ok room left text [] all is; reads = on-none v g (plain_at g) }
end_described v room left g true text all is = record { piece = codes "]"; is = piece_ok room left text (codes "]") all is; reads = several_end v g }

source_again : (v : DescriptionVersion) (room : ℕ) (items : List Item) → Again v room items
unfolding source_from
source_again v room [] depth g several skip count text all is_depth enough is = end_described v room 0 g several text all is
source_again v room (item ∷ items) depth g several (suc skip) count text all is_depth enough is =
    source_again v room items depth g several skip count text all is_depth (omega (arith, enough)) is
source_again v room (item ∷ items) depth g several zero zero text all is_depth enough is =
    end_described v room (length (item ∷ items)) g several text all is
source_again v room (Byte b ∷ items) depth g several zero (suc count) text all is_depth enough is =
    plain_described v room (length (Byte b ∷ items)) depth g several (Byte b) items count text all (source_again v room items) is_depth
    (omega (arith, enough)) refl refl is
source_again v room (Part c ∷ items) depth g several zero (suc count) text all is_depth enough is =
    plain_described v room (length (Part c ∷ items)) depth g several (Part c) items count text all (source_again v room items) is_depth
    (omega (arith, enough)) refl refl is
source_again v room (Optional size ∷ items) depth g several zero (suc count) text all is_depth enough is =
    group_described v room (length (Optional size ∷ items)) depth g several (Optional size) items size count text all (source_again v room items) is_depth
    (omega (arith, enough)) refl is
source_again v room (First size ∷ items) depth g several zero (suc count) text all is_depth enough is =
    group_described v room (length (First size ∷ items)) depth g several (First size) items size count text all (source_again v room items) is_depth
    (omega (arith, enough)) refl is
source_again v room (Or size ∷ items) depth g several zero (suc count) text all is_depth enough is =
    group_described v room (length (Or size ∷ items)) depth g several (Or size) items size count text all (source_again v room items) is_depth
    (omega (arith, enough)) refl is

-- a text that is read as items to its end
read_whole : (v : DescriptionVersion) (more next : ℕ) (text piece : List ℕ) (own : List Item) → text ≡ piece
    → Reads v 1 (plain_at 1 0) piece own [] (plain_at 1 next) → items_of_description v (length own + more) text ≡ Ok own
unfolding items_from group_fault_at_end fault_at_end
read_whole v more next text piece own is read =
    let whole : items_from v (length own + more) (plain_at 1 0) piece ≡ Ok (own ++ []) = rw append-nil at (read.items more) in
    rw is (rw append-nil at whole)

-- a text that items have is read back as them
pub description_again : (v : DescriptionVersion) (room places : ℕ) (items : List Item) (text : List ℕ) → length items ≤ places
    → description_source v room items ≡ Ok text → items_of_description v places text ≡ Ok items
description_again v room places items text enough is =
    let front : IsDepth 0 1 = record { low = lit≤ tt; high = lit< tt } in
    let whole = source_again v room items 0 1 false 0 (length items) [] text front (omega arith) is in
    let read = whole.reads 0 [] in
    let all : items_of_description v (length (taken items 0 (length items)) + (places - length items)) text ≡ Ok (taken items 0 (length items))
    = read_whole v (places - length items) read.0 text whole.piece (taken items 0 (length items)) whole.is read.1
    in
    let count : length items + (places - length items) ≡ places = omega arith in
    rw count at (rw (taken-all items) at all)
