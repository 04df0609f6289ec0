-- Texts that are read as the items of a description, piece by piece.
use Rattle.std.proofs.Common.{◌≡◌, ℕ, suc, ◌+◌, ◌<◌, ◌≤◌, ◌==◌, ◌&&◌, Bool, true, false, List, []}
use Rattle.std.proofs.Common.{◌∷◌, ◌++◌, length, refl, ap, ◌∙◌, arith}
use Rattle.std.proofs.Common.{append_assoc, length-append, inl, inr}
use Rattle.std.specs.Prelude.{Option, Some, None, Result, Ok, Err, nat_lt}
use Rattle.std.proofs.lemmas.Bool.{cases_Bool}
use Rattle.std.proofs.lemmas.Bool.Decides.{nat_tests}
use Rattle.format_descriptions.specs.DescriptionComponents.{component_of}
use Rattle.format_descriptions.specs.DescriptionGroups.{group_step, group_size, unsized_step, ends_group, is_outside, item_of_size}
use Rattle.format_descriptions.specs.DescriptionGroups.{inside, group_at}
use Rattle.format_descriptions.specs.DescriptionModifiers.{modifier_at, no_modifiers}
use Rattle.format_descriptions.specs.DescriptionNames.{name_at}
use Rattle.format_descriptions.specs.DescriptionSteps.{Fault, step, in_word, between_words, finish_component, outside}
use Rattle.format_descriptions.specs.DescriptionSteps.{open_bracket, begin_name, is_closed}
use Rattle.format_descriptions.specs.DescriptionWords.{is_white_space}
use Rattle.format_descriptions.specs.Descriptions.{items_from, item_before}
use Rattle.format_descriptions.specs.declared.component.Component.{Component}
use Rattle.format_descriptions.specs.declared.description_groups.Spot.{Spot}
use Rattle.format_descriptions.specs.declared.description_groups.Spot.TheVariants.{Inside}
use Rattle.format_descriptions.specs.declared.description_groups.State.{State}
use Rattle.format_descriptions.specs.declared.description_modifiers.Modifiers.{Modifiers}
use Rattle.format_descriptions.specs.declared.description_names.Name.{Name}
use Rattle.format_descriptions.specs.declared.description_steps.DescriptionVersion.{DescriptionVersion}
use Rattle.format_descriptions.specs.declared.description_steps.DescriptionVersion.TheVariants.{One, Two}
use Rattle.format_descriptions.specs.declared.description_steps.Place.{Place}
use Rattle.format_descriptions.specs.declared.description_steps.Place.TheVariants.{Outside, Opened, InWord, BetweenWords}
use Rattle.format_descriptions.specs.declared.item.Item.{Item}
use Rattle.format_descriptions.specs.declared.item.Item.TheVariants.{Part}
use Rattle.format_descriptions.proofs.ComponentSourceLemmas.{words_read, component_read, ended_by, after_modifier, after_name, unless_group}
use Rattle.format_descriptions.proofs.DescriptionLemmas.{behind}

-- a state by its parts
abbrev pub at : ℕ → ℕ → Spot → State
at groups outer spot = record { groups = groups; outer = outer; spot = spot }

-- the place of the next byte, behind the white space that follows a word or in a word
abbrev pub place_of : Bool → ℕ → Name → Modifiers → Place
place_of true n name m = BetweenWords n name m
place_of false n name m = InWord n name m

-- a byte does not end one of the groups up to these
abbrev pub EndsNone : ℕ → State → ℕ → Type 0
EndsNone top s first = (t : ℕ) → 2 ≤ t → t ≤ top → ends_group t s first ≡ false

-- a text is read from a state on as these items, up to another state, and each group up to `top` has them
pub record Reads (v : DescriptionVersion) (top : ℕ) (s : State) (text : List ℕ) (own : List Item) (rest : List ℕ) (after : State) : Type 0 where
  pub items : (room : ℕ) → items_from v (length own + room) s (text ++ rest) ≡ behind own (items_from v room after rest)
  pub size : (t : ℕ) → 2 ≤ t → t ≤ top → group_size v t s (text ++ rest) ≡ length own + group_size v t after rest

behind-none : (read : Result (List Item) Fault) → read ≡ behind [] read
behind-none (Ok items) = refl
behind-none (Err fault) = refl

behind-append : (first second : List Item) (read : Result (List Item) Fault) → behind first (behind second read) ≡ behind (first ++ second) read
behind-append first second (Ok items) = rw append_assoc refl
behind-append first second (Err fault) = refl

behind-one : (item : Item) (own : List Item) (read : Result (List Item) Fault) → item_before item (behind own read) ≡ behind (item ∷ own) read
behind-one item own (Ok items) = refl
behind-one item own (Err fault) = refl

pub reads-none : (v : DescriptionVersion) (top : ℕ) (s : State) (rest : List ℕ) → Reads v top s [] [] rest s
reads-none v top s rest = record {
  items = λ room. let same : 0 + room ≡ room = omega arith in rw same (behind-none (items_from v room s rest));
  size = λ t low high. omega arith;
}

pub reads-append : (v : DescriptionVersion) (top : ℕ) (s middle after : State) (first second rest : List ℕ) (own others : List Item)
    → Reads v top s first own (second ++ rest) middle → Reads v top middle second others rest after
    → Reads v top s (first ++ second) (own ++ others) rest after
reads-append v top s middle after first second rest own others front back = record {
  items = λ room.
      let count : length (own ++ others) + room ≡ length own + (length others + room) = omega (arith, length-append own others) in
      rw (append_assoc first second rest, count)
      (front.items (length others + room) ∙ ap (behind own) (back.items room) ∙ behind-append own others (items_from v room after rest));
  size = λ t low high.
      rw (append_assoc first second rest) (omega (arith, front.size t low high, back.size t low high, length-append own others));
}

-- a byte without an item
pub reads-on : (v : DescriptionVersion) (top : ℕ) (s next after : State) (first : ℕ) (text rest : List ℕ) (own : List Item)
    → unsized_step v s s.spot first (first ∷ (text ++ rest)) ≡ Ok (next, None) → EndsNone top s first
    → Reads v top next text own rest after → Reads v top s (first ∷ text) own rest after
unfolding items_from group_step group_size
reads-on v top s next after first text rest own is none back = record {
  items = λ room. rw is (back.items room);
  size = λ t low high. rw (none t low high, is) (omega (arith, back.size t low high));
}

-- a byte with an item, which has its size in what follows
pub reads-item : (v : DescriptionVersion) (top : ℕ) (s next after : State) (first : ℕ) (text rest : List ℕ) (raw item : Item) (own : List Item)
    → unsized_step v s s.spot first (first ∷ (text ++ rest)) ≡ Ok (next, Some raw) → EndsNone top s first
    → item_of_size raw (group_size v next.groups next (text ++ rest)) ≡ item
    → Reads v top next text own rest after → Reads v top s (first ∷ text) (item ∷ own) rest after
unfolding items_from group_step group_size
reads-item v top s next after first text rest raw item own is none size back = record {
  items = λ room.
      let more : suc (length own) + room ≡ suc (length own + room) = omega arith in
      rw (more, is, size) (ap (item_before item) (back.items room) ∙ behind-one item own (items_from v room after rest));
  size = λ t low high. rw (none t low high, is) (omega (arith, back.size t low high));
}

none_of : (a b : Bool) → b ≡ false → (a && b) ≡ false
none_of true b none = none
none_of false b none = refl

-- a byte that is no `]`, one that is not outside of brackets, and one of more groups end none of these groups
pub ends-other : (top : ℕ) (s : State) (first : ℕ) → (first == 93) ≡ false → EndsNone top s first
ends-other top s first other = λ t low high.
    none_of (s.groups == t) (is_outside s.spot && (first == 93)) (none_of (is_outside s.spot) (first == 93) other)

pub ends-within : (top : ℕ) (s : State) (first : ℕ) → is_outside s.spot ≡ false → EndsNone top s first
ends-within top s first other = λ t low high. none_of (s.groups == t) (is_outside s.spot && (first == 93)) (rw other refl)

pub ends-deeper : (top : ℕ) (s : State) (first : ℕ) → top < s.groups → EndsNone top s first
ends-deeper top s first deeper = λ t low high. let other : (s.groups == t) ≡ false = grind (arith, nat_tests) in rw other refl

-- the last byte of a component
ended : (bytes : List ℕ) (found : Option Component) (c : Component) → ended_by bytes found ≡ Some c → (bytes ≡ []) × (found ≡ Some c)
ended [] found c is = (refl, is)
ended (first ∷ bytes) found c is = absurd cc

-- the modifier behind which a component is read
modified : {Goal : Type 0} (next : Modifiers → Option Component) (m : Result Modifiers Fault) (c : Component) → after_modifier next m ≡ Some c
    → ((more : Modifiers) → m ≡ Ok more → next more ≡ Some c → Goal) → Goal
modified next (Err fault) c is go = absurd cc
modified next (Ok more) c is go = go more refl is

-- the words of a component
words_reads : (v : DescriptionVersion) (top g outer n : ℕ) (name : Name) (c : Component) (rest : List ℕ) (is_between : Bool) (m : Modifiers) (bytes : List ℕ)
    → words_read is_between name m bytes rest ≡ Some c
    → Reads v top (at g outer (Inside (place_of is_between n name m))) bytes (Part c ∷ []) rest (at g outer (Inside Outside))
unfolding words_read unsized_step inside step in_word between_words finish_component
words_reads v top g outer n name c rest is_between m [] is = absurd cc
words_reads v top g outer n name c rest false m (first ∷ bytes) is = elim (cases_Bool (first == 93)) [
  | inl t ↦
      let last = ended bytes (component_of name m) c (rw t at is) in
      rw last.0
      (reads-item v top (at g outer (Inside (InWord n name m))) (at g outer (Inside Outside)) (at g outer (Inside Outside)) first [] rest (Part c) (Part c) []
      (rw (t, last.1) refl) (ends-within top (at g outer (Inside (InWord n name m))) first refl) refl (reads-none v top (at g outer (Inside Outside)) rest))
  | inr f ↦ elim (cases_Bool (first == 91)) [
    | inl t ↦ let wrong : None ≡ Some c = rw (f, t) at is in absurd cc
    | inr f2 ↦ elim (cases_Bool (is_white_space first)) [
      | inl t ↦
          let next : words_read true name m bytes rest ≡ Some c = rw (f, f2, t) at is in
          reads-on v top (at g outer (Inside (InWord n name m))) (at g outer (Inside (BetweenWords n name m))) (at g outer (Inside Outside)) first bytes rest
          (Part c ∷ [])
          (rw (f, f2, t) refl) (ends-within top (at g outer (Inside (InWord n name m))) first refl) (words_reads v top g outer n name c rest true m bytes next)
      | inr f3 ↦
          let next : words_read false name m bytes rest ≡ Some c = rw (f, f2, f3) at is in
          reads-on v top (at g outer (Inside (InWord n name m))) (at g outer (Inside (InWord n name m))) (at g outer (Inside Outside)) first bytes rest
          (Part c ∷ [])
          (rw (f, f2, f3) refl) (ends-within top (at g outer (Inside (InWord n name m))) first refl)
          (words_reads v top g outer n name c rest false m bytes next)
    ]
  ]
]
words_reads v top g outer n name c rest true m (first ∷ bytes) is = elim (cases_Bool (first == 93)) [
  | inl t ↦
      let last = ended bytes (component_of name m) c (rw t at is) in
      rw last.0
      (reads-item v top (at g outer (Inside (BetweenWords n name m))) (at g outer (Inside Outside)) (at g outer (Inside Outside)) first [] rest (Part c)
      (Part c) []
      (rw (t, last.1) refl) (ends-within top (at g outer (Inside (BetweenWords n name m))) first refl) refl
      (reads-none v top (at g outer (Inside Outside)) rest))
  | inr f ↦ elim (cases_Bool (first == 91)) [
    | inl t ↦ let wrong : None ≡ Some c = rw (f, t) at is in absurd cc
    | inr f2 ↦ elim (cases_Bool (is_white_space first)) [
      | inl t ↦
          let next : words_read true name m bytes rest ≡ Some c = rw (f, f2, t) at is in
          reads-on v top (at g outer (Inside (BetweenWords n name m))) (at g outer (Inside (BetweenWords n name m))) (at g outer (Inside Outside)) first bytes
          rest (Part c ∷ [])
          (rw (f, f2, t) refl) (ends-within top (at g outer (Inside (BetweenWords n name m))) first refl)
          (words_reads v top g outer n name c rest true m bytes next)
      | inr f3 ↦
          modified (λ more. words_read false name more bytes rest) (modifier_at name (first ∷ (bytes ++ rest)) m) c (rw (f, f2, f3) at is) (λ more given next.
          reads-on v top (at g outer (Inside (BetweenWords n name m))) (at g outer (Inside (InWord n name more))) (at g outer (Inside Outside)) first bytes rest
          (Part c ∷ []) (rw (f, f2, f3, given) refl) (ends-within top (at g outer (Inside (BetweenWords n name m))) first refl)
          (words_reads v top g outer n name c rest false more bytes next))
    ]
  ]
]

-- the name of a component, which is no group
found_name : {Goal : Type 0} (next : Name → Option Component) (found : Option Name) (group : Option Bool) (c : Component)
    → unless_group (after_name next found) group ≡ Some c → ((name : Name) → group ≡ None → found ≡ Some name → next name ≡ Some c → Goal) → Goal
found_name next found (Some is_first) c is go = absurd cc
found_name next None None c is go = absurd cc
found_name next (Some name) None c is go = go name refl refl is

-- a `[` outside of brackets
pub opened : (v : DescriptionVersion) (g outer : ℕ) (text : List ℕ)
    → unsized_step v (at g outer (Inside Outside)) (Inside Outside) 91 (91 ∷ text) ≡ Ok (at g outer (Inside (Opened (length (91 ∷ text)))), None)
unfolding unsized_step inside step outside
opened v g outer text = elim (cases_Bool (nat_lt 1 g)) [ inl t ↦ rw t refl | inr f ↦ rw f refl ]

-- the first byte of a name behind a `[`
named : (v : DescriptionVersion) (g outer n first : ℕ) (name : Name) (text : List ℕ) → is_white_space first ≡ false → (first == 91) ≡ false → (first == 93) ≡
    false
    → is_closed (first ∷ text) ≡ true → group_at (first ∷ text) ≡ None → name_at (first ∷ text) ≡ Some name
    → unsized_step v (at g outer (Inside (Opened n))) (Inside (Opened n)) first (first ∷ text) ≡ Ok (at g outer (Inside (InWord n name no_modifiers)), None)
unfolding unsized_step inside step open_bracket begin_name
named One g outer n first name text white opens ends closed no_group is = rw (no_group, opens, closed, white, ends, is) refl
named Two g outer n first name text white opens ends closed no_group is = rw (no_group, closed, white, opens, ends, is) refl

-- a component behind a `[`
named_reads : (v : DescriptionVersion) (top g outer n : ℕ) (c : Component) (rest bytes : List ℕ) → component_read bytes rest ≡ Some c
    → Reads v top (at g outer (Inside (Opened n))) bytes (Part c ∷ []) rest (at g outer (Inside Outside))
unfolding component_read
named_reads v top g outer n c rest [] is = absurd cc
named_reads v top g outer n c rest (first ∷ bytes) is = elim (cases_Bool (is_white_space first)) [
  | inl t ↦ let wrong : None ≡ Some c = rw t at is in absurd cc
  | inr white ↦ elim (cases_Bool (first == 91)) [
    | inl t ↦ let wrong : None ≡ Some c = rw (white, t) at is in absurd cc
    | inr opens ↦ elim (cases_Bool (first == 93)) [
      | inl t ↦ let wrong : None ≡ Some c = rw (white, opens, t) at is in absurd cc
      | inr ends ↦ elim (cases_Bool (is_closed (first ∷ (bytes ++ rest)))) [
        | inr f ↦ let wrong : None ≡ Some c = rw (white, opens, ends, f) at is in absurd cc
        | inl closed ↦
            found_name (λ name. words_read false name no_modifiers bytes rest) (name_at (first ∷ (bytes ++ rest))) (group_at (first ∷ (bytes ++ rest))) c
            (rw (white, opens, ends, closed) at is) (λ name no_group found words.
            reads-on v top (at g outer (Inside (Opened n))) (at g outer (Inside (InWord n name no_modifiers))) (at g outer (Inside Outside)) first bytes rest
            (Part c ∷ [])
            (named v g outer n first name (bytes ++ rest) white opens ends closed no_group found) (ends-within top (at g outer (Inside (Opened n))) first refl)
            (words_reads v top g outer n name c rest false no_modifiers bytes words))
      ]
    ]
  ]
]

-- a component in its brackets
pub component_reads : (v : DescriptionVersion) (top g outer : ℕ) (c : Component) (bytes rest : List ℕ) → component_read bytes rest ≡ Some c
    → Reads v top (at g outer (Inside Outside)) (91 ∷ bytes) (Part c ∷ []) rest (at g outer (Inside Outside))
component_reads v top g outer c bytes rest is =
    reads-on v top (at g outer (Inside Outside)) (at g outer (Inside (Opened (length (91 ∷ (bytes ++ rest)))))) (at g outer (Inside Outside)) 91 bytes rest
    (Part c ∷ [])
    (opened v g outer (bytes ++ rest)) (ends-other top (at g outer (Inside Outside)) 91 refl)
    (named_reads v top g outer (length (91 ∷ (bytes ++ rest))) c rest bytes is)
