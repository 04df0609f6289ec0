-- The steps that read a text as a description with groups, byte by byte: `[optional [..]]` and `[first [..] [..]]`.
use Rattle.std.specs.Prelude.{ℕ, option_map, ◌+◌, ◌*◌, ◌/◌, ◌%◌, ◌==◌, ◌||◌, ◌&&◌, not, Bool, true, false, List, [], ◌∷◌, length, codes, if◌then◌else◌, nat_lt}
use Rattle.std.specs.Prelude.{Option, Some, None, Result, Ok, Err}
use Rattle.format_descriptions.specs.DescriptionWords.{is_white_space, is_word_at}
use Rattle.format_descriptions.specs.DescriptionSteps.{Fault, Step, step, fault_at_end}
use Rattle.format_descriptions.specs.declared.description_groups.Spot.{Spot}
use Rattle.format_descriptions.specs.declared.description_groups.Spot.TheVariants.{Inside, GroupWord, BetweenGroups}
use Rattle.format_descriptions.specs.declared.description_groups.State.{State}
use Rattle.format_descriptions.specs.declared.description_refusal.DescriptionFault.TheVariants.{NoEnd, NoGroup, WrongGroup, TooDeep}
use Rattle.format_descriptions.specs.declared.description_steps.DescriptionVersion.{DescriptionVersion}
use Rattle.format_descriptions.specs.declared.description_steps.Place.{Place}
use Rattle.format_descriptions.specs.declared.description_steps.Place.TheVariants.{Outside, Escaped, Opened, Unnamed, InWord, BetweenWords}
use Rattle.format_descriptions.specs.declared.item.Item.{Item}
use Rattle.format_descriptions.specs.declared.item.Item.TheVariants.{Byte, Part, Optional, First, Or}

-- the state after a byte and the item that ends with it, or a fault
abbrev pub GroupStep : Type 0
GroupStep = Result (State × Option Item) Fault

-- the state at the front of a text, where no group is open
abbrev pub at_front : State
at_front = record { groups = 1; outer = 0; spot = Inside Outside }

-- a group is open
abbrev pub is_in_group : State → Bool
is_in_group s = nat_lt 1 s.groups

-- the innermost group that is open is the first of several
abbrev pub is_in_first : State → Bool
is_in_first s = s.groups % 2 == 1

-- the state of another spot in the same groups
abbrev pub at_spot : State → Spot → State
at_spot s spot = record s { spot = spot }

-- a step in the same groups
abbrev pub in_groups : State → Step → GroupStep
in_groups s (Err fault) = Err fault
in_groups s (Ok read) = Ok (at_spot s (Inside read.0), read.1)

-- the word of a group at the front of a text: true of `first`, and false of `optional`
unfoldable pub group_at : List ℕ → Option Bool
group_at text =
    if is_word_at (codes "optional") text then Some false else (if is_word_at (codes "first") text then Some true else None)

-- the groups with one more
abbrev pub with_group : ℕ → Bool → ℕ
with_group groups is_first = if is_first then groups * 2 + 1 else groups * 2

-- the step that begins a group, by the number of bytes from its `[` to the end
unfoldable pub began : State → ℕ → Bool → GroupStep
began s bracket is_first =
    if nat_lt 4_294_967_295 s.groups then Err (TooDeep, bracket)
    else Ok (record { groups = with_group s.groups is_first; outer = if is_in_group s then s.outer else bracket; spot = GroupWord }, None)

-- the step of the word of a group, or else of a byte of a component
abbrev pub group_or : DescriptionVersion → State → Place → ℕ → ℕ → List ℕ → Option Bool → GroupStep
group_or version s place bracket first text None = in_groups s (step version place first text)
group_or version s place bracket first text (Some is_first) = began s bracket is_first

-- the step of a byte of a description, perhaps of a group
unfoldable pub inside : DescriptionVersion → State → Place → ℕ → List ℕ → GroupStep
inside version s Outside first text =
    if is_in_group s && first == 93 then Ok (at_spot s (BetweenGroups true), None) else in_groups s (step version Outside first text)
inside version s Escaped first text = in_groups s (step version Escaped first text)
inside version s (Opened bracket) first text = group_or version s (Opened bracket) bracket first text (group_at text)
inside version s (Unnamed bracket) first text = group_or version s (Unnamed bracket) bracket first text (group_at text)
inside version s (InWord bracket name m) first text = in_groups s (step version (InWord bracket name m) first text)
inside version s (BetweenWords bracket name m) first text = in_groups s (step version (BetweenWords bracket name m) first text)

-- the step of a byte of the word of a group, or of the byte after it
unfoldable pub in_group_word : State → ℕ → List ℕ → GroupStep
in_group_word s first text =
    if is_white_space first then Ok (at_spot s (BetweenGroups false), None)
    else (if first == 93 then Err (NoGroup, length text)
    else (if first == 91 then Err (WrongGroup, length text) else Ok (at_spot s GroupWord, None)))

-- the head of a group, and that of the next one of several, whose size is not known yet
abbrev pub head_of : Bool → Bool → Item
head_of is_first has_group = if is_first then (if has_group then Or 0 else First 0) else Optional 0

-- the step of a byte after the word of a group, or after one of its descriptions
unfoldable pub between_groups : State → Bool → ℕ → List ℕ → GroupStep
between_groups s has_group first text =
    if is_white_space first then Ok (at_spot s (BetweenGroups has_group), None)
    else (if first == 93
    then (if has_group then Ok (record s { groups = s.groups / 2; spot = Inside Outside }, None) else Err (NoGroup, length text))
    else (if (first == 91) && (is_in_first s || not has_group)
    then Ok (at_spot s (Inside Outside), Some (head_of (is_in_first s) has_group))
    else Err (WrongGroup, length text)))

-- the step of a byte, the first of a text; the heads of groups have no size yet
unfoldable pub unsized_step : DescriptionVersion → State → Spot → ℕ → List ℕ → GroupStep
unsized_step version s (Inside place) first text = inside version s place first text
unsized_step version s GroupWord first text = in_group_word s first text
unsized_step version s (BetweenGroups has_group) first text = between_groups s has_group first text

-- the byte is the `]` of the description in the innermost of these groups
abbrev pub is_outside : Spot → Bool
is_outside (Inside Outside) = true
is_outside spot = false

abbrev pub ends_group : ℕ → State → ℕ → Bool
ends_group groups s first = s.groups == groups && (is_outside s.spot && first == 93)

-- the number of items of a step
abbrev pub item_count : Option Item → ℕ
item_count None = 0
item_count (Some item) = 1

-- the number of items of a step and of the steps after it
abbrev pub counted_step : (State → ℕ) → GroupStep → ℕ
counted_step next (Err fault) = 0
counted_step next (Ok read) = item_count read.1 + next read.0

-- the number of items of a text up to the end of these groups
unfoldable pub group_size : DescriptionVersion → ℕ → State → List ℕ → ℕ
group_size version groups s [] = 0
group_size version groups s (first ∷ text) =
    if ends_group groups s first then 0
    else counted_step (λ next. group_size version groups next text) (unsized_step version s s.spot first (first ∷ text))

-- the head of a group of this size
abbrev pub item_of_size : Item → ℕ → Item
item_of_size (Byte byte) size = Byte byte
item_of_size (Part component) size = Part component
item_of_size (Optional old) size = Optional size
item_of_size (First old) size = First size
item_of_size (Or old) size = Or size

-- the step whose head has its size, which is that in the rest of the text
abbrev pub with_size : DescriptionVersion → List ℕ → GroupStep → GroupStep
with_size version rest (Err fault) = Err fault
with_size version rest (Ok read) = Ok (read.0, option_map (λ item. item_of_size item (group_size version read.0.groups read.0 rest)) read.1)

-- the step of a byte, the first of a text, where a head has its size in the rest of the text
unfoldable pub group_step : DescriptionVersion → State → ℕ → List ℕ → List ℕ → GroupStep
group_step version s first text rest = with_size version rest (unsized_step version s s.spot first text)

-- the fault of a description that ends here: the outermost group that is open has no end
abbrev pub fault_of_spot : ℕ → Spot → Option Fault
fault_of_spot outer (Inside place) = fault_at_end place
fault_of_spot outer GroupWord = Some (NoEnd, outer)
fault_of_spot outer (BetweenGroups has_group) = Some (NoEnd, outer)

unfoldable pub group_fault_at_end : State → Option Fault
group_fault_at_end s = if is_in_group s then Some (NoEnd, s.outer) else fault_of_spot s.outer s.spot
