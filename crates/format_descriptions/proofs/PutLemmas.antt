-- The text of a description, put into a room item by item.
use Rattle.std.proofs.Common.{◌≡◌, ℕ, zero, suc, ◌+◌, ◌-◌, List, [], ◌∷◌, length, drop, refl, arith}
use Rattle.std.specs.Prelude.{Bool, false, nat_lt, Some, None, Result, Ok, Err}
use Rattle.format_descriptions.specs.Groups.{size_of}
use Rattle.format_descriptions.specs.DescriptionTexts.{plain_source, group_opening, group_end, is_several, end_of_several, last_end, group_fault}
use Rattle.format_descriptions.specs.DescriptionTexts.{SourceFault, with_piece, with_source, unless_fault, and_then, source_from}
use Rattle.format_descriptions.specs.declared.description_steps.DescriptionVersion.{DescriptionVersion}
use Rattle.format_descriptions.specs.declared.item.Item.{Item}

-- the text before another piece, in two steps
and_then-assoc : (before : Result (List ℕ) SourceFault) (next last : List ℕ → Result (List ℕ) SourceFault)
    → and_then (and_then before next) last ≡ and_then before (λ text. and_then (next text) last)
and_then-assoc (Ok text) next last = refl
and_then-assoc (Err fault) next last = refl

-- no item is left
pub none_left : (v : DescriptionVersion) (room r depth : ℕ) (several : Bool) (items : List Item) (count : ℕ) (text : List ℕ) (all : Result (List ℕ) SourceFault)
    → length items ≡ 0 → r ≡ room → source_from v room depth several items 0 count text ≡ all → with_piece r 0 text (last_end several) ≡ all
unfolding source_from
none_left v room r depth several [] count text all none same so = rw same so
none_left v room r depth several (item ∷ items) count text all none same so = absurd (omega (arith, none))

pub count_left : (v : DescriptionVersion) (room r depth : ℕ) (several : Bool) (item : Item) (others items : List Item) (count : ℕ) (text : List ℕ)
    (all : Result (List ℕ) SourceFault)
    → items ≡ item ∷ others → count ≡ 0 → r ≡ room → source_from v room depth several items 0 count text ≡ all
    → with_piece r (length items) text (last_end several) ≡ all
unfolding source_from
count_left v room r depth several item others items count text all front none same so =
    rw (same, front) (rw (front, none) at so)

-- an item that is no head of a group
abbrev pub plain_put : DescriptionVersion → ℕ → ℕ → ℕ → Bool → Item → List ℕ → Result (List ℕ) SourceFault
plain_put v room left depth several item text =
    and_then (with_piece room left text (end_of_several several item)) (λ ended. with_source room left ended (plain_source v (nat_lt 0 depth) item))

pub plain_step : (v : DescriptionVersion) (room depth : ℕ) (several : Bool) (item : Item) (others items : List Item) (count more : ℕ) (text : List ℕ)
    (all : Result (List ℕ) SourceFault)
    → items ≡ item ∷ others → count ≡ suc more → None ≡ size_of item → source_from v room depth several items 0 count text ≡ all
    → and_then (plain_put v room (length items) depth several item text) (λ longer. source_from v room depth false others 0 more longer) ≡ all
unfolding source_from
plain_step v room depth several item others items count more text all front place plain so =
    let here = rw (front, place, ← plain) at so in
    rw (front, and_then-assoc) here

pub plain_on : (v : DescriptionVersion) (room r depth : ℕ) (several : Bool) (item : Item) (others items : List Item) (count more : ℕ) (text longer : List ℕ)
    (all : Result (List ℕ) SourceFault)
    → items ≡ item ∷ others → count ≡ suc more → r ≡ room → None ≡ size_of item → source_from v room depth several items 0 count text ≡ all
    → Ok longer ≡ plain_put v r (length items) depth several item text → source_from v room depth false others 0 more longer ≡ all
plain_on v room r depth several item others items count more text longer all front place same plain so put =
    let put_there : Ok longer ≡ plain_put v room (length items) depth several item text = rw same at put in
    rw (← put_there) at (plain_step v room depth several item others items count more text all front place plain so)

pub plain_fails : (v : DescriptionVersion) (room r depth : ℕ) (several : Bool) (item : Item) (others items : List Item) (count more : ℕ) (text : List ℕ)
    (fault : SourceFault) (all : Result (List ℕ) SourceFault)
    → items ≡ item ∷ others → count ≡ suc more → r ≡ room → None ≡ size_of item → source_from v room depth several items 0 count text ≡ all
    → Err fault ≡ plain_put v r (length items) depth several item text → Err fault ≡ all
plain_fails v room r depth several item others items count more text fault all front place same plain so put =
    let put_there : Err fault ≡ plain_put v room (length items) depth several item text = rw same at put in
    rw (← put_there) at (plain_step v room depth several item others items count more text all front place plain so)

-- a head of a group
abbrev pub head_put : ℕ → ℕ → ℕ → Bool → Item → ℕ → ℕ → List ℕ → Result (List ℕ) SourceFault
head_put room left depth several item size count text =
    and_then (with_piece room left text (end_of_several several item))
    (λ ended. unless_fault room left ended (group_opening item) (group_fault depth several item size count))

pub head_step : (v : DescriptionVersion) (room depth : ℕ) (several : Bool) (item : Item) (others items : List Item) (count more size : ℕ) (text : List ℕ)
    (all : Result (List ℕ) SourceFault)
    → items ≡ item ∷ others → count ≡ suc more → Some size ≡ size_of item → source_from v room depth several items 0 count text ≡ all
    → and_then (head_put room (length items) depth several item size more text) (λ begun.
    and_then (source_from v room (depth + 1) false others 0 size begun) (λ own.
    and_then (with_piece room (length items) own (group_end item)) (λ closed.
    source_from v room depth (is_several item) others size (more - size) closed))) ≡ all
unfolding source_from
head_step v room depth several item others items count more size text all front place head so =
    let here = rw (front, place, ← head) at so in
    rw (front, and_then-assoc) here

-- a fault ends all, and a text goes on
pub fails : (r room : ℕ) (put : ℕ → Result (List ℕ) SourceFault) (next : List ℕ → Result (List ℕ) SourceFault) (fault : SourceFault)
    (all : Result (List ℕ) SourceFault) → r ≡ room → Err fault ≡ put r → and_then (put room) next ≡ all → Err fault ≡ all
fails r room put next fault all same is so =
    let there : Err fault ≡ put room = rw same at is in rw (← there) at so

pub goes : (r room : ℕ) (put : ℕ → Result (List ℕ) SourceFault) (next : List ℕ → Result (List ℕ) SourceFault) (text : List ℕ)
    (all : Result (List ℕ) SourceFault) → r ≡ room → Ok text ≡ put r → and_then (put room) next ≡ all → next text ≡ all
goes r room put next text all same is so =
    let there : Ok text ≡ put room = rw same at is in rw (← there) at so

-- items that are passed over
pub source_from-drop : (v : DescriptionVersion) (room depth : ℕ) (several : Bool) (items : List Item) (skip count : ℕ) (text : List ℕ)
    → source_from v room depth several items skip count text ≡ source_from v room depth several (drop skip items) 0 count text
unfolding source_from
source_from-drop v room depth several [] zero count text = refl
source_from-drop v room depth several [] (suc skip) count text = refl
source_from-drop v room depth several (item ∷ items) zero count text = refl
source_from-drop v room depth several (item ∷ items) (suc skip) count text = source_from-drop v room depth several items skip count text
