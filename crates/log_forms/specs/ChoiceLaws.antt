-- Laws of the choice of a reader. Functions of `src/laws.rt` prove them.
use Rattle.std.specs.Prelude.{◌≡◌, ◌≢◌, ◌⊎◌, ◌↔◌, ⊤, ℕ, ◌<◌, ◌≤◌, ℤ, pos, ◌+ℤ◌, ◌≤ℤ◌, ◌<ℤ◌, Bool, true, List, [], ◌∷◌, length}
use Rattle.std.specs.Prelude.{Option, Some, None, Result, Ok, Err}
use Rattle.std.specs.List.{filter_map}
use Rattle.log_forms.specs.Choices.{choice_of, count_read, digits_behind_comma, even_by, found_by, is_sure, reader_form, reader_key, reader_place, some_year}
use Rattle.log_forms.specs.Choices.{steady_by, text_of}
use Rattle.log_forms.specs.Forms.{form_named}
use Rattle.log_forms.specs.Stamps.{stamp_at}
use Rattle.log_forms.specs.declared.choice.TheConstants.{READERS}
use Rattle.log_forms.specs.declared.form.Form.{Form}
use Rattle.log_forms.specs.declared.instants.Assumed.{Assumed}
use Rattle.log_forms.specs.declared.places.Place.{Place}
use Rattle.log_forms.specs.declared.stamps.Stamp.{Stamp}
use Rattle.log_forms.specs.declared.stamps.StampRefusal.{StampRefusal}

-- of all readers, this one finds stamps in the most lines, and it is the first of those
pub record FindsTheMost (reader : ℕ) (lines : List (List ℕ)) : Type 0 where
  pub inside : reader < READERS
  pub some : 0 < count_read reader lines
  pub most : (other : ℕ) → other < READERS → count_read other lines ≤ count_read reader lines
  pub first : (other : ℕ) → other < reader → count_read other lines < count_read reader lines

-- this reader finds a stamp in both of two lines, and no reader before it does
pub record FindsBoth (reader : ℕ) (lines : List (List ℕ)) : Type 0 where
  pub inside : reader < READERS
  pub both : count_read reader lines ≡ 2
  pub first : (other : ℕ) → other < reader → count_read other lines < 2

-- no reader finds a stamp in each of these lines
abbrev pub NoneFindsBoth : List (List ℕ) → Type 0
NoneFindsBoth lines = (other : ℕ) → other < READERS → count_read other lines < 2

-- the first reader that finds a stamp in both of the first two lines is chosen
abbrev pub BothFirstLinesChoose : Type 0
BothFirstLinesChoose =
    (first second : List ℕ) (lines : List (List ℕ)) (reader : ℕ) → FindsBoth reader (first ∷ second ∷ [])
    → choice_of (first ∷ second ∷ lines) ≡ Some reader

-- if there is none, it is the first of those that find stamps in the most lines
abbrev pub MostLinesChoose : Type 0
MostLinesChoose =
    (first second : List ℕ) (lines : List (List ℕ)) (reader : ℕ) → NoneFindsBoth (first ∷ second ∷ [])
    → FindsTheMost reader (first ∷ second ∷ lines) → choice_of (first ∷ second ∷ lines) ≡ Some reader

-- of one line it is the first that finds a stamp there
abbrev pub OneLineChooses : Type 0
OneLineChooses = (line : List ℕ) (reader : ℕ) → FindsTheMost reader (line ∷ []) → choice_of (line ∷ []) ≡ Some reader

-- where no reader finds a stamp, none is chosen
abbrev pub NothingChooses : Type 0
NothingChooses =
    (first second : List ℕ) (lines : List (List ℕ)) → NoneFindsBoth (first ∷ second ∷ [])
    → ((other : ℕ) → other < READERS → count_read other (first ∷ second ∷ lines) ≡ 0) → choice_of (first ∷ second ∷ lines) ≡ None

-- ---- the readers that may be chosen

-- each one of a list, and each one with each that comes after it
abbrev pub Each : {A : Type 0} → (A → Type 0) → List A → Type 0
Each P [] = ⊤
Each P (x ∷ xs) = P x × Each P xs

abbrev pub EachPair : {A : Type 0} → (A → A → Type 0) → List A → Type 0
EachPair R [] = ⊤
EachPair R (x ∷ xs) = Each (R x) xs × EachPair R xs

-- the instants of the stamps that a form finds in lines
abbrev pub instant_if : Result Stamp StampRefusal → Option ℤ
instant_if (Ok stamp) = Some stamp.instant
instant_if (Err refusal) = None

abbrev pub instants_in : Form → Place → List ℕ → Assumed → List (List ℕ) → List ℤ
instants_in form place key assumed lines = filter_map (λ line. instant_if (stamp_at form place key assumed line)) lines

-- an instant of the years 2000 to 2039
abbrev pub IsNear : ℤ → Type 0
IsNear at = (pos 946_684_800_000_000_000 ≤ℤ at) × (at <ℤ pos 2_208_988_800_000_000_000)

-- an instant no earlier than another, and less than 366 days after it
abbrev pub IsSoonAfter : ℤ → ℤ → Type 0
IsSoonAfter at next = (at ≤ℤ next) × (next <ℤ (at +ℤ pos 31_622_400_000_000_000))

-- all are near, and each later one comes soon after each earlier one
abbrev pub GrowSlowly : List ℤ → Type 0
GrowSlowly instants = Each IsNear instants × EachPair IsSoonAfter instants

-- the numbers of digits behind a comma with which the stamps of lines end
abbrev pub digits_if : List ℕ → Result Stamp StampRefusal → Option ℕ
digits_if line (Ok stamp) = digits_behind_comma (text_of stamp line)
digits_if line (Err refusal) = None

abbrev pub digits_in : Form → Place → List ℕ → Assumed → List (List ℕ) → List ℕ
digits_in form place key assumed lines = filter_map (λ line. digits_if line (stamp_at form place key assumed line)) lines

-- the same by a reader
abbrev pub instants_found : ℕ → List (List ℕ) → List ℤ
instants_found reader lines = instants_in (form_named (reader_form reader)) (reader_place reader) (reader_key reader) some_year lines

abbrev pub digits_found : ℕ → List (List ℕ) → List ℕ
digits_found reader lines = digits_in (form_named (reader_form reader)) (reader_place reader) (reader_key reader) some_year lines

-- all numbers are the same
abbrev pub AreEqual : List ℕ → Type 0
AreEqual numbers = EachPair (λ a b. a ≡ b) numbers

-- whether a reader may be chosen by lines: its stamps are no bare counts, or two at least that grow slowly; and those that end with digits
-- behind a comma have as many
abbrev pub MayBeChosen : ℕ → List (List ℕ) → Type 0
MayBeChosen reader lines =
    ((is_sure reader lines ≡ true) ⊎ ((2 ≤ found_by reader lines) × GrowSlowly (instants_found reader lines))) × AreEqual (digits_found reader lines)

-- a reader that may be chosen counts the lines with a stamp, and any other counts none
pub record FoundLinesCount : Type 0 where
  pub lines : (reader : ℕ) (lines : List (List ℕ)) → found_by reader lines ≡ length (instants_found reader lines)
  pub counted : (reader : ℕ) (lines : List (List ℕ)) → MayBeChosen reader lines → count_read reader lines ≡ found_by reader lines
  pub others : (reader : ℕ) (lines : List (List ℕ)) → count_read reader lines ≢ 0 → MayBeChosen reader lines
