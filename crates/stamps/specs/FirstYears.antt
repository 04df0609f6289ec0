-- The year of the first stamp of a log, by an instant up to which it is.
use Rattle.std.specs.Prelude.{◌≡◌, ◌⊎◌, ℕ, Bool, true, false, List, [], ◌∷◌, ℤ, pos, ◌+ℤ◌, ◌≤ℤ◌, ◌<ℤ◌, Some}
use Rattle.stamps.specs.Years.{is_until}
use Rattle.stamps.specs.declared.readers.FormReader.{FormReader}
use Rattle.stamps.specs.declared.readers.Reader.{Reader}
use Rattle.stamps.specs.declared.readers.Reader.TheVariants.{Plain, Formed}

-- the reader that assumes a year
abbrev pub in_year : Reader → ℤ → Reader
in_year Plain year = Plain
in_year (Formed by) year = Formed (record by { assumed = record by.assumed { year = Some year } })

-- two readers are the same in each year
abbrev pub SameInYears : Reader → Reader → Type 0
SameInYears first second = (year : ℤ) → in_year second year ≡ in_year first year

-- one of so many years up to another
pub record IsOneOf (top : ℤ) (years : ℕ) (year : ℤ) : Type 0 where
  pub last : year ≤ℤ top
  pub first : top <ℤ (year +ℤ pos years)

-- in none of these years the stamp of a line is at or before an instant
abbrev pub HasNoYear : Reader → Bool → List ℕ → ℤ → ℤ → ℕ → Type 0
HasNoYear reader is_first line bound top years =
    (year : ℤ) → IsOneOf top years year → is_until (in_year reader year) is_first line bound ≡ false

-- of these years it is the latest in which the stamp of a line is at or before an instant
pub record IsLatestYear (reader : Reader) (is_first : Bool) (line : List ℕ) (bound top : ℤ) (years : ℕ) (year : ℤ) : Type 0 where
  pub one : IsOneOf top years year
  pub here : is_until (in_year reader year) is_first line bound ≡ true
  pub latest : (later : ℤ) → later ≤ℤ top → year <ℤ later → is_until (in_year reader later) is_first line bound ≡ false

-- the year of the first line that has one of ten years, or else another one
abbrev pub IsFirstYear : Reader → Bool → List (List ℕ) → ℤ → ℤ → ℤ → ℤ → Type 0
IsFirstYear reader is_first [] bound top other year = year ≡ other
IsFirstYear reader is_first (line ∷ lines) bound top other year =
    IsLatestYear reader is_first line bound top 10 year
    ⊎ (HasNoYear reader is_first line bound top 10 × IsFirstYear reader false lines bound top other year)
