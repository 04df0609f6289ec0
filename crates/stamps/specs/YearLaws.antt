-- Laws of the years that words give. Functions of `src/laws.rt` prove them.
use Rattle.std.specs.Prelude.{◌≡◌, ℕ, ◌==◌, Bool, true, false, List, [], ◌∷◌, ◌++◌, codes, ℤ, ◌≤ℤ◌, ◌<ℤ◌, Option, Some, None, Ok, Err}
use Rattle.std.specs.List.{list_all, list_any}
use Rattle.stamps.specs.Readers.{line_stamp}
use Rattle.stamps.specs.Years.{is_until, is_year, name_in, names, names_same, year_for, year_in}
use Rattle.stamps.specs.declared.readers.LineRefusal.{LineRefusal}
use Rattle.stamps.specs.declared.readers.LineStamp.{LineStamp}
use Rattle.stamps.specs.declared.readers.Reader.{Reader}

-- whether a text has a sign of equality
abbrev pub has_sign : List ℕ → Bool
has_sign text = list_any (λ byte. byte == 61) text

-- a value is the name of a file, a sign of equality, and a year without that sign
abbrev pub Gives : List ℕ → List ℕ → List ℕ → Type 0
Gives name year value = (value ≡ name ++ 61 ∷ year) × (has_sign year ≡ false)

-- a file has the year of the first value that names it, or else that of the first value without a name. A name may have the sign too
pub record YearsAreGiven : Type 0 where
  pub name : (name year value : List ℕ) → Gives name year value → (name_in value ≡ Some name) × (year_in value ≡ year)
  pub alone : (value : List ℕ) → has_sign value ≡ false → (name_in value ≡ None) × (year_in value ≡ value)
  pub named : (name value : List ℕ) → names name value ≡ true → (year : List ℕ) × Gives name year value
  pub own : (name year value : List ℕ) (before after : List (List ℕ)) → Gives name year value → list_any (names name) before ≡ false
      → year_for name (before ++ value ∷ after) ≡ Some year
  pub others : (name year : List ℕ) (before after : List (List ℕ)) → has_sign year ≡ false → list_all has_sign before ≡ true
      → list_any (names name) (before ++ year ∷ after) ≡ false → year_for name (before ++ year ∷ after) ≡ Some year
  pub none : (name : List ℕ) (values : List (List ℕ)) → list_all has_sign values ≡ true → list_any (names name) values ≡ false
      → year_for name values ≡ None

-- two values may not give the year of one file, or of all files. A year has four digits, or is the time of the last change
pub record YearsAreGivenOnce : Type 0 where
  pub one_file : names_same (codes "a.log=2024") (codes "a.log=mtime") ≡ true
  pub two_files : names_same (codes "a.log=2024") (codes "b.log=2024") ≡ false
  pub all_files : names_same (codes "2024") (codes "mtime") ≡ true
  pub one_and_all : names_same (codes "a.log=2024") (codes "2024") ≡ false
  pub all_and_one : names_same (codes "2024") (codes "a.log=2024") ≡ false
  pub digits : is_year (codes "2024") ≡ true
  pub change : is_year (codes "mtime") ≡ true
  pub two_digits : is_year (codes "24") ≡ false
  pub other_word : is_year (codes "Mtime") ≡ false
  pub no_digit : is_year (codes "202x") ≡ false

-- a line is up to an instant exactly if it has a stamp that is not after it
pub record StampsAreUntil : Type 0 where
  pub until : (reader : Reader) (is_first : Bool) (line : List ℕ) (stamp : LineStamp) (bound : ℤ) → line_stamp reader None is_first line ≡ Ok stamp
      → stamp.instant ≤ℤ bound → is_until reader is_first line bound ≡ true
  pub after : (reader : Reader) (is_first : Bool) (line : List ℕ) (stamp : LineStamp) (bound : ℤ) → line_stamp reader None is_first line ≡ Ok stamp
      → bound <ℤ stamp.instant → is_until reader is_first line bound ≡ false
  pub without : (reader : Reader) (is_first : Bool) (line : List ℕ) (refusal : LineRefusal) (bound : ℤ)
      → line_stamp reader None is_first line ≡ Err refusal → is_until reader is_first line bound ≡ false
