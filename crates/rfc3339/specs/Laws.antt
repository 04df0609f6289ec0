-- Laws of the texts, each proved by a function of `src/laws.rt`.
use Rattle.std.specs.Prelude.{◌≡◌, ℕ, ℤ, List, length, Ok, Err, ◌⊎◌}
use Rattle.std.specs.Cmp.Lexicographic.{slice_cmp}
use Rattle.std.specs.Ordering.{nat_cmp, int_cmp}
use Rattle.offset_times.specs.Local.{Local}
use Rattle.rfc3339.specs.Form.{IsDateTime}
use Rattle.rfc3339.specs.Meaning.{meaning}
use Rattle.rfc3339.specs.Reading.{reading_of}
use Rattle.rfc3339.specs.Texts.{HasText, rfc3339_text, HasFixedText, fixed_text}
use Rattle.rfc3339.specs.declared.parts.Parts.{Parts}
use Rattle.rfc3339.specs.declared.refusal.TextRefusal.TheVariants.{Syntax}

-- a text spells one list of parts at most
abbrev pub TextsHaveOneReading : Type 0
TextsHaveOneReading = (text : List ℕ) (p q : Parts) → IsDateTime text p → IsDateTime text q → p ≡ q

-- the reading of a text is the meaning of the numbers that it spells, or else a syntax error
abbrev pub ReadingsAreOfTheForm : Type 0
ReadingsAreOfTheForm =
    (text : List ℕ) → ((p : Parts) → IsDateTime text p → reading_of text ≡ meaning p)
    × ((reading_of text ≡ Err Syntax) ⊎ ((p : Parts) × IsDateTime text p))

-- a written text has the form, and means the value that was written
abbrev pub WrittenTextsReadBack : Type 0
WrittenTextsReadBack =
    (at : Local) → HasText at → (p : Parts) × IsDateTime (rfc3339_text at) p × (meaning p ≡ Ok at)

-- two date-times with one text are one value
abbrev pub TextsTellValues : Type 0
TextsTellValues = (a b : Local) → HasText a → HasText b → rfc3339_text a ≡ rfc3339_text b → a ≡ b

-- the texts of fixed width have 30 bytes
abbrev pub FixedTextsHaveOneWidth : Type 0
FixedTextsHaveOneWidth = (i : ℤ) → HasFixedText i → length (fixed_text i) ≡ 30

-- the texts of fixed width compare, byte by byte, as their instants do
abbrev pub FixedTextsKeepTheOrder : Type 0
FixedTextsKeepTheOrder =
    (i j : ℤ) (first second : List ℕ) → HasFixedText i → HasFixedText j → first ≡ fixed_text i → second ≡ fixed_text j
    → slice_cmp nat_cmp first second ≡ int_cmp i j
