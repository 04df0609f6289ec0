-- The grammar of RFC 3339, section 5.6, and its laws for the forms of the library.
use Rattle.std.specs.Prelude.{◌≡◌, ◌≤◌, ◌++◌, take, length, ℕ, ℤ, List, [], ◌∷◌, None, Err, codes, ◌↔◌}
use Rattle.rfc3339.specs.Abnf.{Element, quoted, range, rule, ◌then◌, ◌or◌, times, repeat, optional, Grammar, Derives}
use Rattle.rfc3339.specs.Faults.{standing}
use Rattle.rfc3339.specs.Form.{IsDateTime}
use Rattle.rfc3339.specs.Front.{front_reading_of}
use Rattle.rfc3339.specs.FullDates.{IsFullDate, HasFullDate, full_date_text, full_date_reading_of}
use Rattle.rfc3339.specs.LeapSeconds.{leap_reading_of}
use Rattle.rfc3339.specs.Reading.{reading_of}
use Rattle.rfc3339.specs.Texts.{HasText, rfc3339_text, digits_text, HasFixedText, fixed_text, fixed_text_at}
use Rattle.offset_times.specs.Local.{Local}
use Rattle.rfc3339.specs.declared.parts.Parts.{Parts}
use Rattle.rfc3339.specs.declared.refusal.TextRefusal.TheVariants.{Syntax}

abbrev pub digit : Element
digit = rule (codes "DIGIT")

-- the rules, in the order and the words of the RFC; by ABNF's own rule for quoted texts, `t` and `z` match T and Z
unfoldable pub rfc3339 : Grammar
rfc3339 =
    (codes "DIGIT", range 0x30 0x39)
    ∷ (codes "date-fullyear", times 4 digit)
    ∷ (codes "date-month", times 2 digit)
    ∷ (codes "date-mday", times 2 digit)
    ∷ (codes "time-hour", times 2 digit)
    ∷ (codes "time-minute", times 2 digit)
    ∷ (codes "time-second", times 2 digit)
    ∷ (codes "time-secfrac", quoted (codes ".") then repeat 1 None digit)
    ∷ (
      codes "time-numoffset",
      (quoted (codes "+") or quoted (codes "-")) then rule (codes "time-hour") then quoted (codes ":") then rule (codes "time-minute"),
    )
    ∷ (codes "time-offset", quoted (codes "Z") or rule (codes "time-numoffset"))
    ∷ (
      codes "partial-time",
      rule (codes "time-hour") then quoted (codes ":") then rule (codes "time-minute") then quoted (codes ":")
          then rule (codes "time-second") then optional (rule (codes "time-secfrac")),
    )
    ∷ (
      codes "full-date",
      rule (codes "date-fullyear") then quoted (codes "-") then rule (codes "date-month") then quoted (codes "-") then rule (codes "date-mday"),
    )
    ∷ (codes "full-time", rule (codes "partial-time") then rule (codes "time-offset"))
    ∷ (codes "date-time", rule (codes "full-date") then quoted (codes "T") then rule (codes "full-time"))
    ∷ []

-- a date-time, or a date and a time with a space between them, which the RFC's note allows
abbrev pub date_time : Element
date_time = rule (codes "date-time") or rule (codes "full-date") then quoted (codes " ") then rule (codes "full-time")

-- a text has the form of a date-time, or of a date, for some numbers, exactly where the grammar derives it
pub record FormsAreOfTheGrammar : Type 0 where
  pub date_time : (text : List ℕ) → ((p : Parts) × IsDateTime text p) ↔ Derives rfc3339 date_time text
  pub full_date : (text : List ℕ)
      → ((year : ℕ) × (month : ℕ) × (day : ℕ) × IsFullDate text year month day) ↔ Derives rfc3339 (rule (codes "full-date")) text

-- so the reading of a text is a syntax error exactly where the grammar does not derive it
pub record RefusalsAreOfTheGrammar : Type 0 where
  pub leap : (text : List ℕ) → (leap_reading_of text ≡ Err Syntax) ↔ ¬ Derives rfc3339 date_time text
  pub date_time : (text : List ℕ) → (reading_of text ≡ Err Syntax) ↔ ¬ Derives rfc3339 date_time text
  pub full_date : (text : List ℕ) → (full_date_reading_of text ≡ Err Syntax) ↔ ¬ Derives rfc3339 (rule (codes "full-date")) text

-- the grammar derives each text that is written, by the RFC's own `date-time`, with no space
pub record WrittenTextsAreOfTheGrammar : Type 0 where
  pub shortest : (at : Local) → HasText at → Derives rfc3339 (rule (codes "date-time")) (rfc3339_text at)
  pub digits : (k : ℕ) (at : Local) → k ≤ 9 → HasText at → Derives rfc3339 (rule (codes "date-time")) (digits_text k at)
  pub fixed : (i : ℤ) → HasFixedText i → Derives rfc3339 (rule (codes "date-time")) (fixed_text i)
  pub fixed_at : (at : Local) → HasText at → Derives rfc3339 (rule (codes "date-time")) (fixed_text_at at)
  pub full_date : (n : ℤ) → HasFullDate n → Derives rfc3339 (rule (codes "full-date")) (full_date_text n)

-- no derived text begins another; the reading of a front is a syntax error exactly where the grammar derives none
-- the fault of a text follows its longest beginning that also begins a derived text
pub record BeginningsAreOfTheGrammar : Type 0 where
  pub one : (s t s' t' : List ℕ) → s ++ t ≡ s' ++ t' → Derives rfc3339 date_time s → Derives rfc3339 date_time s' → s ≡ s'
  pub front : (text : List ℕ)
      → (front_reading_of text ≡ Err Syntax) ↔ ¬ ((s : List ℕ) × (t : List ℕ) × (text ≡ s ++ t) × Derives rfc3339 date_time s)
  pub begins : (text : List ℕ) → (rest : List ℕ) × Derives rfc3339 date_time (take (standing 0 text) text ++ rest)
  pub longest : (text : List ℕ) (n : ℕ) (rest : List ℕ) → n ≤ length text → Derives rfc3339 date_time (take n text ++ rest) → n ≤ standing 0 text
