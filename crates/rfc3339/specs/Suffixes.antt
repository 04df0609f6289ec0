-- The grammar of RFC 9557, section 4.1: a date-time with a suffix in brackets.
use Rattle.std.specs.Prelude.{◌≡◌, ◌⊎◌, ℕ, ◌==◌, Bool, false, List, [], ◌∷◌, ◌++◌, map, length, None, codes, IsTrue, ◌↔◌}
use Rattle.std.specs.List.{before_first}
use Rattle.std.specs.Result.{result_map_both}
use Rattle.rfc3339.specs.Abnf.{Element, quoted, range, rule, ◌then◌, ◌or◌, repeat, optional, Grammar, Derives}
use Rattle.rfc3339.specs.Front.{front_reading_of}
use Rattle.rfc3339.specs.Grammar.{digit, rfc3339}
use Rattle.rfc3339.specs.Reading.{reading_of}
use Rattle.rfc3339.specs.Printed.{printed_rule}
use Rattle.rfc3339.specs.Recogniser.{is_ranked, derives}

-- a letter, A to Z or a to z
abbrev pub letter : Element
letter = rule (codes "ALPHA")

-- any number of times, also not at all
abbrev pub any_times : Element → Element
any_times e = repeat 0 None e

-- the rules, in the order and the words of the RFC, the two alternatives of `time-zone` in parentheses; and RFC 5234's letters
unfoldable pub suffix_rules : Grammar
suffix_rules =
    (codes "time-zone-initial", letter or quoted (codes ".") or quoted (codes "_"))
    ∷ (codes "time-zone-char", rule (codes "time-zone-initial") or digit or quoted (codes "-") or quoted (codes "+"))
    ∷ (codes "time-zone-part", rule (codes "time-zone-initial") then any_times (rule (codes "time-zone-char")))
    ∷ (
      codes "time-zone-name",
      rule (codes "time-zone-part") then any_times (quoted (codes "/") then rule (codes "time-zone-part")),
    )
    ∷ (
      codes "time-zone",
      quoted (codes "[") then rule (codes "critical-flag") then (rule (codes "time-zone-name") or rule (codes "time-numoffset"))
          then quoted (codes "]"),
    )
    ∷ (codes "key-initial", rule (codes "lcalpha") or quoted (codes "_"))
    ∷ (codes "key-char", rule (codes "key-initial") or digit or quoted (codes "-"))
    ∷ (codes "suffix-key", rule (codes "key-initial") then any_times (rule (codes "key-char")))
    ∷ (codes "suffix-value", repeat 1 None (rule (codes "alphanum")))
    ∷ (codes "suffix-values", rule (codes "suffix-value") then any_times (quoted (codes "-") then rule (codes "suffix-value")))
    ∷ (
      codes "suffix-tag",
      quoted (codes "[") then rule (codes "critical-flag") then rule (codes "suffix-key") then quoted (codes "=")
          then rule (codes "suffix-values") then quoted (codes "]"),
    )
    ∷ (codes "suffix", optional (rule (codes "time-zone")) then any_times (rule (codes "suffix-tag")))
    ∷ (codes "date-time-ext", rule (codes "date-time") then rule (codes "suffix"))
    ∷ (codes "critical-flag", optional (quoted (codes "!")))
    ∷ (codes "alphanum", letter or digit)
    ∷ (codes "lcalpha", range 0x61 0x7A)
    ∷ (codes "ALPHA", range 0x41 0x5A or range 0x61 0x7A)
    ∷ []

-- these rules, before those of RFC 3339 with `date-time`, `time-numoffset` and DIGIT
unfoldable pub rfc9557 : Grammar
rfc9557 = suffix_rules ++ rfc3339

-- a date-time with a suffix
abbrev pub date_time_ext : Element
date_time_ext = rule (codes "date-time-ext")

-- the rules of the RFC, word by word, and RFC 5234's letters
pub record SuffixesArePrinted : Type 0 where
  pub rules : map printed_rule suffix_rules
      ≡ codes "time-zone-initial = ALPHA / \".\" / \"_\""
      ∷ codes "time-zone-char = time-zone-initial / DIGIT / \"-\" / \"+\""
      ∷ codes "time-zone-part = time-zone-initial *time-zone-char"
      ∷ codes "time-zone-name = time-zone-part *(\"/\" time-zone-part)"
      ∷ codes "time-zone = \"[\" critical-flag (time-zone-name / time-numoffset) \"]\""
      ∷ codes "key-initial = lcalpha / \"_\""
      ∷ codes "key-char = key-initial / DIGIT / \"-\""
      ∷ codes "suffix-key = key-initial *key-char"
      ∷ codes "suffix-value = 1*alphanum"
      ∷ codes "suffix-values = suffix-value *(\"-\" suffix-value)"
      ∷ codes "suffix-tag = \"[\" critical-flag suffix-key \"=\" suffix-values \"]\""
      ∷ codes "suffix = [time-zone] *suffix-tag"
      ∷ codes "date-time-ext = date-time suffix"
      ∷ codes "critical-flag = [\"!\"]"
      ∷ codes "alphanum = ALPHA / DIGIT"
      ∷ codes "lcalpha = %x61-7A"
      ∷ codes "ALPHA = %x41-5A / %x61-7A"
      ∷ []

-- no rule names itself, also through others, so the recogniser decides the texts that they derive
-- it computes on texts like the RFC's examples
pub record SuffixesAreDecided : Type 0 where
  pub ranked : IsTrue (is_ranked rfc9557)
  pub decided : (text : List ℕ) → IsTrue (derives rfc9557 date_time_ext text) ↔ Derives rfc9557 date_time_ext text
  pub alone : IsTrue (derives rfc9557 date_time_ext (codes "1996-12-19T16:39:57-08:00"))
  pub zone : IsTrue (derives rfc9557 date_time_ext (codes "1996-12-19T16:39:57-08:00[America/Los_Angeles]"))
  pub calendar : IsTrue (derives rfc9557 date_time_ext (codes "1996-12-19T16:39:57-08:00[America/Los_Angeles][u-ca=hebrew]"))
  pub tags : IsTrue (derives rfc9557 date_time_ext (codes "1996-12-19T16:39:57-08:00[_foo=bar][_baz=bat]"))
  pub critical : IsTrue (derives rfc9557 date_time_ext (codes "2022-07-08T00:14:07Z[!Europe/London]"))
  pub offset : IsTrue (derives rfc9557 date_time_ext (codes "2022-07-08T00:14:07Z[+01:00]"))
  pub two_zones : derives rfc9557 date_time_ext (codes "2022-07-08T00:14:07Z[Europe/Paris][Europe/London]") ≡ false
  pub no_end : derives rfc9557 date_time_ext (codes "2022-07-08T00:14:07Z[Europe/Paris") ≡ false
  pub upper_key : derives rfc9557 date_time_ext (codes "2022-07-08T00:14:07Z[U-ca=hebrew]") ≡ false

-- a date-time of RFC 3339, with its T
abbrev pub IsDateTimeText : List ℕ → Type 0
IsDateTimeText text = Derives rfc3339 (rule (codes "date-time")) text

-- a suffix of RFC 9557
abbrev pub IsSuffixText : List ℕ → Type 0
IsSuffixText text = Derives rfc9557 (rule (codes "suffix")) text

-- the byte `[`
abbrev pub is_bracket : ℕ → Bool
is_bracket c = c == 0x5B

-- a suffix begins with `[` and ends with `]`, or is empty; a date-time has no `[`
pub record SuffixesAreInBrackets : Type 0 where
  pub suffix : (text : List ℕ) → IsSuffixText text → (text ≡ []) ⊎ ((inside : List ℕ) × (text ≡ codes "[" ++ inside ++ codes "]"))
  pub date_time : (text : List ℕ) → IsDateTimeText text → before_first is_bracket text ≡ text

-- a text of `date-time-ext` is a date-time of RFC 3339 and a suffix
-- the date-time is all before the first `[`, so there is one pair of them
-- the reading of the front of the text is that of the date-time alone, with the number of its bytes
pub record SuffixesAreCutOff : Type 0 where
  pub parts : (text : List ℕ)
      → Derives rfc9557 date_time_ext text ↔ ((s : List ℕ) × (t : List ℕ) × (text ≡ s ++ t) × IsDateTimeText s × IsSuffixText t)
  pub cut : (s t : List ℕ) → IsDateTimeText s → IsSuffixText t → before_first is_bracket (s ++ t) ≡ s
  pub one : (s t s' t' : List ℕ) → s ++ t ≡ s' ++ t' → IsDateTimeText s → IsSuffixText t → IsDateTimeText s' → IsSuffixText t'
      → (s ≡ s') × (t ≡ t')
  pub front : (s t : List ℕ) → IsDateTimeText s → IsSuffixText t
      → front_reading_of (s ++ t) ≡ result_map_both (λ at. (at, length s)) (λ refusal. refusal) (reading_of s)
