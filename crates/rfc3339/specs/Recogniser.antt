-- The test whether a grammar derives a text, by computing, where no rule names itself, also through others.
use Rattle.std.specs.Prelude.{◌≡◌, ◌↔◌, ℕ, zero, suc, ◌-◌, nat_le, Bool, true, false, ◌&&◌, IsTrue, List, [], ◌∷◌, length, codes}
use Rattle.std.specs.Prelude.{Option, Some, None, Err}
use Rattle.std.specs.Char.{eq_ignore_ascii_case}
use Rattle.std.specs.List.{list_all}
use Rattle.std.specs.Option.{option_map_or}
use Rattle.rfc3339.specs.Abnf.{Element, quoted, range, rule, ◌then◌, ◌or◌, times, repeat, Grammar, rule_of, Derives}
use Rattle.rfc3339.specs.Grammar.{rfc3339, date_time}
use Rattle.rfc3339.specs.Reading.{reading_of}
use Rattle.rfc3339.specs.declared.refusal.TextRefusal.TheVariants.{Syntax}

-- each rule that the element names passes the test
abbrev pub each_name : (List ℕ → Bool) → Element → Bool
each_name test (quoted wanted) = true
each_name test (range first last) = true
each_name test (rule name) = test name
each_name test (a then b) = each_name test a && each_name test b
each_name test (a or b) = each_name test a && each_name test b
each_name test (times k e) = each_name test e
each_name test (repeat least most e) = each_name test e

-- no chain of rules, each named by the one before it, has more than this number of them
abbrev pub ends_within : Grammar → ℕ → List ℕ → Bool
ends_within g zero name = false
ends_within g (suc n) name = option_map_or (each_name (ends_within g n)) (rule_of g name) true

-- no rule names itself, also through others: no chain has more rules than the grammar
abbrev pub is_ranked : Grammar → Bool
is_ranked g = list_all (λ r. each_name (ends_within g (length g)) r.1) g

-- whether a text has a beginning of a kind, and the rest of the text passes a test
abbrev pub Reader : Type 0
Reader = List ℕ → (List ℕ → Bool) → Bool

-- the reader of a quoted text, letters in either case
abbrev pub read_quoted : List ℕ → Reader
read_quoted [] text passes = passes text
read_quoted (w ∷ wanted) [] passes = false
read_quoted (w ∷ wanted) (c ∷ text) passes = elim (eq_ignore_ascii_case w c) [
  | true ↦ read_quoted wanted text passes
  | false ↦ false
]

-- the reader of one byte of a range
abbrev pub read_range : ℕ → ℕ → Reader
read_range first last [] passes = false
read_range first last (c ∷ text) passes = elim (nat_le first c && nat_le c last) [
  | true ↦ passes text
  | false ↦ false
]

-- the same reader, a number of times
abbrev pub read_times : Reader → ℕ → Reader
read_times read zero text passes = passes text
read_times read (suc k) text passes = read text (λ rest. read_times read k rest passes)

-- the same reader, no more than a number of times
abbrev pub read_up_to : Reader → ℕ → Reader
read_up_to read zero text passes = passes text
read_up_to read (suc k) text passes = elim (passes text) [
  | true ↦ true
  | false ↦ read text (λ rest. read_up_to read k rest passes)
]

-- the same reader, at least a number of times; where there is no most, the number of bytes of the text is enough
abbrev pub read_repeat : Reader → ℕ → Option ℕ → Reader
read_repeat read least None text passes = read_times read least text (λ rest. read_up_to read (length rest) rest passes)
read_repeat read least (Some most) text passes = elim (nat_le least most) [
  | true ↦ read_times read least text (λ rest. read_up_to read (most - least) rest passes)
  | false ↦ false
]

-- the reader of an element, by the reader of each rule
abbrev pub read_element : (List ℕ → Reader) → Element → Reader
read_element named (quoted wanted) text passes = read_quoted wanted text passes
read_element named (range first last) text passes = read_range first last text passes
read_element named (rule name) text passes = named name text passes
read_element named (a then b) text passes = read_element named a text (λ rest. read_element named b rest passes)
read_element named (a or b) text passes = elim (read_element named a text passes) [
  | true ↦ true
  | false ↦ read_element named b text passes
]
read_element named (times k e) text passes = read_times (read_element named e) k text passes
read_element named (repeat least most e) text passes = read_repeat (read_element named e) least most text passes

-- the reader of a rule, through a chain of no more than this number of rules
abbrev pub read_rule : Grammar → ℕ → List ℕ → Reader
read_rule g zero name text passes = false
read_rule g (suc n) name text passes = option_map_or (λ e. read_element (read_rule g n) e text passes) (rule_of g name) false

-- the text has no bytes
abbrev pub is_empty : List ℕ → Bool
is_empty [] = true
is_empty (c ∷ text) = false

-- the grammar derives the text from the element: it is a beginning of the text, and the rest is empty
abbrev pub derives : Grammar → Element → List ℕ → Bool
derives g e text = read_element (read_rule g (suc (length g))) e text is_empty

-- the recogniser decides the texts that a grammar derives, if no rule names itself, also through others
-- RFC 3339's grammar is one, so a reading is a syntax error exactly where the recogniser returns false
-- a grammar with a rule that names itself is not one
pub record GrammarsAreDecided : Type 0 where
  pub decided : (g : Grammar) (e : Element) (text : List ℕ) → IsTrue (is_ranked g) → IsTrue (derives g e text) ↔ Derives g e text
  pub ranked : IsTrue (is_ranked rfc3339)
  pub refused : (text : List ℕ) → (reading_of text ≡ Err Syntax) ↔ (derives rfc3339 date_time text ≡ false)
  pub derived : IsTrue (derives rfc3339 date_time (codes "1985-04-12T23:20:50.52Z"))
  pub not_derived : derives rfc3339 date_time (codes "1985-04-12T23:20:50.52") ≡ false
  pub recursive : is_ranked ((codes "list", rule (codes "list") then quoted (codes ",")) ∷ []) ≡ false
