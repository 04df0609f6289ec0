-- Grammars in ABNF (RFC 5234) as data and the texts that they derive.
use Rattle.std.specs.Prelude.{◌≡◌, ℕ, suc, ◌≤◌, Bool, true, false, ◌&&◌, cond, List, [], ◌∷◌, ◌++◌, Option, Some, None, IsTrue, ⊤}
use Rattle.std.specs.Char.{eq_ignore_ascii_case}

infixr 30 ◌then◌
infixr 20 ◌or◌
-- the right side of a rule
pub data Element : Type 0 where
  -- "text", its letters in either case (2.3)
  quoted : List ℕ → Element
  -- %x30-39, a byte from the first to the last (3.4)
  range : ℕ → ℕ → Element
  -- a rule, by its name (2.1)
  rule : List ℕ → Element
  -- one after the other (3.1)
  ◌then◌ : Element → Element → Element
  -- one or the other (3.2)
  ◌or◌ : Element → Element → Element
  -- 4DIGIT, a number of times (3.7)
  times : ℕ → Element → Element
  -- 1*2DIGIT, at least a number of times, and at most another number where it has one (3.6)
  repeat : ℕ → Option ℕ → Element → Element

-- [DIGIT], once or not at all (3.8)
abbrev pub optional : Element → Element
optional e = repeat 0 (Some 1) e

-- rules, each with its name
abbrev pub Grammar : Type 0
Grammar = List (List ℕ × Element)

-- the same text, where letters may differ in case
abbrev pub is_same_text : List ℕ → List ℕ → Bool
is_same_text [] [] = true
is_same_text [] (b ∷ t) = false
is_same_text (a ∷ s) [] = false
is_same_text (a ∷ s) (b ∷ t) = eq_ignore_ascii_case a b && is_same_text s t

-- the rule of a name, in either case
abbrev pub rule_of : Grammar → List ℕ → Option Element
rule_of [] name = None
rule_of (first ∷ rules) name = cond (is_same_text first.0 name) (Some first.1) (rule_of rules name)

-- no more than the most, where there is one
abbrev pub IsAtMost : ℕ → Option ℕ → Type 0
IsAtMost k None = ⊤
IsAtMost k (Some most) = k ≤ most

-- the element derives the text
pub data Derives (g : Grammar) : Element → List ℕ → Type 0 where
  in_either_case : {wanted text : List ℕ} → IsTrue (is_same_text wanted text) → Derives g (quoted wanted) text
  in_range : {first last c : ℕ} → first ≤ c → c ≤ last → Derives g (range first last) (c ∷ [])
  by_rule : {name text : List ℕ} {e : Element} → rule_of g name ≡ Some e → Derives g e text → Derives g (rule name) text
  both : {a b : Element} {s t : List ℕ} → Derives g a s → Derives g b t → Derives g (a then b) (s ++ t)
  left : {a b : Element} {text : List ℕ} → Derives g a text → Derives g (a or b) text
  right : {a b : Element} {text : List ℕ} → Derives g b text → Derives g (a or b) text
  no_more : {e : Element} → Derives g (times 0 e) []
  one_more : {k : ℕ} {e : Element} {s t : List ℕ} → Derives g e s → Derives g (times k e) t → Derives g (times (suc k) e) (s ++ t)
  repeated : {least k : ℕ} {most : Option ℕ} {e : Element} {text : List ℕ} → least ≤ k → IsAtMost k most
      → Derives g (times k e) text → Derives g (repeat least most e) text
