-- Grammars printed as RFC 5234 prints them, and the grammar of RFC 3339 as that RFC prints it.
use Rattle.std.specs.Prelude.{◌≡◌, ℕ, ◌/◌, ◌%◌, ◌+◌, ◌==◌, ◌&&◌, Bool, false, cond, List, [], ◌∷◌, ◌++◌, map, Option, Some, None, codes, nat_lt}
use Rattle.rfc3339.specs.Abnf.{Element, quoted, range, rule, ◌then◌, ◌or◌, times, repeat}
use Rattle.rfc3339.specs.Grammar.{rfc3339, date_time}

-- the text of a number below 10, and of a byte in two hexadecimal digits
abbrev pub figure : ℕ → List ℕ
figure n = (cond (nat_lt n 10) 48 55 + n) ∷ []

abbrev pub hexadecimal : ℕ → List ℕ
hexadecimal n = figure (n / 16) ++ figure (n % 16)

-- the text of an element, in parentheses where an alternative is part of a sequence
abbrev pub in_sequence : Element → List ℕ → List ℕ
in_sequence (a or b) text = codes "(" ++ text ++ codes ")"
in_sequence (quoted t) text = text
in_sequence (range a b) text = text
in_sequence (rule n) text = text
in_sequence (a then b) text = text
in_sequence (times k e) text = text
in_sequence (repeat k m e) text = text

-- the text of an element, in parentheses where more than one word is repeated
abbrev pub repeated_text : Element → List ℕ → List ℕ
repeated_text (a or b) text = codes "(" ++ text ++ codes ")"
repeated_text (a then b) text = codes "(" ++ text ++ codes ")"
repeated_text (quoted t) text = text
repeated_text (range a b) text = text
repeated_text (rule n) text = text
repeated_text (times k e) text = text
repeated_text (repeat k m e) text = text

-- the repetition is once or not at all
abbrev pub is_optional : ℕ → Option ℕ → Bool
is_optional least None = false
is_optional least (Some most) = (least == 0) && (most == 1)

abbrev pub most_text : Option ℕ → List ℕ
most_text None = []
most_text (Some most) = figure most

-- the text of a repetition: `1*2`, and `*` alone for at least 0
abbrev pub times_text : ℕ → Option ℕ → List ℕ
times_text least most = cond (least == 0) [] (figure least) ++ codes "*" ++ most_text most

-- the text of an element
abbrev pub element_text : Element → List ℕ
element_text (quoted t) = codes "\"" ++ t ++ codes "\""
element_text (range a b) = codes "%x" ++ hexadecimal a ++ codes "-" ++ hexadecimal b
element_text (rule n) = n
element_text (a then b) = in_sequence a (element_text a) ++ codes " " ++ in_sequence b (element_text b)
element_text (a or b) = element_text a ++ codes " / " ++ element_text b
element_text (times k e) = figure k ++ repeated_text e (element_text e)
element_text (repeat least most e) =
    cond (is_optional least most) (codes "[" ++ element_text e ++ codes "]") (times_text least most ++ repeated_text e (element_text e))

-- the text of a rule
abbrev pub printed_rule : List ℕ × Element → List ℕ
printed_rule r = r.0 ++ codes " = " ++ element_text r.1

-- the rules of the RFC, word by word, and the alternative that is added
pub record GrammarIsPrinted : Type 0 where
  pub added : element_text date_time ≡ codes "date-time / full-date \" \" full-time"
  pub rules : map printed_rule rfc3339
      ≡ codes "DIGIT = %x30-39"
      ∷ codes "date-fullyear = 4DIGIT"
      ∷ codes "date-month = 2DIGIT"
      ∷ codes "date-mday = 2DIGIT"
      ∷ codes "time-hour = 2DIGIT"
      ∷ codes "time-minute = 2DIGIT"
      ∷ codes "time-second = 2DIGIT"
      ∷ codes "time-secfrac = \".\" 1*DIGIT"
      ∷ codes "time-numoffset = (\"+\" / \"-\") time-hour \":\" time-minute"
      ∷ codes "time-offset = \"Z\" / time-numoffset"
      ∷ codes "partial-time = time-hour \":\" time-minute \":\" time-second [time-secfrac]"
      ∷ codes "full-date = date-fullyear \"-\" date-month \"-\" date-mday"
      ∷ codes "full-time = partial-time time-offset"
      ∷ codes "date-time = full-date \"T\" full-time"
      ∷ []
