-- The texts of stamps: values of JSON stay values.
use Rattle.std.specs.Prelude.{◌&&◌, Bool, true, false, ℕ, List, [], ◌∷◌, ◌++◌, Option, option_map}
use Rattle.stamps.specs.Styles.{text_in}
use Rattle.stamps.specs.declared.readers.LineStamp.{LineStamp}
use Rattle.stamps.specs.declared.task.Style.{Style}
use Rattle.stamps.specs.declared.task.Style.TheVariants.{Utc, At, Unix}

-- whether a style is one of dates, and not a number
abbrev pub is_date : Style → Bool
is_date Utc = true
is_date (At offset) = true
is_date Unix = false

-- a text in quotes
abbrev pub in_quotes : List ℕ → List ℕ
in_quotes text = 34 ∷ text ++ 34 ∷ []

-- a text, if there is one, in quotes or as it is
abbrev pub value_text : Bool → Option (List ℕ) → Option (List ℕ)
value_text true text = option_map in_quotes text
value_text false text = text

-- the text of a stamp in a style: a date in place of a value of JSON is in quotes
abbrev pub stamp_text : Style → LineStamp → Option (List ℕ)
stamp_text style stamp = value_text (stamp.is_value && is_date style) (text_in style stamp.instant)
