-- The steps that read a text as a description without groups, byte by byte.
use Rattle.std.specs.Prelude.{ℕ, ◌==◌, ◌||◌, ◌&&◌, not, Bool, true, false, List, [], ◌∷◌, length, if◌then◌else◌}
use Rattle.std.specs.Prelude.{Option, Some, None, Result, Ok, Err}
use Rattle.format_descriptions.specs.DescriptionWords.{is_white_space}
use Rattle.format_descriptions.specs.DescriptionNames.{name_at}
use Rattle.format_descriptions.specs.DescriptionModifiers.{modifier_at, no_modifiers}
use Rattle.format_descriptions.specs.DescriptionComponents.{component_of}
use Rattle.format_descriptions.specs.declared.component.Component.{Component}
use Rattle.format_descriptions.specs.declared.description_modifiers.Modifiers.{Modifiers}
use Rattle.format_descriptions.specs.declared.description_names.Name.{Name}
use Rattle.format_descriptions.specs.declared.description_refusal.DescriptionFault.{DescriptionFault}
use Rattle.format_descriptions.specs.declared.description_refusal.DescriptionFault.TheVariants.{NoEnd, NoName, NestedBracket, UnknownComponent}
use Rattle.format_descriptions.specs.declared.description_refusal.DescriptionFault.TheVariants.{MissingModifier, WrongEscape}
use Rattle.format_descriptions.specs.declared.description_steps.DescriptionVersion.{DescriptionVersion}
use Rattle.format_descriptions.specs.declared.description_steps.DescriptionVersion.TheVariants.{One, Two}
use Rattle.format_descriptions.specs.declared.description_steps.Place.{Place}
use Rattle.format_descriptions.specs.declared.description_steps.Place.TheVariants.{Outside, Escaped, Opened, Unnamed, InWord, BetweenWords}
use Rattle.format_descriptions.specs.declared.item.Item.{Item}
use Rattle.format_descriptions.specs.declared.item.Item.TheVariants.{Byte, Part}

-- a fault, and the number of bytes from it to the end
abbrev pub Fault : Type 0
Fault = DescriptionFault × ℕ

-- the place of the next byte and the item that ends with this one, or a fault
abbrev pub Step : Type 0
Step = Result (Place × Option Item) Fault

-- a text contains a `]`
unfoldable pub is_closed : List ℕ → Bool
is_closed [] = false
is_closed (first ∷ text) = first == 93 || is_closed text

-- in version 1 `[[` is a `[`
abbrev pub doubles_brackets : DescriptionVersion → Bool
doubles_brackets One = true
doubles_brackets Two = false

-- the step of a byte outside of brackets
unfoldable pub outside : DescriptionVersion → ℕ → List ℕ → Step
outside version first text =
    if first == 91 then Ok (Opened (length text), None)
    else (if not (doubles_brackets version) && first == 92 then Ok (Escaped, None) else Ok (Outside, Some (Byte first)))

-- the step of a byte after a backslash
unfoldable pub escaped : ℕ → List ℕ → Step
escaped first text =
    if first == 91 || (first == 93 || first == 92) then Ok (Outside, Some (Byte first)) else Err (WrongEscape, length text)

-- the step after a name that was found, or the fault if no component has that name
abbrev pub name_or : ℕ → List ℕ → Option Name → Step
name_or bracket text None = Err (UnknownComponent, length text)
name_or bracket text (Some name) = Ok (InWord bracket name no_modifiers, None)

-- the step of a byte in brackets that have no name yet
unfoldable pub begin_name : ℕ → ℕ → List ℕ → Step
begin_name bracket first text =
    if is_white_space first then Ok (Unnamed bracket, None)
    else (if first == 91 || first == 93 then Err (NoName, bracket) else name_or bracket text (name_at text))

-- the step of a byte after a `[`
unfoldable pub open_bracket : DescriptionVersion → ℕ → ℕ → List ℕ → Step
open_bracket version bracket first text =
    if doubles_brackets version && first == 91 then Ok (Outside, Some (Byte 91))
    else (if is_closed text then begin_name bracket first text else Err (NoEnd, bracket))

-- the step that ends a component, or the fault if it lacks a modifier that it needs
abbrev pub component_or : ℕ → Option Component → Step
component_or bracket None = Err (MissingModifier, bracket)
component_or bracket (Some component) = Ok (Outside, Some (Part component))

-- the step of the `]` of a component
unfoldable pub finish_component : ℕ → Name → Modifiers → Step
finish_component bracket name m = component_or bracket (component_of name m)

-- the step of a byte of a word, or of the byte after it
unfoldable pub in_word : ℕ → Name → Modifiers → ℕ → List ℕ → Step
in_word bracket name m first text =
    if first == 93 then finish_component bracket name m
    else (if first == 91 then Err (NestedBracket, length text)
    else (if is_white_space first then Ok (BetweenWords bracket name m, None) else Ok (InWord bracket name m, None)))

-- the step after a modifier that was read, or its fault
abbrev pub modifier_or : ℕ → Name → Result Modifiers Fault → Step
modifier_or bracket name (Err fault) = Err fault
modifier_or bracket name (Ok m) = Ok (InWord bracket name m, None)

-- the step of a byte after the white space that follows a word
unfoldable pub between_words : ℕ → Name → Modifiers → ℕ → List ℕ → Step
between_words bracket name m first text =
    if first == 93 then finish_component bracket name m
    else (if first == 91 then Err (NestedBracket, length text)
    else (if is_white_space first then Ok (BetweenWords bracket name m, None) else modifier_or bracket name (modifier_at name text m)))

-- the step of a byte, the first of a text
unfoldable pub step : DescriptionVersion → Place → ℕ → List ℕ → Step
step version Outside first text = outside version first text
step version Escaped first text = escaped first text
step version (Opened bracket) first text = open_bracket version bracket first text
step version (Unnamed bracket) first text = begin_name bracket first text
step version (InWord bracket name m) first text = in_word bracket name m first text
step version (BetweenWords bracket name m) first text = between_words bracket name m first text

-- the fault of a description that ends here
unfoldable pub fault_at_end : Place → Option Fault
fault_at_end Outside = None
fault_at_end Escaped = Some (WrongEscape, 0)
fault_at_end (Opened bracket) = Some (NoEnd, bracket)
fault_at_end (Unnamed bracket) = Some (NoEnd, bracket)
fault_at_end (InWord bracket name m) = Some (NoEnd, bracket)
fault_at_end (BetweenWords bracket name m) = Some (NoEnd, bracket)
