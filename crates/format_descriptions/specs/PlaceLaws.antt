-- The place of a part, in the choice of the description that a reading takes.
use Rattle.std.specs.Prelude.{◌≡◌, ℕ, Bool, true, false, List, ◌∷◌, ◌++◌, length, Some, Ok}
use Rattle.format_descriptions.specs.Choices.{Takes}
use Rattle.format_descriptions.specs.PartPlaces.{has_part, part_place}
use Rattle.format_descriptions.specs.Read.{component_at, with_part, front_of, no_parts}
use Rattle.format_descriptions.specs.Spelled.{IsText}
use Rattle.format_descriptions.specs.declared.component.Component.{Component}
use Rattle.format_descriptions.specs.declared.item.Item.{Item}
use Rattle.format_descriptions.specs.declared.item.Item.TheVariants.{Part}
use Rattle.format_descriptions.specs.declared.part_places.PartPlace.{PartPlace}
use Rattle.format_descriptions.specs.declared.parts.Parts.{Parts}
use Rattle.format_descriptions.specs.declared.value_refusal.Field.{Field}

-- a component of the choice that is taken gives the part at this place: the items before it read the text up to there without
-- the part, and the component reads a number whose text is as long as the place says
pub record IsGivenAt (items : List Item) (text : List ℕ) (part : Field) (at : PartPlace) : Type 0 where
  pub before : List Item
  pub component : Component
  pub after : List Item
  pub front : List ℕ
  pub piece : List ℕ
  pub behind : List ℕ
  pub rest : List ℕ
  pub number : Bool × ℕ
  pub earlier : Parts
  pub all : Parts
  pub taken : Takes false items (before ++ Part component ∷ after) text no_parts rest all
  pub spelled : text ≡ front ++ piece ++ behind
  pub place : at.place ≡ length front
  pub size : at.length ≡ length piece
  pub read_before : front_of before text no_parts ≡ Ok (earlier, piece ++ behind)
  pub read : component_at component (piece ++ behind) ≡ Some (number, behind)
  pub is : IsText component number piece
  pub absent : has_part part earlier ≡ false
  pub given : has_part part (with_part component number earlier) ≡ true

-- the place of a part is that of the component that gives it, in the choice that is taken; and each part that is read has one
pub record PlacesAreThoseOfTheChoice : Type 0 where
  pub place : (items : List Item) (text : List ℕ) (part : Field) (at : PartPlace) → part_place items text part ≡ Some at
      → IsGivenAt items text part at
  pub found : (items : List Item) (text rest : List ℕ) (part : Field) (p : Parts) → front_of items text no_parts ≡ Ok (p, rest)
      → has_part part p ≡ true → (at : PartPlace) × (part_place items text part ≡ Some at)
