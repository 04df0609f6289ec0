-- What a name finds in a line that begins with an object of JSON. A function of `src/laws.rt` proves these laws.
use Rattle.std.specs.Prelude.{ℕ, suc, ◌≡◌, ◌≢◌, ◌==◌, not, List, ◌∷◌, ◌++◌, All, IsTrue, Some, None}
use Rattle.std.specs.List.{list_all}
use Rattle.log_forms.specs.Json.{member_of, value_text}
use Rattle.log_forms.specs.JsonGrammar.{DerivesBlank, DerivesCharacters, IsObject, Member}

-- this is the first member of a name, which is compared byte by byte, as it is spelled between its quotes
pub data IsFirst (name : List ℕ) : List Member → Member → Type 0 where
  here : {member : Member} {others : List Member} → member.name ≡ name → IsFirst name (member ∷ others) member
  later : {other member : Member} {others : List Member} → other.name ≢ name → IsFirst name others member → IsFirst name (other ∷ others) member

-- the member has another name
abbrev pub HasOtherName : List ℕ → Member → Type 0
HasOtherName name member = member.name ≢ name

-- the name has no point
abbrev pub HasNoPoint : List ℕ → Type 0
HasNoPoint name = IsTrue (list_all (λ byte. not (byte == 46)) name)

-- the value that a path leads to, through so many objects at most: that of the first member of the whole path; or else that which the rest
-- of the path, behind its first point, leads to in the object that the first member of the name before that point has
pub data LeadsTo : ℕ → List ℕ → List Member → List ℕ → Type 0 where
  whole : {levels : ℕ} {path : List ℕ} {members : List Member} {member : Member} → DerivesCharacters path → IsFirst path members member
      → LeadsTo levels path members member.value
  through : {levels : ℕ} {name path object rest value : List ℕ} {members inner : List Member} {member : Member} → DerivesCharacters name
      → DerivesCharacters (name ++ 46 ∷ path) → HasNoPoint name → All (HasOtherName (name ++ 46 ∷ path)) members → IsFirst name members member
      → member.value ≡ object ++ rest → IsObject rest object inner → LeadsTo levels path inner value
      → LeadsTo (suc levels) (name ++ 46 ∷ path) members value

-- the value of the first member of a name is found in an object, whatever the other values are and whatever follows the object
abbrev pub FirstMembersAreFound : Type 0
FirstMembersAreFound =
    (name front text rest : List ℕ) (members : List Member) (member : Member) → DerivesCharacters name → DerivesBlank front
    → IsObject rest text members → IsFirst name members member → member_of name (front ++ (text ++ rest)) ≡ Some (value_text member.value)

-- a path of names leads to its value through seven objects at most, where white space alone follows the outermost object
abbrev pub PathsLeadToTheirValues : Type 0
PathsLeadToTheirValues =
    (path front text rest value : List ℕ) (members : List Member) → DerivesBlank front → DerivesBlank rest → IsObject rest text members
    → LeadsTo 7 path members value → member_of path (front ++ (text ++ rest)) ≡ Some (value_text value)

-- nothing is found where no member has the name
abbrev pub OtherNamesAreNotFound : Type 0
OtherNamesAreNotFound =
    (name front text rest : List ℕ) (members : List Member) → DerivesCharacters name → HasNoPoint name → DerivesBlank front → DerivesBlank rest
    → IsObject rest text members → All (HasOtherName name) members → member_of name (front ++ (text ++ rest)) ≡ None
