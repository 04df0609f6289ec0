-- Where a path of names leads.
use Rattle.std.proofs.Common.{◌≡◌, ◌∙◌, ap, sym, refl, ℕ, zero, suc, ◌+◌, ◌-◌, ◌==◌, not, Bool, true, false, List, [], ◌∷◌, ◌++◌, length, take, drop, arith}
use Rattle.std.proofs.Common.{Some, None}
use Rattle.std.specs.Prelude.{All, option_map}
use Rattle.std.specs.List.{list_all}
use Rattle.std.proofs.lemmas.Bool.{and_parts}
use Rattle.std.proofs.lemmas.Bool.Decides.{nat_tests}
use Rattle.rfc3339.specs.Reading.{mark_at}
use Rattle.log_forms.specs.Json.{before_point, path_of, value_of, value_text}
use Rattle.log_forms.specs.JsonGrammar.{DerivesCharacters, IsObject, no_members, some_members, Member}
use Rattle.log_forms.specs.JsonLaws.{HasOtherName, HasNoPoint, LeadsTo, whole, through}
use Rattle.log_forms.specs.declared.json.JsonState.TheVariants.{Outside}
use Rattle.log_forms.proofs.JsonLemmas.{Finds, finds-inner}
use Rattle.log_forms.proofs.PathLemmas.{path_found, path_on}

-- the first point of a path
point-step : (byte : ℕ) (path : List ℕ) → (byte == 46) ≡ false → before_point (byte ∷ path) ≡ option_map (λ count. count + 1) (before_point path)
unfolding before_point
point-step byte path other = rw other refl

point-there : (name path : List ℕ) → HasNoPoint name → before_point (name ++ 46 ∷ path) ≡ Some (length name)
unfolding before_point
point-there [] path none = refl
point-there (byte ∷ name) path none =
    let both = and_parts (not (byte == 46)) (list_all (λ b. not (b == 46)) name) none in
    let first = both.0 in
    let other : (byte == 46) ≡ false = grind (arith, nat_tests) in
    let more : length name + 1 ≡ suc (length name) = omega arith in
    point-step byte (name ++ 46 ∷ path) other ∙ rw (point-there name path both.1, more) refl

no-point : (name : List ℕ) → HasNoPoint name → before_point name ≡ None
unfolding before_point
no-point [] none = refl
no-point (byte ∷ name) none =
    let both = and_parts (not (byte == 46)) (list_all (λ b. not (b == 46)) name) none in
    let first = both.0 in
    let other : (byte == 46) ≡ false = grind (arith, nat_tests) in
    point-step byte name other ∙ rw (no-point name both.1) refl

name-before : (name path : List ℕ) → take (length name) (name ++ 46 ∷ path) ≡ name
name-before [] path = refl
name-before (byte ∷ name) path = ap (λ (t : List ℕ). byte ∷ t) (name-before name path)

path-behind : (name path : List ℕ) → drop (length name + 1) (name ++ 46 ∷ path) ≡ path
path-behind [] path = refl
path-behind (byte ∷ name) path =
    let more : length (byte ∷ name) + 1 ≡ suc (length name + 1) = omega arith in rw more (path-behind name path)

-- the text of an object has no quote in front
object-value : {text rest : List ℕ} {members : List Member} → IsObject rest text members → value_text (text ++ rest) ≡ text ++ rest
unfolding mark_at
object-value (no_members b) = refl
object-value (some_members d) = refl

-- a path leads to its value
pub path-there : {levels : ℕ} {path value : List ℕ} {members : List Member} → LeadsTo levels path members value → (i : Bool) (text : List ℕ)
    → Finds i text members → Some (value_text value) ≡ path_of levels i path text
path-there (whole {levels} {path} {member} n f) i text finds =
    path_found levels i path text (value_text member.value) (sym (finds.first path member n f))
path-there (through {levels} {name} {path} {object} {rest} {value} {member} n p no_point others f is o l) i text finds =
    let line = name ++ 46 ∷ path in
    let found : Some (object ++ rest) ≡ value_of i (take (length name) line) Outside 0 text =
    rw (name-before name path, finds.first name member n f, is, object-value o) refl in
    let inner : Some (value_text value) ≡ path_of levels true path (object ++ rest) = path-there l true (object ++ rest) (finds-inner o) in
    let fewer : suc levels - 1 ≡ levels = omega arith in
    let all = path_on (suc levels) i line text (length name) (object ++ rest) (omega arith) (sym (finds.none line p others))
    (sym (point-there name path no_point)) found in
    inner ∙ (rw (fewer, path-behind name path) at all)

-- a name without a point that no member has
pub name-none : {i : Bool} {text : List ℕ} {members : List Member} → Finds i text members → (levels : ℕ) (name : List ℕ) → DerivesCharacters name
    → HasNoPoint name → All (HasOtherName name) members → path_of levels i name text ≡ None
unfolding path_of
name-none finds zero name n no_point others = finds.none name n others
name-none finds (suc levels) name n no_point others = rw (finds.none name n others, no-point name no_point) refl
