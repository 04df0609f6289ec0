-- The value at a path, by one member less.
use Rattle.std.proofs.Common.{◌≡◌, ◌≢◌, ℕ, zero, suc, ◌+◌, ◌-◌, Bool, true, List, drop, take, refl, sym, ap, ◌∙◌, arith, Option, Some, None}
use Rattle.rfc3339.specs.Reading.{◌>>=◌}
use Rattle.log_forms.specs.Json.{before_point, path_of, value_of}
use Rattle.log_forms.specs.Marks.{first_of}
use Rattle.log_forms.specs.declared.json.JsonState.TheVariants.{Outside}

path_behind : (levels fewer : ℕ) (is_inner : Bool) (path text : List ℕ) → levels ≡ suc fewer → path_of levels is_inner path text
    ≡ first_of (value_of is_inner path Outside 0 text) (before_point path >>=
    λ count. value_of is_inner (take count path) Outside 0 text >>= λ object. path_of fewer true (drop (count + 1) path) object)
unfolding path_of
path_behind levels fewer is_inner path text e = rw e refl

pub path_at : (levels : ℕ) (is_inner : Bool) (path text : List ℕ) → levels ≢ 0 → path_of levels is_inner path text
    ≡ first_of (value_of is_inner path Outside 0 text) (before_point path >>=
    λ count. value_of is_inner (take count path) Outside 0 text >>= λ object. path_of (levels - 1) true (drop (count + 1) path) object)
path_at levels is_inner path text some = path_behind levels (levels - 1) is_inner path text (omega (arith, some))

-- a member of the whole name
pub path_found : (levels : ℕ) (is_inner : Bool) (path text found : List ℕ) → Some found ≡ value_of is_inner path Outside 0 text
    → Some found ≡ path_of levels is_inner path text
unfolding path_of
path_found zero is_inner path text found e = e
path_found (suc levels) is_inner path text found e =
    ap (λ (r : Option (List ℕ)). first_of r (before_point path >>=
    λ count. value_of is_inner (take count path) Outside 0 text >>= λ object. path_of levels true (drop (count + 1) path) object)) e

-- a member of the object of a member
pub path_on : (levels : ℕ) (is_inner : Bool) (path text : List ℕ) (count : ℕ) (object : List ℕ) → levels ≢ 0
    → None ≡ value_of is_inner path Outside 0 text → Some count ≡ before_point path
    → Some object ≡ value_of is_inner (take count path) Outside 0 text
    → path_of (levels - 1) true (drop (count + 1) path) object ≡ path_of levels is_inner path text
path_on levels is_inner path text count object some none point member =
    let inner : ℕ → List ℕ → Option (List ℕ) = λ (n : ℕ) (found : List ℕ). path_of (levels - 1) true (drop (n + 1) path) found in
    let behind : ℕ → Option (List ℕ) = λ (n : ℕ). value_of is_inner (take n path) Outside 0 text >>= λ found. inner n found in
    ap (λ (r : Option (List ℕ)). r >>= λ found. inner count found) member
    ∙ (ap (λ (r : Option ℕ). r >>= behind) point
    ∙ (ap (λ (r : Option (List ℕ)). first_of r (before_point path >>= behind)) none ∙ sym (path_at levels is_inner path text some)))

pub path_zero : (is_inner : Bool) (path text : List ℕ) → path_of 0 is_inner path text ≡ value_of is_inner path Outside 0 text
unfolding path_of
path_zero is_inner path text = refl

pub ruleset path_next = (path_at, path_zero)
