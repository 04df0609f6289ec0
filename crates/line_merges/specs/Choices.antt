-- The log that has the next line of a merge.
use Rattle.std.specs.Prelude.{◌≡◌, ℕ, ◌<◌, Bool, true, false, List, ℤ, Option, Some, None, slice_get}
use Rattle.std.specs.Option.{option_map}
use Rattle.line_merges.specs.Instants.{is_before}
use Rattle.line_merges.specs.declared.logs.Front.{Front}
use Rattle.line_merges.specs.declared.logs.Log.{Log}

-- the front of each log, by its number
abbrev pub log_fronts : {M : Type 0} {R : Type 0} → List (Log R M) → ℕ → Option Front
log_fronts logs k = option_map (λ log. log.front) (slice_get logs k)

-- a log has the next line: no other log has an earlier one, and no log before it one of the same instant
pub record IsNext (fronts : ℕ → Option Front) (k : ℕ) : Type 0 where
  pub front : Front
  pub has : fronts k ≡ Some front
  pub line : front.has_line ≡ true
  pub least : (j : ℕ) (other : Front) → fronts j ≡ Some other → other.has_line ≡ true → is_before other.next front.next ≡ false
  pub first : (j : ℕ) (other : Front) → j < k → fronts j ≡ Some other → other.has_line ≡ true → is_before front.next other.next ≡ true

-- no log has a line
abbrev pub HaveEnded : (ℕ → Option Front) → Type 0
HaveEnded fronts = (j : ℕ) (other : Front) → fronts j ≡ Some other → other.has_line ≡ false

-- whether an instant is before the best one so far, or there is none
abbrev pub is_better : Option ℤ → Option (ℕ × Option ℤ) → Bool
is_better instant None = true
is_better instant (Some best) = is_before instant best.1
