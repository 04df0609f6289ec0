-- The zone of a file.
use Rattle.std.proofs.Common.{◌≡◌, inl, inr, sym, subst, ℕ, ◌+◌, ◌<◌, arith, List, [], ◌∷◌, ◌++◌, length, set, Result, Ok, Err}
use Rattle.std.specs.Prelude.{MatchResult}
use Rattle.std.proofs.lemmas.Bool.{cases_lt}
use Rattle.std.proofs.lemmas.List.{get_or-set_same, get_or-set_other, get_or_append_left, get_or_at}
use Rattle.zones.specs.Tables.{row_at, no_row}
use Rattle.zones.specs.Zones.{ZoneParts}
use Rattle.zones.specs.declared.time_type.TimeType.{TimeType}
use Rattle.zones.specs.declared.transition.Transition.{Transition}
use Rattle.zones.specs.declared.zone_error.ZoneError.{ZoneError}
use Rattle.zone_files.specs.Blocks.{BlockParts, byte_at}
use Rattle.zone_files.specs.Endings.{IsEnding, name_limit}
use Rattle.zone_files.specs.FileReading.{FileParts}
use Rattle.zone_files.specs.FileZones.{IsFileFault, IsFileZone, IsFaultAfter, IsZoneAfter}
use Rattle.zone_files.specs.Kinds.{IsKindOf, IsRow, kind_before}
use Rattle.zone_files.specs.declared.endings.Ending.{Ending}

-- a zone after the first kind of local time of a file and what follows its transitions is one of the file
pub zone_of : (file : FileParts) (rows : List Transition) (first : TimeType) (ending : Ending) (r : Result ZoneParts ZoneError) → IsKindOf file.block 0 first
    → IsEnding file.block.names (name_limit file.block.names) file.rule ending
    → MatchResult r (λ z. IsZoneAfter first rows ending z) (λ e. IsFaultAfter first rows ending e)
    → MatchResult r (λ z. IsFileZone file rows z) (λ e. IsFileFault file rows e)
zone_of file rows first ending (Ok z) a b h = record { first = first; ending = ending; has_first = a; has_ending = b; is_zone = h }
zone_of file rows first ending (Err e) a b h = record { first = first; ending = ending; has_first = a; has_ending = b; is_fault = h }

-- one more row is written
pub row_more : (file : FileParts) (room : List Transition) (i : ℕ) (row : Transition) → i < length room
    → ((j : ℕ) → j < i → IsRow file j (row_at room j)) → IsRow file i row → (j : ℕ) → j < i + 1 → IsRow file j (row_at (set room i row) j)
row_more file room i row low before here j lt =
    elim (cases_lt j i) [
      | inl less ↦
          subst (λ (r : Transition). IsRow file j r) (sym (get_or-set_other room i j row no_row (omega (arith, less)))) (before j less)
      | inr le ↦
          let is : i ≡ j = omega (arith, le, lt) in
          subst (λ (k : ℕ). IsRow file k (row_at (set room i row) k)) is
          (subst (λ (r : Transition). IsRow file i r) (sym (get_or-set_same room i row no_row low)) here)
    ]

-- the kind after one transition is the one before the next
pub kind_next : (block : BlockParts) (i : ℕ) (found : TimeType) → IsKindOf block (byte_at block.indexes i) found
    → IsKindOf block (kind_before block.indexes (i + 1)) found
kind_next block i found is = subst (λ (k : ℕ). IsKindOf block k found) (sym next) is where
  next : kind_before block.indexes (i + 1) ≡ byte_at block.indexes i
  next = grind arith

-- one more row is added
pub row_added : (file : FileParts) (rows : List Transition) (i : ℕ) (row : Transition) → length rows ≡ i
    → ((j : ℕ) → j < i → IsRow file j (row_at rows j)) → IsRow file i row → (j : ℕ) → j < i + 1 → IsRow file j (row_at (rows ++ row ∷ []) j)
row_added file rows i row count before here j lt =
    elim (cases_lt j i) [
      | inl less ↦
          subst (λ (r : Transition). IsRow file j r) (sym (get_or_append_left rows (row ∷ []) no_row j (omega (arith, less, count)))) (before j less)
      | inr le ↦
          let is : i ≡ j = omega (arith, le, lt) in
          subst (λ (k : ℕ). IsRow file k (row_at (rows ++ row ∷ []) k)) is
          (subst (λ (r : Transition). IsRow file i r) (sym (get_or_at rows row [] no_row i count)) here)
    ]
