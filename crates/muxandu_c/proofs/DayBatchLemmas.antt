-- The single call accepts each day of the range, and so a group of four.
use Rattle.std.proofs.Common.{◌≡◌, ℕ, ◌+◌, ◌≤◌, ◌++◌, List, length, take, drop, get_or, Ok, refl, sym, arith, ℤ, pos, w32, to_z, of_z}
use Rattle.calendar_values.specs.SignedArith.{signed_arith}
use Rattle.calendar_values.specs.Range.{IsDay, first_day, last_day}
use Rattle.muxandu_c.specs.Batches.{values_of, status_of_items}
use Rattle.muxandu_c.specs.SecondBatches.{with_four}
use Rattle.muxandu_c.specs.Values.{date_from_day, date_parts}
use Rattle.muxandu_c.specs.declared.values.MuxanduDate.{MuxanduDate}
use Rattle.muxandu_c.proofs.SecondBatchLemmas.{inside, values_of-four, status_of_items-four}

date_parts-call : (n : ℤ) → IsDay n → Ok (date_parts n) ≡ date_from_day n
date_parts-call n h = let within = inside first_day last_day n h.0 h.1 in sym (rw within refl)

-- a day comes back from its bits as it was
pub day-back : (n : ℤ) → IsDay n → to_z w32 (of_z w32 n) ≡ n
day-back n h = omega (arith, signed_arith)

-- the day at a place
abbrev pub day_at : List ℤ → ℕ → ℤ
day_at days k = get_or days k (pos 0)

pub values_of-days : (days : List ℤ) (k : ℕ) (out : List MuxanduDate) → k + 4 ≤ length days → k + 4 ≤ length out →
    IsDay (day_at days k) → IsDay (day_at days (k + 1)) → IsDay (day_at days (k + 2)) → IsDay (day_at days (k + 3)) →
    take (k + 4) (with_four out k (date_parts (day_at days k)) (date_parts (day_at days (k + 1))) (date_parts (day_at days (k + 2)))
    (date_parts (day_at days (k + 3)))) ++ values_of date_from_day (drop (k + 4) days) ≡ take k out ++ values_of date_from_day (drop k days)
values_of-days days k out items room a b c d =
    values_of-four date_from_day days k (pos 0) out _ _ _ _ items room
    (date_parts-call (day_at days k) a) (date_parts-call (day_at days (k + 1)) b)
    (date_parts-call (day_at days (k + 2)) c) (date_parts-call (day_at days (k + 3)) d)

pub status_of_items-days : (days : List ℤ) (k : ℕ) → k + 4 ≤ length days →
    IsDay (day_at days k) → IsDay (day_at days (k + 1)) → IsDay (day_at days (k + 2)) → IsDay (day_at days (k + 3)) →
    status_of_items date_from_day (drop (k + 4) days) ≡ status_of_items date_from_day (drop k days)
status_of_items-days days k items a b c d =
    status_of_items-four date_from_day days k (pos 0) _ _ _ _ items
    (date_parts-call (day_at days k) a) (date_parts-call (day_at days (k + 1)) b)
    (date_parts-call (day_at days (k + 2)) c) (date_parts-call (day_at days (k + 3)) d)
