-- Two instants of one day.
use Rattle.std.proofs.Common.{◌≡◌, ℕ, ℤ, true, Bool, ap₂, arith, sym, rules, nat_lt}
use Rattle.std.proofs.lemmas.Bool.Decides.{nat_tests}
use Rattle.std.proofs.lemmas.Int.{ints}
use Rattle.calendar_values.specs.SignedArith.{signed_arith}
use Rattle.std.specs.Prelude.{◌&&◌, ◌-ℤ◌, int_lt, not, pos}
use Rattle.std.specs.Ordering.{int_eq}
use Rattle.calendar_values.specs.WallClock.{wall_day, wall_time}
use Rattle.calendar_values.specs.WallClockLemmas.{wall_clock-parts}

same_gap : (i before : ℤ) → wall_day i ≡ wall_day before → i -ℤ before ≡ pos (wall_time i) -ℤ pos (wall_time before)
same_gap i before same = omega (arith, ints, same, wall_clock-parts i, wall_clock-parts before)

same_order : (a b : ℤ) (c d : ℕ) → a -ℤ b ≡ pos c -ℤ pos d → nat_lt c d ≡ int_lt a b
same_order a b c d gap = grind (arith, signed_arith, nat_tests, gap)

pub of_one_day : (limit i before : ℤ) → int_eq (wall_day i) (wall_day before) ≡ true
    → (not (nat_lt (wall_time i) (wall_time before)) && not (int_lt limit (pos (wall_time i) -ℤ pos (wall_time before))))
    ≡ (not (int_lt i before) && not (int_lt limit (i -ℤ before)))
of_one_day limit i before same =
    let day : wall_day i ≡ wall_day before = search rules in
    let gap = same_gap i before day in
    ap₂ (λ (a : Bool) (z : ℤ). not a && not (int_lt limit z)) (same_order i before (wall_time i) (wall_time before) gap) (sym gap)
