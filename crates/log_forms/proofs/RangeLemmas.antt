-- Numbers within a range, and instants shown at an offset.
use Rattle.std.proofs.Common.{◌≡◌, Bool, true, false, refl, ap, arith}
use Rattle.std.proofs.lemmas.Int.{ints}
use Rattle.std.specs.Prelude.{ℤ, ◌≤ℤ◌, Option, Some, None, if◌then◌else◌}
use Rattle.calendar_values.specs.Range.{is_outside}
use Rattle.calendar_values.specs.WallClock.{first_wall_clock, last_wall_clock}
use Rattle.offset_times.specs.Local.{Local, ShownAt, local_at, shown_at}
use Rattle.log_forms.specs.Years.{shown_if_any}

-- a number within a range is not outside of it
pub is_outside-inside : (first last n : ℤ) → first ≤ℤ n → n ≤ℤ last → is_outside first last n ≡ false
is_outside-inside first last n low high = grind (arith, ints)

-- a number that is not outside of a range is within it
is_outside-false : (first last n : ℤ) → is_outside first last n ≡ false → (first ≤ℤ n) × (n ≤ℤ last)
is_outside-false first last n e = (grind (arith, ints), grind (arith, ints))

-- a value that is not there
none_if : (is_none : Bool) (at : Local) → (is_none ≡ false → ⊥) → None ≡ (if is_none then None else Some at)
none_if true at outside = refl
none_if false at outside = absurd (outside refl)

-- an instant at an offset, if its wall clock there is in range
pub shown_if_any-of : (i o : ℤ) (r : Option Local) → ShownAt r i o → r ≡ shown_if_any (local_at i o)
shown_if_any-of i o (Some at) shown =
    rw (is_outside-inside first_wall_clock last_wall_clock (shown_at i o) shown.0.0 shown.0.1) (ap Some shown.1)
shown_if_any-of i o None hidden =
    none_if (is_outside first_wall_clock last_wall_clock (shown_at i o)) (local_at i o)
    (λ e. hidden (is_outside-false first_wall_clock last_wall_clock (shown_at i o) e))
