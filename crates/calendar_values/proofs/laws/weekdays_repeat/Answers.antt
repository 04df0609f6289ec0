use Rattle.std.proofs.Common.{◌≡◌, ℕ, suc, ◌*◌, ℤ, pos, negsuc, ◌+ℤ◌, ◌*ℤ◌, sym, arith}
use Rattle.calendar_values.specs.SignedArith.{signed_arith}
use Rattle.calendar_values.specs.Weeks.{weekday_of}
use Rattle.calendar_values.specs.WeekLemmas.{weekday_of-add, weekday_of-bound}
use Rattle.calendar_values.proofs.laws.weekdays_repeat.Goals as goal

later : (a b : ℤ) (weeks : ℕ) → b ≡ a +ℤ pos (weeks * 7) → weekday_of b ≡ weekday_of a
later a b weeks e = omega (arith, weekday_of-add a b (weeks * 7) e, weekday_of-bound a)

repeats : (n weeks : ℤ) → weekday_of (n +ℤ weeks *ℤ pos 7) ≡ weekday_of n
repeats n (pos w) = later n _ w (omega (arith, signed_arith))
repeats n (negsuc w) = sym (later (n +ℤ negsuc w *ℤ pos 7) n (suc w) (omega (arith, signed_arith)))

pub returns : goal.returns
returns c = repeats
