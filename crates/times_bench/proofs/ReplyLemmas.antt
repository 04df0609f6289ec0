-- What a conversion to an offset replies, and short numbers.
use Rattle.std.proofs.Common.{◌≡◌, ◌≤◌, ◌<◌, ◌+◌, ◌/◌, ◌%◌, ◌∷◌, [], ℕ, ℤ, Some, None, refl, ap, arith, decimal}
use Rattle.std.proofs.lemmas.Fmt.{decimal_digit, decimal_step}
use Rattle.std.specs.Prelude.{SomeIff}
use Rattle.calendar_values.specs.WallClock.{IsWallClock}
use Rattle.offset_times.specs.Local.{Local, wall_at}
use Rattle.plain_times.specs.SumLemmas.{wall_clock_if_any-in, wall_clock_if_any-SomeIff}
use Rattle.plain_times.specs.Sums.{wall_clock_if_any}
use Rattle.stamp_times.specs.Counter.{local_reply}
use Rattle.stamp_times.specs.declared.runs.calls.Reply.TheVariants.{Refused}

pub local_reply-accepted : (at : Local) (w o : ℤ) → SomeIff (Some at) (IsWallClock w) (wall_at w o)
    → local_reply at.offset (Some at.wall) ≡ local_reply o (wall_clock_if_any w)
local_reply-accepted at w o h = rw (h.1, wall_clock_if_any-in w h.0) refl

pub local_reply-refused : (w o : ℤ) → SomeIff None (IsWallClock w) (wall_at w o) → Refused ≡ local_reply o (wall_clock_if_any w)
local_reply-refused w o h = ap (local_reply o) (wall_clock_if_any-SomeIff None w h)

-- a number of two digits
pub decimal-two_digits : (n : ℕ) → 10 ≤ n → n < 100 → decimal n ≡ (48 + n / 10) ∷ (48 + n % 10) ∷ []
decimal-two_digits n high low = rw (decimal_step n high (omega arith), decimal_digit (n / 10) (omega arith)) refl

pub ruleset short_numbers = (decimal_digit, decimal-two_digits)
