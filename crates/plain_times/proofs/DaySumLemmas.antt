-- Where a sum of a wall clock and a duration falls: so many seconds and nanoseconds after the midnight of its date.
use Rattle.std.proofs.Common.{◌≡◌, ℕ, suc, ◌+◌, ◌*◌, ◌^◌, ◌<◌, ◌≤◌, ◌⊎◌, inl, inr, sym, arith, ℤ, pos, negsuc, neg_ℤ, ◌-◌, ◌+ℤ◌, ◌*ℤ◌, ◌<ℤ◌, ◌≤ℤ◌}
use Rattle.std.proofs.Common.{Option, Some, None, SomeIff, subst, ◌-ℤ◌, FitsSigned, w64}
use Rattle.std.proofs.lemmas.Int.{ints, int_wrap_fits, wrapping_add_is, wrapping_sub_is, by_lt_z}
use Rattle.std.specs.Int.{int_wrapping_add, int_wrapping_sub, int_wrap}
use Rattle.calendar_values.specs.Clock.{nanos_per_second}
use Rattle.calendar_values.specs.Durations.{duration_of_parts}
use Rattle.calendar_values.specs.SignedArith.{signed_arith}
use Rattle.calendar_values.specs.WallClock.{wall_clock, wall_day, IsWallClock}
use Rattle.calendar_values.specs.WallClockLemmas.{wall_clock-parts, IsWallClock-wall_clock, IsDay-wall_day}

-- a sum that is accepted in the range, in another form
pub SomeIff-same : (r : Option ℤ) (v w : ℤ) → SomeIff r (IsWallClock v) v → v ≡ w → SomeIff r (IsWallClock w) w
SomeIff-same r v w h e = subst (λ (u : ℤ). SomeIff r (IsWallClock u) u) e h

-- so many seconds and nanoseconds after the midnight of a wall clock
abbrev pub after_midnight : ℤ → ℤ → ℤ → ℤ
after_midnight w s n = wall_clock (wall_day w) 0 +ℤ duration_of_parts s n

-- on the same date
pub Is-same_date : (w v s n : ℤ) (c second nanosecond : ℕ) → IsWallClock w → v ≡ wall_clock (wall_day w) c → c ≡ second * nanos_per_second + nanosecond
    → second < 86_400 → nanosecond < nanos_per_second → s ≡ pos second → n ≡ pos nanosecond → IsWallClock (after_midnight w s n) × (v ≡ after_midnight w s n)
Is-same_date w v s n c second nanosecond range is clock low small e f =
    let same : v ≡ after_midnight w s n = omega (arith, signed_arith) in
    (subst (λ (u : ℤ). IsWallClock u) (omega (arith, signed_arith)) (IsWallClock-wall_clock (wall_day w) c (omega arith) (IsDay-wall_day w range)), same)

-- on the date that is moved by the days of the seconds
after_midnight-moved : (w s n days carried : ℤ) (c second nanosecond : ℕ) → c ≡ second * nanos_per_second + nanosecond
    → days *ℤ pos 86_400 +ℤ pos second ≡ carried → duration_of_parts carried (pos nanosecond) ≡ duration_of_parts s n
    → wall_clock (wall_day w +ℤ days) c ≡ after_midnight w s n
after_midnight-moved w s n days carried c second nanosecond clock whole same = omega (arith, signed_arith)

pub SomeIff-moved : (r : Option ℤ) (w s n days carried : ℤ) (c second nanosecond : ℕ)
    → SomeIff r (IsWallClock (wall_clock (wall_day w +ℤ days) c)) (wall_clock (wall_day w +ℤ days) c)
    → c ≡ second * nanos_per_second + nanosecond → days *ℤ pos 86_400 +ℤ pos second ≡ carried
    → duration_of_parts carried (pos nanosecond) ≡ duration_of_parts s n → SomeIff r (IsWallClock (after_midnight w s n)) (after_midnight w s n)
SomeIff-moved r w s n days carried c second nanosecond h clock whole same =
    SomeIff-same r (wall_clock (wall_day w +ℤ days) c) (after_midnight w s n) h (after_midnight-moved w s n days carried c second nanosecond clock whole same)

-- a sum of a second of the day and a number of 64 bits, of which the bits are left: where it passes these, both are far from each date
abbrev pub IsSumOrFar : ℤ → ℤ → Type 0
IsSumOrFar s t = (s ≡ t) ⊎ ((pos (2 ^ 62) <ℤ t) × (s <ℤ neg_ℤ (pos (2 ^ 62))))

int_wrap-past : (n : ℕ) → 2 ^ 63 ≤ n → n < 2 ^ 64 → int_wrap w64 (pos n) ≡ negsuc (2 ^ 64 - suc n)
unfolding int_wrap
int_wrap-past n low high = grind (arith, ints)

-- so it is for a sum
IsSumOrFar-int_wrap : (t : ℤ) → neg_ℤ (pos (2 ^ 63)) ≤ℤ t → t <ℤ pos (2 ^ 63 + 86_400) → IsSumOrFar (int_wrap w64 t) t
IsSumOrFar-int_wrap (negsuc n) low high = inl (int_wrap_fits w64 (negsuc n) (omega (arith, signed_arith)))
IsSumOrFar-int_wrap (pos n) low high =
    by_lt_z (pos n) (pos (2 ^ 63)) (λ lt. inl (int_wrap_fits w64 (pos n) (omega (arith, signed_arith))))
    (λ ge. inr (omega (arith, signed_arith), omega (arith, signed_arith, int_wrap-past n (omega (arith, signed_arith)) (omega (arith, signed_arith)))))

pub IsSumOrFar-add : (a : ℕ) (b : ℤ) → a < 86_400 → FitsSigned w64 b → IsSumOrFar (int_wrapping_add w64 (pos a) b) (pos a +ℤ b)
IsSumOrFar-add a b small fits =
    subst (λ (s : ℤ). IsSumOrFar s (pos a +ℤ b)) (sym (wrapping_add_is w64 (pos a) b (omega (arith, signed_arith)) fits))
    (IsSumOrFar-int_wrap (pos a +ℤ b) (omega (arith, signed_arith)) (omega (arith, signed_arith)))

pub IsSumOrFar-sub : (a : ℕ) (b : ℤ) → a < 86_400 → FitsSigned w64 b → IsSumOrFar (int_wrapping_sub w64 (pos a) b) (pos a -ℤ b)
IsSumOrFar-sub a b small fits =
    subst (λ (s : ℤ). IsSumOrFar s (pos a -ℤ b)) (sym (wrapping_sub_is w64 (pos a) b (omega (arith, signed_arith)) fits))
    (IsSumOrFar-int_wrap (pos a -ℤ b) (omega (arith, signed_arith)) (omega (arith, signed_arith)))

-- a sum whose seconds are those or far
SomeIff-both : (r : Option ℤ) (v w : ℤ) → (IsWallClock v → ⊥) → (IsWallClock w → ⊥) → SomeIff r (IsWallClock v) v → SomeIff r (IsWallClock w) w
SomeIff-both None v w far not h = not
SomeIff-both (Some x) v w far not h = absurd (far h.0)

pub SomeIff-far : (r : Option ℤ) (w sum n s t : ℤ) → IsWallClock w → neg_ℤ (pos nanos_per_second) <ℤ n → n <ℤ pos (2 * nanos_per_second) → IsSumOrFar s t
    → SomeIff r (IsWallClock (after_midnight w s n)) (after_midnight w s n) → after_midnight w t n ≡ sum → SomeIff r (IsWallClock sum) sum
SomeIff-far r w sum n s t range low high (inl same) h e =
    SomeIff-same r (after_midnight w s n) sum h (subst (λ (u : ℤ). after_midnight w u n ≡ sum) (sym same) e)
SomeIff-far r w sum n s t range low high (inr far) h e =
    SomeIff-both r (after_midnight w s n) sum (λ in_range. omega (arith, signed_arith, wall_clock-parts w, IsDay-wall_day w range))
    (λ in_range. omega (arith, signed_arith, wall_clock-parts w, IsDay-wall_day w range)) h
