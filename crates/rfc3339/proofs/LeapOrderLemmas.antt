-- What is read keeps the order of what was written, with seconds of 60.
use Rattle.std.proofs.Common.{◌≡◌, ℕ, ◌+◌, ◌*◌, ◌<◌, ◌≤◌, Bool, true, false, nat_eq, nat_lt, List, refl, sym, ◌∙◌, inl, inr, arith}
use Rattle.std.proofs.Common.{ℤ, pos, ◌+ℤ◌, ◌-ℤ◌, ◌*ℤ◌}
use Rattle.std.specs.Prelude.{◌⊎◌, ◌<ℤ◌, if◌then◌else◌, Ok}
use Rattle.std.proofs.lemmas.Bool.Decides.{nat_tests}
use Rattle.calendar_values.specs.Calendar.{day_of_calendar_date}
use Rattle.calendar_values.specs.SignedArith.{signed_arith}
use Rattle.offset_times.specs.Local.{Local, instant_of}
use Rattle.rfc3339.specs.declared.parts.Parts.{Parts}
use Rattle.rfc3339.specs.Form.{IsDateTime}
use Rattle.rfc3339.specs.FractionLemmas.{IsFraction-below}
use Rattle.rfc3339.specs.LeapLaws.{minute_begin, IsWrittenBefore, IsWrittenWith}
use Rattle.rfc3339.specs.LeapSeconds.{leap_reading_of, stand_in}
use Rattle.rfc3339.specs.Meaning.{AreInRange, offset_of, value_of}
use Rattle.rfc3339.proofs.LeapLemmas.{leap_meaning-ok, leap_reading_of-spelled}

-- ---- seconds and nanoseconds, as they are written and as they are read

-- a second of 60 is read as the last nanosecond of the minute, any other as it is
abbrev IsReadAs : ℕ → ℕ → ℕ → ℕ → Type 0
IsReadAs second nanosecond s n =
    ((second ≡ 60) × (s ≡ 59) × (n ≡ 999_999_999))
    ⊎ ((second ≤ 59) × (s ≡ second) × (n ≡ nanosecond) × (nanosecond ≤ 999_999_999))

is_read_as : (second nanosecond : ℕ) (b : Bool) → nat_eq second 60 ≡ b → (if b then 59 else second) ≤ 59 → nanosecond ≤ 999_999_999
    → IsReadAs second nanosecond (if b then 59 else second) (if b then 999_999_999 else nanosecond)
is_read_as second nanosecond true e s n = inl (grind (arith, nat_tests), refl, refl)
is_read_as second nanosecond false e s n = inr (s, refl, refl, n)

-- the instant of a minute, a second and a nanosecond
abbrev instant_at : ℤ → ℕ → ℕ → ℤ
instant_at begin s n = (begin *ℤ pos 1_000_000_000) +ℤ pos (s * 1_000_000_000 + n)

-- an earlier minute
earlier_minute : (k l u v : ℤ) (s n t m : ℕ) → u ≡ k *ℤ pos 60 → v ≡ l *ℤ pos 60 → u <ℤ v → s ≤ 59 → n ≤ 999_999_999
    → instant_at u s n <ℤ instant_at v t m
earlier_minute k l u v s n t m e f h a b = omega (arith, signed_arith)

-- an earlier part of one minute
earlier_part : (u v : ℤ) (s n t m : ℕ) → u ≡ v → s * 1_000_000_000 + n < t * 1_000_000_000 + m → instant_at u s n <ℤ instant_at v t m
earlier_part u v s n t m e h = omega (arith, signed_arith)

same_part : (u v : ℤ) (s n t m : ℕ) → u ≡ v → s ≡ t → n ≡ m → instant_at u s n ≡ instant_at v t m
same_part u v s n t m e f g = rw (e, f, g) refl

-- before a leap second, or with it
until_leap_second : (u v : ℤ) (s n t m d : ℕ) → u ≡ v → s ≤ 59 → n ≤ 999_999_999 → d ≡ 60 → t ≡ 59 → m ≡ 999_999_999
    → (instant_at u s n <ℤ instant_at v t m) ⊎ ((instant_at u s n ≡ instant_at v t m) × (d ≡ 60))
until_leap_second u v s n t m d e a b f g h = choose (nat_lt (s * 1_000_000_000 + n) 59_999_999_999) refl where
  choose : (b : Bool) → nat_lt (s * 1_000_000_000 + n) 59_999_999_999 ≡ b
      → (instant_at u s n <ℤ instant_at v t m) ⊎ ((instant_at u s n ≡ instant_at v t m) × (d ≡ 60))
  choose true low = inl (earlier_part u v s n t m e (grind (arith, nat_tests)))
  choose false high =
      let most : 59_999_999_999 ≤ s * 1_000_000_000 + n = grind (arith, nat_tests) in
      inr (same_part u v s n t m e (omega arith) (omega arith), f)

-- the order of what is written
abbrev IsBefore : ℤ → ℤ → ℕ → ℕ → ℕ → ℕ → Type 0
IsBefore u v c x d y = (u <ℤ v) ⊎ ((u ≡ v) × (c < d)) ⊎ ((u ≡ v) × (c ≡ d) × (x < y))

before : (k l u v : ℤ) (c x s n d y t m : ℕ) → u ≡ k *ℤ pos 60 → v ≡ l *ℤ pos 60 → IsReadAs c x s n → IsReadAs d y t m → IsBefore u v c x d y
    → (instant_at u s n <ℤ instant_at v t m) ⊎ ((instant_at u s n ≡ instant_at v t m) × (d ≡ 60))
before k l u v c x s n d y t m e f (inl p) q (inl h) = inl (earlier_minute k l u v s n t m e f h (omega arith) (omega arith))
before k l u v c x s n d y t m e f (inr p) q (inl h) = inl (earlier_minute k l u v s n t m e f h (omega arith) (omega arith))
before k l u v c x s n d y t m e f (inl p) (inl q) (inr (inl h)) = absurd (omega arith)
before k l u v c x s n d y t m e f (inl p) (inr q) (inr (inl h)) = absurd (omega arith)
before k l u v c x s n d y t m e f (inr p) (inl q) (inr (inl h)) =
    until_leap_second u v s n t m d h.0 (omega arith) (omega arith) q.0 q.1 q.2
before k l u v c x s n d y t m e f (inr p) (inr q) (inr (inl h)) = inl (earlier_part u v s n t m h.0 (omega arith))
before k l u v c x s n d y t m e f (inl p) (inl q) (inr (inr h)) =
    inr (same_part u v s n t m h.0 (omega arith) (omega arith), q.0)
before k l u v c x s n d y t m e f (inl p) (inr q) (inr (inr h)) = absurd (omega arith)
before k l u v c x s n d y t m e f (inr p) (inl q) (inr (inr h)) = absurd (omega arith)
before k l u v c x s n d y t m e f (inr p) (inr q) (inr (inr h)) = inl (earlier_part u v s n t m h.0 (omega arith))

with_same : (u v : ℤ) (c x s n d y t m : ℕ) → IsReadAs c x s n → IsReadAs d y t m → u ≡ v → c ≡ d → x ≡ y → instant_at u s n ≡ instant_at v t m
with_same u v c x s n d y t m (inl p) (inl q) e f g = same_part u v s n t m e (omega arith) (omega arith)
with_same u v c x s n d y t m (inl p) (inr q) e f g = absurd (omega arith)
with_same u v c x s n d y t m (inr p) (inl q) e f g = absurd (omega arith)
with_same u v c x s n d y t m (inr p) (inr q) e f g = same_part u v s n t m e (omega arith) (omega arith)

-- ---- the numbers of a text

-- the offset has whole minutes, and so each minute begins at one
minutes_of : (n : ℤ) (hour minute : ℕ) (is_west : Bool) (a b : ℕ)
    → (k : ℤ) × ((n *ℤ pos 86_400) +ℤ pos (hour * 3_600 + minute * 60) -ℤ offset_of is_west a b ≡ k *ℤ pos 60)
minutes_of n hour minute true a b =
    ((n *ℤ pos 1_440) +ℤ pos (hour * 60 + minute) +ℤ pos (a * 60 + b), omega (arith, signed_arith))
minutes_of n hour minute false a b =
    ((n *ℤ pos 1_440) +ℤ pos (hour * 60 + minute) -ℤ pos (a * 60 + b), omega (arith, signed_arith))

whole_minutes : (p : Parts) → (k : ℤ) × (minute_begin p ≡ k *ℤ pos 60)
whole_minutes p =
    minutes_of (day_of_calendar_date (pos p.year) p.month p.day) p.hour p.minute p.is_west p.offset_hour p.offset_minute

instant_of-stand_in : (p : Parts) (at : Local) → at ≡ value_of (stand_in p)
    → instant_of at ≡ instant_at (minute_begin p) (stand_in p).second (stand_in p).nanosecond
unfolding instant_of
instant_of-stand_in p at e =
    let n = day_of_calendar_date (pos p.year) p.month p.day in
    let o = offset_of p.is_west p.offset_hour p.offset_minute in
    rw e (sum n o p.hour p.minute (stand_in p).second (stand_in p).nanosecond) where
      sum : (n o : ℤ) (h m s x : ℕ)
          → ((n *ℤ pos 86_400_000_000_000) +ℤ pos (h * 3_600_000_000_000 + m * 60_000_000_000 + s * 1_000_000_000 + x))
          -ℤ (o *ℤ pos 1_000_000_000)
          ≡ instant_at ((n *ℤ pos 86_400) +ℤ pos (h * 3_600 + m * 60) -ℤ o) s x
      sum n o h m s x = omega (arith, signed_arith)

is_read : (text : List ℕ) (p : Parts) → IsDateTime text p → AreInRange (stand_in p)
    → IsReadAs p.second p.nanosecond (stand_in p).second (stand_in p).nanosecond
is_read text p h r =
    is_read_as p.second p.nanosecond (nat_eq p.second 60) refl r.second (IsFraction-below h.fraction p.nanosecond h.is_fraction)

pub leap_reading_of-order : (first second : List ℕ) (p q : Parts) (a b : Local) (is_leap is_later_leap : Bool)
    → IsDateTime first p → IsDateTime second q
    → leap_reading_of first ≡ Ok (a, is_leap) → leap_reading_of second ≡ Ok (b, is_later_leap)
    → (IsWrittenBefore p q → (instant_of a <ℤ instant_of b) ⊎ ((instant_of a ≡ instant_of b) × (is_later_leap ≡ true)))
    × (IsWrittenWith p q → instant_of a ≡ instant_of b)
leap_reading_of-order first second p q a b is_leap is_later_leap h k r t =
    let x = leap_meaning-ok p (a, is_leap) (sym (leap_reading_of-spelled first p h) ∙ r) in
    let y = leap_meaning-ok q (b, is_later_leap) (sym (leap_reading_of-spelled second q k) ∙ t) in
    let i = instant_of-stand_in p a x.1 in
    let j = instant_of-stand_in q b y.1 in
    let s = is_read first p h x.0.in_range in
    let u = is_read second q k y.0.in_range in
    let m = whole_minutes p in
    let n = whole_minutes q in (
      λ o. rw (i, j) (marked q.second is_later_leap _ _ y.2 (before m.0 n.0 (minute_begin p) (minute_begin q) _ _ _ _ _ _ _ _ m.1 n.1 s u o)),
      λ o. i ∙ with_same (minute_begin p) (minute_begin q) _ _ _ _ _ _ _ _ s u o.0 o.1 o.2 ∙ sym j,
    ) where
      marked : (d : ℕ) (later : Bool) (i j : ℤ) → later ≡ nat_eq d 60 → (i <ℤ j) ⊎ ((i ≡ j) × (d ≡ 60)) → (i <ℤ j) ⊎ ((i ≡ j) × (later ≡ true))
      marked d later i j e (inl less) = inl less
      marked d later i j e (inr same) = let is_60 : nat_eq d 60 ≡ true = rw same.1 refl in inr (same.0, e ∙ is_60)
