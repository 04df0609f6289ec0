-- Texts of so many digits compare as the date-times truncated to the last of them.
use Rattle.std.proofs.Common.{◌≡◌, inl, inr, ℕ, zero, suc, ◌+◌, ◌-◌, ◌*◌, ◌/◌, ◌%◌, ◌^◌, ◌≤◌, ◌<◌, ◌⊎◌, false, nat_eq, List, [], ◌∷◌, ◌++◌, length, take}
use Rattle.std.proofs.Common.{append_assoc, refl, sym, ap, ◌∙◌, arith, ℤ, ◌<ℤ◌}
use Rattle.std.proofs.Math.Arith.{mod-mul}
use Rattle.std.proofs.Math.Nat.{div-mul-le_self, div-div-eq-div-mul, mul-div_cancel, mod-add-div', mod-lt, mul_comm, pow-succ'}
use Rattle.std.proofs.Math.Nat.{eq-or-lt_of_le, lt_of_mul-lt-mul_right}
use Rattle.std.specs.Cmp.{int_cmp_is}
use Rattle.std.specs.Cmp.Lexicographic.{slice_cmp}
use Rattle.std.specs.Ordering.{nat_cmp, int_cmp, ordering_then, ordering_reverse}
use Rattle.std.specs.declared.cmp.Ordering.{Ordering}
use Rattle.std.specs.declared.cmp.Ordering.TheVariants.{Less, Equal, Greater}
use Rattle.std.proofs.lemmas.Bool.Decides.{nat_tests}
use Rattle.std.proofs.lemmas.Cmp.{nat_list_cmp_total, tied_itself}
use Rattle.std.proofs.lemmas.List.{take-append-le, take_all}
use Rattle.std.proofs.lemmas.Nat.{div-mul-add, le-div}
use Rattle.calendar_values.specs.Clock.{hour_of, minute_of, second_of, nanosecond_of}
use Rattle.calendar_values.specs.DigitCountLemmas.{length-last_digits}
use Rattle.calendar_values.specs.Digits.{last_digits}
use Rattle.calendar_values.specs.SignedArith.{signed_arith}
use Rattle.calendar_values.specs.WallClock.{wall_clock, wall_day, wall_time}
use Rattle.calendar_values.specs.WallClockLemmas.{wall_clock-parts, IsClock-wall_time, wall_clock-injective}
use Rattle.offset_times.specs.Local.{Local}
use Rattle.plain_times.specs.Truncations.{wall_multiple_below}
use Rattle.rfc3339.proofs.DigitTextLemmas.{each_of_ten}
use Rattle.rfc3339.proofs.TextOrderLemmas.{digits_order, int_cases, date_cmp, date_order}
use Rattle.rfc3339.specs.Texts.{HasText, parts_of, fraction_of_digits, digits_text, time_offset_text}
use Rattle.rfc3339.specs.ValueLemmas.{IsDateTime-text}
use Rattle.rfc3339.specs.WrittenDigitLemmas.{HasDigits}

-- ---- a fraction

-- the first digits of a number are the last of it without the others
take-last_digits : (k d j n : ℕ) → j ≡ k + d → take k (last_digits j n) ≡ last_digits k (n / 10 ^ d)
unfolding last_digits
take-last_digits k zero j n e =
    let same : j ≡ k = omega arith in
    let whole : n / 1 ≡ n = omega arith in rw (same, whole) (take_all k (last_digits k n) (omega (arith, length-last_digits k n)))
take-last_digits k (suc d) zero n e = absurd (omega arith)
take-last_digits k (suc d) (suc j) n e =
    let low : k ≤ length (last_digits j (n / 10)) = omega (arith, length-last_digits j (n / 10)) in
    take-append-le k (last_digits j (n / 10)) ((48 + n % 10) ∷ []) low ∙ take-last_digits k d j (n / 10) (omega arith)
    ∙ ap (last_digits k) (div-div-eq-div-mul n 10 (10 ^ d) ∙ ap (λ (t : ℕ). n / t) (sym (pow-succ' 10 d)))

take-nine : (k n : ℕ) → k ≤ 9 → take k (last_digits 9 n) ≡ last_digits k (n / 10 ^ (9 - k))
take-nine k n few = take-last_digits k (9 - k) 9 n (omega arith)

few_digits : (k n : ℕ) → n < 1_000_000_000 → k ≤ 9 → HasDigits k (n / 10 ^ (9 - k))
few_digits k n low few =
    each_of_ten (λ k. HasDigits k (n / 10 ^ (9 - k))) (omega arith) (omega arith) (omega arith) (omega arith) (omega arith) (omega arith) (omega arith)
    (omega arith) (omega arith) (omega arith) k few

fraction_order : (k m n : ℕ) (rest : List ℕ) → m < 1_000_000_000 → n < 1_000_000_000 → k ≤ 9
    → slice_cmp nat_cmp (fraction_of_digits k m ++ rest) (fraction_of_digits k n ++ rest)
    ≡ ordering_then (nat_cmp (m / 10 ^ (9 - k)) (n / 10 ^ (9 - k))) Equal
unfolding fraction_of_digits
fraction_order zero m n rest a b few =
    let first : m / 1_000_000_000 ≡ 0 = omega arith in
    let second : n / 1_000_000_000 ≡ 0 = omega arith in tied_itself nat_list_cmp_total rest ∙ grind (arith, nat_tests, first, second)
fraction_order (suc k) m n rest a b few =
    let some : nat_eq (suc k) 0 ≡ false = grind (arith, nat_tests) in
    rw (some, take-nine (suc k) m few, take-nine (suc k) n few)
    (digits_order (suc k) _ _ rest rest (few_digits (suc k) m a few) (few_digits (suc k) n b few)
    ∙ ap (ordering_then (nat_cmp (m / 10 ^ (9 - suc k)) (n / 10 ^ (9 - suc k)))) (tied_itself nat_list_cmp_total rest))

-- ---- units, `v` of them a second and of `u` nanoseconds each

second_of-units : (c u v : ℕ) → u * v ≡ 1_000_000_000 → c / 1_000_000_000 ≡ c / u / v
second_of-units c u v e = sym (div-div-eq-div-mul c u v ∙ ap (λ (t : ℕ). c / t) e)

rest_of-units : (c u v : ℕ) → 0 < u → 0 < v → u * v ≡ 1_000_000_000 → c % 1_000_000_000 / u ≡ c / u % v
rest_of-units c u v p q e =
    ap (λ (t : ℕ). c % t / u) (sym e ∙ mul_comm u v) ∙ ap (λ (t : ℕ). t / u) (mod-mul c q p) ∙ div-mul-add (c / u % v) u (c % u) (mod-lt c p)

-- more units are as many seconds and more units of the next, or more seconds
units-less : (v x y : ℕ) → 0 < v → x < y → ((x / v ≡ y / v) × (x % v < y % v)) ⊎ (x / v < y / v)
units-less v x y some less =
    elim (eq-or-lt_of_le (le-div (x / v) y v some (omega (arith, div-mul-le_self x v)))) [
      | inl same ↦ inl (same, omega (arith, mod-add-div' x v, mod-add-div' y v, ap (λ (q : ℕ). q * v) same))
      | inr more ↦ inr more
    ]

cut-less : (u v c d : ℕ) → 0 < u → 0 < v → u * v ≡ 1_000_000_000 → c / u * u < d / u * u
    → ((c / 1_000_000_000 ≡ d / 1_000_000_000) × (c % 1_000_000_000 / u < d % 1_000_000_000 / u)) ⊎ (c / 1_000_000_000 < d / 1_000_000_000)
cut-less u v c d p q e less =
    rw (second_of-units c u v e, second_of-units d u v e, rest_of-units c u v p q e, rest_of-units d u v p q e)
    (units-less v (c / u) (d / u) q (lt_of_mul-lt-mul_right u less))

cut-same : (u v c d : ℕ) → 0 < u → 0 < v → u * v ≡ 1_000_000_000 → c / u * u ≡ d / u * u
    → (c / 1_000_000_000 ≡ d / 1_000_000_000) × (c % 1_000_000_000 / u ≡ d % 1_000_000_000 / u)
cut-same u v c d p q e same =
    let units : c / u ≡ d / u = sym (mul-div_cancel (c / u) p) ∙ ap (λ (t : ℕ). t / u) same ∙ mul-div_cancel (d / u) p in
    rw (second_of-units c u v e, second_of-units d u v e, rest_of-units c u v p q e, rest_of-units d u v p q e, units) (refl, refl)

ten_powers : (k : ℕ) → k ≤ 9 → (0 < 10 ^ (9 - k)) × (0 < 10 ^ k) × (10 ^ (9 - k) * 10 ^ k ≡ 1_000_000_000)
ten_powers k few =
    each_of_ten (λ k. (0 < 10 ^ (9 - k)) × (0 < 10 ^ k) × (10 ^ (9 - k) * 10 ^ k ≡ 1_000_000_000))
    (omega arith, omega arith, refl) (omega arith, omega arith, refl) (omega arith, omega arith, refl) (omega arith, omega arith, refl)
    (omega arith, omega arith, refl) (omega arith, omega arith, refl) (omega arith, omega arith, refl) (omega arith, omega arith, refl)
    (omega arith, omega arith, refl) (omega arith, omega arith, refl) k few

-- ---- clocks

-- the order of the hours, the minutes, the seconds and of two more numbers
abbrev clock_cmp : (c d m n : ℕ) → Ordering
clock_cmp c d m n =
    ordering_then (nat_cmp (hour_of c) (hour_of d))
    (ordering_then (nat_cmp (minute_of c) (minute_of d))
    (ordering_then (nat_cmp (second_of c) (second_of d)) (ordering_then (nat_cmp m n) Equal)))

clock_less : (c d m n : ℕ) → ((c / 1_000_000_000 ≡ d / 1_000_000_000) × (m < n)) ⊎ (c / 1_000_000_000 < d / 1_000_000_000) → clock_cmp c d m n ≡ Less
clock_less c d m n (inl h) =
    let hour : hour_of c ≡ hour_of d = omega (arith, h.0) in
    let minute : minute_of c ≡ minute_of d = omega (arith, h.0) in
    let second : second_of c ≡ second_of d = omega (arith, h.0) in
    let more = h.1 in rw (hour, minute, second) (grind (arith, nat_tests))
clock_less c d m n (inr h) = grind (arith, nat_tests)

clock_same : (c d m n : ℕ) → c / 1_000_000_000 ≡ d / 1_000_000_000 → m ≡ n → clock_cmp c d m n ≡ Equal
clock_same c d m n e f =
    let hour : hour_of c ≡ hour_of d = omega arith in
    let minute : minute_of c ≡ minute_of d = omega arith in
    let second : second_of c ≡ second_of d = omega arith in rw (hour, minute, second, f) (grind (arith, nat_tests))

-- the order of the hours, the minutes, the seconds and the digits of the fraction
abbrev cut_clock_cmp : ℕ → ℕ → ℕ → Ordering
cut_clock_cmp k c d = clock_cmp c d (nanosecond_of c / 10 ^ (9 - k)) (nanosecond_of d / 10 ^ (9 - k))

cut_clock_order : (k c d : ℕ) → c / 10 ^ (9 - k) * 10 ^ (9 - k) < d / 10 ^ (9 - k) * 10 ^ (9 - k) → k ≤ 9 → cut_clock_cmp k c d ≡ Less
cut_clock_order k c d less few =
    let p = ten_powers k few in clock_less c d _ _ (cut-less (10 ^ (9 - k)) (10 ^ k) c d p.0 p.1 p.2 less)

cut_clock_same : (k c d : ℕ) → c / 10 ^ (9 - k) * 10 ^ (9 - k) ≡ d / 10 ^ (9 - k) * 10 ^ (9 - k) → k ≤ 9 → cut_clock_cmp k c d ≡ Equal
cut_clock_same k c d same few =
    let p = ten_powers k few in
    let cut = cut-same (10 ^ (9 - k)) (10 ^ k) c d p.0 p.1 p.2 same in clock_same c d _ _ cut.0 cut.1

-- the multiple below is of the same day
cut_wall : (k : ℕ) (d : ℤ) (c : ℕ) → k ≤ 9 → wall_multiple_below (10 ^ (9 - k)) (wall_clock d c) ≡ wall_clock d (c / 10 ^ (9 - k) * 10 ^ (9 - k))
unfolding wall_multiple_below
cut_wall k d c few =
    each_of_ten (λ k. wall_multiple_below (10 ^ (9 - k)) (wall_clock d c) ≡ wall_clock d (c / 10 ^ (9 - k) * 10 ^ (9 - k)))
    (omega (arith, signed_arith)) (omega (arith, signed_arith)) (omega (arith, signed_arith)) (omega (arith, signed_arith))
    (omega (arith, signed_arith)) (omega (arith, signed_arith)) (omega (arith, signed_arith)) (omega (arith, signed_arith))
    (omega (arith, signed_arith)) (omega (arith, signed_arith)) k few

cut_of_wall : (k : ℕ) (w : ℤ) → k ≤ 9
    → wall_multiple_below (10 ^ (9 - k)) w ≡ wall_clock (wall_day w) (wall_time w / 10 ^ (9 - k) * 10 ^ (9 - k))
cut_of_wall k w few = ap (wall_multiple_below (10 ^ (9 - k))) (sym (wall_clock-parts w)) ∙ cut_wall k (wall_day w) (wall_time w) few

-- clocks of one day, and of two
less_clock : (d e : ℤ) (x y : ℕ) → wall_clock d x <ℤ wall_clock e y → d ≡ e → x < y
less_clock d e x y less same = omega (arith, signed_arith)

no_later_day : (d e : ℤ) (x y : ℕ) → y < 86_400_000_000_000 → wall_clock d x <ℤ wall_clock e y → ¬ (e <ℤ d)
no_later_day d e x y low less later = omega (arith, signed_arith)

cut_below : (c unit : ℕ) → c < 86_400_000_000_000 → c / unit * unit < 86_400_000_000_000
cut_below c unit low = omega (arith, div-mul-le_self c unit)

-- ---- texts

texts_order : (k : ℕ) (a b : Local) → k ≤ 9 → HasText a → HasText b → a.offset ≡ b.offset
    → slice_cmp nat_cmp (digits_text k a) (digits_text k b)
    ≡ date_cmp (wall_day a.wall) (wall_day b.wall) (cut_clock_cmp k (wall_time a.wall) (wall_time b.wall))
unfolding digits_text
texts_order k a b few h j same =
    let p = parts_of a in
    let q = parts_of b in
    let f = (IsDateTime-text a h).fits in
    let g = (IsDateTime-text b j).fits in
    let offset = ap time_offset_text same in
    rw offset (simp append_assoc (rw (
      digits_order 4 p.year q.year _ _ (omega arith) (omega arith),
      digits_order 2 p.month q.month _ _ (omega arith) (omega arith),
      digits_order 2 p.day q.day _ _ (omega arith) (omega arith),
      digits_order 2 p.hour q.hour _ _ (omega arith) (omega arith),
      digits_order 2 p.minute q.minute _ _ (omega arith) (omega arith),
      digits_order 2 p.second q.second _ _ (omega arith) (omega arith),
      fraction_order k p.nanosecond q.nanosecond (time_offset_text b.offset) (omega arith) (omega arith) few,
    ) refl))

earlier_text : (k : ℕ) (a b : Local) → k ≤ 9 → HasText a → HasText b → a.offset ≡ b.offset
    → wall_multiple_below (10 ^ (9 - k)) a.wall <ℤ wall_multiple_below (10 ^ (9 - k)) b.wall
    → slice_cmp nat_cmp (digits_text k a) (digits_text k b) ≡ Less
earlier_text k a b few h j same less =
    let first = cut_of_wall k a.wall few in
    let second = cut_of_wall k b.wall few in
    let walls = rw (first, second) at less in
    let low = cut_below (wall_time b.wall) (10 ^ (9 - k)) (IsClock-wall_time b.wall) in
    texts_order k a b few h j same
    ∙ elim (int_cases (wall_day a.wall) (wall_day b.wall)) [
      | inl earlier ↦ date_order (wall_day a.wall) (wall_day b.wall) _ h.year_first j.year_first earlier
      | inr (inl day) ↦
          let clocks = less_clock (wall_day a.wall) (wall_day b.wall) _ _ walls day in
          rw (day, cut_clock_order k (wall_time a.wall) (wall_time b.wall) clocks few) (grind (arith, nat_tests))
      | inr (inr later) ↦ absurd (no_later_day (wall_day a.wall) (wall_day b.wall) _ _ low walls later)
    ]

same_text : (k : ℕ) (a b : Local) → k ≤ 9 → HasText a → HasText b → a.offset ≡ b.offset
    → wall_multiple_below (10 ^ (9 - k)) a.wall ≡ wall_multiple_below (10 ^ (9 - k)) b.wall
    → slice_cmp nat_cmp (digits_text k a) (digits_text k b) ≡ Equal
same_text k a b few h j same e =
    let first = cut_of_wall k a.wall few in
    let second = cut_of_wall k b.wall few in
    let c = cut_below (wall_time a.wall) (10 ^ (9 - k)) (IsClock-wall_time a.wall) in
    let d = cut_below (wall_time b.wall) (10 ^ (9 - k)) (IsClock-wall_time b.wall) in
    let parts = wall_clock-injective (wall_day a.wall) (wall_day b.wall) _ _ c d (sym first ∙ e ∙ second) in
    texts_order k a b few h j same
    ∙ rw (parts.0, cut_clock_same k (wall_time a.wall) (wall_time b.wall) parts.1 few) (grind (arith, nat_tests))

pub digits_text-order : (digits : ℕ) (a b : Local) (first second : List ℕ) → digits ≤ 9 → HasText a → HasText b → a.offset ≡ b.offset
    → first ≡ digits_text digits a → second ≡ digits_text digits b
    → slice_cmp nat_cmp first second ≡ int_cmp (wall_multiple_below (10 ^ (9 - digits)) a.wall) (wall_multiple_below (10 ^ (9 - digits)) b.wall)
digits_text-order k a b first second few h j same e f =
    let m = wall_multiple_below (10 ^ (9 - k)) a.wall in
    let n = wall_multiple_below (10 ^ (9 - k)) b.wall in
    rw (e, f) (elim (int_cases m n) [
      | inl less ↦ earlier_text k a b few h j same less ∙ int_cmp_is m n Less less
      | inr (inl equal) ↦ same_text k a b few h j same equal ∙ int_cmp_is m n Equal equal
      | inr (inr less) ↦
          nat_list_cmp_total.antisymm (digits_text k a) (digits_text k b) ∙ ap ordering_reverse (earlier_text k b a few j h (sym same) less)
          ∙ int_cmp_is m n Greater less
    ])
