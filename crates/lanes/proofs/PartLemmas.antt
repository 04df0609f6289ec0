-- All tests of a lane together say that the parts of a date-time are in their ranges.
use Rattle.std.proofs.Common.{◌≡◌, ℕ, ◌+◌, ◌-◌, ◌*◌, ◌/◌, ◌%◌, ◌^◌, ◌<◌, ◌≤◌, ◌↔◌, List, [], ◌∷◌, length, ◌∙◌, refl, sym, ap, arith, bit_and, Bool}
use Rattle.std.proofs.Common.{true, false, ◌&&◌, ◌==◌, cond, eqb, ltb, leb}
use Rattle.std.proofs.Common.{ℤ, pos, negsuc, neg_ℤ, ◌+ℤ◌, ◌-ℤ◌, ◌≤ℤ◌, w32, to_z, of_z, FitsSigned}
use Rattle.std.proofs.lemmas.Bool.{eqb-true, leb-true, le-leb}
use Rattle.std.proofs.lemmas.Bool.Decides.{nat_tests}
use Rattle.std.proofs.lemmas.Int.{ints}
use Rattle.std.proofs.lemmas.Simd.{mask_l-lt}
use lib.Lanes.{Each1, mask_l, top}
use Rattle.calendar_values.specs.SignedArith.{signed_arith}
use Rattle.calendar_values.specs.Offsets.{IsOffset}
use Rattle.calendar_values.specs.Calendar.{is_leap_year, days_in_month}
use Rattle.lanes.specs.Seconds.{IsInside}
use Rattle.lanes.specs.MarchYears.{bit_of, is_within, month_before_march, march_year_of, leap_day_of, month_length_of}
use Rattle.lanes.specs.declared.date_times.DateTime.{DateTime}
use Rattle.lanes.proofs.LaneLemmas.{top-compared}
use Rattle.lanes.proofs.MaskLemmas.{mask_l-full, mask_l-all}

-- the bits of a signed number that came back from its bits
pub bits-back : (z : ℤ) (bits : ℕ) → to_z w32 (of_z w32 z) ≡ z → bits ≡ of_z w32 (to_z w32 (of_z w32 z)) → bits ≡ of_z w32 z
bits-back z bits e h = h ∙ ap (of_z w32) e

pub four-numbers : {a b c d e f g h : ℕ} → a ≡ e → b ≡ f → c ≡ g → d ≡ h → a ∷ b ∷ c ∷ d ∷ [] ≡ e ∷ f ∷ g ∷ h ∷ []
four-numbers p q r s = cc

-- a test of a range tells both ends

and-parts : (t u : Bool) → t && u ≡ true → (t ≡ true) × (u ≡ true)
and-parts true u e = (refl, e)
and-parts false u e = grind (arith, nat_tests)

pub is_within-true : (first last n : ℕ) → is_within first last n ≡ true → (first ≤ n) × (n ≤ last)
is_within-true first last n t =
    let both = and-parts _ _ t in
    (leb-true _ _ both.0, leb-true _ _ both.1)

pub true-is_within : (first last n : ℕ) → first ≤ n → n ≤ last → is_within first last n ≡ true
true-is_within first last n low high = rw (le-leb _ _ low, le-leb _ _ high) refl

-- a year, by its bits
abbrev pub shifted_year : ℤ → ℕ
shifted_year y = (of_z w32 y + 1_000_000) % 2 ^ 32

pub shifted_year-is : (y : ℤ) → neg_ℤ (pos 999_998) ≤ℤ y → y ≤ℤ pos 999_998 → y +ℤ pos 1_000_000 ≡ pos (shifted_year y)
shifted_year-is (pos n) low high = let below : n ≤ 999_998 = omega (arith, signed_arith) in omega (arith, ints)
shifted_year-is (negsuc n) low high = let below : n < 999_998 = omega (arith, signed_arith) in omega (arith, ints)

year-within : (y : ℤ) → FitsSigned w32 y → is_within 2 1_999_998 (shifted_year y) ≡ true → (neg_ℤ (pos 999_998) ≤ℤ y) × (y ≤ℤ pos 999_998)
year-within (pos n) fits t =
    let high : shifted_year (pos n) ≤ 1_999_998 = (is_within-true 2 1_999_998 (shifted_year (pos n)) t).1 in
    let below : n < 2 ^ 31 = fits.sfits in
    (omega (arith, ints), let most : n ≤ 999_998 = omega arith in omega (arith, signed_arith))
year-within (negsuc n) fits t =
    let low : 2 ≤ shifted_year (negsuc n) = (is_within-true 2 1_999_998 (shifted_year (negsuc n)) t).0 in
    let high : shifted_year (negsuc n) ≤ 1_999_998 = (is_within-true 2 1_999_998 (shifted_year (negsuc n)) t).1 in
    let below : n < 2 ^ 31 = fits.sfits in
    let most : n < 999_998 = omega arith in
    (omega (arith, signed_arith), omega (arith, ints))

within-year : (y : ℤ) → neg_ℤ (pos 999_998) ≤ℤ y → y ≤ℤ pos 999_998 → is_within 2 1_999_998 (shifted_year y) ≡ true
within-year y low high =
    let years = shifted_year-is y low high in
    true-is_within 2 1_999_998 (shifted_year y) (omega (arith, signed_arith)) (omega (arith, signed_arith))

-- an offset, by its bits
abbrev pub shifted_offset : ℤ → ℕ
shifted_offset o = (of_z w32 o + 93_599) % 2 ^ 32

pub shifted_offset-is : (o : ℤ) → IsOffset o → o +ℤ pos 93_599 ≡ pos (shifted_offset o)
shifted_offset-is (pos n) h = let below : n ≤ 93_599 = omega (arith, signed_arith, h.1) in omega (arith, ints)
shifted_offset-is (negsuc n) h = let below : n < 93_599 = omega (arith, signed_arith, h.0) in omega (arith, ints)

offset-within : (o : ℤ) → FitsSigned w32 o → is_within 0 187_198 (shifted_offset o) ≡ true → IsOffset o
offset-within (pos n) fits t =
    let high : shifted_offset (pos n) ≤ 187_198 = (is_within-true 0 187_198 (shifted_offset (pos n)) t).1 in
    let below : n < 2 ^ 31 = fits.sfits in
    let most : n ≤ 93_599 = omega arith in
    (omega (arith, ints), omega (arith, signed_arith))
offset-within (negsuc n) fits t =
    let high : shifted_offset (negsuc n) ≤ 187_198 = (is_within-true 0 187_198 (shifted_offset (negsuc n)) t).1 in
    let below : n < 2 ^ 31 = fits.sfits in
    let most : n < 93_599 = omega arith in
    (omega (arith, signed_arith), omega (arith, ints))

within-offset : (o : ℤ) → IsOffset o → is_within 0 187_198 (shifted_offset o) ≡ true
within-offset o h =
    let offset = shifted_offset-is o h in
    true-is_within 0 187_198 (shifted_offset o) (omega arith) (omega (arith, signed_arith, h.1))

-- the length of a month

pub leap_day_of-bound : (y n : ℕ) → leap_day_of y n ≤ 1
leap_day_of-bound y n = bound (y % (cond (n % 100 == 99) 16 4) == 0)
  where
    bound : (t : Bool) → cond {A = ℕ} t 1 0 ≤ 1
    bound true = omega arith
    bound false = omega arith

pub month_length_of-bound : (y n m : ℕ) → month_length_of (leap_day_of y n) m < 2 ^ 31
month_length_of-bound y n m = bound (m == 2) (leap_day_of-bound y n)
  where
    bound : (t : Bool) → leap_day_of y n ≤ 1 → cond t (28 + leap_day_of y n) (30 + (m + m / 8) % 2) < 2 ^ 31
    bound true h = omega (arith, h)
    bound false h = omega arith

pub is_leap_year-shifted : (y : ℤ) (n : ℕ) → y +ℤ pos 1_000_000 ≡ pos n → is_leap_year y ≡ is_leap_year (pos n)
is_leap_year-shifted y n e = grind (arith, signed_arith, nat_tests)

leap_day_of-is : (n : ℕ) → 1 ≤ n → leap_day_of n (n - 1) ≡ cond (is_leap_year (pos n)) 1 0
leap_day_of-is n h = grind (arith, nat_tests)

february : (t : Bool) → 28 + cond {A = ℕ} t 1 0 ≡ days_in_month t 2
february true = refl
february false = refl

other_month : (b : Bool) (l m : ℕ) → 1 ≤ m → m ≤ 12 → m == 2 ≡ false → month_length_of l m ≡ days_in_month b m
other_month b l m low high e = grind (arith, nat_tests)

length-choice : (y : ℤ) (n m : ℕ) → y +ℤ pos 1_000_000 ≡ pos n → 1 ≤ n → n < 2 ^ 32 → 1 ≤ m → m ≤ 12 → (t : Bool) → m == 2 ≡ t →
    month_length_of (leap_day_of n (march_year_of n m)) m ≡ days_in_month (is_leap_year y) m
length-choice y n m e low high first last true t =
    let is : m ≡ 2 = eqb-true _ _ t in
    let before : (n + (2 ^ 32 - 1)) % 2 ^ 32 ≡ n - 1 = omega arith in
    rw (is, before, leap_day_of-is n low, is_leap_year-shifted y n e) (february (is_leap_year (pos n)))
length-choice y n m e low high first last false t = other_month (is_leap_year y) _ m first last t

month_length_of-is : (y : ℤ) (n m : ℕ) → y +ℤ pos 1_000_000 ≡ pos n → 1 ≤ n → n < 2 ^ 32 → 1 ≤ m → m ≤ 12 →
    month_length_of (leap_day_of n (march_year_of n m)) m ≡ days_in_month (is_leap_year y) m
month_length_of-is y n m e low high first last = length-choice y n m e low high first last (m == 2) refl

length-inside : (y : ℤ) (m : ℕ) → 2 ≤ shifted_year y → y +ℤ pos 1_000_000 ≡ pos (shifted_year y) → 1 ≤ m → m ≤ 12 →
    month_length_of (leap_day_of (shifted_year y) (march_year_of (shifted_year y) m)) m ≡ days_in_month (is_leap_year y) m
length-inside y m low e first last = month_length_of-is y (shifted_year y) m e (omega arith) (omega arith) first last

-- the tests of a lane, and what the masks and bits make of them

abbrev all_pass : Bool → Bool → Bool → Bool → Bool → Bool → Bool → Bool → Bool
all_pass year month day hour minute second nanosecond offset =
    (((((((year && month) && day) && hour) && minute) && second) && nanosecond) && offset)

abbrev lane : Bool → Bool → Bool → Bool → Bool → Bool → Bool → Bool → Bool
lane year month day hour minute second nanosecond offset =
    top 31 (cond (eqb (bit_and (bit_and (bit_and (bit_and (bit_and (bit_and (bit_and (bit_of year) (bit_of month)) (bit_of day)) (bit_of hour))
    (bit_of minute)) (bit_of second)) (bit_of nanosecond)) (bit_of offset)) 1) (2 ^ 32 - 1) 0)

both-bits : (t u : Bool) → bit_and (bit_of t) (bit_of u) ≡ bit_of (t && u)
both-bits true true = refl
both-bits true false = refl
both-bits false true = refl
both-bits false false = refl

bit-passes : (t : Bool) → eqb (bit_of t) 1 ≡ t
bit-passes true = refl
bit-passes false = refl

lane-is : (a b c d e f g h : Bool) → lane a b c d e f g h ≡ all_pass a b c d e f g h
lane-is a b c d e f g h =
    top-compared _ ∙
    rw (
      both-bits a b,
      both-bits (a && b) c,
      both-bits ((a && b) && c) d,
      both-bits (((a && b) && c) && d) e,
      both-bits ((((a && b) && c) && d) && e) f,
      both-bits (((((a && b) && c) && d) && e) && f) g,
      both-bits ((((((a && b) && c) && d) && e) && f) && g) h,
    ) (bit-passes (all_pass a b c d e f g h))

abbrev pub inside_lane : DateTime → Bool
inside_lane at =
    lane (is_within 2 1_999_998 (shifted_year at.year)) (is_within 1 12 at.month)
    (is_within 1 (month_length_of (leap_day_of (shifted_year at.year) (march_year_of (shifted_year at.year) at.month)) at.month) at.day)
    (is_within 0 23 at.hour) (is_within 0 59 at.minute) (is_within 0 59 at.second) (is_within 0 999_999_999 at.nanosecond)
    (is_within 0 187_198 (shifted_offset at.offset_seconds))

-- all tests of a date-time together
abbrev passes : DateTime → Bool
passes at =
    all_pass (is_within 2 1_999_998 (shifted_year at.year)) (is_within 1 12 at.month)
    (is_within 1 (month_length_of (leap_day_of (shifted_year at.year) (march_year_of (shifted_year at.year) at.month)) at.month) at.day)
    (is_within 0 23 at.hour) (is_within 0 59 at.minute) (is_within 0 59 at.second) (is_within 0 999_999_999 at.nanosecond)
    (is_within 0 187_198 (shifted_offset at.offset_seconds))

inside_lane-is : (at : DateTime) → inside_lane at ≡ passes at
inside_lane-is at =
    lane-is (is_within 2 1_999_998 (shifted_year at.year)) (is_within 1 12 at.month)
    (is_within 1 (month_length_of (leap_day_of (shifted_year at.year) (march_year_of (shifted_year at.year) at.month)) at.month) at.day)
    (is_within 0 23 at.hour) (is_within 0 59 at.minute) (is_within 0 59 at.second) (is_within 0 999_999_999 at.nanosecond)
    (is_within 0 187_198 (shifted_offset at.offset_seconds))

IsInside-lane : (at : DateTime) → FitsSigned w32 at.year → FitsSigned w32 at.offset_seconds → inside_lane at ≡ true → IsInside at
IsInside-lane at year_fits offset_fits e =
    let all = sym (inside_lane-is at) ∙ e in
    let seven = and-parts _ _ all in
    let six = and-parts _ _ seven.0 in
    let five = and-parts _ _ six.0 in
    let four = and-parts _ _ five.0 in
    let three = and-parts _ _ four.0 in
    let two = and-parts _ _ three.0 in
    let one = and-parts _ _ two.0 in
    let year = year-within at.year year_fits one.0 in
    let years = shifted_year-is at.year year.0 year.1 in
    let low : 2 ≤ shifted_year at.year = (is_within-true 2 1_999_998 (shifted_year at.year) one.0).0 in
    let month = is_within-true 1 12 at.month one.1 in
    let day = is_within-true 1 _ at.day two.1 in
    let length = length-inside at.year at.month low years month.0 month.1 in
    record {
      year_first = year.0;
      year_last = year.1;
      date = record { month_first = month.0; month_last = month.1; day_first = day.0; day_last = rw (sym length) day.1 };
      hour = (is_within-true 0 23 at.hour three.1).1;
      minute = (is_within-true 0 59 at.minute four.1).1;
      second = (is_within-true 0 59 at.second five.1).1;
      nanosecond = (is_within-true 0 999_999_999 at.nanosecond six.1).1;
      offset = offset-within at.offset_seconds offset_fits seven.1;
    }

lane-IsInside : (at : DateTime) → IsInside at → inside_lane at ≡ true
lane-IsInside at h =
    let years = shifted_year-is at.year h.year_first h.year_last in
    let year = within-year at.year h.year_first h.year_last in
    let low : 2 ≤ shifted_year at.year = (is_within-true 2 1_999_998 (shifted_year at.year) year).0 in
    let length = length-inside at.year at.month low years h.date.month_first h.date.month_last in
    inside_lane-is at ∙
    rw (
      year,
      length,
      true-is_within 1 12 at.month h.date.month_first h.date.month_last,
      true-is_within 1 (days_in_month (is_leap_year at.year) at.month) at.day h.date.day_first h.date.day_last,
      true-is_within 0 23 at.hour (omega arith) h.hour,
      true-is_within 0 59 at.minute (omega arith) h.minute,
      true-is_within 0 59 at.second (omega arith) h.second,
      true-is_within 0 999_999_999 at.nanosecond (omega arith) h.nanosecond,
      within-offset at.offset_seconds h.offset,
    ) refl

-- a mask of four lanes

mask-bound : (ms : List Bool) → length ms ≡ 4 → mask_l ms < 16
mask-bound ms h = let below = mask_l-lt ms in rw h at below

mask-whole : (mask : ℕ) → mask < 16 → mask % 2 ^ 64 ≡ 15 → mask + 1 ≡ 16
mask-whole mask h e = omega arith

-- the offsets and the years fit their types
abbrev pub Fit : DateTime → Type 0
Fit at = FitsSigned w32 at.year × FitsSigned w32 at.offset_seconds

pub inside-four : (a b c d : DateTime) → Fit a → Fit b → Fit c → Fit d →
    (eqb (mask_l (inside_lane a ∷ inside_lane b ∷ inside_lane c ∷ inside_lane d ∷ []) % 2 ^ 64) 15 ≡ true) ↔ (IsInside a × IsInside b × IsInside c × IsInside d)
inside-four a b c d fit_a fit_b fit_c fit_d =
    let lanes = inside_lane a ∷ inside_lane b ∷ inside_lane c ∷ inside_lane d ∷ [] in (
      λ e. let all = mask_l-full lanes (mask-whole (mask_l lanes) (mask-bound lanes refl) (eqb-true _ _ e)) in (
        IsInside-lane a fit_a.0 fit_a.1 all.0,
        IsInside-lane b fit_b.0 fit_b.1 all.1.0,
        IsInside-lane c fit_c.0 fit_c.1 all.1.1.0,
        IsInside-lane d fit_d.0 fit_d.1 all.1.1.1.0,
      ),
      λ h. rw (lane-IsInside a h.0, lane-IsInside b h.1, lane-IsInside c h.2, lane-IsInside d h.3) refl,
    )
