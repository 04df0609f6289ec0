-- In UTC the order of digits is that of the moments that they write.
use Rattle.std.proofs.Common.{◌≡◌, ◌⊎◌, inl, inr, refl, sym, subst, ◌∙◌, ℕ, ◌+◌, ◌*◌, ◌<◌, ◌≤◌, arith, ℤ, pos, ◌+ℤ◌, ◌*ℤ◌, ◌<ℤ◌, ◌≤ℤ◌}
use Rattle.std.proofs.Common.{Bool, true, false, List, Ok}
use Rattle.calendar_values.specs.Calendar.{is_leap_year, day_of_calendar_date, IsCalendarDate}
use Rattle.calendar_values.specs.CalendarDateLemmas.{IsOrdinalDate-date}
use Rattle.calendar_values.specs.SignedArith.{signed_arith}
use Rattle.calendar_values.specs.YearLemmas.{year_start-next, year_start-mono}
use Rattle.offset_times.specs.Local.{Local, instant_of}
use Rattle.rfc3339.specs.LeapLaws.{minute_begin, IsWrittenBefore, IsInUtc, IsSameDate, AreDigitsBefore}
use Rattle.rfc3339.specs.Form.{IsDateTime}
use Rattle.rfc3339.specs.LeapSeconds.{leap_reading_of, stand_in}
use Rattle.rfc3339.specs.Meaning.{AreInRange, offset_of}
use Rattle.rfc3339.specs.declared.parts.Parts.{Parts}
use Rattle.rfc3339.proofs.LeapLemmas.{leap_reading_of-spelled, leap_meaning-ok}
use Rattle.rfc3339.proofs.LeapOrderLemmas.{leap_reading_of-order}
use Rattle.rfc3339.proofs.TextOrderLemmas.{month-later}

-- ---- dates

date_of : (p : Parts) → AreInRange (stand_in p) → IsCalendarDate (pos p.year) p.month p.day
date_of p r = record { month_first = r.month_first; month_last = r.month_last; day_first = r.day_first; day_last = r.day_last }

later_year : (y z : ℕ) (m d n e : ℕ) → IsCalendarDate (pos y) m d → IsCalendarDate (pos z) n e → y < z
    → day_of_calendar_date (pos y) m d <ℤ day_of_calendar_date (pos z) n e
later_year y z m d n e h k less =
    let first = IsOrdinalDate-date (pos y) m d h in
    let second = IsOrdinalDate-date (pos z) n e k in
    let start = year_start-mono (pos y +ℤ pos 1) (pos z) (omega (arith, signed_arith)) in
    omega (arith, signed_arith, first.last, second.first, year_start-next (pos y), start)

later_month : (y z : ℕ) (m d n e : ℕ) → y ≡ z → IsCalendarDate (pos y) m d → IsCalendarDate (pos z) n e → m < n
    → day_of_calendar_date (pos y) m d <ℤ day_of_calendar_date (pos z) n e
later_month y z m d n e same h k less =
    let h' : IsCalendarDate (pos z) m d = subst (λ (t : ℕ). IsCalendarDate (pos t) m d) same h in
    let later : day_of_calendar_date (pos z) m d <ℤ day_of_calendar_date (pos z) n e
    = omega (arith, signed_arith, month-later (is_leap_year (pos z)) m n h'.month_first less, h'.day_last, k.day_first) in
    subst (λ (t : ℕ). day_of_calendar_date (pos t) m d <ℤ day_of_calendar_date (pos z) n e) (sym same) later

later_day : (y z : ℕ) (m d n e : ℕ) → y ≡ z → m ≡ n → d < e → day_of_calendar_date (pos y) m d <ℤ day_of_calendar_date (pos z) n e
later_day y z m d n e same f less =
    let later : day_of_calendar_date (pos z) n d <ℤ day_of_calendar_date (pos z) n e = omega (arith, signed_arith) in
    rw (same, f) later

-- ---- the minute of a text in UTC

no_offset : (is_west : Bool) (hour minute : ℕ) → hour ≡ 0 → minute ≡ 0 → offset_of is_west hour minute ≡ pos 0
no_offset true hour minute e f = rw (e, f) refl
no_offset false hour minute e f = rw (e, f) refl

minute_begin-utc : (p : Parts) → IsInUtc p
    → minute_begin p ≡ (day_of_calendar_date (pos p.year) p.month p.day *ℤ pos 86_400) +ℤ pos (p.hour * 3_600 + p.minute * 60)
minute_begin-utc p u =
    omega (arith, signed_arith, no_offset p.is_west p.offset_hour p.offset_minute u.0 u.1)

later_date : (m n i j : ℤ) (h a k b : ℕ) → i ≡ (m *ℤ pos 86_400) +ℤ pos (h * 3_600 + a * 60) → j ≡ (n *ℤ pos 86_400) +ℤ pos (k * 3_600 + b * 60)
    → h ≤ 23 → a ≤ 59 → m <ℤ n → i <ℤ j
later_date m n i j h a k b e f low few less = omega (arith, signed_arith)

later_time : (m n i j : ℤ) (h a k b : ℕ) → i ≡ (m *ℤ pos 86_400) +ℤ pos (h * 3_600 + a * 60) → j ≡ (n *ℤ pos 86_400) +ℤ pos (k * 3_600 + b * 60)
    → m ≡ n → h * 60 + a < k * 60 + b → i <ℤ j
later_time m n i j h a k b e f same less = omega (arith, signed_arith)

same_time : (m n i j : ℤ) (h a k b : ℕ) → i ≡ (m *ℤ pos 86_400) +ℤ pos (h * 3_600 + a * 60) → j ≡ (n *ℤ pos 86_400) +ℤ pos (k * 3_600 + b * 60)
    → m ≡ n → h ≡ k → a ≡ b → i ≡ j
same_time m n i j h a k b e f same g o = omega (arith, signed_arith)

day_same : (p q : Parts) → IsSameDate p q
    → day_of_calendar_date (pos p.year) p.month p.day ≡ day_of_calendar_date (pos q.year) q.month q.day
day_same p q o = rw (o.0, o.1, o.2) refl

is_before : (p q : Parts) → AreInRange (stand_in p) → AreInRange (stand_in q) → IsInUtc p → IsInUtc q → AreDigitsBefore p q → IsWrittenBefore p q
is_before p q r s u v digits =
    let m = day_of_calendar_date (pos p.year) p.month p.day in
    let n = day_of_calendar_date (pos q.year) q.month q.day in
    let i = minute_begin-utc p u in
    let j = minute_begin-utc q v in
    let first = date_of p r in
    let second = date_of q s in
    let date : m <ℤ n → IsWrittenBefore p q
    = λ less. inl (later_date m n (minute_begin p) (minute_begin q) p.hour p.minute q.hour q.minute i j r.hour r.minute less) in
    let time : m ≡ n → p.hour * 60 + p.minute < q.hour * 60 + q.minute → IsWrittenBefore p q
    = λ same less. inl (later_time m n (minute_begin p) (minute_begin q) p.hour p.minute q.hour q.minute i j same less) in
    let minute : m ≡ n → p.hour ≡ q.hour → p.minute ≡ q.minute → minute_begin p ≡ minute_begin q
    = λ same h a. same_time m n (minute_begin p) (minute_begin q) p.hour p.minute q.hour q.minute i j same h a in
    elim digits [
      | inl year ↦ date (later_year p.year q.year p.month p.day q.month q.day first second year)
      | inr (inl o) ↦ date (later_month p.year q.year p.month p.day q.month q.day o.0 first second o.1)
      | inr (inr (inl o)) ↦ date (later_day p.year q.year p.month p.day q.month q.day o.0 o.1 o.2)
      | inr (inr (inr (inl o))) ↦ time (day_same p q o.0) (omega (arith, o.1, r.minute))
      | inr (inr (inr (inr (inl o)))) ↦ time (day_same p q o.0) (omega (arith, o.1, o.2))
      | inr (inr (inr (inr (inr (inl o))))) ↦ inr (inl (minute (day_same p q o.0.0) o.0.1 o.0.2, o.1))
      | inr (inr (inr (inr (inr (inr o))))) ↦ inr (inr (minute (day_same p q o.0.0) o.0.1 o.0.2, o.1, o.2))
    ]

at_most : (i j : ℤ) (later : Bool) → (i <ℤ j) ⊎ ((i ≡ j) × (later ≡ true)) → i ≤ℤ j
at_most i j later (inl less) = omega (arith, signed_arith)
at_most i j later (inr same) = omega (arith, signed_arith, same.0)

pub digits-order : (first second : List ℕ) (p q : Parts) (a b : Local) (is_leap is_later_leap : Bool)
    → IsDateTime first p → IsDateTime second q → IsInUtc p → IsInUtc q
    → leap_reading_of first ≡ Ok (a, is_leap) → leap_reading_of second ≡ Ok (b, is_later_leap)
    → AreDigitsBefore p q → instant_of a ≤ℤ instant_of b
digits-order first second p q a b is_leap is_later_leap h k u v r t digits =
    let x = leap_meaning-ok p (a, is_leap) (sym (leap_reading_of-spelled first p h) ∙ r) in
    let y = leap_meaning-ok q (b, is_later_leap) (sym (leap_reading_of-spelled second q k) ∙ t) in
    let order = leap_reading_of-order first second p q a b is_leap is_later_leap h k r t in
    at_most (instant_of a) (instant_of b) is_later_leap (order.0 (is_before p q x.0.in_range y.0.in_range u v digits))
