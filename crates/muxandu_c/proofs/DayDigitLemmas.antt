-- The two digits of the day of a text, and what it is refused by.
use Rattle.std.proofs.Common.{◌≡◌, ℕ, ◌+◌, ◌/◌, ◌%◌, ◌≤◌, ◌++◌, Bool, true, false, not, List, length, slice_index_or, refl, sym, subst, arith}
use Rattle.std.specs.Prelude.{if◌then◌else◌}
use Rattle.calendar_values.specs.Digits.{last_digits}
use Rattle.rfc3339.specs.Form.{IsDateTime, spelling}
use Rattle.rfc3339.specs.FullDates.{IsFullDate, full_date_digits}
use Rattle.rfc3339.specs.declared.parts.Parts.{Parts}
use Rattle.muxandu_c.specs.declared.refused.Refused.TheVariants as refused

spelled_digits : (p : Parts) (separator : ℕ) (fraction offset : List ℕ) → let text = spelling p separator fraction offset in
    (10 ≤ length text) × (slice_index_or text 8 0 ≡ 48 + p.day / 10 % 10) × (slice_index_or text 9 0 ≡ 48 + p.day % 10)
unfolding last_digits
spelled_digits p separator fraction offset = (omega arith, refl, refl)

-- eight bytes come before them
pub day_digits : (text : List ℕ) (p : Parts) → IsDateTime text p →
    (10 ≤ length text) × (slice_index_or text 8 0 ≡ 48 + p.day / 10 % 10) × (slice_index_or text 9 0 ≡ 48 + p.day % 10)
day_digits text p is =
    subst (λ (t : List ℕ). (10 ≤ length t) × (slice_index_or t 8 0 ≡ 48 + p.day / 10 % 10) × (slice_index_or t 9 0 ≡ 48 + p.day % 10))
    (sym is.spelled) (spelled_digits p is.separator is.fraction is.offset)

spelled_day : (year month day : ℕ) → let text = full_date_digits year month day in
    (10 ≤ length text) × (slice_index_or text 8 0 ≡ 48 + day / 10 % 10) × (slice_index_or text 9 0 ≡ 48 + day % 10)
unfolding last_digits
spelled_day year month day = (omega arith, refl, refl)

-- also where more stands behind the text
spelled_digits_before : (p : Parts) (separator : ℕ) (fraction offset rest : List ℕ) → let text = spelling p separator fraction offset ++ rest in
    (10 ≤ length text) × (slice_index_or text 8 0 ≡ 48 + p.day / 10 % 10) × (slice_index_or text 9 0 ≡ 48 + p.day % 10)
unfolding last_digits
spelled_digits_before p separator fraction offset rest = (omega arith, refl, refl)

pub day_digits_in_front : (text stamp rest : List ℕ) (p : Parts) → text ≡ stamp ++ rest → IsDateTime stamp p →
    (10 ≤ length text) × (slice_index_or text 8 0 ≡ 48 + p.day / 10 % 10) × (slice_index_or text 9 0 ≡ 48 + p.day % 10)
day_digits_in_front text stamp rest p e is =
    rw (e, is.spelled) (spelled_digits_before p is.separator is.fraction is.offset rest)

-- also where no more than a date stands there
pub date_digits : (text : List ℕ) (year month day : ℕ) → IsFullDate text year month day →
    (10 ≤ length text) × (slice_index_or text 8 0 ≡ 48 + day / 10 % 10) × (slice_index_or text 9 0 ≡ 48 + day % 10)
date_digits text year month day is =
    subst (λ (t : List ℕ). (10 ≤ length t) × (slice_index_or t 8 0 ≡ 48 + day / 10 % 10) × (slice_index_or t 9 0 ≡ 48 + day % 10))
    (sym is.spelled) (spelled_day year month day)

-- a day of some month, and one of none
pub of_its_month : (is_none : Bool) → not is_none ≡ true → refused.DayOfMonth ≡ (if is_none then refused.Day else refused.DayOfMonth)
of_its_month true e = absurd cc
of_its_month false e = refl

pub of_no_month : (is_none : Bool) → not is_none ≡ false → refused.Day ≡ (if is_none then refused.Day else refused.DayOfMonth)
of_no_month true e = refl
of_no_month false e = absurd cc
