-- The readings of texts without an offset, by their form.
use Rattle.std.proofs.Common.{◌≡◌, ◌⊎◌, inl, inr, ℕ, ℤ, Bool, true, false, nat_eq, cond, List, ◌++◌, None, refl, sym, ap, ◌∙◌, Result, Ok, Err, IfOk}
use Rattle.std.specs.Prelude.{OkIff, codes, pos, ◌||◌, nat_lt}
use Rattle.std.specs.Result.{result_map_both}
use Rattle.calendar_values.specs.Calendar.{is_leap_year, days_in_month}
use Rattle.offset_times.specs.Local.{Local, wall_at}
use Rattle.rfc3339.specs.declared.parts.Parts.{Parts}
use Rattle.rfc3339.specs.declared.refusal.Component.{Component}
use Rattle.rfc3339.specs.declared.refusal.Component.TheVariants.{Month, Day, Hour, Minute, Second, OffsetHour, OffsetMinute}
use Rattle.rfc3339.specs.declared.refusal.TextRefusal.{TextRefusal}
use Rattle.rfc3339.specs.declared.refusal.TextRefusal.TheVariants.{Syntax, OutOfRange}
use Rattle.rfc3339.specs.Form.{IsDateTime}
use Rattle.rfc3339.specs.Meaning.{meaning, value_of, AreInRange}
use Rattle.rfc3339.specs.MeaningLemmas.{accepted_of}
use Rattle.rfc3339.specs.Reading.{parts_at, reading_of, reading_as}
use Rattle.rfc3339.specs.ReadingLemmas.{reading_of-parts, reading_of-spelled, reading_of-syntax, reading_of-accepted}
use Rattle.rfc3339.specs.TextLemmas.{front_again, parts_again}
use Rattle.local_texts.specs.LocalForms.{date_time_in_utc, IsLocalDateTime, value_at, meaning_as, or_else, reading_at}

-- ---- the same numbers

pub reading_of-same : (s t : List ℕ) → parts_at s ≡ parts_at t → reading_of s ≡ reading_of t
reading_of-same s t e = reading_of-parts s (parts_at t) e ∙ sym (reading_of-parts t (parts_at t) refl)

pub reading_of-none : (t : List ℕ) → parts_at t ≡ None → reading_of t ≡ Err Syntax
reading_of-none t e = reading_of-parts t None e

-- ---- a reading as another value

map_ok_iff : {A : Type 0} (value : Local → A) (r : Result Local TextRefusal) (P : Type 0) (v : Local) → OkIff r P v
    → OkIff (result_map_both value (λ refusal. refusal) r) P (value v)
map_ok_iff value (Ok at) P v h = (h.0, ap value h.1)
map_ok_iff value (Err refusal) P v h = h

map_if_ok : {A : Type 0} (value : Local → A) (r : Result Local TextRefusal) (P : Local → Type 0) (Q : A → Type 0)
    → ((at : Local) → P at → Q (value at)) → IfOk r P → IfOk (result_map_both value (λ refusal. refusal) r) Q
map_if_ok value (Ok at) P Q f h = f at h
map_if_ok value (Err refusal) P Q f h = tt

pub reading_as-spelled : {A : Type 0} (value : Local → A) (t : List ℕ) (p : Parts) → IsDateTime t p → reading_as value t ≡ meaning_as value p
reading_as-spelled value t p h = ap (result_map_both value (λ refusal. refusal)) (reading_of-spelled t p h)

pub reading_as-value : {A : Type 0} (value : Local → A) (t : List ℕ) (r : Result A TextRefusal) (p : Parts) → r ≡ reading_as value t → IsDateTime t p
    → OkIff r (AreInRange p) (value (value_of p))
reading_as-value value t r p e h =
    rw (e ∙ reading_as-spelled value t p h) (map_ok_iff value (meaning p) (AreInRange p) (value_of p) (accepted_of p (meaning p) refl))

pub reading_as-syntax : {A : Type 0} (value : Local → A) (t : List ℕ) → (reading_as value t ≡ Err Syntax) ⊎ ((p : Parts) × IsDateTime t p)
reading_as-syntax value t =
    elim (reading_of-syntax t) [
      | inl none ↦ inl (ap (result_map_both value (λ refusal. refusal)) none)
      | inr some ↦ inr some
    ]

pub reading_as-accepted : {A : Type 0} (value : Local → A) (t : List ℕ)
    → IfOk (reading_as value t) (λ shown. (p : Parts) × IsDateTime t p × AreInRange p × (shown ≡ value (value_of p)))
reading_as-accepted {A} value t =
    map_if_ok value (reading_of t) (λ at. (p : Parts) × IsDateTime t p × AreInRange p × (at ≡ value_of p))
    (λ (shown : A). (p : Parts) × IsDateTime t p × AreInRange p × (shown ≡ value (value_of p)))
    (λ at. λ h. (h.0, h.1, h.2, ap value h.3)) (reading_of-accepted t)

-- ---- with an offset or without

or_guard : (b : Bool) (part : Component) (r second : Result Local TextRefusal) → or_else r second ≡ r
    → or_else (cond b (Err (OutOfRange part)) r) second ≡ cond b (Err (OutOfRange part)) r
or_guard true part r second h = refl
or_guard false part r second h = h

-- the meaning of numbers is no syntax error
or_else-meaning : (p : Parts) (second : Result Local TextRefusal) → or_else (meaning p) second ≡ meaning p
unfolding meaning
or_else-meaning p second =
    let value : Result Local TextRefusal = Ok (value_of p) in
    let offset_minute : Result Local TextRefusal = cond (nat_lt 59 p.offset_minute) (Err (OutOfRange OffsetMinute)) value in
    let offset_hour : Result Local TextRefusal = cond (nat_lt 23 p.offset_hour) (Err (OutOfRange OffsetHour)) offset_minute in
    let at_second : Result Local TextRefusal = cond (nat_lt 59 p.second) (Err (OutOfRange Second)) offset_hour in
    let minute : Result Local TextRefusal = cond (nat_lt 59 p.minute) (Err (OutOfRange Minute)) at_second in
    let hour : Result Local TextRefusal = cond (nat_lt 23 p.hour) (Err (OutOfRange Hour)) minute in
    let no_day = nat_eq p.day 0 || nat_lt (days_in_month (is_leap_year (pos p.year)) p.month) p.day in
    let day : Result Local TextRefusal = cond no_day (Err (OutOfRange Day)) hour in
    let month : Result Local TextRefusal = cond (nat_eq p.month 0 || nat_lt 12 p.month) (Err (OutOfRange Month)) day in
    let in_offset_minute = or_guard (nat_lt 59 p.offset_minute) OffsetMinute value second refl in
    let in_offset = or_guard (nat_lt 23 p.offset_hour) OffsetHour offset_minute second in_offset_minute in
    let in_second = or_guard (nat_lt 59 p.second) Second offset_hour second in_offset in
    let in_minute = or_guard (nat_lt 59 p.minute) Minute at_second second in_second in
    let in_hour = or_guard (nat_lt 23 p.hour) Hour minute second in_minute in
    let in_day = or_guard no_day Day hour second in_hour in
    or_guard (nat_eq p.month 0 || nat_lt 12 p.month) Month day second in_day

pub reading_at-spelled : (offset : ℤ) (t : List ℕ) (p : Parts) → IsDateTime t p → reading_at offset t ≡ meaning p
reading_at-spelled offset t p h =
    let second = reading_as (λ at. wall_at at.wall offset) (date_time_in_utc t) in
    ap (λ (first : Result Local TextRefusal). or_else first second) (reading_of-spelled t p h) ∙ or_else-meaning p second

pub reading_at-own : (offset : ℤ) (t : List ℕ) (r : Result Local TextRefusal) (p : Parts) → r ≡ reading_at offset t → IsDateTime t p
    → OkIff r (AreInRange p) (value_of p)
reading_at-own offset t r p e h = accepted_of p r (e ∙ reading_at-spelled offset t p h)

-- no text has the form both with an offset and without
not_both : (t : List ℕ) (p q : Parts) → IsDateTime (t ++ codes "Z") p → IsDateTime t q → ⊥
unfolding parts_at
not_both t p q h k =
    let whole = rw (front_again t q (codes "Z") k) at (parts_again (t ++ codes "Z") p h) in absurd cc

syntax_of_local : (t : List ℕ) (p : Parts) → IsDateTime (t ++ codes "Z") p → reading_of t ≡ Err Syntax
syntax_of_local t p h =
    elim (reading_of-syntax t) [
      | inl none ↦ none
      | inr some ↦ absurd (not_both t p some.0 h some.1)
    ]

reading_at-local : (offset : ℤ) (t : List ℕ) (p : Parts) → IsLocalDateTime t p
    → reading_at offset t ≡ reading_as (λ at. wall_at at.wall offset) (date_time_in_utc t)
reading_at-local offset t p h =
    let second = reading_as (λ at. wall_at at.wall offset) (date_time_in_utc t) in
    ap (λ (first : Result Local TextRefusal). or_else first second) (syntax_of_local t p h)

pub reading_at-spelled_local : (offset : ℤ) (t : List ℕ) (p : Parts) → IsLocalDateTime t p
    → reading_at offset t ≡ meaning_as (λ at. wall_at at.wall offset) p
reading_at-spelled_local offset t p h =
    reading_at-local offset t p h ∙ reading_as-spelled (λ at. wall_at at.wall offset) (date_time_in_utc t) p h

pub reading_at-assumed : (offset : ℤ) (t : List ℕ) (r : Result Local TextRefusal) (p : Parts) → r ≡ reading_at offset t → IsLocalDateTime t p
    → OkIff r (AreInRange p) (value_at offset p)
reading_at-assumed offset t r p e h =
    reading_as-value (λ at. wall_at at.wall offset) (date_time_in_utc t) r p (e ∙ reading_at-local offset t p h) h

pub reading_at-syntax : (offset : ℤ) (t : List ℕ)
    → (reading_at offset t ≡ Err Syntax) ⊎ (((p : Parts) × IsDateTime t p) ⊎ ((p : Parts) × IsLocalDateTime t p))
reading_at-syntax offset t =
    let second = reading_as (λ at. wall_at at.wall offset) (date_time_in_utc t) in
    elim (reading_of-syntax t) [
      | inr own ↦ inr (inl own)
      | inl none ↦ elim (reading_as-syntax (λ at. wall_at at.wall offset) (date_time_in_utc t)) [
        | inr local ↦ inr (inr local)
        | inl none_too ↦ inl (ap (λ (first : Result Local TextRefusal). or_else first second) none ∙ none_too)
      ]
    ]

-- what is accepted has the form with an offset or without, in its ranges
either_accepted : (first second : Result Local TextRefusal) (P Q : Local → Type 0) → IfOk first P → IfOk second Q
    → IfOk (or_else first second) (λ at. P at ⊎ Q at)
either_accepted (Ok at) second P Q h k = inl h
either_accepted (Err Syntax) (Ok at) P Q h k = inr k
either_accepted (Err Syntax) (Err refusal) P Q h k = tt
either_accepted (Err (OutOfRange component)) second P Q h k = tt

pub reading_at-accepted : (offset : ℤ) (t : List ℕ)
    → IfOk (reading_at offset t) (λ at. ((p : Parts) × IsDateTime t p × AreInRange p × (at ≡ value_of p))
    ⊎ ((p : Parts) × IsLocalDateTime t p × AreInRange p × (at ≡ value_at offset p)))
reading_at-accepted offset t =
    either_accepted (reading_of t) (reading_as (λ at. wall_at at.wall offset) (date_time_in_utc t))
    (λ at. (p : Parts) × IsDateTime t p × AreInRange p × (at ≡ value_of p))
    (λ at. (p : Parts) × IsLocalDateTime t p × AreInRange p × (at ≡ value_at offset p))
    (reading_of-accepted t) (reading_as-accepted (λ at. wall_at at.wall offset) (date_time_in_utc t))
