-- Texts of RFC 3339 that are written and read: the proofs of the laws of `specs/TextLaws.antt`.
use Rattle.std.proofs.Common.{◌≡◌, ◌∙◌, ◌||◌, ℕ, Bool, true, false, inl, inr, refl, sym, ap, arith, List, Option, Some, None, ℤ, pos, ◌≤ℤ◌, Result, Ok, Err}
use Rattle.std.specs.Prelude.{if◌then◌else◌}
use Rattle.std.proofs.lemmas.Bool.Decides.{nat_tests}
use Rattle.std.proofs.lemmas.Int.{ints}
use Rattle.calendar_values.specs.Calendar.{year_of}
use Rattle.calendar_values.specs.Range.{is_outside}
use Rattle.calendar_values.specs.WallClock.{wall_day}
use Rattle.offset_times.specs.InstantLemmas.{instant_of-utc}
use Rattle.offset_times.specs.Local.{Local, local_in_utc, instant_of}
use Rattle.rfc3339.specs.FullDateLemmas.{full_date_reading_of-spelled, full_date_reading_of-written}
use Rattle.rfc3339.specs.FullDates.{IsFullDate, HasFullDate, full_date_text, full_date_reading_of}
use Rattle.rfc3339.specs.Reading.{parts_at, reading_of}
use Rattle.rfc3339.specs.ReadingLemmas.{reading_of-parts, reading_of-spelled, reading_of-syntax, reading_of-written, reading_of-written_fixed}
use Rattle.rfc3339.specs.Texts.{HasText, HasFixedText, rfc3339_text, fixed_text}
use Rattle.rfc3339.specs.declared.parts.Parts.{Parts}
use Rattle.rfc3339.specs.declared.refusal.TextRefusal.{TextRefusal}
use Rattle.rfc3339.specs.declared.refusal.TextRefusal.TheVariants.{Syntax}
use Rattle.muxandu_c.proofs.InversionLemmas.{and_then-ok, tested-ok, inside, between, date_value-ok, date_time_value-ok, timestamp_value-ok}
use Rattle.muxandu_c.proofs.ReadBackLemmas.{date_parts-of}
use Rattle.muxandu_c.proofs.WrittenTextLemmas.{HasText-of}
use Rattle.muxandu_c.specs.Answers.{and_then, text_as_refused}
use Rattle.muxandu_c.specs.DateTexts.{date_to_rfc3339, date_spelled, full_date_of}
use Rattle.muxandu_c.specs.Exchange.{date_time_to_rfc3339, timestamp_to_rfc3339, timestamp_to_rfc3339_nanos, IsRead, rfc3339_of, fixed_rfc3339_of}
use Rattle.muxandu_c.specs.Exchange.{year_has_no_text, offset_has_no_text}
use Rattle.muxandu_c.specs.TextBatches.{date_time_read, date_time_if_any}
use Rattle.muxandu_c.specs.TextLaws.{TextsReadBack, TextsOfRange}
use Rattle.muxandu_c.specs.Values.{date_time_value, date_time_parts, timestamp_value, timestamp_parts, day_from_date, date_parts, as_date_time}
use Rattle.muxandu_c.specs.declared.refused.Refused.{Refused}
use Rattle.muxandu_c.specs.declared.refused.Refused.TheVariants as refused
use Rattle.muxandu_c.specs.declared.values.MuxanduDate.{MuxanduDate}
use Rattle.muxandu_c.specs.declared.values.MuxanduDateTime.{MuxanduDateTime}
use Rattle.muxandu_c.specs.declared.values.MuxanduTimestamp.{MuxanduTimestamp}

-- the text that a value has, by a test that is true if it has none
text-ok : (fails : Bool) (x text : List ℕ) → (if fails then Err refused.NoText else Ok x) ≡ Ok text → (fails ≡ false) × (x ≡ text)
text-ok fails x text e = tested-ok fails refused.NoText x text e

-- a text that is read
no_reading : (at : Local) → ◌≡◌ {A = Result Local TextRefusal} (Err Syntax) (Ok at) → ⊥
no_reading at e = absurd cc

read_back : (text : List ℕ) (at : Local) → reading_of text ≡ Ok at → date_time_read text ≡ Ok (date_time_parts at)
read_back text at e = choose (parts_at text) refl where
  choose : (o : Option Parts) → parts_at text ≡ o → date_time_if_any o ≡ Ok (date_time_parts at)
  choose None same = absurd (no_reading at (sym (reading_of-parts text None same) ∙ e))
  choose (Some p) same = ap (λ (r : Result Local TextRefusal). as_date_time (text_as_refused p.day r)) (sym (reading_of-parts text (Some p) same) ∙ e)

read_stamp : (text : List ℕ) (at : Local) (answer : Result MuxanduTimestamp Refused) → reading_of text ≡ Ok at → IsRead text answer
    → answer ≡ Ok (timestamp_parts (instant_of at))
read_stamp text at answer e read =
    elim (reading_of-syntax text) [
      | inl syntax ↦ absurd (no_reading at (sym syntax ∙ e))
      | inr form ↦ read.spelled form.0 form.1 ∙ ap (λ (r : Result Local TextRefusal).
          and_then (text_as_refused form.0.day r) (λ (l : Local). Ok (timestamp_parts (instant_of l)))) (sym (reading_of-spelled text form.0 form.1) ∙ e)
    ]

-- what a written text says of the value
written-ok : (at : Local) (text : List ℕ) → rfc3339_of at ≡ Ok text → reading_of text ≡ Ok at
written-ok at text e =
    let made = text-ok (year_has_no_text at.wall || offset_has_no_text at.offset) (rfc3339_text at) text e in
    rw (← made.1) (reading_of-written at (HasText-of at made.0))

fixed-ok : (i : ℤ) (text : List ℕ) → fixed_rfc3339_of i ≡ Ok text → reading_of text ≡ Ok (local_in_utc i)
fixed-ok i text e =
    let made = text-ok (year_has_no_text i) (fixed_text i) text e in
    let year = between (pos 0) (pos 9_999) (year_of (wall_day i)) made.0 in
    rw (← made.1) (reading_of-written_fixed i (record { year_first = year.0; year_last = year.1 }))

texts-date_time : (v : MuxanduDateTime) (text : List ℕ) → date_time_to_rfc3339 v ≡ Ok text → date_time_read text ≡ Ok v
texts-date_time v text e =
    let at = and_then-ok (date_time_value v) rfc3339_of text e in
    read_back text at.0 (written-ok at.0 text at.2) ∙ ap (λ (z : MuxanduDateTime). Ok z) (date_time_value-ok v at.0 at.1).parts

stamp_back : (v : MuxanduTimestamp) (i : ℤ) → timestamp_value v ≡ Ok i → timestamp_parts (instant_of (local_in_utc i)) ≡ v
stamp_back v i e = ap timestamp_parts (instant_of-utc i) ∙ (timestamp_value-ok v i e).parts

texts-timestamp : (v : MuxanduTimestamp) (text : List ℕ) (answer : Result MuxanduTimestamp Refused) → timestamp_to_rfc3339 v ≡ Ok text
    → IsRead text answer → answer ≡ Ok v
texts-timestamp v text answer e read =
    let at = and_then-ok (timestamp_value v) (λ (i : ℤ). rfc3339_of (local_in_utc i)) text e in
    read_stamp text (local_in_utc at.0) answer (written-ok (local_in_utc at.0) text at.2) read
    ∙ ap (λ (z : MuxanduTimestamp). Ok z) (stamp_back v at.0 at.1)

texts-nanoseconds : (v : MuxanduTimestamp) (text : List ℕ) (answer : Result MuxanduTimestamp Refused) → timestamp_to_rfc3339_nanos v ≡ Ok text
    → IsRead text answer → answer ≡ Ok v
texts-nanoseconds v text answer e read =
    let at = and_then-ok (timestamp_value v) fixed_rfc3339_of text e in
    read_stamp text (local_in_utc at.0) answer (fixed-ok at.0 text at.2) read ∙ ap (λ (z : MuxanduTimestamp). Ok z) (stamp_back v at.0 at.1)

texts-date : (v : MuxanduDate) (text : List ℕ) (year month day : ℕ) → date_to_rfc3339 v ≡ Ok text → IsFullDate text year month day
    → date_spelled year month day ≡ Ok v
texts-date v text year month day e form =
    let n = and_then-ok (day_from_date v) full_date_of text e in
    let made = text-ok (is_outside (pos 0) (pos 9_999) (year_of n.0)) (full_date_text n.0) text n.2 in
    let ends = between (pos 0) (pos 9_999) (year_of n.0) made.0 in
    let reading = sym (full_date_reading_of-spelled text year month day form) ∙ ap full_date_reading_of (sym made.1)
    ∙ full_date_reading_of-written n.0 (record { year_first = ends.0; year_last = ends.1 }) in
    ap (λ (r : Result ℤ TextRefusal). and_then (text_as_refused day r) (λ (n : ℤ). Ok (date_parts n))) reading
    ∙ ap (λ (z : MuxanduDate). Ok z) (date_parts-of v n.0 (date_value-ok v.year v.month v.day n.0 n.1).shows)

pub texts : TextsReadBack
texts = record { date_time = texts-date_time; timestamp = texts-timestamp; nanoseconds = texts-nanoseconds; date = texts-date }

-- a test that is true exactly if there is no text
no_text : (t : Bool) (P : Type 0) → (t ≡ false → P) → ¬ P → t ≡ true
no_text true P has not = refl
no_text false P has not = absurd (not (has refl))

has_text : (at : Local) → HasText at → (year_has_no_text at.wall || offset_has_no_text at.offset) ≡ false
has_text at h = grind (arith, nat_tests, ints, h.year_first, h.year_last, h.whole_minutes, h.below_a_day)

year-test : (y : ℤ) → is_outside (pos 0) (pos 9_999) y ≡ false → (pos 0 ≤ℤ y) × (y ≤ℤ pos 9_999)
year-test y t = between (pos 0) (pos 9_999) y t

after-value : {A : Type 0} (x : A) (next : A → Result (List ℕ) Refused) (r : Result A Refused) → r ≡ Ok x → and_then r next ≡ next x
after-value {A} x next r e = ap (λ (z : Result A Refused). and_then z next) e

pub texts_of_range : TextsOfRange
texts_of_range = record {
  date_time = λ v at e h. after-value at rfc3339_of (date_time_value v) e ∙ rw (has_text at h) refl;
  no_date_time = λ v at e h. after-value at rfc3339_of (date_time_value v) e ∙ rw (no_text _ (HasText at) (HasText-of at) h) refl;
  nanoseconds = λ v i e h. after-value i fixed_rfc3339_of (timestamp_value v) e
      ∙ rw (inside (pos 0) (pos 9_999) (year_of (wall_day i)) h.year_first h.year_last) refl;
  no_nanoseconds = λ v i e h. after-value i fixed_rfc3339_of (timestamp_value v) e
      ∙ rw (no_text _ (HasFixedText i) (λ t. record { year_first = (year-test _ t).0; year_last = (year-test _ t).1 }) h) refl;
  date = λ v n e h. after-value n full_date_of (day_from_date v) e ∙ rw (inside (pos 0) (pos 9_999) (year_of n) h.year_first h.year_last) refl;
  no_date = λ v n e h. after-value n full_date_of (day_from_date v) e
      ∙ rw (no_text _ (HasFullDate n) (λ t. record { year_first = (year-test _ t).0; year_last = (year-test _ t).1 }) h) refl;
}
