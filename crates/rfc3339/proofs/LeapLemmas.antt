-- What a text is read as whose second may be 60.
use Rattle.std.proofs.Common.{◌≡◌, ℕ, ◌≤◌, Bool, true, false, nat_eq, List, Option, Some, None, refl, sym, ap, subst, ◌∙◌, inl, inr, arith, Result, Ok, Err}
use Rattle.std.proofs.Common.{ℤ}
use Rattle.std.specs.Prelude.{◌⊎◌, IfOk, OkIff}
use Rattle.std.proofs.lemmas.Bool.{eqb-true}
use Rattle.std.proofs.lemmas.Bool.Decides.{nat_tests}
use Rattle.calendar_values.specs.WallClock.{IsWallClock}
use Rattle.offset_times.specs.Local.{Local, instant_of}
use Rattle.rfc3339.specs.declared.parts.Parts.{Parts}
use Rattle.rfc3339.specs.declared.refusal.Component.TheVariants.{Second}
use Rattle.rfc3339.specs.declared.refusal.TextRefusal.{TextRefusal}
use Rattle.rfc3339.specs.declared.refusal.TextRefusal.TheVariants.{Syntax, OutOfRange}
use Rattle.rfc3339.proofs.FrontLemmas.{has_text_of-front}
use Rattle.rfc3339.specs.Form.{IsDateTime}
use Rattle.rfc3339.specs.LeapSecondLemmas.{is_last_of_month-is, is_last_of_month-finds}
use Rattle.rfc3339.specs.LeapSeconds.{IsLastOfMonth, is_last_of_month, stand_in, AreInLeapRange, leap_outcome, leap_meaning}
use Rattle.rfc3339.specs.LeapSeconds.{leap_meaning_if_any, leap_reading_of}
use Rattle.rfc3339.specs.Meaning.{AreInRange, value_of, meaning}
use Rattle.rfc3339.specs.MeaningLemmas.{meaning-ok, meaning-in_range}
use Rattle.rfc3339.specs.ReadInstantLemmas.{instant_of-in_range}
use Rattle.rfc3339.specs.Reading.{reading_of, parts_at}
use Rattle.rfc3339.specs.ReadingLemmas.{reading_of-accepted, reading_of-spelled}
use Rattle.rfc3339.specs.TextLemmas.{parts_takes, parts_again}
use Rattle.rfc3339.specs.Texts.{HasText}

-- ---- what the numbers mean

accepted_outcome : (is_leap : Bool) (at : Local) → (is_leap ≡ true → IsLastOfMonth (instant_of at)) → leap_outcome is_leap (Ok at) ≡ Ok (at, is_leap)
accepted_outcome false at h = refl
accepted_outcome true at h = rw (is_last_of_month-finds (instant_of at) (h refl)) refl

pub leap_meaning-in_range : (p : Parts) → AreInLeapRange p → leap_meaning p ≡ Ok (value_of (stand_in p), nat_eq p.second 60)
unfolding leap_meaning
leap_meaning-in_range p h =
    rw (meaning-in_range (stand_in p) h.in_range)
    (accepted_outcome (nat_eq p.second 60) (value_of (stand_in p)) (λ t. h.last_of_month (eqb-true p.second 60 t)))

-- what is accepted is as it was, with the mark, and the mark is right
outcome-ok : (is_leap last : Bool) (m : Result Local TextRefusal) (x : Local × Bool) → leap_outcome is_leap m ≡ Ok x
    → (m ≡ Ok x.0) × (x.1 ≡ is_leap) × (is_leap ≡ true → IsLastOfMonth (instant_of x.0))
outcome-ok is_leap last (Err d) x e = absurd cc
outcome-ok false last (Ok at) x e = let same : x ≡ (at, false) = cc in rw same (refl, refl, λ f. absurd cc)
outcome-ok true last (Ok at) x e = choose (is_last_of_month (instant_of at)) refl where
  choose : (t : Bool) → is_last_of_month (instant_of at) ≡ t
      → (◌≡◌ {A = Result Local TextRefusal} (Ok at) (Ok x.0)) × (x.1 ≡ true) × (true ≡ true → IsLastOfMonth (instant_of x.0))
  choose true t =
      let f : ◌≡◌ {A = Result (Local × Bool) TextRefusal} (Ok (at, true)) (Ok x) = rw t at e in
      let same : x ≡ (at, true) = cc in
      rw same (refl, refl, λ g. is_last_of_month-is (instant_of at) t)
  choose false t = let f : ◌≡◌ {A = Result (Local × Bool) TextRefusal} (Err (OutOfRange Second)) (Ok x) = rw t at e in absurd cc

pub leap_meaning-ok : (p : Parts) (x : Local × Bool) → leap_meaning p ≡ Ok x
    → AreInLeapRange p × (x.0 ≡ value_of (stand_in p)) × (x.1 ≡ nat_eq p.second 60)
unfolding leap_meaning
leap_meaning-ok p x e =
    let outcome = outcome-ok (nat_eq p.second 60) true (meaning (stand_in p)) x e in
    let ok = meaning-ok (stand_in p) x.0 outcome.0 in
    (record { in_range = ok.0; last_of_month = last outcome.2 ok.1 }, ok.1, outcome.1) where
      last : (nat_eq p.second 60 ≡ true → IsLastOfMonth (instant_of x.0)) → x.0 ≡ value_of (stand_in p) → p.second ≡ 60
          → IsLastOfMonth (instant_of (value_of (stand_in p)))
      last h same s =
          let is_60 : nat_eq p.second 60 ≡ true = rw s refl in
          subst (λ (at : Local). IsLastOfMonth (instant_of at)) same (h is_60)

-- ---- where the second is 60

-- the last nanosecond of the minute
abbrev last_nanosecond : Parts → Parts
last_nanosecond p = record {
  year = p.year;
  month = p.month;
  day = p.day;
  hour = p.hour;
  minute = p.minute;
  second = 59;
  nanosecond = 999_999_999;
  is_west = p.is_west;
  offset_hour = p.offset_hour;
  offset_minute = p.offset_minute;
}

leap_meaning-sixty : (p : Parts) → p.second ≡ 60 → leap_meaning p ≡ leap_outcome true (meaning (last_nanosecond p))
unfolding leap_meaning
leap_meaning-sixty p s = let is_60 : nat_eq p.second 60 ≡ true = rw s refl in rw is_60 refl

pub leap_second-value : (p : Parts) (at : Local) → p.second ≡ 60 → Ok at ≡ meaning (last_nanosecond p) → is_last_of_month (instant_of at) ≡ true
    → Ok (at, true) ≡ leap_meaning p
leap_second-value p at s e t =
    let value : leap_outcome true (Ok at) ≡ Ok (at, true) = rw t refl in
    sym (leap_meaning-sixty p s ∙ ap (leap_outcome true) (sym e) ∙ value)

pub leap_second-none : (p : Parts) (at : Local) → p.second ≡ 60 → Ok at ≡ meaning (last_nanosecond p) → is_last_of_month (instant_of at) ≡ false
    → Err (OutOfRange Second) ≡ leap_meaning p
leap_second-none p at s e t =
    let value : leap_outcome true (Ok at) ≡ Err (OutOfRange Second) = rw t refl in
    sym (leap_meaning-sixty p s ∙ ap (leap_outcome true) (sym e) ∙ value)

pub leap_second-refused : (p : Parts) (d : TextRefusal) → p.second ≡ 60 → Err d ≡ meaning (last_nanosecond p) → Err d ≡ leap_meaning p
leap_second-refused p d s e = sym (leap_meaning-sixty p s ∙ ap (leap_outcome true) (sym e))

pub leap_second-has_text : (p : Parts) (at : Local) → Ok at ≡ meaning (last_nanosecond p) → p.year ≤ 9_999 → HasText at
leap_second-has_text p at e y = has_text_of-front (last_nanosecond p) at e (omega arith) y

-- and where it is not
leap_meaning-other : (p : Parts) → ¬ (p.second ≡ 60) → leap_meaning p ≡ leap_outcome false (meaning p)
unfolding leap_meaning
leap_meaning-other p h = let other : nat_eq p.second 60 ≡ false = grind (arith, nat_tests) in rw other refl

pub other_second-value : (p : Parts) (at : Local) → ¬ (p.second ≡ 60) → Ok at ≡ meaning p → Ok (at, false) ≡ leap_meaning p
other_second-value p at other e = sym (leap_meaning-other p other ∙ ap (leap_outcome false) (sym e))

pub other_second-refused : (p : Parts) (d : TextRefusal) → ¬ (p.second ≡ 60) → Err d ≡ meaning p → Err d ≡ leap_meaning p
other_second-refused p d other e = sym (leap_meaning-other p other ∙ ap (leap_outcome false) (sym e))

-- ---- a text

leap_reading_of-parts : (text : List ℕ) (o : Option Parts) → parts_at text ≡ o → leap_reading_of text ≡ leap_meaning_if_any o
unfolding leap_reading_of
leap_reading_of-parts text o e = ap leap_meaning_if_any e

-- a text that spells numbers is read as what they mean
pub leap_reading_of-some : (text : List ℕ) (p : Parts) → Some p ≡ parts_at text → leap_meaning p ≡ leap_reading_of text
leap_reading_of-some text p e = sym (leap_reading_of-parts text (Some p) (sym e))

pub leap_reading_of-none : (text : List ℕ) → None ≡ parts_at text → Err Syntax ≡ leap_reading_of text
leap_reading_of-none text e = sym (leap_reading_of-parts text None (sym e))

pub leap_reading_of-spelled : (text : List ℕ) (p : Parts) → IsDateTime text p → leap_reading_of text ≡ leap_meaning p
leap_reading_of-spelled text p h = leap_reading_of-parts text (Some p) (parts_again text p h)

pair_is : (x : Local × Bool) (at : Local) (mark : Bool) → x.0 ≡ at → x.1 ≡ mark → x ≡ (at, mark)
pair_is (read, marked) at mark e f = rw (e, f) refl

accepted_of : (p : Parts) (r : Result (Local × Bool) TextRefusal) → r ≡ leap_meaning p → OkIff r (AreInLeapRange p) (value_of (stand_in p), nat_eq p.second 60)
accepted_of p (Ok x) e =
    let ok = leap_meaning-ok p x (sym e) in (ok.0, pair_is x (value_of (stand_in p)) (nat_eq p.second 60) ok.1 ok.2)
accepted_of p (Err d) e = λ h. let bad = e ∙ leap_meaning-in_range p h in absurd cc

pub accepted_leap : (text : List ℕ) (r : Result (Local × Bool) TextRefusal) → r ≡ leap_reading_of text → (p : Parts) → IsDateTime text p
    → OkIff r (AreInLeapRange p) (value_of (stand_in p), nat_eq p.second 60)
accepted_leap text r e p h = accepted_of p r (e ∙ leap_reading_of-spelled text p h)

-- any other is refused for its form
syntax_of : (text : List ℕ) (o : Option Parts) → parts_at text ≡ o → (leap_reading_of text ≡ Err Syntax) ⊎ ((p : Parts) × IsDateTime text p)
syntax_of text None e = inl (leap_reading_of-parts text None e)
syntax_of text (Some p) e = inr (p, parts_takes text p e)

pub syntax_leap : (text : List ℕ) (r : Result (Local × Bool) TextRefusal) → r ≡ leap_reading_of text
    → (r ≡ Err Syntax) ⊎ ((p : Parts) × IsDateTime text p)
syntax_leap text r e = rw e (syntax_of text (parts_at text) refl)

-- what is read is spelled by numbers that mean it
spelled_of : (text : List ℕ) (o : Option Parts) (x : Local × Bool) → parts_at text ≡ o → leap_reading_of text ≡ Ok x
    → (p : Parts) × IsDateTime text p × (leap_meaning p ≡ Ok x)
spelled_of text None x e r = let bad = sym (leap_reading_of-parts text None e) ∙ r in absurd cc
spelled_of text (Some p) x e r = (p, parts_takes text p e, sym (leap_reading_of-parts text (Some p) e) ∙ r)

pub leap_reading_of-accepted : (text : List ℕ) (x : Local × Bool) → leap_reading_of text ≡ Ok x
    → (p : Parts) × IsDateTime text p × (leap_meaning p ≡ Ok x)
leap_reading_of-accepted text x r = spelled_of text (parts_at text) x refl r

-- and they are in their ranges
pub spelled_leap : (text : List ℕ) (r : Result (Local × Bool) TextRefusal) → r ≡ leap_reading_of text
    → IfOk r (λ read. (p : Parts) × IsDateTime text p × AreInLeapRange p × (read ≡ (value_of (stand_in p), nat_eq p.second 60)))
spelled_leap text (Err d) e = tt
spelled_leap text (Ok x) e =
    let read = leap_reading_of-accepted text x (sym e) in
    let ok = leap_meaning-ok read.0 x read.2 in
    (read.0, read.1, ok.0, pair_is x (value_of (stand_in read.0)) (nat_eq read.0.second 60) ok.1 ok.2)

-- with the mark it is the last nanosecond of a month
pub marked_leap : (text : List ℕ) (r : Result (Local × Bool) TextRefusal) → r ≡ leap_reading_of text
    → IfOk r (λ read. read.1 ≡ true → IsLastOfMonth (instant_of read.0))
marked_leap text (Err d) e = tt
marked_leap text (Ok x) e =
    let read = leap_reading_of-accepted text x (sym e) in
    let ok = leap_meaning-ok read.0 x read.2 in
    λ t. rw ok.1 (ok.0.last_of_month (eqb-true read.0.second 60 (sym ok.2 ∙ t)))

-- without the mark it is what is read where no second may be 60
pub unmarked_leap : (text : List ℕ) (r : Result (Local × Bool) TextRefusal) → r ≡ leap_reading_of text
    → IfOk r (λ read. read.1 ≡ false → reading_of text ≡ Ok read.0)
unmarked_leap text (Err d) e = tt
unmarked_leap text (Ok x) e =
    let read = leap_reading_of-accepted text x (sym e) in
    let p = read.0 in
    let ok = leap_meaning-ok p x read.2 in
    λ f. let other : nat_eq p.second 60 ≡ false = sym ok.2 ∙ f in
    let range = rw other at ok.0.in_range in
    let value = rw other at ok.1 in
    reading_of-spelled text p read.1 ∙ meaning-in_range p range ∙ ap Ok (sym value)

-- where the second is not 60, the numbers are what they were
leap_meaning-low : (p : Parts) (at : Local) → p.second ≤ 59 → meaning p ≡ Ok at → leap_meaning p ≡ Ok (at, false)
leap_meaning-low p at low e = sym (other_second-value p at (omega arith) (sym e))

same_of : (text : List ℕ) (at : Local) (r : Result Local TextRefusal) → reading_of text ≡ r → r ≡ Ok at
    → IfOk r (λ at. (p : Parts) × IsDateTime text p × AreInRange p × (at ≡ value_of p)) → leap_reading_of text ≡ Ok (at, false)
same_of text at (Err d) e f h = absurd cc
same_of text at (Ok read) e f h =
    let p = h.0 in
    let means : meaning p ≡ Ok at = sym (reading_of-spelled text p h.1) ∙ e ∙ f in
    leap_reading_of-spelled text p h.1 ∙ leap_meaning-low p at h.2.second means

pub same_leap : (text : List ℕ) (r : Result (Local × Bool) TextRefusal) → r ≡ leap_reading_of text → (at : Local) → reading_of text ≡ Ok at
    → r ≡ Ok (at, false)
same_leap text r e at f = e ∙ same_of text at (reading_of text) refl f (reading_of-accepted text)

-- where no month ends with it, a second of 60 is refused
not_last : (i : ℤ) → ¬ IsLastOfMonth i → is_last_of_month i ≡ false
not_last i h = choose (is_last_of_month i) refl where
  choose : (t : Bool) → is_last_of_month i ≡ t → is_last_of_month i ≡ false
  choose true t = absurd (h (is_last_of_month-is i t))
  choose false t = t

pub leap_meaning-refused : (p : Parts) → p.second ≡ 60 → AreInRange (stand_in p) → ¬ IsLastOfMonth (instant_of (value_of (stand_in p)))
    → leap_meaning p ≡ Err (OutOfRange Second)
unfolding leap_meaning
leap_meaning-refused p s r h =
    let is_60 : nat_eq p.second 60 ≡ true = rw s refl in
    let refused = not_last (instant_of (value_of (stand_in p))) h in
    ap (leap_outcome (nat_eq p.second 60)) (meaning-in_range (stand_in p) r) ∙ rw (is_60, rw is_60 at refused) refl

pub refused_leap : (text : List ℕ) (r : Result (Local × Bool) TextRefusal) → r ≡ leap_reading_of text → (p : Parts) → IsDateTime text p
    → p.second ≡ 60 → AreInRange (stand_in p) → ¬ IsLastOfMonth (instant_of (value_of (stand_in p))) → r ≡ Err (OutOfRange Second)
refused_leap text r e p h s q n = e ∙ leap_reading_of-spelled text p h ∙ leap_meaning-refused p s q n

-- its instant lies in the range
pub instant_in_range : (r : Result (Local × Bool) TextRefusal) → IfOk r (λ read. HasText read.0) → IfOk r (λ read. IsWallClock (instant_of read.0))
instant_in_range (Ok read) h = instant_of-in_range read.0 h
instant_in_range (Err refusal) h = tt
