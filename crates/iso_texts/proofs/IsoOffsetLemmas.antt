-- Offsets: a text that is read is derived, and a text that is derived is read.
use Rattle.std.proofs.Common.{◌≡◌, inl, inr, ℕ, ◌<◌, Bool, true, false, List, [], ◌∷◌, ◌++◌, append-nil, Some, refl}
use Rattle.std.proofs.Common.{sym, ap, subst, ◌∙◌, arith}
use Rattle.std.specs.Prelude.{codes, nat_lt, ◌⊎◌}
use Rattle.std.proofs.lemmas.Bool.Decides.{nat_tests}
use Rattle.std.proofs.lemmas.Bool.{cases_Bool}
use Rattle.std.proofs.lemmas.Option.{same_Some}
use Rattle.calendar_values.specs.Digits.{last_digits}
use Rattle.rfc3339.specs.Form.{IsOffsetText}
use Rattle.rfc3339.specs.FormLemmas.{bind_some, part_takes, part_again}
use Rattle.rfc3339.specs.FractionLemmas.{TakesOffset, EndsFraction, zone_takes, zone_again, offset_ends}
use Rattle.rfc3339.specs.Reading.{◌>>=◌, part_at, zone_at, with_no_rest}
use Rattle.iso_texts.specs.IsoForms.{hours_and_minutes, IsIsoOffsetText, to_minute, to_second}
use Rattle.iso_texts.specs.IsoReading.{if_below_60, seconds_at, seconds_on, begins_with_sign, iso_offset_at}

pub ended : {A : Type 0} (x y : A) (bytes : List ℕ) → with_no_rest x bytes ≡ Some y → (bytes ≡ []) × (x ≡ y)
ended x y [] e = (refl, same_Some x y e)
ended x y (first ∷ bytes) e = absurd cc

below_60 : (n second : ℕ) → if_below_60 n ≡ Some second → (n ≡ second) × (second < 60)
below_60 n second e = elim (cases_Bool (nat_lt n 60)) [
  | inl t ↦ let same = same_Some n second (rw t at e) in (same, grind (arith, nat_tests))
  | inr t ↦ let none = rw t at e in absurd cc
]

-- the seconds: none, or `:` and two digits
seconds_take : (bytes : List ℕ) (second : ℕ) → seconds_at bytes ≡ Some second
    → ((bytes ≡ []) × (second ≡ 0)) ⊎ ((bytes ≡ codes ":" ++ last_digits 2 second) × (second < 60))
unfolding seconds_at
seconds_take [] second e = inl (refl, sym (same_Some 0 second e))
seconds_take (first ∷ bytes) second e =
    let a = bind_some (part_at 58 (first ∷ bytes)) (λ s. if_below_60 s.0 >>= λ below. with_no_rest below s.1) _ e in
    let b = bind_some (if_below_60 a.0.0) (λ below. with_no_rest below a.0.1) _ a.2 in
    let end = ended b.0 second a.0.1 b.2 in
    let low = below_60 a.0.0 b.0 b.1 in
    let t = part_takes 58 (first ∷ bytes) a.0.0 a.0.1 a.1 in
    let same : a.0.0 ≡ second = low.0 ∙ end.1 in
    inr (t.parts ∙ rw (same, end.0) (append-nil _), grind (arith, low.1, end.1))

-- what begins with a sign has hours and minutes
pub signed_offset : (text rest : List ℕ) (is_west : Bool) (hour minute : ℕ) → IsOffsetText text is_west hour minute → begins_with_sign (text ++ rest) ≡ true
    → text ≡ hours_and_minutes is_west hour minute
signed_offset text rest is_west hour minute (inl (inl upper, _, _, _)) h = let no = rw upper at h in absurd cc
signed_offset text rest is_west hour minute (inl (inr lower, _, _, _)) h = let no = rw lower at h in absurd cc
signed_offset text rest is_west hour minute (inr e) h = e

pub record IsIsoOffset (text : List ℕ) (is_west : Bool) (hour minute second : ℕ) : Type 0 where
  pub is : IsIsoOffsetText text is_west hour minute second
  pub hour_fits : hour < 100
  pub minute_fits : minute < 100

offset_of_zone : (text first rest : List ℕ) (is_west : Bool) (hour minute second : ℕ) (is_signed : Bool) → begins_with_sign text ≡ is_signed
    → TakesOffset text first is_west hour minute rest → seconds_on is_signed rest ≡ Some second → IsIsoOffsetText text is_west hour minute second
offset_of_zone text first rest is_west hour minute second false b t e =
    let end = ended 0 second rest e in
    let whole : text ≡ first = t.parts ∙ ap (λ (z : List ℕ). first ++ z) end.0 ∙ append-nil first in
    to_minute (subst (λ (z : List ℕ). IsOffsetText z is_west hour minute) (sym whole) t.is) (sym end.1)
offset_of_zone text first rest is_west hour minute second true b t e =
    elim (seconds_take rest second e) [
      | inl none ↦
          let whole : text ≡ first = t.parts ∙ ap (λ (z : List ℕ). first ++ z) none.0 ∙ append-nil first in
          to_minute (subst (λ (z : List ℕ). IsOffsetText z is_west hour minute) (sym whole) t.is) none.1
      | inr some ↦
          let numbers = signed_offset first rest is_west hour minute t.is (ap begins_with_sign (sym t.parts) ∙ b) in
          to_second (t.parts ∙ ap (λ (z : List ℕ). z ++ rest) numbers ∙ ap (λ (z : List ℕ). hours_and_minutes is_west hour minute ++ z) some.0) some.1
    ]

pub iso_offset_takes : (text : List ℕ) (is_west : Bool) (hour minute second : ℕ) → iso_offset_at text ≡ Some ((is_west, hour, minute), second)
    → IsIsoOffset text is_west hour minute second
unfolding iso_offset_at
iso_offset_takes text is_west hour minute second e =
    let a = bind_some (zone_at text) (λ zone. seconds_on (begins_with_sign text) zone.1 >>= λ s. Some (zone.0, s)) _ e in
    let b = bind_some (seconds_on (begins_with_sign text) a.0.1) (λ s. Some (a.0.0, s)) _ a.2 in
    let g = same_Some (a.0.0, b.0) ((is_west, hour, minute), second) b.2 in
    let zone : a.0.0 ≡ (is_west, hour, minute) = ap (λ (x : (Bool × ℕ × ℕ) × ℕ). x.0) g in
    let last : b.0 ≡ second = ap (λ (x : (Bool × ℕ × ℕ) × ℕ). x.1) g in
    let z = zone_takes text a.0.0.0 a.0.0.1 a.0.0.2 a.0.1 a.1 in
    let t : TakesOffset text z.0 is_west hour minute a.0.1 =
    subst (λ (w : Bool × ℕ × ℕ). TakesOffset text z.0 w.0 w.1 w.2 a.0.1) zone z.1 in
    record {
      is = offset_of_zone text z.0 a.0.1 is_west hour minute second (begins_with_sign text) refl t (b.1 ∙ ap Some last);
      hour_fits = t.hour_fits;
      minute_fits = t.minute_fits;
    }

no_seconds : (is_signed : Bool) → seconds_on is_signed [] ≡ Some 0
unfolding seconds_at
no_seconds true = refl
no_seconds false = refl

pub signed : (is_west : Bool) (hour minute : ℕ) (bytes : List ℕ) → begins_with_sign (hours_and_minutes is_west hour minute ++ bytes) ≡ true
signed true hour minute bytes = refl
signed false hour minute bytes = refl

is_below_60 : (n : ℕ) → n < 60 → if_below_60 n ≡ Some n
is_below_60 n low = let t : nat_lt n 60 ≡ true = grind (arith, nat_tests) in rw t refl

seconds_again : (second : ℕ) → second < 60 → seconds_at (codes ":" ++ last_digits 2 second) ≡ Some second
unfolding seconds_at
seconds_again second low =
    let digits = rw (append-nil (last_digits 2 second)) at (part_again 58 second [] (omega arith)) in
    rw (digits, is_below_60 second low) refl

pub iso_offset_again : (text : List ℕ) (is_west : Bool) (hour minute second : ℕ) → IsIsoOffsetText text is_west hour minute second → hour < 100 → minute < 100
    → iso_offset_at text ≡ Some ((is_west, hour, minute), second)
unfolding iso_offset_at
iso_offset_again text is_west hour minute second (to_minute is none) h m =
    let zone = rw (append-nil text) at (zone_again text is_west hour minute [] is h m) in
    rw (zone, no_seconds (begins_with_sign text), none) refl
iso_offset_again text is_west hour minute second (to_second e low) h m =
    let after = codes ":" ++ last_digits 2 second in
    let zone = zone_again (hours_and_minutes is_west hour minute) is_west hour minute after (inr refl) h m in
    rw (e, zone, signed is_west hour minute after, seconds_again second low) refl

pub iso_offset_ends : (text : List ℕ) (is_west : Bool) (hour minute second : ℕ) → IsIsoOffsetText text is_west hour minute second → EndsFraction text
iso_offset_ends text is_west hour minute second (to_minute is none) =
    rw (append-nil text) at (offset_ends text is_west hour minute [] is)
iso_offset_ends text is_west hour minute second (to_second e low) =
    rw e (offset_ends (hours_and_minutes is_west hour minute) is_west hour minute (codes ":" ++ last_digits 2 second) (inr refl))
