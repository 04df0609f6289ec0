-- What follows the second of a date-time: a text that is read has the form, and a text that has the form is read.
use Rattle.std.proofs.Common.{◌≡◌, ℕ, ◌==◌, true, false, List, [], ◌∷◌, ◌++◌, append-nil, length, Option, Some, None, refl, sym, ap, subst, ◌∙◌, arith}
use Rattle.std.proofs.lemmas.Bool.Decides.{nat_tests}
use Rattle.std.proofs.lemmas.Option.{same_Some}
use Rattle.rfc3339.specs.declared.parts.Parts.{Parts}
use Rattle.rfc3339.specs.FormLemmas.{bind_some}
use Rattle.rfc3339.specs.FractionLemmas.{EndsFraction, fraction_takes, fraction_again, zone_takes, zone_again, offset_ends}
use Rattle.rfc3339.specs.Reading.{◌>>=◌, with_no_rest}
use Rattle.rfc3339.specs.Walls.{fraction_on, parts_on, IsAfterSecond}

ended : {A : Type 0} (x y : A) (bytes : List ℕ) → with_no_rest x bytes ≡ Some y → (bytes ≡ []) × (x ≡ y)
ended x y [] e = (refl, same_Some x y e)
ended x y (first ∷ bytes) e = absurd cc

pub parts_on-takes : (p q : Parts) (text : List ℕ) → parts_on p text ≡ Some q → IsAfterSecond p text q
parts_on-takes p q text e =
    let read = bind_some _ _ _ e in
    let fraction = bind_some _ _ _ read.1 in
    let zone = bind_some _ _ _ fraction.2 in
    let f = fraction_takes _ _ _ fraction.1 in
    let z = zone_takes _ zone.0.0.0 zone.0.0.1 zone.0.0.2 zone.0.1 zone.1 in
    let same = same_Some _ _ zone.2 in
    let end = ended read.0.0 q read.0.1 read.2 in
    let none : zone.0.1 ≡ [] = ap (λ (x : Parts × List ℕ). x.1) same ∙ end.0 in
    let all : zone.0.1 ≡ [] → fraction.0.1 ≡ z.0 = λ (end : zone.0.1 ≡ []). z.1.parts ∙ ap (λ (x : List ℕ). z.0 ++ x) end ∙ append-nil z.0 in
    let whole : text ≡ f.0 ++ z.0 = f.1.parts ∙ ap (λ (x : List ℕ). f.0 ++ x) (all none) in
    subst (λ (r : Parts). IsAfterSecond p text r) (ap (λ (x : Parts × List ℕ). x.0) same ∙ end.1) (record {
      fraction = f.0;
      offset = z.0;
      spelled = whole;
      is_fraction = f.1.is;
      is_offset = z.1.is;
      hour_fits = z.1.hour_fits;
      minute_fits = z.1.minute_fits;
      kept = refl;
    })

pub parts_on-again : (p q : Parts) (text : List ℕ) → IsAfterSecond p text q → parts_on p text ≡ Some q
parts_on-again p q text h =
    let ends : EndsFraction h.offset =
    rw (append-nil h.offset) at (offset_ends h.offset q.is_west q.offset_hour q.offset_minute [] h.is_offset) in
    let zone = rw (append-nil h.offset) at (zone_again h.offset q.is_west q.offset_hour q.offset_minute [] h.is_offset h.hour_fits h.minute_fits) in
    rw (h.spelled, fraction_again h.fraction q.nanosecond h.offset h.is_fraction ends, zone) (ap Some (sym h.kept))

-- ---- by what was read and the rest

no_rest : {A : Type 0} (x : A) (rest : List ℕ) → (length rest == 0) ≡ true → Some x ≡ with_no_rest x rest
no_rest x [] e = refl
no_rest x (first ∷ rest) e = absurd (grind (arith, nat_tests, e))

some_rest : {A : Type 0} (x : A) (rest : List ℕ) → (length rest == 0) ≡ false → None ≡ with_no_rest x rest
some_rest x [] e = absurd cc
some_rest x (first ∷ rest) e = refl

abbrev if_no_rest : Option (Parts × List ℕ) → Option Parts
if_no_rest o = o >>= λ read. with_no_rest read.0 read.1

pub parts_on-whole : (p q : Parts) (text rest : List ℕ) → Some (q, rest) ≡ fraction_on p text → (length rest == 0) ≡ true → Some q ≡ parts_on p text
parts_on-whole p q text rest e none = no_rest q rest none ∙ ap if_no_rest e

pub parts_on-longer : (p q : Parts) (text rest : List ℕ) → Some (q, rest) ≡ fraction_on p text → (length rest == 0) ≡ false → None ≡ parts_on p text
parts_on-longer p q text rest e some = some_rest q rest some ∙ ap if_no_rest e

pub parts_on-none : (p : Parts) (text : List ℕ) → None ≡ fraction_on p text → None ≡ parts_on p text
parts_on-none p text e = ap if_no_rest e
