-- Whole texts: a text that is read has the form, and a text that has the form is read.
use Rattle.std.proofs.Common.{◌≡◌, ℕ, List, [], ◌∷◌, ◌++◌, append_assoc, append-nil, Option, Some, None, refl, sym, ap, subst, ◌∙◌, ◌+◌, ◌<◌, ◌≤◌, length}
use Rattle.std.proofs.Common.{length-append}
use Rattle.std.proofs.Common.{arith}
use Rattle.std.proofs.lemmas.Option.{same_Some}
use Rattle.calendar_values.specs.Digits.{last_digits}
use Rattle.calendar_values.specs.DigitCountLemmas.{length-last_digits}
use Rattle.rfc3339.specs.declared.parts.Parts.{Parts}
use Rattle.rfc3339.specs.Form.{spelling, IsDateTime}
use Rattle.rfc3339.specs.Reading.{front_at, with_no_rest, parts_at}
use Rattle.rfc3339.specs.FormLemmas.{Takes, TakesSeparator, bind_some, two_takes, two_again, part_takes, part_again, year_takes, year_again, separator_takes}
use Rattle.rfc3339.specs.FormLemmas.{separator_again}
use Rattle.rfc3339.specs.FractionLemmas.{TakesFraction, TakesOffset, fraction_takes, fraction_again, zone_takes, zone_again, offset_ends}

-- a date-time was taken from the front
pub record TakesDateTime (text stamp : List ℕ) (p : Parts) (rest : List ℕ) : Type 0 where
  pub parts : text ≡ stamp ++ rest
  pub is : IsDateTime stamp p

-- the pieces of a date-time, one after another
date_time_of : {text t1 t2 t3 t4 t5 t6 t7 t8 fraction offset rest : List ℕ} {separator : ℕ} (p : Parts) → Takes text (last_digits 4 p.year) t1 p.year 10_000
    → Takes t1 (45 ∷ last_digits 2 p.month) t2 p.month 100 → Takes t2 (45 ∷ last_digits 2 p.day) t3 p.day 100 → TakesSeparator t3 separator t4
    → Takes t4 (last_digits 2 p.hour) t5 p.hour 100 → Takes t5 (58 ∷ last_digits 2 p.minute) t6 p.minute 100
    → Takes t6 (58 ∷ last_digits 2 p.second) t7 p.second 100 → TakesFraction t7 fraction p.nanosecond t8
    → TakesOffset t8 offset p.is_west p.offset_hour p.offset_minute rest → TakesDateTime text (spelling p separator fraction offset) p rest
date_time_of {fraction = fraction} {offset = offset} {separator = separator} p y mo d s h mi sec f z = record {
  parts = rw (y.parts, mo.parts, d.parts, s.parts, h.parts, mi.parts, sec.parts, f.parts, z.parts) (simp append_assoc refl);
  is = record {
    separator = separator;
    fraction = fraction;
    offset = offset;
    spelled = refl;
    is_separator = s.is;
    is_fraction = f.is;
    is_offset = z.is;
    fits = omega arith;
  };
}

pub front_takes : (text : List ℕ) (p : Parts) (rest : List ℕ) → front_at text ≡ Some (p, rest) → (stamp : List ℕ) × TakesDateTime text stamp p rest
unfolding front_at
front_takes text p rest e =
    let year = bind_some _ _ _ e in
    let month = bind_some _ _ _ year.2 in
    let day = bind_some _ _ _ month.2 in
    let clock = bind_some _ _ _ day.2 in
    let hour = bind_some _ _ _ clock.2 in
    let minute = bind_some _ _ _ hour.2 in
    let second = bind_some _ _ _ minute.2 in
    let fraction = bind_some _ _ _ second.2 in
    let zone = bind_some _ _ _ fraction.2 in
    let s = separator_takes _ _ clock.1 in
    let f = fraction_takes _ _ _ fraction.1 in
    let z = zone_takes _ zone.0.0.0 zone.0.0.1 zone.0.0.2 zone.0.1 zone.1 in
    subst (λ (q : Parts × List ℕ). (stamp : List ℕ) × TakesDateTime text stamp q.0 q.1) (same_Some _ (p, rest) zone.2) (
      _,
      date_time_of _ (year_takes _ _ _ year.1) (part_takes 45 _ _ _ month.1) (part_takes 45 _ _ _ day.1) s.1 (two_takes _ _ _ hour.1)
          (part_takes 58 _ _ _ minute.1) (part_takes 58 _ _ _ second.1) f.1 z.1,
    )

pub front_again : (stamp : List ℕ) (p : Parts) (rest : List ℕ) → IsDateTime stamp p → front_at (stamp ++ rest) ≡ Some (p, rest)
unfolding front_at
front_again stamp p rest h =
    let f = h.fits in
    let ends = offset_ends h.offset p.is_west p.offset_hour p.offset_minute rest h.is_offset in
    let zone = zone_again h.offset p.is_west p.offset_hour p.offset_minute rest h.is_offset f.offset_hour f.offset_minute in
    rw h.spelled (simp append_assoc
    (rw (year_again p.year _ f.year, part_again 45 p.month _ f.month, part_again 45 p.day _ f.day, separator_again h.separator _ h.is_separator)
    (rw (two_again p.hour _ f.hour, part_again 58 p.minute _ f.minute, part_again 58 p.second _ f.second)
    (rw (fraction_again h.fraction p.nanosecond (h.offset ++ rest) h.is_fraction ends, zone) refl))))

-- the end of a whole text
ended_some : {A : Type 0} (x y : A) (bytes : List ℕ) → with_no_rest x bytes ≡ Some y → (bytes ≡ []) × (x ≡ y)
ended_some x y [] e = (refl, same_Some x y e)
ended_some x y (first ∷ bytes) e = absurd cc

pub parts_takes : (text : List ℕ) (p : Parts) → parts_at text ≡ Some p → IsDateTime text p
unfolding parts_at
parts_takes text p e =
    let read = bind_some _ _ _ e in
    let end = ended_some read.0.0 p read.0.1 read.2 in
    let front = front_takes text read.0.0 read.0.1 read.1 in
    let whole : text ≡ front.0 = front.1.parts ∙ ap (λ (z : List ℕ). front.0 ++ z) end.0 ∙ append-nil front.0 in
    subst (λ (q : Parts). IsDateTime text q) end.1 (subst (λ (z : List ℕ). IsDateTime z read.0.0) (sym whole) front.1.is)

pub parts_again : (text : List ℕ) (p : Parts) → IsDateTime text p → parts_at text ≡ Some p
unfolding parts_at
parts_again text p h = rw (rw (append-nil text) at (front_again text p [] h)) refl

-- a text spells one list of parts at most
pub one_reading : (text : List ℕ) (p q : Parts) → IsDateTime text p → IsDateTime text q → p ≡ q
one_reading text p q h k = same_Some p q (sym (parts_again text p h) ∙ parts_again text q k)

-- and a date-time is no shorter than a date, a time of day and a letter
length-stamp : (stamp : List ℕ) (p : Parts) → IsDateTime stamp p → 20 ≤ length stamp
length-stamp stamp p h =
    let ends = offset_ends h.offset p.is_west p.offset_hour p.offset_minute [] h.is_offset in
    let size : length (spelling p h.separator h.fraction h.offset) ≡ 19 + length h.fraction + length h.offset = simp
    (length-append, length-last_digits) (omega arith) in
    omega (arith, ap (length {A = ℕ}) h.spelled, size, ends.some, length-append h.offset [])

short_front : (text : List ℕ) (o : Option (Parts × List ℕ)) → front_at text ≡ o → length text < 20 → None ≡ o
short_front text None e h = refl
short_front text (Some read) e h =
    let front = front_takes text read.0 read.1 e in
    absurd (omega (arith, length-stamp front.0 read.0 front.1.is, ap (length {A = ℕ}) front.1.parts, length-append front.0 read.1))

pub front_at-short : (text : List ℕ) → length text < 20 → None ≡ front_at text
front_at-short text h = short_front text (front_at text) refl h
