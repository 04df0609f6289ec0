-- Whole texts: a text that is read is derived, and a text that is derived is read.
use Rattle.std.proofs.Common.{◌≡◌, ℕ, List, ◌∷◌, append_assoc, Option, Some, None, refl, sym, ap, subst, ◌∙◌, arith}
use Rattle.std.proofs.Common.{Err, inl, inr}
use Rattle.std.specs.Prelude.{◌⊎◌, IfSome}
use Rattle.std.proofs.lemmas.Option.{same_Some}
use Rattle.calendar_values.specs.Digits.{last_digits}
use Rattle.rfc3339.specs.FormLemmas.{Takes, TakesSeparator, bind_some, two_takes, two_again, part_takes, part_again, separator_takes, separator_again}
use Rattle.rfc3339.specs.FractionLemmas.{TakesFraction, fraction_takes, fraction_again}
use Rattle.rfc3339.specs.declared.refusal.TextRefusal.TheVariants.{Syntax}
use Rattle.iso_texts.specs.IsoForms.{IsIsoDateTime}
use Rattle.iso_texts.specs.IsoMeaning.{iso_meaning}
use Rattle.iso_texts.specs.IsoReading.{iso_parts_at, iso_reading_of, iso_meaning_if_any}
use Rattle.iso_texts.specs.declared.parts.IsoParts.{IsoParts}
use Rattle.iso_texts.proofs.IsoOffsetLemmas.{IsIsoOffset, iso_offset_takes, iso_offset_again, iso_offset_ends}
use Rattle.iso_texts.proofs.IsoYearLemmas.{TakesYear, iso_year_takes, iso_year_again}

-- the pieces of a date-time, one after another
date_time_of : {text year t1 t2 t3 t4 t5 t6 t7 fraction offset : List ℕ} {separator : ℕ} (p : IsoParts) → TakesYear text year p.is_before p.year t1
    → Takes t1 (45 ∷ last_digits 2 p.month) t2 p.month 100 → Takes t2 (45 ∷ last_digits 2 p.day) t3 p.day 100 → TakesSeparator t3 separator t4
    → Takes t4 (last_digits 2 p.hour) t5 p.hour 100 → Takes t5 (58 ∷ last_digits 2 p.minute) t6 p.minute 100
    → Takes t6 (58 ∷ last_digits 2 p.second) t7 p.second 100 → TakesFraction t7 fraction p.nanosecond offset
    → IsIsoOffset offset p.is_west p.offset_hour p.offset_minute p.offset_second → IsIsoDateTime text p
date_time_of {year = year} {fraction = fraction} {offset = offset} {separator = separator} p y mo d s h mi sec f z = record {
  year = year;
  separator = separator;
  fraction = fraction;
  offset = offset;
  spelled = rw (y.parts, mo.parts, d.parts, s.parts, h.parts, mi.parts, sec.parts, f.parts) (simp append_assoc refl);
  is_year = y.is;
  is_separator = s.is;
  is_fraction = f.is;
  is_offset = z.is;
  fits = omega arith;
}

pub iso_parts_takes : (text : List ℕ) (p : IsoParts) → iso_parts_at text ≡ Some p → IsIsoDateTime text p
unfolding iso_parts_at
iso_parts_takes text p e =
    let year = bind_some _ _ _ e in
    let month = bind_some _ _ _ year.2 in
    let day = bind_some _ _ _ month.2 in
    let clock = bind_some _ _ _ day.2 in
    let hour = bind_some _ _ _ clock.2 in
    let minute = bind_some _ _ _ hour.2 in
    let second = bind_some _ _ _ minute.2 in
    let fraction = bind_some _ _ _ second.2 in
    let offset = bind_some _ _ _ fraction.2 in
    let y = iso_year_takes text year.0.0.0 year.0.0.1 year.0.1 year.1 in
    let s = separator_takes _ _ clock.1 in
    let f = fraction_takes _ _ _ fraction.1 in
    let z = iso_offset_takes _ offset.0.0.0 offset.0.0.1 offset.0.0.2 offset.0.1 offset.1 in
    subst (IsIsoDateTime text) (same_Some _ p offset.2)
    (date_time_of _ y.1 (part_takes 45 _ _ _ month.1) (part_takes 45 _ _ _ day.1) s.1 (two_takes _ _ _ hour.1)
    (part_takes 58 _ _ _ minute.1) (part_takes 58 _ _ _ second.1) f.1 z)

pub iso_parts_again : (text : List ℕ) (p : IsoParts) → IsIsoDateTime text p → iso_parts_at text ≡ Some p
unfolding iso_parts_at
iso_parts_again text p h =
    let f = h.fits in
    let ends = iso_offset_ends h.offset p.is_west p.offset_hour p.offset_minute p.offset_second h.is_offset in
    let offset = iso_offset_again h.offset p.is_west p.offset_hour p.offset_minute p.offset_second h.is_offset f.offset_hour f.offset_minute in
    rw h.spelled (simp append_assoc
    (rw (iso_year_again h.year p.is_before p.year _ h.is_year)
    (rw (part_again 45 p.month _ f.month, part_again 45 p.day _ f.day, separator_again h.separator _ h.is_separator)
    (rw (two_again p.hour _ f.hour, part_again 58 p.minute _ f.minute, part_again 58 p.second _ f.second)
    (rw (fraction_again h.fraction p.nanosecond h.offset h.is_fraction ends, offset) refl)))))

pub parts_are : (text : List ℕ) (o : Option IsoParts) → o ≡ iso_parts_at text → IfSome o (IsIsoDateTime text)
parts_are text None e = tt
parts_are text (Some p) e = iso_parts_takes text p (sym e)

-- a text spells one list of numbers at most
pub iso_one_reading : (text : List ℕ) (p q : IsoParts) → IsIsoDateTime text p → IsIsoDateTime text q → p ≡ q
iso_one_reading text p q h k = same_Some p q (sym (iso_parts_again text p h) ∙ iso_parts_again text q k)

-- ---- the reading

pub iso_reading_of-parts : (text : List ℕ) (o : Option IsoParts) → iso_parts_at text ≡ o → iso_reading_of text ≡ iso_meaning_if_any o
unfolding iso_reading_of
iso_reading_of-parts text o e = ap iso_meaning_if_any e

pub iso_reading_of-spelled : (text : List ℕ) (p : IsoParts) → IsIsoDateTime text p → iso_reading_of text ≡ iso_meaning p
iso_reading_of-spelled text p h = iso_reading_of-parts text (Some p) (iso_parts_again text p h)

syntax_of : (text : List ℕ) (o : Option IsoParts) → iso_parts_at text ≡ o → (iso_reading_of text ≡ Err Syntax) ⊎ ((p : IsoParts) × IsIsoDateTime text p)
syntax_of text None e = inl (iso_reading_of-parts text None e)
syntax_of text (Some p) e = inr (p, iso_parts_takes text p e)

pub iso_reading_of-syntax : (text : List ℕ) → (iso_reading_of text ≡ Err Syntax) ⊎ ((p : IsoParts) × IsIsoDateTime text p)
iso_reading_of-syntax text = syntax_of text (iso_parts_at text) refl
