-- What a form lacks where an offset is given.
use Rattle.std.proofs.Common.{◌≡◌, refl, subst, ℕ, Bool, true, false, List, Option, None, Some, Result, Ok, Err, ℤ}
use Rattle.std.specs.Prelude.{◌&&◌, is_none, if◌then◌else◌, length, nat_lt}
use Rattle.log_forms.specs.Choices.{reader_form, reader_key, reader_place}
use Rattle.log_forms.specs.Forms.{form_named}
use Rattle.log_forms.specs.Lacking.{lacks_offset, lacks_year}
use Rattle.log_forms.specs.declared.form.Form.{Form}
use Rattle.log_forms.specs.declared.names.FormName.{FormName}
use Rattle.log_forms.specs.declared.names.FormName.TheVariants.{Rfc3339}
use Rattle.log_forms.specs.declared.places.Place.{Place}
use Rattle.stamps.specs.Choosing.{chosen_at, chosen_with, named_reader}
use Rattle.stamps.specs.Laws.{asks_for_offset}
use Rattle.stamps.specs.Reading.{is_front, lack_of, place_text, plain_reader, unless_lacking, whole_reader, year_for}
use Rattle.stamps.specs.declared.readers.Reader.{Reader}
use Rattle.stamps.specs.declared.readers.Reader.TheVariants.{Plain, Formed}
use Rattle.stamps.specs.declared.reading.ReadingMisuse.{ReadingMisuse}
use Rattle.stamps.specs.declared.reading.ReadingMisuse.TheVariants as misuse

lack : (a b : Bool) (reader : Reader) (m : ReadingMisuse) → unless_lacking (lack_of (a && false) b) reader ≡ Err m → asks_for_offset m ≡ false
lack true true reader m e = let same : misuse.LacksYear ≡ m = cc in subst (λ (z : ReadingMisuse). asks_for_offset z ≡ false) same refl
lack false true reader m e = let same : misuse.LacksYear ≡ m = cc in subst (λ (z : ReadingMisuse). asks_for_offset z ≡ false) same refl
lack true false reader m e = absurd cc
lack false false reader m e = absurd cc

whole : (form : Form) (at : Place) (text : List ℕ) (offset : ℤ) (year : Option ℤ) (m : ReadingMisuse)
    → whole_reader form at text (Some offset) year ≡ Err m → asks_for_offset m ≡ false
whole form at text offset year m e =
    lack (lacks_offset form.items) (lacks_year form.items && is_none year)
    (Formed (record { form = form; place = at; text = text; assumed = record { offset = Some offset; year = year_for form year; month = 0 }; zone = None }))
    m e

plain : (b : Bool) (at : Place) (text : List ℕ) (offset : ℤ) (year : Option ℤ) (m : ReadingMisuse)
    → (if b then Ok Plain else whole_reader (form_named Rfc3339) at text (Some offset) year) ≡ Err m → asks_for_offset m ≡ false
plain true at text offset year m e = absurd cc
plain false at text offset year m e = whole (form_named Rfc3339) at text offset year m e

named : (name : FormName) (at : Place) (text : List ℕ) (offset : ℤ) (year : Option ℤ) (m : ReadingMisuse)
    → named_reader name at text (Some offset) year ≡ Err m → asks_for_offset m ≡ false
named Rfc3339 at text offset year m e = plain (is_front at) at text offset year m e
named name at text offset year m e = whole (form_named name) at text offset year m e

placed : (b : Bool) (number : ℕ) (at : Place) (text : List ℕ) (offset : ℤ) (year : Option ℤ) (m : ReadingMisuse)
    → chosen_at number (if b then Err misuse.LongPlace else Ok (at, text)) (Some offset) year ≡ Err m → asks_for_offset m ≡ false
placed true number at text offset year m e =
    let same : misuse.LongPlace ≡ m = cc in subst (λ (z : ReadingMisuse). asks_for_offset z ≡ false) same refl
placed false number at text offset year m e = named (reader_form number) at text offset year m e

pub remedy : (number : ℕ) (offset : ℤ) (year : Option ℤ) (m : ReadingMisuse) → chosen_with number (Some offset) year ≡ Err m
    → asks_for_offset m ≡ false
remedy number offset year m e =
    placed (nat_lt 255 (length (reader_key number))) number (reader_place number) (reader_key number) offset year m e
