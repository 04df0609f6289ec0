-- A text that is read by vector lanes, by its form.
use Rattle.std.proofs.Common.{◌≡◌, ◌⊎◌, inl, inr, ℕ, ℤ, List, Option, Some, None, Result, Ok, Err, refl, sym, ap, ◌∙◌}
use Rattle.std.specs.Prelude.{IfSome}
use Rattle.calendar_values.specs.WallClock.{IsInstant}
use Rattle.offset_times.specs.Local.{Local, instant_of}
use Rattle.rfc3339.specs.Form.{IsDateTime}
use Rattle.rfc3339.specs.Meaning.{meaning}
use Rattle.rfc3339.specs.Reading.{reading_of}
use Rattle.rfc3339.specs.ReadingLemmas.{reading_of-spelled, reading_of-syntax, reading_of-instant}
use Rattle.rfc3339.specs.declared.parts.Parts.{Parts}
use Rattle.muxandu_c.specs.Answers.{and_then}
use Rattle.muxandu_c.specs.Exchange.{read_parts, date_time_spelled, timestamp_spelled}
use Rattle.muxandu_c.specs.Values.{as_date_time, date_time_parts, timestamp_parts}
use Rattle.muxandu_c.specs.declared.refused.Refused.{Refused}
use Rattle.muxandu_c.specs.declared.refused.Refused.TheVariants as refused
use Rattle.muxandu_c.specs.declared.values.MuxanduDateTime.{MuxanduDateTime}
use Rattle.muxandu_c.specs.declared.values.MuxanduTimestamp.{MuxanduTimestamp}

pub spelled-reading : (text : List ℕ) (at : Local) → reading_of text ≡ Ok at → (p : Parts) → IsDateTime text p → Ok at ≡ read_parts p
spelled-reading text at e p h = let means : meaning p ≡ Ok at = sym (reading_of-spelled text p h) ∙ e in rw means refl

pub syntax-reading : {A : Type 0} (text : List ℕ) (at : Local) (value : A) → reading_of text ≡ Ok at
    → ((p : Parts) × IsDateTime text p) ⊎ (◌≡◌ (Ok value) (Err refused.Syntax))
syntax-reading text at value e = elim (reading_of-syntax text) [
  | inl bad ↦ (let never = sym e ∙ bad in absurd cc)
  | inr form ↦ inl form
]

instant-reading : (text : List ℕ) (at : Local) → reading_of text ≡ Ok at → IsInstant (instant_of at)
instant-reading text at e = rw e at (reading_of-instant text)

pub instants-reading : {A : Type 0} (value : A → Local) (text : List ℕ) (o : Option A) → IfSome o (λ x. reading_of text ≡ Ok (value x))
    → IfSome o (λ x. IsInstant (instant_of (value x)))
instants-reading value text None e = tt
instants-reading value text (Some x) e = instant-reading text (value x) e

-- the parts of the date-time, and those of its instant

pub parts-reading : (text : List ℕ) (at : Local) (v : MuxanduDateTime) → reading_of text ≡ Ok at → v ≡ date_time_parts at → (p : Parts) → IsDateTime text p
    → Ok v ≡ date_time_spelled p
parts-reading text at v e f p h = ap (λ (w : MuxanduDateTime). Ok w) f ∙ ap as_date_time (spelled-reading text at e p h)

pub timestamp-reading : (text : List ℕ) (at : Local) (i : ℤ) (t : MuxanduTimestamp) → reading_of text ≡ Ok at → i ≡ instant_of at → t ≡ timestamp_parts i
    → (p : Parts) → IsDateTime text p → Ok t ≡ timestamp_spelled p
timestamp-reading text at i t e f g p h =
    ap (λ (w : MuxanduTimestamp). Ok w) (g ∙ ap timestamp_parts f)
    ∙ ap (λ (r : Result Local Refused). and_then r (λ (l : Local). Ok (timestamp_parts (instant_of l)))) (spelled-reading text at e p h)
