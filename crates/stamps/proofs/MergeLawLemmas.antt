-- The new front of a line in a merge of one style, read again.
use Rattle.std.proofs.Common.{◌≡◌, refl, ap, subst, ◌∙◌, ℕ, ◌+◌, Bool, true, false, not, List, [], ◌∷◌, ◌++◌, drop, length}
use Rattle.std.proofs.Common.{append_assoc, ℤ, Option, Some, None, Ok, arith}
use Rattle.std.proofs.lemmas.Bool.{and_parts}
use Rattle.std.specs.Prelude.{◌==◌}
use Rattle.log_forms.specs.Ends.{runs_on}
use Rattle.offset_times.specs.InstantLemmas.{instant_of-utc}
use Rattle.offset_times.specs.Local.{instant_of, local_in_utc}
use Rattle.rfc3339.specs.Texts.{HasFixedText, fixed_text, parts_of}
use Rattle.rfc3339.specs.ValueLemmas.{IsDateTime-fixed, length-fixed_text, meaning-fixed}
use Rattle.rfc3339.specs.UnixTexts.{unix_text}
use Rattle.stamps.specs.Laws.{line_written}
use Rattle.stamps.specs.FrontLines.{is_replaced, lead_by, lead_of, with_blank}
use Rattle.stamps.specs.LineStamps.{stamp, stamp_of}
use Rattle.stamps.specs.Styles.{text_in}
use Rattle.stamps.specs.declared.decide.Stamp.{Stamp}
use Rattle.stamps.specs.declared.fronted.Lead.{Lead}
use Rattle.stamps.specs.declared.readers.LineStamp.{LineStamp}
use Rattle.stamps.specs.declared.readers.Reader.TheVariants.{Plain}
use Rattle.stamps.specs.declared.task.Style.TheVariants.{Utc, Unix}
use Rattle.stamps.proofs.StampLawLemmas.{stamp_again}
use Rattle.stamps.proofs.UtcLawLemmas.{fixed_of, written_as}

-- a line with a new front has a stamp of the same instant
abbrev IsRead : List ℕ → LineStamp → Lead → Type 0
IsRead line stamp lead = (read : Stamp) × (stamp_of (lead.text ++ drop lead.count line) ≡ Ok read) × (read.instant ≡ stamp.instant)

-- a text of fixed width before what does not continue it
fixed-read : (i : ℤ) (rest : List ℕ) → HasFixedText i → runs_on false rest ≡ false
    → (read : Stamp) × (stamp_of (fixed_text i ++ rest) ≡ Ok read) × (read.instant ≡ i)
fixed-read i rest fixed ends =
    let count = length-fixed_text i fixed in
    let again =
    stamp_again (fixed_text i) rest (parts_of (local_in_utc i)) (local_in_utc i) (IsDateTime-fixed i fixed) (meaning-fixed i fixed)
    (omega (arith, count)) ends
    in
    (stamp (instant_of (local_in_utc i)) (length (fixed_text i)) rest, again, instant_of-utc i)

not_is : (b : Bool) → not b ≡ true → b ≡ false
not_is true e = absurd cc
not_is false e = refl

ends_of : (mark : ℕ) (line : List ℕ) (stamp : LineStamp) → is_replaced mark line stamp ≡ true
    → runs_on false (drop (stamp.start + stamp.length) line) ≡ false
ends_of mark line stamp e =
    let next = runs_on false (drop (stamp.start + stamp.length) line) in
    not_is next (and_parts (stamp.start == mark) (not next) e).1

read_in_place : (line : List ℕ) (stamp : LineStamp) (text : List ℕ) → text_in Utc stamp.instant ≡ Some text
    → runs_on false (drop (stamp.start + stamp.length) line) ≡ false
    → IsRead line stamp (record { start = 0; text = text; count = stamp.start + stamp.length })
read_in_place line stamp text e ends =
    let n = stamp.start + stamp.length in
    let fixed = fixed_of stamp.instant text e in
    let found = fixed-read stamp.instant (drop n line) fixed.0 ends in
    (found.0, ap (λ (z : List ℕ). stamp_of (z ++ drop n line)) fixed.1 ∙ found.1, found.2)

read_before_blank : (mark : ℕ) (line : List ℕ) (stamp : LineStamp) (text : List ℕ) → text_in Utc stamp.instant ≡ Some text
    → IsRead line stamp (record { start = 0; text = with_blank text; count = mark })
read_before_blank mark line stamp text e =
    let rest = drop mark line in
    let fixed = fixed_of stamp.instant text e in
    let found = fixed-read stamp.instant (32 ∷ rest) fixed.0 refl in (
      found.0,
      ap stamp_of (append_assoc text (32 ∷ []) rest) ∙ ap (λ (z : List ℕ). stamp_of (z ++ 32 ∷ rest)) fixed.1 ∙ found.1,
      found.2,
    )

lead_is : (a b : Lead) → Some a ≡ Some b → a ≡ b
lead_is a b e = cc

read_by : (replaces : Bool) (mark : ℕ) (line : List ℕ) (stamp : LineStamp) (o : Option (List ℕ)) (lead : Lead)
    → is_replaced mark line stamp ≡ replaces → text_in Utc stamp.instant ≡ o → lead_by replaces mark stamp o ≡ Some lead
    → IsRead line stamp lead
read_by replaces mark line stamp None lead e f h = absurd cc
read_by true mark line stamp (Some text) lead e f h =
    subst (IsRead line stamp) (lead_is _ lead h) (read_in_place line stamp text f (ends_of mark line stamp e))
read_by false mark line stamp (Some text) lead e f h =
    subst (IsRead line stamp) (lead_is _ lead h) (read_before_blank mark line stamp text f)

pub read_again : (mark : ℕ) (line : List ℕ) (stamp : LineStamp) (lead : Lead) → lead_of Utc mark line stamp ≡ Some lead
    → (read : Stamp) × (stamp_of (lead.text ++ drop lead.count line) ≡ Ok read) × (read.instant ≡ stamp.instant)
read_again mark line stamp lead h = read_by (is_replaced mark line stamp) mark line stamp (text_in Utc stamp.instant) lead refl refl h

-- ---- in Unix seconds

text_in-unix : (i : ℤ) → text_in Unix i ≡ Some (unix_text i)
unfolding text_in
text_in-unix i = refl

pub written_in_unix : (mark : ℕ) (line : List ℕ) (stamp : LineStamp) (lead : Lead) → lead_of Utc mark line stamp ≡ Some lead
    → let front = lead.text ++ drop lead.count line in
    (read : Stamp) × (stamp_of front ≡ Ok read)
    × (line_written Plain Unix false front ≡ unix_text stamp.instant ++ drop read.length front)
written_in_unix mark line stamp lead h =
    let front = lead.text ++ drop lead.count line in
    let found = read_again mark line stamp lead h in (
      found.0,
      found.1,
      written_as Unix front found.0 (unix_text found.0.instant) found.1 (text_in-unix found.0.instant)
          ∙ ap (λ (i : ℤ). unix_text i ++ drop found.0.length front) found.2,
    )
