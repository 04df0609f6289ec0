-- Values of JSON, and what is written in their place.
use Rattle.std.proofs.Common.{◌≡◌, refl, sym, ◌∙◌, ap, zero, suc, ℕ, ◌+◌, ◌-◌, ◌≤◌, ◌<◌, Bool, true, false, not, cond, nat_eq, List, [], ◌∷◌}
use Rattle.std.proofs.Common.{◌++◌, take, drop, length-take, Option, Some, None, Ok, arith}
use Rattle.std.specs.Prelude.{slice_get}
use Rattle.std.proofs.lemmas.Bool.{false≢true}
use Rattle.std.proofs.lemmas.Bool.Decides.{nat_tests}
use Rattle.std.proofs.lemmas.Option.{slice_get_within}
use Rattle.log_forms.specs.declared.places.Place.TheVariants.{Json}
use Rattle.log_forms.specs.declared.stamps.Stamp as forms
use Rattle.rfc3339.specs.UnixTexts.{unix_text}
use Rattle.std.specs.Option.{option_map}
use Rattle.stamps.specs.Decisions.{rewritten}
use Rattle.stamps.specs.FrontLines.{value_lead, with_lead}
use Rattle.stamps.specs.Laws.{line_written}
use Rattle.stamps.specs.Runs.{output_of}
use Rattle.stamps.specs.declared.fronted.Lead.{Lead}
use Rattle.stamps.specs.Readers.{is_quote, line_stamp, value_kind}
use Rattle.stamps.specs.StampTexts.{in_quotes, is_date, stamp_text}
use Rattle.stamps.specs.Styles.{text_in}
use Rattle.stamps.specs.declared.readers.LineStamp.{LineStamp}
use Rattle.stamps.specs.declared.readers.Reader.{Reader}
use Rattle.stamps.specs.declared.readers.ValueKind.TheVariants.{Number, Quoted, Other}
use Rattle.stamps.specs.declared.task.Style.{Style}
use Rattle.stamps.specs.declared.task.Style.TheVariants.{Unix}

pub date : (reader : Reader) (style : Style) (line : List ℕ) (stamp : LineStamp) (text : List ℕ) → line_stamp reader None false line ≡ Ok stamp
    → stamp.is_value ≡ true → is_date style ≡ true → text_in style stamp.instant ≡ Some text
    → line_written reader style false line ≡ take stamp.start line ++ (in_quotes text ++ drop (stamp.start + stamp.length) line)
date reader style line stamp text e v d f = rw (e, v, d, f) refl

pub seconds : (reader : Reader) (line : List ℕ) (stamp : LineStamp) → line_stamp reader None false line ≡ Ok stamp → stamp.is_value ≡ true
    → line_written reader Unix false line ≡ take stamp.start line ++ (unix_text stamp.instant ++ drop (stamp.start + stamp.length) line)
unfolding text_in
seconds reader line stamp e v = rw (e, v) refl

-- a quote among the first bytes of a line
quote_of : (o : Option ℕ) → is_quote o ≡ true → o ≡ Some 34
quote_of None e = absurd (false≢true e)
quote_of (Some byte) e = let is : byte ≡ 34 = grind (arith, nat_tests) in ap (λ (z : ℕ). Some z) is

slice_get-take : (n : ℕ) (xs : List ℕ) (i : ℕ) → i < n → slice_get (take n xs) i ≡ slice_get xs i
slice_get-take zero xs i low = absurd (omega arith)
slice_get-take (suc n) [] i low = refl
slice_get-take (suc n) (x ∷ xs) zero low = refl
slice_get-take (suc n) (x ∷ xs) (suc i) low = slice_get-take n xs i (omega arith)

quote_in : (line : List ℕ) (place : ℕ) → is_quote (slice_get (take 65533 line) place) ≡ true → slice_get line place ≡ Some 34
quote_in line place e =
    let is = quote_of (slice_get (take 65533 line) place) e in
    let low = slice_get_within (take 65533 line) place 34 is in
    sym (slice_get-take 65533 line place (omega (arith, low, length-take 65533 line))) ∙ is

quoted_is : (line : List ℕ) (stamp : forms.Stamp) (none before behind : Bool) → nat_eq stamp.start 0 ≡ none
    → is_quote (slice_get (take 65533 line) (stamp.start - 1)) ≡ before → is_quote (slice_get (take 65533 line) (stamp.start + stamp.length)) ≡ behind
    → cond none Other (cond (not before) Number (cond behind Quoted Other)) ≡ Quoted
    → (1 ≤ stamp.start) × (slice_get line (stamp.start - 1) ≡ Some 34) × (slice_get line (stamp.start + stamp.length) ≡ Some 34)
quoted_is line stamp true before behind e f g is = absurd cc
quoted_is line stamp false false behind e f g is = absurd cc
quoted_is line stamp false true false e f g is = absurd cc
quoted_is line stamp false true true e f g is =
    (grind (arith, nat_tests), quote_in line (stamp.start - 1) f, quote_in line (stamp.start + stamp.length) g)

pub quotes : (line : List ℕ) (stamp : forms.Stamp) → value_kind Json line stamp ≡ Quoted
    → (1 ≤ stamp.start) × (slice_get line (stamp.start - 1) ≡ Some 34) × (slice_get line (stamp.start + stamp.length) ≡ Some 34)
quotes line stamp is = quoted_is line stamp _ _ _ refl refl refl is

-- ---- a merge in one style

-- the stamp of a record in a text
abbrev lead_with : LineStamp → List ℕ → Lead
lead_with stamp text = record { start = stamp.start; text = text; count = stamp.length }

lead_is : (a b : Lead) → ◌≡◌ {A = Option Lead} (Some a) (Some b) → a ≡ b
lead_is a b e = cc

merged_by : (style : Style) (line : List ℕ) (stamp : LineStamp) (o : Option (List ℕ)) (lead : Lead) → stamp_text style stamp ≡ o
    → option_map (λ (text : List ℕ). lead_with stamp text) o ≡ Some lead
    → with_lead lead line ≡ output_of (rewritten style false 1 (Ok stamp)) line
merged_by style line stamp None lead e h = absurd cc
merged_by style line stamp (Some text) lead e h =
    let is : lead_with stamp text ≡ lead = lead_is (lead_with stamp text) lead h in
    rw e (ap (λ (z : Lead). with_lead z line) (sym is))

pub merged : (reader : Reader) (style : Style) (line : List ℕ) (stamp : LineStamp) (lead : Lead) → line_stamp reader None false line ≡ Ok stamp
    → value_lead style stamp ≡ Some lead → with_lead lead line ≡ line_written reader style false line
merged reader style line stamp lead e h = rw e (merged_by style line stamp (stamp_text style stamp) lead refl h)
