-- Lines written in UTC: their instants, and written twice.
use Rattle.std.proofs.Common.{◌≡◌, refl, ap, sym, ◌∙◌, ℕ, ◌+◌, Bool, true, false, cond, List, ◌++◌, drop, length, ℤ, Option, Some, None, Result, Ok, Err, arith}
use Rattle.std.proofs.Common.{[], ◌∷◌, Ordering, Less, Equal, Greater, nat_cmp, int_cmp}
use Rattle.std.specs.Cmp.Lexicographic.{slice_cmp}
use Rattle.std.specs.Ordering.{ordering_then}
use Rattle.std.proofs.Math.Seq.{drop-append_seam}
use Rattle.calendar_values.specs.Calendar.{year_of}
use Rattle.calendar_values.specs.WallClock.{wall_day}
use Rattle.offset_times.specs.InstantLemmas.{instant_of-utc}
use Rattle.offset_times.specs.Local.{local_in_utc}
use Rattle.rfc3339.specs.Laws.{FixedTextsKeepTheOrder}
use Rattle.rfc3339.specs.Texts.{HasFixedText, fixed_text, parts_of}
use Rattle.rfc3339.specs.ValueLemmas.{IsDateTime-fixed, meaning-fixed, length-fixed_text}
use Rattle.rfc3339.specs.declared.refusal.TextRefusal.{TextRefusal}
use Rattle.rfc3339.specs.declared.refusal.TextRefusal.TheVariants.{Syntax, OutOfRange}
use Rattle.stamps.specs.Laws.{HasStamp, in_utc, line_written}
use Rattle.log_forms.specs.Ends.{opens_bracket}
use Rattle.stamps.specs.LineStamps.{stamp, stamp_of}
use Rattle.stamps.specs.Styles.{text_in, has_four_digits}
use Rattle.stamps.specs.declared.decide.Stamp.{Stamp}
use Rattle.stamps.specs.declared.readers.Reader.TheVariants.{Plain}
use Rattle.stamps.specs.declared.task.Style.{Style}
use Rattle.stamps.specs.declared.task.Style.TheVariants.{Utc}
use Rattle.stamps.proofs.StampLawLemmas.{sound, stamp_again}
use Rattle.stamps.proofs.StyleLemmas.{four_digits-true}
use Rattle.stamps.proofs.WrittenLawLemmas.{no_mark-later}

-- an instant that has a text has that of fixed width
fixed_if : (i : ℤ) (test : Bool) (text : List ℕ) → has_four_digits (year_of (wall_day i)) ≡ test → cond test (Some (fixed_text i)) None ≡ Some text
    → HasFixedText i × (text ≡ fixed_text i)
fixed_if i true text t e =
    let years = four_digits-true (year_of (wall_day i)) t in (record { year_first = years.0; year_last = years.1 }, cc)
fixed_if i false text t e = absurd cc

pub fixed_of : (i : ℤ) (text : List ℕ) → text_in Utc i ≡ Some text → HasFixedText i × (text ≡ fixed_text i)
unfolding text_in
fixed_of i text e = fixed_if i (has_four_digits (year_of (wall_day i))) text refl e

-- what stands behind a stamp
behind_stamp : (line : List ℕ) (s : Stamp) (h : HasStamp line s) → drop s.length line ≡ h.rest
behind_stamp line s h = ap (drop s.length) h.split ∙ ap (λ (n : ℕ). drop n (h.spelled ++ h.rest)) h.count ∙ drop-append_seam h.spelled h.rest

utc_is : (s : Stamp) (i : ℤ) (n : ℕ) (rest : List ℕ) → i ≡ s.instant → n ≡ 30 → s.is_zoned ≡ opens_bracket rest → stamp i n rest ≡ in_utc s
utc_is s i n rest a b c = rw (a, b, ← c) refl

-- a text of fixed width in the place of a stamp is read as its instant
stamp-fixed : (line : List ℕ) (s : Stamp) → stamp_of line ≡ Ok s → HasFixedText s.instant
    → stamp_of (fixed_text s.instant ++ drop s.length line) ≡ Ok (in_utc s)
stamp-fixed line s e fixed =
    let i = s.instant in
    let h = sound line s e in
    let count = length-fixed_text i fixed in
    ap (λ (z : List ℕ). stamp_of (fixed_text i ++ z)) (behind_stamp line s h)
    ∙ stamp_again (fixed_text i) h.rest (parts_of (local_in_utc i)) (local_in_utc i) (IsDateTime-fixed i fixed) (meaning-fixed i fixed)
    (omega (arith, count)) h.ends
    ∙ ap (λ (z : Stamp). Ok z) (utc_is s _ _ h.rest (instant_of-utc i) count h.zone)

-- what a line with a stamp is written as
pub written_as : (style : Style) (line : List ℕ) (s : Stamp) (text : List ℕ) → stamp_of line ≡ Ok s → text_in style s.instant ≡ Some text
    → line_written Plain style false line ≡ text ++ drop s.length line
written_as style line s text e f =
    let count : 0 + s.length ≡ s.length = omega arith in
    rw (no_mark-later line, e, f) (ap (λ (n : ℕ). text ++ drop n line) count)

pub rest_stays : (line : List ℕ) (s : Stamp) (text : List ℕ) → stamp_of line ≡ Ok s → text_in Utc s.instant ≡ Some text
    → line_written Plain Utc false line ≡ fixed_text s.instant ++ drop s.length line
rest_stays line s text e f = written_as Utc line s text e f ∙ ap (λ (z : List ℕ). z ++ drop s.length line) (fixed_of s.instant text f).1

pub same_instant : (line : List ℕ) (s : Stamp) (text : List ℕ) → stamp_of line ≡ Ok s → text_in Utc s.instant ≡ Some text
    → stamp_of (line_written Plain Utc false line) ≡ Ok (in_utc s)
same_instant line s text e f = ap stamp_of (rest_stays line s text e f) ∙ stamp-fixed line s e (fixed_of s.instant text f).0

drop-fixed : (i : ℤ) (rest : List ℕ) → HasFixedText i → drop 30 (fixed_text i ++ rest) ≡ rest
drop-fixed i rest h =
    let count : 30 ≡ length (fixed_text i) = sym (length-fixed_text i h) in
    rw count (drop-append_seam (fixed_text i) rest)

twice-fixed : (line : List ℕ) (s : Stamp) (text : List ℕ) → stamp_of line ≡ Ok s → text_in Utc s.instant ≡ Some text
    → line_written Plain Utc false (line_written Plain Utc false line) ≡ line_written Plain Utc false line
twice-fixed line s text e f =
    let i = s.instant in
    let rest = drop s.length line in
    let fixed = (fixed_of i text f).0 in
    let once = rest_stays line s text e f in
    ap (line_written Plain Utc false) once ∙ rest_stays (fixed_text i ++ rest) (in_utc s) text (stamp-fixed line s e fixed) f
    ∙ ap (λ (z : List ℕ). fixed_text i ++ z) (drop-fixed i rest fixed) ∙ sym once

as_it_stood : (line : List ℕ) → line_written Plain Utc false line ≡ line
    → line_written Plain Utc false (line_written Plain Utc false line) ≡ line_written Plain Utc false line
as_it_stood line e = ap (line_written Plain Utc false) e

no_text : (line : List ℕ) (s : Stamp) → stamp_of line ≡ Ok s → text_in Utc s.instant ≡ None → line_written Plain Utc false line ≡ line
no_text line s e f = rw (no_mark-later line, e, f) refl

no_stamp : (line : List ℕ) (r : TextRefusal) → stamp_of line ≡ Err r → line_written Plain Utc false line ≡ line
no_stamp line Syntax e = rw (no_mark-later line, e) refl
no_stamp line (OutOfRange component) e = rw (no_mark-later line, e) refl

twice-text : (line : List ℕ) (s : Stamp) (o : Option (List ℕ)) → stamp_of line ≡ Ok s → text_in Utc s.instant ≡ o
    → line_written Plain Utc false (line_written Plain Utc false line) ≡ line_written Plain Utc false line
twice-text line s None e f = as_it_stood line (no_text line s e f)
twice-text line s (Some text) e f = twice-fixed line s text e f

twice-stamp : (line : List ℕ) (r : Result Stamp TextRefusal) → stamp_of line ≡ r
    → line_written Plain Utc false (line_written Plain Utc false line) ≡ line_written Plain Utc false line
twice-stamp line (Ok s) e = twice-text line s (text_in Utc s.instant) e refl
twice-stamp line (Err r) e = as_it_stood line (no_stamp line r e)

pub twice : (line : List ℕ) → line_written Plain Utc false (line_written Plain Utc false line) ≡ line_written Plain Utc false line
twice line = twice-stamp line (stamp_of line) refl

-- ---- in the order of bytes

then_less : (o r more : Ordering) → ordering_then o r ≡ Less → (r ≡ Less → more ≡ Less) → ordering_then o more ≡ Less
then_less Less r more e h = refl
then_less Equal r more e h = h e
then_less Greater r more e h = absurd cc

behind_less : (x y r q : List ℕ) → slice_cmp nat_cmp x y ≡ Less → length x ≡ length y → slice_cmp nat_cmp (x ++ r) (y ++ q) ≡ Less
behind_less [] [] r q e h = absurd cc
behind_less [] (b ∷ y) r q e h = absurd (omega arith)
behind_less (a ∷ x) [] r q e h = absurd (omega arith)
behind_less (a ∷ x) (b ∷ y) r q e h =
    then_less (nat_cmp a b) (slice_cmp nat_cmp x y) (slice_cmp nat_cmp (x ++ r) (y ++ q)) e (λ f. behind_less x y r q f (omega arith))

pub written_less : FixedTextsKeepTheOrder → (a b : List ℕ) (u v : Stamp) (s t : List ℕ) → stamp_of a ≡ Ok u → stamp_of b ≡ Ok v
    → text_in Utc u.instant ≡ Some s → text_in Utc v.instant ≡ Some t → int_cmp u.instant v.instant ≡ Less
    → slice_cmp nat_cmp (line_written Plain Utc false a) (line_written Plain Utc false b) ≡ Less
written_less law a b u v s t e f g h less =
    let i = u.instant in
    let j = v.instant in
    let first = fixed_of i s g in
    let second = fixed_of j t h in
    rw (rest_stays a u s e g, rest_stays b v t f h)
    (behind_less (fixed_text i) (fixed_text j) (drop u.length a) (drop v.length b) (law i j (fixed_text i) (fixed_text j) first.0 second.0 refl refl ∙ less)
    (length-fixed_text i first.0 ∙ sym (length-fixed_text j second.0)))
