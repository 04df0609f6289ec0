-- The latest of several years, and the lines of a text from a place on.
use Rattle.std.proofs.Common.{◌≡◌, ◌≢◌, refl, sym, ◌∙◌, ap, ℕ, ◌+◌, ◌-◌, ◌<◌, ◌≤◌, ◌==◌, nat_le, nat_lt, Bool, true, false, List, [], ◌∷◌, ◌++◌, length}
use Rattle.std.proofs.Common.{arith, drop, get_or, inl, inr, subst, take, Option, Some, None, ℤ, pos, ◌+ℤ◌, ◌-ℤ◌, ◌≤ℤ◌, ◌<ℤ◌}
use Rattle.std.specs.Prelude.{◌⊎◌, All, MatchOption, if◌then◌else◌, int_le}
use Rattle.std.proofs.lemmas.Bool.{cases_Bool}
use Rattle.std.proofs.lemmas.Bool.Decides.{nat_tests}
use Rattle.std.proofs.lemmas.Grind.{common_steps}
use Rattle.std.proofs.lemmas.List.{drop-drop, take-append-drop}
use Rattle.std.proofs.lemmas.List.Splits.{slice_split_at, slice_split_none}
use Rattle.std.specs.List.{between}
use Rattle.calendar_values.specs.Calendar.{year_of}
use Rattle.calendar_values.specs.SignedArith.{signed_arith}
use Rattle.calendar_values.specs.WallClock.{wall_day}
use Rattle.line_devices.specs.LineLemmas.{HasNone-between}
use Rattle.line_devices.specs.LineParts.{HasNone}
use Rattle.line_devices.specs.Lines.{pieces_of}
use Rattle.plain_times.specs.Sums.{IsSaturatingSum, nearest_wall_clock}
use Rattle.stamps.proofs.BlockLemmas.{between-end}
use Rattle.stamps.specs.FirstYears.{HasNoYear, IsFirstYear, IsLatestYear, IsOneOf, SameInYears, in_year}
use Rattle.stamps.specs.Years.{is_until}
use Rattle.stamps.specs.declared.readers.FormReader.{FormReader}
use Rattle.stamps.specs.declared.readers.Reader.{Reader}
use Rattle.stamps.specs.declared.readers.Reader.TheVariants.{Plain, Formed}

-- ---- one year after another

pub in_year-twice : (reader : Reader) (first second : ℤ) → in_year (in_year reader first) second ≡ in_year reader second
in_year-twice Plain first second = refl
in_year-twice (Formed by) first second = refl

below_or_top : (year top : ℤ) → year ≤ℤ top → (year ≤ℤ (top -ℤ pos 1)) ⊎ (year ≡ top)
below_or_top year top most = elim (cases_Bool (int_le year (top -ℤ pos 1))) [
  | inl t ↦ inl (omega (arith, signed_arith, t))
  | inr f ↦ inr (omega (arith, signed_arith, f, most))
]

pub none_below : (reader : Reader) (is_first : Bool) (line : List ℕ) (bound top : ℤ) (years : ℕ) → 1 ≤ years
    → is_until (in_year reader top) is_first line bound ≡ false → HasNoYear reader is_first line bound (top -ℤ pos 1) (years - 1)
    → HasNoYear reader is_first line bound top years
none_below reader is_first line bound top years some not none = λ year one. elim (below_or_top year top one.last) [
  | inl low ↦ none year (record { last = low; first = omega (arith, signed_arith, one.first, some) })
  | inr same ↦ rw same not
]

pub latest_below : (reader : Reader) (is_first : Bool) (line : List ℕ) (bound top : ℤ) (years : ℕ) (year : ℤ) → 1 ≤ years
    → is_until (in_year reader top) is_first line bound ≡ false → IsLatestYear reader is_first line bound (top -ℤ pos 1) (years - 1) year
    → IsLatestYear reader is_first line bound top years year
latest_below reader is_first line bound top years year some not h = record {
  one = record { last = omega (arith, signed_arith, h.one.last); first = omega (arith, signed_arith, h.one.first, some) };
  here = h.here;
  latest = λ later most late. elim (below_or_top later top most) [ inl low ↦ h.latest later low late | inr same ↦ rw same not ];
}

-- ---- readers that are the same in each year

pub none_of_same : (first second : Reader) (is_first : Bool) (line : List ℕ) (bound top : ℤ) (years : ℕ) → SameInYears first second
    → HasNoYear second is_first line bound top years → HasNoYear first is_first line bound top years
none_of_same first second is_first line bound top years same none = λ year one. rw (same year) at (none year one)

pub latest_of_same : (first second : Reader) (is_first : Bool) (line : List ℕ) (bound top : ℤ) (years : ℕ) (year : ℤ) → SameInYears first second
    → IsLatestYear second is_first line bound top years year → IsLatestYear first is_first line bound top years year
latest_of_same first second is_first line bound top years year same h = record {
  one = h.one;
  here = rw (same year) at (h.here);
  latest = λ later most late. rw (same later) at (h.latest later most late);
}

-- ---- the lines of a text

-- those from a place on, which may be one past the end
abbrev pub left_from : List ℕ → ℕ → List (List ℕ)
left_from text from = if nat_le from (length text) then pieces_of (drop from text) else []

none_in : (text : List ℕ) → HasNone 10 text 0 (length text) → All (λ byte. (byte == 10) ≡ false) text
none_in text h k d low =
    let same : get_or text k d ≡ get_or text k 0 = grind (arith, common_steps) in
    let other : get_or text k 0 ≢ 10 = h k (omega arith) low in
    rw same (grind (arith, nat_tests))

pub pieces-at : (text : List ℕ) (from end : ℕ) → from ≤ end → end ≤ length text → HasNone 10 text from end
    → (end < length text → get_or text end 0 ≡ 10) → left_from text from ≡ between from end text ∷ left_from text (end + 1)
pieces-at text from end low high none feed = elim (cases_Bool (nat_lt end (length text))) [
  | inl t ↦
      let within : end < length text = grind (arith, nat_tests, t) in
      let is : get_or text end 0 ≡ 10 = feed within in
      let tail : drop end text ≡ 10 ∷ drop (end + 1) text = grind (arith, common_steps) in
      let place : from + (end - from) ≡ end = omega arith in
      let rest : drop (end - from) (drop from text) ≡ drop end text =
      drop-drop (end - from) from text ∙ ap (λ (z : ℕ). drop z text) place in
      let whole : drop from text ≡ between from end text ++ 10 ∷ drop (end + 1) text =
      sym (take-append-drop (end - from) (drop from text)) ∙ ap (λ (z : List ℕ). between from end text ++ z) (rest ∙ tail) in
      let first : nat_le from (length text) ≡ true = grind (arith, nat_tests) in
      let next : nat_le (end + 1) (length text) ≡ true = grind (arith, nat_tests) in
      rw (first, next) (ap pieces_of whole ∙ slice_split_at (λ byte. byte == 10) (between from end text) 10 (drop (end + 1) text)
      (none_in (between from end text) (HasNone-between text from end low high none)) refl)
  | inr f ↦
      let last : end ≡ length text = grind (arith, nat_tests, f) in
      let whole : drop from text ≡ between from end text = rw last (sym (between-end text from)) in
      let first : nat_le from (length text) ≡ true = grind (arith, nat_tests) in
      let next : nat_le (end + 1) (length text) ≡ false = grind (arith, nat_tests) in
      rw (first, next) (ap pieces_of whole ∙ slice_split_none (λ byte. byte == 10) (between from end text)
      (none_in (between from end text) (HasNone-between text from end low high none)))
]

-- ---- the answers

-- the latest of the years below the top one, by a reader that has that year
pub year_below : (reader second : Reader) (is_first : Bool) (line : List ℕ) (bound top below : ℤ) (years fewer : ℕ) (found : Option ℤ)
    → below ≡ top -ℤ pos 1 → fewer ≡ years - 1 → second ≡ in_year reader top → 1 ≤ years → is_until (in_year reader top) is_first line bound ≡ false
    → MatchOption found (HasNoYear second is_first line bound below fewer) (λ year. IsLatestYear second is_first line bound below fewer year)
    → MatchOption found (HasNoYear reader is_first line bound top years) (λ year. IsLatestYear reader is_first line bound top years year)
year_below reader second is_first line bound top below years fewer None b f s some not h =
    let same : SameInYears reader second = λ year. rw s (in_year-twice reader top year) in
    none_below reader is_first line bound top years some not
    (none_of_same reader second is_first line bound (top -ℤ pos 1) (years - 1) same (rw (b, f) at h))
year_below reader second is_first line bound top below years fewer (Some year) b f s some not h =
    let same : SameInYears reader second = λ z. rw s (in_year-twice reader top z) in
    latest_below reader is_first line bound top years year some not
    (latest_of_same reader second is_first line bound (top -ℤ pos 1) (years - 1) year same (rw (b, f) at h))

-- a line that has a year, and one that has none
pub line_has : (reader second : Reader) (is_first : Bool) (text : List ℕ) (from end : ℕ) (bound top other year : ℤ) → from ≤ end → end ≤ length text
    → HasNone 10 text from end → (end < length text → get_or text end 0 ≡ 10) → SameInYears reader second
    → IsLatestYear second is_first (between from end text) bound top 10 year → IsFirstYear reader is_first (left_from text from) bound top other year
line_has reader second is_first text from end bound top other year low high none feed same h =
    rw (pieces-at text from end low high none feed) (inl (latest_of_same reader second is_first (between from end text) bound top 10 year same h))

pub line_lacks : (reader second : Reader) (is_first : Bool) (text : List ℕ) (from end : ℕ) (bound top other year : ℤ) → from ≤ end → end ≤ length text
    → HasNone 10 text from end → (end < length text → get_or text end 0 ≡ 10) → SameInYears reader second
    → HasNoYear second is_first (between from end text) bound top 10 → IsFirstYear reader (end + 1 == 0) (left_from text (end + 1)) bound top other year
    → IsFirstYear reader is_first (left_from text from) bound top other year
line_lacks reader second is_first text from end bound top other year low high none feed same h more =
    let later : (end + 1 == 0) ≡ false = grind (arith, nat_tests) in
    rw (pieces-at text from end low high none feed)
    (inr (
      none_of_same reader second is_first (between from end text) bound top 10 same h,
      subst (λ (flag : Bool). IsFirstYear reader flag (left_from text (end + 1)) bound top other year) later more,
    ))

-- no line is left
pub none_left : (reader : Reader) (is_first : Bool) (text : List ℕ) (from : ℕ) (bound top other : ℤ) → length text < from
    → IsFirstYear reader is_first (left_from text from) bound top other other
none_left reader is_first text from bound top other past =
    let t : nat_le from (length text) ≡ false = grind (arith, nat_tests) in rw t refl

-- the instant up to which the first stamp is
pub first-at_bound : (reader : Reader) (lines : List (List ℕ)) (changed duration first bound top other year : ℤ) → IsSaturatingSum changed duration first
    → duration ≡ pos 86_400_000_000_000 → top ≡ year_of (wall_day first) +ℤ pos 1 → IsFirstYear reader true lines first top other year
    → IsSaturatingSum changed (pos 86_400_000_000_000) bound
    → IsFirstYear reader true lines bound (year_of (wall_day bound) +ℤ pos 1) other year
first-at_bound reader lines changed duration first bound top other year sum day last h other_sum =
    let same : first ≡ bound = sum.value ∙ ap (λ (z : ℤ). nearest_wall_clock (changed +ℤ z)) day ∙ sym other_sum.value in
    subst (λ (z : ℤ). IsFirstYear reader true lines z (year_of (wall_day z) +ℤ pos 1) other year) same
    (subst (λ (z : ℤ). IsFirstYear reader true lines first z other year) last h)
