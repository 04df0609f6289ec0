-- Words, cut at a separator.
use Rattle.std.proofs.Common.{◌≡◌, ◌≢◌, ℕ, ◌+◌, ◌<◌, ◌≤◌, true, false, ◌==◌, get_or, take, drop, List, [], ◌∷◌, ◌++◌, length, refl, ◌∙◌, ap, arith, None}
use Rattle.std.specs.List.{starts_with}
use Rattle.std.specs.Prelude.{All, nat_eq}
use Rattle.std.specs.Str.{bytes_eq}
use Rattle.std.proofs.lemmas.Bool.Decides.{nat_tests}
use Rattle.std.proofs.lemmas.Grind.{common_steps}
use Rattle.std.proofs.lemmas.List.{length-take, take_all}
use Rattle.std.proofs.lemmas.List.Splits.{slice_split_none, slice_split_at, length-slice_split}
use Rattle.std.proofs.lemmas.List.Sums.{count_by-le-length}
use Rattle.std.proofs.lemmas.Slice.Eq.{bytes_eq-Decides}
use Rattle.line_devices.specs.LineParts.{HasNone}
use Rattle.times_bench.specs.Words.{cut_at, exactly_one}

-- no separator stands before the end of a text
All-none : (separator : ℕ) (text : List ℕ) (end : ℕ) → end ≤ length text → HasNone separator text 0 end
    → All (λ byte. (byte == separator) ≡ false) (take end text)
All-none separator text end high h k d low =
    let same : get_or (take end text) k d ≡ get_or text k 0 = grind (arith, common_steps) in
    let other : get_or text k 0 ≢ separator = h k (omega arith) (omega (arith, low, length-take end text)) in
    rw same (grind (arith, nat_tests))

-- a text without a separator is one word
pub cut_at-none : (separator : ℕ) (text : List ℕ) → HasNone separator text 0 (length text) → cut_at separator text ≡ text ∷ []
cut_at-none separator text h =
    slice_split_none (λ b. b == separator) text (rw (take_all (length text) text (omega arith)) at (All-none separator text (length text) (omega arith) h))

-- the first separator ends the first word
pub cut_at-first : (separator : ℕ) (text : List ℕ) (end : ℕ) → end < length text → HasNone separator text 0 end → get_or text end 0 ≡ separator
    → cut_at separator text ≡ take end text ∷ cut_at separator (drop (end + 1) text)
cut_at-first separator text end low h is =
    let whole : text ≡ take end text ++ separator ∷ drop (end + 1) text = grind (arith, common_steps) in
    let ends : (separator == separator) ≡ true = grind (arith, nat_tests) in
    let none = All-none separator text end (omega arith) h in
    ap (cut_at separator) whole ∙ slice_split_at (λ byte. byte == separator) (take end text) separator (drop (end + 1) text) none ends

-- a text has at most one word more than bytes
pub length-cut_at : (separator : ℕ) (text : List ℕ) → length (cut_at separator text) ≤ length text + 1
length-cut_at separator text =
    omega (arith, length-slice_split (λ byte. byte == separator) text, count_by-le-length (λ byte. byte == separator) text)

pub length-cut_at-some : (separator : ℕ) (text : List ℕ) → 0 < length (cut_at separator text)
length-cut_at-some separator text = omega (arith, length-slice_split (λ byte. byte == separator) text)

-- a separator has a field behind it
pub no_field_more : (separator : ℕ) (field text : List ℕ) → exactly_one (field ∷ cut_at separator text) ≡ None
unfolding exactly_one
no_field_more separator field text = elim (cut_at separator text) as (λ fields. 0 < length fields → exactly_one (field ∷ fields) ≡ None)
    [ [] ↦ λ some. absurd (omega arith) | next ∷ fields ↦ λ some. refl ] (length-cut_at-some separator text)

-- one as long is the text where that begins with it
pub bytes_eq-as_long : (word text : List ℕ) → length word ≡ length text → starts_with nat_eq text word ≡ bytes_eq word text
bytes_eq-as_long word text same = let whole = take_all (length word) text (omega arith) in rw whole refl
