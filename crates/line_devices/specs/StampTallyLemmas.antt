-- The tally of lines grows by one line at a time.
use Rattle.std.proofs.Common.{◌≡◌, refl, sym, ◌∙◌, ap, suc, ℕ, ◌+◌, ◌<◌, ◌≤◌, nat_lt, min, Bool, true, false, cond, List, [], ◌∷◌, ◌++◌, length, take}
use Rattle.std.proofs.Common.{Some, inl, inr, arith}
use Rattle.std.specs.Prelude.{if◌then◌else◌}
use Rattle.std.specs.List.{count_by, position_from}
use Rattle.std.specs.Option.{option_map}
use Rattle.std.proofs.lemmas.Bool.{cases_Bool}
use Rattle.std.proofs.lemmas.Bool.Decides.{nat_tests}
use Rattle.std.proofs.lemmas.List.{length-take, take-append-le}
use Rattle.std.proofs.lemmas.List.Sums.{sum_by_push}
use Rattle.line_devices.specs.StampTallies.{as_count, first_tally, is_bare, is_continuation, is_continued, is_long, is_long_kind, is_text, kind_of}
use Rattle.line_devices.specs.StampTallies.{line_or, tally_after, tally_of_kinds}
use Rattle.line_devices.specs.declared.stamp_tallies.LineKind.{LineKind}
use Rattle.line_devices.specs.declared.stamp_tallies.LineKind.TheVariants.{Stamped, Bare, Continued, Empty, Long}

count_by-push : (p : LineKind → Bool) (kinds : List LineKind) (kind : LineKind) → count_by p (kinds ++ kind ∷ []) ≡ count_by p kinds + cond (p kind) 1 0
count_by-push p kinds kind = sum_by_push (λ x. cond (p x) 1 0) kinds kind

-- the number of the next line, behind one more
later_place : (p : LineKind → Bool) (i : ℕ) (kinds : List LineKind)
    → line_or (option_map as_count (position_from p (i + 1) kinds)) (as_count ((i + 1) + length kinds))
    ≡ line_or (option_map as_count (position_from p (i + 1) kinds)) (as_count (i + suc (length kinds)))
later_place p i kinds =
    ap (λ (z : ℕ). line_or (option_map as_count (position_from p (i + 1) kinds)) (as_count z)) (omega arith)

-- the first line of a kind, with one more of that kind
place-next : (p : LineKind → Bool) (i : ℕ) (kinds : List LineKind) (kind : LineKind) → p kind ≡ true
    → option_map as_count (position_from p i (kinds ++ kind ∷ []))
    ≡ line_or (option_map as_count (position_from p i kinds)) (as_count (i + length kinds))
place-next p i [] kind is = rw is (ap (λ (z : ℕ). Some (as_count z)) (omega arith))
place-next p i (first ∷ kinds) kind is =
    elim (cases_Bool (p first)) [
      | inl hit ↦ rw hit refl
      | inr miss ↦ rw miss (place-next p (i + 1) kinds kind is ∙ later_place p i kinds)
    ]

-- with one more of another kind
place-other : (p : LineKind → Bool) (i : ℕ) (kinds : List LineKind) (kind : LineKind) → p kind ≡ false
    → position_from p i (kinds ++ kind ∷ []) ≡ position_from p i kinds
place-other p i [] kind other = rw other refl
place-other p i (first ∷ kinds) kind other =
    elim (cases_Bool (p first)) [
      | inl hit ↦ rw hit refl
      | inr miss ↦ rw miss (place-other p (i + 1) kinds kind other)
    ]

-- no lines
pub tally_of_kinds-nil : tally_of_kinds [] ≡ first_tally
unfolding tally_of_kinds
tally_of_kinds-nil = refl

-- one more line, whose number is that of the lines with it
pub tally_of_kinds-push : (kinds : List LineKind) (kind : LineKind)
    → tally_of_kinds (kinds ++ kind ∷ []) ≡ tally_after (tally_of_kinds kinds) (as_count (length kinds + 1)) kind
unfolding tally_of_kinds
tally_of_kinds-push kinds Stamped =
    rw (
      count_by-push is_text kinds Stamped,
      count_by-push is_bare kinds Stamped,
      count_by-push is_continued kinds Stamped,
      count_by-push is_long_kind kinds Stamped,
    )
    (rw (place-other is_bare 1 kinds Stamped refl, place-other is_long_kind 1 kinds Stamped refl) (grind arith))
tally_of_kinds-push kinds Bare =
    rw (
      count_by-push is_text kinds Bare,
      count_by-push is_bare kinds Bare,
      count_by-push is_continued kinds Bare,
      count_by-push is_long_kind kinds Bare,
    )
    (rw (place-next is_bare 1 kinds Bare refl, place-other is_long_kind 1 kinds Bare refl) (grind arith))
tally_of_kinds-push kinds Continued =
    rw (
      count_by-push is_text kinds Continued,
      count_by-push is_bare kinds Continued,
      count_by-push is_continued kinds Continued,
      count_by-push is_long_kind kinds Continued,
    )
    (rw (place-other is_bare 1 kinds Continued refl, place-other is_long_kind 1 kinds Continued refl) (grind arith))
tally_of_kinds-push kinds Empty =
    rw (
      count_by-push is_text kinds Empty,
      count_by-push is_bare kinds Empty,
      count_by-push is_continued kinds Empty,
      count_by-push is_long_kind kinds Empty,
    )
    (rw (place-other is_bare 1 kinds Empty refl, place-other is_long_kind 1 kinds Empty refl) (grind arith))
tally_of_kinds-push kinds Long =
    rw (
      count_by-push is_text kinds Long,
      count_by-push is_bare kinds Long,
      count_by-push is_continued kinds Long,
      count_by-push is_long_kind kinds Long,
    )
    (rw (place-next is_bare 1 kinds Long refl, place-next is_long_kind 1 kinds Long refl) (grind arith))

-- ---- the first bytes of a line

-- a number that is cut short at a greater one is still greater
greater-min : (some most n : ℕ) → some < most → nat_lt some (min most n) ≡ nat_lt some n
greater-min some most n less = grind (arith, nat_tests, less)

is_long-front : (line : List ℕ) → is_long (take 65536 line) ≡ is_long line
is_long-front line = ap (nat_lt 65500) (length-take 65536 line) ∙ greater-min 65500 65536 (length line) (omega arith)

-- the kind of a line depends on its first bytes alone
pub kind_of-front : (line : List ℕ) (has_stamp : Bool) → kind_of (take 65536 line) has_stamp ≡ kind_of line has_stamp
kind_of-front [] has_stamp = refl
kind_of-front (byte ∷ []) has_stamp = refl
kind_of-front (byte ∷ next ∷ rest) true = refl
kind_of-front (byte ∷ next ∷ rest) false =
    ap (λ (b : Bool). if b then Long else (if is_continuation (byte ∷ next ∷ rest) then Continued else Bare)) (is_long-front (byte ∷ next ∷ rest))

-- bytes after so many change nothing
pub kind_of-longer : (line more : List ℕ) (has_stamp : Bool) → 65536 ≤ length line → kind_of (line ++ more) has_stamp ≡ kind_of line has_stamp
kind_of-longer line more has_stamp long =
    sym (kind_of-front (line ++ more) has_stamp)
    ∙ (ap (λ (z : List ℕ). kind_of z has_stamp) (take-append-le 65536 line more long) ∙ kind_of-front line has_stamp)
