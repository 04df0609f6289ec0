-- The best of the first readers is the first that finds the most stamps.
use Rattle.std.proofs.Common.{◌≡◌, ℕ, zero, suc, ◌<◌, ◌≤◌, Bool, true, false, List, [], ◌∷◌, length, refl, arith, nat_lt}
use Rattle.std.proofs.Common.{Option, Some, None, Result, Ok, Err, inl, inr}
use Rattle.std.proofs.lemmas.Bool.{cases_Bool}
use Rattle.std.proofs.lemmas.Bool.Decides.{nat_tests}
use Rattle.std.specs.Prelude.{if◌then◌else◌}
use Rattle.log_forms.specs.Choices.{best_of, better_of, choice_of, count_in, count_read, found_by, if_both, most, one_more}
use Rattle.log_forms.specs.Choices.{reader_form, reader_key, reader_place, some_year}
use Rattle.log_forms.specs.Forms.{form_named}
use Rattle.log_forms.specs.Stamps.{stamp_at}
use Rattle.log_forms.specs.declared.choice.TheConstants.{READERS}
use Rattle.log_forms.specs.declared.form.Form.{Form}
use Rattle.log_forms.specs.declared.instants.Assumed.{Assumed}
use Rattle.log_forms.specs.declared.places.Place.{Place}
use Rattle.log_forms.specs.declared.stamps.Stamp.{Stamp}
use Rattle.log_forms.specs.declared.stamps.StampRefusal.{StampRefusal}

-- the better of two has fewer lines than a number that both are below
better-less : (before : ℕ × ℕ) (reader count k : ℕ) → before.0 < k → count < k → (better_of before reader count).0 < k
better-less before reader count k less h = elim (cases_Bool (nat_lt before.0 count)) [
  | inl t ↦ rw t h
  | inr f ↦ rw f less
]

-- the best of readers that all count fewer lines
best-less : (readers k : ℕ) (lines : List (List ℕ)) → 0 < k → ((other : ℕ) → other < readers → count_read other lines < k)
    → (best_of readers lines).0 < k
unfolding best_of
best-less zero k lines some less = some
best-less (suc readers) k lines some less =
    better-less (best_of readers lines) readers (count_read readers lines) k
    (best-less readers k lines some (λ other before. less other (omega (arith, before))))
    (less readers (omega (arith)))

-- the next reader is the better one where it counts more lines, and else the one before stays
better-next : (before : ℕ × ℕ) (reader count : ℕ) → before.0 < count → better_of before reader count ≡ (count, reader)
better-next before reader count less = grind (arith, nat_tests, less)

better-stays : (before : ℕ × ℕ) (reader count : ℕ) → count ≤ before.0 → better_of before reader count ≡ before
better-stays before reader count most = grind (arith, nat_tests, most)

-- the best of one reader more
best-step : (readers : ℕ) (lines : List (List ℕ))
    → best_of (suc readers) lines ≡ better_of (best_of readers lines) readers (count_read readers lines)
unfolding best_of
best-step readers lines = refl

-- the last of the first readers, if it counts more lines than each before it
best-last : (reader : ℕ) (lines : List (List ℕ)) → 0 < count_read reader lines
    → ((other : ℕ) → other < reader → count_read other lines < count_read reader lines)
    → best_of (suc reader) lines ≡ (count_read reader lines, reader)
best-last reader lines some first =
    rw (best-step reader lines) (better-next (best_of reader lines) reader (count_read reader lines)
    (best-less reader (count_read reader lines) lines some first))

-- the first of the readers that count the most lines
best-is : (readers reader : ℕ) (lines : List (List ℕ)) → reader < readers → 0 < count_read reader lines
    → ((other : ℕ) → other < readers → count_read other lines ≤ count_read reader lines)
    → ((other : ℕ) → other < reader → count_read other lines < count_read reader lines)
    → best_of readers lines ≡ (count_read reader lines, reader)
best-is zero reader lines here some most first = absurd (omega (arith, here))
best-is (suc readers) reader lines here some most first = elim (cases_Bool (nat_lt reader readers)) [
  | inl t ↦
      let earlier : reader < readers = grind (arith, nat_tests, t) in
      let before = best-is readers reader lines earlier some (λ other h. most other (omega (arith, h))) first in
      rw (best-step readers lines) (rw before (better-stays (count_read reader lines, reader) readers (count_read readers lines)
      (most readers (omega (arith)))))
  | inr f ↦
      let late : readers ≤ reader = grind (arith, nat_tests, f) in
      let same : readers ≡ reader = omega (arith, late, here) in
      rw same (best-last reader lines some first)
]

-- a reader counts no more lines than there are
one_more-most : (count length : ℕ) (found : Result Stamp StampRefusal) → count ≤ length → one_more count found ≤ suc length
one_more-most count length (Ok stamp) most = omega (arith, most)
one_more-most count length (Err refusal) most = omega (arith, most)

count_in-most : (form : Form) (place : Place) (key : List ℕ) (assumed : Assumed) (lines : List (List ℕ))
    → count_in form place key assumed lines ≤ length lines
unfolding count_in
count_in-most form place key assumed [] = omega (arith)
count_in-most form place key assumed (line ∷ lines) =
    one_more-most (count_in form place key assumed lines) (length lines) (stamp_at form place key assumed line)
    (count_in-most form place key assumed lines)

found_by-most : (reader : ℕ) (lines : List (List ℕ)) → found_by reader lines ≤ length lines
unfolding found_by
found_by-most reader lines = count_in-most (form_named (reader_form reader)) (reader_place reader) (reader_key reader) some_year lines

cond-most : (b : Bool) (count k : ℕ) → count ≤ k → (if b then count else 0) ≤ k
cond-most true count k most = most
cond-most false count k most = omega (arith)

count_read-most : (reader : ℕ) (lines : List (List ℕ)) → count_read reader lines ≤ length lines
count_read-most reader lines = cond-most _ (found_by reader lines) (length lines) (found_by-most reader lines)

-- the choice by both of the first two lines, and by all lines
pub both-chosen : (first second : List ℕ) (lines : List (List ℕ)) (reader : ℕ) → reader < READERS
    → count_read reader (first ∷ second ∷ []) ≡ 2 → ((other : ℕ) → other < reader → count_read other (first ∷ second ∷ []) < 2)
    → choice_of (first ∷ second ∷ lines) ≡ Some reader
both-chosen first second lines reader inside both before =
    let two = first ∷ second ∷ [] in
    let best = best-is READERS reader two inside (omega (arith, both))
    (λ other here. let most = count_read-most other two in omega (arith, both, most))
    (λ other here. let less = before other here in omega (arith, both, less)) in
    rw best (rw both refl)

if_both-not : (best : ℕ × ℕ) (others : Option ℕ) → best.0 < 2 → if_both best others ≡ others
if_both-not best others less = grind (arith, nat_tests, less)

most-found : (count reader : ℕ) → 0 < count → most (count, reader) ≡ Some reader
most-found count reader some = grind (arith, nat_tests, some)

most-none : (best : ℕ × ℕ) → best.0 < 1 → most best ≡ None
most-none best less = grind (arith, nat_tests, less)

pub most-chosen : (lines : List (List ℕ)) (reader : ℕ) → reader < READERS → 0 < count_read reader lines
    → ((other : ℕ) → other < READERS → count_read other lines ≤ count_read reader lines)
    → ((other : ℕ) → other < reader → count_read other lines < count_read reader lines) → most (best_of READERS lines) ≡ Some reader
most-chosen lines reader inside some most first =
    rw (best-is READERS reader lines inside some most first) (most-found (count_read reader lines) reader some)

pub not-by_both : (first second : List ℕ) (lines : List (List ℕ)) (reader : Option ℕ)
    → ((other : ℕ) → other < READERS → count_read other (first ∷ second ∷ []) < 2)
    → most (best_of READERS (first ∷ second ∷ lines)) ≡ reader → choice_of (first ∷ second ∷ lines) ≡ reader
not-by_both first second lines reader none rest =
    let two = first ∷ second ∷ [] in
    rw (if_both-not (best_of READERS two) (most (best_of READERS (first ∷ second ∷ lines)))
    (best-less READERS 2 two (omega (arith)) none)) rest

pub none-most : (lines : List (List ℕ)) → ((other : ℕ) → other < READERS → count_read other lines ≡ 0)
    → most (best_of READERS lines) ≡ None
none-most lines nothing =
    most-none (best_of READERS lines)
    (best-less READERS 1 lines (omega (arith)) (λ other here. let zero = nothing other here in omega (arith, zero)))
