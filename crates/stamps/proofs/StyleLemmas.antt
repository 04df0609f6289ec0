-- Which instants have a text.
use Rattle.std.proofs.Common.{◌≡◌, ℕ, ◌%◌, ◌<◌, Bool, true, false, cond, nat_eq, nat_lt, List, Option, Some, None, ℤ, pos, negsuc, ◌≤ℤ◌, unsigned_abs}
use Rattle.std.proofs.Common.{refl, ap, subst}
use Rattle.std.proofs.Common.{arith}
use Rattle.std.specs.Prelude.{SomeIff, ◌&&◌}
use Rattle.std.proofs.lemmas.Bool.{and_parts}
use Rattle.std.proofs.lemmas.Bool.Decides.{nat_tests}
use Rattle.calendar_values.specs.Calendar.{year_of}
use Rattle.calendar_values.specs.SignedArith.{signed_arith}
use Rattle.calendar_values.specs.WallClock.{IsWallClock, wall_day}
use Rattle.offset_times.specs.InstantLemmas.{instant_of-utc}
use Rattle.offset_times.specs.Local.{local_at, local_in_utc, shown_at}
use Rattle.rfc3339.specs.ReadInstantLemmas.{instant_of-in_range}
use Rattle.rfc3339.specs.Texts.{HasText, HasFixedText, fixed_text, fixed_text_at}
use Rattle.stamps.specs.Styles.{has_four_digits, is_written, text_in}
use Rattle.stamps.specs.declared.task.Style.TheVariants.{Utc, At}

-- a text that is there exactly where a test holds
chosen : (P : Type 0) (test : Bool) (text : List ℕ) (r : Option (List ℕ)) → SomeIff r P text → (P → test ≡ true) → (test ≡ true → P)
    → r ≡ cond test (Some text) None
chosen P true text (Some shown) h to from = ap Some h.1
chosen P false text (Some shown) h to from = let no = to h.0 in absurd cc
chosen P true text None h to from = absurd (h (from refl))
chosen P false text None h to from = refl

four_digits : (year : ℤ) → pos 0 ≤ℤ year → year ≤ℤ pos 9_999 → has_four_digits year ≡ true
four_digits (pos year) low high = let below : year < 10_000 = omega (arith, signed_arith, high) in grind (arith, nat_tests)
four_digits (negsuc year) low high = absurd (omega (arith, signed_arith, low))

pub four_digits-true : (year : ℤ) → has_four_digits year ≡ true → (pos 0 ≤ℤ year) × (year ≤ℤ pos 9_999)
four_digits-true (pos year) e = let below : year < 10_000 = grind (arith, nat_tests) in omega (arith, signed_arith, below)
four_digits-true (negsuc year) e = absurd cc

pub text_in_utc : (i : ℤ) (r : Option (List ℕ)) → SomeIff r (HasFixedText i) (fixed_text i) → r ≡ text_in Utc i
unfolding text_in
text_in_utc i r h =
    let year = year_of (wall_day i) in
    chosen (HasFixedText i) (has_four_digits year) (fixed_text i) r h (λ p. four_digits year p.year_first p.year_last)
    (λ e. let both = four_digits-true year e in record { year_first = both.0; year_last = both.1 })

written : (o : ℤ) → unsigned_abs o % 60 ≡ 0 → unsigned_abs o < 86_400 → is_written o ≡ true
written o minutes below = grind (arith, nat_tests)

written-true : (o : ℤ) → is_written o ≡ true → (unsigned_abs o % 60 ≡ 0) × (unsigned_abs o < 86_400)
written-true o e =
    let both = and_parts (nat_eq (unsigned_abs o % 60) 0) (nat_lt (unsigned_abs o) 86_400) e in
    (grind (arith, nat_tests, both.0), grind (arith, nat_tests, both.1))

both_hold : (a b : Bool) → a ≡ true → b ≡ true → (a && b) ≡ true
both_hold a b e f = rw (e, f) refl

pub text_at_offset : (i o : ℤ) (r : Option (List ℕ)) → SomeIff r (HasText (local_at i o)) (fixed_text_at (local_at i o)) → r ≡ text_in (At o) i
unfolding text_in
text_at_offset i o r h =
    let year = year_of (wall_day (shown_at i o)) in
    chosen (HasText (local_at i o)) (has_four_digits year && is_written o) (fixed_text_at (local_at i o)) r h
    (λ p. both_hold (has_four_digits year) (is_written o) (four_digits year p.year_first p.year_last) (written o p.whole_minutes p.below_a_day))
    (λ e.
    let both = and_parts (has_four_digits year) (is_written o) e in
    let years = four_digits-true year both.0 in
    let parts = written-true o both.1 in
    record { year_first = years.0; year_last = years.1; whole_minutes = parts.0; below_a_day = parts.1 })

-- a year of four digits lies in the range
shown_in_range : (wall : ℤ) → pos 0 ≤ℤ year_of (wall_day wall) → year_of (wall_day wall) ≤ℤ pos 9_999 → IsWallClock wall
shown_in_range wall low high =
    let text : HasText (local_in_utc wall) = record { year_first = low; year_last = high; whole_minutes = refl; below_a_day = omega arith } in
    subst IsWallClock (instant_of-utc wall) (instant_of-in_range (local_in_utc wall) text)

no_test : (test : Bool) (text : List ℕ) → ¬ (test ≡ true) → None ≡ cond test (Some text) None
no_test true text fails = absurd (fails refl)
no_test false text fails = refl

pub no_text_at : (i o : ℤ) → ¬ IsWallClock (shown_at i o) → None ≡ text_in (At o) i
unfolding text_in
no_text_at i o outside =
    let year = year_of (wall_day (shown_at i o)) in
    no_test (has_four_digits year && is_written o) (fixed_text_at (local_at i o))
    (λ e.
    let years = four_digits-true year (and_parts (has_four_digits year) (is_written o) e).0 in
    outside (shown_in_range (shown_at i o) years.0 years.1))
