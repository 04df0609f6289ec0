-- Sums and differences undo one another, and a replacement keeps the rest.
use Rattle.std.proofs.Common.{◌≡◌, ℕ, ◌∙◌, ap, sym, arith, ℤ, ◌+ℤ◌, ◌-ℤ◌, ◌≤ℤ◌, Option, Some, SomeIff}
use Rattle.std.proofs.lemmas.Int.{ints}
use Rattle.calendar_values.specs.Clock.{IsClock}
use Rattle.calendar_values.specs.SignedArith.{signed_arith}
use Rattle.calendar_values.specs.WallClock.{wall_day, wall_time, IsWallClock}
use Rattle.plain_times.specs.Laws.{IsOnlyWallClock, ReplacementsKeepTheRest, SaturatingSumsKeepTheOrder}
use Rattle.plain_times.specs.Replacements.{with_date, with_time}
use Rattle.plain_times.specs.Sums.{wall_clock_if_any, nearest_wall_clock}
use Rattle.plain_times.specs.SumLemmas.{wall_clock_if_any-in, wall_clock_if_any-SomeIff}

pub difference-undoes_sum : (w d sum : ℤ) (back : Option ℤ) → IsWallClock w → SomeIff (Some sum) (IsWallClock (w +ℤ d)) (w +ℤ d)
    → SomeIff back (IsWallClock (sum -ℤ d)) (sum -ℤ d) → back ≡ Some w
difference-undoes_sum w d sum back h accepted answer =
    let sum_is : sum ≡ w +ℤ d = accepted.1 in
    let undone : sum -ℤ d ≡ w = omega (arith, ints) in
    wall_clock_if_any-SomeIff back (sum -ℤ d) answer ∙ ap wall_clock_if_any undone ∙ wall_clock_if_any-in w h

pub difference-leads_back : (a b : ℤ) (sum : Option ℤ) → IsWallClock a → IsWallClock b
    → SomeIff sum (IsWallClock (b +ℤ (a -ℤ b))) (b +ℤ (a -ℤ b)) → sum ≡ Some a
difference-leads_back a b sum h k answer =
    let there : b +ℤ (a -ℤ b) ≡ a = omega (arith, ints) in
    wall_clock_if_any-SomeIff sum (b +ℤ (a -ℤ b)) answer ∙ ap wall_clock_if_any there ∙ wall_clock_if_any-in a h

pub sums-associate : (w d e sum : ℤ) (second both : Option ℤ) → SomeIff (Some sum) (IsWallClock (w +ℤ d)) (w +ℤ d)
    → SomeIff second (IsWallClock (sum +ℤ e)) (sum +ℤ e) → SomeIff both (IsWallClock (w +ℤ (d +ℤ e))) (w +ℤ (d +ℤ e)) → second ≡ both
sums-associate w d e sum second both first one_by_one at_once =
    let sum_is : sum ≡ w +ℤ d = first.1 in
    let same : sum +ℤ e ≡ w +ℤ (d +ℤ e) = omega (arith, ints) in
    wall_clock_if_any-SomeIff second (sum +ℤ e) one_by_one ∙ ap wall_clock_if_any same
    ∙ sym (wall_clock_if_any-SomeIff both (w +ℤ (d +ℤ e)) at_once)

nearest_wall_clock-mono : (w v : ℤ) → w ≤ℤ v → nearest_wall_clock w ≤ℤ nearest_wall_clock v
unfolding nearest_wall_clock
nearest_wall_clock-mono w v h = grind (arith, ints)

pub saturating_sums_keep_the_order : SaturatingSumsKeepTheOrder
saturating_sums_keep_the_order = record {
  of_wall_clocks = λ w v d h. nearest_wall_clock-mono (w +ℤ d) (v +ℤ d) (omega (arith, ints));
  of_durations = λ w d e h. nearest_wall_clock-mono (w +ℤ d) (w +ℤ e) (omega (arith, ints));
}

IsOnlyWallClock-with_date : (w n : ℤ) → IsOnlyWallClock (with_date w n) n (wall_time w)
unfolding with_date wall_day wall_time
IsOnlyWallClock-with_date w n = omega (arith, signed_arith)

IsOnlyWallClock-with_time : (w : ℤ) (c : ℕ) → IsClock c → IsOnlyWallClock (with_time w c) (wall_day w) c
unfolding with_time wall_day wall_time
IsOnlyWallClock-with_time w c clock = omega (arith, signed_arith)

pub replacements_keep_the_rest : ReplacementsKeepTheRest
replacements_keep_the_rest = record { date = IsOnlyWallClock-with_date; time = IsOnlyWallClock-with_time }
