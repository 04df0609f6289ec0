-- Laws of all wall clocks and durations: the definitions do as their names say. A function of `src/laws.rt` proves each of them.
use Rattle.std.specs.Prelude.{◌≡◌, ◌↔◌, ℕ, ◌<◌, ◌≤◌, ℤ, ◌+ℤ◌, ◌-ℤ◌, ◌<ℤ◌, ◌≤ℤ◌, Option, Some, SomeIff, Ok}
use Rattle.calendar_values.specs.Calendar.{year_of, month_of, day_of_month_of, ordinal_of}
use Rattle.calendar_values.specs.Clock.{IsClock, hour_of, minute_of, second_of, millisecond_of, microsecond_of, nanosecond_of}
use Rattle.calendar_values.specs.Outcomes.{IsOneAnswer}
use Rattle.calendar_values.specs.WallClock.{wall_day, wall_time, IsWallClock}
use Rattle.plain_times.specs.Packed.{packed_wall_clock}
use Rattle.plain_times.specs.Replacements.{with_date, with_time, wall_year_outcome, wall_month_outcome, wall_day_outcome, wall_ordinal_outcome}
use Rattle.plain_times.specs.Replacements.{wall_hour_outcome}
use Rattle.plain_times.specs.Replacements.{wall_minute_outcome, wall_second_outcome, wall_millisecond_outcome, wall_microsecond_outcome}
use Rattle.plain_times.specs.Replacements.{wall_nanosecond_outcome}
use Rattle.plain_times.specs.Sums.{nearest_wall_clock}
use Rattle.plain_times.specs.Truncations.{wall_multiple_below, IsGreatestWallMultiple}

-- if a wall clock and its sum are in range, the sum minus the duration is the wall clock again
abbrev pub DifferencesUndoSums : Type 0
DifferencesUndoSums = (w d sum : ℤ) (back : Option ℤ) → IsWallClock w → SomeIff (Some sum) (IsWallClock (w +ℤ d)) (w +ℤ d)
    → SomeIff back (IsWallClock (sum -ℤ d)) (sum -ℤ d) → back ≡ Some w

-- b plus the difference a - b is a, for wall clocks in range
abbrev pub DifferencesLeadBack : Type 0
DifferencesLeadBack = (a b : ℤ) (sum : Option ℤ) → IsWallClock a → IsWallClock b
    → SomeIff sum (IsWallClock (b +ℤ (a -ℤ b))) (b +ℤ (a -ℤ b)) → sum ≡ Some a

-- w is the only wall clock of day n and clock c
pub record IsOnlyWallClock (w n : ℤ) (c : ℕ) : Type 0 where
  pub day : wall_day w ≡ n
  pub time : wall_time w ≡ c
  pub only : (v : ℤ) → wall_day v ≡ n → wall_time v ≡ c → v ≡ w

-- a replacement returns the only wall clock with the given date or time of day, and the other of the two as before
pub record ReplacementsKeepTheRest : Type 0 where
  pub date : (w n : ℤ) → IsOnlyWallClock (with_date w n) n (wall_time w)
  pub time : (w : ℤ) (c : ℕ) → IsClock c → IsOnlyWallClock (with_time w c) (wall_day w) c

-- after a replacement that succeeds, the part has the given value
pub record ReplacedPartsReadAsGiven : Type 0 where
  pub year : (w v y : ℤ) → (wall_year_outcome w y).answer ≡ Ok v → year_of (wall_day v) ≡ y
  pub month : (w v : ℤ) (m : ℕ) → 1 ≤ m → m ≤ 12 → (wall_month_outcome w m).answer ≡ Ok v → month_of (wall_day v) ≡ m
  pub day : (w v : ℤ) (d : ℕ) → (wall_day_outcome w d).answer ≡ Ok v → day_of_month_of (wall_day v) ≡ d
  pub ordinal : (w v : ℤ) (o : ℕ) → (wall_ordinal_outcome w o).answer ≡ Ok v → ordinal_of (wall_day v) ≡ o
  pub hour : (w v : ℤ) (h : ℕ) → (wall_hour_outcome w h).answer ≡ Ok v → hour_of (wall_time v) ≡ h
  pub minute : (w v : ℤ) (m : ℕ) → (wall_minute_outcome w m).answer ≡ Ok v → minute_of (wall_time v) ≡ m
  pub second : (w v : ℤ) (s : ℕ) → (wall_second_outcome w s).answer ≡ Ok v → second_of (wall_time v) ≡ s
  pub millisecond : (w v : ℤ) (n : ℕ) → (wall_millisecond_outcome w n).answer ≡ Ok v → millisecond_of (wall_time v) ≡ n
  pub microsecond : (w v : ℤ) (n : ℕ) → (wall_microsecond_outcome w n).answer ≡ Ok v → microsecond_of (wall_time v) ≡ n
  pub nanosecond : (w v : ℤ) (n : ℕ) → (wall_nanosecond_outcome w n).answer ≡ Ok v → nanosecond_of (wall_time v) ≡ n

-- a truncation returns the greatest multiple of its unit that is not above the wall clock
abbrev pub TruncationsRoundDown : Type 0
TruncationsRoundDown = (unit : ℕ) (w : ℤ) → 0 < unit → IsGreatestWallMultiple unit w (wall_multiple_below unit w)

-- truncating twice to a unit is truncating once
abbrev pub TruncationsRoundDownOnce : Type 0
TruncationsRoundDownOnce = (unit : ℕ) (w : ℤ) → 0 < unit → wall_multiple_below unit (wall_multiple_below unit w) ≡ wall_multiple_below unit w

-- packed numbers are equal exactly if their wall clocks are, and have the same order
pub record PackedNumbersKeepTheOrder : Type 0 where
  pub same : (w v : ℤ) → (packed_wall_clock w ≡ packed_wall_clock v) ↔ (w ≡ v)
  pub earlier : (w v : ℤ) → (packed_wall_clock w <ℤ packed_wall_clock v) ↔ (w <ℤ v)

-- after a sum in range, a second sum returns the same as one sum with both durations
abbrev pub SumsAssociate : Type 0
SumsAssociate = (w d e sum : ℤ) (second both : Option ℤ) → SomeIff (Some sum) (IsWallClock (w +ℤ d)) (w +ℤ d)
    → SomeIff second (IsWallClock (sum +ℤ e)) (sum +ℤ e) → SomeIff both (IsWallClock (w +ℤ (d +ℤ e))) (w +ℤ (d +ℤ e)) → second ≡ both

-- saturating sums keep the order of the wall clocks for one duration, and the order of the durations for one wall clock
pub record SaturatingSumsKeepTheOrder : Type 0 where
  pub of_wall_clocks : (w v d : ℤ) → w ≤ℤ v → nearest_wall_clock (w +ℤ d) ≤ℤ nearest_wall_clock (v +ℤ d)
  pub of_durations : (w d e : ℤ) → d ≤ℤ e → nearest_wall_clock (w +ℤ d) ≤ℤ nearest_wall_clock (w +ℤ e)

-- the outcome of each replacement is one answer: its value if the part is valid, and its error otherwise
pub record OutcomesAreAnswers : Type 0 where
  pub year : (w y : ℤ) → IsOneAnswer (wall_year_outcome w y)
  pub month : (w : ℤ) (m : ℕ) → IsWallClock w → IsOneAnswer (wall_month_outcome w m)
  pub day : (w : ℤ) (d : ℕ) → IsWallClock w → IsOneAnswer (wall_day_outcome w d)
  pub ordinal : (w : ℤ) (o : ℕ) → IsWallClock w → IsOneAnswer (wall_ordinal_outcome w o)
  pub hour : (w : ℤ) (h : ℕ) → IsOneAnswer (wall_hour_outcome w h)
  pub minute : (w : ℤ) (m : ℕ) → IsOneAnswer (wall_minute_outcome w m)
  pub second : (w : ℤ) (s : ℕ) → IsOneAnswer (wall_second_outcome w s)
  pub millisecond : (w : ℤ) (n : ℕ) → IsOneAnswer (wall_millisecond_outcome w n)
  pub microsecond : (w : ℤ) (n : ℕ) → IsOneAnswer (wall_microsecond_outcome w n)
  pub nanosecond : (w : ℤ) (n : ℕ) → IsOneAnswer (wall_nanosecond_outcome w n)
