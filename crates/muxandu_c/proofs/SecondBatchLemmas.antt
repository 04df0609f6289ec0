-- Date-times of Unix seconds, counted in seconds; four values more.
use Rattle.std.proofs.Common.{◌≡◌, ℕ, ◌+◌, ◌-◌, ◌*◌, ◌/◌, ◌%◌, ◌<◌, ◌≤◌, Result, Ok, refl, sym, ◌∙◌, ap, arith}
use Rattle.std.proofs.Common.{◌++◌, [], List, length, length-drop, take, drop, get_or, set, ℤ, ◌+ℤ◌, ◌≤ℤ◌, false}
use Rattle.std.proofs.Math.ListN.{length-set}
use Rattle.std.proofs.lemmas.Int.{ints}
use Rattle.std.proofs.lemmas.List.{drop-drop, take_all, drop_all, append-nil, append_assoc}
use Rattle.calendar_values.specs.SignedArith.{signed_arith}
use Rattle.calendar_values.specs.Range.{is_outside}
use Rattle.calendar_values.specs.Offsets.{IsOffset, least_offset, greatest_offset, offset_of_seconds}
use Rattle.calendar_values.specs.Calendar.{year_of, month_of, day_of_month_of}
use Rattle.calendar_values.specs.Clock.{IsClock, hour_of, minute_of, second_of, nanosecond_of}
use Rattle.calendar_values.specs.WallClock.{wall_clock, wall_day, wall_time, first_wall_clock, last_wall_clock}
use Rattle.calendar_values.specs.WallClockLemmas.{wall_day-wall_clock, wall_time-wall_clock}
use Rattle.utc_times.specs.UnixTime.{instant_of_second}
use Rattle.offset_times.specs.Local.{shown_at}
use Rattle.stamp_times.specs.Instants.{instant_of_parts}
use Rattle.stamp_times.specs.Refusals.{timestamp_of_parts}
use Rattle.lanes.specs.DateTimes.{IsWallSecond, day_of_second, second_of_day}
use Rattle.muxandu_c.specs.Batches.{values_of, status_of_items}
use Rattle.muxandu_c.specs.SecondBatches.{date_time_at_offset, with_four}
use Rattle.muxandu_c.specs.Values.{date_time_of_second, instant_if_any}
use Rattle.muxandu_c.specs.declared.refused.Refused.{Refused}
use Rattle.muxandu_c.specs.declared.values.MuxanduDateTime.{MuxanduDateTime}
use Rattle.muxandu_c.proofs.BatchLemmas.{values_of-more, status_of_items-more}

pub inside : (first last n : ℤ) → first ≤ℤ n → n ≤ℤ last → is_outside first last n ≡ false
inside first last n low high = grind (arith, ints)

timestamp-inside : (second : ℤ) → IsWallSecond second → timestamp_of_parts second 0 ≡ Ok (instant_of_parts second 0)
unfolding timestamp_of_parts
timestamp-inside second h =
    let within = inside first_wall_clock last_wall_clock (instant_of_second second) (omega (arith, signed_arith)) (omega (arith, signed_arith)) in
    rw within refl

pub offset-inside : (offset : ℤ) → IsOffset offset → offset_of_seconds offset ≡ Ok offset
unfolding offset_of_seconds
offset-inside offset h = let within = inside least_offset greatest_offset offset h.0 h.1 in rw within refl

wall_clock-inside : (second offset : ℤ) → IsWallSecond (second +ℤ offset) →
    instant_if_any (shown_at (instant_of_parts second 0) offset) ≡ Ok (shown_at (instant_of_parts second 0) offset)
wall_clock-inside second offset h =
    let within =
    inside first_wall_clock last_wall_clock (shown_at (instant_of_parts second 0) offset) (omega (arith, signed_arith)) (omega (arith, signed_arith)) in
    rw within refl

-- a wall clock of whole seconds, by its day and the second of that day

second_of_day-bound : (w : ℤ) → second_of_day w < 86_400
second_of_day-bound w = omega (arith, signed_arith)

shown_at-seconds : (second offset : ℤ) →
    shown_at (instant_of_parts second 0) offset ≡ wall_clock (day_of_second (second +ℤ offset)) (second_of_day (second +ℤ offset) * 1_000_000_000)
shown_at-seconds second offset = omega (arith, signed_arith)

IsClock-seconds : (s : ℕ) → s < 86_400 → IsClock (s * 1_000_000_000)
IsClock-seconds s h = omega arith

hour_of-seconds : (s : ℕ) → hour_of (s * 1_000_000_000) ≡ s / 60 / 60
hour_of-seconds s = omega arith

minute_of-seconds : (s : ℕ) → minute_of (s * 1_000_000_000) ≡ s / 60 % 60
minute_of-seconds s = omega arith

second_of-seconds : (s : ℕ) → second_of (s * 1_000_000_000) ≡ s % 60
second_of-seconds s = omega arith

nanosecond_of-seconds : (s : ℕ) → nanosecond_of (s * 1_000_000_000) ≡ 0
nanosecond_of-seconds s = omega arith

wall-parts : (n : ℤ) (s : ℕ) (w : ℤ) → s < 86_400 → w ≡ wall_clock n (s * 1_000_000_000) → (wall_day w ≡ n) × (wall_time w ≡ s * 1_000_000_000)
wall-parts n s w h e =
    rw e (wall_day-wall_clock n (s * 1_000_000_000) (IsClock-seconds s h), wall_time-wall_clock n (s * 1_000_000_000) (IsClock-seconds s h))

same : {y y' o o' : ℤ} {m m' d d' h h' i i' s s' n n' : ℕ} → y ≡ y' → m ≡ m' → d ≡ d' → h ≡ h' → i ≡ i' → s ≡ s' → n ≡ n' → o ≡ o' →
    ◌≡◌ {A = MuxanduDateTime} (record { year = y; month = m; day = d; hour = h; minute = i; second = s; nanosecond = n; offset_seconds = o })
    (record { year = y'; month = m'; day = d'; hour = h'; minute = i'; second = s'; nanosecond = n'; offset_seconds = o' })
same a b c d e f g h = cc

abbrev ok : MuxanduDateTime → Result MuxanduDateTime Refused
ok r = Ok r

-- what the single call gives, where clocks show a day of the range
pub date_time_at_offset-call : (offset second : ℤ) → IsOffset offset → IsWallSecond second → IsWallSecond (second +ℤ offset) →
    Ok (date_time_at_offset offset (second +ℤ offset)) ≡ date_time_of_second offset second
date_time_at_offset-call offset second is_offset here shown =
    let w = second +ℤ offset in
    let s = second_of_day w in
    let parts = wall-parts (day_of_second w) s (shown_at (instant_of_parts second 0) offset) (second_of_day-bound w) (shown_at-seconds second offset) in
    sym (rw (timestamp-inside second here, offset-inside offset is_offset, wall_clock-inside second offset shown)
    (ap ok (same (ap year_of parts.0) (ap month_of parts.0) (ap day_of_month_of parts.0) (ap hour_of parts.1 ∙ hour_of-seconds s)
    (ap minute_of parts.1 ∙ minute_of-seconds s) (ap second_of parts.1 ∙ second_of-seconds s) (ap nanosecond_of parts.1 ∙ nanosecond_of-seconds s) refl)))

-- four values more

pub values_of-four : {A B : Type 0} (f : A → Result B Refused) (items : List A) (k : ℕ) (z : A) (out : List B) (a b c d : B) →
    k + 4 ≤ length items → k + 4 ≤ length out →
    Ok a ≡ f (get_or items k z) → Ok b ≡ f (get_or items (k + 1) z) → Ok c ≡ f (get_or items (k + 2) z) → Ok d ≡ f (get_or items (k + 3) z) →
    take (k + 4) (with_four out k a b c d) ++ values_of f (drop (k + 4) items) ≡ take k out ++ values_of f (drop k items)
values_of-four f items k z out a b c d low room ea eb ec ed =
    let with_a = set out k a in
    let with_b = set with_a (k + 1) b in
    let with_c = set with_b (k + 2) c in
    let long_a : length with_a ≡ length out = length-set out k a in
    let long_b : length with_b ≡ length with_a = length-set with_a (k + 1) b in
    let long_c : length with_c ≡ length with_b = length-set with_b (k + 2) c in
    let more_a = values_of-more f items k z out a (omega arith) (omega arith) ea in
    let more_b = values_of-more f items (k + 1) z with_a b (omega arith) (omega arith) eb in
    let more_c = values_of-more f items (k + 2) z with_b c (omega arith) (omega arith) ec in
    let more_d = values_of-more f items (k + 3) z with_c d (omega arith) (omega arith) ed in
    let two : k + 1 + 1 ≡ k + 2 = omega arith in
    let three : k + 2 + 1 ≡ k + 3 = omega arith in
    let last : k + 3 + 1 ≡ k + 4 = omega arith in
    (rw last at more_d) ∙ (rw three at more_c) ∙ (rw two at more_b) ∙ more_a

pub status_of_items-four : {A B : Type 0} (f : A → Result B Refused) (items : List A) (k : ℕ) (z : A) (a b c d : B) →
    k + 4 ≤ length items →
    Ok a ≡ f (get_or items k z) → Ok b ≡ f (get_or items (k + 1) z) → Ok c ≡ f (get_or items (k + 2) z) → Ok d ≡ f (get_or items (k + 3) z) →
    status_of_items f (drop (k + 4) items) ≡ status_of_items f (drop k items)
status_of_items-four f items k z a b c d low ea eb ec ed =
    let more_a = status_of_items-more f items k z a (omega arith) ea in
    let more_b = status_of_items-more f items (k + 1) z b (omega arith) eb in
    let more_c = status_of_items-more f items (k + 2) z c (omega arith) ec in
    let more_d = status_of_items-more f items (k + 3) z d (omega arith) ed in
    let two : k + 1 + 1 ≡ k + 2 = omega arith in
    let three : k + 2 + 1 ≡ k + 3 = omega arith in
    let last : k + 3 + 1 ≡ k + 4 = omega arith in
    (rw last at more_d) ∙ (rw three at more_c) ∙ (rw two at more_b) ∙ more_a

-- what is behind a place is behind each later place
pub drop-later : {B : Type 0} (out initial : List B) (k : ℕ) → drop k out ≡ drop k initial → drop (k + 4) out ≡ drop (k + 4) initial
drop-later {B} out initial k e = sym (drop-drop 4 k out) ∙ ap (λ (z : List B). drop 4 z) e ∙ drop-drop 4 k initial

-- what was written in groups, and the rest after it
pub groups-and_rest : {A B : Type 0} (f : A → Result B Refused) (items : List A) (k : ℕ) (after before rest : List B) (count : ℕ) →
    take k after ++ values_of f (drop k items) ≡ values_of f items → drop k after ≡ drop k before →
    rest ≡ values_of f (take (length items - k) (drop k items)) ++ drop count (take (length after - k) (drop k after)) →
    take k after ++ (rest ++ drop (length after - k) (drop k after)) ≡ values_of f items ++ drop (k + count) before
groups-and_rest {A} {B} f items k after before rest count values behind e =
    let items_left : take (length items - k) (drop k items) ≡ drop k items = take_all (length items - k) (drop k items) (omega (arith, length-drop k items)) in
    let room_left : take (length after - k) (drop k after) ≡ drop k after = take_all (length after - k) (drop k after) (omega (arith, length-drop k after)) in
    let none : drop (length after - k) (drop k after) ≡ [] = drop_all (length after - k) (drop k after) (omega (arith, length-drop k after)) in
    let unwritten : drop count (drop k after) ≡ drop (k + count) before =
    ap (λ (z : List B). drop count z) behind ∙ drop-drop count k before in
    rw (e, items_left, room_left, none, append-nil (values_of f (drop k items) ++ drop count (drop k after)))
    (sym (append_assoc (take k after) (values_of f (drop k items)) (drop count (drop k after))) ∙
    ap (λ (z : List B). z ++ drop count (drop k after)) values ∙ ap (λ (z : List B). values_of f items ++ z) unwritten)
