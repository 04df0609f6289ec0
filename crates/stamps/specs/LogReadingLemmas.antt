-- The first bytes of a line decide on its instant, and on the form of the lines after it.
use Rattle.std.proofs.Common.{◌≡◌, refl, ap, ap₂, ℕ, ◌≤◌, Bool, List, take, arith, length, length-take, inl, inr, Option, Some, None, ℤ}
use Rattle.std.proofs.lemmas.Bool.{cases_lt}
use Rattle.std.proofs.lemmas.List.{take_all, take-append-le}
use Rattle.std.proofs.Common.{take-append-drop, sym, drop}
use Rattle.std.specs.Option.{option_and_then, option_or}
use Rattle.std.specs.Prelude.{nat_le, slice_get, if◌then◌else◌}
use Rattle.line_devices.specs.declared.stamp_tallies.LineKind.{LineKind}
use Rattle.line_devices.specs.declared.stamp_tallies.LineKind.TheVariants.{Stamped, Bare, Continued, Empty, Long}
use Rattle.plain_times.specs.Sums.{wall_clock_if_any}
use Rattle.stamps.specs.Changes.{choice_after, reader_by, tried, with_one_more}
use Rattle.stamps.specs.LineInstantLemmas.{line_instant-by_head}
use Rattle.stamps.specs.LineInstants.{anew_of, instant_by, other_of, reader_or}
use Rattle.stamps.specs.LogReadings.{log_reading}
use Rattle.stamps.specs.declared.changes.Anew.{Anew}
use Rattle.stamps.specs.declared.changes.Choice.{Choice}
use Rattle.stamps.specs.declared.instants.StampInstants.{StampInstants}
use Rattle.stamps.specs.declared.readers.Reader.{Reader}

-- by a reader, and by another one
instant_by-by_head : (reader : Reader) (other : Option Reader) (last : Option ℤ) (is_first : Bool) (line : List ℕ)
    → instant_by reader other last is_first (take 65536 line) ≡ instant_by reader other last is_first line
instant_by-by_head reader None last is_first line = line_instant-by_head reader (option_and_then wall_clock_if_any last) is_first line
instant_by-by_head reader (Some other) last is_first line =
    ap₂ option_or (line_instant-by_head reader (option_and_then wall_clock_if_any last) is_first line)
    (line_instant-by_head other (option_and_then wall_clock_if_any last) is_first line)

pub log_reading-by_head : (instants : StampInstants) (log : ℕ) (choice : Choice) (last : Option ℤ) (is_first : Bool) (line : List ℕ)
    → (log_reading instants log).instant choice last is_first (take 65536 line) ≡ (log_reading instants log).instant choice last is_first line
log_reading-by_head instants log choice last is_first line =
    let found = slice_get instants.chosen.items log in
    instant_by-by_head (reader_by (anew_of found) choice.own (reader_or instants.reader found)) (other_of found) last is_first line

-- the first bytes of the first bytes
take-head : (line : List ℕ) → take 1024 (take 65536 line) ≡ take 1024 line
take-head line =
    elim (cases_lt 65536 (length line)) [
      | inl more ↦
          let long : 1024 ≤ length (take 65536 line) = omega (arith, more, length-take 65536 line) in
          let whole = take-append-le 1024 (take 65536 line) (drop 65536 line) long in
          sym (rw (take-append-drop 65536 line) at whole)
      | inr all ↦ ap (take 1024) (take_all 65536 line all)
    ]

-- the choice after a line in the row, by its first bytes
row_by_head : (anew : Anew) (next : Choice) (number : ℕ) (line : List ℕ)
    → (if nat_le next.wait next.row then tried anew next number (take 1024 (take 65536 line)) else next)
    ≡ (if nat_le next.wait next.row then tried anew next number (take 1024 line) else next)
row_by_head anew next number line =
    ap (λ (front : List ℕ). if nat_le next.wait next.row then tried anew next number front else next) (take-head line)

pub choice_after-by_head : (anew : Option Anew) (choice : Choice) (number : ℕ) (kind : LineKind) (line : List ℕ)
    → choice_after anew choice number kind (take 65536 line) ≡ choice_after anew choice number kind line
choice_after-by_head anew choice number Stamped line = refl
choice_after-by_head anew choice number Continued line = refl
choice_after-by_head anew choice number Empty line = refl
choice_after-by_head None choice number Bare line = refl
choice_after-by_head (Some anew) choice number Bare line = row_by_head anew (with_one_more choice) number line
choice_after-by_head None choice number Long line = refl
choice_after-by_head (Some anew) choice number Long line = row_by_head anew (with_one_more choice) number line

pub log_reading-remembers_head : (instants : StampInstants) (log : ℕ) (choice : Choice) (number : ℕ) (kind : LineKind) (line : List ℕ)
    → (log_reading instants log).after choice number kind (take 65536 line) ≡ (log_reading instants log).after choice number kind line
log_reading-remembers_head instants log choice number kind line =
    choice_after-by_head (anew_of (slice_get instants.chosen.items log)) choice number kind line
