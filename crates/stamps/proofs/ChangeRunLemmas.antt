-- A count and a merge read an input in one form without a reason to change.
use Rattle.std.proofs.Common.{◌≡◌, refl, ap, ◌∙◌, ℕ, zero, suc, Bool, true, false, cond, nat_eq, ◌++◌, List, [], ◌∷◌, Option, Some, None, Ok, ℤ}
use Rattle.std.specs.Ordering.{int_eq}
use Rattle.std.specs.Prelude.{int_lt, is_some, map, nat_lt}
use Rattle.line_devices.specs.Lines.{lines_of, pieces_of, whole_lines_of}
use Rattle.line_devices.specs.StampTallies.{kind_of}
use Rattle.line_devices.specs.declared.stamp_tallies.LineKind.{LineKind}
use Rattle.line_counts.specs.Counting.{empty_count, most}
use Rattle.line_counts.specs.Counts.{Counted, bucket_at, count_by, count_end, count_input}
use Rattle.line_counts.specs.Counts.{count_line, count_lines, count_own, fault_of, first_tally, instant_at}
use Rattle.line_counts.specs.Counts.{empty_rows, empty_run, ended_rows, next_line, one_more, outcome, rows_by, rows_to, tally_at, tally_by, then_on}
use Rattle.line_counts.specs.Stamps.{kinds_after}
use Rattle.line_counts.specs.declared.tallies.CountFault.{CountFault}
use Rattle.line_counts.specs.declared.tallies.Row.{Row}
use Rattle.line_counts.specs.declared.tallies.Tally.{Tally}
use Rattle.line_merges.specs.Instants.{LogReading, reading_from}
use Rattle.line_merges.specs.Lines.{Line, first_place, last_piece, line_at, lines_at, lines_from, log_lines, place_after, reading_after}
use Rattle.line_merges.specs.declared.logs.Place.{Place}
use Rattle.stamps.specs.Buckets.{counting}
use Rattle.stamps.specs.Changes.{choice_after, first_choice}
use Rattle.stamps.specs.Laws.{counting_in_one, reading_in_one, rows_are_short}
use Rattle.stamps.specs.LineInstants.{instant_by, line_instant}
use Rattle.stamps.specs.LogReadings.{reading_by}
use Rattle.stamps.specs.declared.changes.Anew.{Anew}
use Rattle.stamps.specs.declared.changes.Choice.{Choice}
use Rattle.stamps.specs.declared.counts.ClockBuckets.{ClockBuckets}
use Rattle.stamps.specs.declared.readers.Reader.{Reader}
use Rattle.stamps.proofs.ChangeLawLemmas.{Waits, choice_same, reader_same, row_is, rows_more, stays_short, waits_on}

-- the tally after a line keeps what is known of it, and has one line more
memory_by : {M : Type 0} (at : Tally M) (bucket : Option ℤ) → (tally_by at bucket).memory ≡ at.memory
memory_by at None = refl
memory_by at (Some start) = refl

lines_by : {M : Type 0} (at : Tally M) (bucket : Option ℤ) → (tally_by at bucket).lines ≡ one_more at.lines
lines_by at None = refl
lines_by at (Some start) = refl

last_by : {M : Type 0} (at : Tally M) (bucket : Option ℤ) → (tally_by at bucket).last ≡ at.last
last_by at None = refl
last_by at (Some start) = refl

module _ (buckets : ClockBuckets) (s : Bool) where
  -- the rows are the same
  empty_rows-same : (n : ℕ) (from to : ℤ) → empty_rows (counting buckets) n from to ≡ empty_rows (counting_in_one buckets) n from to
  unfolding empty_rows
  empty_rows-same zero from to = refl
  empty_rows-same (suc n) from to =
      ap (λ (z : List ℕ). cond (int_lt from to) ((counting buckets).row from 0 ++ z) []) (empty_rows-same n ((counting buckets).next from) to)

  empty_run-same : (from to : ℤ) → empty_run (counting buckets) from to ≡ empty_run (counting_in_one buckets) from to
  empty_run-same from to =
      let count = empty_count (counting buckets).next most from to in
      ap (λ (z : List ℕ). cond (nat_lt (counting buckets).most_empty count) ((counting buckets).in_place count) z) (empty_rows-same most from to)

  rows_to-same : (row : Row) (to : ℤ) → rows_to (counting buckets) row to ≡ rows_to (counting_in_one buckets) row to
  rows_to-same row to =
      ap (λ (z : List ℕ). (counting buckets).row row.start row.count ++ z) (empty_run-same ((counting buckets).next row.start) to)

  ended_rows-same : (row : Option Row) (start : ℤ) → ended_rows (counting buckets) row start ≡ ended_rows (counting_in_one buckets) row start
  ended_rows-same None start = refl
  ended_rows-same (Some row) start = ap (λ (z : List ℕ). cond (int_eq row.start start) [] z) (rows_to-same row start)

  rows_by-same : (row : Option Row) (bucket : Option ℤ) → rows_by (counting buckets) row bucket ≡ rows_by (counting_in_one buckets) row bucket
  rows_by-same row None = refl
  rows_by-same row (Some start) = ended_rows-same row start

  count_by-same : (fault : Option CountFault) (tally : Tally Choice) (bucket : Option ℤ)
      → count_by (counting buckets) fault tally bucket ≡ count_by (counting_in_one buckets) fault tally bucket
  count_by-same (Some fault) tally bucket = refl
  count_by-same None tally bucket =
      ap (λ (z : List ℕ). outcome z (Ok (tally_by tally bucket))) (rows_by-same tally.row bucket)

  -- the kind of the next line
  kind_in : Tally Choice → List ℕ → LineKind
  kind_in tally line = kind_of line (is_some (instant_at (counting_in_one buckets) tally line))

  own_same : (tally : Tally Choice) (line : List ℕ) → tally.memory.own ≡ None
      → instant_at (counting buckets) tally line ≡ instant_at (counting_in_one buckets) tally line
  own_same tally line e =
      ap (λ (r : Reader). line_instant r tally.last (nat_eq tally.lines 0) line) (reader_same buckets.anew tally.memory.own buckets.reader e)

  at_same : (tally : Tally Choice) (line : List ℕ) (own : Option ℤ) → tally.memory.wait ≡ 15
      → stays_short tally.memory.row (kind_of line (is_some own)) ≡ true
      → tally_at (counting buckets) tally line own ≡ tally_at (counting_in_one buckets) tally line own
  at_same tally line own w e =
      ap (λ (choice : Choice). record (tally_at (counting_in_one buckets) tally line own) { memory = choice })
      (choice_same buckets.anew tally.memory (next_line tally) (kind_of line (is_some own)) line w e)

  line_same : (tally : Tally Choice) (line : List ℕ) → Waits tally.memory → stays_short tally.memory.row (kind_in tally line) ≡ true
      → count_line (counting buckets) s tally line ≡ count_line (counting_in_one buckets) s tally line
  unfolding count_line kind_in
  line_same tally line h e =
      let own = instant_at (counting_in_one buckets) tally line in
      ap (count_own (counting buckets) s tally line) (own_same tally line h.0)
      ∙ ap (λ (at : Tally Choice). count_by (counting buckets) (fault_of s at (bucket_at (counting buckets) own)) at (bucket_at (counting buckets) own))
      (at_same tally line own h.1 e)
      ∙ (let at = tally_at (counting_in_one buckets) tally line own in
      let bucket = bucket_at (counting_in_one buckets) own in
      count_by-same (fault_of s at bucket) at bucket)

  -- what follows a line
  then_same : (fault : Option CountFault) (at : Tally Choice) (bucket : Option ℤ) (next other : Tally Choice → Counted Choice)
      → next (tally_by at bucket) ≡ other (tally_by at bucket)
      → let first = count_by (counting_in_one buckets) fault at bucket in then_on first.text first.end next ≡ then_on first.text first.end other
  then_same None at bucket next other e =
      let first = count_by (counting_in_one buckets) None at bucket in ap (λ (z : Counted Choice). then_on first.text (Ok at) (λ _. z)) e
  then_same (Some fault) at bucket next other e = refl

  lines_same : (tally : Tally Choice) (lines : List (List ℕ)) → Waits tally.memory
      → rows_are_short tally.memory.row (kinds_after (counting_in_one buckets) tally.memory tally.lines tally.last lines) ≡ true
      → count_lines (counting buckets) s tally lines ≡ count_lines (counting_in_one buckets) s tally lines
  unfolding count_lines kinds_after kind_in count_line
  lines_same tally [] h e = refl
  lines_same tally (line ∷ lines) h e =
      let own = instant_at (counting_in_one buckets) tally line in
      let kind = kind_of line (is_some own) in
      let at = tally_at (counting_in_one buckets) tally line own in
      let bucket = bucket_at (counting_in_one buckets) own in
      let more = rows_more tally.memory.row kind _ e in
      let row = row_is tally.memory (next_line tally) kind line more.0 in
      let short : rows_are_short at.memory.row (kinds_after (counting_in_one buckets) at.memory (one_more tally.lines) at.last lines) ≡ true =
      ap (λ (z : ℕ). rows_are_short z (kinds_after (counting_in_one buckets) at.memory (one_more tally.lines) at.last lines)) row ∙ more.1 in
      let after = tally_by at bucket in
      let waits : Waits after.memory = rw (memory_by at bucket) (waits_on tally.memory (next_line tally) kind line h) in
      let rest = lines_same after lines waits (rw (memory_by at bucket, lines_by at bucket, last_by at bucket) short) in
      ap (λ (z : Counted Choice). then_on z.text z.end (λ next. count_lines (counting buckets) s next lines)) (line_same tally line h more.0)
      ∙ then_same (fault_of s at bucket) at bucket (λ next. count_lines (counting buckets) s next lines)
      (λ next. count_lines (counting_in_one buckets) s next lines) rest

  pub count_stays : (input : List ℕ) → rows_are_short 0 (kinds_after (counting_in_one buckets) first_choice 0 None (lines_of input)) ≡ true
      → count_input (counting buckets) s input ≡ count_input (counting_in_one buckets) s input
  unfolding count_input
  count_stays input e =
      ap (λ (z : Counted Choice). then_on z.text z.end (count_end (counting buckets)))
      (lines_same (first_tally (counting buckets)) (lines_of input) (refl, refl) e)

-- ---- a merge

-- how lines are read after some of them
abbrev reading_at : Option Anew → Reader → Option Reader → Choice → LogReading Choice
reading_at anew reader other choice = reading_from (reading_by anew reader other) choice

line_at-same : (anew : Option Anew) (reader : Reader) (other : Option Reader) (choice : Choice) (place : Place) (bytes : List ℕ) (is_ended : Bool)
    → choice.own ≡ None
    → line_at (reading_at anew reader other choice) place bytes is_ended ≡ line_at (reading_at None reader other choice) place bytes is_ended
line_at-same anew reader other choice place bytes is_ended e =
    ap (λ (r : Reader). line_at (record { memory = choice; instant = λ z. instant_by r other; after = choice_after None }) place bytes is_ended)
    (reader_same anew choice.own reader e)

kinds_of_lines : List Line → List LineKind
kinds_of_lines lines = map (λ line. line.kind) lines

lines_at-same : (anew : Option Anew) (reader : Reader) (other : Option Reader) (choice : Choice) (place : Place) (lines : List (List ℕ)) (rest : List ℕ)
    → Waits choice
    → rows_are_short choice.row (kinds_of_lines (lines_at (reading_at None reader other choice) place lines rest)) ≡ true
    → lines_at (reading_at anew reader other choice) place lines rest ≡ lines_at (reading_at None reader other choice) place lines rest
unfolding lines_at kinds_of_lines
lines_at-same anew reader other choice place [] [] h e = refl
lines_at-same anew reader other choice place [] (byte ∷ rest) h e =
    ap (λ (z : Line). z ∷ []) (line_at-same anew reader other choice place (byte ∷ rest) false h.0)
lines_at-same anew reader other choice place (bytes ∷ lines) rest h e =
    let line = line_at (reading_at None reader other choice) place bytes true in
    let more = rows_more choice.row line.kind _ e in
    let next = choice_after None choice line.number line.kind line.bytes in
    let row = row_is choice line.number line.kind line.bytes more.0 in
    let short : rows_are_short next.row (kinds_of_lines (lines_at (reading_at None reader other next) (place_after place line) lines rest)) ≡ true =
    ap (λ (z : ℕ). rows_are_short z (kinds_of_lines (lines_at (reading_at None reader other next) (place_after place line) lines rest))) row ∙ more.1 in
    ap (λ (z : Line). z ∷ lines_at (reading_after (reading_at anew reader other choice) z) (place_after place z) lines rest)
    (line_at-same anew reader other choice place bytes true h.0)
    ∙ ap (λ (z : Choice). line ∷ lines_at (reading_at anew reader other z) (place_after place line) lines rest)
    (choice_same anew choice line.number line.kind line.bytes h.1 more.0)
    ∙ ap (λ (z : List Line). line ∷ z)
    (lines_at-same anew reader other next (place_after place line) lines rest (waits_on choice line.number line.kind line.bytes h) short)

pub merge_stays : (anew : Option Anew) (reader : Reader) (other : Option Reader) (log : List ℕ)
    → rows_are_short 0 (map (λ line. line.kind) (log_lines (reading_in_one reader other) log)) ≡ true
    → log_lines (reading_by anew reader other) log ≡ log_lines (reading_in_one reader other) log
unfolding log_lines lines_from kinds_of_lines
merge_stays anew reader other log e =
    lines_at-same anew reader other first_choice first_place (whole_lines_of log) (last_piece (pieces_of log)) (refl, refl) e
