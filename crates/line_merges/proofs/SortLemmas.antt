-- The lines of one log in the order of their instants.
use Rattle.std.proofs.Common.{◌≡◌, ℕ, zero, suc, ◌+◌, drop, slice_index_or, ◌<◌, ◌≤◌, ◌==◌, Bool, true, false, List, [], ◌∷◌, ◌++◌, length, map}
use Rattle.std.proofs.Common.{refl, sym, ap, ◌∙◌, append_assoc, append-nil, arith}
use Rattle.std.proofs.lemmas.List.{drop_all}
use Rattle.std.proofs.lemmas.Bool.{false≢true}
use Rattle.std.proofs.lemmas.Bool.Decides.{nat_tests}
use Rattle.line_merges.proofs.LineLemmas.{first_line, lines_from-first, lines_from-nil}
use Rattle.line_merges.specs.Instants.{LogReading, reading_from}
use Rattle.line_merges.specs.LineFronts.{behind_line, line_in}
use Rattle.line_merges.specs.Lines.{Line, first_place, lines_from, log_lines, place_after, place_after_lines, reading_after, reading_after_lines}
use Rattle.line_merges.specs.Sorts.{HasRead, ReadsLine, far_after, far_after_lines, held_as, held_text, late_after_lines, line_as}
use Rattle.line_merges.specs.declared.sorts.Distance.{Distance}
use Rattle.line_merges.specs.declared.sorts.Held.{Held}
use Rattle.line_merges.specs.declared.sorts.Lateness.{Lateness}
use Rattle.line_merges.specs.declared.sorts.Reading.{Reading}

-- the lines of the bytes that are left
abbrev pub lines_left : {M : Type 0} → LogReading M → Reading M → List ℕ → List Line
lines_left by reading rest = lines_from (reading_from by reading.memory) reading.place rest

-- the lines that were taken in, and those of the bytes that are left, are those of the log
pub record Reads {M : Type 0} (by : LogReading M) (first : Lateness) (log : List ℕ) (reading : Reading M) (rest : List ℕ) : Type 0 where
  pub held : map held_as reading.held.items ++ map line_as (lines_left by reading rest) ≡ map line_as (log_lines by log)
  pub place : place_after_lines reading.place (lines_left by reading rest) ≡ place_after_lines first_place (log_lines by log)
  pub memory : (reading_after_lines (reading_from by reading.memory) (lines_left by reading rest)).memory ≡ (reading_after_lines by (log_lines by log)).memory
  pub lateness : late_after_lines reading.lateness (lines_left by reading rest) ≡ late_after_lines first (log_lines by log)

pub reads_first : {M : Type 0} (by : LogReading M) (first : Lateness) (log : List ℕ) (reading : Reading M) → map held_as reading.held.items ≡ []
    → reading.place ≡ first_place → reading.memory ≡ by.memory → reading.lateness ≡ first → Reads by first log reading log
unfolding log_lines
reads_first by first log reading held place memory lateness = record {
  held = rw (held, place, memory) refl;
  place = rw (place, memory) refl;
  memory = rw (place, memory) refl;
  lateness = rw (place, memory, lateness) refl;
}

pub reads_more : {M : Type 0} (by : LogReading M) (first : Lateness) (log : List ℕ) (old new : Reading M) (rest : List ℕ) → 0 < length rest
    → Reads by first log old rest → ReadsLine (reading_from by old.memory) (line_in rest) old new → Reads by first log new (behind_line rest)
unfolding place_after_lines reading_after_lines late_after_lines
reads_more by first log old new rest some so is =
    let now = reading_from by old.memory in
    let line = first_line now old.place rest in
    let lines = lines_from-first now old.place rest some in
    let behind = lines_from (reading_after now line) (place_after old.place line) (behind_line rest) in
    record {
      held =
          rw (is.held, is.place, is.memory)
          (append_assoc (map held_as old.held.items) (line_as line ∷ []) (map line_as behind)
          ∙ ap (λ (z : List Line). map held_as old.held.items ++ map line_as z) (sym lines)
          ∙ so.held);
      place = rw (is.place, is.memory) (ap (place_after_lines old.place) (sym lines) ∙ so.place);
      memory = rw (is.place, is.memory) (ap (λ (z : List Line). (reading_after_lines now z).memory) (sym lines) ∙ so.memory);
      lateness = rw (is.place, is.memory, is.lateness) (ap (late_after_lines old.lateness) (sym lines) ∙ so.lateness);
    }

pub reads_all : {M : Type 0} (by : LogReading M) (first : Lateness) (log : List ℕ) (reading : Reading M) (rest : List ℕ) → rest ≡ []
    → Reads by first log reading rest → HasRead by first log reading
unfolding place_after_lines reading_after_lines late_after_lines
reads_all by first log reading rest none so =
    let nil : lines_left by reading rest ≡ [] = ap (lines_left by reading) none ∙ lines_from-nil (reading_from by reading.memory) reading.place in
    record {
      held = sym (append-nil (map held_as reading.held.items)) ∙ ap (λ (z : List Line). map held_as reading.held.items ++ map line_as z) (sym nil) ∙ so.held;
      place = ap (place_after_lines reading.place) (sym nil) ∙ so.place;
      memory = ap (λ (z : List Line). (reading_after_lines (reading_from by reading.memory) z).memory) (sym nil) ∙ so.memory;
      lateness = ap (late_after_lines reading.lateness) (sym nil) ∙ so.lateness;
    }

pub reads_now : {M : Type 0} (by : LogReading M) (memory : M) (first : Lateness) (log : List ℕ) (reading : Reading M) → map held_as reading.held.items ≡ []
    → reading.place ≡ first_place → reading.memory ≡ memory → reading.lateness ≡ first → Reads (reading_from by memory) first log reading log
reads_now by memory first log reading held place is lateness = reads_first (reading_from by memory) first log reading held place is lateness

-- a text is empty, or is not
pub empty_when : (text : List ℕ) {is : Bool} → is ≡ (length text == 0) → is ≡ true → text ≡ []
empty_when [] e h = refl
empty_when (byte ∷ text) e h = absurd (false≢true (grind (arith, nat_tests)))

pub some_when : (text : List ℕ) {is : Bool} → is ≡ (length text == 0) → is ≡ false → 0 < length text
some_when [] e h = absurd (false≢true (sym h ∙ e))
some_when (byte ∷ text) e h = omega arith

-- the text of lines from one of them on
pub held_text-drop : (held : List Held) (place : ℕ) (default : Held) → place < length held
    → held_text (drop place held) ≡ (slice_index_or held place default).bytes.now ++ 10 ∷ held_text (drop (place + 1) held)
unfolding held_text
held_text-drop [] place default low = absurd (omega (arith, low))
held_text-drop (line ∷ held) zero default low = refl
held_text-drop (line ∷ held) (suc place) default low =
    let next : suc place + 1 ≡ suc (place + 1) = omega arith in
    rw next (held_text-drop held place default (omega (arith, low)))

-- a line and its line feed behind a text
pub held_text-more : (held : List Held) (place : ℕ) (default : Held) (text : List ℕ) → place < length held
    → text ++ held_text (drop place held) ≡ held_text held
    → (text ++ ((slice_index_or held place default).bytes.now ++ 10 ∷ [])) ++ held_text (drop (place + 1) held) ≡ held_text held
held_text-more held place default text low so =
    let line = (slice_index_or held place default).bytes.now in
    let rest = held_text (drop (place + 1) held) in
    append_assoc text (line ++ 10 ∷ []) rest
    ∙ ap (λ (z : List ℕ). text ++ z) (append_assoc line (10 ∷ []) rest ∙ sym (held_text-drop held place default low))
    ∙ so

pub held_text-all : (held : List Held) (place : ℕ) (text : List ℕ) → length held ≤ place → text ++ held_text (drop place held) ≡ held_text held
    → text ≡ held_text held
unfolding held_text
held_text-all held place text past so =
    sym (append-nil text) ∙ ap (λ (z : List Held). text ++ held_text z) (sym (drop_all place held past)) ∙ so

-- the distance of lines from one of them on, behind so many
far_behind : (held : List Held) (distance : Distance) (before : ℕ) (place : ℕ) (default : Held) → place < length held
    → far_after_lines (far_after distance (slice_index_or held place default).number (before + 1)) (before + 1) (drop (place + 1) held)
    ≡ far_after_lines distance before (drop place held)
unfolding far_after_lines
far_behind [] distance before place default low = absurd (omega (arith, low))
far_behind (line ∷ held) distance before zero default low = refl
far_behind (line ∷ held) distance before (suc place) default low =
    let next : suc place + 1 ≡ suc (place + 1) = omega arith in
    rw next (far_behind held distance before place default (omega (arith, low)))

pub far-more : (held : List Held) (distance : Distance) (place : ℕ) (default : Held) → place < length held
    → far_after_lines (far_after distance (slice_index_or held place default).number (place + 1)) (place + 1) (drop (place + 1) held)
    ≡ far_after_lines distance place (drop place held)
far-more held distance place default low = far_behind held distance place place default low

pub far-all : (held : List Held) (distance : Distance) (place : ℕ) → length held ≤ place → distance ≡ far_after_lines distance place (drop place held)
unfolding far_after_lines
far-all held distance place past = ap (far_after_lines distance place) (sym (drop_all place held past))
