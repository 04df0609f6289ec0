-- Silences, and what `gaps` tells of them.
use Rattle.std.proofs.Common.{◌≡◌, inl, inr, refl, sym, ap, ap₂, ◌∙◌, subst, ℕ, Bool, true, false, ◌&&◌, List, [], ◌∷◌, ◌++◌, append-nil, arith}
use Rattle.std.proofs.Common.{ℤ, Option, Some, None, Result, Ok, Err, IsOk}
use Rattle.std.specs.Prelude.{if◌then◌else◌, ◌-ℤ◌, int_lt}
use Rattle.std.specs.List.{list_all}
use Rattle.calendar_values.specs.SignedArith.{signed_arith}
use Rattle.std.proofs.lemmas.Bool.{cases_Bool}
use Rattle.line_devices.specs.Lines.{pieces_of, unless_empty, whole_lines_of}
use Rattle.stamps.specs.Decisions.{decision_of, first_state, gap_line, is_first, later_of, latest_of, one_more, reading, state_after}
use Rattle.stamps.specs.Laws.{latest, line_stamps, silence_text, silences_told, stamps_of}
use Rattle.stamps.specs.Notes.{note_text}
use Rattle.stamps.specs.Readers.{line_stamp}
use Rattle.stamps.specs.Runs.{Run, input_run, known_after, known_at_end, last_of, last_run, line_feed, line_run, output_of, then_on}
use Rattle.stamps.specs.declared.decide.Decision.{Decision}
use Rattle.stamps.specs.declared.decide.Decision.TheVariants.{Skip, Tell}
use Rattle.stamps.specs.declared.decide.State.{State}
use Rattle.stamps.specs.declared.finding.Finding.{Finding}
use Rattle.stamps.specs.declared.notes.Note.TheVariants.{Gap}
use Rattle.stamps.specs.declared.readers.LineRefusal.{LineRefusal}
use Rattle.stamps.specs.declared.readers.LineStamp.{LineStamp}
use Rattle.stamps.specs.declared.readers.Reader.{Reader}
use Rattle.stamps.specs.declared.task.Action.TheVariants.{Gaps}
use Rattle.stamps.proofs.LineLawLemmas.{later}
use Rattle.stamps.proofs.RunLemmas.{all_run, input_run-all, lines_of-last}

-- ---- the latest of instants

-- whether an instant is later than another by more than the limit
abbrev is_past : ℤ → ℤ → ℤ → Bool
is_past limit i at = int_lt limit (i -ℤ at)

and-false : (b : Bool) → false ≡ (b && false)
and-false true = refl
and-false false = refl

and-true : (b : Bool) → (b && true) ≡ b
and-true true = refl
and-true false = refl

and-assoc : (a b c : Bool) → ((a && b) && c) ≡ (a && (b && c))
and-assoc true b c = refl
and-assoc false b c = refl

-- later than both is later than the later one
past_later : (limit i j k : ℤ) → is_past limit i (later_of (Some j) k) ≡ (is_past limit i j && is_past limit i k)
past_later limit i j k =
    elim (cases_Bool (int_lt k j)) [
      | inl t ↦
          rw t
          (elim (cases_Bool (is_past limit i j)) [
            | inl u ↦ let v : is_past limit i k ≡ true = grind (arith, signed_arith) in rw (u, v) refl
            | inr u ↦ rw u refl
          ])
      | inr t ↦
          rw t
          (elim (cases_Bool (is_past limit i k)) [
            | inl u ↦ let v : is_past limit i j ≡ true = grind (arith, signed_arith) in rw (u, v) refl
            | inr u ↦ rw u (and-false (is_past limit i j))
          ])
    ]

past_latest : (limit i j : ℤ) (before : List ℤ) → list_all (is_past limit i) (j ∷ before) ≡ is_past limit i (latest j before)
unfolding latest
past_latest limit i j [] = and-true (is_past limit i j)
past_latest limit i j (k ∷ before) =
    sym (and-assoc (is_past limit i j) (is_past limit i k) (list_all (is_past limit i) before))
    ∙ ap (λ (b : Bool). b && list_all (is_past limit i) before) (sym (past_later limit i j k))
    ∙ past_latest limit i (later_of (Some j) k) before

-- the latest of some instants, if there are any
abbrev latest_if : List ℤ → Option ℤ
latest_if [] = None
latest_if (j ∷ before) = Some (latest j before)

latest-push : (j : ℤ) (before : List ℤ) (i : ℤ) → latest j (before ++ i ∷ []) ≡ later_of (Some (latest j before)) i
unfolding latest
latest-push j [] i = refl
latest-push j (k ∷ before) i = latest-push (later_of (Some j) k) before i

latest_if-push : (before : List ℤ) (i : ℤ) → latest_if (before ++ i ∷ []) ≡ Some (later_of (latest_if before) i)
unfolding latest
latest_if-push [] i = refl
latest_if-push (j ∷ before) i = ap (λ (at : ℤ). Some at) (latest-push j before i)

-- ---- a line

-- what is written for a decision
abbrev told : Decision → List ℕ → List ℕ
told decision line = output_of decision line ++ line_feed decision

told_if : (b : Bool) (number : ℕ) (before i : ℤ) (line : List ℕ)
    → told (if b then Tell (Gap number before i) else Skip) line ≡ (if b then note_text (Gap number before i) else [])
told_if true number before i line = append-nil (note_text (Gap number before i))
told_if false number before i line = refl

line_told : (limit : ℤ) (number : ℕ) (before : List ℤ) (stamp : LineStamp) (line : List ℕ)
    → told (gap_line limit false number (latest_if before) (Ok stamp)) line ≡ silence_text limit before number stamp.instant
line_told limit number [] stamp line = refl
line_told limit number (j ∷ before) stamp line =
    let i = stamp.instant in
    told_if (is_past limit i (latest j before)) number (latest j before) i line
    ∙ ap (λ (b : Bool). if b then note_text (Gap number (latest j before) i) else []) (sym (past_latest limit i j before))

-- no line ends the run
if_known : (b : Bool) (number : ℕ) (before i : ℤ) (state : State) → known_after (if b then Tell (Gap number before i) else Skip) state ≡ Ok state
if_known true number before i state = refl
if_known false number before i state = refl

line_known : (limit : ℤ) (number : ℕ) (last : Option ℤ) (stamp : Result LineStamp LineRefusal) (state : State)
    → known_after (gap_line limit false number last stamp) state ≡ Ok state
line_known limit number None (Ok stamp) state = refl
line_known limit number (Some before) (Ok stamp) state = if_known (int_lt limit (stamp.instant -ℤ before)) number before stamp.instant state
line_known limit number last (Err refusal) state = refl

-- ---- all lines

-- a line, and the lines behind it
then_told : (decision : Decision) (state : State) (line : List ℕ) (next : State → Run) → known_after decision state ≡ Ok state
    → (then_on (told decision line) (known_after decision state) next).text ≡ told decision line ++ (next state).text
then_told decision state line next e = rw e refl

then_known : (decision : Decision) (state : State) (line : List ℕ) (next : State → Run) → known_after decision state ≡ Ok state
    → (then_on (told decision line) (known_after decision state) next).end ≡ (next state).end
then_known decision state line next e = rw e refl

-- the instants behind a line with this stamp
abbrev behind_line : List ℤ → Result LineStamp LineRefusal → List ℤ
behind_line before (Ok stamp) = before ++ stamp.instant ∷ []
behind_line before (Err refusal) = before

-- what a line with this stamp shows before the others
line_first : (limit : ℤ) (number : ℕ) (before : List ℤ) (stamp : Result LineStamp LineRefusal) (stamps : List (Result LineStamp LineRefusal))
    (line rest : List ℕ)
    → rest ≡ silences_told limit (behind_line before stamp) (one_more number) stamps
    → told (gap_line limit false (one_more number) (latest_if before) stamp) line ++ rest ≡ silences_told limit before number (stamp ∷ stamps)
unfolding silences_told
line_first limit number before (Ok stamp) stamps line rest e = ap₂ (λ (a b : List ℕ). a ++ b) (line_told limit (one_more number) before stamp line) e
line_first limit number before (Err refusal) stamps line rest e = e

-- the latest instant behind a line
latest_after : (limit : ℤ) (before : List ℤ) (r : Reader) (s : State) (line : List ℕ) → s.latest ≡ latest_if before
    → (state_after (reading r (Gaps limit false)) s line).latest ≡ latest_if (behind_line before (line_stamp r s.last (is_first s) line))
unfolding state_after
latest_after limit before r s line e = by_stamp (line_stamp r s.last (is_first s) line) where
  by_stamp : (stamp : Result LineStamp LineRefusal) → latest_of (Gaps limit false) s.latest stamp ≡ latest_if (behind_line before stamp)
  by_stamp (Ok stamp) = ap (λ (at : Option ℤ). Some (later_of at stamp.instant)) e ∙ sym (latest_if-push before stamp.instant)
  by_stamp (Err refusal) = e

-- a line of an input
next_told : (limit : ℤ) (before : List ℤ) (r : Reader) (s : State) (line rest : List ℕ) (stamps : List (Result LineStamp LineRefusal))
    → s.latest ≡ latest_if before
    → rest ≡ silences_told limit (behind_line before (line_stamp r s.last (is_first s) line)) (one_more s.lines) stamps
    → told (decision_of (reading r (Gaps limit false)) s line) line ++ rest
    ≡ silences_told limit before s.lines (line_stamp r s.last (is_first s) line ∷ stamps)
unfolding decision_of
next_told limit before r s line rest stamps e more =
    let stamp = line_stamp r s.last (is_first s) line in
    ap (λ (at : Option ℤ). told (gap_line limit false (one_more s.lines) at stamp) line ++ rest) e
    ∙ line_first limit s.lines before stamp stamps line rest more

next_known : (limit : ℤ) (r : Reader) (s after : State) (line : List ℕ) → known_after (decision_of (reading r (Gaps limit false)) s line) after ≡ Ok after
unfolding decision_of
next_known limit r s after line = line_known limit (one_more s.lines) s.latest (line_stamp r s.last (is_first s) line) after

-- the bytes behind the last line feed show no line feed of their own
last_shown : (limit : ℤ) (number : ℕ) (last : Option ℤ) (stamp : Result LineStamp LineRefusal) (line : List ℕ)
    → output_of (gap_line limit false number last stamp) line ≡ told (gap_line limit false number last stamp) line
last_shown limit number None (Ok stamp) line = refl
last_shown limit number (Some before) (Ok stamp) line = by_test (int_lt limit (stamp.instant -ℤ before)) where
  by_test : (b : Bool) → let decision = if b then Tell (Gap number before stamp.instant) else Skip in output_of decision line ≡ told decision line
  by_test true = sym (append-nil (note_text (Gap number before stamp.instant)))
  by_test false = refl
last_shown limit number last (Err refusal) line = refl

gaps_all : (r : Reader) (limit : ℤ) (s : State) (before : List ℤ) (lines : List (List ℕ)) (piece : List ℕ) → s.latest ≡ latest_if before
    → let all = all_run (reading r (Gaps limit false)) s lines piece in
    (all.text ≡ silences_told limit before s.lines (line_stamps r s.last (is_first s) (lines ++ unless_empty piece))) × IsOk all.end
unfolding last_run line_run line_stamps silences_told decision_of state_after
gaps_all r limit s before [] [] e = (refl, refl)
gaps_all r limit s before [] (byte ∷ piece) e =
    let task = reading r (Gaps limit false) in
    let line = byte ∷ piece in
    let stamp = line_stamp r s.last (is_first s) line in
    let shown = last_shown limit (one_more s.lines) s.latest stamp line in (
      shown ∙ sym (append-nil (told (decision_of task s line) line)) ∙ next_told limit before r s line [] [] e (nothing_told before stamp),
      subst (λ (z : Result State Finding). IsOk (known_at_end task z)) (sym (next_known limit r s (state_after task s line) line)) refl,
    ) where
      nothing_told : (before : List ℤ) (stamp : Result LineStamp LineRefusal) → [] ≡ silences_told limit (behind_line before stamp) (one_more s.lines) []
      nothing_told before stamp = refl
gaps_all r limit s before (line ∷ lines) piece e =
    let task = reading r (Gaps limit false) in
    let after = state_after task s line in
    let stamp = line_stamp r s.last (is_first s) line in
    let rest = lines ++ unless_empty piece in
    let next = λ (z : State). all_run task z lines piece in
    let known = next_known limit r s after line in
    let more = gaps_all r limit after (behind_line before stamp) lines piece (latest_after limit before r s line e) in
    let told_rest = subst (λ (z : Bool). (next after).text
    ≡ silences_told limit (behind_line before stamp) after.lines (line_stamps r after.last z rest)) (later task s line) more.0 in (
      then_told (decision_of task s line) after line next known
          ∙ next_told limit before r s line (next after).text (line_stamps r after.last false rest) e told_rest,
      subst (λ (z : Result State Finding). IsOk z) (sym (then_known (decision_of task s line) after line next known)) more.1,
    )

gaps_input : (r : Reader) (limit : ℤ) (input : List ℕ)
    → ((input_run (reading r (Gaps limit false)) input).text ≡ silences_told limit [] 0 (stamps_of r input))
    × IsOk (input_run (reading r (Gaps limit false)) input).end
gaps_input r limit input =
    let task = reading r (Gaps limit false) in
    let all = gaps_all r limit (first_state task) [] (whole_lines_of input) (last_of (pieces_of input)) refl in
    let same = sym (input_run-all task input) in (
      ap (λ (z : Run). z.text) (sym same) ∙ all.0
          ∙ ap (λ (z : List (List ℕ)). silences_told limit [] 0 (line_stamps r None true z)) (sym (lines_of-last input)),
      subst (λ (z : Run). IsOk z.end) same all.1,
    )

pub text : (r : Reader) (limit : ℤ) (input : List ℕ)
    → (input_run (reading r (Gaps limit false)) input).text ≡ silences_told limit [] 0 (stamps_of r input)
text r limit input = (gaps_input r limit input).0

pub ends : (r : Reader) (limit : ℤ) (input : List ℕ) → IsOk (input_run (reading r (Gaps limit false)) input).end
ends r limit input = (gaps_input r limit input).1
