-- The rows of lines, one after another.
use Rattle.std.proofs.Common.{◌≡◌, ℕ, Bool, List, [], ◌∷◌, ◌++◌, take, Option, Result, Ok, Err, ℤ, refl, sym, ap, ◌∙◌, append_assoc, append-nil}
use Rattle.std.specs.Option.{option_or}
use Rattle.std.specs.Prelude.{is_some}
use Rattle.line_devices.specs.LineLemmas.{ended_from-append, ended_from-line_feed, lines_of-parts, whole_lines_of-parts}
use Rattle.line_devices.specs.LineParts.{ended_from, rest_from}
use Rattle.line_devices.specs.Lines.{lines_of, unless_empty}
use Rattle.line_devices.specs.StampTallies.{kind_of, tally_after}
use Rattle.line_devices.specs.StampTallyLemmas.{kind_of-front}
use Rattle.line_devices.specs.declared.stamp_tallies.LineKind.{LineKind}
use Rattle.line_counts.specs.Counting.{Counting}
use Rattle.line_counts.specs.Counts.{Counted, bucket_at, count_by, count_end, count_input, count_line, count_lines, count_open, count_own}
use Rattle.line_counts.specs.Counts.{fault_of, first_tally, instant_at, next_line, outcome, then_on}
use Rattle.line_counts.specs.declared.tallies.CountFault.{CountFault}
use Rattle.line_counts.specs.declared.tallies.Tally.{Tally}

-- rows with a text before them
abbrev pub behind : {M : Type 0} → List ℕ → Counted M → Counted M
behind text next = outcome (text ++ next.text) next.end

then_on-behind : {M : Type 0} (a text : List ℕ) (end : Result (Tally M) CountFault) (next : Tally M → Counted M)
    → then_on (a ++ text) end next ≡ behind a (then_on text end next)
then_on-behind a text (Ok tally) next = ap (λ (z : List ℕ). outcome z (next tally).end) (append_assoc a text (next tally).text)
then_on-behind a text (Err fault) next = refl

then_on-then_on : {M : Type 0} (text : List ℕ) (end : Result (Tally M) CountFault) (next last : Tally M → Counted M)
    → then_on (then_on text end next).text (then_on text end next).end last ≡ then_on text end (λ tally. then_on (next tally).text (next tally).end last)
then_on-then_on text (Ok tally) next last = then_on-behind text (next tally).text (next tally).end last
then_on-then_on text (Err fault) next last = refl

pub then_on-same : {M : Type 0} (text : List ℕ) (end : Result (Tally M) CountFault) (next other : Tally M → Counted M) → ((tally : Tally M)
    → next tally ≡ other tally)
    → then_on text end next ≡ then_on text end other
then_on-same text (Ok tally) next other h = ap (behind text) (h tally)
then_on-same text (Err fault) next other h = refl

then_on-text : {M : Type 0} (text : List ℕ) (end : Result (Tally M) CountFault) (next : Tally M → Counted M)
    → (z : List ℕ) × ((then_on text end next).text ≡ text ++ z)
then_on-text text (Ok tally) next = ((next tally).text, refl)
then_on-text text (Err fault) next = ([], sym (append-nil text))

nothing_behind : {M : Type 0} (text : List ℕ) (end : Result (Tally M) CountFault) → then_on text end (λ next. outcome [] (Ok next)) ≡ outcome text end
nothing_behind text (Ok tally) = ap (λ (z : List ℕ). outcome z (Ok tally)) (append-nil text)
nothing_behind text (Err fault) = refl

count_lines-append : {M : Type 0} (c : Counting M) (s : Bool) (tally : Tally M) (xs ys : List (List ℕ)) → count_lines c s tally (xs ++ ys)
    ≡ then_on (count_lines c s tally xs).text (count_lines c s tally xs).end (λ next. count_lines c s next ys)
unfolding count_lines
count_lines-append c s tally [] ys = refl
count_lines-append c s tally (line ∷ xs) ys =
    let first = count_line c s tally line in
    then_on-same first.text first.end (λ next. count_lines c s next (xs ++ ys))
    (λ next. then_on (count_lines c s next xs).text (count_lines c s next xs).end (λ last. count_lines c s last ys))
    (λ next. count_lines-append c s next xs ys)
    ∙ sym (then_on-then_on first.text first.end (λ next. count_lines c s next xs) (λ last. count_lines c s last ys))

count_lines-one : {M : Type 0} (c : Counting M) (s : Bool) (tally : Tally M) (line : List ℕ) → count_lines c s tally (line ∷ []) ≡ count_line c s tally line
unfolding count_lines
count_lines-one c s tally line = nothing_behind (count_line c s tally line).text (count_line c s tally line).end

-- lines, and the end of the input
abbrev pub ended_lines : {M : Type 0} → Counting M → Bool → Tally M → List (List ℕ) → Counted M
ended_lines c s tally lines = then_on (count_lines c s tally lines).text (count_lines c s tally lines).end (count_end c)

-- lines after which these are left
known_lines : {M : Type 0} (c : Counting M) (s : Bool) (lines left : List (List ℕ)) (text : List ℕ) (tally : Tally M)
    → count_lines c s (first_tally c) lines ≡ outcome text (Ok tally) → ended_lines c s (first_tally c) (lines ++ left) ≡ behind text (ended_lines c s tally
    left)
known_lines {M} c s lines left text tally e =
    let whole = count_lines-append c s (first_tally c) lines left
    ∙ ap (λ (z : Counted M). then_on z.text z.end (λ next. count_lines c s next left)) e in
    ap (λ (z : Counted M). then_on z.text z.end (count_end c)) whole
    ∙ then_on-behind text (count_lines c s tally left).text (count_lines c s tally left).end (count_end c)

-- an input whose lines begin with known ones
pub input_known : {M : Type 0} (c : Counting M) (s : Bool) (input : List ℕ) (lines left : List (List ℕ)) (text : List ℕ) (tally : Tally M)
    → lines_of input ≡ lines ++ left → count_lines c s (first_tally c) lines ≡ outcome text (Ok tally)
    → (z : List ℕ) × ((count_input c s input).text ≡ text ++ z)
unfolding count_input
input_known {M} c s input lines left text tally is e = (
  (ended_lines c s tally left).text,
  ap (λ (z : Counted M). z.text) (ap (ended_lines c s (first_tally c)) is ∙ known_lines c s lines left text tally e),
)

-- an input whose lines are known
pub input_ended : {M : Type 0} (c : Counting M) (s : Bool) (input text : List ℕ) (tally : Tally M)
    → count_lines c s (first_tally c) (lines_of input) ≡ outcome text (Ok tally)
    → count_input c s input ≡ behind text (count_end c tally)
unfolding count_input
input_ended {M} c s input text tally e = ap (λ (z : Counted M). then_on z.text z.end (count_end c)) e

-- the line after known ones
pub first_of : {M : Type 0} (c : Counting M) (s : Bool) (tally : Tally M) (line : List ℕ) (left : List (List ℕ))
    → ended_lines c s tally (line ∷ left) ≡ then_on (count_line c s tally line).text (count_line c s tally line).end (λ next. ended_lines c s next left)
unfolding count_lines
first_of c s tally line left =
    let first = count_line c s tally line in then_on-then_on first.text first.end (λ next. count_lines c s next left) (count_end c)

pub input_begins : {M : Type 0} (c : Counting M) (s : Bool) (input : List ℕ) (lines left : List (List ℕ)) (line text : List ℕ) (tally : Tally M)
    → lines_of input ≡ lines ++ line ∷ left → count_lines c s (first_tally c) lines ≡ outcome text (Ok tally)
    → (z : List ℕ) × ((count_input c s input).text ≡ (text ++ (count_line c s tally line).text) ++ z)
unfolding count_input
input_begins {M} c s input lines left line text tally is e =
    let first = count_line c s tally line in
    let more = then_on-text first.text first.end (λ next. ended_lines c s next left) in
    let whole = ap (ended_lines c s (first_tally c)) is ∙ known_lines c s lines (line ∷ left) text tally e ∙ ap (behind text) (first_of c s tally line left) in
    (more.0, ap (λ (z : Counted M). z.text) whole ∙ ap (λ (z : List ℕ). text ++ z) more.1 ∙ sym (append_assoc text first.text more.0))

pub input_falls : {M : Type 0} (c : Counting M) (s : Bool) (input : List ℕ) (lines left : List (List ℕ)) (line text : List ℕ) (tally : Tally M) (fault :
    CountFault)
    → lines_of input ≡ lines ++ line ∷ left → count_lines c s (first_tally c) lines ≡ outcome text (Ok tally)
    → (count_line c s tally line).end ≡ Err fault → count_input c s input ≡ outcome (text ++ (count_line c s tally line).text) (Err fault)
unfolding count_input
input_falls {M} c s input lines left line text tally fault is e falls =
    let first = count_line c s tally line in
    ap (ended_lines c s (first_tally c)) is ∙ known_lines c s lines (line ∷ left) text tally e ∙ ap (behind text) (first_of c s tally line left)
    ∙ ap (λ (z : Result (Tally M) CountFault). behind text (then_on first.text z (λ next. ended_lines c s next left))) falls

-- one line more
pub lines_more : {M : Type 0} (c : Counting M) (s : Bool) (lines : List (List ℕ)) (line text : List ℕ) (tally tally' : Tally M)
    → count_lines c s (first_tally c) lines ≡ outcome text (Ok tally) → (count_line c s tally line).end ≡ Ok tally'
    → count_lines c s (first_tally c) (lines ++ line ∷ []) ≡ outcome (text ++ (count_line c s tally line).text) (Ok tally')
lines_more {M} c s lines line text tally tally' e ends =
    let first = count_line c s tally line in
    count_lines-append c s (first_tally c) lines (line ∷ [])
    ∙ ap (λ (z : Counted M). then_on z.text z.end (λ next. count_lines c s next (line ∷ []))) e
    ∙ ap (behind text) (count_lines-one c s tally line)
    ∙ ap (λ (z : Result (Tally M) CountFault). outcome (text ++ first.text) z) ends

-- ---- the lines of an input

-- after some bytes
pub lines_after : (taken more : List ℕ) → (left : List (List ℕ)) × (lines_of (taken ++ more) ≡ ended_from [] taken ++ left)
lines_after taken more = (
  ended_from (rest_from [] taken) more ++ unless_empty (rest_from [] (taken ++ more)),
  lines_of-parts (taken ++ more) ∙ ap (λ (z : List (List ℕ)). z ++ unless_empty (rest_from [] (taken ++ more))) (ended_from-append [] taken more)
      ∙ append_assoc (ended_from [] taken) _ _,
)

-- after a line feed
pub lines_after_feed : (taken more : List ℕ)
    → (left : List (List ℕ)) × (lines_of ((taken ++ 10 ∷ []) ++ more) ≡ ended_from [] taken ++ rest_from [] taken ∷ left)
lines_after_feed taken more =
    let after = lines_after (taken ++ 10 ∷ []) more in
    (after.0, after.1 ∙ ap (λ (z : List (List ℕ)). z ++ after.0) (ended_from-line_feed [] taken) ∙ append_assoc (ended_from [] taken) _ _)

-- the last line
pub lines_at_end : (taken : List ℕ) (byte : ℕ) (rest : List ℕ) → rest_from [] taken ≡ byte ∷ rest
    → lines_of taken ≡ ended_from [] taken ++ rest_from [] taken ∷ []
lines_at_end taken byte rest e = lines_of-parts taken ∙ ap (λ (z : List ℕ). ended_from [] taken ++ unless_empty z) e
    ∙ ap (λ (z : List ℕ). ended_from [] taken ++ z ∷ []) (sym e)

pub lines_all_ended : (taken : List ℕ) → rest_from [] taken ≡ [] → lines_of taken ≡ ended_from [] taken
lines_all_ended taken e =
    lines_of-parts taken ∙ ap (λ (z : List ℕ). ended_from [] taken ++ unless_empty z) e ∙ append-nil (ended_from [] taken)

-- the lines that ended, of the bytes that were read
pub open_known : {M : Type 0} (c : Counting M) (s : Bool) (taken text : List ℕ) (tally : Tally M)
    → count_lines c s (first_tally c) (ended_from [] taken) ≡ outcome text (Ok tally)
    → (count_open c s taken).text ≡ text
unfolding count_open
open_known {M} c s taken text tally e =
    ap (λ (z : List (List ℕ)). (count_lines c s (first_tally c) z).text) (whole_lines_of-parts taken) ∙ ap (λ (z : Counted M). z.text) e

-- ---- the first bytes of a line

-- a line, by its kind
abbrev count_by_kind : {M : Type 0} → Counting M → Bool → Tally M → Option ℤ → LineKind → M → Counted M
count_by_kind {M} c s tally own kind memory =
    let at : Tally M = record tally { last = option_or own tally.last; stamps = tally_after tally.stamps (next_line tally) kind; memory = memory } in
    let bucket = bucket_at c own in
    count_by c (fault_of s at bucket) at bucket

pub count_line-by_head : {M : Type 0} (c : Counting M) (s : Bool) (tally : Tally M) (line : List ℕ)
    → ((memory : M) (last : Option ℤ) (is_first : Bool) (line : List ℕ)
    → c.instant memory last is_first (take 65536 line) ≡ c.instant memory last is_first line)
    → ((memory : M) (number : ℕ) (kind : LineKind) (line : List ℕ) → c.after memory number kind (take 65536 line) ≡ c.after memory number kind line)
    → count_line c s tally (take 65536 line) ≡ count_line c s tally line
unfolding count_line
count_line-by_head c s tally line by_head head =
    let own = instant_at c tally line in
    let kind = kind_of line (is_some own) in
    ap (count_own c s tally (take 65536 line)) (by_head _ _ _ line)
    ∙ ap (λ (k : LineKind). count_by_kind c s tally own k (c.after tally.memory (next_line tally) k (take 65536 line)))
    (kind_of-front line (is_some own))
    ∙ ap (count_by_kind c s tally own kind) (head tally.memory (next_line tally) kind line)
