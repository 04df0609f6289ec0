-- Lines written, each by itself.
use Rattle.std.proofs.Common.{◌≡◌, refl, sym, ap, ap₂, ◌∙◌, subst, ℕ, ◌<◌, Bool, true, false, nat_eq, List, [], ◌∷◌}
use Rattle.std.proofs.Common.{◌++◌, map, drop, length, append_assoc, length-append, inl, inr, ◌+◌, ◌-◌, ℤ, Option, Some, None, Result, Ok, Err, IsOk, arith}
use Rattle.std.specs.List.{concat, starts_with}
use Rattle.std.proofs.lemmas.Bool.{cases_Bool}
use Rattle.std.proofs.lemmas.Bool.Decides.{Decides-eqb}
use Rattle.std.proofs.Math.Seq.{drop-append-add, take-append-add}
use Rattle.std.proofs.lemmas.List.{append-nil}
use Rattle.std.proofs.lemmas.Slice.Eq.{starts_is}
use Rattle.line_devices.specs.LineLemmas.{ended_from-append, ended_from-line_feed, rest_from-append, rest_from-line_feed, whole_lines_of-parts}
use Rattle.line_devices.specs.LineParts.{ended_from, rest_from}
use Rattle.line_devices.specs.Lines.{pieces_of, whole_lines_of}
use Rattle.stamps.specs.Decisions.{decision_of, first_state, is_first, one_more, reading, rewritten, state_after, with_text}
use Rattle.stamps.specs.Laws.{fed, last_written, line_written, lines_written, text_written}
use Rattle.stamps.specs.LineStamps.{byte_order_mark, has_mark, mark_length, stamp_of}
use Rattle.stamps.specs.Runs.{Run, input_run, known_after, last_of, last_run, line_feed, line_run, output_of, then_on}
use Rattle.stamps.specs.StampTexts.{stamp_text}
use Rattle.stamps.specs.Zoned.{assumed_stamp, zone_of}
use Rattle.log_forms.specs.Years.{assumed_after, assumed_then}
use Rattle.log_forms.specs.declared.instants.Assumed.{Assumed}
use Rattle.log_forms.specs.declared.places.Place.{Place}
use Rattle.log_forms.specs.declared.stamps.Stamp as formed
use Rattle.log_forms.specs.declared.stamps.StampRefusal.{StampRefusal}
use Rattle.log_forms.specs.declared.stamps.StampRefusal.TheVariants as form
use Rattle.rfc3339.specs.declared.refusal.TextRefusal.{TextRefusal}
use Rattle.rfc3339.specs.declared.refusal.TextRefusal.TheVariants.{Syntax}
use Rattle.rfc3339.specs.declared.refusal.TextRefusal.TheVariants as text
use Rattle.stamps.specs.Readers.{IsOfOneLine, form_stamp, formed_at, in_line, line_stamp, plain_at, stamp_behind, value_kind}
use Rattle.stamps.specs.declared.decide.Stamp.{Stamp}
use Rattle.stamps.specs.declared.readers.LineRefusal.{LineRefusal}
use Rattle.stamps.specs.declared.readers.LineStamp.{LineStamp}
use Rattle.stamps.specs.declared.readers.Reader.{Reader}
use Rattle.stamps.specs.declared.readers.Reader.TheVariants.{Plain, Formed}
use Rattle.stamps.specs.declared.readers.ValueKind.{ValueKind}
use Rattle.stamps.specs.declared.readers.ValueKind.TheVariants.{Number, Quoted, Other}
use Rattle.stamps.specs.declared.decide.State.{State}
use Rattle.stamps.specs.declared.task.Style.{Style}
use Rattle.stamps.specs.declared.task.Action.TheVariants.{Write}
use Rattle.stamps.proofs.LineLawLemmas.{joined, later}
use Rattle.stamps.proofs.LongLineLemmas.{mark_and_rest}
use Rattle.stamps.proofs.RunLemmas.{all_run, input_run-all, last_of-pieces}

-- ---- a line

placed_text : (n : ℕ) (stamp : LineStamp) (o : Option (List ℕ)) (state : State) (line : List ℕ) (next : State → Run)
    → let decision = with_text false n stamp o in
    (then_on (output_of decision line ++ line_feed decision) (known_after decision state) next).text
    ≡ fed (output_of (with_text false 1 stamp o) line) ++ (next state).text
placed_text n stamp None state line next = refl
placed_text n stamp (Some text) state line next = refl

written_text : (style : Style) (n : ℕ) (stamp : Result LineStamp LineRefusal) (state : State) (line : List ℕ) (next : State → Run)
    → let decision = rewritten style false n stamp in
    (then_on (output_of decision line ++ line_feed decision) (known_after decision state) next).text
    ≡ fed (output_of (rewritten style false 1 stamp) line) ++ (next state).text
written_text style n (Ok stamp) state line next = placed_text n stamp (stamp_text style stamp) state line next
written_text style n (Err refusal) state line next = refl

placed_same : (n : ℕ) (stamp : LineStamp) (o : Option (List ℕ)) (line : List ℕ)
    → output_of (with_text false n stamp o) line ≡ output_of (with_text false 1 stamp o) line
placed_same n stamp None line = refl
placed_same n stamp (Some text) line = refl

written_same : (style : Style) (n : ℕ) (stamp : Result LineStamp LineRefusal) (line : List ℕ)
    → output_of (rewritten style false n stamp) line ≡ output_of (rewritten style false 1 stamp) line
written_same style n (Ok stamp) line = placed_same n stamp (stamp_text style stamp) line
written_same style n (Err refusal) line = refl

placed_known : (n : ℕ) (stamp : LineStamp) (o : Option (List ℕ)) (state : State)
    → known_after (with_text false n stamp o) state ≡ Ok state
placed_known n stamp None state = refl
placed_known n stamp (Some text) state = refl

written_known : (style : Style) (n : ℕ) (stamp : Result LineStamp LineRefusal) (state : State)
    → known_after (rewritten style false n stamp) state ≡ Ok state
written_known style n (Ok stamp) state = placed_known n stamp (stamp_text style stamp) state
written_known style n (Err refusal) state = refl

-- ---- no year is assumed

assumed_same : (assumed : Assumed) (last : Option ℤ) → assumed.year ≡ None → assumed_after assumed last ≡ assumed
assumed_same assumed None none = refl
assumed_same assumed (Some last) none = ap (assumed_then assumed last) none

-- the instants before change nothing
pub same_stamp : (r : Reader) (last : Option ℤ) (is_first : Bool) (line : List ℕ) → IsOfOneLine r
    → line_stamp r last is_first line ≡ line_stamp r None is_first line
same_stamp Plain last is_first line one = refl
same_stamp (Formed by) last is_first line one =
    let before = mark_length (has_mark is_first line) in
    ap (λ (assumed : Assumed). formed_at before by.place (drop before line) (assumed_stamp (zone_of by) by assumed (drop before line)))
    (assumed_same by.assumed last one)

-- ---- all lines

written_all : (r : Reader) (style : Style) (s : State) (lines : List (List ℕ)) (piece : List ℕ) → IsOfOneLine r
    → (all_run (reading r (Write style false)) s lines piece).text ≡ lines_written r style (is_first s) lines piece
unfolding last_run line_run decision_of lines_written
written_all r style s [] [] one = refl
written_all r style s [] (byte ∷ piece) one =
    let line = byte ∷ piece in
    written_same style (one_more s.lines) (line_stamp r s.last (is_first s) line) line
    ∙ ap (λ (z : Result LineStamp LineRefusal). output_of (rewritten style false 1 z) line) (same_stamp r s.last (is_first s) line one)
written_all r style s (line ∷ lines) piece one =
    let after = state_after (reading r (Write style false)) s line in
    written_text style (one_more s.lines) (line_stamp r s.last (is_first s) line) after line
    (λ next. all_run (reading r (Write style false)) next lines piece)
    ∙ ap (λ (z : Result LineStamp LineRefusal). fed (output_of (rewritten style false 1 z) line)
    ++ (all_run (reading r (Write style false)) after lines piece).text) (same_stamp r s.last (is_first s) line one)
    ∙ ap (λ (z : List ℕ). fed (line_written r style (is_first s) line) ++ z)
    (written_all r style after lines piece one
    ∙ ap (λ (z : Bool). lines_written r style z lines piece) (later (reading r (Write style false)) s line))

written_ends : (r : Reader) (style : Style) (s : State) (lines : List (List ℕ)) (piece : List ℕ)
    → IsOk (all_run (reading r (Write style false)) s lines piece).end
unfolding last_run line_run decision_of
written_ends r style s [] [] = refl
written_ends r style s [] (byte ∷ piece) =
    let line = byte ∷ piece in
    let after = state_after (reading r (Write style false)) s line in
    rw (written_known style (one_more s.lines) (line_stamp r s.last (is_first s) line) after) refl
written_ends r style s (line ∷ lines) piece =
    let after = state_after (reading r (Write style false)) s line in
    rw (written_known style (one_more s.lines) (line_stamp r s.last (is_first s) line) after) (written_ends r style after lines piece)

pub text_of : (r : Reader) (style : Style) (input : List ℕ) → IsOfOneLine r
    → text_written r style input ≡ lines_written r style true (whole_lines_of input) (last_of (pieces_of input))
text_of r style input one =
    ap (λ (z : Run). z.text) (input_run-all (reading r (Write style false)) input)
    ∙ written_all r style (first_state (reading r (Write style false))) (whole_lines_of input) (last_of (pieces_of input)) one

-- ---- an input that is cut at a line feed

text_of-parts : (r : Reader) (style : Style) (input : List ℕ) → IsOfOneLine r
    → text_written r style input ≡ lines_written r style true (ended_from [] input) (rest_from [] input)
text_of-parts r style input one =
    text_of r style input one ∙ ap (λ (z : List (List ℕ)). lines_written r style true z (last_of (pieces_of input))) (whole_lines_of-parts input)
    ∙ ap (λ (z : List ℕ). lines_written r style true (ended_from [] input) z) (last_of-pieces input)

later_append : (r : Reader) (style : Style) (xs ys : List (List ℕ)) (piece : List ℕ)
    → lines_written r style false (xs ++ ys) piece ≡ lines_written r style false xs [] ++ lines_written r style false ys piece
unfolding lines_written
later_append r style [] ys piece = refl
later_append r style (x ∷ xs) ys piece =
    ap (λ (z : List ℕ). fed (line_written r style false x) ++ z) (later_append r style xs ys piece)
    ∙ sym (append_assoc (fed (line_written r style false x)) (lines_written r style false xs []) (lines_written r style false ys piece))

first_append : (r : Reader) (style : Style) (xs ys : List (List ℕ)) (piece : List ℕ) → 0 < length xs
    → lines_written r style true (xs ++ ys) piece ≡ lines_written r style true xs [] ++ lines_written r style false ys piece
unfolding lines_written
first_append r style [] ys piece some = absurd (omega (arith, some))
first_append r style (x ∷ xs) ys piece some =
    ap (λ (z : List ℕ). fed (line_written r style true x) ++ z) (later_append r style xs ys piece)
    ∙ sym (append_assoc (fed (line_written r style true x)) (lines_written r style false xs []) (lines_written r style false ys piece))

-- no line but the first has a byte order mark that is passed over
pub no_mark-later : (line : List ℕ) → has_mark false line ≡ false
unfolding has_mark
no_mark-later line = refl

-- a front of a text that begins with no byte order mark
no_mark-front : (line more text : List ℕ) → text ≡ line ++ more → starts_with nat_eq text byte_order_mark ≡ false → has_mark true line ≡ false
no_mark-front line more text e none =
    elim (cases_Bool (has_mark true line)) [
      | inl t ↦
          let rest = drop 3 line ++ more in
          let whole : text ≡ byte_order_mark ++ rest = e ∙ ap (λ (z : List ℕ). z ++ more) (mark_and_rest true line t)
          ∙ append_assoc byte_order_mark (drop 3 line) more in
          let is = (starts_is Decides-eqb text byte_order_mark (starts_with nat_eq text byte_order_mark) refl).1 rest whole in
          absurd cc
      | inr t ↦ t
    ]

same_written : (r : Reader) (style : Style) (line : List ℕ) → has_mark true line ≡ false → line_written r style true line ≡ line_written r style false line
same_written r style line e = rw (e, no_mark-later line) refl

last_same : (r : Reader) (style : Style) (piece : List ℕ) → has_mark true piece ≡ false → last_written r style true piece ≡ last_written r style false piece
last_same r style [] e = refl
last_same r style (byte ∷ piece) e = same_written r style (byte ∷ piece) e

lines_same : (r : Reader) (style : Style) (lines : List (List ℕ)) (piece text : List ℕ) → text ≡ concat (map fed lines) ++ piece
    → starts_with nat_eq text byte_order_mark ≡ false → lines_written r style true lines piece ≡ lines_written r style false lines piece
unfolding lines_written
lines_same r style [] piece text e none =
    last_same r style piece (no_mark-front piece [] text (e ∙ sym (append-nil piece)) none)
lines_same r style (line ∷ lines) piece text e none =
    let more = (10 ∷ []) ++ (concat (map fed lines) ++ piece) in
    let whole = e ∙ append_assoc (fed line) (concat (map fed lines)) piece ∙ append_assoc line (10 ∷ []) (concat (map fed lines) ++ piece) in
    ap (λ (z : List ℕ). fed z ++ lines_written r style false lines piece) (same_written r style line (no_mark-front line more text whole none))

pub cut : (r : Reader) (style : Style) (first second : List ℕ) → IsOfOneLine r → starts_with nat_eq second byte_order_mark ≡ false
    → text_written r style (first ++ 10 ∷ second) ≡ text_written r style (fed first) ++ text_written r style second
cut r style first second one none =
    let whole : first ++ 10 ∷ second ≡ fed first ++ second = sym (append_assoc first (10 ∷ []) second) in
    let lines = ended_from [] (fed first) in
    let more = ended_from [] second in
    let piece = rest_from [] second in
    let empty = rest_from-line_feed [] first in
    let some : 0 < length lines = rw (ended_from-line_feed [] first, length-append (ended_from [] first) (rest_from [] first ∷ [])) (omega arith) in
    let ended : ended_from [] (fed first ++ second) ≡ lines ++ more = ended_from-append [] (fed first) second
    ∙ ap (λ (z : List ℕ). lines ++ ended_from z second) empty in
    let rest : rest_from [] (fed first ++ second) ≡ piece = rest_from-append [] (fed first) second ∙ ap (λ (z : List ℕ). rest_from z second) empty in
    ap (text_written r style) whole ∙ text_of-parts r style (fed first ++ second) one
    ∙ ap (λ (z : List (List ℕ)). lines_written r style true z (rest_from [] (fed first ++ second))) ended
    ∙ ap (λ (z : List ℕ). lines_written r style true (lines ++ more) z) rest ∙ first_append r style lines more piece some
    ∙ ap (λ (z : List ℕ). lines_written r style true lines [] ++ z) (sym (lines_same r style more piece second (sym (joined [] second)) none))
    ∙ ap (λ (z : List ℕ). z ++ lines_written r style true more piece)
    (sym (text_of-parts r style (fed first) one ∙ ap (λ (z : List ℕ). lines_written r style true lines z) empty))
    ∙ ap (λ (z : List ℕ). text_written r style (fed first) ++ z) (sym (text_of-parts r style second one))

-- ---- a byte order mark

mark_first : (line : List ℕ) → has_mark true (byte_order_mark ++ line) ≡ true
unfolding has_mark
mark_first line =
    (starts_is Decides-eqb (byte_order_mark ++ line) byte_order_mark (starts_with nat_eq (byte_order_mark ++ line) byte_order_mark) refl).1 line refl

-- a stamp at another place
abbrev at_place : LineStamp → ℕ → LineStamp
at_place stamp start = record stamp { start = start }

-- a stamp that has three bytes more before it
abbrev moved : Result LineStamp LineRefusal → Result LineStamp LineRefusal
moved (Ok stamp) = Ok (at_place stamp (3 + stamp.start))
moved (Err refusal) = Err refusal

plain_moved : (stamp : Result Stamp TextRefusal) → plain_at 3 stamp ≡ moved (plain_at 0 stamp)
plain_moved (Ok stamp) = refl
plain_moved (Err Syntax) = refl
plain_moved (Err (text.OutOfRange component)) = refl

in_line_moved : (kind : ValueKind) (stamp : formed.Stamp) → in_line 3 kind stamp ≡ at_place (in_line 0 kind stamp) (3 + (in_line 0 kind stamp).start)
in_line_moved Number stamp =
    let start : 3 + stamp.start ≡ 3 + (0 + stamp.start) = omega arith in
    ap (λ (n : ℕ). at_place (in_line 0 Number stamp) n) start
in_line_moved Quoted stamp =
    let start : 3 + (stamp.start - 1) ≡ 3 + (0 + (stamp.start - 1)) = omega arith in
    ap (λ (n : ℕ). at_place (in_line 0 Quoted stamp) n) start
in_line_moved Other stamp =
    let start : 3 + stamp.start ≡ 3 + (0 + stamp.start) = omega arith in
    ap (λ (n : ℕ). at_place (in_line 0 Other stamp) n) start

formed_moved : (place : Place) (line : List ℕ) (stamp : Result formed.Stamp StampRefusal)
    → formed_at 3 place line stamp ≡ moved (formed_at 0 place line stamp)
formed_moved place line (Ok stamp) = ap (λ (z : LineStamp). Ok z) (in_line_moved (value_kind place line stamp) stamp)
formed_moved place line (Err form.Absent) = refl
formed_moved place line (Err (form.Part refusal)) = refl

behind_moved : (r : Reader) (last : Option ℤ) (text : List ℕ) → stamp_behind r last 3 text ≡ moved (stamp_behind r last 0 text)
behind_moved Plain last text = plain_moved (stamp_of text)
behind_moved (Formed by) last text = formed_moved by.place text (form_stamp by last text)

placed_marked : (stamp : LineStamp) (o : Option (List ℕ)) (line : List ℕ)
    → output_of (with_text false 1 (at_place stamp (3 + stamp.start)) o) (byte_order_mark ++ line)
    ≡ byte_order_mark ++ output_of (with_text false 1 stamp o) line
placed_marked stamp None line = refl
placed_marked stamp (Some text) line =
    let count : (3 + stamp.start) + stamp.length ≡ 3 + (stamp.start + stamp.length) = omega arith in
    let front = take-append-add byte_order_mark line stamp.start in
    let rest = ap (λ (n : ℕ). drop n (byte_order_mark ++ line)) count
    ∙ drop-append-add byte_order_mark line (stamp.start + stamp.length) in
    ap₂ (λ (a b : List ℕ). a ++ (text ++ b)) front rest

rewritten_marked : (style : Style) (stamp : Result LineStamp LineRefusal) (line : List ℕ)
    → output_of (rewritten style false 1 (moved stamp)) (byte_order_mark ++ line) ≡ byte_order_mark ++ output_of (rewritten style false 1 stamp) line
rewritten_marked style (Ok stamp) line = placed_marked stamp (stamp_text style stamp) line
rewritten_marked style (Err refusal) line = refl

pub marked : (r : Reader) (style : Style) (line : List ℕ)
    → line_written r style true (byte_order_mark ++ line) ≡ byte_order_mark ++ line_written r style false line
marked r style line =
    rw (mark_first line, no_mark-later line, behind_moved r None line) (rewritten_marked style (stamp_behind r None 0 line) line)

pub ends : (r : Reader) (style : Style) (input : List ℕ) → IsOk (input_run (reading r (Write style false)) input).end
ends r style input =
    subst (λ (z : Run). IsOk z.end) (sym (input_run-all (reading r (Write style false)) input))
    (written_ends r style (first_state (reading r (Write style false))) (whole_lines_of input) (last_of (pieces_of input)))
