-- One cut after the other.
use Rattle.std.proofs.Common.{◌≡◌, inl, inr, refl, sym, ap, ◌∙◌, subst, ℕ, Bool, true, false, ◌&&◌, ◌||◌, nat_eq, List, [], ◌∷◌, ◌++◌}
use Rattle.std.proofs.Common.{drop, map, ℤ, Option, Some, None, Result, Ok, Err}
use Rattle.std.specs.List.{list_any, starts_with}
use Rattle.std.specs.Prelude.{⊤}
use Rattle.std.proofs.lemmas.Bool.{cases_Bool}
use Rattle.std.proofs.lemmas.List.{append-nil}
use Rattle.line_devices.specs.LineLemmas.{ended_from-append, ended_from-line_feed, lines_of-parts, rest_from-append, rest_from-line_feed, whole_lines_of-parts}
use Rattle.line_devices.specs.LineParts.{ended_from, rest_from}
use Rattle.line_devices.specs.Lines.{lines_of, pieces_of, unless_empty, whole_lines_of}
use Rattle.stamps.specs.Decisions.{reading}
use Rattle.stamps.specs.Decisions as decisions
use Rattle.stamps.specs.Laws.{HasNoOtherMark, cut_by, fed, instants_up_to, is_since, line_stamps, line_texts, marked_texts, stamps_of}
use Rattle.stamps.specs.LineStamps.{byte_order_mark, has_mark, mark_length}
use Rattle.stamps.specs.Readers.{IsOfOneLine, line_stamp, stamp_behind}
use Rattle.stamps.specs.Runs.{input_run, last_of}
use Rattle.stamps.specs.declared.readers.LineRefusal.{LineRefusal}
use Rattle.stamps.specs.declared.readers.LineStamp.{LineStamp}
use Rattle.stamps.specs.declared.readers.Reader.{Reader}
use Rattle.stamps.specs.declared.task.Action.{Action}
use Rattle.stamps.specs.declared.task.Action.TheVariants.{Since, Until, Between}
use Rattle.stamps.proofs.CutLawLemmas.{Cuts, between_cuts, cut_text, is_between, is_until, since_cuts, until_cuts}
use Rattle.stamps.proofs.RunLemmas.{last_of-pieces}
use Rattle.stamps.proofs.WrittenLawLemmas.{same_stamp}

-- ---- what is kept of a list

abbrev kept : {A : Type 0} → List Bool → List A → List A
kept [] xs = []
kept (mark ∷ marks) [] = []
kept (true ∷ marks) (x ∷ xs) = x ∷ kept marks xs
kept (false ∷ marks) (x ∷ xs) = kept marks xs

kept-none : {A : Type 0} (marks : List Bool) → kept {A = A} marks [] ≡ []
kept-none [] = refl
kept-none (mark ∷ marks) = refl

marked-none : (marks : List Bool) → marked_texts marks [] ≡ []
unfolding marked_texts
marked-none [] = refl
marked-none (mark ∷ marks) = refl

kept-map : {A B : Type 0} (f : A → B) (marks : List Bool) (xs : List A) → kept marks (map f xs) ≡ map f (kept marks xs)
kept-map f [] xs = refl
kept-map f (mark ∷ marks) [] = refl
kept-map f (true ∷ marks) (x ∷ xs) = ap (λ (z : List _). f x ∷ z) (kept-map f marks xs)
kept-map f (false ∷ marks) (x ∷ xs) = kept-map f marks xs

neither : (a b : Bool) → (a || b) ≡ false → (a ≡ false) × (b ≡ false)
neither true b e = absurd cc
neither false b e = (refl, e)

both_false : (a b : Bool) → a ≡ false → b ≡ false → (a || b) ≡ false
both_false a b e h = rw (e, h) refl

kept-any : {A : Type 0} (test : A → Bool) (marks : List Bool) (xs : List A) → list_any test xs ≡ false → list_any test (kept marks xs) ≡ false
kept-any test [] xs e = refl
kept-any test (mark ∷ marks) [] e = refl
kept-any test (true ∷ marks) (x ∷ xs) e =
    let parts = neither (test x) (list_any test xs) e in
    both_false (test x) (list_any test (kept marks xs)) parts.0 (kept-any test marks xs parts.1)
kept-any test (false ∷ marks) (x ∷ xs) e = kept-any test marks xs (neither (test x) (list_any test xs) e).1

-- ---- lines without a line feed

record IsLine (line : List ℕ) : Type 0 where
  none : ended_from [] line ≡ []
  whole : rest_from [] line ≡ line

abbrev AreLines : List (List ℕ) → Type 0
AreLines [] = ⊤
AreLines (line ∷ lines) = IsLine line × AreLines lines

no_bytes : IsLine []
unfolding ended_from rest_from
no_bytes = record { none = refl; whole = refl }

one_byte : (piece : List ℕ) (byte : ℕ) → nat_eq byte 10 ≡ false
    → (ended_from piece (byte ∷ []) ≡ []) × (rest_from piece (byte ∷ []) ≡ piece ++ byte ∷ [])
unfolding ended_from rest_from
one_byte piece byte t = rw t (refl, refl)

longer : (piece : List ℕ) (byte : ℕ) → IsLine piece → nat_eq byte 10 ≡ false → IsLine (piece ++ byte ∷ [])
longer piece byte h t =
    let one = one_byte piece byte t in
    record {
      none = ended_from-append [] piece (byte ∷ []) ∙ rw (h.none, h.whole) one.0;
      whole = rest_from-append [] piece (byte ∷ []) ∙ rw h.whole one.1;
    }

lines_are : (piece input : List ℕ) → IsLine piece → AreLines (ended_from piece input) × IsLine (rest_from piece input)
unfolding ended_from rest_from
lines_are piece [] h = (tt, h)
lines_are piece (byte ∷ input) h =
    elim (cases_Bool (nat_eq byte 10)) [
      | inl t ↦ let more = lines_are [] input no_bytes in rw t ((h, more.0), more.1)
      | inr t ↦ rw t (lines_are (piece ++ byte ∷ []) input (longer piece byte h t))
    ]

-- a line with its line feed, and then more
fed_first : (line more : List ℕ) → IsLine line
    → (ended_from [] (fed line ++ more) ≡ line ∷ ended_from [] more) × (rest_from [] (fed line ++ more) ≡ rest_from [] more)
fed_first line more h = (
  ended_from-append [] (fed line) more ∙ rw (ended_from-line_feed [] line, rest_from-line_feed [] line, h.none, h.whole) refl,
  rest_from-append [] (fed line) more ∙ rw (rest_from-line_feed [] line) refl,
)

-- ---- the lines of a text that is kept in part

-- the lines of a text, and their texts, are those that are kept
record IsKept (text : List ℕ) (marks : List Bool) (lines : List (List ℕ)) (piece : List ℕ) : Type 0 where
  bare : ended_from [] text ++ unless_empty (rest_from [] text) ≡ kept marks (lines ++ unless_empty piece)
  fed : map fed (ended_from [] text) ++ unless_empty (rest_from [] text) ≡ kept marks (map fed lines ++ unless_empty piece)

nothing_kept : (marks : List Bool) → IsKept [] marks [] []
unfolding ended_from rest_from
nothing_kept marks = record { bare = sym (kept-none marks); fed = sym (kept-none marks) }

piece_kept : (mark : Bool) (marks : List Bool) (byte : ℕ) (piece : List ℕ) → IsLine (byte ∷ piece)
    → IsKept (marked_texts (mark ∷ marks) ((byte ∷ piece) ∷ [])) (mark ∷ marks) [] (byte ∷ piece)
unfolding marked_texts ended_from rest_from
piece_kept true marks byte piece h =
    let all : (byte ∷ piece) ++ marked_texts marks [] ≡ byte ∷ piece
    = ap (λ (z : List ℕ). (byte ∷ piece) ++ z) (marked-none marks) ∙ append-nil (byte ∷ piece) in
    let last : (byte ∷ piece) ∷ [] ≡ (byte ∷ piece) ∷ kept marks [] = ap (λ (z : List (List ℕ)). (byte ∷ piece) ∷ z) (sym (kept-none marks)) in
    subst (λ (z : List ℕ). IsKept z (true ∷ marks) [] (byte ∷ piece)) (sym all)
    (record { bare = rw (h.none, h.whole) last; fed = rw (h.none, h.whole) last })
piece_kept false marks byte piece h =
    subst (λ (z : List ℕ). IsKept z (false ∷ marks) [] (byte ∷ piece)) (sym (marked-none marks))
    (record { bare = sym (kept-none marks); fed = sym (kept-none marks) })

lines_kept : (marks : List Bool) (lines : List (List ℕ)) (piece : List ℕ) → AreLines lines → IsLine piece
    → IsKept (marked_texts marks (map fed lines ++ unless_empty piece)) marks lines piece
unfolding marked_texts ended_from rest_from
lines_kept marks [] [] are is = subst (λ (z : List ℕ). IsKept z marks [] []) (sym (marked-none marks)) (nothing_kept marks)
lines_kept [] [] (byte ∷ piece) are is = record { bare = refl; fed = refl }
lines_kept (mark ∷ marks) [] (byte ∷ piece) are is = piece_kept mark marks byte piece is
lines_kept [] (line ∷ lines) piece are is = record { bare = refl; fed = refl }
lines_kept (true ∷ marks) (line ∷ lines) piece are is =
    let more = lines_kept marks lines piece are.1 is in
    let first = fed_first line (marked_texts marks (map fed lines ++ unless_empty piece)) are.0 in
    record {
      bare = rw (first.0, first.1) (ap (λ (z : List (List ℕ)). line ∷ z) more.bare);
      fed = rw (first.0, first.1) (ap (λ (z : List (List ℕ)). fed line ∷ z) more.fed);
    }
lines_kept (false ∷ marks) (line ∷ lines) piece are is =
    let more = lines_kept marks lines piece are.1 is in record { bare = more.bare; fed = more.fed }

-- the texts of the lines of an input
texts-parts : (input : List ℕ) → line_texts input ≡ map fed (ended_from [] input) ++ unless_empty (rest_from [] input)
texts-parts input =
    ap (λ (z : List (List ℕ)). map fed z ++ unless_empty (last_of (pieces_of input))) (whole_lines_of-parts input)
    ∙ ap (λ (z : List ℕ). map fed (ended_from [] input) ++ unless_empty z) (last_of-pieces input)

-- so what is kept of an input has the lines that are kept, and their texts
kept_input : (marks : List Bool) (input : List ℕ) → IsKept (marked_texts marks (line_texts input)) marks (ended_from [] input) (rest_from [] input)
kept_input marks input =
    let are = lines_are [] input no_bytes in
    subst (λ (z : List (List ℕ)). IsKept (marked_texts marks z) marks (ended_from [] input) (rest_from [] input)) (sym (texts-parts input))
    (lines_kept marks (ended_from [] input) (rest_from [] input) are.0 are.1)

lines_of-kept : (marks : List Bool) (input : List ℕ) → lines_of (marked_texts marks (line_texts input)) ≡ kept marks (lines_of input)
lines_of-kept marks input =
    lines_of-parts (marked_texts marks (line_texts input)) ∙ (kept_input marks input).bare ∙ ap (kept marks) (sym (lines_of-parts input))

line_texts-kept : (marks : List Bool) (input : List ℕ) → line_texts (marked_texts marks (line_texts input)) ≡ kept marks (line_texts input)
line_texts-kept marks input =
    texts-parts (marked_texts marks (line_texts input)) ∙ (kept_input marks input).fed ∙ ap (kept marks) (sym (texts-parts input))

-- ---- the stamps of lines that are kept

later_stamp : Reader → List ℕ → Result LineStamp LineRefusal
later_stamp r line = line_stamp r None false line

later_stamps : (r : Reader) (last : Option ℤ) (lines : List (List ℕ)) → IsOfOneLine r
    → line_stamps r last false lines ≡ map (later_stamp r) lines
unfolding line_stamps later_stamp
later_stamps r last [] one = refl
later_stamps r last (line ∷ lines) one =
    let own = same_stamp r last false line one in
    let more = later_stamps r (decisions.last_of last (line_stamp r last false line)) lines one in
    rw (more, own) refl

-- whether a line begins with a byte order mark
abbrev begins_marked : List ℕ → Bool
begins_marked line = starts_with nat_eq line byte_order_mark

unmarked_stamp : (r : Reader) (last : Option ℤ) (line : List ℕ) → begins_marked line ≡ false
    → line_stamp r last true line ≡ line_stamp r last false line
unfolding has_mark
unmarked_stamp r last line e = rw e refl

unmarked_stamps : (r : Reader) (lines : List (List ℕ)) → IsOfOneLine r → list_any begins_marked lines ≡ false
    → line_stamps r None true lines ≡ map (later_stamp r) lines
unfolding line_stamps later_stamp
unmarked_stamps r [] one none = refl
unmarked_stamps r (line ∷ lines) one none =
    let own = unmarked_stamp r None line (neither (begins_marked line) (list_any begins_marked lines) none).0 in
    let more = later_stamps r (decisions.last_of None (line_stamp r None true line)) lines one in
    rw (more, own) refl

first_kept : (r : Reader) (marks : List Bool) (line : List ℕ) (lines : List (List ℕ)) → IsOfOneLine r → list_any begins_marked lines ≡ false
    → line_stamps r None true (kept marks (line ∷ lines)) ≡ kept marks (line_stamp r None true line ∷ map (later_stamp r) lines)
unfolding line_stamps
first_kept r [] line lines one none = refl
first_kept r (true ∷ marks) line lines one none =
    let own = line_stamp r None true line in
    ap (λ (z : List (Result LineStamp LineRefusal)). own ∷ z)
    (later_stamps r (decisions.last_of None own) (kept marks lines) one ∙ sym (kept-map (later_stamp r) marks lines))
first_kept r (false ∷ marks) line lines one none =
    unmarked_stamps r (kept marks lines) one (kept-any begins_marked marks lines none) ∙ sym (kept-map (later_stamp r) marks lines)

stamps_kept : (r : Reader) (marks : List Bool) (lines : List (List ℕ)) → IsOfOneLine r → list_any begins_marked (drop 1 lines) ≡ false
    → line_stamps r None true (kept marks lines) ≡ kept marks (line_stamps r None true lines)
unfolding line_stamps
stamps_kept r marks [] one none = ap (line_stamps r None true) (kept-none marks) ∙ sym (kept-none marks)
stamps_kept r marks (line ∷ lines) one none =
    let own = line_stamp r None true line in
    first_kept r marks line lines one none
    ∙ ap (λ (z : List (Result LineStamp LineRefusal)). kept marks (own ∷ z)) (sym (later_stamps r (decisions.last_of None own) lines one))

-- ---- the instants of lines that are kept

marked-same : (mark : Bool) (text : List ℕ) (marks others : List Bool) (texts rest : List (List ℕ))
    → marked_texts marks texts ≡ marked_texts others rest
    → marked_texts (mark ∷ marks) (text ∷ texts) ≡ marked_texts (mark ∷ others) (text ∷ rest)
unfolding marked_texts
marked-same true text marks others texts rest e = ap (λ (z : List ℕ). text ++ z) e
marked-same false text marks others texts rest e = e

same_last : (stamp : Result LineStamp LineRefusal) (last other : Option ℤ) (test : Option ℤ → Bool) → (test last ≡ true → other ≡ last)
    → test (decisions.last_of last stamp) ≡ true → decisions.last_of other stamp ≡ decisions.last_of last stamp
same_last (Ok stamp) last other test h e = refl
same_last (Err refusal) last other test h e = h e

-- whether an instant passes two tests
abbrev both : (Option ℤ → Bool) → (Option ℤ → Bool) → Option ℤ → Bool
both test other last = test last && other last

-- the lines that pass a test, and the second one among those that pass the first
second_cut : (test other : Option ℤ → Bool) (last known : Option ℤ) (stamps : List (Result LineStamp LineRefusal)) (texts : List (List ℕ))
    → (test last ≡ true → known ≡ last)
    → let marks = map test (instants_up_to last stamps) in
    marked_texts (map other (instants_up_to known (kept marks stamps))) (kept marks texts)
    ≡ marked_texts (map (both test other) (instants_up_to last stamps)) texts
unfolding instants_up_to marked_texts
second_cut test other last known [] texts h = refl
second_cut test other last known (stamp ∷ stamps) [] h =
    let marks = map test (instants_up_to last (stamp ∷ stamps)) in
    marked-none (map other (instants_up_to known (kept marks (stamp ∷ stamps))))
    ∙ sym (marked-none (map (both test other) (instants_up_to last (stamp ∷ stamps))))
second_cut test other last known (stamp ∷ stamps) (text ∷ texts) h =
    let own = decisions.last_of last stamp in
    elim (cases_Bool (test own)) [
      | inl e ↦
          let same = same_last stamp last known test h e in
          let more = second_cut test other own own stamps texts (λ (z : test own ≡ true). refl) in
          rw (e, same) (marked-same (other own) text _ _ _ _ more)
      | inr e ↦
          let more = second_cut test other own known stamps texts (λ (z : test own ≡ true). absurd cc) in
          rw e more
    ]

-- ---- one cut of what another one writes

pub twice : (first second : Action) (test other : Option ℤ → Bool) → Cuts first test → Cuts second other → (r : Reader) (input : List ℕ)
    → IsOfOneLine r → HasNoOtherMark input
    → cut_by r second (cut_by r first input) ≡ marked_texts (map (both test other) (instants_up_to None (stamps_of r input))) (line_texts input)
twice first second test other c d r input one none =
    let marks = map test (instants_up_to None (stamps_of r input)) in
    let part = marked_texts marks (line_texts input) in
    ap (cut_by r second) (cut_text first test c r input)
    ∙ cut_text second other d r part
    ∙ ap (λ (z : List (List ℕ)). marked_texts (map other (instants_up_to None (line_stamps r None true z))) (line_texts part)) (lines_of-kept marks input)
    ∙ ap (λ (z : List (List ℕ)). marked_texts (map other (instants_up_to None (line_stamps r None true (kept marks (lines_of input))))) z)
    (line_texts-kept marks input)
    ∙ ap (λ (z : List (Result LineStamp LineRefusal)). marked_texts (map other (instants_up_to None z)) (kept marks (line_texts input)))
    (stamps_kept r marks (lines_of input) one none)
    ∙ second_cut test other None None (stamps_of r input) (line_texts input) (λ (z : test None ≡ true). refl)

map-same : (test other : Option ℤ → Bool) (xs : List (Option ℤ)) → ((x : Option ℤ) → test x ≡ other x) → map test xs ≡ map other xs
map-same test other [] h = refl
map-same test other (x ∷ xs) h = rw (h x, map-same test other xs h) refl

swapped : (a b : Bool) → (a && b) ≡ (b && a)
swapped true true = refl
swapped true false = refl
swapped false true = refl
swapped false false = refl

is_both : (from to : ℤ) (last : Option ℤ) → both (is_since from) (is_until to) last ≡ is_between from to last
unfolding is_between
is_both from to last = refl

is_both_swapped : (from to : ℤ) (last : Option ℤ) → both (is_until to) (is_since from) last ≡ is_between from to last
unfolding is_between
is_both_swapped from to last = swapped (is_until to last) (is_since from last)

-- what the tests of both cuts mark, `between` writes
by_between : (from to : ℤ) (test : Option ℤ → Bool) (r : Reader) (input : List ℕ) → ((last : Option ℤ) → test last ≡ is_between from to last)
    → marked_texts (map test (instants_up_to None (stamps_of r input))) (line_texts input) ≡ cut_by r (Between from to) input
by_between from to test r input h =
    ap (λ (z : List Bool). marked_texts z (line_texts input)) (map-same test (is_between from to) (instants_up_to None (stamps_of r input)) h)
    ∙ sym (cut_text (Between from to) (is_between from to) (between_cuts from to) r input)

pub until_of_since : (r : Reader) (from to : ℤ) (input : List ℕ) → IsOfOneLine r → HasNoOtherMark input
    → cut_by r (Until to) (cut_by r (Since from) input) ≡ cut_by r (Between from to) input
until_of_since r from to input one none =
    twice (Since from) (Until to) (is_since from) (is_until to) (since_cuts from) (until_cuts to) r input one none
    ∙ by_between from to (both (is_since from) (is_until to)) r input (is_both from to)

pub since_of_until : (r : Reader) (from to : ℤ) (input : List ℕ) → IsOfOneLine r → HasNoOtherMark input
    → cut_by r (Since from) (cut_by r (Until to) input) ≡ cut_by r (Between from to) input
since_of_until r from to input one none =
    twice (Until to) (Since from) (is_until to) (is_since from) (until_cuts to) (since_cuts from) r input one none
    ∙ by_between from to (both (is_until to) (is_since from)) r input (is_both_swapped from to)
