-- A line is decided by its first bytes, and what follows them goes on or is left out.
use Rattle.std.proofs.Common.{◌≡◌, ℕ, ◌+◌, ◌-◌, ◌≤◌, ◌<◌, Bool, true, false, cond, nat_eq, List, [], ◌∷◌, ◌++◌, length, length-append, take, drop, Option}
use Rattle.std.proofs.Common.{Some, None, Result, Ok, Err, ℤ}
use Rattle.std.proofs.Common.{inl, inr, refl, sym, ap, subst, ◌∙◌, arith, append_assoc, append-nil}
use Rattle.std.specs.Prelude.{⊤, IfOk, is_ok, ◌&&◌, ◌-ℤ◌, int_lt, nat_le, if◌then◌else◌, slice_get}
use Rattle.std.specs.Result.{result_map_both}
use Rattle.std.proofs.lemmas.Bool.{cases_Bool}
use Rattle.std.proofs.lemmas.Bool.Decides.{Decides-eqb, nat_tests}
use Rattle.std.proofs.lemmas.List.{length-drop, length-take, take_all, take-append-le, drop-append-le}
use Rattle.std.proofs.lemmas.Bool.{and_parts, false≢true}
use Rattle.std.proofs.lemmas.Option.{slice_get_within}
use Rattle.std.proofs.lemmas.Slice.Eq.{starts_is}
use Rattle.std.specs.Cmp.Lexicographic.{pointwise}
use Rattle.std.specs.List.{starts_with}
use Rattle.offset_times.specs.Local.{Local, instant_of}
use Rattle.rfc3339.specs.Meaning.{meaning}
use Rattle.rfc3339.specs.Reading.{front_at}
use Rattle.rfc3339.specs.declared.parts.Parts.{Parts}
use Rattle.rfc3339.specs.declared.refusal.TextRefusal.{TextRefusal}
use Rattle.rfc3339.specs.declared.refusal.TextRefusal.TheVariants.{Syntax}
use Rattle.rfc3339.specs.declared.refusal.TextRefusal.TheVariants as text
use Rattle.stamps.specs.Decisions.{as_it_is, with_text, rewritten, is_earlier, stop_if, check_line, gap_after, gap_line, going_on, cause_of, is_first, as_note}
use Rattle.stamps.specs.Changes.{choice_after, reader_by, tried, with_one_more}
use Rattle.stamps.specs.Decisions.{decision_by, decision_of, line_kind, one_more, stamp_after, state_by, state_after}
use Rattle.stamps.specs.Zoned.{zone_of}
use Rattle.stamps.specs.ZonedLemmas.{assumed_stamp-longer, assumed_stamp-within}
use Rattle.stamps.specs.LineStamps.{byte_order_mark, ends, front_stamp, has_mark, longest_head, mark_length, stamp, stamp_of}
use Rattle.line_devices.specs.StampTallyLemmas.{kind_of-longer}
use Rattle.line_devices.specs.declared.stamp_tallies.LineKind.{LineKind}
use Rattle.line_devices.specs.declared.stamp_tallies.LineKind.TheVariants.{Stamped, Bare, Continued, Empty, Long}
use Rattle.stamps.specs.declared.changes.Anew.{Anew}
use Rattle.stamps.specs.declared.changes.Choice.{Choice}
use Rattle.log_forms.specs.WithinLemmas as forms
use Rattle.log_forms.specs.Years.{assumed_after}
use Rattle.log_forms.specs.declared.places.Place.{Place}
use Rattle.log_forms.specs.declared.stamps.Stamp as formed
use Rattle.log_forms.specs.declared.stamps.StampRefusal.{StampRefusal}
use Rattle.log_forms.specs.declared.stamps.StampRefusal.TheVariants as form
use Rattle.stamps.specs.Notes.{note_text}
use Rattle.stamps.specs.Progress.{to_send, progress_of}
use Rattle.stamps.specs.Runs.{Run, run, then_on, output_of, line_feed, known_after, known_at_end, line_run, last_run}
use Rattle.stamps.specs.StampTexts.{stamp_text}
use Rattle.stamps.specs.declared.decide.Decision.{Decision}
use Rattle.stamps.specs.declared.decide.Decision.TheVariants.{Keep, Skip, Stop, Tell}
use Rattle.stamps.specs.declared.decide.Stamp.{Stamp}
use Rattle.stamps.specs.declared.decide.State.{State}
use Rattle.stamps.specs.declared.finding.Cause.{Cause}
use Rattle.stamps.specs.declared.finding.Cause.TheVariants.{Missing, NoText, Earlier}
use Rattle.stamps.specs.declared.finding.Finding.{Finding}
use Rattle.stamps.specs.declared.finding.Finding.TheVariants.{Line}
use Rattle.stamps.specs.declared.notes.Note.TheVariants.{Gap}
use Rattle.stamps.specs.LineInstantLemmas.{formed_at-longer}
use Rattle.stamps.specs.Readers.{form_stamp, formed_at, in_line, is_json, is_quote, json_kind, line_stamp, plain_at, stamp_behind, value_kind}
use Rattle.stamps.specs.declared.readers.LineRefusal.{LineRefusal}
use Rattle.stamps.specs.declared.readers.LineRefusal.TheVariants.{Absent, OutOfRange, Part}
use Rattle.stamps.specs.declared.readers.LineStamp.{LineStamp}
use Rattle.stamps.specs.declared.readers.Reader.{Reader}
use Rattle.stamps.specs.declared.readers.Reader.TheVariants.{Plain, Formed}
use Rattle.stamps.specs.declared.readers.ValueKind.{ValueKind}
use Rattle.stamps.specs.declared.readers.ValueKind.TheVariants.{Number, Quoted, Other}
use Rattle.stamps.specs.declared.task.Action.{Action}
use Rattle.stamps.specs.declared.task.Action.TheVariants.{Write, Check, CheckAll, Gaps, Since, Until, Between}
use Rattle.stamps.specs.declared.task.Style.{Style}
use Rattle.stamps.specs.declared.task.Task.{Task}
use Rattle.stamps.proofs.RunLemmas.{run_from, then_on-text}

-- a text of no more bytes than are looked at for a stamp
pub front_whole : (text : List ℕ) → length text ≤ 65533 → text ≡ take 65533 text
front_whole text short = sym (take_all 65533 text short)

pub ruleset fronts = (front_whole)

-- a line of no more bytes than choose a form
pub beginning_whole : (line : List ℕ) → length line ≤ 1024 → line ≡ take 1024 line
beginning_whole line short = sym (take_all 1024 line short)

pub ruleset beginnings = (beginning_whole)

-- ---- a byte order mark

-- a line with a byte order mark is that mark, and what stands behind it
pub mark_and_rest : (is_first : Bool) (line : List ℕ) → has_mark is_first line ≡ true → line ≡ byte_order_mark ++ drop 3 line
unfolding has_mark
mark_and_rest is_first line e =
    (starts_is Decides-eqb line byte_order_mark (starts_with nat_eq line byte_order_mark) refl).0
    (and_parts is_first (starts_with nat_eq line byte_order_mark) e).1

pub mark_long : (is_first : Bool) (line : List ℕ) → has_mark is_first line ≡ true → 3 ≤ length line
mark_long is_first line e = omega (arith, ap (length {A = ℕ}) (mark_and_rest is_first line e), length-append byte_order_mark (drop 3 line))

has_mark-longer : (is_first : Bool) (line part : List ℕ) → 3 ≤ length line → has_mark is_first (line ++ part) ≡ has_mark is_first line
unfolding has_mark
has_mark-longer is_first line part long =
    ap (λ (z : List ℕ). is_first && pointwise nat_eq byte_order_mark z) (take-append-le 3 line part long)

mark_length-within : (marked : Bool) (line : List ℕ) → (marked ≡ true → 3 ≤ length line) → mark_length marked ≤ length line
mark_length-within true line h = h refl
mark_length-within false line h = omega arith

pub mark-within : (is_first : Bool) (line : List ℕ) → mark_length (has_mark is_first line) ≤ length line
mark-within is_first line = mark_length-within (has_mark is_first line) line (mark_long is_first line)

mark_length-short : (marked : Bool) → mark_length marked ≤ 3
mark_length-short true = omega arith
mark_length-short false = omega arith

-- ---- the bytes of a stamp stand in the line

abbrev StampWithin : Result Stamp TextRefusal → ℕ → Type 0
StampWithin (Ok stamp) most = stamp.length ≤ most
StampWithin (Err refusal) most = ⊤

-- a stamp ends within so many bytes of its line
abbrev pub LineStampWithin : Result LineStamp LineRefusal → ℕ → Type 0
LineStampWithin found most = IfOk found (λ stamp. stamp.start + stamp.length ≤ most)

-- the bytes that are kept in front and those that go stand in the line
abbrev pub Within : Decision → List ℕ → Type 0
Within (Keep start text count) line = start + count ≤ length line
Within Skip line = ⊤
Within (Tell note) line = ⊤
Within (Stop found) line = ⊤

ended_within : (it_ends : Bool) (m : Result Local TextRefusal) (count most : ℕ) (next : List ℕ) → count ≤ most
    → StampWithin (cond it_ends (result_map_both (λ at. stamp (instant_of at) count next) (λ refusal. refusal) m) (Err Syntax)) most
ended_within false m count most next h = tt
ended_within true (Ok at) count most next h = h
ended_within true (Err refusal) count most next h = tt

front_within : (front : List ℕ) (o : Option (Parts × List ℕ)) (most : ℕ) → length front ≤ most → StampWithin (front_stamp front o) most
front_within front None most h = tt
front_within front (Some read) most h =
    let count = length front - length read.1 in
    let next = drop count front in
    ended_within (ends count next) (meaning read.0) count most next (omega (arith, h))

stamp_within : (text : List ℕ) → StampWithin (stamp_of text) (length text)
unfolding stamp_of
stamp_within text =
    let front = take 65533 text in front_within front (front_at front) (length text) (omega (arith, length-take 65533 text))

plain-within : (before : ℕ) (line : List ℕ) (r : Result Stamp TextRefusal) → before ≤ length line → StampWithin r (length (drop before line))
    → LineStampWithin (plain_at before r) (length line)
plain-within before line (Ok stamp) low h = omega (arith, low, h, length-drop before line)
plain-within before line (Err Syntax) low h = tt
plain-within before line (Err (text.OutOfRange component)) low h = tt

-- the bytes of a value that is a text stand in the line with its quotes
abbrev KindWithin : ValueKind → formed.Stamp → ℕ → Type 0
KindWithin Number stamp most = ⊤
KindWithin Quoted stamp most = (1 ≤ stamp.start) × (stamp.start + stamp.length < most)
KindWithin Other stamp most = ⊤

quote_within : (text : List ℕ) (place : ℕ) (o : Option ℕ) → slice_get text place ≡ o → is_quote o ≡ true → place < length text
quote_within text place None e h = absurd (false≢true h)
quote_within text place (Some byte) e h = slice_get_within text place byte e

json_kind-within : (line : List ℕ) (stamp : formed.Stamp) → KindWithin (json_kind (take 65533 line) stamp) stamp (length line)
json_kind-within line stamp =
    let front = take 65533 line in
    let behind = stamp.start + stamp.length in
    elim (cases_Bool (nat_eq stamp.start 0)) [
      | inl t ↦ rw t tt
      | inr t ↦
          elim (cases_Bool (is_quote (slice_get front (stamp.start - 1)))) [
            | inl u ↦
                elim (cases_Bool (is_quote (slice_get front behind))) [
                  | inl v ↦
                      let some : 1 ≤ stamp.start = grind (arith, nat_tests) in
                      let low = quote_within front behind (slice_get front behind) refl v in
                      rw (t, u, v) (some, omega (arith, low, length-take 65533 line))
                  | inr v ↦ rw (t, u, v) tt
                ]
            | inr u ↦ rw (t, u) tt
          ]
    ]

value_kind-within : (place : Place) (line : List ℕ) (stamp : formed.Stamp) → KindWithin (value_kind place line stamp) stamp (length line)
value_kind-within place line stamp = either (is_json place) where
  either : (b : Bool) → KindWithin (cond b (json_kind (take 65533 line) stamp) Other) stamp (length line)
  either true = json_kind-within line stamp
  either false = tt

in_line-within : (before count most : ℕ) (kind : ValueKind) (stamp : formed.Stamp) → KindWithin kind stamp count → stamp.start + stamp.length ≤ count
    → before + count ≤ most → LineStampWithin (Ok (in_line before kind stamp)) most
in_line-within before count most Number stamp k h low = omega (arith, h, low)
in_line-within before count most Quoted stamp k h low = omega (arith, k.0, k.1, low)
in_line-within before count most Other stamp k h low = omega (arith, h, low)

formed-within : (before : ℕ) (place : Place) (line : List ℕ) (r : Result formed.Stamp StampRefusal) → before ≤ length line
    → forms.StampWithin r (length (drop before line)) → LineStampWithin (formed_at before place (drop before line) r) (length line)
formed-within before place line (Ok stamp) low h =
    let text = drop before line in
    in_line-within before (length text) (length line) (value_kind place text stamp) stamp (value_kind-within place text stamp) h
    (omega (arith, low, length-drop before line))
formed-within before place line (Err form.Absent) low h = tt
formed-within before place line (Err (form.Part refusal)) low h = tt

behind-within : (reader : Reader) (last : Option ℤ) (before : ℕ) (line : List ℕ) → before ≤ length line
    → LineStampWithin (stamp_behind reader last before (drop before line)) (length line)
behind-within Plain last before line low =
    plain-within before line (stamp_of (drop before line)) low (stamp_within (drop before line))
behind-within (Formed by) last before line low =
    formed-within before by.place line (form_stamp by last (drop before line)) low
    (assumed_stamp-within (zone_of by) by (assumed_after by.assumed last) (drop before line))

pub line_stamp-within : (reader : Reader) (last : Option ℤ) (is_first : Bool) (line : List ℕ)
    → LineStampWithin (line_stamp reader last is_first line) (length line)
line_stamp-within reader last is_first line =
    behind-within reader last (mark_length (has_mark is_first line)) line (mark-within is_first line)

as_it_is-within : (is_strict : Bool) (number : ℕ) (cause : Cause) (line : List ℕ) → Within (as_it_is is_strict number cause) line
as_it_is-within true number cause line = tt
as_it_is-within false number cause line = omega arith

with_text-within : (is_strict : Bool) (number : ℕ) (stamp : LineStamp) (text : Option (List ℕ)) (line : List ℕ)
    → stamp.start + stamp.length ≤ length line → Within (with_text is_strict number stamp text) line
with_text-within is_strict number stamp (Some text) line h = h
with_text-within is_strict number stamp None line h = as_it_is-within is_strict number NoText line

stop_or-within : (fails : Bool) (found : Finding) (decision : Decision) (line : List ℕ) → Within decision line → Within (cond fails (Stop found) decision) line
stop_or-within true found decision line h = tt
stop_or-within false found decision line h = h

rewritten-within : (style : Style) (is_strict : Bool) (number : ℕ) (stamp : Result LineStamp LineRefusal) (line : List ℕ)
    → LineStampWithin stamp (length line) → Within (rewritten style is_strict number stamp) line
rewritten-within style is_strict number (Ok stamp) line h =
    stop_or-within (is_strict && stamp.is_zoned) _ (with_text is_strict number stamp (stamp_text style stamp)) line
    (with_text-within is_strict number stamp (stamp_text style stamp) line h)
rewritten-within style is_strict number (Err refusal) line h = as_it_is-within is_strict number (cause_of refusal) line

stop_if-within : (fails : Bool) (number : ℕ) (cause : Cause) (line : List ℕ) → Within (stop_if fails number cause) line
stop_if-within true number cause line = tt
stop_if-within false number cause line = tt

check_line-within : (is_strict : Bool) (number : ℕ) (last : Option ℤ) (stamp : Result LineStamp LineRefusal) (line : List ℕ)
    → Within (check_line is_strict number last stamp) line
check_line-within is_strict number last (Ok stamp) line = stop_if-within (is_earlier stamp.instant last) number Earlier line
check_line-within is_strict number last (Err Absent) line = stop_if-within is_strict number Missing line
check_line-within is_strict number last (Err (OutOfRange component)) line = tt
check_line-within is_strict number last (Err (Part refusal)) line = tt

as_note-within : (decision : Decision) (line : List ℕ) → Within decision line → Within (as_note decision) line
as_note-within (Keep start text count) line h = h
as_note-within Skip line h = h
as_note-within (Tell note) line h = h
as_note-within (Stop found) line h = h

gap_after-within : (limit : ℤ) (is_strict : Bool) (number : ℕ) (before i : ℤ) (line : List ℕ)
    → Within (gap_after limit is_strict number before i) line
gap_after-within limit is_strict number before i line =
    elim (is_strict && int_lt i before) as (λ s. Within (cond s (Stop (Line number Earlier)) (cond (int_lt limit (i -ℤ before)) (Tell (Gap number before i))
    Skip)) line) [
      | true ↦ tt
      | false ↦ elim (int_lt limit (i -ℤ before)) as (λ t. Within (cond t (Tell (Gap number before i)) Skip) line) [ true ↦ tt | false ↦ tt ]
    ]

gap_line-within : (limit : ℤ) (is_strict : Bool) (number : ℕ) (last : Option ℤ) (stamp : Result LineStamp LineRefusal) (line : List ℕ)
    → Within (gap_line limit is_strict number last stamp) line
gap_line-within limit is_strict number (Some before) (Ok stamp) line = gap_after-within limit is_strict number before stamp.instant line
gap_line-within limit is_strict number None (Ok stamp) line = tt
gap_line-within limit is_strict number (Some before) (Err refusal) line = stop_if-within is_strict number (cause_of refusal) line
gap_line-within limit is_strict number None (Err refusal) line = stop_if-within is_strict number (cause_of refusal) line

going_on-within : (b : Bool) (line : List ℕ) → Within (going_on b) line
going_on-within true line = omega arith
going_on-within false line = tt

decision_by-within : (action : Action) (last latest : Option ℤ) (after : State) (stamp : Result LineStamp LineRefusal) (line : List ℕ)
    → LineStampWithin stamp (length line) → Within (decision_by action last latest after stamp) line
decision_by-within (Write style is_strict) last latest after stamp line h = rewritten-within style is_strict after.lines stamp line h
decision_by-within (Check is_strict) last latest after stamp line h = check_line-within is_strict after.lines last stamp line
decision_by-within (CheckAll is_strict) last latest after stamp line h =
    as_note-within (check_line is_strict after.lines last stamp) line (check_line-within is_strict after.lines last stamp line)
decision_by-within (Gaps limit is_strict) last latest after stamp line h = gap_line-within limit is_strict after.lines latest stamp line
decision_by-within (Since bound) last latest after stamp line h = going_on-within after.goes_on line
decision_by-within (Until bound) last latest after stamp line h = going_on-within after.goes_on line
decision_by-within (Between from to) last latest after stamp line h = going_on-within after.goes_on line

pub decision_of-within : (task : Task) (state : State) (line : List ℕ) → Within (decision_of task state line) line
unfolding decision_of
decision_of-within task state line =
    let stamp = stamp_after task state line in
    decision_by-within task.action state.last state.latest (state_by task state line (line_kind line stamp) stamp) stamp line
    (line_stamp-within (reader_by task.anew state.choice.own task.reader) state.last (is_first state) line)

within_is : (decision : Decision) (start : ℕ) (text : List ℕ) (count : ℕ) (line : List ℕ) → Keep start text count ≡ decision
    → Within decision line → start + count ≤ length line
within_is (Keep n shown m) start text count line e h =
    let same : n ≡ start = cc in
    let number : m ≡ count = cc in
    rw (same, number) at h
within_is Skip start text count line e h = absurd cc
within_is (Tell note) start text count line e h = absurd cc
within_is (Stop found) start text count line e h = absurd cc

-- as a line is decided, its stamp stands in it
pub kept_within : (task : Task) (state : State) (line text : List ℕ) (start count : ℕ)
    → Keep start text count ≡ decision_of task state line → start + count ≤ length line
kept_within task state line text start count e =
    within_is (decision_of task state line) start text count line e (decision_of-within task state line)

-- the decision on a line, by its stamp and the state after it
pub decision_of-read : (task : Task) (state after : State) (line : List ℕ) (stamp : Result LineStamp LineRefusal)
    → stamp ≡ stamp_after task state line → after ≡ state_after task state line
    → decision_by task.action state.last state.latest after stamp ≡ decision_of task state line
unfolding decision_of state_after
decision_of-read task state after line stamp e h = rw (h, e) refl

-- ---- more bytes behind those that decide change nothing

stamp_of-longer : (text part : List ℕ) → 65533 ≤ length text → stamp_of (text ++ part) ≡ stamp_of text
unfolding stamp_of
stamp_of-longer text part long =
    ap (λ (z : List ℕ). front_stamp z (front_at z)) (take-append-le 65533 text part long)

behind-longer : (reader : Reader) (last : Option ℤ) (before : ℕ) (text part : List ℕ) → 65533 ≤ length text
    → stamp_behind reader last before (text ++ part) ≡ stamp_behind reader last before text
behind-longer Plain last before text part long = ap (plain_at before) (stamp_of-longer text part long)
behind-longer (Formed by) last before text part long =
    formed_at-longer before by.place text part (form_stamp by last (text ++ part)) long
    ∙ ap (formed_at before by.place text) (assumed_stamp-longer (zone_of by) by (assumed_after by.assumed last) text part long)

-- the stamp is the same
line_stamp-longer : (reader : Reader) (last : Option ℤ) (is_first : Bool) (line part : List ℕ) → longest_head ≤ length line
    → line_stamp reader last is_first (line ++ part) ≡ line_stamp reader last is_first line
line_stamp-longer reader last is_first line part long =
    let before = mark_length (has_mark is_first line) in
    let short = mark_length-short (has_mark is_first line) in
    let text = drop before line in
    let most : 65533 ≤ length text = omega (arith, long, short, length-drop before line) in
    ap (λ (z : Bool). stamp_behind reader last (mark_length z) (drop (mark_length z) (line ++ part)))
    (has_mark-longer is_first line part (omega (arith, long)))
    ∙ ap (stamp_behind reader last before) (drop-append-le before line part (omega (arith, long, short)))
    ∙ behind-longer reader last before text part most

-- and so is its kind
line_kind-longer : (line part : List ℕ) (stamp : Result LineStamp LineRefusal) → longest_head ≤ length line
    → line_kind (line ++ part) stamp ≡ line_kind line stamp
line_kind-longer line part stamp long = kind_of-longer line part (is_ok stamp) long

-- the choice is the same
choice_after-longer : (anew : Option Anew) (choice : Choice) (number : ℕ) (kind : LineKind) (line part : List ℕ) → longest_head ≤ length line
    → choice_after anew choice number kind (line ++ part) ≡ choice_after anew choice number kind line
choice_after-longer anew choice number Stamped line part long = refl
choice_after-longer anew choice number Continued line part long = refl
choice_after-longer anew choice number Empty line part long = refl
choice_after-longer None choice number Bare line part long = refl
choice_after-longer (Some anew) choice number Bare line part long =
    let next = with_one_more choice in
    ap (λ (front : List ℕ). if nat_le next.wait next.row then tried anew next number front else next)
    (take-append-le 1024 line part (omega (arith, long)))
choice_after-longer None choice number Long line part long = refl
choice_after-longer (Some anew) choice number Long line part long =
    let next = with_one_more choice in
    ap (λ (front : List ℕ). if nat_le next.wait next.row then tried anew next number front else next)
    (take-append-le 1024 line part (omega (arith, long)))

-- and so is the state
state_by-longer : (task : Task) (state : State) (line part : List ℕ) → longest_head ≤ length line
    → let longer = stamp_after task state (line ++ part) in
    let stamp = stamp_after task state line in
    state_by task state (line ++ part) (line_kind (line ++ part) longer) longer ≡ state_by task state line (line_kind line stamp) stamp
state_by-longer task state line part long =
    let stamp = stamp_after task state line in
    ap (λ (s : Result LineStamp LineRefusal). state_by task state (line ++ part) (line_kind (line ++ part) s) s)
    (line_stamp-longer (reader_by task.anew state.choice.own task.reader) state.last (is_first state) line part long)
    ∙ ap (λ (kind : LineKind). state_by task state (line ++ part) kind stamp) (line_kind-longer line part stamp long)
    ∙ ap (λ (choice : Choice). record (state_by task state line (line_kind line stamp) stamp) { choice = choice })
    (choice_after-longer task.anew state.choice (one_more state.lines) (line_kind line stamp) line part long)

pub decision_of-longer : (task : Task) (state : State) (line part : List ℕ) → longest_head ≤ length line
    → decision_of task state (line ++ part) ≡ decision_of task state line
unfolding decision_of
decision_of-longer task state line part long =
    let longer = stamp_after task state (line ++ part) in
    let stamp = stamp_after task state line in
    ap (λ (after : State). decision_by task.action state.last state.latest after longer) (state_by-longer task state line part long)
    ∙ ap (λ (s : Result LineStamp LineRefusal). decision_by task.action state.last state.latest (state_by task state line (line_kind line stamp) stamp) s)
    (line_stamp-longer (reader_by task.anew state.choice.own task.reader) state.last (is_first state) line part long)

pub state_after-longer : (task : Task) (state : State) (line part : List ℕ) → longest_head ≤ length line
    → state_after task state (line ++ part) ≡ state_after task state line
unfolding state_after
state_after-longer task state line part long = state_by-longer task state line part long

output_of-more : (decision : Decision) (line part : List ℕ) → Within decision line
    → output_of decision (line ++ part) ≡ output_of decision line ++ to_send (progress_of decision) part
output_of-more (Keep start text count) line part h =
    let rest = drop (start + count) line in
    ap (λ (z : List ℕ). z ++ (text ++ drop (start + count) (line ++ part))) (take-append-le start line part (omega (arith, h)))
    ∙ ap (λ (z : List ℕ). take start line ++ (text ++ z)) (drop-append-le (start + count) line part h)
    ∙ ap (λ (z : List ℕ). take start line ++ z) (sym (append_assoc text rest part)) ∙ sym (append_assoc (take start line) (text ++ rest) part)
output_of-more Skip line part h = refl
output_of-more (Tell note) line part h = sym (append-nil (note_text note))
output_of-more (Stop found) line part h = refl

-- what is sent of a longer line
pub output_of-longer : (task : Task) (state : State) (line part : List ℕ) → longest_head ≤ length line
    → output_of (decision_of task state (line ++ part)) (line ++ part)
    ≡ output_of (decision_of task state line) line ++ to_send (progress_of (decision_of task state line)) part
output_of-longer task state line part long =
    ap (λ (z : Decision). output_of z (line ++ part)) (decision_of-longer task state line part long)
    ∙ output_of-more (decision_of task state line) line part (decision_of-within task state line)

-- ---- what begins with a line that is decided

-- the run begins with what is shown of the line, or ends at it
pub record Continues (task : Task) (state : State) (line more : List ℕ) : Type 0 where
  pub rest : List ℕ
  pub begins : (run_from task state line more).text ≡ output_of (decision_of task state line) line ++ rest
  pub stops : (found : Finding) → decision_of task state line ≡ Stop found → run_from task state line more ≡ run [] (Err found)

-- a line as it ends the run
stops_at : (task : Task) (decision : Decision) (found : Finding) (line : List ℕ) (state : State) → decision ≡ Stop found
    → run (output_of decision line) (known_at_end task (known_after decision state)) ≡ run [] (Err found)
stops_at task decision found line state e = ap (λ (z : Decision). run (output_of z line) (known_at_end task (known_after z state))) e

stops_before : (decision : Decision) (found : Finding) (line : List ℕ) (state : State) (next : State → Run) → decision ≡ Stop found
    → then_on (output_of decision line ++ line_feed decision) (known_after decision state) next ≡ run [] (Err found)
stops_before decision found line state next e =
    ap (λ (z : Decision). then_on (output_of z line ++ line_feed z) (known_after z state) next) e

pub last_run-some : (task : Task) (state : State) (line : List ℕ) → 0 < length line → last_run task state line
    ≡ run (output_of (decision_of task state line) line) (known_at_end task (known_after (decision_of task state line) (state_after task state line)))
unfolding last_run
last_run-some task state [] some = absurd (omega (arith, some))
last_run-some task state (byte ∷ line) some = refl

-- the input ends
pub continues_end : (task : Task) (state : State) (line : List ℕ) → 0 < length line → Continues task state line []
continues_end task state line some =
    let last = last_run-some task state line some in
    record {
      rest = [];
      begins = ap (λ (z : Run). z.text) last ∙ sym (append-nil (output_of (decision_of task state line) line));
      stops = λ found e. last ∙ stops_at task (decision_of task state line) found line (state_after task state line) e;
    }

-- a line feed comes
pub continues_line : (task : Task) (state : State) (line more : List ℕ) → Continues task state line (10 ∷ more)
unfolding line_run
continues_line task state line more =
    let decision = decision_of task state line in
    let known = known_after decision (state_after task state line) in
    let next = λ (after : State). run_from task after [] more in
    let front = then_on-text (output_of decision line ++ line_feed decision) known next in
    record {
      rest = line_feed decision ++ front.0;
      begins = front.1 ∙ append_assoc (output_of decision line) (line_feed decision) front.0;
      stops = λ found e. stops_before decision found line (state_after task state line) next e;
    }

-- another byte comes behind those that decide
continues_byte : (task : Task) (state : State) (line more : List ℕ) (byte : ℕ) → longest_head ≤ length line
    → Continues task state (line ++ byte ∷ []) more → run_from task state line (byte ∷ more) ≡ run_from task state (line ++ byte ∷ []) more
    → Continues task state line (byte ∷ more)
continues_byte task state line more byte long h same = record {
  rest = to_send (progress_of (decision_of task state line)) (byte ∷ []) ++ h.rest;
  begins = ap (λ (z : Run). z.text) same ∙ h.begins ∙ ap (λ (z : List ℕ). z ++ h.rest) (output_of-longer task state line (byte ∷ []) long)
      ∙ append_assoc (output_of (decision_of task state line) line) (to_send (progress_of (decision_of task state line)) (byte ∷ [])) h.rest;
  stops = λ found e. same ∙ h.stops found (decision_of-longer task state line (byte ∷ []) long ∙ e);
}

-- what was read of the line decides what becomes of it
pub continues_long : (task : Task) (state : State) (line more : List ℕ) → longest_head ≤ length line → Continues task state line more
continues_long task state line [] long = continues_end task state line (omega (arith, long))
continues_long task state line (byte ∷ more) long =
    elim (cases_Bool (nat_eq byte 10)) [
      | inl t ↦
          let is : byte ≡ 10 = grind (arith, nat_tests) in
          subst (λ (b : ℕ). Continues task state line (b ∷ more)) (sym is) (continues_line task state line more)
      | inr t ↦
          let more_long : longest_head ≤ length (line ++ byte ∷ []) = omega (arith, long, length-append line (byte ∷ [])) in
          continues_byte task state line more byte long (continues_long task state (line ++ byte ∷ []) more more_long) (rw t refl)
    ]
