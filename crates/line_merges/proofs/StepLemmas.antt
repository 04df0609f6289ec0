-- The steps of a merge.
use Rattle.std.proofs.Common.{◌≡◌, ◌≢◌, ℕ, ◌+◌, ◌-◌, ◌^◌, ◌<◌, ◌≤◌, Bool, true, false, min, not, List, [], ◌∷◌, ◌++◌, length, Option, Some, None}
use Rattle.std.proofs.Common.{Result, Ok, Err, refl, sym, ap, subst, ◌∙◌, inl, inr, arith, append_assoc, append-nil, length-append}
use Rattle.std.specs.Io.KnownBytes.{Appends, Consumes}
use Rattle.std.specs.Option.{option_map}
use Rattle.std.specs.Prelude.{All, IsErrAnd}
use Rattle.std.proofs.lemmas.Bool.{cases_Bool}
use Rattle.std.proofs.lemmas.List.Elements.{All-cons, All-nil}
use Rattle.line_devices.specs.Device.{Devices, devices}
use Rattle.line_devices.specs.InputLemmas.{Consumes-append}
use Rattle.line_devices.specs.Writing.{AppendsBeginning, Sends}
use Rattle.line_devices.specs.WritingLemmas.{Sends-append, Appends-flushed, AppendsBeginning-flushed, AppendsBeginning-longer}
use Rattle.line_merges.proofs.ExistLemmas.{merge_exists, merge_from}
use Rattle.line_merges.proofs.LineLemmas.{ended-none, first_line, lines_from-first, lines_from-nil}
use Rattle.line_merges.proofs.MergeLemmas.{IsMerge-same, behind-other, behind-rest, merges-keep}
use Rattle.line_merges.proofs.NextLemmas.{IsAfter, after_feed, after_none, next_first, next_forward, next_instant, next_kind, next_lines}
use Rattle.line_merges.proofs.NextLemmas.{next_memory, next_some, rest_behind}
use Rattle.line_merges.proofs.ReadLemmas.{Sends-pending, at_end_later, fails_later}
use Rattle.line_merges.proofs.StateLemmas.{at_each, put, put-other, put-same}
use Rattle.line_merges.proofs.TextLemmas.{NoneBack-line, merge_text-line, merge_text-more, open_after-line}
use Rattle.line_merges.specs.Choices.{IsNext}
use Rattle.line_merges.specs.Instants.{LogReading, is_before, reading_from}
use Rattle.line_merges.specs.Laws.{own_lines}
use Rattle.line_merges.specs.LineFronts.{behind_line, feed_if, front_line, has_line_feed}
use Rattle.line_merges.specs.Lines.{Line, first_place, lines_from, log_lines, place_after, place_after_lines}
use Rattle.line_merges.specs.Lines.{reading_after, reading_after_lines}
use Rattle.line_merges.specs.Logs.{AppendsFront, Fails, IsAtEndAfter, IsReady, Passed, memory_behind, place_behind}
use Rattle.line_merges.specs.Merges.{IsFirst, IsMerge, behind, merge_text}
use Rattle.line_merges.specs.Runs.{AreRead, IsCut, IsRead, LogState, Merges, Output}
use Rattle.line_merges.specs.Steps.{AreKnown, HasPassed, IsLeft, IsPassed, Leads, Stands, fault_at, front_lines, fronts_of, reading_now}
use Rattle.line_merges.specs.Steps.{readings_now}
use Rattle.line_merges.specs.declared.logs.Front.{Front}
use Rattle.line_merges.specs.declared.logs.LogFault.{LogFault}
use Rattle.line_merges.specs.declared.logs.LogFault.TheVariants as log
use Rattle.line_merges.specs.declared.logs.Place.{Place}
use Rattle.line_merges.specs.declared.merges.MergeFault.{MergeFault}
use Rattle.line_merges.specs.declared.merges.MergeFault.TheVariants as merge

-- the bytes in the buffer of a log
abbrev pub buffer_of : {M : Type 0} → Option (LogState M) → List ℕ
buffer_of None = []
buffer_of (Some log) = log.front.buffer

-- a log that is not read on
pub still_left : {M : Type 0} (log : Option (LogState M)) → IsLeft (option_map (λ (s : LogState M). s.front) log) (buffer_of log)
still_left None = refl
still_left (Some log) = ([], sym (append-nil log.front.buffer), λ _. refl)

pub still_read : {M : Type 0} (instant : LogReading M) (first now : Option (LogState M)) (passed : List ℕ) → HasPassed instant first now passed
    → IsRead first now (passed ++ buffer_of now)
still_read instant None None passed h = ap (λ (z : List ℕ). z ++ []) h
still_read instant None (Some now) passed h = absurd h
still_read instant (Some first) None passed h = absurd h
still_read instant (Some first) (Some now) passed h = h.consumed

-- a log that was read on
more_read : {M : Type 0} (instant : LogReading M) (first was now : Option (LogState M)) (old new : LogState M) (passed more : List ℕ) → was ≡ Some old
    → now ≡ Some new
    → HasPassed instant first was passed → Consumes old.left new.left more → IsRead first now (passed ++ (old.front.buffer ++ more))
more_read {M} instant None was now old new passed more e f h k = absurd (subst (λ (z : Option (LogState M)). HasPassed instant None z passed) e h)
more_read {M} instant (Some first) was now old new passed more e f h k =
    let passed_so = subst (λ (z : Option (LogState M)). HasPassed instant (Some first) z passed) e h in
    subst (λ (z : Option (LogState M)). IsRead (Some first) z (passed ++ (old.front.buffer ++ more))) (sym f)
    (rw (← append_assoc passed old.front.buffer more) (Consumes-append first.left old.left new.left (passed ++ old.front.buffer) more passed_so.consumed k))

-- bytes without a line feed are no line that one ends
lines_unended : {M : Type 0} (instant : LogReading M) (place : Place) (bytes : List ℕ) → has_line_feed bytes ≡ false
    → All (λ line. line.is_ended ≡ false) (lines_from instant place bytes)
lines_unended instant place [] none = rw (lines_from-nil instant place) (All-nil (λ (line : Line). line.is_ended ≡ false))
lines_unended instant place (byte ∷ bytes) none =
    let P : Line → Type 0 = λ line. line.is_ended ≡ false in
    let line = first_line instant place (byte ∷ bytes) in
    rw (
      lines_from-first instant place (byte ∷ bytes) (omega arith),
      (ended-none [] (byte ∷ bytes) none).behind,
      lines_from-nil (reading_after instant line)
          (place_after place line),
    )
    (All-cons P line [] none (All-nil P))

-- a log that was read on, of which nothing more was passed
found_left : {M : Type 0} (old new : LogState M) (more left : List ℕ) → new.front.buffer ≡ old.front.buffer ++ more → (old.front.is_ended ≡ true → more ≡ [])
    → (old.front.is_ended ≡ true → new.front.is_ended ≡ true) → IsLeft (Some new.front) left → IsLeft (Some old.front) left
found_left old new more left buffer none ended is = (
  more ++ is.0,
  is.1 ∙ (ap (λ (z : List ℕ). z ++ is.0) buffer ∙ append_assoc old.front.buffer more is.0),
  λ e. rw (none e, is.2 (ended e)) refl,
)

end_found : (first old new : Option (List ℕ)) (xs more : List ℕ) (was is : Bool) → Consumes first old xs → Consumes old new more
    → (was ≡ true → IsAtEndAfter first old) → (was ≡ true → new ≡ old) → (was ≡ false → is ≡ true → IsAtEndAfter old new) → is ≡ true → IsAtEndAfter first new
end_found first old new xs more was is h k ended still end e =
    elim (cases_Bool was) [
      | inl t ↦ rw (still t) (ended t)
      | inr f ↦ at_end_later first old new xs h (end f e)
    ]

found_passed : {M : Type 0} (instant : LogReading M) (first was now : Option (LogState M)) (old new : LogState M) (passed more : List ℕ) → was ≡ Some old
    → now ≡ Some new
    → HasPassed instant first was passed → Consumes old.left new.left more → (old.front.is_ended ≡ true → more ≡ []) → new.has_failed ≡ old.has_failed
    → new.front.buffer ≡ old.front.buffer ++ more → new.front.place ≡ old.front.place → new.memory ≡ old.memory
    → (old.front.is_ended ≡ true → (new.front.is_ended ≡ true) × (new.left ≡ old.left))
    → (old.front.is_ended ≡ false → new.front.is_ended ≡ true → IsAtEndAfter old.left new.left) → HasPassed instant first now passed
found_passed {M} instant None was now old new passed more e f h k none mark buffer place memory ended end = absurd (subst (λ
    (z : Option (LogState M)). HasPassed instant None z passed) e h)
found_passed {M} instant (Some first) was now old new passed more e f h k none mark buffer place memory ended end =
    let so = subst (λ (z : Option (LogState M)). HasPassed instant (Some first) z passed) e h in
    let is : IsPassed instant first new passed = record {
      consumed = rw (buffer, ← append_assoc passed old.front.buffer more) (Consumes-append first.left old.left new.left
          (passed ++ old.front.buffer) more so.consumed k);
      end = end_found first.left old.left new.left (passed ++ old.front.buffer) more old.front.is_ended new.front.is_ended so.consumed k so.end
          (λ t. (ended t).1) end;
      unfailed = mark ∙ so.unfailed;
      place = λ left is. rw (place, memory) (so.place left (found_left old new more left buffer none (λ t. (ended t).0) is));
      memory = λ left is. rw (place, memory) (so.memory left (found_left old new more left buffer none (λ t. (ended t).0) is));
    } in
    subst (λ (z : Option (LogState M)). HasPassed instant (Some first) z passed) (sym f) is

same_place : {M : Type 0} (instant : LogReading M) (was now : Option (LogState M)) (old new : LogState M) (left : List ℕ) → was ≡ Some old → now ≡ Some new
    → new.front.place ≡ old.front.place → new.memory ≡ old.memory
    → front_lines (reading_now instant now) (option_map (λ (s : LogState M). s.front) now) left
    ≡ front_lines (reading_now instant was) (option_map (λ (s : LogState M). s.front) was) left
same_place instant was now old new left e f place memory = rw (e, f, place, memory) refl

Sends-longer : (a b : Option (List ℕ)) (p xs ys : List ℕ) → Sends a b p xs → Sends a b (p ++ ys) (xs ++ ys)
Sends-longer a b p xs ys h = record {
  sent = h.sent;
  appended = h.appended;
  whole = ap (λ (z : List ℕ). z ++ ys) h.whole ∙ append_assoc h.sent p ys;
}

same_front : (a b : Front) → ◌≡◌ {A = Option Front} (Some a) (Some b) → a ≡ b
same_front a b e = cc

-- the bytes that are left with the line that was passed
passed_left : {M : Type 0} (old new : LogState M) (more left : List ℕ) (is_ended : Bool) (before after : Devices) (pending pending' : List ℕ)
    → (old.front.is_ended ≡ true → more ≡ []) → Passed is_ended old.front new.front before after pending pending' more → IsLeft (Some new.front) left
    → IsLeft (Some old.front) (front_line (old.front.buffer ++ more) ++ left)
passed_left old new more left is_ended before after pending pending' none p is =
    let all = old.front.buffer ++ more in (
      more ++ is.0,
      rw is.1 (sym (append_assoc (front_line all) new.front.buffer is.0) ∙ (ap (λ (z : List ℕ). z ++ is.0) p.text ∙ append_assoc old.front.buffer more is.0)),
      λ e. rw (none e, is.2 (p.ended e).0) refl,
    )

-- and their lines
passed_after : {M : Type 0} (old new : LogState M) (more left : List ℕ) (is_ended : Bool) (before after : Devices) (pending pending' : List ℕ)
    → Passed is_ended old.front new.front before after pending pending' more → (is : IsLeft (Some new.front) left)
    → (front_line (old.front.buffer ++ more) ++ left ≡ (old.front.buffer ++ more) ++ is.0) × IsAfter M (old.front.buffer ++ more) is.0
    × (behind_line (old.front.buffer ++ more) ++ is.0 ≡ left)
passed_after old new more left is_ended before after pending pending' p is =
    let all = old.front.buffer ++ more in
    let rest : new.front.buffer ≡ behind_line all = rest_behind all new.front.buffer p.text in (
      rw is.1 (sym (append_assoc (front_line all) new.front.buffer is.0) ∙ ap (λ (z : List ℕ). z ++ is.0) p.text),
      elim (cases_Bool is_ended) [
        | inl t ↦ after_feed all is.0 (p.feed ∙ t)
        | inr t ↦ after_none all is.0 (is.2 (p.unended t).1)
      ],
      ap (λ (z : List ℕ). z ++ is.0) (sym rest) ∙ sym is.1,
    )

place_passed : {M : Type 0} (instant : LogReading M) (front : Front) (bytes : List ℕ) → (first_line instant front.place bytes).instant ≡ front.next
    → (first_line instant front.place bytes).kind ≡ front.kind → place_after front.place (first_line instant front.place bytes) ≡ place_behind front
place_passed instant front bytes next kind = rw (next, kind) refl

lines_passed : {M : Type 0} (instant later : LogReading M) (old new : LogState M) (more left : List ℕ) (is_ended : Bool) (before after : Devices)
    (pending pending' : List ℕ)
    → Passed is_ended old.front new.front before after pending pending' more → 0 < length (old.front.buffer ++ more)
    → (first_line instant old.front.place (old.front.buffer ++ more)).instant ≡ old.front.next
    → (first_line instant old.front.place (old.front.buffer ++ more)).kind ≡ old.front.kind
    → reading_after instant (first_line instant old.front.place (old.front.buffer ++ more)) ≡ later → (is : IsLeft (Some new.front) left)
    → lines_from instant old.front.place (front_line (old.front.buffer ++ more) ++ left)
    ≡ first_line instant old.front.place (old.front.buffer ++ more) ∷ lines_from later new.front.place left
lines_passed {M} instant later old new more left is_ended before after pending pending' p some next kind known is =
    let all = old.front.buffer ++ more in
    let a = passed_after old new more left is_ended before after pending pending' p is in
    let long : 0 < length (all ++ is.0) = omega (arith, some, length-append all is.0) in
    let line = first_line instant old.front.place all in
    let place : place_after old.front.place line ≡ new.front.place = place_passed instant old.front all next kind ∙ sym p.place in
    ap (lines_from instant old.front.place) a.0
    ∙ (lines_from-first instant old.front.place (all ++ is.0) long
    ∙ (ap (λ (z : Line). z ∷ lines_from (reading_after instant z) (place_after old.front.place z) (behind_line (all ++ is.0))) (a.1.line instant
    old.front.place)
    ∙ (ap (λ (z : List ℕ). line ∷ lines_from (reading_after instant line) (place_after old.front.place line) z) (a.1.behind ∙ a.2)
    ∙ (ap (λ (z : LogReading M). line ∷ lines_from z (place_after old.front.place line) left) known
    ∙ ap (λ (z : Place). line ∷ lines_from later z left) place))))

first_passed : {M : Type 0} (instant : LogReading M) (old new : LogState M) (more left : List ℕ) (is_ended : Bool) (before after : Devices)
    (pending pending' : List ℕ)
    → Passed is_ended old.front new.front before after pending pending' more → (is : IsLeft (Some new.front) left) → (front : Front) (bytes : List ℕ)
    → front ≡ old.front → bytes ≡ front_line (old.front.buffer ++ more) ++ left
    → first_line instant front.place bytes ≡ first_line instant old.front.place (old.front.buffer ++ more)
first_passed instant old new more left is_ended before after pending pending' p is front bytes f e =
    let a = passed_after old new more left is_ended before after pending pending' p is in
    ap (λ (z : Front). first_line instant z.place bytes) f
    ∙ (ap (first_line instant old.front.place) (e ∙ a.0) ∙ a.1.line instant old.front.place)

place_passed_on : {M : Type 0} (base instant later : LogReading M) (old new : LogState M) (passed more left : List ℕ) (is_ended : Bool)
    (before after : Devices) (pending pending' : List ℕ)
    → Passed is_ended old.front new.front before after pending pending' more → 0 < length (old.front.buffer ++ more)
    → (first_line instant old.front.place (old.front.buffer ++ more)).instant ≡ old.front.next
    → (first_line instant old.front.place (old.front.buffer ++ more)).kind ≡ old.front.kind
    → reading_after instant (first_line instant old.front.place (old.front.buffer ++ more)) ≡ later → IsLeft (Some new.front) left
    → place_after_lines first_place (log_lines base (passed ++ (front_line (old.front.buffer ++ more) ++ left)))
    ≡ place_after_lines old.front.place (lines_from instant old.front.place (front_line (old.front.buffer ++ more) ++ left))
    → place_after_lines first_place (log_lines base ((passed ++ front_line (old.front.buffer ++ more)) ++ left))
    ≡ place_after_lines new.front.place (lines_from later new.front.place left)
unfolding place_after_lines
place_passed_on base instant later old new passed more left is_ended before after pending pending' p some next kind known is h =
    let all = old.front.buffer ++ more in
    let lines = lines_passed instant later old new more left is_ended before after pending pending' p some next kind known is in
    let place : place_after old.front.place (first_line instant old.front.place all) ≡ new.front.place = place_passed instant old.front all next kind
    ∙ sym p.place in
    ap (λ (z : List ℕ). place_after_lines first_place (log_lines base z)) (append_assoc passed (front_line all) left)
    ∙ (h ∙ (ap (place_after_lines old.front.place) lines
    ∙ ap (λ (z : Place). place_after_lines z (lines_from later new.front.place left)) place))

-- and what is known then
memory_passed_on : {M : Type 0} (base instant later : LogReading M) (old new : LogState M) (passed more left : List ℕ) (is_ended : Bool)
    (before after : Devices) (pending pending' : List ℕ)
    → Passed is_ended old.front new.front before after pending pending' more → 0 < length (old.front.buffer ++ more)
    → (first_line instant old.front.place (old.front.buffer ++ more)).instant ≡ old.front.next
    → (first_line instant old.front.place (old.front.buffer ++ more)).kind ≡ old.front.kind
    → reading_after instant (first_line instant old.front.place (old.front.buffer ++ more)) ≡ later → IsLeft (Some new.front) left
    → reading_after_lines base (log_lines base (passed ++ (front_line (old.front.buffer ++ more) ++ left)))
    ≡ reading_after_lines instant (lines_from instant old.front.place (front_line (old.front.buffer ++ more) ++ left))
    → reading_after_lines base (log_lines base ((passed ++ front_line (old.front.buffer ++ more)) ++ left))
    ≡ reading_after_lines later (lines_from later new.front.place left)
unfolding reading_after_lines
memory_passed_on {M} base instant later old new passed more left is_ended before after pending pending' p some next kind known is h =
    let all = old.front.buffer ++ more in
    let lines = lines_passed instant later old new more left is_ended before after pending pending' p some next kind known is in
    ap (λ (z : List ℕ). reading_after_lines base (log_lines base z)) (append_assoc passed (front_line all) left)
    ∙ (h ∙ (ap (reading_after_lines instant) lines
    ∙ ap (λ (z : LogReading M). reading_after_lines z (lines_from later new.front.place left)) known))

-- a log of which a line was passed
line_passed : {M : Type 0} (instant : LogReading M) (first was now : Option (LogState M)) (old new : LogState M) (passed more : List ℕ) (is_ended : Bool)
    (before after : Devices) (pending pending' : List ℕ) → was ≡ Some old → now ≡ Some new → before.left ≡ old.left → after.left ≡ new.left
    → HasPassed instant first was passed → Consumes old.left new.left more → (old.front.is_ended ≡ true → more ≡ []) → new.has_failed ≡ old.has_failed
    → Passed is_ended old.front new.front before after pending pending' more → 0 < length (old.front.buffer ++ more)
    → (first_line (reading_from instant old.memory) old.front.place (old.front.buffer ++ more)).instant ≡ old.front.next
    → (first_line (reading_from instant old.memory) old.front.place (old.front.buffer ++ more)).kind ≡ old.front.kind
    → reading_after (reading_from instant old.memory) (first_line (reading_from instant old.memory) old.front.place (old.front.buffer ++ more))
    ≡ reading_from instant new.memory
    → HasPassed instant first now (passed ++ front_line (old.front.buffer ++ more))
line_passed {M} instant None was now old new passed more is_ended before after pending pending' e f b a h k none mark p some next kind known =
    absurd (subst (λ (z : Option (LogState M)). HasPassed instant None z passed) e h)
line_passed {M} instant (Some first) was now old new passed more is_ended before after pending pending' e f b a h k none mark p some next kind known =
    let so = subst (λ (z : Option (LogState M)). HasPassed instant (Some first) z passed) e h in
    let all = old.front.buffer ++ more in
    let consumed : Consumes first.left new.left (passed ++ all) =
    rw (← append_assoc passed old.front.buffer more) (Consumes-append first.left old.left new.left (passed ++ old.front.buffer) more so.consumed k) in
    let is : IsPassed instant first new (passed ++ front_line all) = record {
      consumed = rw (append_assoc passed (front_line all) new.front.buffer, p.text) consumed;
      end = end_found first.left old.left new.left (passed ++ old.front.buffer) more old.front.is_ended new.front.is_ended so.consumed k so.end
          (λ t. sym a ∙ ((p.ended t).1 ∙ b)) (λ t u. rw (← b, ← a) (p.end t u));
      unfailed = mark ∙ so.unfailed;
      place = λ left is. place_passed_on instant _ _ old new passed more left is_ended before after pending pending' p some next kind known is
          (so.place (front_line all ++ left) (passed_left old new more left is_ended before after pending pending' none p is));
      memory = λ left is. memory_passed_on instant _ _ old new passed more left is_ended before after pending pending' p some next kind known is
          (so.memory (front_line all ++ left) (passed_left old new more left is_ended before after pending pending' none p is));
    } in
    subst (λ (z : Option (LogState M)). HasPassed instant (Some first) z (passed ++ front_line all)) (sym f) is

module _ {M : Type 0} (instant : ℕ → LogReading M) (is_strict : Bool) (first was now : ℕ → Option (LogState M)) (before between : Output) (pending : List ℕ)
    (is_open : Bool) (h : Stands instant is_strict first was before between pending is_open) (n k : ℕ) (past : (j : ℕ) → n ≤ j → was j ≡ None)
    (old new : LogState M) (old_is : was k ≡ Some old) (new_is : now k ≡ Some new) (others : (j : ℕ) → j ≢ k → now j ≡ was j)
    (more : List ℕ) (consumed : Consumes old.left new.left more) (none_more : old.front.is_ended ≡ true → more ≡ []) where
  -- the bytes of each log that were read and not passed
  pub lefts : ℕ → List ℕ
  lefts = put k (old.front.buffer ++ more) (λ j. buffer_of (was j))

  lefts_here : lefts k ≡ old.front.buffer ++ more
  unfolding lefts
  lefts_here = put-same k (old.front.buffer ++ more) (λ j. buffer_of (was j))

  lefts_other : (j : ℕ) → j ≢ k → lefts j ≡ buffer_of (was j)
  unfolding lefts
  lefts_other j other = put-other k (old.front.buffer ++ more) (λ j. buffer_of (was j)) j other

  pub all_left : (j : ℕ) → IsLeft (fronts_of was j) (lefts j)
  all_left =
      at_each (λ j. IsLeft (fronts_of was j) (lefts j)) k (rw (lefts_here, old_is) (more, refl, none_more))
      (λ j other. rw (lefts_other j other) (still_left (was j)))

  -- all bytes that were read
  pub bytes : ℕ → List ℕ
  bytes j = h.passed j ++ lefts j

  pub all_read : AreRead first now bytes
  unfolding bytes
  all_read =
      at_each (λ j. IsRead (first j) (now j) (h.passed j ++ lefts j)) k
      (rw lefts_here (more_read (instant k) (first k) (was k) (now k) old new (h.passed k) more old_is new_is (h.logs k) consumed))
      (λ j other. rw (lefts_other j other, others j other) (still_read (instant j) (first j) (was j) (h.passed j) (h.logs j)))

  -- the lines that are left
  pub lines : ℕ → List Line
  lines j = front_lines (readings_now instant was j) (fronts_of was j) (lefts j)

  lines_past : (j : ℕ) → n ≤ j → lines j ≡ []
  unfolding lines
  lines_past j high = rw (past j high) refl

  -- their merge, after the lines that were sent
  pub rest : List (ℕ × Line)
  unfolding lines
  rest = (merge_exists n lines lines_past).0

  pub rest_merge : Merges instant bytes (h.out ++ rest)
  unfolding bytes rest lines
  rest_merge = h.leads lefts all_left rest (merge_exists n lines lines_past).1

  -- the lines of the log that are left
  pub rest_taken : own_lines k rest ≡ lines_from (reading_from (instant k) old.memory) old.front.place (old.front.buffer ++ more)
  unfolding rest lines
  rest_taken =
      merges-keep lines (merge_exists n lines lines_past).0 (merge_exists n lines lines_past).1 k
      ∙ rw (lefts_here, old_is) refl

  longer_front : (a b : Option (List ℕ)) (xs ys : List ℕ) → AppendsFront a b xs → AppendsFront a b (xs ++ ys)
  longer_front a b xs ys f = (f.0, f.1 ++ ys, f.2, ap (λ (z : List ℕ). z ++ ys) f.3 ∙ append_assoc f.0 f.1 ys)

  long_bytes : 2 ^ 64 - 1 ≤ length more → 2 ^ 64 - 1 ≤ length (bytes k)
  unfolding bytes
  long_bytes long = rw lefts_here (omega (arith, long, length-append (h.passed k) (old.front.buffer ++ more), length-append old.front.buffer more))

  -- a call failed after these lines were sent
  pub cut : (fault : LogFault) (after : Output) (left : Option (List ℕ)) (mid_failed : Bool) (out_sent out_more : List (ℕ × Line))
      → Merges instant bytes (out_sent ++ out_more) → mid_failed ≡ false
      → Fails fault (devices left before.written old.has_failed mid_failed) (devices new.left after.written new.has_failed after.has_failed)
      (merge_text out_sent) more
      → (fault ≡ log.Read → All (λ line. line.is_ended ≡ false) (own_lines k out_more)) → IsCut (fault_at k fault) instant is_strict first now before after
  cut log.Read after left mid_failed out_sent out_more merge unmarked fails last = record {
    bytes = bytes;
    out = out_sent;
    rest = out_more;
    read = all_read;
    merge = merge;
    written = fails.0;
    last = last refl;
    read_failed = rw new_is fails.1;
    no_write_failed = fails.2 ∙ unmarked;
  }
  cut log.Write after left mid_failed out_sent out_more merge unmarked fails last = record {
    bytes = bytes;
    out = out_sent ++ out_more;
    read = all_read;
    merge = merge;
    written = rw (merge_text-more out_sent out_more) (AppendsBeginning-longer before.written after.written (merge_text out_sent) _ fails.0);
    write_failed = fails.2;
  }
  cut log.Endless after left mid_failed out_sent out_more merge unmarked fails last = record {
    bytes = bytes;
    out = out_sent ++ out_more;
    read = all_read;
    merge = merge;
    written = rw (merge_text-more out_sent out_more) (longer_front before.written after.written (merge_text out_sent) _ fails.0);
    long = inl (k, long_bytes fails.2);
  }

  -- when the next line of the log was looked for
  pub find_cut : (fault : LogFault) (after : Output) → has_line_feed (old.front.buffer ++ more) ≡ false
      → Fails fault (devices old.left between.written old.has_failed between.has_failed)
      (devices new.left after.written new.has_failed after.has_failed) pending more
      → IsCut (fault_at k fault) instant is_strict first now before after
  find_cut fault after none fails =
      cut fault after old.left between.has_failed h.out rest rest_merge h.unfailed
      (fails_later fault (devices old.left before.written old.has_failed between.has_failed)
      (devices old.left between.written old.has_failed between.has_failed)
      (devices new.left after.written new.has_failed after.has_failed) pending (merge_text h.out) [] more h.sent (record { read = refl; write = refl }) fails)
      (λ _. rw rest_taken (lines_unended (reading_from (instant k) old.memory) old.front.place (old.front.buffer ++ more) none))

  -- the writer failed then
  pub find_stop_cut : (result : Result Unit MergeFault) (mid after : Output) (pending' : List ℕ) → IsErrAnd result (λ fault. fault ≡ merge.Write)
      → Sends between.written mid.written pending' pending → AppendsBeginning mid.written after.written pending' → after.has_failed ≡ true
      → IsErrAnd result (λ fault. IsCut fault instant is_strict first now before after)
  find_stop_cut (Ok done) mid after pending' fault sent failed mark = absurd fault
  find_stop_cut (Err by) mid after pending' fault sent failed mark =
      rw fault (record {
        bytes = bytes;
        out = h.out ++ rest;
        read = all_read;
        merge = rest_merge;
        written = rw (merge_text-more h.out rest) (AppendsBeginning-longer before.written after.written (merge_text h.out) _
            (AppendsBeginning-flushed before.written mid.written after.written pending' (merge_text h.out)
            (Sends-pending before.written between.written mid.written pending pending' (merge_text h.out) h.sent sent) failed));
        write_failed = mark;
      })

  -- the next line of the log was found
  module _ (after : Output) (pending' : List ℕ) (sent : Sends between.written after.written pending' pending)
      (mark : after.has_failed ≡ between.has_failed) (unfailed : new.has_failed ≡ old.has_failed)
      (buffer : new.front.buffer ≡ old.front.buffer ++ more) (place : new.front.place ≡ old.front.place) (memory : new.memory ≡ old.memory)
      (ended : old.front.is_ended ≡ true → (new.front.is_ended ≡ true) × (new.left ≡ old.left))
      (end : old.front.is_ended ≡ false → new.front.is_ended ≡ true → IsAtEndAfter old.left new.left) where
    pub find_stands : (stands : Stands instant is_strict first now before after pending' is_open) × (length stands.out ≡ length h.out)
    find_stands = (
      record {
        passed = h.passed;
        out = h.out;
        leads = λ later left out merge.
            h.leads later
            (at_each (λ j. IsLeft (fronts_of was j) (later j)) k
            (rw old_is (found_left old new more (later k) buffer none_more (λ t. (ended t).0) (rw new_is at (left k))))
            (λ j other. rw (others j other) at (left j)))
            out
            (IsMerge-same (λ j. front_lines (readings_now instant now j) (fronts_of now j) (later j))
            (λ j. front_lines (readings_now instant was j) (fronts_of was j) (later j)) out
            (at_each (λ j. front_lines (readings_now instant now j) (fronts_of now j) (later j)
            ≡ front_lines (readings_now instant was j) (fronts_of was j) (later j)) k
            (same_place (instant k) (was k) (now k) old new (later k) old_is new_is place memory) (λ j other. rw (others j other) refl)) merge);
        logs =
            at_each (λ j. HasPassed (instant j) (first j) (now j) (h.passed j)) k
            (found_passed (instant k) (first k) (was k) (now k) old new (h.passed k) more old_is new_is
            (h.logs k) consumed none_more unfailed buffer place memory ended end)
            (λ j other. rw (others j other) (h.logs j));
        sent = Sends-pending before.written between.written after.written pending pending' (merge_text h.out) h.sent sent;
        unended = h.unended;
        forward = h.forward;
        unfailed = mark ∙ h.unfailed;
      },
      refl,
    )

    -- it is earlier than the one before it
    pub find_back : (over : Output) (number : ℕ) → is_strict ≡ true → IsReady (reading_from (instant k) new.memory) new.front → new.front.has_line ≡ true
        → is_before new.front.next new.front.place.last ≡ true → number ≡ min (new.front.place.lines + 1) (2 ^ 64 - 1)
        → Appends after.written over.written pending'
        → over.has_failed ≡ after.has_failed → IsCut (merge.Back k number) instant is_strict first now before over
    find_back over number strict ready some earlier is written same =
        let left : List ℕ = old.front.buffer ++ more in
        let here : 0 < length left = subst (λ (z : List ℕ). 0 < length z) buffer (ready.line some) in
        let at = reading_from (instant k) old.memory in
        let line = first_line at old.front.place left in
        let next : line.instant ≡ new.front.next =
        rw (place, buffer, memory, append-nil left) at (ready.next some [] (λ _. refl)) in (
          strict,
          record {
            bytes = bytes;
            out = h.out;
            rest = rest;
            line = line;
            lines = lines_from (reading_after at line) (place_after old.front.place line) (behind_line left);
            read = all_read;
            merge = rest_merge;
            written = Appends-flushed before.written after.written over.written pending' (merge_text h.out)
                (Sends-pending before.written between.written after.written pending pending' (merge_text h.out) h.sent sent) written;
            forward = h.forward strict;
            next = rest_taken ∙ lines_from-first at old.front.place left here;
            back = rw (next, ← place) earlier;
            number_is = rw (← place) (sym is);
            no_write_failed = same ∙ (mark ∙ h.unfailed);
          },
        )

  -- how the lines of the log are read
  at : LogReading M
  at = reading_from (instant k) old.memory

  at_is : readings_now instant was k ≡ at
  unfolding at
  at_is = ap (reading_now (instant k)) old_is

  -- the next line of the log
  module _ (known : AreKnown (readings_now instant was) is_strict (fronts_of was)) (next : IsNext (fronts_of was) k) where
    front_is : next.front ≡ old.front
    front_is =
        let both : Some next.front ≡ Some old.front = sym next.has ∙ ap (option_map (λ (s : LogState M). s.front)) old_is in
        same_front next.front old.front both

    all_bytes : List ℕ
    all_bytes = old.front.buffer ++ more

    pub line : Line
    line = first_line at old.front.place all_bytes

    line_is : first_line (readings_now instant was k) next.front.place (lefts k) ≡ line
    unfolding line all_bytes
    line_is = rw (front_is, lefts_here, at_is) refl

    some_bytes : 0 < length all_bytes
    unfolding all_bytes
    some_bytes = subst (λ (z : List ℕ). 0 < length z) lefts_here (next_some (readings_now instant was) is_strict (fronts_of was) lefts k known all_left next)

    line_instant : line.instant ≡ old.front.next
    unfolding line all_bytes
    line_instant = rw (front_is, lefts_here, at_is) at (next_instant (readings_now instant was) is_strict (fronts_of was) lefts k known all_left next)

    line_kind : line.kind ≡ old.front.kind
    unfolding line all_bytes
    line_kind = rw (front_is, lefts_here, at_is) at (next_kind (readings_now instant was) is_strict (fronts_of was) lefts k known all_left next)

    line_memory : (reading_after at line).memory ≡ memory_behind at old.front
    unfolding line all_bytes
    line_memory = rw (front_is, lefts_here, at_is) at (next_memory (readings_now instant was) is_strict (fronts_of was) lefts k known all_left next)

    line_forward : is_strict ≡ true → line.is_back ≡ false
    unfolding line all_bytes
    line_forward strict = rw (front_is, lefts_here, at_is) at (next_forward (readings_now instant was) is_strict (fronts_of was) lefts k known all_left next
        strict)

    later_lines : List Line
    later_lines = lines_from (reading_after at line) (place_after old.front.place line) (behind_line all_bytes)

    lines_are : lines k ≡ line ∷ later_lines
    unfolding lines line all_bytes later_lines
    lines_are = ap (front_lines (readings_now instant was k) (fronts_of was k)) lefts_here
        ∙ (ap (λ (z : LogReading M). front_lines z (fronts_of was k) (old.front.buffer ++ more)) at_is
        ∙ rw (front_is, lefts_here, at_is) at (next_lines (readings_now instant was) is_strict (fronts_of was) lefts k known all_left next))

    line_first : IsFirst lines k line
    unfolding lines
    line_first = subst (IsFirst (λ j. front_lines (readings_now instant was j) (fronts_of was j) (lefts j)) k) line_is (next_first
        (readings_now instant was) is_strict
        (fronts_of was) lefts k known all_left next)

    begun : List (ℕ × Line)
    begun = (merge_from n lines k line later_lines lines_past lines_are line_first).0

    begun_merge : IsMerge lines ((k, line) ∷ begun)
    unfolding begun
    begun_merge = (merge_from n lines k line later_lines lines_past lines_are line_first).1

    pass_merge : Merges instant bytes ((h.out ++ (k, line) ∷ []) ++ begun)
    unfolding bytes lines
    pass_merge = rw (append_assoc h.out ((k, line) ∷ []) begun) (h.leads lefts all_left ((k, line) ∷ begun) begun_merge)

    pass_taken : own_lines k begun ≡ later_lines
    pass_taken = merges-keep (behind lines k) begun begun_merge.3 k ∙ behind-rest lines k line later_lines lines_are

    pass_text : merge_text (h.out ++ (k, line) ∷ []) ≡ (merge_text h.out ++ feed_if is_open) ++ front_line all_bytes
    unfolding line
    pass_text =
        merge_text-line h.out k line
        ∙ (ap (λ (z : Bool). merge_text h.out ++ (feed_if z ++ front_line all_bytes)) (sym h.unended)
        ∙ sym (append_assoc (merge_text h.out) (feed_if is_open) (front_line all_bytes)))

    -- a line feed before it was not written
    pub feed_cut : (result : Result Bool MergeFault) (after : Output) → IsErrAnd result (λ fault. fault ≡ merge.Write)
        → AppendsBeginning between.written after.written (pending ++ feed_if is_open) → after.has_failed ≡ true
        → IsErrAnd result (λ fault. IsCut fault instant is_strict first now before after)
    feed_cut (Ok done) after fault failed mark = absurd fault
    feed_cut (Err by) after fault failed mark =
        let text = merge_text h.out ++ feed_if is_open in
        let first_part : AppendsBeginning before.written after.written text =
        AppendsBeginning-flushed before.written between.written after.written (pending ++ feed_if is_open) text
        (Sends-longer before.written between.written pending (merge_text h.out) (feed_if is_open) h.sent) failed in
        rw fault (record {
          bytes = bytes;
          out = (h.out ++ (k, line) ∷ []) ++ begun;
          read = all_read;
          merge = pass_merge;
          written = rw (merge_text-more (h.out ++ (k, line) ∷ []) begun) (AppendsBeginning-longer before.written after.written (merge_text (h.out ++
              (k, line) ∷ [])) _
              (rw pass_text (AppendsBeginning-longer before.written after.written text (front_line all_bytes) first_part)));
          write_failed = mark;
        })

    -- a call failed when it was to be sent
    module _ (mid : Output) (pending' : List ℕ) (fed : Sends between.written mid.written pending' (pending ++ feed_if is_open))
        (mid_mark : mid.has_failed ≡ between.has_failed) where
      line_sent : Sends before.written mid.written (pending' ++ front_line all_bytes) (merge_text (h.out ++ (k, line) ∷ []))
      line_sent =
          rw pass_text (Sends-longer before.written mid.written pending' (merge_text h.out ++ feed_if is_open) (front_line all_bytes)
          (Sends-append before.written between.written mid.written pending (merge_text h.out) pending' (feed_if is_open) h.sent fed))

      pub pass_cut : (fault : LogFault) (after : Output)
          → Fails fault (devices old.left mid.written old.has_failed mid.has_failed) (devices new.left after.written new.has_failed after.has_failed)
          (pending' ++ front_line (old.front.buffer ++ more)) more
          → (fault ≡ log.Read → has_line_feed (old.front.buffer ++ more) ≡ false) → IsCut (fault_at k fault) instant is_strict first now before after
      unfolding all_bytes later_lines
      pass_cut fault after fails none =
          cut fault after old.left mid.has_failed (h.out ++ (k, line) ∷ []) begun pass_merge (mid_mark ∙ h.unfailed)
          (fails_later fault (devices old.left before.written old.has_failed mid.has_failed) (devices old.left mid.written old.has_failed mid.has_failed)
          (devices new.left after.written new.has_failed after.has_failed) (pending' ++ front_line (old.front.buffer ++ more)) (merge_text (h.out ++
          (k, line) ∷ []))
          [] more line_sent (record { read = refl; write = refl }) fails)
          (λ is. rw pass_taken (no_more (none is)))
        where
          no_more : has_line_feed (old.front.buffer ++ more) ≡ false → All (λ (z : Line). z.is_ended ≡ false) later_lines
          no_more f = rw ((ended-none [] (old.front.buffer ++ more) f).behind, lines_from-nil (reading_after at line) (place_after old.front.place line))
              (All-nil (λ
              (z : Line). z.is_ended ≡ false))

      -- whatever bytes are left after it, the merge goes on from them
      -- what is known of the log was brought up to the line
      module _ (memory : new.memory ≡ memory_behind (reading_from (instant k) old.memory) old.front) where
        known_after : reading_after at line ≡ reading_from (instant k) new.memory
        unfolding at
        known_after = ap (reading_from (instant k)) (line_memory ∙ sym memory)

        pass_leads : (after : Output) (pending'' : List ℕ) (is_ended : Bool)
            → Passed is_ended old.front new.front (devices old.left mid.written old.has_failed mid.has_failed)
            (devices new.left after.written new.has_failed after.has_failed) pending' pending'' more
            → Leads instant now (put k (h.passed k ++ front_line all_bytes) h.passed) (h.out ++ (k, line) ∷ [])
        unfolding all_bytes line lines_from at
        pass_leads after pending'' is_ended p later left out merge =
            let text = front_line (old.front.buffer ++ more) in
            let here : IsLeft (Some new.front) (later k) = rw new_is at (left k) in
            let was_left = passed_left old new more (later k) is_ended _ _ pending' pending'' none_more p here in
            let before_lefts : ℕ → List ℕ = put k (text ++ later k) later in
            let same = put-same k (text ++ later k) later in
            let others_same = put-other k (text ++ later k) later in
            let lefts_are : (j : ℕ) → IsLeft (fronts_of was j) (before_lefts j) =
            at_each (λ j. IsLeft (fronts_of was j) (before_lefts j)) k (rw (same, old_is) was_left)
            (λ j other. rw (others_same j other, ← others j other) (left j)) in
            let first_is : first_line (readings_now instant was k) next.front.place (before_lefts k) ≡ line =
            ap (λ (z : LogReading M). first_line z next.front.place (before_lefts k)) at_is
            ∙ first_passed at old new more (later k) is_ended _ _ pending' pending'' p here next.front (before_lefts k) front_is same in
            let is_first : IsFirst (λ j. front_lines (readings_now instant was j) (fronts_of was j) (before_lefts j)) k line =
            subst (IsFirst (λ j. front_lines (readings_now instant was j) (fronts_of was j) (before_lefts j)) k) first_is (next_first (readings_now instant
            was) is_strict
            (fronts_of was) before_lefts k known lefts_are next) in
            let rest_lines = lines_passed at (reading_from (instant k) new.memory) old new more (later k) is_ended _ _ pending' pending'' p some_bytes
            line_instant line_kind
            known_after here in
            let all_lines : front_lines (readings_now instant was k) (fronts_of was k) (before_lefts k) ≡ line ∷ lines_from (reading_from (instant k)
            new.memory) new.front.place (later k) =
            ap (front_lines (readings_now instant was k) (fronts_of was k)) same ∙ (ap (λ (z : Option (LogState M)). front_lines (reading_now (instant k) z)
            (option_map (λ (s : LogState M). s.front) z)
            (text ++ later k)) old_is ∙ rest_lines) in
            let now_lines : front_lines (readings_now instant now k) (fronts_of now k) (later k) ≡ lines_from (reading_from (instant k) new.memory)
            new.front.place (later k) =
            ap (λ (z : Option (LogState M)). front_lines (reading_now (instant k) z) (option_map (λ (s : LogState M). s.front) z) (later k)) new_is in
            let behind_all : IsMerge (behind (λ j. front_lines (readings_now instant was j) (fronts_of was j) (before_lefts j)) k) out =
            IsMerge-same (λ j. front_lines (readings_now instant now j) (fronts_of now j) (later j))
            (behind (λ j. front_lines (readings_now instant was j) (fronts_of was j) (before_lefts j)) k) out
            (at_each (λ j. front_lines (readings_now instant now j) (fronts_of now j) (later j) ≡ behind (λ j. front_lines (readings_now instant was j)
            (fronts_of was j) (before_lefts j)) k j) k
            (now_lines ∙ sym (behind-rest (λ j. front_lines (readings_now instant was j) (fronts_of was j) (before_lefts j)) k line _ all_lines))
            (λ j other. rw (others j other) (ap (front_lines (readings_now instant was j) (fronts_of was j)) (sym (others_same j other))
            ∙ sym (behind-other (λ j. front_lines (readings_now instant was j) (fronts_of was j) (before_lefts j)) j k other)))) merge in
            let whole = h.leads before_lefts lefts_are ((k, line) ∷ out) (
              lines_from (reading_from (instant k) new.memory) new.front.place (later k),
              all_lines,
              is_first,
              behind_all,
            ) in
            rw (append_assoc h.out ((k, line) ∷ []) out)
            (IsMerge-same (λ j. log_lines (instant j) (h.passed j ++ before_lefts j))
            (λ j. log_lines (instant j) (put k (h.passed k ++ text) h.passed j ++ later j))
            (h.out ++ (k, line) ∷ out)
            (at_each (λ j. log_lines (instant j) (h.passed j ++ before_lefts j) ≡ log_lines (instant j) (put k (h.passed k ++ text) h.passed j ++ later j)) k
            (ap (log_lines (instant k)) (ap (λ (z : List ℕ). h.passed k ++ z) same
            ∙ (sym (append_assoc (h.passed k) text (later k)) ∙ ap (λ (z : List ℕ). z ++ later k) (sym (put-same k (h.passed k ++ text) h.passed)))))
            (λ j other. ap (log_lines (instant j)) (ap (λ (z : List ℕ). h.passed j ++ z) (others_same j other)
            ∙ ap (λ (z : List ℕ). z ++ later j) (sym (put-other k (h.passed k ++ text) h.passed j other))))) whole)

        -- it was sent
        pub pass_stands : (after : Output) (pending'' : List ℕ) (is_ended : Bool)
            → Passed is_ended old.front new.front (devices old.left mid.written old.has_failed mid.has_failed)
            (devices new.left after.written new.has_failed after.has_failed) pending' pending'' more
            → (stands : Stands instant is_strict first now before after pending'' (not is_ended)) × (length stands.out ≡ length h.out + 1)
        unfolding all_bytes line at
        pass_stands after pending'' is_ended p = (
          record {
            passed = put k (h.passed k ++ front_line all_bytes) h.passed;
            out = h.out ++ (k, line) ∷ [];
            leads = pass_leads after pending'' is_ended p;
            logs =
                at_each (λ j. HasPassed (instant j) (first j) (now j) (put k (h.passed k ++ front_line all_bytes) h.passed j)) k
                (rw (put-same k (h.passed k ++ front_line all_bytes) h.passed)
                (line_passed (instant k) (first k) (was k) (now k) old new (h.passed k) more is_ended _ _ pending' pending'' old_is new_is refl refl
                (h.logs k) consumed
                none_more p.unfailed.read p some_bytes line_instant line_kind known_after))
                (λ j other. rw (put-other k (h.passed k ++ front_line all_bytes) h.passed j other, others j other) (h.logs j));
            sent =
                Sends-pending before.written mid.written after.written (pending' ++ front_line all_bytes) pending'' (merge_text (h.out ++
                (k, line) ∷ [])) line_sent p.sent;
            unended = ap not (sym p.feed) ∙ sym (open_after-line false h.out k line);
            forward = λ strict. NoneBack-line h.out k line (h.forward strict) (line_forward strict);
            unfailed = p.unfailed.write ∙ (mid_mark ∙ h.unfailed);
          },
          length-append h.out ((k, line) ∷ []),
        )
