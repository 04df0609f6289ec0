-- The beginning and the end of a merge.
use Rattle.std.proofs.Common.{◌≡◌, ◌≢◌, ℕ, ◌+◌, ◌-◌, ◌^◌, ◌<◌, ◌≤◌, Bool, true, false, min, cond, List, [], ◌++◌, length, Option, Some, None}
use Rattle.std.proofs.Common.{Result, Ok, Err, refl, sym, ap, subst, ◌∙◌, inl, inr, arith, append-nil, length-append}
use Rattle.std.specs.Io.KnownBytes.{Appends}
use Rattle.std.specs.Option.{option_map}
use Rattle.std.specs.Prelude.{◌&&◌, IsErrAnd}
use Rattle.std.proofs.lemmas.Bool.{cases_lt, false≢true}
use Rattle.std.proofs.lemmas.List.Elements.{All-nil}
use Rattle.line_devices.specs.InputLemmas.{Consumes-nil}
use Rattle.line_devices.specs.Writing.{AppendsBeginning}
use Rattle.line_devices.specs.WritingLemmas.{Appends-flushed, AppendsBeginning-flushed, AppendsBeginning-longer, Sends-nothing}
use Rattle.line_merges.proofs.LineLemmas.{lines_from-nil}
use Rattle.line_merges.proofs.MergeLemmas.{IsMerge-same}
use Rattle.line_merges.proofs.ExistLemmas.{merge_exists}
use Rattle.line_merges.specs.PlaceLemmas.{log-stamps, place-back}
use Rattle.line_merges.proofs.StateLemmas.{at_each}
use Rattle.line_merges.proofs.StepLemmas.{buffer_of, still_left, still_read}
use Rattle.line_merges.proofs.TextLemmas.{merge_text-more}
use Rattle.line_merges.specs.Choices.{HaveEnded, IsNext}
use Rattle.line_merges.specs.Instants.{LogReading, is_before, reading_from}
use Rattle.line_merges.specs.Lines.{Line, first_place, lines_from, log_lines, place_after_lines, reading_after_lines}
use Rattle.line_merges.specs.Merges.{IsMerge, merge_text, text_from}
use Rattle.line_merges.specs.Runs.{AreRead, Ends, IsCut, IsDone, IsMerged, IsNew, IsRead, LogState, Merges, Output}
use Rattle.line_merges.specs.Steps.{AreKnown, FindsLine, HasPassed, IsKnown, IsLeft, SendsNext, Stands, back_line, front_lines, fronts_of}
use Rattle.line_merges.specs.Steps.{reading_now, readings_now}
use Rattle.line_merges.specs.declared.logs.Front.{Front}
use Rattle.line_merges.specs.declared.logs.Place.{Place}
use Rattle.line_merges.specs.declared.merges.MergeFault.{MergeFault}
use Rattle.line_merges.specs.declared.merges.MergeFault.TheVariants.{Write, Endless}

pub sends_cut : {M : Type 0} (result : Result Bool MergeFault) (instant : ℕ → LogReading M) (is_strict : Bool) (k : ℕ) (first old new : ℕ → Option (LogState M))
    (before between after : Output) (was_pending pending : List ℕ) (is_open : Bool) (Q : MergeFault → Type 0) → IsErrAnd result Q
    → (Stands instant is_strict first old before between was_pending is_open → IsErrAnd result (λ fault. IsCut fault instant is_strict first new before after))
    → SendsNext result instant is_strict k first old new before between after was_pending pending is_open
sends_cut (Ok done) instant is_strict k first old new before between after was_pending pending is_open Q by h = absurd by
sends_cut (Err fault) instant is_strict k first old new before between after was_pending pending is_open Q by h = h

pub finds_cut : {M : Type 0} (result : Result Unit MergeFault) (instant : ℕ → LogReading M) (is_strict : Bool) (k : ℕ) (first old new : ℕ → Option (LogState M))
    (before between after : Output) (was_pending pending : List ℕ) (is_open : Bool) (Q : MergeFault → Type 0) → IsErrAnd result Q
    → (Stands instant is_strict first old before between was_pending is_open → IsErrAnd result (λ fault. IsCut fault instant is_strict first new before after))
    → FindsLine result instant is_strict k first old new before between after was_pending pending is_open
finds_cut (Ok done) instant is_strict k first old new before between after was_pending pending is_open Q by h = absurd by
finds_cut (Err fault) instant is_strict k first old new before between after was_pending pending is_open Q by h = h

no_some : (n : ℕ) → ◌≡◌ {A = Option ℕ} (Some n) None → ⊥
no_some n e = cc

back_none : (a b c : Bool) (n : ℕ) → cond (a && (b && c)) (Some n) None ≡ None → a ≡ true → b ≡ true → c ≡ false
back_none true true true n e f g = absurd (no_some n e)
back_none true true false n e f g = refl
back_none true false c n e f g = absurd (false≢true g)
back_none false b c n e f g = absurd (false≢true f)

-- the next line goes back
pub record GoesBack (a b c : Bool) (n number : ℕ) : Type 0 where
  pub strict : a ≡ true
  pub line : b ≡ true
  pub earlier : c ≡ true
  pub number_is : number ≡ n

back_some : (a b c : Bool) (n number : ℕ) → cond (a && (b && c)) (Some n) None ≡ Some number → GoesBack a b c n number
back_some true true true n number e = record { strict = refl; line = refl; earlier = refl; number_is = cc }
back_some true true false n number e = absurd (no_some number (sym e))
back_some true false c n number e = absurd (no_some number (sym e))
back_some false b c n number e = absurd (no_some number (sym e))

pub no_back_line : (is_strict : Bool) (front : Front) → back_line is_strict front ≡ None → is_strict ≡ true → front.has_line ≡ true
    → is_before front.next front.place.last ≡ false
no_back_line is_strict front e = back_none is_strict front.has_line (is_before front.next front.place.last) (min (front.place.lines + 1) (2 ^ 64 - 1)) e

pub some_back_line : (is_strict : Bool) (front : Front) (number : ℕ) → back_line is_strict front ≡ Some number
    → GoesBack is_strict front.has_line (is_before front.next front.place.last) (min (front.place.lines + 1) (2 ^ 64 - 1)) number
some_back_line is_strict front number e =
    back_some is_strict front.has_line (is_before front.next front.place.last) (min (front.place.lines + 1) (2 ^ 64 - 1)) number e

pub IsNext-same : (fronts others : ℕ → Option Front) (k : ℕ) → ((j : ℕ) → others j ≡ fronts j) → IsNext fronts k → IsNext others k
IsNext-same fronts others k same h = record {
  front = h.front;
  has = same k ∙ h.has;
  line = h.line;
  least = λ j other e. h.least j other (sym (same j) ∙ e);
  first = λ j other low e. h.first j other low (sym (same j) ∙ e);
}

-- before anything is read
new_lines : {M : Type 0} (instant : LogReading M) (log : Option (LogState M)) (left : List ℕ) → IsNew instant.memory log
    → IsLeft (option_map (λ (s : LogState M). s.front) log) left
    → front_lines (reading_now instant log) (option_map (λ (s : LogState M). s.front) log) left ≡ log_lines instant left
unfolding log_lines
new_lines instant None left new is = sym (ap (lines_from instant first_place) is ∙ lines_from-nil instant first_place)
new_lines {M} instant (Some log) left new is =
    ap (λ (z : M). lines_from (reading_from instant z) log.front.place left) new.4 ∙ ap (λ z. lines_from instant z left) new.3

new_passed : {M : Type 0} (instant : LogReading M) (log : Option (LogState M)) → IsNew instant.memory log → HasPassed instant log log []
unfolding log_lines
new_passed instant None new = refl
new_passed instant (Some log) new = record {
  consumed = rw new.1 (Consumes-nil log.left);
  end = λ e. absurd (false≢true (sym new.2 ∙ e));
  unfailed = new.0;
  place = λ left is. rw (new.3, new.4) refl;
  memory = λ left is. rw (new.3, new.4) refl;
}

pub stands_first : {M : Type 0} (instant : ℕ → LogReading M) (is_strict : Bool) (first : ℕ → Option (LogState M)) (before : Output) (pending : List ℕ)
    → ((k : ℕ) → IsNew (instant k).memory (first k)) → before.has_failed ≡ false → pending ≡ [] → Stands instant is_strict first first before before pending
    false
unfolding text_from
stands_first instant is_strict first before pending new unmarked none = record {
  passed = λ k. [];
  out = [];
  leads = λ lefts is more merge.
      IsMerge-same (λ k. front_lines (readings_now instant first k) (fronts_of first k) (lefts k)) (λ k. log_lines (instant k) (lefts k)) more
      (λ k. new_lines (instant k) (first k) (lefts k) (new k) (is k)) merge;
  logs = λ k. new_passed (instant k) (first k) (new k);
  sent = rw none (Sends-nothing before.written []);
  unended = refl;
  forward = λ strict. All-nil (λ (line : ℕ × Line). line.1.is_back ≡ false);
  unfailed = unmarked;
}

-- all logs are at their ends
no_front : (front : Front) → ◌≡◌ {A = Option Front} None (Some front) → ⊥
no_front front e = cc

ended_left : {M : Type 0} (instant : LogReading M) (log : Option (LogState M))
    → ((front : Front) → option_map (λ (s : LogState M). s.front) log ≡ Some front → (front.buffer ≡ []) × (front.is_ended ≡ true))
    → IsLeft (option_map (λ (s : LogState M). s.front) log) []
ended_left instant None is = refl
ended_left instant (Some log) is = let ended = is log.front refl in ([], rw ended.0 refl, λ _. refl)

ended_read : {M : Type 0} (instant : LogReading M) (first log : Option (LogState M)) (passed : List ℕ)
    → ((front : Front) → option_map (λ (s : LogState M). s.front) log ≡ Some front → (front.buffer ≡ []) × (front.is_ended ≡ true))
    → HasPassed instant first log passed → IsRead first log (passed ++ []) × IsDone instant first log (passed ++ [])
unfolding place_after_lines reading_after_lines
ended_read instant None None passed is h = (ap (λ (z : List ℕ). z ++ []) h, tt)
ended_read instant None (Some log) passed is h = absurd h
ended_read instant (Some first) None passed is h = absurd h
ended_read {M} instant (Some first) (Some log) passed is h =
    let ended = is log.front refl in
    let left : IsLeft (Some log.front) [] = ([], rw ended.0 refl, λ _. refl) in
    let at = reading_from instant log.memory in
    let none = lines_from-nil at log.front.place in
    let place = h.place [] left ∙ ap (place_after_lines log.front.place) none in
    let memory = h.memory [] left ∙ ap (reading_after_lines at) none in (
      rw ended.0 at h.consumed,
      (
        h.end ended.1,
        h.unfailed,
        ap (λ (z : Place). z.back) (sym place) ∙ place-back first_place (log_lines instant (passed ++ [])),
        ap (λ (z : Place). z.stamps) (sym place) ∙ log-stamps instant (passed ++ []),
        ap (λ (z : LogReading M). z.memory) (sym memory),
      ),
    )

no_lines : {M : Type 0} (instant : LogReading M) (front : Option Front) → front_lines instant front [] ≡ []
no_lines instant None = refl
no_lines instant (Some front) = lines_from-nil instant front.place

module _ {M : Type 0} (instant : ℕ → LogReading M) (is_strict : Bool) (first now : ℕ
    → Option (LogState M)) (before at : Output) (pending : List ℕ) (is_open : Bool)
    (h : Stands instant is_strict first now before at pending is_open) where
  module _ (known : AreKnown (readings_now instant now) is_strict (fronts_of now)) (ended : HaveEnded (fronts_of now)) where
    is_ended : (k : ℕ) (front : Front) → fronts_of now k ≡ Some front → (front.buffer ≡ []) × (front.is_ended ≡ true)
    is_ended k front e = (known k front e).0.none (ended k front e)

    all_lefts : (k : ℕ) → IsLeft (fronts_of now k) []
    all_lefts k = ended_left (instant k) (now k) (is_ended k)

    all_merge : Merges instant (λ k. h.passed k ++ []) h.out
    all_merge = rw append-nil at (h.leads (λ k. []) all_lefts [] (λ k. no_lines (readings_now instant now k) (fronts_of now k)))

    pub stands_end : (after : Output) → Appends at.written after.written pending → after.has_failed ≡ at.has_failed
        → IsMerged instant is_strict first now before after
    stands_end after written mark = record {
      bytes = λ k. h.passed k ++ [];
      out = h.out;
      read = λ k. (ended_read (instant k) (first k) (now k) (h.passed k) (is_ended k) (h.logs k)).0;
      done = λ k. (ended_read (instant k) (first k) (now k) (h.passed k) (is_ended k) (h.logs k)).1;
      merge = all_merge;
      written = Appends-flushed before.written at.written after.written pending (merge_text h.out) h.sent written;
      forward = h.forward;
      no_write_failed = mark ∙ h.unfailed;
    }

  -- a merge of what was read
  module _ (n : ℕ) (past : (j : ℕ) → n ≤ j → now j ≡ None) where
    buffers : ℕ → List ℕ
    buffers j = buffer_of (now j)

    more : (out : List (ℕ × Line)) × IsMerge (λ j. front_lines (readings_now instant now j) (fronts_of now j) (buffers j)) out
    more = merge_exists n (λ j. front_lines (readings_now instant now j) (fronts_of now j) (buffers j)) (λ j high. rw (past j high) refl)

    more_merge : Merges instant (λ j. h.passed j ++ buffers j) (h.out ++ more.0)
    unfolding buffers
    more_merge = h.leads buffers (λ j. still_left (now j)) more.0 more.1

    more_read : AreRead first now (λ j. h.passed j ++ buffers j)
    unfolding buffers
    more_read j = still_read (instant j) (first j) (now j) (h.passed j) (h.logs j)

    -- a write failed
    pub stands_cut : (result : Result Unit MergeFault) (after : Output) → IsErrAnd result (λ fault. fault ≡ Write)
        → AppendsBeginning at.written after.written pending → after.has_failed ≡ true → Ends result instant is_strict first now before after
    stands_cut (Ok done) after fault cut mark = absurd fault
    stands_cut (Err by) after fault cut mark =
        rw fault (record {
          bytes = λ j. h.passed j ++ buffers j;
          out = h.out ++ more.0;
          read = more_read;
          merge = more_merge;
          written = rw (merge_text-more h.out more.0) (AppendsBeginning-longer before.written after.written (merge_text h.out) _
              (AppendsBeginning-flushed before.written at.written after.written pending (merge_text h.out) h.sent cut));
          write_failed = mark;
        })

    -- too many lines
    pub stands_endless : (after : Output) → Appends at.written after.written pending → 2 ^ 64 - 1 ≤ length h.out
        → Ends (Err Endless) instant is_strict first now before after
    stands_endless after written long = record {
      bytes = λ j. h.passed j ++ buffers j;
      out = h.out ++ more.0;
      read = more_read;
      merge = more_merge;
      written = (
        merge_text h.out,
        text_from _ more.0,
        Appends-flushed before.written at.written after.written pending (merge_text h.out) h.sent written,
        merge_text-more h.out more.0,
      );
      long = inr (omega (arith, long, length-append h.out more.0));
    }

pub ends_cut : {M : Type 0} (result : Result Unit MergeFault) (fault : MergeFault) (instant : ℕ → LogReading M) (is_strict : Bool) (first now : ℕ
    → Option (LogState M))
    (before after : Output) → IsErrAnd result (λ by. by ≡ fault) → IsCut fault instant is_strict first now before after
    → Ends result instant is_strict first now before after
ends_cut (Ok done) fault instant is_strict first now before after by h = absurd by
ends_cut (Err e) fault instant is_strict first now before after by h = rw by h

-- the lines that are known
known_is : {M : Type 0} (instant : LogReading M) (is_strict : Bool) (o : Option Front) (front : Front) → IsKnown instant is_strict o → o ≡ Some front
    → IsKnown instant is_strict (Some front)
known_is instant is_strict o front h e = subst (IsKnown instant is_strict) e h

same_front : {M : Type 0} (was now : Option (LogState M)) (front : Front) → now ≡ was → option_map (λ (s : LogState M). s.front) now ≡ Some front
    → option_map (λ (s : LogState M). s.front) was ≡ Some front
same_front {M} was now front same e = ap (option_map (λ (s : LogState M). s.front)) (sym same) ∙ e

same_known : {M : Type 0} (instant : LogReading M) (is_strict : Bool) (was now : Option (LogState M)) (front : Front) → now ≡ was
    → IsKnown (reading_now instant was) is_strict (Some front) → IsKnown (reading_now instant now) is_strict (Some front)
same_known {M} instant is_strict was now front same h =
    subst (λ (z : Option (LogState M)). IsKnown (reading_now instant z) is_strict (Some front)) (sym same) h

pub known_more : {M : Type 0} (instant : ℕ → LogReading M) (is_strict : Bool) (was now : ℕ → Option (LogState M)) (k : ℕ)
    → ((j : ℕ) → j ≢ k → now j ≡ was j) → IsKnown (readings_now instant now k) is_strict (fronts_of now k)
    → ((j : ℕ) (front : Front) → j < k → fronts_of was j ≡ Some front → IsKnown (readings_now instant was j) is_strict (Some front))
    → (j : ℕ) (front : Front) → j < k + 1 → fronts_of now j ≡ Some front → IsKnown (readings_now instant now j) is_strict (Some front)
known_more instant is_strict was now k others here known =
    at_each (λ j. (front : Front) → j < k + 1 → fronts_of now j ≡ Some front → IsKnown (readings_now instant now j) is_strict (Some front)) k
    (λ front low e. known_is (readings_now instant now k) is_strict (fronts_of now k) front here e)
    (λ j other front low e. same_known (instant j) is_strict (was j) (now j) front (others j other)
    (known j front (omega (arith, other, low)) (same_front (was j) (now j) front (others j other) e)))

pub known_all : {M : Type 0} (instant : ℕ → LogReading M) (is_strict : Bool) (was now : ℕ → Option (LogState M)) (k : ℕ)
    → ((j : ℕ) → j ≢ k → now j ≡ was j) → IsKnown (readings_now instant now k) is_strict (fronts_of now k)
    → AreKnown (readings_now instant was) is_strict (fronts_of was) → AreKnown (readings_now instant now) is_strict (fronts_of now)
known_all instant is_strict was now k others here known =
    at_each (λ j. (front : Front) → fronts_of now j ≡ Some front → IsKnown (readings_now instant now j) is_strict (Some front)) k
    (λ front e. known_is (readings_now instant now k) is_strict (fronts_of now k) front here e)
    (λ j other front e. same_known (instant j) is_strict (was j) (now j) front (others j other)
    (known j front (same_front (was j) (now j) front (others j other) e)))

pub known_start : {M : Type 0} (instant : ℕ → LogReading M) (is_strict : Bool) (now : ℕ → Option (LogState M)) (n k : ℕ)
    → ((j : ℕ) → n ≤ j → now j ≡ None) → n ≤ k
    → ((j : ℕ) (front : Front) → j < k → fronts_of now j ≡ Some front → IsKnown (readings_now instant now j) is_strict (Some front))
    → AreKnown (readings_now instant now) is_strict (fronts_of now)
known_start {M} instant is_strict now n k past high known j front e =
    elim (cases_lt j n) [
      | inl low ↦ known j front (omega (arith, low, high)) e
      | inr far ↦ absurd (no_front front (ap (option_map (λ (s : LogState M). s.front)) (sym (past j far)) ∙ e))
    ]
