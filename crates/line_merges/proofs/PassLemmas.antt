-- A line of a log that is passed, part by part.
use Rattle.std.proofs.Common.{◌≡◌, ℕ, ◌+◌, ◌-◌, ◌^◌, ◌<◌, ◌≤◌, Bool, true, false, List, [], ◌++◌, length, Option, Result, Ok, Err, refl, sym, ap}
use Rattle.std.proofs.Common.{◌∙◌, append_assoc, append-nil, arith}
use Rattle.std.proofs.Common.{length-append}
use Rattle.std.specs.Prelude.{IsErrAnd}
use Rattle.std.specs.Io.KnownBytes.{Appends, Consumes}
use Rattle.std.proofs.lemmas.Bool.{false≢true}
use Rattle.line_devices.specs.Device.{Devices, devices}
use Rattle.line_devices.specs.InputLemmas.{Consumes-append, Consumes-nil}
use Rattle.line_devices.specs.Writing.{AppendsBeginning, Sends}
use Rattle.line_devices.specs.WritingLemmas.{Appends-flushed, AppendsBeginning-longer, AppendsBeginning-pending, Sends-append}
use Rattle.line_devices.specs.WritingLemmas.{Sends-nothing}
use Rattle.line_merges.proofs.LineLemmas.{ended-none, front_line-behind_line, longer-open}
use Rattle.line_merges.proofs.ReadLemmas.{at_end_later, fails_later, Sends-pending}
use Rattle.line_merges.specs.LineFronts.{behind_line, feed_if, front_line, has_line_feed, line_in}
use Rattle.line_merges.specs.Logs.{Fails, IsUnfailed, PassesLine, place_behind, Reads}
use Rattle.line_merges.specs.declared.logs.Front.{Front}
use Rattle.line_merges.specs.declared.logs.LogFault.{LogFault}
use Rattle.line_merges.specs.declared.logs.LogFault.TheVariants.{Read, Write, Endless}

pub front_line-open : (xs ys : List ℕ) → has_line_feed xs ≡ false → front_line (xs ++ ys) ≡ xs ++ front_line ys
front_line-open xs ys none =
    let longer = longer-open xs ys none in
    rw (longer.line, longer.feed) (append_assoc xs (line_in ys) (feed_if (has_line_feed ys)))

pub front_line-none : (bytes : List ℕ) → has_line_feed bytes ≡ false → front_line bytes ≡ bytes
front_line-none bytes none = rw (none, (ended-none [] bytes none).line) (append-nil bytes)

pub room : (bytes buffer : List ℕ) → has_line_feed bytes ≡ false → buffer ≡ behind_line bytes → length buffer < 65536
room bytes buffer none is = rw (is, (ended-none [] bytes none).behind) (omega arith)

write_no_read : ◌≡◌ {A = LogFault} Write Read → ⊥
write_no_read is = cc

endless_no_read : ◌≡◌ {A = LogFault} Endless Read → ⊥
endless_no_read is = cc

none_yet : has_line_feed [] ≡ false
unfolding has_line_feed
none_yet = refl

-- a beginning of the line was passed, which has no line feed
pub record Passing (old now : Front) (before at : Devices) (was_pending pending : List ℕ) (turn : ℕ) : Type 0 where
  pub more : List ℕ
  pub passed : List ℕ
  pub consumed : Consumes before.left at.left more
  pub parts : old.buffer ++ more ≡ passed ++ now.buffer
  pub none : has_line_feed passed ≡ false
  pub sent : Sends before.written at.written pending (was_pending ++ passed)
  pub unfailed : IsUnfailed before at
  pub turns : turn ≤ length more
  pub ended : old.is_ended ≡ true → (more ≡ []) × (now.is_ended ≡ true) × (at.left ≡ before.left)
  pub still : old.is_ended ≡ false → now.is_ended ≡ false
  pub place : now.place ≡ old.place
  pub next : now.next ≡ old.next
  pub kind : now.kind ≡ old.kind

pub passing_first : (front : Front) (left w : Option (List ℕ)) (r m : Bool) (pending : List ℕ)
    → Passing front front (devices left w r m) (devices left w r m) pending pending 0
passing_first front left w r m pending = record {
  more = [];
  passed = [];
  consumed = Consumes-nil left;
  parts = append-nil front.buffer;
  none = none_yet;
  sent = rw append-nil (Sends-nothing w pending);
  unfailed = record { read = refl; write = refl };
  turns = omega arith;
  ended = λ e. (refl, e, refl);
  still = λ e. e;
  place = refl;
  next = refl;
  kind = refl;
}

module _ (old now : Front) (before : Devices) (left w w' : Option (List ℕ)) (r m m' : Bool) (was_pending pending pending' : List ℕ) (turn : ℕ)
    (h : Passing old now before (devices left w r m) was_pending pending turn) where
  -- the first line of all bytes
  line_text_is : front_line (old.buffer ++ h.more) ≡ h.passed ++ front_line now.buffer
  line_text_is = ap front_line h.parts ∙ front_line-open h.passed now.buffer h.none

  feed_is : has_line_feed (old.buffer ++ h.more) ≡ has_line_feed now.buffer
  feed_is = ap has_line_feed h.parts ∙ (longer-open h.passed now.buffer h.none).feed

  part_sent : Sends w w' pending' (pending ++ front_line now.buffer) → Sends before.written w' pending' (was_pending ++ front_line (old.buffer ++ h.more))
  part_sent sent =
      rw (line_text_is, ← append_assoc was_pending h.passed (front_line now.buffer))
      (Sends-append before.written w w' pending (was_pending ++ h.passed) pending' (front_line now.buffer) h.sent sent)

  rest_is : front_line (old.buffer ++ h.more) ++ behind_line now.buffer ≡ old.buffer ++ h.more
  rest_is =
      ap (λ (z : List ℕ). z ++ behind_line now.buffer) line_text_is
      ∙ (append_assoc h.passed (front_line now.buffer) (behind_line now.buffer)
      ∙ (ap (λ (z : List ℕ). h.passed ++ z) (front_line-behind_line now.buffer) ∙ sym h.parts))

  -- the line ends in the bytes that were read
  pub line_ends : (at_place new : Front) → has_line_feed now.buffer ≡ true → Sends w w' pending' (pending ++ front_line now.buffer) → m' ≡ m
      → new.buffer ≡ behind_line now.buffer → new.is_ended ≡ now.is_ended → at_place.place ≡ now.place → at_place.next ≡ now.next
      → at_place.kind ≡ now.kind → new.place ≡ place_behind at_place
      → PassesLine (Ok true) old new before (devices left w' r m') was_pending pending'
  line_ends at_place new feed sent mark buffer ended same next kind place = (
    h.more,
    h.consumed,
    λ e. (h.ended e).0,
    record {
      text = ap (λ (z : List ℕ). front_line (old.buffer ++ h.more) ++ z) buffer ∙ rest_is;
      feed = feed_is ∙ feed;
      unended = λ e. absurd (false≢true (sym e));
      place = place ∙ rw (same, next, kind, h.place, h.next, h.kind) refl;
      ended = λ e. (ended ∙ (h.ended e).1, (h.ended e).2);
      end = λ e f. absurd (false≢true (sym (ended ∙ h.still e) ∙ f));
      sent = part_sent sent;
      unfailed = record { read = h.unfailed.read; write = mark ∙ h.unfailed.write };
    },
  )

  -- a write failed
  pub line_cut : (result : Result Bool LogFault) (new : Front) → IsErrAnd result (λ fault. fault ≡ Write)
      → AppendsBeginning w w' (pending ++ front_line now.buffer) → m' ≡ true → PassesLine result old new before (devices left w' r m') was_pending pending'
  line_cut (Ok done) new fault cut mark = absurd fault
  line_cut (Err by) new fault cut mark = (
    h.more,
    h.consumed,
    λ e. (h.ended e).0,
    rw fault (
      (
        rw (line_text_is, ← append_assoc was_pending h.passed (front_line now.buffer))
            (AppendsBeginning-pending before.written w w' pending (was_pending ++ h.passed) (front_line now.buffer) h.sent cut),
        h.unfailed.read,
        mark,
      ),
      λ is. absurd (write_no_read is),
    ),
  )

  -- the line does not end in the bytes that were read, which were sent
  whole : List ℕ
  whole = h.passed ++ now.buffer

  whole_none : has_line_feed now.buffer ≡ false → has_line_feed whole ≡ false
  unfolding whole
  whole_none none = (longer-open h.passed now.buffer h.none).feed ∙ none

  whole_sent : has_line_feed now.buffer ≡ false → Sends w w' pending' (pending ++ front_line now.buffer)
      → Sends before.written w' pending' (was_pending ++ whole)
  unfolding whole
  whole_sent none sent =
      rw (← append_assoc was_pending h.passed now.buffer)
      (Sends-append before.written w w' pending (was_pending ++ h.passed) pending' now.buffer h.sent (rw (front_line-none now.buffer none) at sent))

  -- a read failed then, or a write before it
  pub read_cut : (mid new : Front) (after : Devices) (last : List ℕ) (fault : LogFault) (result : Result Bool LogFault) → has_line_feed now.buffer ≡ false
      → Sends w w' pending' (pending ++ front_line now.buffer) → m' ≡ m → mid.is_ended ≡ now.is_ended
      → IsErrAnd result (λ by. by ≡ fault)
      → (more : List ℕ) × Reads mid new (devices left w' r m') after more × ((more ≡ []) × Fails fault (devices left w' r m') after pending' more)
      → PassesLine result old new before after was_pending last
  unfolding whole
  read_cut mid new after last fault (Ok done) none sent mark ended by k = absurd by
  read_cut mid new after last fault (Err e) none sent mark ended by k =
      let consumed : Consumes before.left after.left h.more = rw (k.2.0, append-nil h.more) at
      (Consumes-append before.left left after.left h.more k.0 h.consumed k.1.consumed) in
      let text : front_line (old.buffer ++ h.more) ≡ whole = line_text_is ∙ ap (λ (z : List ℕ). h.passed ++ z) (front_line-none now.buffer none) in
      let failed : Fails fault before after (was_pending ++ whole) (h.more ++ k.0) = fails_later fault before (devices left w' r m') after pending'
      (was_pending ++ whole) h.more k.0 (whole_sent none sent) (record { read = h.unfailed.read; write = mark ∙ h.unfailed.write }) k.2.1 in (
        h.more,
        consumed,
        λ e. (h.ended e).0,
        rw (by, text) (rw (k.2.0, append-nil h.more) at failed, λ _. feed_is ∙ none),
      )

  -- more bytes were read behind them, or none is left
  module _ (mid new : Front) (after : Devices) (last : List ℕ) (none : has_line_feed now.buffer ≡ false)
      (sent : Sends w w' pending' (pending ++ front_line now.buffer)) (mark : m' ≡ m) (buffer : mid.buffer ≡ behind_line now.buffer)
      (ended : mid.is_ended ≡ now.is_ended) (place : mid.place ≡ now.place)
      (k : (more : List ℕ) × Reads mid new (devices left w' r m') after more
      × (Sends w' after.written last pending' × IsUnfailed (devices left w' r m') after × (new.is_ended ≡ false → 0 < length more)
      × (new.is_ended ≡ true → more ≡ []) × (new.next ≡ mid.next) × (new.kind ≡ mid.kind))) (same_next : mid.next ≡ now.next)
      (same_kind : mid.kind ≡ now.kind) where
    all_more : List ℕ
    all_more = h.more ++ k.0

    new_buffer : new.buffer ≡ k.0
    new_buffer = k.1.added ∙ ap (λ (z : List ℕ). z ++ k.0) (buffer ∙ (ended-none [] now.buffer none).behind)

    all_parts : old.buffer ++ all_more ≡ whole ++ new.buffer
    unfolding whole all_more
    all_parts =
        sym (append_assoc old.buffer h.more k.0)
        ∙ (ap (λ (z : List ℕ). z ++ k.0) h.parts ∙ ap (λ (z : List ℕ). (h.passed ++ now.buffer) ++ z) (sym new_buffer))

    all_consumed : Consumes before.left after.left all_more
    unfolding all_more
    all_consumed = Consumes-append before.left left after.left h.more k.0 h.consumed k.1.consumed

    all_sent : Sends before.written after.written last (was_pending ++ whole)
    all_sent = Sends-pending before.written w' after.written pending' last (was_pending ++ whole) (whole_sent none sent) k.2.0

    all_unfailed : IsUnfailed before after
    all_unfailed = record { read = k.2.1.read ∙ h.unfailed.read; write = k.2.1.write ∙ (mark ∙ h.unfailed.write) }

    all_ended : old.is_ended ≡ true → (all_more ≡ []) × (new.is_ended ≡ true) × (after.left ≡ before.left)
    unfolding all_more
    all_ended e =
        let was = h.ended e in
        let here = k.1.ended (ended ∙ was.1) in
        (rw (was.0, here.0) refl, here.1, here.2 ∙ was.2)

    -- the next part
    pub next_part : new.is_ended ≡ false → Passing old new before after was_pending last (turn + 1)
    unfolding all_more
    next_part more = record {
      more = all_more;
      passed = whole;
      consumed = all_consumed;
      parts = all_parts;
      none = whole_none none;
      sent = all_sent;
      unfailed = all_unfailed;
      turns = omega (arith, h.turns, k.2.2 more, length-append h.more k.0);
      ended = all_ended;
      still = λ _. more;
      place = k.1.place ∙ (place ∙ h.place);
      next = k.2.4 ∙ (same_next ∙ h.next);
      kind = k.2.5 ∙ (same_kind ∙ h.kind);
    }

    -- the end of the log
    pub line_over : (over : Front) → new.is_ended ≡ true → over.buffer ≡ new.buffer → over.is_ended ≡ new.is_ended
        → over.place ≡ place_behind new
        → PassesLine (Ok false) old over before after was_pending last
    line_over over end same still behind =
        let empty : new.buffer ≡ [] = new_buffer ∙ k.2.3 end in
        let all : old.buffer ++ all_more ≡ whole = all_parts ∙ (ap (λ (z : List ℕ). whole ++ z) empty ∙ append-nil whole) in
        let feed : has_line_feed (old.buffer ++ all_more) ≡ false = ap has_line_feed all ∙ whole_none none in
        let text : front_line (old.buffer ++ all_more) ≡ old.buffer ++ all_more = front_line-none (old.buffer ++ all_more) feed in (
          all_more,
          all_consumed,
          λ e. (all_ended e).0,
          record {
            text = ap (λ (z : List ℕ). front_line (old.buffer ++ all_more) ++ z) (same ∙ empty) ∙ (append-nil (front_line (old.buffer ++ all_more)) ∙ text);
            feed = feed;
            unended = λ _. (same ∙ empty, still ∙ end);
            place = behind ∙ rw (k.1.place, place, h.place, k.2.4, same_next, h.next, k.2.5, same_kind, h.kind) refl;
            ended = λ e. (still ∙ end, (all_ended e).2);
            end = λ e _. at_end_later before.left left after.left h.more h.consumed (k.1.end (ended ∙ h.still e) end);
            sent = rw (text, all) all_sent;
            unfailed = all_unfailed;
          },
        )

  -- too many parts
  pub line_endless : (was : Sends before.written w pending (was_pending ++ h.passed)) → turn ≡ 2 ^ 64 - 1 → Appends w w' pending → m' ≡ m
      → PassesLine (Err Endless) old now before (devices left w' r m') was_pending pending'
  line_endless was end written mark = (
    h.more,
    h.consumed,
    λ e. (h.ended e).0,
    (
      (
        (
          was_pending ++ h.passed,
          front_line now.buffer,
          Appends-flushed before.written w w' pending (was_pending ++ h.passed) was written,
          rw line_text_is (sym (append_assoc was_pending h.passed (front_line now.buffer))),
        ),
        record { read = h.unfailed.read; write = mark ∙ h.unfailed.write },
        omega (arith, h.turns, end),
      ),
      λ is. absurd (endless_no_read is),
    ),
  )

  pub endless_cut : (result : Result Bool LogFault) → IsErrAnd result (λ fault. fault ≡ Write) → AppendsBeginning w w' pending → m' ≡ true
      → PassesLine result old now before (devices left w' r m') was_pending pending'
  endless_cut result fault cut mark = line_cut result now fault (AppendsBeginning-longer w w' pending (front_line now.buffer) cut) mark
