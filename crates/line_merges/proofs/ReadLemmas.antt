-- Reads of a log.
use Rattle.std.proofs.Common.{◌≡◌, ℕ, ◌<◌, Bool, true, false, nat_eq, List, [], ◌∷◌, ◌++◌, length, Option, Some, None, Result, Ok, Err, refl, sym, ap, ◌∙◌}
use Rattle.std.proofs.Common.{append-nil, append_assoc, length-append, arith, ℤ, ◌⊎◌, inl, inr, ◌≤◌, take, not, get_or, subst}
use Rattle.std.specs.Prelude.{IsErrAnd, is_some}
use Rattle.std.specs.Io.KnownBytes.{Appends, Consumes, IsAtEnd, Keeps}
use Rattle.std.proofs.lemmas.Bool.{false≢true, eqb-true}
use Rattle.std.proofs.lemmas.Bool.Decides.{nat_tests}
use Rattle.std.proofs.KnownBytes.{Keeps-refl}
use Rattle.line_devices.specs.Device.{Devices, devices}
use Rattle.line_devices.specs.InputLemmas.{Consumes-append, Consumes-nil, Consumes-keep}
use Rattle.line_devices.specs.Writing.{AppendsBeginning, Sends}
use Rattle.line_devices.specs.WritingLemmas.{Appends-append, Appends-flushed, AppendsBeginning-flushed, Sends-nothing}
use Rattle.line_devices.specs.LineParts.{HasNone}
use Rattle.line_devices.specs.StampTallies.{kind_of}
use Rattle.line_devices.specs.StampTallyLemmas.{kind_of-front}
use Rattle.line_devices.specs.declared.stamp_tallies.LineKind.{LineKind}
use Rattle.line_merges.proofs.LineLemmas.{line_decided, line_in-found}
use Rattle.line_merges.specs.Buffers.{Behind}
use Rattle.line_merges.specs.Instants.{LogReading, next_instant, up_to}
use Rattle.line_merges.specs.LineFronts.{has_line_feed, line_in}
use Rattle.line_merges.specs.Logs.{AppendsFront, Fails, FindsNext, IsAtEndAfter, IsEnough, IsReady, IsUnfailed, Reads, ReadsOn}
use Rattle.line_merges.specs.declared.logs.Front.{Front}
use Rattle.line_merges.specs.declared.logs.LogFault.{LogFault}
use Rattle.line_merges.specs.declared.logs.LogFault.TheVariants.{Read, Write, Endless}

at_end_after : (a b : Option (List ℕ)) (taken : List ℕ) → Consumes a b taken → IsAtEnd b → IsAtEndAfter a b
at_end_after None b taken h e = tt
at_end_after (Some a) None taken h e = absurd h
at_end_after (Some a) (Some b) taken h e = ap Some e

-- nothing was read of a log that is not at its end
pub reads_nothing : (old new : Front) (left left' w w' : Option (List ℕ)) (r r' m m' : Bool) → old.is_ended ≡ false → new.is_ended ≡ false
    → new.buffer ≡ old.buffer → new.place ≡ old.place → Keeps left left' → Reads old new (devices left w r m) (devices left' w' r' m') []
reads_nothing old new left left' w w' r r' m m' more still buffer place kept = record {
  added = buffer ∙ sym (append-nil old.buffer);
  consumed = Consumes-keep left left left' [] (Consumes-nil left) kept;
  place = place;
  ended = λ e. absurd (false≢true (sym more ∙ e));
  end = λ _ e. absurd (false≢true (sym still ∙ e));
}

no_bytes : (bytes : List ℕ) → length bytes ≡ 0 → bytes ≡ []
no_bytes [] h = refl
no_bytes (byte ∷ bytes) h = absurd (omega (arith, h))

-- pending bytes that are sent
pub Sends-pending : (a b c : Option (List ℕ)) (p q text : List ℕ) → Sends a b p text → Sends b c q p → Sends a c q text
Sends-pending a b c p q text h k = record {
  sent = h.sent ++ k.sent;
  appended = Appends-append a b c h.sent k.sent h.appended k.appended;
  whole = h.whole ∙ (ap (λ (z : List ℕ). h.sent ++ z) k.whole ∙ sym (append_assoc h.sent k.sent q));
}

-- a write failed before the read
pub cut_before_read : (result : Result Unit LogFault) (front : Front) (left w w' : Option (List ℕ)) (r m m' : Bool) (was_pending pending : List ℕ)
    → front.is_ended ≡ false → IsErrAnd result (λ fault. fault ≡ Write) → AppendsBeginning w w' was_pending → m' ≡ true
    → ReadsOn result front front (devices left w r m) (devices left w' r m') was_pending pending
cut_before_read (Ok done) front left w w' r m m' was_pending pending more fault cut marked = absurd fault
cut_before_read (Err by) front left w w' r m m' was_pending pending more fault cut marked = (
  [],
  reads_nothing front front left left w w' r r m m' more more refl refl (Keeps-refl left),
  rw fault (refl, (cut, refl, marked)),
)

-- the read failed
pub read_failed : (old new : Front) (left left' w w' : Option (List ℕ)) (r r' m m' : Bool) (was_pending pending : List ℕ) → old.is_ended ≡ false
    → new.is_ended ≡ false → new.buffer ≡ old.buffer → new.place ≡ old.place → Keeps left left' → Appends w w' was_pending → r' ≡ true → m' ≡ m
    → ReadsOn (Err Read) old new (devices left w r m) (devices left' w' r' m') was_pending pending
read_failed old new left left' w w' r r' m m' was_pending pending more still buffer place kept written read write =
    ([], reads_nothing old new left left' w w' r r' m m' more still buffer place kept, (refl, (written, read, write)))

-- bytes were read, or the end
pub read_some : (old : Front) (new : Front) (count : ℕ) (left left' w w' : Option (List ℕ)) (r r' m m' : Bool) (was_pending pending : List ℕ)
    → old.is_ended ≡ false → Behind count old.buffer new.buffer left left' → new.place ≡ old.place → new.is_ended ≡ nat_eq count 0
    → Appends w w' was_pending → pending ≡ [] → r' ≡ r → m' ≡ m → new.next ≡ old.next → new.kind ≡ old.kind
    → ReadsOn (Ok tt) old new (devices left w r m) (devices left' w' r' m') was_pending pending
read_some old new count left left' w w' r r' m m' was_pending pending unended behind place ended written none read write next kind = (
  behind.more,
  record {
    added = behind.added;
    consumed = behind.consumed;
    place = place;
    ended = λ e. absurd (false≢true (sym unended ∙ e));
    end = λ _ e. at_end_after left left' behind.more behind.consumed (behind.end (eqb-true count 0 (sym ended ∙ e)));
  },
  (
    rw none (record { sent = was_pending; appended = written; whole = sym (append-nil was_pending) }),
    record { read = read; write = write },
    λ more. let some : nat_eq count 0 ≡ false = sym ended ∙ more in grind (arith, nat_tests, some, behind.number),
    λ end. no_bytes behind.more (behind.number ∙ eqb-true count 0 (sym ended ∙ end)),
    next,
    kind,
  ),
)

-- before the first read
pub reads_first : (front : Front) (left w : Option (List ℕ)) (r m : Bool) → Reads front front (devices left w r m) (devices left w r m) []
reads_first front left w r m = record {
  added = sym (append-nil front.buffer);
  consumed = Consumes-nil left;
  place = refl;
  ended = λ e. (refl, e, refl);
  end = λ f e. absurd (false≢true (sym f ∙ e));
}

pub at_end_later : (a b c : Option (List ℕ)) (taken : List ℕ) → Consumes a b taken → IsAtEndAfter b c → IsAtEndAfter a c
at_end_later None b c taken h e = tt
at_end_later (Some a) None c taken h e = absurd h
at_end_later (Some a) (Some b) c taken h e = e

-- the log is at its end
pub read_none : (front : Front) (left w : Option (List ℕ)) (r m : Bool) (pending : List ℕ) → front.is_ended ≡ true
    → ReadsOn (Ok tt) front front (devices left w r m) (devices left w r m) pending pending
read_none front left w r m pending ended = (
  [],
  reads_first front left w r m,
  (Sends-nothing w pending, record { read = refl; write = refl }, λ e. absurd (false≢true (sym e ∙ ended)), λ _. refl, refl, refl),
)

-- one read after another
pub reads_more : (old mid new : Front) (before between after : Devices) (xs ys : List ℕ) → mid.is_ended ≡ false → Reads old mid before between xs
    → Reads mid new between after ys → Reads old new before after (xs ++ ys)
reads_more old mid new before between after xs ys more h k = record {
  added = k.added ∙ (ap (λ (z : List ℕ). z ++ ys) h.added ∙ append_assoc old.buffer xs ys);
  consumed = Consumes-append before.left between.left after.left xs ys h.consumed k.consumed;
  place = k.place ∙ h.place;
  ended = λ e. absurd (false≢true (sym more ∙ (h.ended e).1));
  end = λ f e. at_end_later before.left between.left after.left xs h.consumed (k.end more e);
}

not_empty : (bytes : List ℕ) (is_empty : Bool) → is_empty ≡ nat_eq (length bytes) 0 → not is_empty ≡ true → 0 < length bytes
not_empty bytes true e h = absurd (false≢true h)
not_empty bytes false e h = grind (arith, nat_tests, sym e)

is_nil : (bytes : List ℕ) (is_empty : Bool) → is_empty ≡ nat_eq (length bytes) 0 → not is_empty ≡ false → bytes ≡ []
is_nil [] is_empty e h = refl
is_nil (byte ∷ bytes) true e h = let more : nat_eq (length (byte ∷ bytes)) 0 ≡ false = grind (arith, nat_tests) in absurd (false≢true (sym (e ∙ more)))
is_nil (byte ∷ bytes) false e h = absurd (false≢true (sym h))

no_feed : has_line_feed [] ≡ false
unfolding has_line_feed
no_feed = refl

none_more : (front : Front) → IsEnough front → length front.buffer ≡ 0 → has_line_feed front.buffer ≡ has_line_feed [] → front.is_ended ≡ true
none_more front (inl ended) none feed = ended
none_more front (inr (inl long)) none feed = absurd (omega (arith, long, none))
none_more front (inr (inr some)) none feed = absurd (false≢true (sym (feed ∙ no_feed) ∙ some))

future_is : (front : Front) (future : List ℕ) {bytes : List ℕ} → IsEnough front → (front.is_ended ≡ true → future ≡ []) → front.buffer ≡ bytes
    → (future ≡ []) ⊎ ((65536 ≤ length bytes) ⊎ (has_line_feed bytes ≡ true))
future_is front future (inl ended) more same = inl (more ended)
future_is front future (inr (inl long)) more same = inr (inl (subst (λ (z : List ℕ). 65536 ≤ length z) same long))
future_is front future (inr (inr feed)) more same = inr (inr (sym (ap has_line_feed same) ∙ feed))

-- the next line is known
pub look_ready : {M : Type 0} (instant : LogReading M) (old new : Front) (end : ℕ) (bytes : List ℕ) (own : Option ℤ) (is_empty : Bool)
    → ((last : Option ℤ) (is_first : Bool) (line : List ℕ) → next_instant instant last is_first (take 65536 line) ≡ next_instant instant last is_first line)
    → ((number : ℕ) (kind : LineKind) (line : List ℕ)
    → instant.after instant.memory number kind (take 65536 line) ≡ instant.after instant.memory number kind line)
    → IsEnough old → bytes ≡ old.buffer
    → end ≤ length old.buffer → HasNone 10 old.buffer 0 end → (end < length old.buffer → get_or old.buffer end 0 ≡ 10)
    → own ≡ next_instant instant old.place.last (nat_eq old.place.lines 0) (take end bytes) → is_empty ≡ nat_eq (length bytes) 0 → new.buffer ≡ old.buffer
    → new.is_ended ≡ old.is_ended
    → new.place ≡ old.place → new.has_line ≡ not is_empty → new.next ≡ up_to old.place.last own → new.kind ≡ kind_of (take end bytes) (is_some own)
    → IsReady instant new
look_ready instant old new end bytes own is_empty by_head head enough whole high none there is empty buffer ended place has next kind =
    let line : take end bytes ≡ line_in bytes = rw whole (line_in-found old.buffer end high none there) in
    let here : new.buffer ≡ bytes = buffer ∙ sym whole in
    let first = next_instant instant old.place.last (nat_eq old.place.lines 0) in
    let first_by_head = by_head old.place.last (nat_eq old.place.lines 0) in
    let kind_in : List ℕ → LineKind = λ z. kind_of z (is_some (first z)) in
    record {
      line = λ some. rw here (not_empty bytes is_empty empty (sym has ∙ some));
      none = λ none. (
        here ∙ is_nil bytes is_empty empty (sym has ∙ none),
        ended ∙ none_more old enough (ap length (sym whole
            ∙ is_nil bytes is_empty empty (sym has ∙ none))) (ap has_line_feed (sym whole ∙ is_nil bytes is_empty empty (sym has ∙ none))),
      );
      next = λ some future more.
          let decided = line_decided first bytes future first_by_head (future_is old future enough (λ e. more (ended ∙ e)) (sym whole)) in
          rw (here, place) (ap (up_to old.place.last) (decided ∙ (ap first (sym line) ∙ sym is)) ∙ sym next);
      kind = λ some future more.
          let by_kind = λ (z : List ℕ). ap (λ (o : Option ℤ). kind_of (take 65536 z) (is_some o)) (first_by_head z)
          ∙ kind_of-front z (is_some (first z)) in
          let decided = line_decided kind_in bytes future by_kind (future_is old future enough (λ e. more (ended ∙ e)) (sym whole)) in
          rw (here, place) (decided ∙ (ap kind_in (sym line) ∙ (ap (λ (o : Option ℤ). kind_of (take end bytes) (is_some o)) (sym is) ∙ sym kind)));
      after = λ some future more number kind.
          rw here (line_decided (instant.after instant.memory number kind) bytes future (head number kind)
          (future_is old future enough (λ e. more (ended ∙ e)) (sym whole)));
    }

-- so many reads, with the pending bytes written before each
pub record Finds (old now : Front) (before at : Devices) (was_pending pending : List ℕ) : Type 0 where
  pub more : List ℕ
  pub reads : Reads old now before at more
  pub sent : Sends before.written at.written pending was_pending
  pub unfailed : IsUnfailed before at

pub finds_first : (front : Front) (left w : Option (List ℕ)) (r m : Bool) (pending : List ℕ)
    → Finds front front (devices left w r m) (devices left w r m) pending pending
finds_first front left w r m pending = record {
  more = [];
  reads = reads_first front left w r m;
  sent = Sends-nothing w pending;
  unfailed = record { read = refl; write = refl };
}

pub finds_more : (old mid new : Front) (before between after : Devices) (was_pending pending pending' : List ℕ) → mid.is_ended ≡ false
    → Finds old mid before between was_pending pending → ReadsOn (Ok tt) mid new between after pending pending'
    → Finds old new before after was_pending pending'
finds_more old mid new before between after was_pending pending pending' more h k = record {
  more = h.more ++ k.0;
  reads = reads_more old mid new before between after h.more k.0 more h.reads k.1;
  sent = Sends-pending before.written between.written after.written pending pending' was_pending h.sent k.2.0;
  unfailed = record { read = k.2.1.read ∙ h.unfailed.read; write = k.2.1.write ∙ h.unfailed.write };
}

front_later : (a b c : Option (List ℕ)) (pending text : List ℕ) → Sends a b pending text → AppendsFront b c pending → AppendsFront a c text
front_later a b c pending text h k = (
  h.sent ++ k.0,
  k.1,
  Appends-append a b c h.sent k.0 h.appended k.2,
  h.whole ∙ (ap (λ (z : List ℕ). h.sent ++ z) k.3 ∙ sym (append_assoc h.sent k.0 k.1)),
)

-- a failure after bytes that were sent
pub fails_later : (fault : LogFault) (before between after : Devices) (pending text xs ys : List ℕ) → Sends before.written between.written pending text
    → IsUnfailed before between → Fails fault between after pending ys → Fails fault before after text (xs ++ ys)
fails_later Read before between after pending text xs ys sent u h =
    (Appends-flushed before.written between.written after.written pending text sent h.0, h.1, h.2 ∙ u.write)
fails_later Write before between after pending text xs ys sent u h =
    (AppendsBeginning-flushed before.written between.written after.written pending text sent h.0, h.1 ∙ u.read, h.2)
fails_later Endless before between after pending text xs ys sent u h = (
  front_later before.written between.written after.written pending text sent h.0,
  record { read = h.1.read ∙ u.read; write = h.1.write ∙ u.write },
  omega (arith, h.2, length-append xs ys),
)

pub finds_failed : {M : Type 0} (result : Result Unit LogFault) (fault : LogFault) (instant : LogReading M) (old mid new : Front)
    (before between after : Devices) (was_pending pending pending' : List ℕ) → mid.is_ended ≡ false → Finds old mid before between was_pending pending
    → has_line_feed mid.buffer ≡ false → IsErrAnd result (λ by. by ≡ fault)
    → (more : List ℕ) × Reads mid new between after more × ((more ≡ []) × Fails fault between after pending more)
    → FindsNext result instant old new before after was_pending pending'
finds_failed (Ok done) fault instant old mid new before between after was_pending pending pending' more h none by k = absurd by
finds_failed (Err e) fault instant old mid new before between after was_pending pending pending' more h none by k = (
  h.more ++ k.0,
  reads_more old mid new before between after h.more k.0 more h.reads k.1,
  rw by (
    fails_later fault before between after pending was_pending h.more k.0 h.sent h.unfailed k.2.1,
    ap has_line_feed (k.1.added ∙ rw (k.2.0, append-nil mid.buffer) refl) ∙ none,
  ),
)
