-- The lines of bytes, one after another.
use Rattle.std.proofs.Common.{◌≡◌, ◌≢◌, ℕ, zero, suc, ◌+◌, ◌<◌, ◌≤◌, ◌⊎◌, inl, inr, Bool, true, false, nat_eq, nat_lt, List, [], ◌∷◌, ◌++◌, length, take}
use Rattle.std.proofs.Common.{drop, get_or, refl, sym, ap, subst, ◌∙◌, arith, append_assoc, append-nil}
use Rattle.std.proofs.lemmas.Bool.{cases_Bool, cases_lt, eqb-true, false≢true}
use Rattle.std.proofs.lemmas.Bool.Decides.{nat_tests}
use Rattle.std.proofs.lemmas.List.{take_all, take-append-le, drop_all}
use Rattle.line_devices.specs.LineLemmas.{pieces_of-parts, take-line_feed, whole_lines_of-parts}
use Rattle.line_devices.specs.LineParts.{HasNone, ended_from, rest_from}
use Rattle.line_merges.specs.Instants.{LogReading}
use Rattle.line_merges.specs.LineFronts.{line_in, has_line_feed, behind_line, front_line}
use Rattle.line_merges.specs.Lines.{Line, line_at, lines_at, lines_from, last_piece, place_after, reading_after}
use Rattle.line_merges.specs.declared.logs.Place.{Place}

-- the first line that a line feed ends
record EndsFirst (piece bytes : List ℕ) : Type 0 where
  ended : ended_from piece bytes ≡ (piece ++ line_in bytes) ∷ ended_from [] (behind_line bytes)
  rest : rest_from piece bytes ≡ rest_from [] (behind_line bytes)

ended-first : (piece bytes : List ℕ) → has_line_feed bytes ≡ true → EndsFirst piece bytes
unfolding ended_from rest_from line_in has_line_feed behind_line
ended-first piece [] h = absurd (false≢true h)
ended-first piece (byte ∷ bytes) h =
    elim (cases_Bool (nat_eq byte 10)) [
      | inl t ↦ record {
        ended = rw (t, append-nil piece) refl;
        rest = rw t refl;
      }
      | inr t ↦
          let more = ended-first (piece ++ byte ∷ []) bytes (rw t at h) in
          record {
            ended = rw t (more.ended ∙ ap (λ (z : List ℕ). z ∷ ended_from [] (behind_line bytes)) (append_assoc piece (byte ∷ []) (line_in bytes)));
            rest = rw t more.rest;
          }
    ]

-- bytes without a line feed
pub record EndsNone (piece bytes : List ℕ) : Type 0 where
  pub ended : ended_from piece bytes ≡ []
  pub rest : rest_from piece bytes ≡ piece ++ bytes
  pub line : line_in bytes ≡ bytes
  pub behind : behind_line bytes ≡ []

pub ended-none : (piece bytes : List ℕ) → has_line_feed bytes ≡ false → EndsNone piece bytes
unfolding ended_from rest_from line_in has_line_feed behind_line
ended-none piece [] h = record { ended = refl; rest = sym (append-nil piece); line = refl; behind = refl }
ended-none piece (byte ∷ bytes) h =
    elim (cases_Bool (nat_eq byte 10)) [
      | inl t ↦ absurd (false≢true (sym h ∙ rw t refl))
      | inr t ↦
          let more = ended-none (piece ++ byte ∷ []) bytes (rw t at h) in
          record {
            ended = rw t more.ended;
            rest = rw t (more.rest ∙ append_assoc piece (byte ∷ []) bytes);
            line = rw t (ap (λ (z : List ℕ). byte ∷ z) more.line);
            behind = rw t more.behind;
          }
    ]

-- the bytes are their first line and those after it
pub front_line-behind_line : (bytes : List ℕ) → front_line bytes ++ behind_line bytes ≡ bytes
unfolding line_in has_line_feed behind_line
front_line-behind_line [] = refl
front_line-behind_line (byte ∷ bytes) =
    elim (cases_Bool (nat_eq byte 10)) [
      | inl t ↦ rw t (ap (λ (z : ℕ). z ∷ bytes) (sym (eqb-true byte 10 t)))
      | inr t ↦ rw t (ap (λ (z : List ℕ). byte ∷ z) (front_line-behind_line bytes))
    ]

-- more bytes after a line feed
pub record LongerLine (xs ys : List ℕ) : Type 0 where
  pub line : line_in (xs ++ ys) ≡ line_in xs
  pub feed : has_line_feed (xs ++ ys) ≡ true
  pub behind : behind_line (xs ++ ys) ≡ behind_line xs ++ ys

pub longer-ended : (xs ys : List ℕ) → has_line_feed xs ≡ true → LongerLine xs ys
unfolding line_in has_line_feed behind_line
longer-ended [] ys h = absurd (false≢true h)
longer-ended (byte ∷ xs) ys h =
    elim (cases_Bool (nat_eq byte 10)) [
      | inl t ↦ record { line = rw t refl; feed = rw t refl; behind = rw t refl }
      | inr t ↦
          let more = longer-ended xs ys (rw t at h) in
          record { line = rw t (ap (λ (z : List ℕ). byte ∷ z) more.line); feed = rw t more.feed; behind = rw t more.behind }
    ]

-- more bytes after bytes without a line feed
pub record LongerPart (xs ys : List ℕ) : Type 0 where
  pub line : line_in (xs ++ ys) ≡ xs ++ line_in ys
  pub feed : has_line_feed (xs ++ ys) ≡ has_line_feed ys
  pub behind : behind_line (xs ++ ys) ≡ behind_line ys

pub longer-open : (xs ys : List ℕ) → has_line_feed xs ≡ false → LongerPart xs ys
unfolding line_in has_line_feed behind_line
longer-open [] ys h = record { line = refl; feed = refl; behind = refl }
longer-open (byte ∷ xs) ys h =
    elim (cases_Bool (nat_eq byte 10)) [
      | inl t ↦ absurd (false≢true (sym h ∙ rw t refl))
      | inr t ↦
          let more = longer-open xs ys (rw t at h) in
          record { line = rw t (ap (λ (z : List ℕ). byte ∷ z) more.line); feed = rw t more.feed; behind = rw t more.behind }
    ]

-- the place of the first line feed
pub record LineUpTo (bytes : List ℕ) (end : ℕ) : Type 0 where
  pub line : line_in bytes ≡ take end bytes
  pub feed : has_line_feed bytes ≡ true
  pub behind : behind_line bytes ≡ drop (end + 1) bytes

pub line_up_to : (bytes : List ℕ) (end : ℕ) → HasNone 10 bytes 0 end → end < length bytes → get_or bytes end 0 ≡ 10 → LineUpTo bytes end
unfolding line_in has_line_feed behind_line
line_up_to [] end none low is = absurd (omega (arith, low))
line_up_to (byte ∷ bytes) zero none low is =
    let t : nat_eq byte 10 ≡ true = grind (arith, nat_tests, is) in
    record { line = rw t refl; feed = rw t refl; behind = rw t refl }
line_up_to (byte ∷ bytes) (suc end) none low is =
    let other : byte ≢ 10 = none 0 (omega arith) (omega arith) in
    let t : nat_eq byte 10 ≡ false = grind (arith, nat_tests) in
    let more = line_up_to bytes end (λ k a b. none (suc k) (omega arith) (omega arith)) (omega (arith, low)) is in
    let next : suc end + 1 ≡ suc (end + 1) = omega arith in
    record { line = rw t (ap (λ (z : List ℕ). byte ∷ z) more.line); feed = rw t more.feed; behind = rw (t, next) more.behind }

pub no_line_feed : (bytes : List ℕ) → HasNone 10 bytes 0 (length bytes) → has_line_feed bytes ≡ false
unfolding has_line_feed
no_line_feed [] none = refl
no_line_feed (byte ∷ bytes) none =
    let other : byte ≢ 10 = none 0 (omega arith) (omega arith) in
    let t : nat_eq byte 10 ≡ false = grind (arith, nat_tests) in
    rw t (no_line_feed bytes (λ k a b. none (suc k) (omega arith) (omega arith)))

-- a line feed is found exactly if there is one
pub feed_found : (bytes : List ℕ) (end : ℕ) → HasNone 10 bytes 0 end → (end < length bytes → get_or bytes end 0 ≡ 10) → end ≤ length bytes
    → nat_lt end (length bytes) ≡ has_line_feed bytes
feed_found bytes end none there high =
    elim (cases_lt end (length bytes)) [
      | inl low ↦
          let t : nat_lt end (length bytes) ≡ true = grind (arith, nat_tests) in
          t ∙ sym (line_up_to bytes end none low (there low)).feed
      | inr past ↦
          let t : nat_lt end (length bytes) ≡ false = grind (arith, nat_tests) in
          let all : end ≡ length bytes = omega arith in
          t ∙ sym (no_line_feed bytes (subst (HasNone 10 bytes 0) all none))
    ]

-- the first line with its line feed, as so many bytes
pub record FrontIs (bytes : List ℕ) (count : ℕ) (feed : Bool) : Type 0 where
  pub line : take count bytes ≡ front_line bytes
  pub rest : drop count bytes ≡ behind_line bytes
  pub feed_is : feed ≡ has_line_feed bytes

pub front_found : (bytes : List ℕ) (end : ℕ) → HasNone 10 bytes 0 end → end < length bytes → get_or bytes end 0 ≡ 10 → FrontIs bytes (end + 1) true
front_found bytes end none low is =
    let up = line_up_to bytes end none low is in
    record {
      line = take-line_feed bytes end low is ∙ rw (up.line, up.feed) refl;
      rest = sym up.behind;
      feed_is = sym up.feed;
    }

pub front_whole : (bytes : List ℕ) (end : ℕ) → HasNone 10 bytes 0 end → end ≡ length bytes → FrontIs bytes end false
front_whole bytes end none all =
    let feed = no_line_feed bytes (subst (HasNone 10 bytes 0) all none) in
    let parts = ended-none [] bytes feed in
    record {
      line = take_all end bytes (omega (arith, all)) ∙ rw (feed, parts.line) (sym (append-nil bytes));
      rest = drop_all end bytes (omega (arith, all)) ∙ sym parts.behind;
      feed_is = sym feed;
    }

-- the bytes that decide on the first line
pub line_decided : {A : Type 0} (of : List ℕ → A) (bytes future : List ℕ) → ((line : List ℕ) → of (take 65536 line) ≡ of line)
    → (future ≡ []) ⊎ ((65536 ≤ length bytes) ⊎ (has_line_feed bytes ≡ true)) → of (line_in (bytes ++ future)) ≡ of (line_in bytes)
line_decided of bytes future by_head (inl none) = rw (none, append-nil bytes) refl
line_decided of bytes future by_head (inr (inr feed)) = ap of (longer-ended bytes future feed).line
line_decided of bytes future by_head (inr (inl long)) =
    elim (cases_Bool (has_line_feed bytes)) [
      | inl feed ↦ ap of (longer-ended bytes future feed).line
      | inr none ↦
          let longer = (longer-open bytes future none).line in
          let here = (ended-none [] bytes none).line in
          let front : take 65536 (bytes ++ line_in future) ≡ take 65536 bytes = take-append-le 65536 bytes (line_in future) long in
          ap of longer ∙ (sym (by_head (bytes ++ line_in future)) ∙ (ap of front ∙ (by_head bytes ∙ ap of (sym here))))
    ]

-- the bytes up to the first line feed, or all
pub line_in-found : (bytes : List ℕ) (end : ℕ) → end ≤ length bytes → HasNone 10 bytes 0 end → (end < length bytes → get_or bytes end 0 ≡ 10)
    → take end bytes ≡ line_in bytes
line_in-found bytes end high none there =
    elim (cases_lt end (length bytes)) [
      | inl low ↦ sym (line_up_to bytes end none low (there low)).line
      | inr past ↦
          let all : end ≡ length bytes = omega arith in
          take_all end bytes past ∙ sym (ended-none [] bytes (no_line_feed bytes (subst (HasNone 10 bytes 0) all none))).line
    ]

last_piece-append : (pieces : List (List ℕ)) (piece : List ℕ) → last_piece (pieces ++ piece ∷ []) ≡ piece
last_piece-append [] piece = refl
last_piece-append (x ∷ []) piece = refl
last_piece-append (x ∷ y ∷ pieces) piece = last_piece-append (y ∷ pieces) piece

pub lines_from-parts : {M : Type 0} (instant : LogReading M) (place : Place) (bytes : List ℕ)
    → lines_from instant place bytes ≡ lines_at instant place (ended_from [] bytes) (rest_from [] bytes)
unfolding lines_from
lines_from-parts instant place bytes =
    rw (whole_lines_of-parts bytes, pieces_of-parts bytes, last_piece-append (ended_from [] bytes) (rest_from [] bytes)) refl

-- no bytes have no line
pub lines_from-nil : {M : Type 0} (instant : LogReading M) (place : Place) → lines_from instant place [] ≡ []
unfolding ended_from rest_from lines_at
lines_from-nil instant place = lines_from-parts instant place []

lines_at-rest : {M : Type 0} (instant : LogReading M) (place : Place) (rest : List ℕ) → 0 < length rest
    → lines_at instant place [] rest ≡ line_at instant place rest false ∷ []
unfolding lines_at
lines_at-rest instant place [] some = absurd (omega (arith, some))
lines_at-rest instant place (byte ∷ rest) some = refl

-- the line of these bytes is the first of them
abbrev pub first_line : {M : Type 0} → LogReading M → Place → List ℕ → Line
first_line instant place bytes = line_at instant place (line_in bytes) (has_line_feed bytes)

pub lines_from-first : {M : Type 0} (instant : LogReading M) (place : Place) (bytes : List ℕ) → 0 < length bytes
    → lines_from instant place bytes ≡ first_line instant place bytes ∷ lines_from (reading_after instant (first_line instant place bytes)) (place_after place
    (first_line instant place bytes)) (behind_line bytes)
unfolding lines_at
lines_from-first instant place bytes some =
    elim (cases_Bool (has_line_feed bytes)) [
      | inl t ↦
          let first = ended-first [] bytes t in
          let next = place_after place (line_at instant place (line_in bytes) true) in
          lines_from-parts instant place bytes
          ∙ rw (first.ended, first.rest, t) (ap (λ (z : List Line). line_at instant place (line_in bytes) true ∷ z) (sym (lines_from-parts (reading_after
          instant
          (line_at instant place (line_in bytes) true)) next (behind_line bytes))))
      | inr t ↦
          let none = ended-none [] bytes t in
          let next = place_after place (line_at instant place bytes false) in
          lines_from-parts instant place bytes
          ∙ rw (none.ended, none.rest, t, none.line, none.behind)
          (lines_at-rest instant place bytes some
          ∙ ap (λ (z : List Line). line_at instant place bytes false ∷ z) (sym (lines_from-nil (reading_after instant (line_at instant place bytes false))
          next)))
    ]

-- the first line of bytes, and those behind it, by the place of its line feed
pub record FirstOf (bytes : List ℕ) (end : ℕ) : Type 0 where
  pub line : take end bytes ≡ line_in bytes
  pub rest : end < length bytes → drop (end + 1) bytes ≡ behind_line bytes
  pub whole : length bytes ≤ end → bytes ≡ line_in bytes
  pub none : length bytes ≤ end → [] ≡ behind_line bytes

pub first_of-found : (bytes : List ℕ) (end : ℕ) → end ≤ length bytes → HasNone 10 bytes 0 end → (end < length bytes → get_or bytes end 0 ≡ 10)
    → FirstOf bytes end
first_of-found bytes end high none there =
    let no_feed : length bytes ≤ end → has_line_feed bytes ≡ false =
    λ past. no_line_feed bytes (subst (HasNone 10 bytes 0) (omega (arith, past, high)) none) in
    record {
      line = line_in-found bytes end high none there;
      rest = λ low. sym (line_up_to bytes end none low (there low)).behind;
      whole = λ past. sym (ended-none [] bytes (no_feed past)).line;
      none = λ past. sym (ended-none [] bytes (no_feed past)).behind;
    }
