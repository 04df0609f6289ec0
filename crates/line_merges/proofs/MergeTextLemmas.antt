-- The text of a merge has the lines of the merge.
use Rattle.std.proofs.Common.{◌≡◌, ℕ, ◌<◌, nat_eq, Bool, true, false, not, List, [], ◌∷◌, ◌++◌, drop, length, map, refl, sym, ap, ◌∙◌, subst}
use Rattle.std.proofs.Common.{inl, inr, arith, append_assoc, append-nil, cond}
use Rattle.std.specs.Prelude.{⊤}
use Rattle.std.proofs.lemmas.Bool.{cases_Bool}
use Rattle.line_devices.specs.LineLemmas.{ended_from-append, rest_from-append, lines_of-parts}
use Rattle.line_devices.specs.LineParts.{ended_from, rest_from}
use Rattle.line_devices.specs.Lines.{lines_of, unless_empty}
use Rattle.line_merges.proofs.LineLemmas.{lines_from-parts}
use Rattle.line_merges.specs.Instants.{LogReading}
use Rattle.line_merges.specs.LineFronts.{feed_if}
use Rattle.line_merges.specs.Lines.{Line, line_at, line_text, lines_at, log_lines, first_place, place_after, reading_after}
use Rattle.line_merges.specs.Merges.{behind, IsMerge, text_from, merge_text}
use Rattle.line_merges.specs.declared.logs.Place.{Place}

-- bytes without a line feed, after any others
abbrev NoFeed : List ℕ → Type 0
NoFeed bytes = (piece : List ℕ) → (ended_from piece bytes ≡ []) × (rest_from piece bytes ≡ piece ++ bytes)

no_bytes-no_feed : NoFeed []
unfolding ended_from rest_from
no_bytes-no_feed = λ piece. (refl, sym (append-nil piece))

one_byte-no_feed : (byte : ℕ) → nat_eq byte 10 ≡ false → NoFeed (byte ∷ [])
unfolding ended_from rest_from
one_byte-no_feed byte t = λ piece. (rw t refl, rw t refl)

append-no_feed : (xs ys : List ℕ) → NoFeed xs → NoFeed ys → NoFeed (xs ++ ys)
append-no_feed xs ys h g = λ piece. (
  ended_from-append piece xs ys ∙ (rw ((h piece).0, (h piece).1) (g (piece ++ xs)).0),
  rest_from-append piece xs ys ∙ (rw (h piece).1 ((g (piece ++ xs)).1 ∙ append_assoc piece xs ys)),
)

-- each of these has no line feed
abbrev AllNoFeed : List (List ℕ) → Type 0
AllNoFeed [] = ⊤
AllNoFeed (x ∷ xs) = NoFeed x × AllNoFeed xs

ended_from-no_feed : (piece bytes : List ℕ) → NoFeed piece → AllNoFeed (ended_from piece bytes) × NoFeed (rest_from piece bytes)
unfolding ended_from rest_from
ended_from-no_feed piece [] h = (tt, h)
ended_from-no_feed piece (byte ∷ bytes) h =
    elim (cases_Bool (nat_eq byte 10)) [
      | inl t ↦ let more = ended_from-no_feed [] bytes no_bytes-no_feed in rw t ((h, more.0), more.1)
      | inr t ↦ rw t (ended_from-no_feed (piece ++ byte ∷ []) bytes (append-no_feed piece (byte ∷ []) h (one_byte-no_feed byte t)))
    ]

-- a line without a line feed in it, which is not empty if none ends it
record IsWhole (line : Line) : Type 0 where
  none : NoFeed line.bytes
  some : line.is_ended ≡ false → 0 < length line.bytes

abbrev AllWhole : List Line → Type 0
AllWhole [] = ⊤
AllWhole (line ∷ lines) = IsWhole line × AllWhole lines

lines_at-whole : {M : Type 0} (reading : LogReading M) (place : Place) (lines : List (List ℕ)) (rest : List ℕ) → AllNoFeed lines → NoFeed rest
    → AllWhole (lines_at reading place lines rest)
unfolding lines_at
lines_at-whole reading place [] [] h g = tt
lines_at-whole reading place [] (byte ∷ rest) h g = (
  record {
    none = g;
    some = λ _. omega arith;
  },
  tt,
)
lines_at-whole reading place (line ∷ lines) rest h g = (
  record {
    none = h.0;
    some = λ e. absurd cc;
  },
  (let next = line_at reading place line true in
      lines_at-whole (reading_after reading next) (place_after place next) lines rest h.1 g),
)

log_lines-whole : {M : Type 0} (reading : LogReading M) (log : List ℕ) → AllWhole (log_lines reading log)
unfolding log_lines
log_lines-whole reading log =
    let h = ended_from-no_feed [] log no_bytes-no_feed in
    rw (lines_from-parts reading first_place log) (lines_at-whole reading first_place (ended_from [] log) (rest_from [] log) h.0 h.1)

-- the lines of a merge are those of its logs
abbrev AllOutWhole : List (ℕ × Line) → Type 0
AllOutWhole [] = ⊤
AllOutWhole (out ∷ more) = IsWhole out.1 × AllOutWhole more

drop-whole : (lines : List Line) → AllWhole lines → AllWhole (drop 1 lines)
drop-whole [] h = tt
drop-whole (line ∷ lines) h = h.1

behind-whole : (logs : ℕ → List Line) (k j : ℕ) → AllWhole (logs j) → AllWhole (behind logs k j)
behind-whole logs k j h =
    elim (nat_eq j k) as (λ t. AllWhole (cond t (drop 1 (logs j)) (logs j))) [ true ↦ drop-whole (logs j) h | false ↦ h ]

merge-whole : (logs : ℕ → List Line) (out : List (ℕ × Line)) → IsMerge logs out → ((j : ℕ) → AllWhole (logs j)) → AllOutWhole out
merge-whole logs [] h g = tt
merge-whole logs (out ∷ more) h g =
    let own : AllWhole (out.1 ∷ h.0) = subst AllWhole h.1 (g out.0) in
    (own.0, merge-whole (behind logs out.0) more h.3 (λ j. behind-whole logs out.0 j (g j)))

-- the bytes of each line
abbrev bytes_of : List (ℕ × Line) → List (List ℕ)
bytes_of out = map (λ (line : ℕ × Line). line.1.bytes) out

-- the lines of a text after the beginning of one
abbrev lines_after : List ℕ → List ℕ → List (List ℕ)
lines_after piece text = ended_from piece text ++ unless_empty (rest_from piece text)

unless_empty-some : (piece : List ℕ) → 0 < length piece → unless_empty piece ≡ piece ∷ []
unless_empty-some [] h = absurd (omega (arith, h))
unless_empty-some (byte ∷ piece) h = refl

feed-lines : (piece text : List ℕ) → lines_after piece (10 ∷ text) ≡ piece ∷ lines_after [] text
unfolding ended_from rest_from
feed-lines piece text = refl

bytes-lines : (bytes text : List ℕ) → NoFeed bytes → lines_after [] (bytes ++ text) ≡ lines_after bytes text
bytes-lines bytes text h =
    rw (ended_from-append [] bytes text, rest_from-append [] bytes text, (h []).0, (h []).1) refl

-- one line, and the lines after it
line-lines : (line : Line) (more : List (ℕ × Line)) → IsWhole line → lines_after [] (text_from false more) ≡ bytes_of more
    → ((piece : List ℕ) → 0 < length piece → lines_after piece (text_from true more) ≡ piece ∷ bytes_of more)
    → lines_after [] (line_text line ++ text_from (not line.is_ended) more) ≡ line.bytes ∷ bytes_of more
line-lines line more h closed open_after =
    let bytes = line.bytes in
    let by_end : (is_ended : Bool) → (is_ended ≡ false → 0 < length bytes)
    → lines_after [] ((bytes ++ feed_if is_ended) ++ text_from (not is_ended) more) ≡ bytes ∷ bytes_of more
    = λ is_ended. elim is_ended as (λ e. (e ≡ false → 0 < length bytes)
    → lines_after [] ((bytes ++ feed_if e) ++ text_from (not e) more) ≡ bytes ∷ bytes_of more) [
      | true ↦ λ _. ap (lines_after []) (append_assoc bytes (10 ∷ []) (text_from false more))
          ∙ bytes-lines bytes (10 ∷ text_from false more) h.none ∙ feed-lines bytes (text_from false more)
          ∙ ap (λ (z : List (List ℕ)). bytes ∷ z) closed
      | false ↦ λ some. ap (λ (z : List ℕ). lines_after [] (z ++ text_from true more)) (append-nil bytes)
          ∙ bytes-lines bytes (text_from true more) h.none ∙ open_after bytes (some refl)
    ] in
    by_end line.is_ended h.some

-- the lines of a merge, after a line that a line feed ends, and after one that none ends
record LinesOf (out : List (ℕ × Line)) : Type 0 where
  closed : lines_after [] (text_from false out) ≡ bytes_of out
  unended : (piece : List ℕ) → 0 < length piece → lines_after piece (text_from true out) ≡ piece ∷ bytes_of out

text_from-lines : (out : List (ℕ × Line)) → AllOutWhole out → LinesOf out
unfolding text_from ended_from rest_from
text_from-lines [] h = record {
  closed = refl;
  unended = λ piece some. unless_empty-some piece some;
}
text_from-lines (out ∷ more) h =
    let after = text_from-lines more h.1 in
    let first = line-lines out.1 more h.0 after.closed after.unended in
    record {
      closed = first;
      unended = λ piece some. feed-lines piece (line_text out.1 ++ text_from (not out.1.is_ended) more)
          ∙ ap (λ (z : List (List ℕ)). piece ∷ z) first;
    }

-- a merge of texts
pub merge_text-lines : {M : Type 0} (readings : ℕ → LogReading M) (texts : ℕ → List ℕ) (out : List (ℕ × Line))
    → IsMerge (λ k. log_lines (readings k) (texts k)) out → lines_of (merge_text out) ≡ bytes_of out
merge_text-lines readings texts out h =
    let whole = merge-whole (λ k. log_lines (readings k) (texts k)) out h (λ j. log_lines-whole (readings j) (texts j)) in
    lines_of-parts (merge_text out) ∙ (text_from-lines out whole).closed
