-- The next line of a merge, whatever bytes are left.
use Rattle.std.proofs.Common.{◌≡◌, ℕ, ◌<◌, Bool, true, false, List, [], ◌∷◌, ◌++◌, length, Option, Some, None, refl, sym, ap}
use Rattle.std.proofs.Common.{subst, ◌∙◌, inl, inr, arith, append-nil, length-append}
use Rattle.std.proofs.lemmas.Bool.{cases_Bool}
use Rattle.line_merges.proofs.LineLemmas.{first_line, front_line-behind_line, lines_from-first, lines_from-nil, longer-ended}
use Rattle.line_merges.specs.Choices.{IsNext}
use Rattle.line_merges.specs.Instants.{LogReading}
use Rattle.line_merges.specs.LineFronts.{behind_line, front_line, has_line_feed}
use Rattle.line_merges.specs.Lines.{Line, lines_from, place_after, reading_after}
use Rattle.line_merges.specs.Logs.{IsReady, memory_behind, place_behind}
use Rattle.line_merges.specs.Merges.{IsFirst}
use Rattle.line_merges.specs.Steps.{AreKnown, IsLeft, front_lines}
use Rattle.line_merges.specs.declared.logs.Front.{Front}
use Rattle.line_merges.specs.declared.logs.Place.{Place}

-- the first line that is left of a log
record HeadIs {M : Type 0} (instant : LogReading M) (o : Option Front) (left : List ℕ) (line : Line) : Type 0 where
  front : Front
  is : o ≡ Some front
  has_line : front.has_line ≡ true
  first : line ≡ first_line instant front.place left
  next : line.instant ≡ front.next

some_left : (front : Front) (left future : List ℕ) → left ≡ front.buffer ++ future → 0 < length front.buffer → 0 < length left
some_left front left future e some = omega (arith, ap length e, length-append front.buffer future, some)

same_head : (a b : Line) (xs ys : List Line) → a ∷ xs ≡ b ∷ ys → a ≡ b
same_head a b xs ys e = cc

no_line : (a : Line) (xs : List Line) → [] ≡ a ∷ xs → ⊥
no_line a xs e = cc

head-is : {M : Type 0} (instant : LogReading M) (o : Option Front) (left : List ℕ) (line : Line) (rest : List Line)
    → ((front : Front) → o ≡ Some front → IsReady instant front) → IsLeft o left → front_lines instant o left ≡ line ∷ rest → HeadIs instant o left line
head-is instant None left line rest known is e = absurd (no_line line rest e)
head-is instant (Some front) left line rest known is e =
    let ready = known front refl in
    elim (cases_Bool front.has_line) [
      | inl some ↦
          let lines = lines_from-first instant front.place left (some_left front left is.0 is.1 (ready.line some)) in
          let first : line ≡ first_line instant front.place left = same_head line _ rest _ (sym e ∙ lines) in
          let at : (first_line instant front.place left).instant ≡ front.next = rw is.1 (ready.next some is.0 is.2) in
          record {
            front = front;
            is = refl;
            has_line = some;
            first = first;
            next = ap (λ (z : Line). z.instant) first ∙ at;
          }
      | inr none ↦
          let nothing = ready.none none in
          let nil : left ≡ [] = is.1 ∙ (ap (λ (z : List ℕ). z ++ is.0) nothing.0 ∙ is.2 nothing.1) in
          absurd (no_line line rest (sym (lines_from-nil instant front.place) ∙ (ap (lines_from instant front.place) (sym nil) ∙ e)))
    ]

same_front : (a b : Front) → ◌≡◌ {A = Option Front} (Some a) (Some b) → a ≡ b
same_front a b e = cc

module _ {M : Type 0} (instant : ℕ → LogReading M) (is_strict : Bool) (fronts : ℕ → Option Front) (lefts : ℕ → List ℕ) (k : ℕ)
    (known : AreKnown instant is_strict fronts) (left : (j : ℕ) → IsLeft (fronts j) (lefts j)) (next : IsNext fronts k) where
  -- the bytes of the log that are left
  here : IsLeft (Some next.front) (lefts k)
  here = subst (λ (z : Option Front). IsLeft z (lefts k)) next.has (left k)

  pub next_some : 0 < length (lefts k)
  next_some = some_left next.front (lefts k) here.0 here.1 ((known k next.front next.has).0.line next.line)

  pub next_instant : (first_line (instant k) next.front.place (lefts k)).instant ≡ next.front.next
  next_instant = rw here.1 ((known k next.front next.has).0.next next.line here.0 here.2)

  pub next_kind : (first_line (instant k) next.front.place (lefts k)).kind ≡ next.front.kind
  next_kind = rw here.1 ((known k next.front next.has).0.kind next.line here.0 here.2)

  -- it is the first of the lines that are left
  pub next_lines : front_lines (instant k) (fronts k) (lefts k) ≡ first_line (instant k) next.front.place (lefts k)
      ∷ lines_from (reading_after (instant k) (first_line (instant k) next.front.place (lefts k)))
      (place_after next.front.place (first_line (instant k) next.front.place (lefts k))) (behind_line (lefts k))
  next_lines =
      ap (λ (z : Option Front). front_lines (instant k) z (lefts k)) next.has
      ∙ lines_from-first (instant k) next.front.place (lefts k) next_some

  pub next_first : IsFirst (λ j. front_lines (instant j) (fronts j) (lefts j)) k (first_line (instant k) next.front.place (lefts k))
  next_first j other rest e =
      let head = head-is (instant j) (fronts j) (lefts j) other rest (λ front f. (known j front f).0) (left j) e in (
        rw (head.next, next_instant) (next.least j head.front head.is head.has_line),
        λ low. rw (head.next, next_instant) (next.first j head.front low head.is head.has_line),
      )

  -- the place after it
  pub next_place : place_after next.front.place (first_line (instant k) next.front.place (lefts k)) ≡ place_behind next.front
  next_place = rw (next_instant, next_kind) refl

  -- what is known after it
  pub next_memory : (reading_after (instant k) (first_line (instant k) next.front.place (lefts k))).memory ≡ memory_behind (instant k) next.front
  next_memory = rw (next_kind, here.1) ((known k next.front next.has).0.after next.line here.0 here.2 _ next.front.kind)

  pub next_forward : is_strict ≡ true → (first_line (instant k) next.front.place (lefts k)).is_back ≡ false
  next_forward strict = rw next_instant ((known k next.front next.has).1 strict next.line)

-- bytes after those that were passed: a line feed ends the first line, or they are no more
pub record IsAfter (M : Type 0) (bytes later : List ℕ) : Type 0 where
  pub line : (instant : LogReading M) (place : Place) → first_line instant place (bytes ++ later) ≡ first_line instant place bytes
  pub behind : behind_line (bytes ++ later) ≡ behind_line bytes ++ later

pub after_feed : {M : Type 0} (bytes later : List ℕ) → has_line_feed bytes ≡ true → IsAfter M bytes later
after_feed bytes later feed =
    let longer = longer-ended bytes later feed in
    record { line = λ instant place. rw (longer.line, longer.feed, feed) refl; behind = longer.behind }

pub after_none : {M : Type 0} (bytes later : List ℕ) → later ≡ [] → IsAfter M bytes later
after_none bytes later none = record {
  line = λ instant place. ap (first_line instant place) (rw none (append-nil bytes));
  behind = rw (none, append-nil bytes, append-nil (behind_line bytes)) refl;
}

-- a text after the first line is the rest of the bytes
pub rest_behind : (bytes rest : List ℕ) → front_line bytes ++ rest ≡ bytes → rest ≡ behind_line bytes
rest_behind bytes rest e = append-left (front_line bytes) rest (behind_line bytes) (e ∙ sym (front_line-behind_line bytes)) where
  append-left : (xs ys zs : List ℕ) → xs ++ ys ≡ xs ++ zs → ys ≡ zs
  append-left [] ys zs e = e
  append-left (x ∷ xs) ys zs e = let tail : xs ++ ys ≡ xs ++ zs = cc in append-left xs ys zs tail
