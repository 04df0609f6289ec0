-- The fields of a line, one after another.
use Rattle.std.proofs.Common.{◌≡◌, ℕ, zero, suc, ◌+◌, ◌-◌, ◌<◌, ◌≤◌, Bool, true, false, nat_eq, nat_lt, List, [], ◌∷◌, ◌++◌, length, take, drop, get_or}
use Rattle.std.proofs.Common.{set, min}
use Rattle.std.proofs.Common.{inl, inr, append_assoc, length-append, refl, sym, ap, subst, ◌∙◌, arith}
use Rattle.std.proofs.Math.Seq.{take-append_seam}
use Rattle.std.proofs.lemmas.Bool.{cases_Bool}
use Rattle.std.proofs.lemmas.Bool.Decides.{nat_tests}
use Rattle.std.proofs.lemmas.List.{drop_more, drop_all, take_more_set, take-append-drop, length-take, length-take-le}
use Rattle.muxandu_c.specs.Answers.{status_number}
use Rattle.muxandu_c.specs.FieldSpans.{next_place, place_after, ends_field, Line, Ahead, ahead_of_end, ahead_of, ended_at, is_line_end, lines_from, is_quoted}
use Rattle.muxandu_c.specs.FieldSpans.{span_of_field, span_of_number, spans_of_lines, spans_status}
use Rattle.muxandu_c.specs.declared.refused.Refused.TheVariants as refused
use Rattle.muxandu_c.specs.declared.values.MuxanduSpan.{MuxanduSpan}

-- ---- the bytes of a field

-- a byte that ends it
pub field-ends : (s q place k : ℕ) (t : List ℕ) (d : ℕ) (ends : Bool) (x : Ahead) → k < length t → ends ≡ ends_field s place (get_or t k d) → ends ≡ true
    → ahead_of s q place k (drop k t) ≡ x → ended_at s q k (drop k t) ≡ x
unfolding ahead_of
field-ends s q place k t d ends x low e true_ends before =
    let here : ended_at s q k (drop k t) ≡ ahead_of s q place k (drop k t) = rw (drop_more t k d low, ← e, true_ends) refl in
    here ∙ before

-- a byte of it
pub field-goes_on : (s q place k : ℕ) (t : List ℕ) (d : ℕ) (ends : Bool) (next : ℕ) (x : Ahead) → k < length t
    → ends ≡ ends_field s place (get_or t k d) → ends ≡ false → next ≡ next_place q place (get_or t k d)
    → ahead_of s q place k (drop k t) ≡ x → ahead_of s q next (k + 1) (drop (k + 1) t) ≡ x
unfolding ahead_of
field-goes_on s q place k t d ends next x low e goes_on f before =
    let here : ahead_of s q next (k + 1) (drop (k + 1) t) ≡ ahead_of s q place k (drop k t) =
    rw (drop_more t k d low, ← e, goes_on, ← f) refl in
    here ∙ before

-- the end of the text
pub field-all : (s q place k n : ℕ) (t : List ℕ) (x : Ahead) → length t ≤ k → k ≡ n → ahead_of s q place k (drop k t) ≡ x
    → ended_at s q n (drop n t) ≡ x
unfolding ahead_of
field-all s q place k n t x end same before =
    let here : ended_at s q k (drop k t) ≡ ahead_of s q place k (drop k t) = rw (drop_all k t end) refl in
    subst (λ (m : ℕ). ended_at s q m (drop m t) ≡ x) same (here ∙ before)

-- ---- the place after a field

-- one more byte
pub place_after-more : (q place next k end : ℕ) (t : List ℕ) (d : ℕ) (x : ℕ) → k < end → end ≤ length t → next ≡ next_place q place (get_or t k d)
    → place_after q place (take (end - k) (drop k t)) ≡ x → place_after q next (take (end - (k + 1)) (drop (k + 1) t)) ≡ x
place_after-more q place next k end t d x low room f before =
    let left : end - k ≡ suc (end - (k + 1)) = omega (arith, low) in
    let inside : k < length t = omega (arith, low, room) in
    let rest = take (end - (k + 1)) (drop (k + 1) t) in
    let here : place_after q (next_place q place (get_or t k d)) rest ≡ place_after q place (take (end - k) (drop k t)) =
    rw (left, drop_more t k d inside) refl in
    ap (λ (n : ℕ). place_after q n rest) f ∙ here ∙ before

-- after the first byte of a field without quotes, each byte leaves it so
place_after-bare : (q : ℕ) (bytes : List ℕ) → place_after q 1 bytes ≡ 1
place_after-bare q [] = refl
place_after-bare q (byte ∷ bytes) = place_after-bare q bytes

-- a field of a byte at most has no quote that closes it, nor has one that begins with another byte
pub place_after-short : (q : ℕ) (bytes : List ℕ) → length bytes < 2 → nat_eq (place_after q 0 bytes) 3 ≡ false
place_after-short q [] short = refl
place_after-short q (byte ∷ []) short =
    elim (cases_Bool (nat_eq byte q)) [
      | inl t ↦ rw t refl
      | inr t ↦ rw t refl
    ]
place_after-short q (byte ∷ next ∷ bytes) short = absurd (omega (arith, short))

pub place_after-other : (q : ℕ) (byte : ℕ) (bytes : List ℕ) → nat_eq byte q ≡ false → nat_eq (place_after q 0 (byte ∷ bytes)) 3 ≡ false
place_after-other q byte bytes other = rw (other, place_after-bare q bytes) refl

pub is_quoted-short : (q : ℕ) (t : List ℕ) (start end : ℕ) → end - start < 2 → false ≡ is_quoted q t start end
is_quoted-short q t start end short =
    sym (place_after-short q (take (end - start) (drop start t)) (omega (arith, short, length-take (end - start) (drop start t))))

pub is_quoted-other : (q : ℕ) (t : List ℕ) (start end d : ℕ) → start < end → end ≤ length t → nat_eq (get_or t start d) q ≡ false
    → false ≡ is_quoted q t start end
is_quoted-other q t start end d some room other =
    let left : end - start ≡ suc (end - (start + 1)) = omega (arith, some) in
    let inside : start < length t = omega (arith, some, room) in
    sym (rw (left, drop_more t start d inside) (place_after-other q (get_or t start d) (take (end - (start + 1)) (drop (start + 1) t)) other))

-- ---- the end of a field

ahead_of_end-end : (k byte : ℕ) (text : List ℕ) (a : Ahead) → (ahead_of_end k byte text a).end ≡ k
ahead_of_end-end k byte text a =
    elim (cases_Bool (nat_eq byte 10)) [
      | inl t ↦ rw t refl
      | inr t ↦ rw t refl
    ]

pub ended_at-end : (s q k : ℕ) (x : List ℕ) → (ended_at s q k x).end ≡ k
ended_at-end s q k [] = refl
ended_at-end s q k (byte ∷ x) = ahead_of_end-end k byte x (ahead_of s q 0 (k + 1) x)

pub ended_at-last : (s q k : ℕ) (x : List ℕ) → is_line_end x ≡ true → (ended_at s q k x).fields ≡ []
ended_at-last s q k [] e = refl
ended_at-last s q k (byte ∷ x) e = rw e refl

-- a line that goes on has a byte here
pub not_at_end : (k : ℕ) (t : List ℕ) → is_line_end (drop k t) ≡ false → k < length t
not_at_end k t e =
    elim (cases_Bool (nat_lt k (length t))) [
      | inl low ↦ grind (arith, nat_tests)
      | inr high ↦
          let end : length t ≤ k = grind (arith, nat_tests) in
          let last : is_line_end (drop k t) ≡ true = rw (drop_all k t end) refl in
          let bad = sym e ∙ last in
          absurd cc
    ]

-- the next field, if the line goes on
more_fields : (s q k byte : ℕ) (t : List ℕ) → nat_eq byte 10 ≡ false → let a = ahead_of s q 0 (k + 1) t in
    ended_at s q k (byte ∷ t) ≡ (record { end = k; fields = (k + 1, a.end) ∷ a.fields; lines = a.lines })
more_fields s q k byte t e = rw e refl

more_fields_at : (s q k : ℕ) (t : List ℕ) → is_line_end (drop k t) ≡ false → let a = ahead_of s q 0 (k + 1) (drop (k + 1) t) in
    ended_at s q k (drop k t) ≡ (record { end = k; fields = (k + 1, a.end) ∷ a.fields; lines = a.lines })
more_fields_at s q k t e =
    let low = not_at_end k t e in
    let byte : nat_eq (get_or t k 0) 10 ≡ false = rw (drop_more t k 0 low) at e in
    rw (drop_more t k 0 low) (more_fields s q k (get_or t k 0) (drop (k + 1) t) byte)

pub lines-more : (s q k : ℕ) (t : List ℕ) → is_line_end (drop k t) ≡ false
    → (ahead_of s q 0 (k + 1) (drop (k + 1) t)).lines ≡ (ended_at s q k (drop k t)).lines
lines-more s q k t e = sym (ap (λ (a : Ahead). a.lines) (more_fields_at s q k t e))

-- the line after a newline
pub lines-next_line : (s q k : ℕ) (t : List ℕ) → k < length t → is_line_end (drop k t) ≡ true
    → lines_from s q (k + 1) (drop (k + 1) t) ≡ (ended_at s q k (drop k t)).lines
lines-next_line s q k t low e =
    let newline : nat_eq (get_or t k 0) 10 ≡ true = rw (drop_more t k 0 low) at e in
    rw (drop_more t k 0 low, newline) refl

-- no line after the end of the text
pub lines-none : (s q k : ℕ) (t : List ℕ) → length t ≤ k → lines_from s q k (drop k t) ≡ (ended_at s q k (drop k t)).lines
lines-none s q k t end = rw (drop_all k t end) refl

-- ---- a field by its number

-- a line with fewer fields
pub number-last : (s q : ℕ) (t : List ℕ) (left start end : ℕ) (a : Ahead) (w : MuxanduSpan) → 0 < left → is_line_end (drop end t) ≡ true
    → ended_at s q end (drop end t) ≡ a → span_of_number q t left start a.end a.fields ≡ w → (record { start = end; length = 0 }) ≡ w
number-last s q t zero start end a w some last ahead before = absurd (omega (arith, some))
number-last s q t (suc m) start end a w some last ahead before =
    let none : a.fields ≡ [] = ap (λ (b : Ahead). b.fields) (sym ahead) ∙ ended_at-last s q end (drop end t) last in
    let there : a.end ≡ end = ap (λ (b : Ahead). b.end) (sym ahead) ∙ ended_at-end s q end (drop end t) in
    let empty : ℕ → MuxanduSpan = λ n. record { start = n; length = 0 } in
    sym (ap (λ (fields : List (ℕ × ℕ)). span_of_number q t (suc m) start a.end fields) none ∙ ap empty there) ∙ before

-- one more field
pub number-more : (s q : ℕ) (t : List ℕ) (left start end : ℕ) (a : Ahead) (w : MuxanduSpan) → 0 < left → is_line_end (drop end t) ≡ false
    → ended_at s q end (drop end t) ≡ a → span_of_number q t left start a.end a.fields ≡ w → let b = ahead_of s q 0 (end + 1) (drop (end + 1) t) in
    span_of_number q t (left - 1) (end + 1) b.end b.fields ≡ w
number-more s q t zero start end a w some more ahead before = absurd (omega (arith, some))
number-more s q t (suc m) start end a w some more ahead before =
    let b = ahead_of s q 0 (end + 1) (drop (end + 1) t) in
    let fields : a.fields ≡ (end + 1, b.end) ∷ b.fields =
    ap (λ (c : Ahead). c.fields) (sym ahead) ∙ ap (λ (c : Ahead). c.fields) (more_fields_at s q end t more) in
    let one_less : suc m - 1 ≡ m = omega arith in
    ap (λ (n : ℕ). span_of_number q t n (end + 1) b.end b.fields) one_less
    ∙ sym (ap (λ (rest : List (ℕ × ℕ)). span_of_number q t (suc m) start a.end rest) fields) ∙ before

-- the field itself
pub number-none_left : (s q : ℕ) (t : List ℕ) (left start end : ℕ) (a : Ahead) (span w : MuxanduSpan) → left ≤ 0
    → span ≡ span_of_field q t start end → ended_at s q end (drop end t) ≡ a → span_of_number q t left start a.end a.fields ≡ w → span ≡ w
number-none_left s q t (suc m) start end a span w none is ahead before = absurd (omega (arith, none))
number-none_left s q t zero start end a span w none is ahead before =
    let there : end ≡ a.end = sym (ended_at-end s q end (drop end t)) ∙ ap (λ (b : Ahead). b.end) ahead in
    is ∙ ap (λ (n : ℕ). span_of_field q t start n) there ∙ before

-- ---- line by line

lines-at : (s q k : ℕ) (t : List ℕ) → k < length t → let a = ahead_of s q 0 k (drop k t) in
    lines_from s q k (drop k t) ≡ (record { start = k; end = a.end; fields = a.fields }) ∷ a.lines
lines-at s q k t low = rw (drop_more t k 0 low) refl

-- one more line
pub spans-more : (s q n k next count : ℕ) (t : List ℕ) (out all : List MuxanduSpan) (span : MuxanduSpan) → k < length t → count < length out →
    let a = ahead_of s q 0 k (drop k t) in
    span ≡ span_of_number q t n k a.end a.fields → lines_from s q next (drop next t) ≡ a.lines
    → take count out ++ spans_of_lines q t n (lines_from s q k (drop k t)) ≡ all
    → take (count + 1) (set out count span) ++ spans_of_lines q t n (lines_from s q next (drop next t)) ≡ all
spans-more s q n k next count t out all span low room is follows before =
    let a = ahead_of s q 0 k (drop k t) in
    let rest = spans_of_lines q t n a.lines in
    let here : spans_of_lines q t n (lines_from s q k (drop k t)) ≡ span ∷ rest =
    ap (spans_of_lines q t n) (lines-at s q k t low) ∙ ap (λ (first : MuxanduSpan). first ∷ rest) (sym is) in
    ap (λ (front : List MuxanduSpan). front ++ spans_of_lines q t n (lines_from s q next (drop next t))) (take_more_set out count span room)
    ∙ ap (λ (lines : List Line). (take count out ++ span ∷ []) ++ spans_of_lines q t n lines) follows
    ∙ append_assoc (take count out) (span ∷ []) rest ∙ ap (λ (behind : List MuxanduSpan). take count out ++ behind) (sym here) ∙ before

-- the front of all spans, where they are those that were written and more
written_front : (count : ℕ) (out initial all rest : List MuxanduSpan) → count ≤ length out → take count out ++ rest ≡ all
    → drop count out ≡ drop count initial → out ≡ take count all ++ drop count initial
written_front count out initial all rest room done behind =
    let size : length (take count out) ≡ count = length-take-le count out room in
    let front : take count all ≡ take count out =
    ap (take count) (sym done) ∙ ap (λ (n : ℕ). take n (take count out ++ rest)) (sym size) ∙ take-append_seam (take count out) rest in
    sym (take-append-drop count out) ∙ ap (λ (z : List MuxanduSpan). z ++ drop count out) (sym front)
    ∙ ap (λ (z : List MuxanduSpan). take count all ++ z) behind

-- no room for one more line
pub spans-no_room : (s q n k count : ℕ) (t : List ℕ) (out initial all : List MuxanduSpan) → k < length t → count ≡ length out
    → length out ≡ length initial → take count out ++ spans_of_lines q t n (lines_from s q k (drop k t)) ≡ all → drop count out ≡ drop count initial
    → (count ≡ min (length initial) (length all)) × (status_number refused.Buffer ≡ spans_status initial all)
    × (out ≡ take count all ++ drop count initial)
spans-no_room s q n k count t out initial all low full same done behind =
    let a = ahead_of s q 0 k (drop k t) in
    let rest = spans_of_lines q t n (lines_from s q k (drop k t)) in
    let some : length rest ≡ 1 + length (spans_of_lines q t n a.lines) =
    ap (λ (lines : List Line). length (spans_of_lines q t n lines)) (lines-at s q k t low) ∙ omega arith in
    let size : length (take count out) ≡ count = length-take-le count out (omega (arith, full)) in
    let more : length initial < length all =
    omega (arith, full, same, size, some, ap (length {A = MuxanduSpan}) done, length-append (take count out) rest) in
    let is_more : nat_lt (length initial) (length all) ≡ true = grind (arith, nat_tests) in (
      omega (arith, full, same, more),
      rw is_more refl,
      written_front count out initial all rest (omega (arith, full)) done behind,
    )
