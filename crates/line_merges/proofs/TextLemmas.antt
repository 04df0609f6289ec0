-- The text of lines, one after another.
use Rattle.std.proofs.Common.{◌≡◌, ℕ, Bool, false, not, List, [], ◌∷◌, ◌++◌, refl, sym, ap, ◌∙◌, append_assoc, append-nil}
use Rattle.std.proofs.lemmas.List.Elements.{All-append, All-cons, All-nil}
use Rattle.line_merges.specs.LineFronts.{feed_if}
use Rattle.line_merges.specs.Lines.{Line, line_text}
use Rattle.line_merges.specs.Merges.{text_from, merge_text}
use Rattle.line_merges.specs.Runs.{NoneBack}
use Rattle.line_merges.specs.Steps.{is_open_after}

pub text_from-append : (is_open : Bool) (xs ys : List (ℕ × Line))
    → text_from is_open (xs ++ ys) ≡ text_from is_open xs ++ text_from (is_open_after is_open xs) ys
unfolding text_from
text_from-append is_open [] ys = refl
text_from-append is_open (x ∷ xs) ys =
    ap (λ (z : List ℕ). feed_if is_open ++ (line_text x.1 ++ z)) (text_from-append (not x.1.is_ended) xs ys)
    ∙ (ap (λ (z : List ℕ). feed_if is_open ++ z) (sym (append_assoc (line_text x.1) (text_from (not x.1.is_ended) xs) (text_from (is_open_after
    (not x.1.is_ended) xs) ys)))
    ∙ sym (append_assoc (feed_if is_open) (line_text x.1 ++ text_from (not x.1.is_ended) xs) (text_from (is_open_after (not x.1.is_ended) xs) ys)))

-- one more line
pub merge_text-line : (out : List (ℕ × Line)) (k : ℕ) (line : Line)
    → merge_text (out ++ (k, line) ∷ []) ≡ merge_text out ++ (feed_if (is_open_after false out) ++ line_text line)
unfolding text_from
merge_text-line out k line =
    text_from-append false out ((k, line) ∷ [])
    ∙ ap (λ (z : List ℕ). merge_text out ++ (feed_if (is_open_after false out) ++ z)) (append-nil (line_text line))

pub open_after-line : (is_open : Bool) (out : List (ℕ × Line)) (k : ℕ) (line : Line) → is_open_after is_open (out ++ (k, line) ∷ []) ≡ not line.is_ended
open_after-line is_open [] k line = refl
open_after-line is_open (x ∷ out) k line = open_after-line (not x.1.is_ended) out k line

-- the text of lines begins that of more lines
pub merge_text-more : (xs ys : List (ℕ × Line)) → merge_text (xs ++ ys) ≡ merge_text xs ++ text_from (is_open_after false xs) ys
merge_text-more xs ys = text_from-append false xs ys

pub NoneBack-line : (out : List (ℕ × Line)) (k : ℕ) (line : Line) → NoneBack out → line.is_back ≡ false → NoneBack (out ++ (k, line) ∷ [])
NoneBack-line out k line h is =
    let P : ℕ × Line → Type 0 = λ z. z.1.is_back ≡ false in
    All-append P out ((k, line) ∷ []) h (All-cons P (k, line) [] is (All-nil P))
