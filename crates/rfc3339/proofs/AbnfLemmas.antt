-- A derivation of any grammar, taken apart.
use Rattle.std.proofs.Common.{◌≡◌, ◌⊎◌, inl, inr, refl, sym, ap, subst, ◌∙◌, ℕ, suc, ◌≤◌, List, [], ◌∷◌, ◌++◌, append-nil, Option, Some, arith}
use Rattle.std.specs.Prelude.{IsTrue}
use Rattle.std.specs.Char.{to_ascii_lowercase}
use Rattle.std.proofs.lemmas.Bool.Decides.{nat_tests}
use Rattle.std.proofs.lemmas.Option.{same_Some}
use Rattle.rfc3339.specs.Abnf.{Element, quoted, range, rule, ◌then◌, ◌or◌, times, repeat, Grammar, Derives, is_same_text, rule_of, IsAtMost}
use Rattle.rfc3339.specs.Abnf.Derives.{in_either_case, in_range, by_rule, both, left, right, no_more, one_more, repeated}

pub take_quoted : {g : Grammar} {wanted text : List ℕ} → Derives g (quoted wanted) text → IsTrue (is_same_text wanted text)
take_quoted (in_either_case same) = same

pub take_range : {g : Grammar} {first last : ℕ} {text : List ℕ} → Derives g (range first last) text
    → (c : ℕ) × (text ≡ c ∷ []) × (first ≤ c) × (c ≤ last)
take_range (in_range {c = c} low high) = (c, refl, low, high)

pub take_rule : {g : Grammar} {name text : List ℕ} → Derives g (rule name) text
    → (e : Element) × (rule_of g name ≡ Some e) × Derives g e text
take_rule (by_rule {e = e} found d) = (e, found, d)

pub take_both : {g : Grammar} {a b : Element} {text : List ℕ} → Derives g (a then b) text
    → (s : List ℕ) × (t : List ℕ) × (text ≡ s ++ t) × Derives g a s × Derives g b t
take_both (both {s = s} {t = t} d e) = (s, t, refl, d, e)

pub take_or : {g : Grammar} {a b : Element} {text : List ℕ} → Derives g (a or b) text → Derives g a text ⊎ Derives g b text
take_or (left d) = inl d
take_or (right d) = inr d

pub take_none : {g : Grammar} {e : Element} {text : List ℕ} → Derives g (times 0 e) text → text ≡ []
take_none no_more = refl

pub take_more : {g : Grammar} {k : ℕ} {e : Element} {text : List ℕ} → Derives g (times (suc k) e) text
    → (s : List ℕ) × (t : List ℕ) × (text ≡ s ++ t) × Derives g e s × Derives g (times k e) t
take_more (one_more {s = s} {t = t} d e) = (s, t, refl, d, e)

pub take_repeat : {g : Grammar} {least : ℕ} {most : Option ℕ} {e : Element} {text : List ℕ} → Derives g (repeat least most e) text
    → (k : ℕ) × (least ≤ k) × IsAtMost k most × Derives g (times k e) text
take_repeat (repeated {k = k} low high d) = (k, low, high, d)

-- what a rule derives, its elements do
pub opened : {g : Grammar} {text : List ℕ} {e : Element} (name : List ℕ) → rule_of g name ≡ Some e → Derives g (rule name) text
    → Derives g e text
opened {g} {text} {e} name found d = let t = take_rule d in subst (λ (z : Element). Derives g z text) (same_Some t.0 e (sym t.1 ∙ found)) t.2

-- once
pub once : {g : Grammar} {e : Element} (text : List ℕ) → Derives g e text → Derives g (times 1 e) text
once {g} {e} text d = subst (λ (z : List ℕ). Derives g (times 1 e) z) (append-nil text) (one_more d no_more)

pub take_once : {g : Grammar} {e : Element} (text : List ℕ) → Derives g (times 1 e) text → Derives g e text
take_once {g} {e} text d =
    let a = take_more d in
    let same : text ≡ a.0 = a.2 ∙ ap (λ (z : List ℕ). a.0 ++ z) (take_none a.4) ∙ append-nil a.0 in
    subst (λ (z : List ℕ). Derives g e z) (sym same) a.3

-- a quoted text of one byte is that byte, or its letter in the other case
pub same-one : (w : ℕ) (text : List ℕ) → IsTrue (is_same_text (w ∷ []) text)
    → (c : ℕ) × (text ≡ c ∷ []) × (to_ascii_lowercase w ≡ to_ascii_lowercase c)
same-one w [] h = absurd cc
same-one w (c ∷ []) h = (c, refl, grind (arith, nat_tests))
same-one w (c ∷ d ∷ text) h = absurd (grind (arith, nat_tests))
