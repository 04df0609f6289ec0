-- What RFC 9557's suffixes look like, and where they begin.
use Rattle.std.proofs.Common.{◌≡◌, ◌⊎◌, inl, inr, refl, sym, ap, ◌∙◌, ℕ, zero, suc, ◌+◌, ◌<◌, ◌≤◌, arith}
use Rattle.std.proofs.Common.{Bool, true, false, not, ◌&&◌, cond, List, [], ◌∷◌, ◌++◌, append-nil, append_assoc, length, length-append, ◌-◌, Some}
use Rattle.std.specs.Prelude.{IsTrue, nat_le, ◌==◌, ◌↔◌, codes, is_none}
use Rattle.std.specs.Char.{eq_ignore_ascii_case, to_ascii_lowercase}
use Rattle.std.specs.List.{list_all, before_first, position_or_len}
use Rattle.std.specs.Option.{option_map_or}
use Rattle.std.proofs.lemmas.Bool.{and_parts, and_from}
use Rattle.std.proofs.lemmas.Bool.Decides.{nat_tests}
use Rattle.std.proofs.lemmas.List.{append_cancel_left}
use Rattle.std.proofs.lemmas.List.Folds.{list_all-append}
use Rattle.rfc3339.specs.Abnf.{Element, quoted, range, rule, ◌then◌, ◌or◌, times, repeat, Grammar, Derives, is_same_text, rule_of}
use Rattle.rfc3339.specs.Abnf.Derives.{in_either_case, in_range, by_rule, both, left, right, no_more, one_more, repeated}
use Rattle.std.specs.Result.{result_map_both}
use Rattle.rfc3339.specs.Front.{front_meaning, front_reading_of}
use Rattle.rfc3339.specs.Grammar.{rfc3339}
use Rattle.rfc3339.specs.Meaning.{meaning}
use Rattle.rfc3339.specs.Reading.{reading_of}
use Rattle.rfc3339.specs.ReadingLemmas.{reading_of-spelled}
use Rattle.rfc3339.specs.TextLemmas.{front_again}
use Rattle.rfc3339.specs.Recogniser.{each_name}
use Rattle.rfc3339.specs.Suffixes.{suffix_rules, rfc9557, date_time_ext, IsDateTimeText, IsSuffixText, is_bracket}
use Rattle.rfc3339.proofs.GrammarLemmas.{date_time-form}
use Rattle.rfc3339.proofs.AbnfLemmas.{take_quoted, take_range, take_rule, take_both, take_or, take_none, take_more, take_repeat, opened, same-one}

-- ---- rules in front of a grammar, where none has the name of one that is used

-- a rule, and those that it names, through a chain of no more than this number
abbrev is_apart : Grammar → Grammar → ℕ → List ℕ → Bool
is_apart front g zero name = false
is_apart front g (suc n) name =
    is_none (rule_of front name) && option_map_or (each_name (is_apart front g n)) (rule_of g name) true

rule_of-append : (front g : Grammar) (name : List ℕ) → IsTrue (is_none (rule_of front name))
    → rule_of (front ++ g) name ≡ rule_of g name
rule_of-append [] g name none = refl
rule_of-append (first ∷ front) g name none = cases (is_same_text first.0 name) none (rule_of-append front g name) where
  cases : (same : Bool) → IsTrue (is_none (cond same (Some first.1) (rule_of front name)))
      → (IsTrue (is_none (rule_of front name)) → rule_of (front ++ g) name ≡ rule_of g name)
      → cond same (Some first.1) (rule_of (front ++ g) name) ≡ rule_of g name
  cases true none more = absurd cc
  cases false none more = more none

times_carried : (g g' : Grammar) (e : Element) → ((s : List ℕ) → Derives g e s → Derives g' e s) → (k : ℕ) (s : List ℕ)
    → Derives g (times k e) s → Derives g' (times k e) s
times_carried g g' e all zero s d = rw (take_none d) no_more
times_carried g g' e all (suc k) s d =
    let p = take_more d in
    rw p.2 (one_more (all p.0 p.3) (times_carried g g' e all k p.1 p.4))

-- what one grammar derives from the rules that an element names, another does: so from the element
carried : (g g' : Grammar) (test : List ℕ → Bool)
    → ((name : List ℕ) → IsTrue (test name) → (s : List ℕ) → Derives g (rule name) s → Derives g' (rule name) s)
    → (e : Element) → IsTrue (each_name test e) → (s : List ℕ) → Derives g e s → Derives g' e s
carried g g' test all (quoted wanted) h s d = in_either_case (take_quoted d)
carried g g' test all (range first last) h s d = let r = take_range d in rw r.1 (in_range r.2 r.3)
carried g g' test all (rule name) h s d = all name h s d
carried g g' test all (a then b) h s d =
    let q = and_parts (each_name test a) (each_name test b) h in
    let p = take_both d in
    rw p.2 (both (carried g g' test all a q.0 p.0 p.3) (carried g g' test all b q.1 p.1 p.4))
carried g g' test all (a or b) h s d =
    let q = and_parts (each_name test a) (each_name test b) h in
    cases (carried g g' test all a q.0 s) (carried g g' test all b q.1 s) (take_or d) where
      cases : (Derives g a s → Derives g' a s) → (Derives g b s → Derives g' b s) → Derives g a s ⊎ Derives g b s
          → Derives g' (a or b) s
      cases f f' (inl i) = left (f i)
      cases f f' (inr i) = right (f' i)
carried g g' test all (times k e) h s d = times_carried g g' e (carried g g' test all e h) k s d
carried g g' test all (repeat least most e) h s d =
    let p = take_repeat d in
    repeated p.1 p.2 (times_carried g g' e (carried g g' test all e h) p.0 s p.3)

-- at a rule that is apart
apart : (front g : Grammar) (n : ℕ) (name : List ℕ) → IsTrue (is_apart front g n name) → (s : List ℕ)
    → Derives (front ++ g) (rule name) s ↔ Derives g (rule name) s
apart front g zero name h s = absurd cc
apart front g (suc n) name h s =
    let p = and_parts (is_none (rule_of front name)) (option_map_or (each_name (is_apart front g n)) (rule_of g name) true) h in
    let same = rule_of-append front g name p.0 in (
      λ d.
          let t = take_rule d in
          let found = sym same ∙ t.1 in
          let names : IsTrue (each_name (is_apart front g n) t.0) = rw found at p.1 in
          by_rule found (carried (front ++ g) g (is_apart front g n) (λ name i s. (apart front g n name i s).0) t.0 names s t.2),
      λ d.
          let t = take_rule d in
          let names : IsTrue (each_name (is_apart front g n) t.0) = rw t.1 at p.1 in
          by_rule (same ∙ t.1) (carried g (front ++ g) (is_apart front g n) (λ name i s. (apart front g n name i s).1) t.0 names s t.2),
    )

pub date_time-same : (text : List ℕ)
    → Derives rfc9557 (rule (codes "date-time")) text ↔ IsDateTimeText text
unfolding rfc3339 suffix_rules rfc9557
date_time-same text = apart suffix_rules rfc3339 14 (codes "date-time") refl text

-- ---- a byte that no text has

abbrev is_without : ℕ → List ℕ → Bool
is_without b text = list_all (λ c. not (c == b)) text

-- no quoted text and no range of an element has the byte, and each rule that it names passes a test
abbrev lacks : ℕ → (List ℕ → Bool) → Element → Bool
lacks b test (quoted wanted) = list_all (λ w. not (eq_ignore_ascii_case w b)) wanted
lacks b test (range first last) = not (nat_le first b && nat_le b last)
lacks b test (rule name) = test name
lacks b test (a then e) = lacks b test a && lacks b test e
lacks b test (a or e) = lacks b test a && lacks b test e
lacks b test (times k e) = lacks b test e
lacks b test (repeat least most e) = lacks b test e

abbrev rule_lacks : Grammar → ℕ → ℕ → List ℕ → Bool
rule_lacks g b zero name = false
rule_lacks g b (suc n) name = option_map_or (lacks b (rule_lacks g b n)) (rule_of g name) true

other_byte : (w b c : ℕ) → IsTrue (not (eq_ignore_ascii_case w b)) → IsTrue (eq_ignore_ascii_case w c) → IsTrue (not (c == b))
other_byte w b c h i = grind (arith, nat_tests)

out_of_range : (first last b c : ℕ) → IsTrue (not (nat_le first b && nat_le b last)) → first ≤ c → c ≤ last
    → IsTrue (not (c == b))
out_of_range first last b c h low high = grind (arith, nat_tests)

quoted_without : (b : ℕ) (wanted s : List ℕ) → IsTrue (list_all (λ w. not (eq_ignore_ascii_case w b)) wanted)
    → IsTrue (is_same_text wanted s) → IsTrue (is_without b s)
quoted_without b [] [] h i = refl
quoted_without b [] (c ∷ s) h i = absurd cc
quoted_without b (w ∷ wanted) [] h i = absurd cc
quoted_without b (w ∷ wanted) (c ∷ s) h i =
    let p = and_parts (not (eq_ignore_ascii_case w b)) (list_all (λ w. not (eq_ignore_ascii_case w b)) wanted) h in
    let q = and_parts (eq_ignore_ascii_case w c) (is_same_text wanted s) i in
    and_from (not (c == b)) (is_without b s) (other_byte w b c p.0 q.0) (quoted_without b wanted s p.1 q.1)

joined_without : (b : ℕ) (text s t : List ℕ) → text ≡ s ++ t → IsTrue (is_without b s) → IsTrue (is_without b t)
    → IsTrue (is_without b text)
joined_without b text s t parts h i =
    rw (parts, list_all-append (λ c. not (c == b)) s t) (and_from (is_without b s) (is_without b t) h i)

times_without : (g : Grammar) (b : ℕ) (e : Element) → ((s : List ℕ) → Derives g e s → IsTrue (is_without b s))
    → (k : ℕ) (s : List ℕ) → Derives g (times k e) s
    → IsTrue (is_without b s)
times_without g b e all zero s d = rw (take_none d) refl
times_without g b e all (suc k) s d =
    let p = take_more d in
    joined_without b s p.0 p.1 p.2 (all p.0 p.3) (times_without g b e all k p.1 p.4)

without : (g : Grammar) (b : ℕ) (test : List ℕ → Bool)
    → ((name : List ℕ) → IsTrue (test name) → (s : List ℕ) → Derives g (rule name) s → IsTrue (is_without b s))
    → (e : Element) → IsTrue (lacks b test e) → (s : List ℕ) → Derives g e s → IsTrue (is_without b s)
without g b test all (quoted wanted) h s d = quoted_without b wanted s h (take_quoted d)
without g b test all (range first last) h s d =
    let r = take_range d in
    rw r.1 (and_from (not (r.0 == b)) true (out_of_range first last b r.0 h r.2 r.3) refl)
without g b test all (rule name) h s d = all name h s d
without g b test all (a then e) h s d =
    let q = and_parts (lacks b test a) (lacks b test e) h in
    let p = take_both d in
    joined_without b s p.0 p.1 p.2 (without g b test all a q.0 p.0 p.3) (without g b test all e q.1 p.1 p.4)
without g b test all (a or e) h s d =
    let q = and_parts (lacks b test a) (lacks b test e) h in
    cases (without g b test all a q.0 s) (without g b test all e q.1 s) (take_or d) where
      cases : (Derives g a s → IsTrue (is_without b s)) → (Derives g e s → IsTrue (is_without b s))
          → Derives g a s ⊎ Derives g e s → IsTrue (is_without b s)
      cases f f' (inl i) = f i
      cases f f' (inr i) = f' i
without g b test all (times k e) h s d = times_without g b e (without g b test all e h) k s d
without g b test all (repeat least most e) h s d =
    let p = take_repeat d in
    times_without g b e (without g b test all e h) p.0 s p.3

rule_without : (g : Grammar) (b n : ℕ) (name : List ℕ) → IsTrue (rule_lacks g b n name) → (s : List ℕ) → Derives g (rule name) s
    → IsTrue (is_without b s)
rule_without g b zero name h s d = absurd cc
rule_without g b (suc n) name h s d =
    let t = take_rule d in
    let here : IsTrue (lacks b (rule_lacks g b n) t.0) = rw t.1 at h in
    without g b (rule_lacks g b n) (rule_without g b n) t.0 here s t.2

date_time-without : (text : List ℕ) → IsDateTimeText text → IsTrue (is_without 0x5B text)
unfolding rfc3339
date_time-without text d = rule_without rfc3339 0x5B 14 (codes "date-time") refl text d

-- ---- what precedes the first bracket

before-cons : (c : ℕ) (text : List ℕ) → IsTrue (not (is_bracket c))
    → before_first is_bracket (c ∷ text) ≡ c ∷ before_first is_bracket text
before-cons c text other = rw (other, next (position_or_len is_bracket text)) refl where
  next : (n : ℕ) → 1 + n ≡ suc n
  next n = omega arith

before_bracket : (s t : List ℕ) → IsTrue (is_without 0x5B s)
    → (t ≡ []) ⊎ ((inside : List ℕ) × (t ≡ codes "[" ++ inside ++ codes "]"))
    → before_first is_bracket (s ++ t) ≡ s
before_bracket [] t h (inl e) = rw e refl
before_bracket [] t h (inr e) = rw e.1 refl
before_bracket (c ∷ s) t h i =
    let p = and_parts (not (c == 0x5B)) (is_without 0x5B s) h in
    before-cons c (s ++ t) p.0 ∙ ap (λ (z : List ℕ). c ∷ z) (before_bracket s t p.1 i)

pub date_time-before : (text : List ℕ) → IsDateTimeText text → before_first is_bracket text ≡ text
date_time-before text d =
    let all = before_bracket text [] (date_time-without text d) (inl refl) in
    rw (append-nil text) at all

-- ---- brackets

abbrev InBrackets : List ℕ → Type 0
InBrackets text = (inside : List ℕ) × (text ≡ codes "[" ++ inside ++ codes "]")

-- a mark between the letters' two cases
mark-is : (w c : ℕ) → 91 ≤ w → w < 97 → to_ascii_lowercase w ≡ to_ascii_lowercase c → c ≡ w
mark-is w c low high e = grind (arith, nat_tests)

take_mark : {g : Grammar} (w : ℕ) (text : List ℕ) → 91 ≤ w → w < 97 → Derives g (quoted (w ∷ [])) text → text ≡ w ∷ []
take_mark w text low high d =
    let one = same-one w text (take_quoted d) in
    one.1 ∙ ap (λ (z : ℕ). z ∷ []) (mark-is w one.0 low high one.2)

-- with something between the two, in two parts
from_brackets : (text s t u v w : List ℕ) → text ≡ s ++ t → t ≡ u ++ v → v ≡ w ++ codes "]" → s ≡ codes "[" → InBrackets text
from_brackets text s t u v w e f h i =
    (u ++ w, rw (e, f, h, i) (ap (λ (z : List ℕ). codes "[" ++ z) (sym (append_assoc u w (codes "]")))))

time_zone-brackets : (text : List ℕ) → Derives rfc9557 (rule (codes "time-zone")) text → InBrackets text
unfolding suffix_rules rfc9557
time_zone-brackets text d =
    let a = take_both (opened (codes "time-zone") refl d) in
    let b = take_both a.4 in
    let c = take_both b.4 in
    let end = take_mark 93 c.1 (omega arith) (omega arith) c.4 in
    from_brackets text a.0 a.1 b.0 b.1 c.0 a.2 b.2 (c.2 ∙ ap (λ (z : List ℕ). c.0 ++ z) end) (take_mark 91 a.0 (omega arith) (omega arith) a.3)

suffix_tag-brackets : (text : List ℕ) → Derives rfc9557 (rule (codes "suffix-tag")) text → InBrackets text
unfolding suffix_rules rfc9557
suffix_tag-brackets text d =
    let a = take_both (opened (codes "suffix-tag") refl d) in
    let b = take_both a.4 in
    let c = take_both b.4 in
    let e = take_both c.4 in
    let f = take_both e.4 in
    let end = take_mark 93 f.1 (omega arith) (omega arith) f.4 in
    let inner : b.1 ≡ (c.0 ++ (e.0 ++ f.0)) ++ codes "]" =
    c.2 ∙ ap (λ (z : List ℕ). c.0 ++ z) (e.2 ∙ ap (λ (z : List ℕ). e.0 ++ z) (f.2 ∙ ap (λ (z : List ℕ). f.0 ++ z) end))
    ∙ ap (λ (z : List ℕ). c.0 ++ z) (sym (append_assoc e.0 f.0 (codes "]"))) ∙ sym (append_assoc c.0 (e.0 ++ f.0) (codes "]")) in
    from_brackets text a.0 a.1 b.0 b.1 (c.0 ++ (e.0 ++ f.0)) a.2 b.2 inner (take_mark 91 a.0 (omega arith) (omega arith) a.3)

join_brackets : (text s t : List ℕ) → text ≡ s ++ t → (s ≡ []) ⊎ InBrackets s → (t ≡ []) ⊎ InBrackets t
    → (text ≡ []) ⊎ InBrackets text
join_brackets text s t parts (inl e) (inl f) = inl (rw (parts, e, f) refl)
join_brackets text s t parts (inl e) (inr f) = inr (f.0, rw (parts, e) f.1)
join_brackets text s t parts (inr e) (inl f) = inr (e.0, parts ∙ rw f (append-nil s ∙ e.1))
join_brackets text s t parts (inr e) (inr f) = inr (
  (e.0 ++ codes "]") ++ (codes "[" ++ f.0),
  parts ∙ rw (e.1, f.1) (ap (λ (z : List ℕ). codes "[" ++ z) (sym (append_assoc (e.0 ++ codes "]") (codes "[" ++ f.0) (codes "]")))),
)

times-brackets : (e : Element) → ((s : List ℕ) → Derives rfc9557 e s → InBrackets s) → (k : ℕ) (s : List ℕ)
    → Derives rfc9557 (times k e) s → (s ≡ []) ⊎ InBrackets s
times-brackets e all zero s d = inl (take_none d)
times-brackets e all (suc k) s d =
    let p = take_more d in
    join_brackets s p.0 p.1 p.2 (inr (all p.0 p.3)) (times-brackets e all k p.1 p.4)

pub suffix-brackets : (text : List ℕ) → IsSuffixText text → (text ≡ []) ⊎ InBrackets text
unfolding suffix_rules rfc9557
suffix-brackets text d =
    let a = take_both (opened (codes "suffix") refl d) in
    let zone = take_repeat a.3 in
    let tags = take_repeat a.4 in
    join_brackets text a.0 a.1 a.2 (times-brackets (rule (codes "time-zone")) time_zone-brackets zone.0 a.0 zone.3)
    (times-brackets (rule (codes "suffix-tag")) suffix_tag-brackets tags.0 a.1 tags.3)

-- ---- cut off

pub date_time_ext-parts : (text : List ℕ)
    → Derives rfc9557 date_time_ext text
    ↔ ((s : List ℕ) × (t : List ℕ) × (text ≡ s ++ t) × IsDateTimeText s × IsSuffixText t)
unfolding suffix_rules rfc9557
date_time_ext-parts text = (
  λ d. let p = take_both (opened (codes "date-time-ext") refl d) in (p.0, p.1, p.2, (date_time-same p.0).0 p.3, p.4),
  λ p. rw p.2 (by_rule refl (both ((date_time-same p.0).1 p.3) p.4)),
)

pub date_time_ext-cut : (s t : List ℕ) → IsDateTimeText s → IsSuffixText t → before_first is_bracket (s ++ t) ≡ s
date_time_ext-cut s t d e = before_bracket s t (date_time-without s d) (suffix-brackets t e)

pub date_time_ext-one : (s t s' t' : List ℕ) → s ++ t ≡ s' ++ t'
    → IsDateTimeText s → IsSuffixText t → IsDateTimeText s' → IsSuffixText t' → (s ≡ s') × (t ≡ t')
date_time_ext-one s t s' t' whole d e d' e' =
    let same : s ≡ s' = sym (date_time_ext-cut s t d e) ∙ ap (before_first is_bracket) whole ∙ date_time_ext-cut s' t' d' e' in
    (same, append_cancel_left s t t' (whole ∙ ap (λ (z : List ℕ). z ++ t') (sym same)))

pub date_time_ext-front : (s t : List ℕ) → IsDateTimeText s → IsSuffixText t
    → front_reading_of (s ++ t) ≡ result_map_both (λ at. (at, length s)) (λ refusal. refusal) (reading_of s)
unfolding front_reading_of
date_time_ext-front s t d e =
    let h = (date_time-form s).1 (left d) in
    let taken = ap (front_meaning (s ++ t)) (front_again s h.0 t h.1) in
    let bytes : length (s ++ t) - length t ≡ length s = omega (arith, length-append s t) in
    taken ∙ ap (λ (n : ℕ). result_map_both (λ at. (at, n)) (λ refusal. refusal) (meaning h.0)) bytes
    ∙ ap (result_map_both (λ at. (at, length s)) (λ refusal. refusal)) (sym (reading_of-spelled s h.0 h.1))
