-- The recogniser says what a grammar derives.
use Rattle.std.proofs.Common.{◌≡◌, ◌⊎◌, inl, inr, refl, sym, ap, subst, ◌∙◌, ℕ, zero, suc, ◌+◌, ◌-◌, ◌≤◌, arith}
use Rattle.std.proofs.Common.{Bool, true, false, ◌&&◌, List, [], ◌∷◌, ◌++◌, append-nil, append_assoc, length, Option, Some, None, Err, length-append, cond}
use Rattle.std.specs.Prelude.{IsTrue, nat_le, ◌↔◌}
use Rattle.std.specs.Char.{eq_ignore_ascii_case}
use Rattle.std.specs.List.{list_all}
use Rattle.std.specs.Option.{option_map_or}
use Rattle.std.proofs.lemmas.Bool.{and_parts, and_from, cases_Bool, true≢false}
use Rattle.std.proofs.lemmas.Bool.Decides.{nat_tests}
use Rattle.rfc3339.specs.Abnf.{Element, quoted, range, rule, ◌then◌, ◌or◌, times, repeat, Grammar, Derives, is_same_text, rule_of, IsAtMost}
use Rattle.rfc3339.specs.Abnf.Derives.{in_either_case, in_range, by_rule, both, left, right, no_more, one_more, repeated}
use Rattle.rfc3339.specs.Recogniser.{each_name, ends_within, is_ranked, Reader, read_quoted, read_range, read_times, read_up_to, read_repeat}
use Rattle.rfc3339.specs.Recogniser.{read_element, read_rule, is_empty, derives}
use Rattle.rfc3339.specs.Grammar.{rfc3339, date_time}
use Rattle.rfc3339.specs.Reading.{reading_of}
use Rattle.rfc3339.specs.declared.refusal.TextRefusal.TheVariants.{Syntax}
use Rattle.rfc3339.proofs.GrammarLemmas.{date_time-refused}
use Rattle.rfc3339.proofs.AbnfLemmas.{take_quoted, take_range, take_rule, take_both, take_or, take_none, take_more, take_repeat, opened}

-- a beginning of the text that is derived, and a rest that passes
record Beginning (g : Grammar) (e : Element) (text : List ℕ) (passes : List ℕ → Bool) : Type 0 where
  first : List ℕ
  rest : List ℕ
  parts : text ≡ first ++ rest
  derived : Derives g e first
  passed : IsTrue (passes rest)

-- the reader finds the beginnings that the element derives
record Reads (g : Grammar) (e : Element) (read : Reader) : Type 0 where
  sound : (text : List ℕ) (passes : List ℕ → Bool) → IsTrue (read text passes) → Beginning g e text passes
  complete : (s t : List ℕ) (passes : List ℕ → Bool) → Derives g e s → IsTrue (passes t) → IsTrue (read (s ++ t) passes)

-- of another element that derives what this one does
same_beginning : (g : Grammar) (e f : Element) (text : List ℕ) (passes : List ℕ → Bool)
    → ((s : List ℕ) → Derives g e s → Derives g f s)
    → Beginning g e text passes → Beginning g f text passes
same_beginning g e f text passes to p = record { first = p.first; rest = p.rest; parts = p.parts; derived = to p.first p.derived; passed = p.passed }

-- one beginning, and another of its rest
joined : (g : Grammar) (a b e : Element) (text : List ℕ) (between passes : List ℕ → Bool)
    → ((s t : List ℕ) → Derives g a s → Derives g b t → Derives g e (s ++ t)) → (p : Beginning g a text between)
    → Beginning g b p.rest passes → Beginning g e text passes
joined g a b e text between passes join p q = record {
  first = p.first ++ q.first;
  rest = q.rest;
  parts = p.parts ∙ ap (λ (z : List ℕ). p.first ++ z) q.parts ∙ sym (append_assoc p.first q.first q.rest);
  derived = join p.first q.first p.derived q.derived;
  passed = q.passed;
}

-- a text in two parts, where the first is derived
in_parts : (g : Grammar) (e : Element) (read : Reader) → Reads g e read → (s u v t : List ℕ) (passes : List ℕ → Bool) → s ≡ u ++ v
    → Derives g e u → IsTrue (passes (v ++ t)) → IsTrue (read (s ++ t) passes)
in_parts g e read r s u v t passes parts d h =
    let same : s ++ t ≡ u ++ (v ++ t) = ap (λ (z : List ℕ). z ++ t) parts ∙ append_assoc u v t in
    subst (λ (z : List ℕ). IsTrue (read z passes)) (sym same) (r.complete u (v ++ t) passes d h)

-- ---- tests that go by cases

abbrev both_of : Bool → Bool → Bool
both_of a b = elim a [
  | true ↦ b
  | false ↦ false
]

abbrev one_of : Bool → Bool → Bool
one_of a b = elim a [
  | true ↦ true
  | false ↦ b
]

both_parts : (a b : Bool) → IsTrue (both_of a b) → IsTrue a × IsTrue b
both_parts true b h = (refl, h)
both_parts false b h = absurd cc

both_from : (a b : Bool) → IsTrue a → IsTrue b → IsTrue (both_of a b)
both_from true b h i = i
both_from false b h i = absurd cc

one_parts : (a b : Bool) → IsTrue (one_of a b) → IsTrue a ⊎ IsTrue b
one_parts true b h = inl refl
one_parts false b h = inr h

one_left : (a b : Bool) → IsTrue a → IsTrue (one_of a b)
one_left true b h = refl
one_left false b h = absurd cc

one_right : (a b : Bool) → IsTrue b → IsTrue (one_of a b)
one_right true b h = refl
one_right false b h = h

-- ---- quoted texts and ranges

quoted_sound : (wanted text : List ℕ) (passes : List ℕ → Bool) → IsTrue (read_quoted wanted text passes)
    → (s : List ℕ) × (t : List ℕ) × (text ≡ s ++ t) × IsTrue (is_same_text wanted s) × IsTrue (passes t)
quoted_sound [] text passes h = ([], text, refl, refl, h)
quoted_sound (w ∷ wanted) [] passes h = absurd cc
quoted_sound (w ∷ wanted) (c ∷ text) passes h =
    let p = both_parts (eq_ignore_ascii_case w c) (read_quoted wanted text passes) h in
    let r = quoted_sound wanted text passes p.1 in
    let same = and_from (eq_ignore_ascii_case w c) (is_same_text wanted r.0) p.0 r.3 in
    (c ∷ r.0, r.1, ap (λ (z : List ℕ). c ∷ z) r.2, same, r.4)

quoted_complete : (wanted s t : List ℕ) (passes : List ℕ → Bool) → IsTrue (is_same_text wanted s) → IsTrue (passes t)
    → IsTrue (read_quoted wanted (s ++ t) passes)
quoted_complete [] [] t passes h i = i
quoted_complete [] (c ∷ s) t passes h i = absurd cc
quoted_complete (w ∷ wanted) [] t passes h i = absurd cc
quoted_complete (w ∷ wanted) (c ∷ s) t passes h i =
    let p = and_parts (eq_ignore_ascii_case w c) (is_same_text wanted s) h in
    both_from (eq_ignore_ascii_case w c) (read_quoted wanted (s ++ t) passes) p.0 (quoted_complete wanted s t passes p.1 i)

read_quoted-reads : (g : Grammar) (wanted : List ℕ) → Reads g (quoted wanted) (read_quoted wanted)
read_quoted-reads g wanted = record {
  sound = λ text passes h.
      let r = quoted_sound wanted text passes h in
      record { first = r.0; rest = r.1; parts = r.2; derived = in_either_case r.3; passed = r.4 };
  complete = λ s t passes d h. quoted_complete wanted s t passes (take_quoted d) h;
}

range_sound : (g : Grammar) (first last : ℕ) (text : List ℕ) (passes : List ℕ → Bool) → IsTrue (read_range first last text passes)
    → Beginning g (range first last) text passes
range_sound g first last [] passes h = absurd cc
range_sound g first last (c ∷ text) passes h =
    let p = both_parts (nat_le first c && nat_le c last) (passes text) h in
    let q = and_parts (nat_le first c) (nat_le c last) p.0 in
    let low : first ≤ c = grind (arith, nat_tests, q.0) in
    let high : c ≤ last = grind (arith, nat_tests, q.1) in
    record { first = c ∷ []; rest = text; parts = refl; derived = in_range low high; passed = p.1 }

range_complete : (first last c : ℕ) (t : List ℕ) (passes : List ℕ → Bool) → first ≤ c → c ≤ last → IsTrue (passes t)
    → IsTrue (read_range first last (c ∷ t) passes)
range_complete first last c t passes low high h =
    let below : IsTrue (nat_le first c) = grind (arith, nat_tests) in
    let above : IsTrue (nat_le c last) = grind (arith, nat_tests) in
    both_from (nat_le first c && nat_le c last) (passes t) (and_from (nat_le first c) (nat_le c last) below above) h

read_range-reads : (g : Grammar) (first last : ℕ) → Reads g (range first last) (read_range first last)
read_range-reads g first last = record {
  sound = range_sound g first last;
  complete = λ s t passes d h. let r = take_range d in rw r.1 (range_complete first last r.0 t passes r.2 r.3 h);
}

-- ---- one after the other, one or the other

then-reads : (g : Grammar) (a b : Element) (read read' : Reader) → Reads g a read → Reads g b read'
    → Reads g (a then b) (λ text passes. read text (λ rest. read' rest passes))
then-reads g a b read read' r r' = record {
  sound = λ text passes h.
      let p = r.sound text (λ rest. read' rest passes) h in
      joined g a b (a then b) text (λ rest. read' rest passes) passes (λ s t d e. both d e) p (r'.sound p.rest passes p.passed);
  complete = λ s t passes d h.
      let p = take_both d in
      in_parts g a read r s p.0 p.1 t (λ rest. read' rest passes) p.2 p.3 (r'.complete p.1 t passes p.4 h);
}

or-reads : (g : Grammar) (a b : Element) (read read' : Reader) → Reads g a read → Reads g b read'
    → Reads g (a or b) (λ text passes. one_of (read text passes) (read' text passes))
or-reads g a b read read' r r' = record {
  sound = λ text passes h. elim (one_parts (read text passes) (read' text passes) h) [
    | inl i ↦ same_beginning g a (a or b) text passes (λ s d. left d) (r.sound text passes i)
    | inr i ↦ same_beginning g b (a or b) text passes (λ s d. right d) (r'.sound text passes i)
  ];
  complete = λ s t passes d h. elim (take_or d) [
    | inl i ↦ one_left (read (s ++ t) passes) (read' (s ++ t) passes) (r.complete s t passes i h)
    | inr i ↦ one_right (read (s ++ t) passes) (read' (s ++ t) passes) (r'.complete s t passes i h)
  ];
}

-- ---- a number of times

-- not at all
no_times : (g : Grammar) (e : Element) (text : List ℕ) (passes : List ℕ → Bool) → IsTrue (passes text)
    → Beginning g (times 0 e) text passes
no_times g e text passes h = record { first = []; rest = text; parts = refl; derived = no_more; passed = h }

read_times-reads : (g : Grammar) (e : Element) (read : Reader) (k : ℕ) → Reads g e read → Reads g (times k e) (read_times read k)
read_times-reads g e read zero r = record {
  sound = no_times g e;
  complete = λ s t passes d h. rw (take_none d) h;
}
read_times-reads g e read (suc k) r = let more = read_times-reads g e read k r in record {
  sound = λ text passes h.
      let between = λ (rest : List ℕ). read_times read k rest passes in
      let p = r.sound text between h in
      joined g e (times k e) (times (suc k) e) text between passes (λ s t d f. one_more d f) p (more.sound p.rest passes p.passed);
  complete = λ s t passes d h.
      let p = take_more d in
      in_parts g e read r s p.0 p.1 t (λ rest. read_times read k rest passes) p.2 p.3 (more.complete p.1 t passes p.4 h);
}

-- ---- at least a number of times

up_to_sound : (g : Grammar) (e : Element) (read : Reader) → Reads g e read → (k : ℕ) (text : List ℕ) (passes : List ℕ → Bool)
    → IsTrue (read_up_to read k text passes) → (j : ℕ) × (j ≤ k) × Beginning g (times j e) text passes
up_to_sound g e read r zero text passes h = (0, omega arith, no_times g e text passes h)
up_to_sound g e read r (suc k) text passes h = cases (one_parts (passes text) (read text between) h) (up_to_sound g e read r k) where
  between : List ℕ → Bool
  between rest = read_up_to read k rest passes

  cases : IsTrue (passes text) ⊎ IsTrue (read text (λ rest. read_up_to read k rest passes))
      → ((text : List ℕ) (passes : List ℕ → Bool) → IsTrue (read_up_to read k text passes)
      → (j : ℕ) × (j ≤ k) × Beginning g (times j e) text passes)
      → (j : ℕ) × (j ≤ suc k) × Beginning g (times j e) text passes
  cases (inl i) more = (0, omega arith, no_times g e text passes i)
  cases (inr i) more =
      let p = r.sound text (λ rest. read_up_to read k rest passes) i in
      let (j, low, q) = more p.rest passes p.passed in (
        suc j,
        omega arith,
        joined g e (times j e) (times (suc j) e) text (λ rest. read_up_to read k rest passes) passes (λ s t d f. one_more d f) p q,
      )

up_to_now : (read : Reader) (k : ℕ) (t : List ℕ) (passes : List ℕ → Bool) → IsTrue (passes t)
    → IsTrue (read_up_to read k t passes)
up_to_now read zero t passes h = h
up_to_now read (suc k) t passes h = one_left (passes t) (read t (λ rest. read_up_to read k rest passes)) h

-- one more time, and then as the rest is read
up_to_more : (g : Grammar) (e : Element) (read : Reader) → Reads g e read → (k : ℕ) (s u v t : List ℕ) (passes : List ℕ → Bool)
    → s ≡ u ++ v → Derives g e u → IsTrue (read_up_to read k (v ++ t) passes) → IsTrue (read_up_to read (suc k) (s ++ t) passes)
up_to_more g e read r k s u v t passes parts d h =
    one_right (passes (s ++ t)) (read (s ++ t) (λ rest. read_up_to read k rest passes))
    (in_parts g e read r s u v t (λ rest. read_up_to read k rest passes) parts d h)

-- where the times are enough
up_to_count : (g : Grammar) (e : Element) (read : Reader) → Reads g e read → (k j : ℕ) (s t : List ℕ) (passes : List ℕ → Bool)
    → j ≤ k → Derives g (times j e) s → IsTrue (passes t) → IsTrue (read_up_to read k (s ++ t) passes)
up_to_count g e read r zero (suc j) s t passes low d h = absurd (omega arith)
up_to_count g e read r zero zero s t passes low d h = rw (take_none d) h
up_to_count g e read r (suc k) zero s t passes low d h = rw (take_none d) (up_to_now read (suc k) t passes h)
up_to_count g e read r (suc k) (suc j) s t passes low d h =
    let p = take_more d in
    up_to_more g e read r k s p.0 p.1 t passes p.2 p.3 (up_to_count g e read r k j p.1 t passes (omega arith) p.4 h)

-- where the text has no more bytes than there are times: those that take no byte are left out
up_to_length : (g : Grammar) (e : Element) (read : Reader) → Reads g e read → (j k : ℕ) (s t : List ℕ) (passes : List ℕ → Bool)
    → length s ≤ k → Derives g (times j e) s → IsTrue (passes t) → IsTrue (read_up_to read k (s ++ t) passes)
up_to_length g e read r zero k s t passes low d h = rw (take_none d) (up_to_now read k t passes h)
up_to_length g e read r (suc j) k s t passes low d h =
    let p = take_more d in
    cases p.0 p.1 k p.2 low p.3 (λ k' low'. up_to_length g e read r j k' p.1 t passes low' p.4 h) where
      cases : (u v : List ℕ) (k : ℕ) → s ≡ u ++ v → length s ≤ k → Derives g e u
          → ((k' : ℕ) → length v ≤ k' → IsTrue (read_up_to read k' (v ++ t) passes)) → IsTrue (read_up_to read k (s ++ t) passes)
      cases [] v k parts low du more = rw parts (more k (rw parts at low))
      cases (c ∷ u) v zero parts low du more = absurd (omega (arith, ap length parts))
      cases (c ∷ u) v (suc k) parts low du more =
          up_to_more g e read r k s (c ∷ u) v t passes parts du (more k (omega (arith, ap length parts, length-append u v)))

times_join : {g : Grammar} {e : Element} (i j k : ℕ) (s t : List ℕ) → k ≡ i + j → Derives g (times i e) s
    → Derives g (times j e) t
    → Derives g (times k e) (s ++ t)
times_join {g} {e} zero j k s t sum d f =
    let same : j ≡ k = omega arith in
    rw (take_none d) (subst (λ (z : ℕ). Derives g (times z e) t) same f)
times_join (suc i) j zero s t sum d f = absurd (omega arith)
times_join {g} {e} (suc i) j (suc k) s t sum d f =
    let p = take_more d in
    let all = one_more p.3 (times_join i j k p.1 t (omega arith) p.4 f) in
    let same : s ++ t ≡ p.0 ++ (p.1 ++ t) = ap (λ (z : List ℕ). z ++ t) p.2 ∙ append_assoc p.0 p.1 t in
    subst (λ (z : List ℕ). Derives g (times (suc k) e) z) (sym same) all

times_split : {g : Grammar} {e : Element} (i j k : ℕ) (text : List ℕ) → k ≡ i + j → Derives g (times k e) text
    → (s : List ℕ) × (t : List ℕ) × (text ≡ s ++ t) × Derives g (times i e) s × Derives g (times j e) t
times_split {g} {e} zero j k text sum d =
    let same : k ≡ j = omega arith in
    ([], text, refl, no_more, subst (λ (z : ℕ). Derives g (times z e) text) same d)
times_split (suc i) j zero text sum d = absurd (omega arith)
times_split (suc i) j (suc k) text sum d =
    let p = take_more d in
    let q = times_split i j k p.1 (omega arith) p.4 in
    (p.0 ++ q.0, q.1, p.2 ∙ ap (λ (z : List ℕ). p.0 ++ z) q.2 ∙ sym (append_assoc p.0 q.0 q.1), one_more p.3 q.3, q.4)

-- at least a number of times, and then up to a number that is enough
repeat_sound : (g : Grammar) (e : Element) (read : Reader) → Reads g e read → (least : ℕ) (most : Option ℕ) (up_to : List ℕ → ℕ)
    → ((rest : List ℕ) (j : ℕ) → j ≤ up_to rest → IsAtMost (least + j) most) → (text : List ℕ) (passes : List ℕ → Bool)
    → IsTrue (read_times read least text (λ rest. read_up_to read (up_to rest) rest passes))
    → Beginning g (repeat least most e) text passes
repeat_sound g e read r least most up_to within text passes h =
    let between = λ (rest : List ℕ). read_up_to read (up_to rest) rest passes in
    let p = (read_times-reads g e read least r).sound text between h in
    let (j, low, q) = up_to_sound g e read r (up_to p.rest) p.rest passes p.passed in
    joined g (times least e) (times j e) (repeat least most e) text between passes
    (λ s t d f. repeated {least = least} {k = least + j} (omega arith) (within p.rest j low) (times_join least j (least + j) s t refl d f))
    p q

repeat_complete : (g : Grammar) (e : Element) (read : Reader) → Reads g e read → (least k : ℕ) (up_to : List ℕ → ℕ) (s t : List ℕ)
    → (passes : List ℕ → Bool) → least ≤ k → Derives g (times k e) s
    → ((v : List ℕ) → Derives g (times (k - least) e) v → IsTrue (read_up_to read (up_to (v ++ t)) (v ++ t) passes))
    → IsTrue (read_times read least (s ++ t) (λ rest. read_up_to read (up_to rest) rest passes))
repeat_complete g e read r least k up_to s t passes low d more =
    let p = times_split least (k - least) k s (omega arith) d in
    let between = λ (rest : List ℕ). read_up_to read (up_to rest) rest passes in
    in_parts g (times least e) (read_times read least) (read_times-reads g e read least r) s p.0 p.1 t between p.2 p.3 (more p.1 p.4)

read_repeat-reads : (g : Grammar) (e : Element) (read : Reader) (least : ℕ) (most : Option ℕ) → Reads g e read
    → Reads g (repeat least most e) (read_repeat read least most)
read_repeat-reads g e read least None r = record {
  sound = repeat_sound g e read r least None length (λ rest j low. tt);
  complete = λ s t passes d h.
      let p = take_repeat d in
      repeat_complete g e read r least p.0 length s t passes p.1 p.3
      (λ v dv. up_to_length g e read r (p.0 - least) (length (v ++ t)) v t passes (omega (arith, length-append v t)) dv h);
}
read_repeat-reads g e read least (Some most) r = record {
  sound = λ text passes h.
      let further = read_times read least text (λ rest. read_up_to read (most - least) rest passes) in
      let p = both_parts (nat_le least most) further h in
      let high : least ≤ most = grind (arith, nat_tests, p.0) in
      repeat_sound g e read r least (Some most) (λ rest. most - least) (λ rest j low. omega arith) text passes p.1;
  complete = λ s t passes d h.
      let p = take_repeat d in
      let low : least ≤ p.0 = p.1 in
      let high : p.0 ≤ most = p.2 in
      let fits : IsTrue (nat_le least most) = grind (arith, nat_tests) in
      both_from (nat_le least most) (read_times read least (s ++ t) (λ rest. read_up_to read (most - least) rest passes)) fits
      (repeat_complete g e read r least p.0 (λ rest. most - least) s t passes p.1 p.3
      (λ v dv. up_to_count g e read r (most - least) (p.0 - least) v t passes (omega arith) dv h));
}

-- ---- rules

-- an element, where the reader of each rule that it names is right
read_element-reads : (g : Grammar) (named : List ℕ → Reader) (test : List ℕ → Bool)
    → ((name : List ℕ) → IsTrue (test name) → Reads g (rule name) (named name))
    → (e : Element) → IsTrue (each_name test e) → Reads g e (read_element named e)
read_element-reads g named test all (quoted wanted) h = read_quoted-reads g wanted
read_element-reads g named test all (range first last) h = read_range-reads g first last
read_element-reads g named test all (rule name) h = all name h
read_element-reads g named test all (a then b) h =
    let p = and_parts (each_name test a) (each_name test b) h in
    let r = read_element-reads g named test all a p.0 in
    then-reads g a b (read_element named a) (read_element named b) r (read_element-reads g named test all b p.1)
read_element-reads g named test all (a or b) h =
    let p = and_parts (each_name test a) (each_name test b) h in
    let r = read_element-reads g named test all a p.0 in
    or-reads g a b (read_element named a) (read_element named b) r (read_element-reads g named test all b p.1)
read_element-reads g named test all (times k e) h =
    read_times-reads g e (read_element named e) k (read_element-reads g named test all e h)
read_element-reads g named test all (repeat least most e) h =
    read_repeat-reads g e (read_element named e) least most (read_element-reads g named test all e h)

rule-reads : (g : Grammar) (name : List ℕ) (e : Element) (read : Reader) → rule_of g name ≡ Some e → Reads g e read
    → Reads g (rule name) read
rule-reads g name e read found r = record {
  sound = λ text passes h. same_beginning g e (rule name) text passes (λ s d. by_rule found d) (r.sound text passes h);
  complete = λ s t passes d h. r.complete s t passes (opened name found d) h;
}

read_rule-reads : (g : Grammar) (n : ℕ) (name : List ℕ) → IsTrue (ends_within g n name) → Reads g (rule name) (read_rule g n name)
read_rule-reads g zero name h = absurd cc
read_rule-reads g (suc n) name h = cases (rule_of g name) refl (read_rule-reads g n) h where
  cases : (o : Option Element) → rule_of g name ≡ o
      → ((name : List ℕ) → IsTrue (ends_within g n name) → Reads g (rule name) (read_rule g n name))
      → IsTrue (option_map_or (each_name (ends_within g n)) o true)
      → Reads g (rule name) (λ text passes. option_map_or (λ e. read_element (read_rule g n) e text passes) o false)
  cases None none all h = record {
    sound = λ text passes i. absurd cc;
    complete = λ s t passes d i. let p = take_rule d in let other : None ≡ Some p.0 = sym none ∙ p.1 in absurd cc;
  }
  cases (Some e) found all h =
      let r = read_element-reads g (read_rule g n) (ends_within g n) all e h in
      rule-reads g name e (read_element (read_rule g n) e) found r

each_name-all : (test : List ℕ → Bool) → ((name : List ℕ) → IsTrue (test name)) → (e : Element) → IsTrue (each_name test e)
each_name-all test all (quoted wanted) = refl
each_name-all test all (range first last) = refl
each_name-all test all (rule name) = all name
each_name-all test all (a then b) =
    and_from (each_name test a) (each_name test b) (each_name-all test all a) (each_name-all test all b)
each_name-all test all (a or b) =
    and_from (each_name test a) (each_name test b) (each_name-all test all a) (each_name-all test all b)
each_name-all test all (times k e) = each_name-all test all e
each_name-all test all (repeat least most e) = each_name-all test all e

-- what is true of each rule is true of the rule of a name
all_of_rule : (rules : Grammar) (test : Element → Bool) (name : List ℕ) → IsTrue (list_all (λ r. test r.1) rules)
    → IsTrue (option_map_or test (rule_of rules name) true)
all_of_rule [] test name h = refl
all_of_rule (first ∷ rules) test name h =
    let p = and_parts (test first.1) (list_all (λ r. test r.1) rules) h in
    cases (is_same_text first.0 name) p.0 (all_of_rule rules test name p.1) where
      cases : (same : Bool) → IsTrue (test first.1) → IsTrue (option_map_or test (rule_of rules name) true)
          → IsTrue (option_map_or test (cond same (Some first.1) (rule_of rules name)) true)
      cases true here more = here
      cases false here more = more

-- so each rule, and each element, is read rightly
ranked-reads : (g : Grammar) (e : Element) → IsTrue (is_ranked g) → Reads g e (read_element (read_rule g (suc (length g))) e)
ranked-reads g e ranked =
    let n = suc (length g) in
    let ends = λ (name : List ℕ). all_of_rule g (each_name (ends_within g (length g))) name ranked in
    read_element-reads g (read_rule g n) (ends_within g n) (read_rule-reads g n) e (each_name-all (ends_within g n) ends e)

nothing : (rest : List ℕ) → IsTrue (is_empty rest) → rest ≡ []
nothing [] h = refl
nothing (c ∷ rest) h = absurd cc

pub decided : (g : Grammar) (e : Element) (text : List ℕ) → IsTrue (is_ranked g) → IsTrue (derives g e text) ↔ Derives g e text
decided g e text ranked = let r = ranked-reads g e ranked in (
  λ h.
      let p = r.sound text is_empty h in
      let whole = p.parts ∙ ap (λ (z : List ℕ). p.first ++ z) (nothing p.rest p.passed) ∙ append-nil p.first in
      subst (λ (z : List ℕ). Derives g e z) (sym whole) p.derived,
  λ d.
      let read = read_element (read_rule g (suc (length g))) e in
      subst (λ (z : List ℕ). IsTrue (read z is_empty)) (append-nil text) (r.complete text [] is_empty d refl),
)

-- ---- RFC 3339's

pub rfc3339-ranked : IsTrue (is_ranked rfc3339)
unfolding rfc3339
rfc3339-ranked = refl

-- what is true exactly where nothing is derived is true exactly where the recogniser says no
not_derived : (g : Grammar) (e : Element) (text : List ℕ) (P : Type 0) → IsTrue (is_ranked g) → P ↔ ¬ Derives g e text
    → P ↔ (derives g e text ≡ false)
not_derived g e text P ranked p =
    let (sound, complete) = decided g e text ranked in (
      λ h. elim (cases_Bool (derives g e text)) [
        | inl said ↦ absurd (p.0 h (sound said))
        | inr denied ↦ denied
      ],
      λ denied. p.1 (λ d. true≢false (sym (complete d) ∙ denied)),
    )

pub refused : (text : List ℕ) → (reading_of text ≡ Err Syntax) ↔ (derives rfc3339 date_time text ≡ false)
refused text = not_derived rfc3339 date_time text (reading_of text ≡ Err Syntax) rfc3339-ranked (date_time-refused text)
