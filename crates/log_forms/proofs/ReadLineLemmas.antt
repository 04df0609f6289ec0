-- Bare counts, lines that readers read, and digits behind a comma.
use Rattle.std.proofs.Common.{◌≡◌, refl, sym, ◌∙◌, ap, ℕ, zero, suc, ◌+◌, ◌<◌, ◌≤◌, ◌==◌, nat_le, nat_lt, Bool, true, false, List, [], ◌∷◌, ◌++◌, length}
use Rattle.std.proofs.Common.{arith, inl, inr, Option, Some, None, Result, Ok, Err, subst}
use Rattle.std.specs.Prelude.{◌⊎◌, ◌&&◌, ◌||◌, not, if◌then◌else◌, ℤ, IsTrue, ⊤}
use Rattle.std.specs.Char.{is_ascii_digit}
use Rattle.std.specs.List.{cons_option, list_all}
use Rattle.std.proofs.lemmas.Bool.{and_parts, cases_Bool, or_cases}
use Rattle.std.proofs.lemmas.Bool.Decides.{nat_tests}
use Rattle.log_forms.proofs.GrowthLemmas.{found_by-length, slow-steady_by, steady_by-slow}
use Rattle.log_forms.specs.ChoiceLaws.{Each, IsNear, instant_if, instants_found}
use Rattle.log_forms.specs.Choices.{any_reads, digits_behind_comma, found_by, is_bare_stamp, is_count, is_sure, names_counts, no_bare_in}
use Rattle.log_forms.specs.Choices.{reader_form, reader_key, reader_place, reads, some_year, steady_by}
use Rattle.log_forms.specs.Forms.{digits_of, form_named}
use Rattle.log_forms.specs.ReadLaws.{EndsWithDigits, HasNoBareCount, IsLonger, ReadsLine, digits_counted, length_if, lengths_found, lengths_in}
use Rattle.log_forms.specs.Stamps.{stamp_at}
use Rattle.log_forms.specs.declared.form.Form.{Form}
use Rattle.log_forms.specs.declared.instants.Assumed.{Assumed}
use Rattle.log_forms.specs.declared.names.FormName.{FormName}
use Rattle.log_forms.specs.declared.names.FormName.TheVariants.{Rfc3339, Rfc3339Comma, Journald, Rfc5424, Rfc3164, Git, Postgres, Clf, GitDefault, Date}
use Rattle.log_forms.specs.declared.names.FormName.TheVariants.{Rfc2822, Haproxy, NginxError, LocalComma, Local, TwoSpaces, ApacheError, Redis, Tomcat, Erlang}
use Rattle.log_forms.specs.declared.names.FormName.TheVariants.{Bgl, Syslog, Klog, Android, Unix, UnixMs, UnixUs, UnixNs, Mysql56, Hdfs}
use Rattle.log_forms.specs.declared.names.FormName.TheVariants.{Spark, SyslogYear, Modsecurity, Php, HourOffset, CiscoUtc, Cisco, Asa, Nxos}
use Rattle.log_forms.specs.declared.names.FormName.TheVariants.{Django, Splunk, Clickhouse, Suricata, Redis28, Glog}
use Rattle.log_forms.specs.declared.places.Place.{Place}
use Rattle.log_forms.specs.declared.stamps.Stamp.{Stamp}
use Rattle.log_forms.specs.declared.stamps.StampRefusal.{StampRefusal}

-- ---- bare counts

bare-longer : (digits : Option ℕ) (r : Result Stamp StampRefusal) (rest : List ℕ) → not (is_bare_stamp digits r) ≡ true
    → Each (IsLonger digits) rest → Each (IsLonger digits) (cons_option (length_if r) rest)
bare-longer None (Ok stamp) rest e h = (tt, h)
bare-longer (Some digits) (Ok stamp) rest e h = (grind (arith, nat_tests, e), h)
bare-longer digits (Err refusal) rest e h = h

longer-bare : (digits : Option ℕ) (r : Result Stamp StampRefusal) (rest : List ℕ) (others : Bool)
    → (Each (IsLonger digits) rest → others ≡ true) → Each (IsLonger digits) (cons_option (length_if r) rest)
    → (not (is_bare_stamp digits r) && others) ≡ true
longer-bare None (Ok stamp) rest others more h = more h.1
longer-bare (Some digits) (Ok stamp) rest others more h =
    let e : nat_le stamp.length digits ≡ false = grind (arith, nat_tests, h.0) in rw (e, more h.1) refl
longer-bare digits (Err refusal) rest others more h = more h

no_bare-longer : (form : Form) (place : Place) (key : List ℕ) (assumed : Assumed) (lines : List (List ℕ))
    → no_bare_in form place key assumed lines ≡ true → Each (IsLonger form.digits) (lengths_in form place key assumed lines)
unfolding no_bare_in
no_bare-longer form place key assumed [] e = tt
no_bare-longer form place key assumed (line ∷ lines) e =
    let t = and_parts _ _ e in
    bare-longer form.digits (stamp_at form place key assumed line) (lengths_in form place key assumed lines) t.0
    (no_bare-longer form place key assumed lines t.1)

longer-no_bare : (form : Form) (place : Place) (key : List ℕ) (assumed : Assumed) (lines : List (List ℕ))
    → Each (IsLonger form.digits) (lengths_in form place key assumed lines) → no_bare_in form place key assumed lines ≡ true
unfolding no_bare_in
longer-no_bare form place key assumed [] h = refl
longer-no_bare form place key assumed (line ∷ lines) h =
    longer-bare form.digits (stamp_at form place key assumed line) (lengths_in form place key assumed lines)
    (no_bare_in form place key assumed lines) (longer-no_bare form place key assumed lines) h

-- the digits of a form of counts are those of the table, which no other form has
counted : (name : FormName) → (if is_count name then digits_of name else None) ≡ digits_counted name
counted Rfc3339 = refl
counted Rfc3339Comma = refl
counted Journald = refl
counted Rfc5424 = refl
counted Rfc3164 = refl
counted Git = refl
counted Postgres = refl
counted Clf = refl
counted GitDefault = refl
counted Date = refl
counted Rfc2822 = refl
counted Haproxy = refl
counted NginxError = refl
counted LocalComma = refl
counted Local = refl
counted TwoSpaces = refl
counted ApacheError = refl
counted Redis = refl
counted Tomcat = refl
counted Erlang = refl
counted Bgl = refl
counted Syslog = refl
counted Klog = refl
counted Android = refl
counted SyslogYear = refl
counted Modsecurity = refl
counted Php = refl
counted HourOffset = refl
counted CiscoUtc = refl
counted Cisco = refl
counted Asa = refl
counted Nxos = refl
counted Django = refl
counted Splunk = refl
counted Clickhouse = refl
counted Suricata = refl
counted Redis28 = refl
counted Glog = refl
counted Unix = refl
counted UnixMs = refl
counted UnixUs = refl
counted UnixNs = refl
counted Mysql56 = refl
counted Hdfs = refl
counted Spark = refl

digits-counted : (name : FormName) → is_count name ≡ true → digits_of name ≡ digits_counted name
digits-counted name e = rw e at (counted name)

none-counted : (name : FormName) → is_count name ≡ false → digits_counted name ≡ None
none-counted name e = sym (rw e at (counted name))

all-longer : (lengths : List ℕ) → Each (IsLonger None) lengths
all-longer [] = tt
all-longer (first ∷ lengths) = (tt, all-longer lengths)

if-true : (a b c : Bool) → (if a || not b then true else c) ≡ true → (a ≡ true) ⊎ ((b ≡ false) ⊎ (c ≡ true))
if-true true b c e = inl refl
if-true false false c e = inr (inl refl)
if-true false true c e = inr (inr e)

true-if : (a b c : Bool) → (a ≡ true) ⊎ ((b ≡ false) ⊎ (c ≡ true)) → (if a || not b then true else c) ≡ true
true-if true b c h = refl
true-if false false c h = refl
true-if false true c (inr (inr e)) = e
true-if false true c (inr (inl e)) = absurd cc
true-if false true c (inl e) = absurd cc

-- no bare count that a reader finds
abbrev NoBare : ℕ → List (List ℕ) → Type 0
NoBare reader lines = no_bare_in (form_named (reader_form reader)) (reader_place reader) (reader_key reader) some_year lines ≡ true

pub is_sure-no_bare : (reader : ℕ) (lines : List (List ℕ)) → is_sure reader lines ≡ true → HasNoBareCount reader lines
unfolding is_sure
is_sure-no_bare reader lines e = by_kind (if-true (names_counts reader) (is_count (reader_form reader)) _ e) (cases_Bool (is_count (reader_form reader))) where
  by_kind : (names_counts reader ≡ true) ⊎ ((is_count (reader_form reader) ≡ false) ⊎ NoBare reader lines)
      → (is_count (reader_form reader) ≡ true) ⊎ (is_count (reader_form reader) ≡ false) → HasNoBareCount reader lines
  by_kind (inl t) kind = inl t
  by_kind (inr (inl f)) kind = inr (rw (none-counted (reader_form reader) f) (all-longer (lengths_found reader lines)))
  by_kind (inr (inr g)) (inr f) = inr (rw (none-counted (reader_form reader) f) (all-longer (lengths_found reader lines)))
  by_kind (inr (inr g)) (inl t) =
      inr (subst (λ (digits : Option ℕ). Each (IsLonger digits) (lengths_found reader lines)) (digits-counted (reader_form reader) t)
      (no_bare-longer (form_named (reader_form reader)) (reader_place reader) (reader_key reader) some_year lines g))

pub no_bare-is_sure : (reader : ℕ) (lines : List (List ℕ)) → HasNoBareCount reader lines → is_sure reader lines ≡ true
unfolding is_sure
no_bare-is_sure reader lines h = true-if (names_counts reader) (is_count (reader_form reader)) _ (by_kind h (cases_Bool (is_count (reader_form reader)))) where
  by_kind : HasNoBareCount reader lines → (is_count (reader_form reader) ≡ true) ⊎ (is_count (reader_form reader) ≡ false)
      → (names_counts reader ≡ true) ⊎ ((is_count (reader_form reader) ≡ false) ⊎ NoBare reader lines)
  by_kind (inl t) kind = inl t
  by_kind (inr each) (inr f) = inr (inl f)
  by_kind (inr each) (inl t) =
      inr (inr (longer-no_bare (form_named (reader_form reader)) (reader_place reader) (reader_key reader) some_year lines
      (rw (sym (digits-counted (reader_form reader) t)) at each)))

-- ---- lines that a reader reads

one-found : (r : Result Stamp StampRefusal) → 0 < length (cons_option (instant_if r) []) → (at : ℤ) × (cons_option (instant_if r) [] ≡ at ∷ [])
one-found (Ok stamp) h = (stamp.instant, refl)
one-found (Err refusal) h = absurd (omega (arith, h))

reads-line : (reader : ℕ) (line : List ℕ) → reads reader line ≡ true → ReadsLine reader line
reads-line reader line e =
    let t = and_parts (nat_lt 0 (found_by reader (line ∷ []))) _ e in
    let some : 0 < found_by reader (line ∷ []) = grind (arith, nat_tests, t.0) in
    let one = one-found (stamp_at (form_named (reader_form reader)) (reader_place reader) (reader_key reader) some_year line)
    (rw (found_by-length reader (line ∷ [])) at some) in
    (one.0, one.1, kind one.0 one.1 (or_cases (is_sure reader (line ∷ [])) (steady_by reader (line ∷ [])) t.1))
  where
    kind : (at : ℤ) → instants_found reader (line ∷ []) ≡ at ∷ [] → (is_sure reader (line ∷ []) ≡ true) ⊎ (steady_by reader (line ∷ []) ≡ true)
        → HasNoBareCount reader (line ∷ []) ⊎ IsNear at
    kind at same (inl s) = inl (is_sure-no_bare reader (line ∷ []) s)
    kind at same (inr s) = inr (rw same at (steady_by-slow reader (line ∷ []) s)).0.0

or_right : (a : Bool) → (a || true) ≡ true
or_right true = refl
or_right false = refl

line-reads : (reader : ℕ) (line : List ℕ) → ReadsLine reader line → reads reader line ≡ true
line-reads reader line h =
    let one : found_by reader (line ∷ []) ≡ 1 = found_by-length reader (line ∷ []) ∙ ap length h.1 in
    let some : nat_lt 0 (found_by reader (line ∷ [])) ≡ true = rw one refl in
    rw some (kind h.2)
  where
    kind : HasNoBareCount reader (line ∷ []) ⊎ IsNear h.0 → (is_sure reader (line ∷ []) || steady_by reader (line ∷ [])) ≡ true
    kind (inl s) = rw (no_bare-is_sure reader (line ∷ []) s) refl
    kind (inr near) =
        let slow = slow-steady_by reader (line ∷ []) (rw h.1 ((near, tt), (tt, tt))) in
        rw slow (or_right (is_sure reader (line ∷ [])))

one_of-all : (readers reader : ℕ) (line : List ℕ) → reader < readers → reads reader line ≡ true → any_reads readers line ≡ true
unfolding any_reads
one_of-all zero reader line low e = absurd (omega (arith, low))
one_of-all (suc readers) reader line low e = elim (cases_Bool (nat_lt reader readers)) [
  | inl t ↦ rw (one_of-all readers reader line (grind (arith, nat_tests, t)) e) refl
  | inr f ↦
      let most : readers ≤ reader = grind (arith, nat_tests, f) in
      let late : readers ≡ reader = omega (arith, low, most) in
      rw (late, e) (or_right (any_reads reader line))
]

pub some-read : (readers reader : ℕ) (line : List ℕ) → reader < readers → ReadsLine reader line → any_reads readers line ≡ true
some-read readers reader line low h = one_of-all readers reader line low (line-reads reader line h)

pub read-some : (readers : ℕ) (line : List ℕ) → any_reads readers line ≡ true → (reader : ℕ) × (reader < readers) × ReadsLine reader line
unfolding any_reads
read-some zero line e = absurd cc
read-some (suc readers) line e = elim (or_cases (any_reads readers line) (reads readers line) e) [
  | inl t ↦ let h = read-some readers line t in (h.0, omega (arith, h.1), h.2)
  | inr t ↦ (readers, omega (arith), reads-line readers line t)
]

-- ---- digits behind a comma

and_false : (a : Bool) → (a && false) ≡ false
and_false true = refl
and_false false = refl

comma-stops : (front digits : List ℕ) → list_all is_ascii_digit (front ++ 44 ∷ digits) ≡ false
comma-stops [] digits = refl
comma-stops (first ∷ front) digits = rw (comma-stops front digits) (and_false (is_ascii_digit first))

past-comma : (a : Bool) (count : ℕ) (others : Option ℕ) → (if a && false then Some count else others) ≡ others
past-comma true count others = refl
past-comma false count others = refl

behind-found : (front digits : List ℕ) → list_all is_ascii_digit digits ≡ true → digits_behind_comma (front ++ 44 ∷ digits) ≡ Some (length digits)
unfolding digits_behind_comma
behind-found [] digits e = rw e refl
behind-found (first ∷ front) digits e =
    rw (comma-stops front digits) (past-comma (first == 44) (length (front ++ 44 ∷ digits)) (digits_behind_comma (front ++ 44 ∷ digits)))
    ∙ behind-found front digits e

pub digits-found : (text : List ℕ) (count : ℕ) → EndsWithDigits text count → digits_behind_comma text ≡ Some count
digits-found text count h = rw (h.split, sym h.number) (behind-found h.front h.digits h.all)

same_count : (a b : ℕ) → Some a ≡ Some b → a ≡ b
same_count a b e = cc

pub only-digits : (text : List ℕ) (count : ℕ) → digits_behind_comma text ≡ Some count → EndsWithDigits text count
unfolding digits_behind_comma
only-digits [] count e = absurd cc
only-digits (first ∷ more) count e = elim (cases_Bool ((first == 44) && list_all is_ascii_digit more)) [
  | inl t ↦
      let p = and_parts (first == 44) (list_all is_ascii_digit more) t in
      let comma : first ≡ 44 = grind (arith, nat_tests, p.0) in
      record { front = []; digits = more; split = rw comma refl; all = p.1; number = same_count (length more) count (rw t at e) }
  | inr f ↦
      let h = only-digits more count (rw f at e) in
      record { front = first ∷ h.front; digits = h.digits; split = ap (λ (rest : List ℕ). first ∷ rest) h.split; all = h.all; number = h.number }
]
