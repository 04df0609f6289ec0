-- The years that words give.
use Rattle.std.proofs.Common.{◌≡◌, refl, sym, ◌∙◌, ap, ℕ, suc, ◌+◌, ◌==◌, Bool, true, false, List, [], ◌∷◌, ◌++◌, length, drop, take, arith}
use Rattle.std.proofs.Common.{inl, inr, Option, Some, None, Result, Ok, Err, subst, ℤ, ◌≤ℤ◌, ◌<ℤ◌}
use Rattle.std.specs.Prelude.{◌⊎◌, ◌&&◌, ◌||◌, not, if◌then◌else◌, int_lt}
use Rattle.std.specs.List.{list_all, list_any}
use Rattle.std.specs.Str.{bytes_eq}
use Rattle.std.proofs.lemmas.Bool.{and_parts, cases_Bool}
use Rattle.std.proofs.lemmas.Bool.Decides.{nat_tests}
use Rattle.std.proofs.lemmas.Grind.{common_steps}
use Rattle.std.proofs.lemmas.Slice.Eq.{bytes_eq-Decides}
use Rattle.calendar_values.specs.SignedArith.{signed_arith}
use Rattle.stamps.specs.Readers.{line_stamp}
use Rattle.stamps.specs.YearLaws.{Gives, has_sign}
use Rattle.stamps.specs.Years.{first_unnamed, is_this, is_until, last_sign, name_before, name_in, named, names}
use Rattle.stamps.specs.Years.{sign_behind, stands_until, unnamed_or, year_for, year_in, year_or}
use Rattle.stamps.specs.declared.readers.LineRefusal.{LineRefusal}
use Rattle.stamps.specs.declared.readers.LineStamp.{LineStamp}
use Rattle.stamps.specs.declared.readers.Reader.{Reader}

or_false : (a b : Bool) → (a || b) ≡ false → (a ≡ false) × (b ≡ false)
or_false true b e = absurd cc
or_false false b e = (refl, e)

-- ---- the last sign

no_sign : (text : List ℕ) → has_sign text ≡ false → last_sign text ≡ None
unfolding last_sign
no_sign [] e = refl
no_sign (byte ∷ text) e = let t = or_false (byte == 61) (has_sign text) e in rw (no_sign text t.1, t.0) refl

sign_at : (name year : List ℕ) → has_sign year ≡ false → last_sign (name ++ 61 ∷ year) ≡ Some (length name)
unfolding last_sign
sign_at [] year e = rw (no_sign year e) refl
sign_at (byte ∷ name) year e = rw (sign_at name year e) (ap Some (omega arith))

-- a text with a sign at a place, and none behind
abbrev SignAt : List ℕ → ℕ → Type 0
SignAt text place = (text ≡ take place text ++ 61 ∷ drop (place + 1) text) × (has_sign (drop (place + 1) text) ≡ false)

some-none : (place : ℕ) → Some place ≡ None → ⊥
some-none place e = cc

none-some : (place : ℕ) → None ≡ Some place → ⊥
none-some place e = cc

same_place : (a b : ℕ) → Some a ≡ Some b → a ≡ b
same_place a b e = cc

true-false : true ≡ false → ⊥
true-false e = cc

no_more : (o : Option ℕ) (byte : ℕ) (text : List ℕ) → (o ≡ None → has_sign text ≡ false) → sign_behind o byte ≡ None → has_sign (byte ∷ text) ≡ false
no_more (Some place) byte text more e = absurd (some-none (place + 1) e)
no_more None byte text more e = elim (cases_Bool (byte == 61)) [
  | inl t ↦ absurd (some-none 0 (rw t at e))
  | inr f ↦ rw (f, more refl) refl
]

none-no_sign : (text : List ℕ) → last_sign text ≡ None → has_sign text ≡ false
unfolding last_sign
none-no_sign [] e = refl
none-no_sign (byte ∷ text) e = no_more (last_sign text) byte text (none-no_sign text) e

sign_further : (byte : ℕ) (text : List ℕ) (before : ℕ) → SignAt text before → SignAt (byte ∷ text) (before + 1)
sign_further byte text before t =
    let next : before + 1 ≡ suc before = omega arith in
    let after : before + 1 + 1 ≡ suc (before + 1) = omega arith in
    let first : take (before + 1) (byte ∷ text) ≡ byte ∷ take before text = ap (λ (z : ℕ). take z (byte ∷ text)) next in
    let rest : drop (before + 1 + 1) (byte ∷ text) ≡ drop (before + 1) text = ap (λ (z : ℕ). drop z (byte ∷ text)) after in
    rw (first, rest) (ap (λ (z : List ℕ). byte ∷ z) t.0, t.1)

sign_of : (o : Option ℕ) (byte : ℕ) (text : List ℕ) (place : ℕ) → (o ≡ None → has_sign text ≡ false)
    → ((before : ℕ) → o ≡ Some before → SignAt text before) → sign_behind o byte ≡ Some place → SignAt (byte ∷ text) place
sign_of (Some before) byte text place none more e =
    let at : before + 1 ≡ place = same_place (before + 1) place e in
    subst (SignAt (byte ∷ text)) at (sign_further byte text before (more before refl))
sign_of None byte text place none more e = elim (cases_Bool (byte == 61)) [
  | inl t ↦
      let at : 0 ≡ place = same_place 0 place (rw t at e) in
      let is : byte ≡ 61 = grind (arith, nat_tests, t) in
      subst (SignAt (byte ∷ text)) at (ap (λ (z : ℕ). z ∷ text) is, none refl)
  | inr f ↦ absurd (none-some place (rw f at e))
]

sign-at : (text : List ℕ) (place : ℕ) → last_sign text ≡ Some place → SignAt text place
unfolding last_sign
sign-at [] place e = absurd (none-some place e)
sign-at (byte ∷ text) place e = sign_of (last_sign text) byte text place (none-no_sign text) (sign-at text) e

-- ---- a value with a name

take_name : (name rest : List ℕ) → take (length name) (name ++ rest) ≡ name
take_name [] rest = refl
take_name (byte ∷ name) rest = ap (λ (z : List ℕ). byte ∷ z) (take_name name rest)

drop_name : (name rest : List ℕ) (byte : ℕ) → drop (length name + 1) (name ++ byte ∷ rest) ≡ rest
drop_name [] rest byte = refl
drop_name (first ∷ name) rest byte =
    let next : length (first ∷ name) + 1 ≡ suc (length name + 1) = omega arith in
    ap (λ (z : ℕ). drop z (first ∷ (name ++ byte ∷ rest))) next ∙ drop_name name rest byte

pub name-given : (name year value : List ℕ) → Gives name year value → (name_in value ≡ Some name) × (year_in value ≡ year)
name-given name year value h =
    rw (h.0, sign_at name year h.1) (ap Some (take_name name (61 ∷ year)), drop_name name year 61)

pub none-given : (value : List ℕ) → has_sign value ≡ false → (name_in value ≡ None) × (year_in value ≡ value)
none-given value e = rw (no_sign value e) (refl, refl)

bytes-same : (a b : List ℕ) → bytes_eq a b ≡ true → a ≡ b
bytes-same a b e = (bytes_eq-Decides a b).0 e

same-bytes : (a : List ℕ) → bytes_eq a a ≡ true
same-bytes a = grind (arith, bytes_eq-Decides a a)

name_gives : (name value : List ℕ) (o : Option ℕ) → ((place : ℕ) → o ≡ Some place → SignAt value place) → is_this name (name_before value o) ≡ true
    → (year : List ℕ) × Gives name year value
name_gives name value None at e = absurd (true-false (sym e))
name_gives name value (Some place) at e =
    let t = at place refl in
    let own = bytes-same (take place value) name e in
    (drop (place + 1) value, (t.0 ∙ ap (λ (z : List ℕ). z ++ 61 ∷ drop (place + 1) value) own, t.1))

pub named-gives : (name value : List ℕ) → names name value ≡ true → (year : List ℕ) × Gives name year value
named-gives name value e = name_gives name value (last_sign value) (sign-at value) e

gives-named : (name year value : List ℕ) → Gives name year value → names name value ≡ true
gives-named name year value h = ap (is_this name) (name-given name year value h).0 ∙ same-bytes name

-- ---- the year of a file

named_skip : (name : List ℕ) (before after : List (List ℕ)) → list_any (names name) before ≡ false → named name (before ++ after) ≡ named name after
unfolding named
named_skip name [] after e = refl
named_skip name (value ∷ before) after e =
    let t = or_false (names name value) (list_any (names name) before) e in rw t.0 (named_skip name before after t.1)

named_none : (name : List ℕ) (values : List (List ℕ)) → list_any (names name) values ≡ false → named name values ≡ None
unfolding named
named_none name [] e = refl
named_none name (value ∷ values) e =
    let t = or_false (names name value) (list_any (names name) values) e in rw t.0 (named_none name values t.1)

named_here : (name year value : List ℕ) (after : List (List ℕ)) → Gives name year value → named name (value ∷ after) ≡ Some year
unfolding named
named_here name year value after h = rw (gives-named name year value h) (ap Some (name-given name year value h).1)

some_place : (o : Option ℕ) → (o ≡ None → ⊥) → (place : ℕ) × (o ≡ Some place)
some_place (Some place) h = (place, refl)
some_place None h = absurd (h refl)

sign-some : (value : List ℕ) → has_sign value ≡ true → (place : ℕ) × (last_sign value ≡ Some place)
sign-some value e = some_place (last_sign value) (λ none. true-false (sym e ∙ none-no_sign value none))

unnamed_skip : (before after : List (List ℕ)) → list_all has_sign before ≡ true → first_unnamed (before ++ after) ≡ first_unnamed after
unfolding first_unnamed
unnamed_skip [] after e = refl
unnamed_skip (value ∷ before) after e =
    let t = and_parts (has_sign value) (list_all has_sign before) e in
    let s = sign-some value t.0 in
    ap (λ (o : Option ℕ). unnamed_or o value (first_unnamed (before ++ after))) s.1 ∙ unnamed_skip before after t.1

unnamed_here : (year : List ℕ) (after : List (List ℕ)) → has_sign year ≡ false → first_unnamed (year ∷ after) ≡ Some year
unfolding first_unnamed
unnamed_here year after e = rw (no_sign year e) refl

unnamed_none : (values : List (List ℕ)) → list_all has_sign values ≡ true → first_unnamed values ≡ None
unfolding first_unnamed
unnamed_none [] e = refl
unnamed_none (value ∷ values) e =
    let t = and_parts (has_sign value) (list_all has_sign values) e in
    let s = sign-some value t.0 in
    ap (λ (o : Option ℕ). unnamed_or o value (first_unnamed values)) s.1 ∙ unnamed_none values t.1

pub own-year : (name year value : List ℕ) (before after : List (List ℕ)) → Gives name year value → list_any (names name) before ≡ false
    → year_for name (before ++ value ∷ after) ≡ Some year
own-year name year value before after h e =
    ap (λ (o : Option (List ℕ)). year_or o (first_unnamed (before ++ value ∷ after)))
    (named_skip name before (value ∷ after) e ∙ named_here name year value after h)

pub other-year : (name year : List ℕ) (before after : List (List ℕ)) → has_sign year ≡ false → list_all has_sign before ≡ true
    → list_any (names name) (before ++ year ∷ after) ≡ false → year_for name (before ++ year ∷ after) ≡ Some year
other-year name year before after e all none =
    ap (λ (o : Option (List ℕ)). year_or o (first_unnamed (before ++ year ∷ after))) (named_none name (before ++ year ∷ after) none)
    ∙ unnamed_skip before (year ∷ after) all ∙ unnamed_here year after e

pub no-year : (name : List ℕ) (values : List (List ℕ)) → list_all has_sign values ≡ true → list_any (names name) values ≡ false
    → year_for name values ≡ None
no-year name values all none =
    ap (λ (o : Option (List ℕ)). year_or o (first_unnamed values)) (named_none name values none) ∙ unnamed_none values all

-- ---- stamps up to an instant

pub until-is : (reader : Reader) (is_first : Bool) (line : List ℕ) (stamp : LineStamp) (bound : ℤ) → line_stamp reader None is_first line ≡ Ok stamp
    → stamp.instant ≤ℤ bound → is_until reader is_first line bound ≡ true
until-is reader is_first line stamp bound e low =
    let t : int_lt bound stamp.instant ≡ false = grind (arith, signed_arith, low) in ap (stands_until bound) e ∙ ap not t

pub after-not : (reader : Reader) (is_first : Bool) (line : List ℕ) (stamp : LineStamp) (bound : ℤ) → line_stamp reader None is_first line ≡ Ok stamp
    → bound <ℤ stamp.instant → is_until reader is_first line bound ≡ false
after-not reader is_first line stamp bound e late =
    let t : int_lt bound stamp.instant ≡ true = grind (arith, signed_arith, late) in ap (stands_until bound) e ∙ ap not t

pub without-not : (reader : Reader) (is_first : Bool) (line : List ℕ) (refusal : LineRefusal) (bound : ℤ)
    → line_stamp reader None is_first line ≡ Err refusal → is_until reader is_first line bound ≡ false
without-not reader is_first line refusal bound e = ap (stands_until bound) e
