-- How the members of an object are passed, byte by byte.
use Rattle.std.proofs.Common.{◌≡◌, ◌≢◌, ◌∙◌, ap, sym, refl, ℕ, ◌+◌, ◌≤◌, ◌==◌, ◌&&◌, ◌||◌, not, Bool, true, false, List, [], ◌∷◌, ◌++◌}
use Rattle.std.proofs.Common.{arith, Option, Some, None, inl, inr, ◌⊎◌}
use Rattle.std.specs.Prelude.{IsTrue, All}
use Rattle.std.specs.Char.{is_ascii_digit}
use Rattle.std.specs.List.{list_all}
use Rattle.std.proofs.lemmas.Bool.{cases_Bool, and_parts}
use Rattle.std.proofs.lemmas.Bool.Decides.{nat_tests}
use Rattle.std.proofs.lemmas.List.Elements.{All-head, All-tail}
use mathlib.Core.List.{append_assoc}
use Rattle.rfc3339.specs.Reading.{◌>>=◌, mark_at}
use Rattle.log_forms.specs.Marks.{bytes_at}
use Rattle.log_forms.specs.declared.json.JsonState.TheVariants.{Outside, Inside}
use Rattle.log_forms.specs.Json.{is_white, value_of, value_text, named_value, member_at, past_white, has_ended, depth_after}
use Rattle.log_forms.specs.JsonLaws.{IsFirst, here, later, HasOtherName}
use Rattle.log_forms.specs.JsonGrammar.{Piece, Value, Members, Derives, literal, number, string, empty_array, array, empty_object, object}
use Rattle.log_forms.specs.JsonGrammar.{last_element, element, last_member, member, Member, members_of, IsObject, no_members, some_members}
use Rattle.log_forms.specs.JsonGrammar.{DerivesBlank, no_white, white, DerivesCharacters, no_more, unescaped, escaped, coded}
use Rattle.log_forms.specs.JsonGrammar.{is_white_space, is_hex}
use Rattle.log_forms.specs.JsonGrammar.{DerivesDigits, digits, DerivesInteger, zero_digit, first_digit, DerivesMinus, no_minus, minus}
use Rattle.log_forms.specs.JsonGrammar.{DerivesFraction, no_fraction, fraction, DerivesSign, no_sign, minus_sign, plus_sign}
use Rattle.log_forms.specs.JsonGrammar.{DerivesExponent, no_exponent, exponent, DerivesNumber, number as whole_number, DerivesLiteral}
use Rattle.log_forms.specs.JsonGrammar.{literal_true, literal_false, literal_null}

-- ---- bytes outside of strings

-- a byte that is no quote and no bracket
abbrev is_plain : ℕ → Bool
is_plain byte = not (byte == 34) && (not (byte == 123) && (not (byte == 91) && (not (byte == 125) && not (byte == 93))))

-- a text that changes nothing outside of strings
abbrev Passes : Bool → List ℕ → ℕ → List ℕ → Type 0
Passes i name d text = (rest : List ℕ) → value_of i name Outside d (text ++ rest) ≡ value_of i name Outside d rest

plain-step : (i : Bool) (name : List ℕ) (d byte : ℕ) (rest : List ℕ) → has_ended i d ≡ false → IsTrue (is_plain byte)
    → value_of i name Outside d (byte ∷ rest) ≡ value_of i name Outside d rest
unfolding value_of
plain-step i name d byte rest going plain =
    let quote : (byte == 34) ≡ false = grind (arith, nat_tests) in
    let same : depth_after byte d ≡ d = grind (arith, nat_tests) in
    rw (quote, same, going) refl

plain-all : (i : Bool) (name : List ℕ) (d : ℕ) (text : List ℕ) → has_ended i d ≡ false → IsTrue (list_all is_plain text) → Passes i name d text
plain-all i name d [] going plain = λ rest. refl
plain-all i name d (byte ∷ text) going plain = λ rest.
    let both = and_parts (is_plain byte) (list_all is_plain text) plain in
    plain-step i name d byte (text ++ rest) going both.0 ∙ plain-all i name d text going both.1 rest

-- ---- texts that pass

both_true : (a b : Bool) → IsTrue a → IsTrue b → IsTrue (a && b)
both_true true b h g = g
both_true false b h g = absurd cc

other-test : (a b : ℕ) → (a == b) ≡ false → (b == a) ≡ false
other-test a b h = grind (arith, nat_tests)

digit-plain : (byte : ℕ) → IsTrue (is_ascii_digit byte) → IsTrue (is_plain byte)
digit-plain byte h = grind (arith, nat_tests)

white-plain : (byte : ℕ) → IsTrue (is_white_space byte) → IsTrue (is_plain byte)
white-plain byte w = grind (arith, nat_tests)

blank-plain : {text : List ℕ} → DerivesBlank text → IsTrue (list_all is_plain text)
blank-plain no_white = refl
blank-plain (white {byte} w t) = both_true (is_plain byte) _ (white-plain byte w) (blank-plain t)

digits-plain : (text : List ℕ) → IsTrue (list_all is_ascii_digit text) → IsTrue (list_all is_plain text)
digits-plain [] h = refl
digits-plain (byte ∷ text) h =
    let both = and_parts (is_ascii_digit byte) (list_all is_ascii_digit text) h in
    both_true (is_plain byte) _ (digit-plain byte both.0) (digits-plain text both.1)

some_digits-plain : {text : List ℕ} → DerivesDigits text → IsTrue (list_all is_plain text)
some_digits-plain (digits {digit} {others} d o) = both_true (is_plain digit) _ (digit-plain digit d) (digits-plain others o)

plain-append : (s t : List ℕ) → IsTrue (list_all is_plain s) → IsTrue (list_all is_plain t) → IsTrue (list_all is_plain (s ++ t))
plain-append [] t a b = b
plain-append (byte ∷ s) t a b =
    let both = and_parts (is_plain byte) (list_all is_plain s) a in
    both_true (is_plain byte) _ both.0 (plain-append s t both.1 b)

minus-plain : {text : List ℕ} → DerivesMinus text → IsTrue (list_all is_plain text)
minus-plain no_minus = refl
minus-plain minus = refl

integer-plain : {text : List ℕ} → DerivesInteger text → IsTrue (list_all is_plain text)
integer-plain zero_digit = refl
integer-plain (first_digit {digit} {others} d o) =
    let first : IsTrue (is_plain digit) = grind (arith, nat_tests) in
    both_true (is_plain digit) _ first (digits-plain others o)

fraction-plain : {text : List ℕ} → DerivesFraction text → IsTrue (list_all is_plain text)
fraction-plain no_fraction = refl
fraction-plain (fraction d) = some_digits-plain d

sign-plain : {text : List ℕ} → DerivesSign text → IsTrue (list_all is_plain text)
sign-plain no_sign = refl
sign-plain minus_sign = refl
sign-plain plus_sign = refl

exponent-plain : {text : List ℕ} → DerivesExponent text → IsTrue (list_all is_plain text)
exponent-plain no_exponent = refl
exponent-plain (exponent {letter} {sign} {digits} l s d) =
    let first : IsTrue (is_plain letter) = grind (arith, nat_tests) in
    both_true (is_plain letter) _ first (plain-append sign digits (sign-plain s) (some_digits-plain d))

number-plain : {text : List ℕ} → DerivesNumber text → IsTrue (list_all is_plain text)
number-plain (whole_number {minus = m} {integer = i} {fraction = f} {exponent = e} dm di df de) =
    plain-append m _ (minus-plain dm) (plain-append i _ (integer-plain di) (plain-append f e (fraction-plain df) (exponent-plain de)))

literal-plain : {text : List ℕ} → DerivesLiteral text → IsTrue (list_all is_plain text)
literal-plain literal_true = refl
literal-plain literal_false = refl
literal-plain literal_null = refl

-- ---- strings

-- the bytes of a string by their backslashes alone
data Body : List ℕ → Type 0 where
  ends : Body []
  one : {byte : ℕ} {text : List ℕ} → (byte == 34) ≡ false → (byte == 92) ≡ false → Body text → Body (byte ∷ text)
  two : {byte : ℕ} {text : List ℕ} → Body text → Body (92 ∷ byte ∷ text)

hex-one : (byte : ℕ) {text : List ℕ} → IsTrue (is_hex byte) → Body text → Body (byte ∷ text)
hex-one byte h body =
    let quote : (byte == 34) ≡ false = grind (arith, nat_tests) in
    let slash : (byte == 92) ≡ false = grind (arith, nat_tests) in
    one quote slash body

Body-of : {text : List ℕ} → DerivesCharacters text → Body text
Body-of no_more = ends
Body-of (unescaped {byte} h t) =
    let quote : (byte == 34) ≡ false = grind (arith, nat_tests) in
    let slash : (byte == 92) ≡ false = grind (arith, nat_tests) in
    one quote slash (Body-of t)
Body-of (escaped h t) = two (Body-of t)
Body-of (coded {a} {b} {c} {d} h t) =
    let first = and_parts (is_hex a) _ h in
    let second = and_parts (is_hex b) _ first.1 in
    let last = and_parts (is_hex c) (is_hex d) second.1 in
    two (hex-one a first.0 (hex-one b second.0 (hex-one c last.0 (hex-one d last.1 (Body-of t)))))

inside-step : (i : Bool) (name : List ℕ) (d byte : ℕ) (rest : List ℕ) → (byte == 34) ≡ false → (byte == 92) ≡ false
    → value_of i name Inside d (byte ∷ rest) ≡ value_of i name Inside d rest
unfolding value_of
inside-step i name d byte rest quote slash = rw (slash, quote) refl

-- the bytes of a string are passed inside it
body-passed : {text : List ℕ} → Body text → (i : Bool) (name : List ℕ) (d : ℕ) (rest : List ℕ)
    → value_of i name Inside d (text ++ rest) ≡ value_of i name Inside d rest
unfolding value_of
body-passed ends i name d rest = refl
body-passed (one {byte} {text} quote slash t) i name d rest = inside-step i name d byte (text ++ rest) quote slash ∙ body-passed t i name d rest
body-passed (two t) i name d rest = body-passed t i name d rest

-- what follows a name and a quote
abbrev name_end : List ℕ → List ℕ → Option (List ℕ)
name_end name text = bytes_at name text >>= λ last. mark_at 34 last

-- a name is that of a string, or is not found there
either-name : {name text : List ℕ} → Body name → Body text → (rest : List ℕ) → (name ≡ text) ⊎ (name_end name (text ++ 34 ∷ rest) ≡ None)
unfolding bytes_at mark_at
either-name ends ends rest = inl refl
either-name ends (one quote slash t) rest = inr (rw quote refl)
either-name ends (two t) rest = inr refl
either-name (one {byte} quote slash n) ends rest = inr (rw (other-test byte 34 quote) refl)
either-name (one {byte = a} {text = name} quote slash n) (one {byte = b} {text} quote' slash' t) rest = elim (cases_Bool (b == a)) [
  | inl same ↦
      let e : a ≡ b = grind (arith, nat_tests) in
      elim (either-name n t rest) [
        | inl others ↦ inl (rw (e, others) refl)
        | inr none ↦ inr (rw same none)
      ]
  | inr other ↦ inr (rw other refl)
]
either-name (one {byte} quote slash n) (two t) rest = inr (rw (other-test byte 92 slash) refl)
either-name (two n) ends rest = inr refl
either-name (two n) (one quote slash t) rest = inr (rw slash refl)
either-name (two {byte = a} {text = name} n) (two {byte = b} {text} t) rest = elim (cases_Bool (b == a)) [
  | inl same ↦
      let e : a ≡ b = grind (arith, nat_tests) in
      elim (either-name n t rest) [
        | inl others ↦ inl (rw (e, others) refl)
        | inr none ↦ inr (rw same none)
      ]
  | inr other ↦ inr (rw other refl)
]

same-name : (name rest : List ℕ) → name_end name (name ++ 34 ∷ rest) ≡ Some rest
unfolding bytes_at mark_at
same-name [] rest = refl
same-name (byte ∷ name) rest =
    let same : (byte == byte) ≡ true = grind (arith, nat_tests) in rw same (same-name name rest)

-- a string is passed where it is no member of the outermost object
quote-step : (i : Bool) (name : List ℕ) (d : ℕ) (rest : List ℕ) → member_at name d (34 ∷ rest) ≡ None
    → value_of i name Outside d (34 ∷ rest) ≡ value_of i name Inside d rest
unfolding value_of
quote-step i name d rest none = rw none refl

end-step : (i : Bool) (name : List ℕ) (d : ℕ) (rest : List ℕ) → value_of i name Inside d (34 ∷ rest) ≡ value_of i name Outside d rest
unfolding value_of
end-step i name d rest = refl

string-passed : (i : Bool) (name : List ℕ) (d : ℕ) {text : List ℕ} (rest : List ℕ) → Body text → member_at name d (34 ∷ (text ++ 34 ∷ rest)) ≡ None
    → value_of i name Outside d (34 ∷ (text ++ 34 ∷ rest)) ≡ value_of i name Outside d rest
string-passed i name d {text} rest body none =
    quote-step i name d (text ++ 34 ∷ rest) none ∙ (body-passed body i name d (34 ∷ rest) ∙ end-step i name d rest)

-- no member is in an object or an array inside
deep-member : (name : List ℕ) (d : ℕ) (text : List ℕ) → 2 ≤ d → member_at name d text ≡ None
unfolding member_at
deep-member name d text deep = grind (arith, nat_tests)

going-deep : (i : Bool) (d : ℕ) → 1 ≤ d → has_ended i d ≡ false
going-deep i d deep = grind (arith, nat_tests)

-- ---- brackets

open-step : (i : Bool) (name : List ℕ) (d byte : ℕ) (rest : List ℕ) → IsTrue ((byte == 123) || (byte == 91))
    → value_of i name Outside d (byte ∷ rest) ≡ value_of i name Outside (d + 1) rest
unfolding value_of
open-step i name d byte rest opens =
    let quote : (byte == 34) ≡ false = grind (arith, nat_tests) in
    let deeper : depth_after byte d ≡ d + 1 = grind (arith, nat_tests) in
    rw (quote, deeper, going-deep i (d + 1) (omega arith)) refl

close-step : (i : Bool) (name : List ℕ) (d byte : ℕ) (rest : List ℕ) → has_ended i d ≡ false → IsTrue ((byte == 125) || (byte == 93))
    → value_of i name Outside (d + 1) (byte ∷ rest) ≡ value_of i name Outside d rest
unfolding value_of
close-step i name d byte rest going closes =
    let quote : (byte == 34) ≡ false = grind (arith, nat_tests) in
    let less : depth_after byte (d + 1) ≡ d = grind (arith, nat_tests) in
    rw (quote, less, going) refl

-- an inner object that ends
last-step : (name : List ℕ) (rest : List ℕ) → value_of true name Outside 1 (125 ∷ rest) ≡ None
unfolding value_of
last-step name rest = refl

-- ---- pieces inside, which are passed whole

passes-append : (i : Bool) (name : List ℕ) (d : ℕ) (s t : List ℕ) → Passes i name d s → Passes i name d t → Passes i name d (s ++ t)
passes-append i name d s t a b = λ rest. rw (append_assoc s t rest) (a (t ++ rest) ∙ b rest)

passes-byte : (i : Bool) (name : List ℕ) (d byte : ℕ) (text : List ℕ) → has_ended i d ≡ false → IsTrue (is_plain byte) → Passes i name d text
    → Passes i name d (byte ∷ text)
passes-byte i name d byte text going plain b = λ rest. plain-step i name d byte (text ++ rest) going plain ∙ b rest

passes-blank : (i : Bool) (name : List ℕ) (d : ℕ) {text : List ℕ} → has_ended i d ≡ false → DerivesBlank text → Passes i name d text
passes-blank i name d {text} going b = plain-all i name d text going (blank-plain b)

passes-brackets : (i : Bool) (name : List ℕ) (d first last : ℕ) (text : List ℕ) → has_ended i d ≡ false → IsTrue ((first == 123) || (first == 91))
    → IsTrue ((last == 125) || (last == 93)) → Passes i name (d + 1) text → Passes i name d (first ∷ (text ++ last ∷ []))
passes-brackets i name d first last text going opens closes b = λ rest.
    open-step i name d first ((text ++ last ∷ []) ++ rest) opens
    ∙ rw (append_assoc text (last ∷ []) rest) (b (last ∷ rest) ∙ close-step i name d last rest going closes)

passes-string : (i : Bool) (name : List ℕ) (d : ℕ) {text : List ℕ} (rest : List ℕ) → 2 ≤ d → DerivesCharacters text → Passes i name d rest
    → Passes i name d (34 ∷ (text ++ 34 ∷ rest))
passes-string i name d {text} rest deep c b = λ more.
    rw (append_assoc text (34 ∷ rest) more)
    (string-passed i name d {text = text} (rest ++ more) (Body-of c) (deep-member name d (34 ∷ (text ++ 34 ∷ (rest ++ more))) deep) ∙ b more)

passes-nothing : (i : Bool) (name : List ℕ) (d : ℕ) → Passes i name d []
passes-nothing i name d = λ rest. refl

-- a piece of an object or an array inside is passed
passes-deep : {piece : Piece} {text : List ℕ} → Derives piece text → (i : Bool) (name : List ℕ) (d : ℕ) → 2 ≤ d → Passes i name d text
passes-deep (literal {text} l) i name d deep = plain-all i name d text (going-deep i d (omega (arith, deep))) (literal-plain l)
passes-deep (number {text} n) i name d deep = plain-all i name d text (going-deep i d (omega (arith, deep))) (number-plain n)
passes-deep (string {text} c) i name d deep = passes-string i name d [] deep c (passes-nothing i name d)
passes-deep (empty_array {blank} b) i name d deep =
    let going = going-deep i d (omega (arith, deep)) in
    passes-brackets i name d 91 93 blank going refl refl (passes-blank i name (d + 1) (going-deep i (d + 1) (omega arith)) b)
passes-deep (array {elements} e) i name d deep =
    let going = going-deep i d (omega (arith, deep)) in
    passes-brackets i name d 91 93 elements going refl refl (passes-deep e i name (d + 1) (omega (arith, deep)))
passes-deep (empty_object {blank} b) i name d deep =
    let going = going-deep i d (omega (arith, deep)) in
    passes-brackets i name d 123 125 blank going refl refl (passes-blank i name (d + 1) (going-deep i (d + 1) (omega arith)) b)
passes-deep (object {members} m) i name d deep =
    let going = going-deep i d (omega (arith, deep)) in
    passes-brackets i name d 123 125 members going refl refl (passes-deep m i name (d + 1) (omega (arith, deep)))
passes-deep (last_element {before} {value} {after} b v a) i name d deep =
    let going = going-deep i d (omega (arith, deep)) in
    passes-append i name d before (value ++ after) (passes-blank i name d going b)
    (passes-append i name d value after (passes-deep v i name d deep) (passes-blank i name d going a))
passes-deep (element {before} {value} {after} {others} b v a o) i name d deep =
    let going = going-deep i d (omega (arith, deep)) in
    passes-append i name d before _ (passes-blank i name d going b)
    (passes-append i name d value _ (passes-deep v i name d deep)
    (passes-append i name d after _ (passes-blank i name d going a)
    (passes-byte i name d 44 others going refl (passes-deep o i name d deep))))
passes-deep (last_member {before} {name = key} {between} {blank} {value} {after} b k w c v a) i name d deep =
    let going = going-deep i d (omega (arith, deep)) in
    passes-append i name d before _ (passes-blank i name d going b)
    (passes-string i name d _ deep k
    (passes-append i name d between _ (passes-blank i name d going w)
    (passes-byte i name d 58 _ going refl
    (passes-append i name d blank _ (passes-blank i name d going c)
    (passes-append i name d value after (passes-deep v i name d deep) (passes-blank i name d going a))))))
passes-deep (member {before} {name = key} {between} {blank} {value} {after} {others} b k w c v a o) i name d deep =
    let going = going-deep i d (omega (arith, deep)) in
    passes-append i name d before _ (passes-blank i name d going b)
    (passes-string i name d _ deep k
    (passes-append i name d between _ (passes-blank i name d going w)
    (passes-byte i name d 58 _ going refl
    (passes-append i name d blank _ (passes-blank i name d going c)
    (passes-append i name d value _ (passes-deep v i name d deep)
    (passes-append i name d after _ (passes-blank i name d going a)
    (passes-byte i name d 44 others going refl (passes-deep o i name d deep))))))))

-- ---- values in the outermost object

-- no colon follows the white space
abbrev NoColon : List ℕ → Type 0
NoColon rest = mark_at 58 (past_white rest) ≡ None

-- what a member of a name has
abbrev after_name : List ℕ → Option (List ℕ)
after_name blanks = mark_at 58 (past_white blanks) >>= λ value. Some (value_text (past_white value))

named-end : (found : Option (List ℕ)) → (found >>= λ last. mark_at 34 last >>= λ blanks. after_name blanks)
    ≡ ((found >>= λ last. mark_at 34 last) >>= λ blanks. after_name blanks)
named-end None = refl
named-end (Some last) = refl

-- the value of a string with a name's place: that of its name, or none
named_value-end : (name text : List ℕ) → named_value name (34 ∷ text) ≡ (name_end name text >>= λ blanks. after_name blanks)
unfolding mark_at
named_value-end name text = named-end (bytes_at name text)

member-one : (name text : List ℕ) → member_at name 1 text ≡ named_value name text
unfolding member_at
member-one name text = refl

same-value : (name rest : List ℕ) → member_at name 1 (34 ∷ (name ++ 34 ∷ rest)) ≡ after_name rest
same-value name rest =
    member-one name (34 ∷ (name ++ 34 ∷ rest))
    ∙ (named_value-end name (name ++ 34 ∷ rest) ∙ ap (λ (found : Option (List ℕ)). found >>= λ blanks. after_name blanks) (same-name name rest))

other-value : (name text rest : List ℕ) → name_end name (text ++ 34 ∷ rest) ≡ None → member_at name 1 (34 ∷ (text ++ 34 ∷ rest)) ≡ None
other-value name text rest none =
    member-one name (34 ∷ (text ++ 34 ∷ rest))
    ∙ (named_value-end name (text ++ 34 ∷ rest) ∙ ap (λ (found : Option (List ℕ)). found >>= λ blanks. after_name blanks) none)

-- a string that is a value is no member
string-value : {name text : List ℕ} (rest : List ℕ) → Body name → Body text → NoColon rest → member_at name 1 (34 ∷ (text ++ 34 ∷ rest)) ≡ None
string-value {name} {text} rest n t no_colon = elim (either-name n t rest) [
  | inl same ↦
      let found : member_at text 1 (34 ∷ (text ++ 34 ∷ rest)) ≡ None =
      same-value text rest ∙ ap (λ (found : Option (List ℕ)). found >>= λ value. Some (value_text (past_white value))) no_colon in
      rw same found
  | inr none ↦ other-value name text rest none
]

-- a value of the outermost object is passed
passes-value : {text : List ℕ} → Derives Value text → (i : Bool) (name rest : List ℕ) → DerivesCharacters name → NoColon rest
    → value_of i name Outside 1 (text ++ rest) ≡ value_of i name Outside 1 rest
passes-value (literal {text} l) i name rest n no_colon = plain-all i name 1 text (going-deep i 1 (omega arith)) (literal-plain l) rest
passes-value (number {text} d) i name rest n no_colon = plain-all i name 1 text (going-deep i 1 (omega arith)) (number-plain d) rest
passes-value (string {text} c) i name rest n no_colon =
    rw (append_assoc text (34 ∷ []) rest)
    (string-passed i name 1 {text = text} rest (Body-of c) (string-value rest (Body-of n) (Body-of c) no_colon))
passes-value (empty_array {blank} b) i name rest n no_colon =
    passes-brackets i name 1 91 93 blank (going-deep i 1 (omega arith)) refl refl (passes-blank i name 2 (going-deep i 2 (omega arith)) b) rest
passes-value (array {elements} e) i name rest n no_colon =
    passes-brackets i name 1 91 93 elements (going-deep i 1 (omega arith)) refl refl (passes-deep e i name 2 (omega arith)) rest
passes-value (empty_object {blank} b) i name rest n no_colon =
    passes-brackets i name 1 123 125 blank (going-deep i 1 (omega arith)) refl refl (passes-blank i name 2 (going-deep i 2 (omega arith)) b) rest
passes-value (object {members} m) i name rest n no_colon =
    passes-brackets i name 1 123 125 members (going-deep i 1 (omega arith)) refl refl (passes-deep m i name 2 (omega arith)) rest

-- ---- white space

past_white-blank : {blank : List ℕ} (text : List ℕ) → DerivesBlank blank → past_white (blank ++ text) ≡ past_white text
unfolding past_white
past_white-blank text no_white = refl
past_white-blank text (white {byte} {text = more} w b) = rw w (past_white-blank text b)

past_white-front : (byte : ℕ) (text : List ℕ) → is_white byte ≡ false → past_white (byte ∷ text) ≡ byte ∷ text
unfolding past_white
past_white-front byte text black = rw black refl

-- no white space begins a value
past_white-value : {value : List ℕ} (rest : List ℕ) → Derives Value value → past_white (value ++ rest) ≡ value ++ rest
past_white-value rest (literal literal_true) = past_white-front _ _ refl
past_white-value rest (literal literal_false) = past_white-front _ _ refl
past_white-value rest (literal literal_null) = past_white-front _ _ refl
past_white-value rest (number (whole_number minus i f e)) = past_white-front _ _ refl
past_white-value rest (number (whole_number no_minus zero_digit f e)) = past_white-front _ _ refl
past_white-value rest (number (whole_number no_minus (first_digit {digit} d o) f e)) =
    let black : is_white digit ≡ false = grind (arith, nat_tests) in past_white-front digit _ black
past_white-value rest (string c) = past_white-front _ _ refl
past_white-value rest (empty_array b) = past_white-front _ _ refl
past_white-value rest (array e) = past_white-front _ _ refl
past_white-value rest (empty_object b) = past_white-front _ _ refl
past_white-value rest (object m) = past_white-front _ _ refl

no_colon : {blank : List ℕ} (byte : ℕ) (text : List ℕ) → DerivesBlank blank → is_white byte ≡ false → (byte == 58) ≡ false → NoColon (blank ++ byte ∷ text)
unfolding mark_at
no_colon byte text b black other =
    rw (past_white-blank (byte ∷ text) b, past_white-front byte text black, other) refl

-- the value after a name and a colon
after_name-value : {between blank value : List ℕ} (rest : List ℕ) → DerivesBlank between → DerivesBlank blank → Derives Value value
    → after_name (between ++ 58 ∷ (blank ++ (value ++ rest))) ≡ Some (value_text (value ++ rest))
unfolding mark_at
after_name-value {between} {blank} {value} rest w c v =
    rw (
      past_white-blank (58 ∷ (blank ++ (value ++ rest))) w,
      past_white-front 58 (blank ++ (value ++ rest)) refl,
      past_white-blank (value ++ rest) c,
      past_white-value rest v,
    ) refl

-- ---- members of the outermost object

-- a member with all that follows it
abbrev with_member : List ℕ → List ℕ → List ℕ → List ℕ → List ℕ → List ℕ
with_member before key between blank more = before ++ 34 ∷ (key ++ 34 ∷ (between ++ 58 ∷ (blank ++ more)))

with_member-append : (before key between blank more rest : List ℕ)
    → with_member before key between blank more ++ rest ≡ with_member before key between blank (more ++ rest)
with_member-append before key between blank more rest =
    rw (
      append_assoc before (34 ∷ (key ++ 34 ∷ (between ++ 58 ∷ (blank ++ more)))) rest,
      append_assoc key (34 ∷ (between ++ 58 ∷ (blank ++ more))) rest,
      append_assoc between (58 ∷ (blank ++ more)) rest,
      append_assoc blank more rest,
    ) refl

last-append : (before key between blank value after rest : List ℕ) → with_member before key between blank (value ++ after) ++ rest
    ≡ with_member before key between blank (value ++ (after ++ rest))
last-append before key between blank value after rest =
    with_member-append before key between blank (value ++ after) rest
    ∙ ap (λ (t : List ℕ). with_member before key between blank t) (append_assoc value after rest)

more-append : (before key between blank value after others rest : List ℕ) → with_member before key between blank (value ++ (after ++ 44 ∷ others)) ++ rest
    ≡ with_member before key between blank (value ++ (after ++ 44 ∷ (others ++ rest)))
more-append before key between blank value after others rest =
    last-append before key between blank value (after ++ 44 ∷ others) rest
    ∙ ap (λ (t : List ℕ). with_member before key between blank (value ++ t)) (append_assoc after (44 ∷ others) rest)

going-one : (i : Bool) → has_ended i 1 ≡ false
going-one i = going-deep i 1 (omega arith)

-- a member of another name is passed
other-passed : (i : Bool) (name : List ℕ) {before key between blank value : List ℕ} (more : List ℕ) → DerivesCharacters name → DerivesBlank before
    → DerivesCharacters key → DerivesBlank between → DerivesBlank blank → Derives Value value → NoColon more → key ≢ name
    → value_of i name Outside 1 (with_member before key between blank (value ++ more)) ≡ value_of i name Outside 1 more
other-passed i name {before} {key} {between} {blank} {value} more n b k w c v no_colon other =
    let tail = between ++ 58 ∷ (blank ++ (value ++ more)) in
    let none : member_at name 1 (34 ∷ (key ++ 34 ∷ tail)) ≡ None =
    elim (either-name (Body-of n) (Body-of k) tail) [
      | inl same ↦ absurd (other (sym same))
      | inr none ↦ other-value name key tail none
    ] in
    passes-blank i name 1 {text = before} (going-one i) b (34 ∷ (key ++ 34 ∷ tail))
    ∙ (string-passed i name 1 {text = key} tail (Body-of k) none
    ∙ (passes-blank i name 1 {text = between} (going-one i) w (58 ∷ (blank ++ (value ++ more)))
    ∙ (plain-step i name 1 58 (blank ++ (value ++ more)) (going-one i) refl
    ∙ (passes-blank i name 1 {text = blank} (going-one i) c (value ++ more) ∙ passes-value v i name more n no_colon))))

-- the value of a member of the name is found
quote-found : (i : Bool) (name : List ℕ) (d : ℕ) (rest found : List ℕ) → member_at name d (34 ∷ rest) ≡ Some found
    → value_of i name Outside d (34 ∷ rest) ≡ Some found
unfolding value_of
quote-found i name d rest found some = rw some refl

same-found : (i : Bool) (name : List ℕ) {before between blank value : List ℕ} (more : List ℕ) → DerivesBlank before
    → DerivesBlank between → DerivesBlank blank → Derives Value value
    → value_of i name Outside 1 (with_member before name between blank (value ++ more)) ≡ Some (value_text (value ++ more))
same-found i name {before} {between} {blank} {value} more b w c v =
    let tail = between ++ 58 ∷ (blank ++ (value ++ more)) in
    passes-blank i name 1 {text = before} (going-one i) b (34 ∷ (name ++ 34 ∷ tail))
    ∙ quote-found i name 1 (name ++ 34 ∷ tail) (value_text (value ++ more)) (same-value name tail ∙ after_name-value more w c v)

-- members of other names are passed
passes-members : {text : List ℕ} (m : Derives Members text) → (i : Bool) (name end : List ℕ) → DerivesCharacters name
    → All (HasOtherName name) (members_of (125 ∷ end) text m)
    → value_of i name Outside 1 (text ++ 125 ∷ end) ≡ value_of i name Outside 1 (125 ∷ end)
unfolding members_of
passes-members (last_member {before} {name = key} {between} {blank} {value} {after} b k w c v a) i name end n others =
    rw (last-append before key between blank value after (125 ∷ end))
    (other-passed i name (after ++ 125 ∷ end) n b k w c v (no_colon 125 end a refl refl) (All-head (HasOtherName name) _ [] others)
    ∙ passes-blank i name 1 {text = after} (going-one i) a (125 ∷ end))
passes-members (member {before} {name = key} {between} {blank} {value} {after} {others = text} b k w c v a o) i name end n others =
    rw (more-append before key between blank value after text (125 ∷ end))
    (other-passed i name (after ++ 44 ∷ (text ++ 125 ∷ end)) n b k w c v (no_colon 44 (text ++ 125 ∷ end) a refl refl) (All-head (HasOtherName name) _ _ others)
    ∙ (passes-blank i name 1 {text = after} (going-one i) a (44 ∷ (text ++ 125 ∷ end))
    ∙ (plain-step i name 1 44 (text ++ 125 ∷ end) (going-one i) refl ∙ passes-members o i name end n (All-tail (HasOtherName name) _ _ others))))

-- the first member of a list is that of the name, or has another
first-of : {name : List ℕ} {first : Member} {others : List Member} {found : Member} → IsFirst name (first ∷ others) found
    → ((found ≡ first) × (first.name ≡ name)) ⊎ ((first.name ≢ name) × IsFirst name others found)
first-of (here same) = inl (refl, same)
first-of (later other f) = inr (other, f)

first-none : {name : List ℕ} {found : Member} → IsFirst name [] found → ⊥
first-none f = elim f [ ]

-- the first member of the name is found
finds-member : {text : List ℕ} (m : Derives Members text) → (i : Bool) (name end : List ℕ) (found : Member) → DerivesCharacters name
    → IsFirst name (members_of (125 ∷ end) text m) found → value_of i name Outside 1 (text ++ 125 ∷ end) ≡ Some (value_text found.value)
unfolding members_of
finds-member (last_member {before} {name = key} {between} {blank} {value} {after} b k w c v a) i name end found n f =
    elim (first-of f) [
      | inl first ↦
          let at : value_of i key Outside 1 (with_member before key between blank (value ++ (after ++ 125 ∷ end)))
          ≡ Some (value_text (value ++ (after ++ 125 ∷ end))) = same-found i key (after ++ 125 ∷ end) b w c v in
          rw (last-append before key between blank value after (125 ∷ end), first.0, ← first.1) at
      | inr next ↦ absurd (first-none next.1)
    ]
finds-member (member {before} {name = key} {between} {blank} {value} {after} {others = text} b k w c v a o) i name end found n f =
    elim (first-of f) [
      | inl first ↦
          let at : value_of i key Outside 1 (with_member before key between blank (value ++ (after ++ 44 ∷ (text ++ 125 ∷ end))))
          ≡ Some (value_text (value ++ (after ++ 44 ∷ (text ++ 125 ∷ end)))) = same-found i key (after ++ 44 ∷ (text ++ 125 ∷ end)) b w c v in
          rw (more-append before key between blank value after text (125 ∷ end), first.0, ← first.1) at
      | inr next ↦
          rw (more-append before key between blank value after text (125 ∷ end))
          (other-passed i name (after ++ 44 ∷ (text ++ 125 ∷ end)) n b k w c v (no_colon 44 (text ++ 125 ∷ end) a refl refl) next.0
          ∙ (passes-blank i name 1 {text = after} (going-one i) a (44 ∷ (text ++ 125 ∷ end))
          ∙ (plain-step i name 1 44 (text ++ 125 ∷ end) (going-one i) refl ∙ finds-member o i name end found n next.1)))
    ]

-- ---- the outermost object

-- an object is entered
object-open : (i : Bool) (name text : List ℕ) → value_of i name Outside 0 (123 ∷ text) ≡ value_of i name Outside 1 text
object-open i name text = open-step i name 0 123 text refl

object-text : (text rest : List ℕ) → 123 ∷ (text ++ 125 ∷ []) ++ rest ≡ 123 ∷ (text ++ 125 ∷ rest)
object-text text rest = rw (append_assoc text (125 ∷ []) rest) refl

-- the first member of the name is found in an object
object-first : {object rest : List ℕ} {members : List Member} → IsObject rest object members → (i : Bool) (name : List ℕ) (found : Member)
    → DerivesCharacters name → IsFirst name members found → value_of i name Outside 0 (object ++ rest) ≡ Some (value_text found.value)
object-first (no_members b) i name found n f = absurd (first-none f)
object-first {rest} (some_members {text} m) i name found n f =
    rw (object-text text rest) (object-open i name (text ++ 125 ∷ rest) ∙ finds-member m i name rest found n f)

-- an object without a member of the name is passed
object-passed : {object rest : List ℕ} {members : List Member} → IsObject rest object members → (i : Bool) (name : List ℕ)
    → DerivesCharacters name → All (HasOtherName name) members
    → value_of i name Outside 0 (object ++ rest) ≡ value_of i name Outside 1 (125 ∷ rest)
object-passed {rest} (no_members {blank} b) i name n others =
    rw (object-text blank rest) (object-open i name (blank ++ 125 ∷ rest) ∙ passes-blank i name 1 {text = blank} (going-one i) b (125 ∷ rest))
object-passed {rest} (some_members {text} m) i name n others =
    rw (object-text text rest) (object-open i name (text ++ 125 ∷ rest) ∙ passes-members m i name rest n others)

end-outer : (name : List ℕ) {rest : List ℕ} → DerivesBlank rest → value_of false name Outside 0 rest ≡ None
unfolding value_of
end-outer name no_white = refl
end-outer name (white {byte} {text} w b) = plain-step false name 0 byte text refl (white-plain byte w) ∙ end-outer name b

close-outer : (name rest : List ℕ) → value_of false name Outside 1 (125 ∷ rest) ≡ value_of false name Outside 0 rest
close-outer name rest = close-step false name 0 125 rest refl refl

-- what names find in a text that begins with an object of these members
pub record Finds (i : Bool) (text : List ℕ) (members : List Member) : Type 0 where
  pub first : (name : List ℕ) (found : Member) → DerivesCharacters name → IsFirst name members found
      → value_of i name Outside 0 text ≡ Some (value_text found.value)
  pub none : (name : List ℕ) → DerivesCharacters name → All (HasOtherName name) members → value_of i name Outside 0 text ≡ None

pub finds-inner : {text rest : List ℕ} {members : List Member} → IsObject rest text members → Finds true (text ++ rest) members
finds-inner {rest} o = record {
  first = object-first o true;
  none = λ name n others. object-passed o true name n others ∙ last-step name rest;
}

pub first-outer : {front text rest : List ℕ} {members : List Member} → DerivesBlank front → IsObject rest text members → (name : List ℕ) (found : Member)
    → DerivesCharacters name → IsFirst name members found → value_of false name Outside 0 (front ++ (text ++ rest)) ≡ Some (value_text found.value)
first-outer {front} {text} {rest} b o name found n f =
    passes-blank false name 0 {text = front} refl b (text ++ rest) ∙ object-first o false name found n f

pub finds-outer : {front text rest : List ℕ} {members : List Member} → DerivesBlank front → DerivesBlank rest → IsObject rest text members
    → Finds false (front ++ (text ++ rest)) members
finds-outer {front} {text} {rest} b e o = record {
  first = first-outer b o;
  none = λ name n others. passes-blank false name 0 {text = front} refl b (text ++ rest)
      ∙ (object-passed o false name n others ∙ (close-outer name rest ∙ end-outer name e));
}
