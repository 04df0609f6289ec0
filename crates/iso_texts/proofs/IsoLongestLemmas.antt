-- The longest beginning of a text of ISO 8601, by its sign, its digits and the rest.
use Rattle.std.proofs.Common.{◌≡◌, inl, ℕ, zero, suc, ◌+◌, ◌≤◌, true, false, List, [], ◌∷◌, ◌++◌, length, take, refl, sym, subst, arith}
use Rattle.std.specs.Prelude.{codes}
use Rattle.std.specs.Char.{is_ascii_digit}
use Rattle.calendar_values.specs.Digits.{last_digits}
use Rattle.rfc3339.specs.Reading.{parts_read}
use Rattle.iso_texts.specs.IsoFaults.{IsLongest, IsPlain, IsTail, IsIso}
use Rattle.iso_texts.specs.IsoReading.{is_sign}
use Rattle.iso_texts.proofs.IsoFaultLemmas.{longest_end, longest_stop, longest_on, no_true}
use Rattle.iso_texts.proofs.IsoTailLemmas.{iso_of_tail, four_make_years, six_make_years, tail_of_iso, after_sign}

-- a date-time
some_plain : IsPlain (codes "0000-00-00T00:00:00Z")
unfolding last_digits
some_plain = (
  parts_read 0 0 0 0 0 0 0 (false, 0, 0),
  record {
    separator = 84;
    fraction = [];
    offset = codes "Z";
    spelled = refl;
    is_separator = refl;
    is_fraction = inl (refl, refl);
    is_offset = inl (inl refl, refl, refl, refl);
    fits = omega arith;
  },
)

some_signed : (byte a b : ℕ) → is_sign byte ≡ true → is_ascii_digit a ≡ true → is_ascii_digit b ≡ true
    → IsIso (byte ∷ a ∷ b ∷ codes "0000-00-00T00:00:00Z")
some_signed byte a b s d e = iso_of_tail (byte ∷ a ∷ b ∷ []) (codes "0000-00-00T00:00:00Z") (six_make_years byte a b s d e) (inl some_plain)

-- ---- after a sign and two digits

tail_after : (byte a b : ℕ) (text : List ℕ) → is_sign byte ≡ true → IsIso (byte ∷ a ∷ b ∷ text) → IsTail text
tail_after byte a b text s g =
    let r = after_sign byte (a ∷ b ∷ text) s g in
    let whole = r.whole in
    let same : text ≡ r.tail = cc in
    subst IsTail (sym same) r.tail_is

after_two : (byte a b : ℕ) (text : List ℕ) (n : ℕ) → is_sign byte ≡ true → is_ascii_digit a ≡ true → is_ascii_digit b ≡ true → IsLongest IsTail text n
    → IsLongest (λ rest. IsIso (byte ∷ a ∷ b ∷ rest)) text n
after_two byte a b text n s d e h = record {
  at_most = h.at_most;
  begins = (h.begins.0, iso_of_tail (byte ∷ a ∷ b ∷ []) (take n text ++ h.begins.0) (six_make_years byte a b s d e) h.begins.1);
  longest = λ k. λ rest. λ low. λ g. h.longest k rest low (tail_after byte a b (take k text ++ rest) s g);
}

-- ---- after a sign and one digit

pub digit_end : (byte a : ℕ) (text : List ℕ) → text ≡ [] → is_sign byte ≡ true → is_ascii_digit a ≡ true
    → IsLongest (λ rest. IsIso (byte ∷ a ∷ rest)) text 0
digit_end byte a text none s d =
    subst (λ (z : List ℕ). IsLongest (λ rest. IsIso (byte ∷ a ∷ rest)) z 0) (sym none)
    (longest_end (λ rest. IsIso (byte ∷ a ∷ rest)) (48 ∷ codes "0000-00-00T00:00:00Z") (some_signed byte a 48 s d refl))

digit_after : (byte a b : ℕ) (text : List ℕ) → is_sign byte ≡ true → IsIso (byte ∷ a ∷ b ∷ text) → is_ascii_digit b ≡ true
digit_after byte a b text s g =
    let r = after_sign byte (a ∷ b ∷ text) s g in
    let whole = r.whole in
    let same : b ≡ r.b = cc in
    rw same r.b_is

pub digit_stop : (byte a b : ℕ) (text : List ℕ) → is_sign byte ≡ true → is_ascii_digit a ≡ true → is_ascii_digit b ≡ false
    → IsLongest (λ rest. IsIso (byte ∷ a ∷ rest)) (b ∷ text) 0
digit_stop byte a b text s d e =
    longest_stop (λ rest. IsIso (byte ∷ a ∷ rest)) (48 ∷ codes "0000-00-00T00:00:00Z") b text (some_signed byte a 48 s d refl)
    (λ rest. λ g. no_true (is_ascii_digit b) e (digit_after byte a b rest s g))

pub digit_on : (byte a b : ℕ) (text : List ℕ) (n : ℕ) → is_sign byte ≡ true → is_ascii_digit a ≡ true → is_ascii_digit b ≡ true → IsLongest IsTail text n
    → IsLongest (λ rest. IsIso (byte ∷ a ∷ rest)) (b ∷ text) (suc n)
digit_on byte a b text n s d e h = longest_on (λ rest. IsIso (byte ∷ a ∷ rest)) b text n (after_two byte a b text n s d e h)

-- ---- after a sign

pub digits_end : (byte : ℕ) (text : List ℕ) → text ≡ [] → is_sign byte ≡ true → IsLongest (λ rest. IsIso (byte ∷ rest)) text 0
digits_end byte text none s =
    subst (λ (z : List ℕ). IsLongest (λ rest. IsIso (byte ∷ rest)) z 0) (sym none)
    (longest_end (λ rest. IsIso (byte ∷ rest)) (48 ∷ 48 ∷ codes "0000-00-00T00:00:00Z") (some_signed byte 48 48 s refl refl))

digits_after : (byte a : ℕ) (text : List ℕ) → is_sign byte ≡ true → IsIso (byte ∷ a ∷ text) → is_ascii_digit a ≡ true
digits_after byte a text s g =
    let r = after_sign byte (a ∷ text) s g in
    let whole = r.whole in
    let same : a ≡ r.a = cc in
    rw same r.a_is

pub digits_stop : (byte a : ℕ) (text : List ℕ) → is_sign byte ≡ true → is_ascii_digit a ≡ false
    → IsLongest (λ rest. IsIso (byte ∷ rest)) (a ∷ text) 0
digits_stop byte a text s e =
    longest_stop (λ rest. IsIso (byte ∷ rest)) (48 ∷ 48 ∷ codes "0000-00-00T00:00:00Z") a text (some_signed byte 48 48 s refl refl)
    (λ rest. λ g. no_true (is_ascii_digit a) e (digits_after byte a rest s g))

pub digits_on : (byte a : ℕ) (text : List ℕ) (n : ℕ) → IsLongest (λ rest. IsIso (byte ∷ a ∷ rest)) text n
    → IsLongest (λ rest. IsIso (byte ∷ rest)) (a ∷ text) (suc n)
digits_on byte a text n h = longest_on (λ rest. IsIso (byte ∷ rest)) a text n h

-- ---- the whole text

pub iso_end : (text : List ℕ) → text ≡ [] → IsLongest IsIso text 0
iso_end text none =
    subst (λ (z : List ℕ). IsLongest IsIso z 0) (sym none)
    (longest_end IsIso (codes "0000-00-00T00:00:00Z") (iso_of_tail [] (codes "0000-00-00T00:00:00Z") four_make_years (inl some_plain)))

pub iso_on : (byte : ℕ) (text : List ℕ) (n : ℕ) → IsLongest (λ rest. IsIso (byte ∷ rest)) text n → IsLongest IsIso (byte ∷ text) (suc n)
iso_on byte text n h = longest_on IsIso byte text n h

pub iso_plain : (byte : ℕ) (text : List ℕ) (n : ℕ) → is_sign byte ≡ false → IsLongest IsTail (byte ∷ text) n → IsLongest IsIso (byte ∷ text) n
iso_plain byte text n s h = record {
  at_most = h.at_most;
  begins = (h.begins.0, iso_of_tail [] (take n (byte ∷ text) ++ h.begins.0) four_make_years h.begins.1);
  longest = longest;
} where
  longest : (k : ℕ) (rest : List ℕ) → k ≤ length (byte ∷ text) → IsIso (take k (byte ∷ text) ++ rest) → k ≤ n
  longest zero rest low g = omega arith
  longest (suc k) rest low g = h.longest (suc k) rest low (tail_of_iso byte (take k text ++ rest) s g)

-- ---- by what a text is

-- another way to write the same of a text and a number
same_longest : (G : List ℕ → Type 0) (text other : List ℕ) (n m : ℕ) → text ≡ other → n ≡ m → IsLongest G other m → IsLongest G text n
same_longest G text other n m e f h =
    subst (λ (z : List ℕ). IsLongest G z n) (sym e) (subst (λ (k : ℕ). IsLongest G other k) (sym f) h)

none_is : (text : List ℕ) → length text ≡ 0 → text ≡ []
none_is [] e = refl
none_is (first ∷ text) e = absurd (omega arith)

pub digit_none : (text : List ℕ) → length text ≡ 0 → (byte a : ℕ) → is_sign byte ≡ true → is_ascii_digit a ≡ true
    → IsLongest (λ rest. IsIso (byte ∷ a ∷ rest)) text 0
digit_none text e byte a s d = digit_end byte a text (none_is text e) s d

pub digit_some : (text rest : List ℕ) (b n : ℕ) → text ≡ b ∷ rest → is_ascii_digit b ≡ true → IsLongest IsTail rest n
    → (byte a : ℕ) → is_sign byte ≡ true → is_ascii_digit a ≡ true → IsLongest (λ rest. IsIso (byte ∷ a ∷ rest)) text (1 + n)
digit_some text rest b n e t h byte a s d =
    same_longest (λ rest. IsIso (byte ∷ a ∷ rest)) text (b ∷ rest) (1 + n) (suc n) e (omega arith) (digit_on byte a b rest n s d t h)

pub digit_other : (text rest : List ℕ) (b : ℕ) → text ≡ b ∷ rest → is_ascii_digit b ≡ false → (byte a : ℕ) → is_sign byte ≡ true → is_ascii_digit a ≡ true
    → IsLongest (λ rest. IsIso (byte ∷ a ∷ rest)) text 0
digit_other text rest b e t byte a s d =
    same_longest (λ rest. IsIso (byte ∷ a ∷ rest)) text (b ∷ rest) 0 0 e refl (digit_stop byte a b rest s d t)

pub digits_none : (text : List ℕ) → length text ≡ 0 → (byte : ℕ) → is_sign byte ≡ true → IsLongest (λ rest. IsIso (byte ∷ rest)) text 0
digits_none text e byte s = digits_end byte text (none_is text e) s

pub digits_some : (text rest : List ℕ) (a n : ℕ) → text ≡ a ∷ rest
    → ((byte : ℕ) → is_sign byte ≡ true → IsLongest (λ more. IsIso (byte ∷ a ∷ more)) rest n)
    → (byte : ℕ) → is_sign byte ≡ true → IsLongest (λ rest. IsIso (byte ∷ rest)) text (1 + n)
digits_some text rest a n e h byte s =
    same_longest (λ rest. IsIso (byte ∷ rest)) text (a ∷ rest) (1 + n) (suc n) e (omega arith) (digits_on byte a rest n (h byte s))

pub digits_other : (text rest : List ℕ) (a : ℕ) → text ≡ a ∷ rest → is_ascii_digit a ≡ false → (byte : ℕ) → is_sign byte ≡ true
    → IsLongest (λ rest. IsIso (byte ∷ rest)) text 0
digits_other text rest a e t byte s = same_longest (λ rest. IsIso (byte ∷ rest)) text (a ∷ rest) 0 0 e refl (digits_stop byte a rest s t)

pub iso_none : (text : List ℕ) → length text ≡ 0 → IsLongest IsIso text 0
iso_none text e = iso_end text (none_is text e)

pub iso_some : (text rest : List ℕ) (byte n : ℕ) → text ≡ byte ∷ rest → IsLongest (λ more. IsIso (byte ∷ more)) rest n → IsLongest IsIso text (1 + n)
iso_some text rest byte n e h = same_longest IsIso text (byte ∷ rest) (1 + n) (suc n) e (omega arith) (iso_on byte rest n h)

pub iso_other : (text rest : List ℕ) (byte n : ℕ) → text ≡ byte ∷ rest → is_sign byte ≡ false → IsLongest IsTail text n → IsLongest IsIso text n
iso_other text rest byte n e s h =
    same_longest IsIso text (byte ∷ rest) n n e refl (iso_plain byte rest n s (subst (λ (z : List ℕ). IsLongest IsTail z n) e h))
