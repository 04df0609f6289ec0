-- The offset of parts is the only one that has them all.
use Rattle.std.proofs.Common.{◌≡◌, ◌⊎◌, ℕ, suc, zero, ◌+◌, ◌*◌, ◌/◌, ◌%◌, ◌≤◌, Bool, true, false, refl}
use Rattle.std.proofs.Common.{sym, arith, ℤ, pos, unsigned_abs, Option, Some, None}
use Rattle.std.proofs.Common.{Result, Ok, Err, inl, inr}
use Rattle.std.specs.Prelude.{IfSome, IfOk, IsTrue, nat_lt, int_lt, is_some}
use Rattle.std.proofs.lemmas.Bool.Decides.{nat_tests}
use Rattle.calendar_values.specs.Offsets.{IsOffset}
use Rattle.calendar_values.specs.SignedArith.{signed_arith, one_part}
use Rattle.format_descriptions.specs.ClockValues.{or_zero}
use Rattle.format_descriptions.specs.OffsetValues.{or_false, HasOffsetParts, tells_offset, offset_at, offset_by, offset_of_parts}
use Rattle.format_descriptions.specs.PartTests.{signed}
use Rattle.format_descriptions.specs.declared.parts.Parts.{Parts}
use Rattle.format_descriptions.specs.declared.value_refusal.ValueRefusal.{ValueRefusal}
use Rattle.format_descriptions.proofs.PartLemmas.{signed-of}

-- the sign of a number, and that of 0, make the number again
signed-is : (b : Bool) (o : ℤ) (n : ℕ) → n ≡ unsigned_abs o → (b ≡ int_lt o (pos 0)) ⊎ (o ≡ pos 0) → signed b n ≡ o
signed-is b o n size (inl sign) = rw (sign, size) (signed-of o)
signed-is true o n size (inr none) = rw (size, none) refl
signed-is false o n size (inr none) = rw (size, none) refl

-- hours, minutes and seconds make their number again
parts-again : (n : ℕ) → n / 3_600 * 3_600 + n / 60 % 60 * 60 + n % 60 ≡ n
parts-again n = omega arith

offset_at-only : (p : Parts) (o : ℤ) → IsOffset o → HasOffsetParts p o → offset_at p (unsigned_abs o / 3_600) ≡ Ok o
unfolding offset_at
offset_at-only p o in_range h =
    let n = unsigned_abs o in
    let most : n ≤ 93_599 = omega (arith, signed_arith, one_part o, in_range.0, in_range.1) in
    let hour : nat_lt 25 (n / 3_600) ≡ false = grind (arith, nat_tests, most) in
    let minute : nat_lt 59 (n / 60 % 60) ≡ false = grind (arith, nat_tests) in
    let second : nat_lt 59 (n % 60) ≡ false = grind (arith, nat_tests) in
    rw (hour, h.minute, minute, h.second, second, signed-is (or_false p.is_west) o _ (parts-again n) h.sign) refl

offset_by-only : (p : Parts) (o : ℤ) (hour : Option ℕ) → IsOffset o → HasOffsetParts p o → IfSome hour (λ k. k ≡ unsigned_abs o / 3_600) → IsTrue (is_some hour)
    → offset_by p hour ≡ Ok o
offset_by-only p o None in_range h eh tells = absurd cc
offset_by-only p o (Some hour) in_range h eh tells = rw eh (offset_at-only p o in_range h)

-- the only offset that has these parts is what they are read as
pub offset_of_parts-only : (p : Parts) (o : ℤ) → IsOffset o → IsTrue (tells_offset p) → HasOffsetParts p o → offset_of_parts p ≡ Ok o
unfolding offset_of_parts
offset_of_parts-only p o in_range tells h = offset_by-only p o p.offset_hour in_range h h.hour tells

-- a number with a sign has its size, and the sign unless it is 0
size-signed : (b : Bool) (n : ℕ) → unsigned_abs (signed b n) ≡ n
size-signed false n = refl
size-signed true zero = refl
size-signed true (suc n) = refl

sign-signed : (b : Bool) (n : ℕ) → (b ≡ int_lt (signed b n) (pos 0)) ⊎ (signed b n ≡ pos 0)
sign-signed false n = let east : int_lt (pos n) (pos 0) ≡ false = grind (arith, signed_arith) in inl (sym east)
sign-signed true zero = inr refl
sign-signed true (suc n) = inl refl

-- the number of hours, minutes and seconds has them
record HasSizes (n h m s : ℕ) : Type 0 where
  pub hour : n / 3_600 ≡ h
  pub minute : n / 60 % 60 ≡ m
  pub second : n % 60 ≡ s

sizes-of : (h m s : ℕ) → m ≤ 59 → s ≤ 59 → HasSizes (h * 3_600 + m * 60 + s) h m s
sizes-of h m s few_minutes few_seconds = record { hour = omega arith; minute = omega arith; second = omega arith }

offset_at-kept : (p : Parts) (o : ℤ) (h : ℕ) (a b c : Bool) → nat_lt 25 h ≡ a → nat_lt 59 (or_zero p.offset_minute) ≡ b
    → nat_lt 59 (or_zero p.offset_second) ≡ c → offset_at p h ≡ Ok o → IfSome p.offset_hour (λ known. known ≡ h) → HasOffsetParts p o
unfolding offset_at
offset_at-kept p o h false false false ha hb hc is known =
    let m = or_zero p.offset_minute in
    let s = or_zero p.offset_second in
    let n = h * 3_600 + m * 60 + s in
    let west = or_false p.is_west in
    let sizes = sizes-of h m s (grind (arith, nat_tests, hb)) (grind (arith, nat_tests, hc)) in
    let same : signed west n ≡ o = grind (arith, ha, hb, hc, is) in
    rw (← same) (record {
      hour = rw (size-signed west n, sizes.hour) known;
      minute = rw (size-signed west n) (sym sizes.minute);
      second = rw (size-signed west n) (sym sizes.second);
      sign = sign-signed west n;
    })
offset_at-kept p o h true b c ha hb hc is known = absurd (grind (arith, ha, is))
offset_at-kept p o h false true c ha hb hc is known = absurd (grind (arith, ha, hb, is))
offset_at-kept p o h false false true ha hb hc is known = absurd (grind (arith, ha, hb, hc, is))

offset_by-has : (p : Parts) (o : ℤ) (hour : Option ℕ) → p.offset_hour ≡ hour → offset_by p hour ≡ Ok o → HasOffsetParts p o
offset_by-has p o None same is = absurd cc
offset_by-has p o (Some hour) same is = offset_at-kept p o hour _ _ _ refl refl refl is (rw same refl)

offset-has : (p : Parts) (r : Result ℤ ValueRefusal) → offset_of_parts p ≡ r → IfOk r (λ o. HasOffsetParts p o)
unfolding offset_of_parts
offset-has p (Ok o) e = offset_by-has p o p.offset_hour refl e
offset-has p (Err refusal) e = tt

-- what parts are read as has them all
pub offset_of_parts-has : (p : Parts) → IfOk (offset_of_parts p) (λ o. HasOffsetParts p o)
offset_of_parts-has p = offset-has p (offset_of_parts p) refl
