-- The bytes that a hasher receives determine their numbers, if the numbers fit in their bytes.
use Rattle.std.proofs.Common.{◌≡◌, ℕ, zero, suc, ◌+◌, ◌*◌, ◌^◌, ◌/◌, ◌%◌, ◌<◌, ◌≤◌, List, [], ◌∷◌, ◌++◌, refl, sym, ap, ◌∙◌, arith, ℤ}
use Rattle.std.proofs.Math.Nat.{add-mul, add_assoc, div-add-mod', div-div-eq-div-mul, div-one, mod-eq_of_lt, mod-lt, mod-one, mul-add-mod_self_right}
use Rattle.std.proofs.Math.Nat.{mul-le-mul_right, mul_assoc, one-le-pow, pow-suc}
use Rattle.std.proofs.Math.Facts.{Fits-of_z, to_z-of_z}
use Rattle.std.specs.Hash as fed
use Rattle.std.specs.Hash.{le_bytes}
use Rattle.std.specs.Int.{byte_at, bytes_low_first}
use mir.Syntax.{Width, w64, w128}
use mir.Val.{SFits, of_z, to_z}

-- the number of these bytes, the lowest first
abbrev number_of : List ℕ → ℕ
number_of [] = 0
number_of (b ∷ bs) = b + 256 * number_of bs

-- the numbers of the first and of the second write
abbrev first_number : fed.HashWrites → ℕ
first_number [] = 0
first_number (bytes ∷ writes) = number_of bytes

abbrev second_number : fed.HashWrites → ℕ
second_number [] = 0
second_number (bytes ∷ writes) = first_number writes

-- the remainder by a product, by its two digits
mod-split : (n : ℕ) {m c : ℕ} → zero < m → zero < c → n % (m * c) ≡ (n / c % m) * c + n % c
mod-split n {m} {c} hm hc =
    let a = mod-lt (n / c) hm in
    let b = mod-lt n hc in
    let top : (n / c % m + 1) * c ≤ m * c = mul-le-mul_right c (omega arith) in
    let expand : (n / c % m + 1) * c ≡ n / c % m * c + 1 * c = add-mul (n / c % m) 1 c in
    let split : n ≡ n / c / m * (m * c) + (n / c % m * c + n % c) =
    sym (div-add-mod' n c)
    ∙ ap (λ (x : ℕ). x * c + n % c) (sym (div-add-mod' (n / c) m))
    ∙ ap (λ (x : ℕ). x + n % c) (add-mul (n / c / m * m) (n / c % m) c ∙ ap (λ (x : ℕ). x + n / c % m * c) (mul_assoc (n / c / m) m c))
    ∙ add_assoc (n / c / m * (m * c)) (n / c % m * c) (n % c) in
    ap (λ (x : ℕ). x % (m * c)) split ∙ mul-add-mod_self_right (n / c / m) (m * c) (n / c % m * c + n % c) ∙ mod-eq_of_lt (omega arith)

byte_at-pow : (k x : ℕ) → byte_at k x ≡ x / 256 ^ k % 256
byte_at-pow zero x = ap (λ (y : ℕ). y % 256) (sym (div-one x))
byte_at-pow (suc k) x = refl

-- the number of k bytes of x from byte j on
number_of-bytes : (k j x : ℕ) → number_of (bytes_low_first j k x) ≡ x / 256 ^ j % 256 ^ k
number_of-bytes zero j x = sym (mod-one (x / 256 ^ j))
number_of-bytes (suc k) j x =
    let rest = number_of-bytes k (suc j) x in
    let shift : x / 256 ^ suc j ≡ x / 256 ^ j / 256 = ap (λ (p : ℕ). x / p) (pow-suc 256 j) ∙ sym (div-div-eq-div-mul x (256 ^ j) 256) in
    let above = one-le-pow k 256 (omega arith) in
    let split = mod-split (x / 256 ^ j) {m = 256 ^ k} {c = 256} (omega arith) (omega arith) in
    rw (rest, shift, byte_at-pow j x, pow-suc 256 k, split) (omega arith)

-- the bytes of a number that fits determine it
number_of-le_bytes : (k x : ℕ) → x < 256 ^ k → number_of (le_bytes k x) ≡ x
unfolding le_bytes
number_of-le_bytes k x h = number_of-bytes k 0 x ∙ ap (λ (y : ℕ). y % 256 ^ k) (div-one x) ∙ mod-eq_of_lt h

-- signed numbers are equal if their bits are
same_of_bits : (w : Width) (x y : ℤ) → SFits w x → SFits w y → of_z w x ≡ of_z w y → x ≡ y
same_of_bits w x y f g e = sym (to_z-of_z f) ∙ ap (to_z w) e ∙ to_z-of_z g

-- two numbers of 16 bytes are equal if a hasher receives the same bytes
pub same_of_i128 : (x y : ℤ) → SFits w128 x → SFits w128 y → fed.i128 x ≡ fed.i128 y → x ≡ y
same_of_i128 x y f g e =
    let of_x = number_of-le_bytes 16 (of_z w128 x) (Fits-of_z f).fits in
    let of_y = number_of-le_bytes 16 (of_z w128 y) (Fits-of_z g).fits in
    same_of_bits w128 x y f g (sym of_x ∙ ap first_number e ∙ of_y)

-- the same for a number of 8 bytes, and then one of 4
pub same_of_i64_u32 : (x y : ℤ) (m n : ℕ) → SFits w64 x → SFits w64 y → m < 2 ^ 32 → n < 2 ^ 32 → fed.i64 x ++ fed.u32 m ≡ fed.i64 y ++ fed.u32 n
    → (x ≡ y) × (m ≡ n)
same_of_i64_u32 x y m n f g h k e =
    let of_x = number_of-le_bytes 8 (of_z w64 x) (Fits-of_z f).fits in
    let of_y = number_of-le_bytes 8 (of_z w64 y) (Fits-of_z g).fits in
    (same_of_bits w64 x y f g (sym of_x ∙ ap first_number e ∙ of_y), sym (number_of-le_bytes 4 m h) ∙ ap second_number e ∙ number_of-le_bytes 4 n k)
