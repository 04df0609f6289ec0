-- Digits, one after another.
use Rattle.std.proofs.Common.{◌≡◌, ℕ, suc, zero, ◌+◌, ◌-◌, ◌*◌, ◌/◌, ◌%◌, ◌<◌, ◌≤◌, ◌^◌}
use Rattle.std.proofs.Common.{decimal, List, [], ◌∷◌, ◌++◌, Option, Some, None, refl, sym, append_assoc, arith}
use Rattle.calendar_values.specs.Digits.{last_digits}
use Rattle.rfc3339.specs.Reading.{◌>>=◌, digit_at}
use Rattle.std.proofs.lemmas.Fmt.{decimal_digit, decimal_step_wide}
use Rattle.std.proofs.Math.Nat.{mul-le-mul_right, mul-le-mul, one-le-pow, pow-le-pow_right, le-mul_of_pos_right}
use Rattle.std.proofs.Common.{pow-suc}
use Rattle.format_descriptions.specs.Reading.{counted_at, digits_on}

-- nine digits that are pushed in groups
pub pushed_digits : (old first middle text : List ℕ) (n : ℕ) → first ≡ old ++ (48 + n / 100_000_000 % 10) ∷ []
    → middle ≡ first ++ last_digits 4 (n / 10_000) → text ≡ middle ++ last_digits 4 n → text ≡ old ++ last_digits 9 n
unfolding last_digits
pushed_digits old first middle text n e f g = rw (g, f, e) (simp append_assoc (grind arith))

-- a number, and the digits after it
abbrev pub counted_on : ℕ → Option (ℕ × List ℕ) → Option (ℕ × List ℕ)
counted_on n None = None
counted_on n (Some more) = Some (n + more.0, more.1)

counted_on-zero : (read : Option (ℕ × List ℕ)) → counted_on 0 read ≡ read
counted_on-zero None = refl
counted_on-zero (Some more) = let same : 0 + more.0 ≡ more.0 = omega arith in rw same refl

counted_on-add : (n d : ℕ) (read : Option (ℕ × List ℕ)) → counted_on n (read >>= λ more. Some (d + more.0, more.1)) ≡ counted_on (n + d) read
counted_on-add n d None = refl
counted_on-add n d (Some more) = let same : n + (d + more.0) ≡ n + d + more.0 = omega arith in rw same refl

-- before the first digit
pub counted_first : (count unit : ℕ) (text : List ℕ) → counted_on 0 (counted_at count unit text) ≡ counted_at count unit text
counted_first count unit text = counted_on-zero (counted_at count unit text)

-- a digit, and then the others
pub counted_next : (count unit n digit : ℕ) (text rest : List ℕ) (all : Option (ℕ × List ℕ)) → 0 < count → Some (digit, rest) ≡ digit_at text
    → counted_on n (counted_at count unit text) ≡ all → counted_on (n + digit * unit) (counted_at (count - 1) (unit / 10) rest) ≡ all
unfolding counted_at
counted_next zero unit n digit text rest all some is so = absurd (omega (arith, some))
counted_next (suc count) unit n digit text rest all some is so =
    let same : suc count - 1 ≡ count = omega arith in
    rw (same, ← counted_on-add n (digit * unit) (counted_at count (unit / 10) rest)) (rw (← is) at so)

-- no digit where there must be one
pub counted_none : (count unit n : ℕ) (text : List ℕ) (all : Option (ℕ × List ℕ)) → 0 < count → None ≡ digit_at text
    → counted_on n (counted_at count unit text) ≡ all → all ≡ None
unfolding counted_at
counted_none zero unit n text all some is so = absurd (omega (arith, some))
counted_none (suc count) unit n text all some is so = sym (rw (← is) at so)

-- behind the last digit
pub counted_last : (count unit n : ℕ) (text : List ℕ) (all : Option (ℕ × List ℕ)) → count ≡ 0
    → counted_on n (counted_at count unit text) ≡ all → all ≡ Some (n, text)
unfolding counted_at
counted_last zero unit n text all none so = let same : n + 0 ≡ n = omega arith in sym (rw same at so)
counted_last (suc count) unit n text all none so = absurd (omega (arith, none))

-- a number of more than four digits ends in its last four
pub decimal_four : (n : ℕ) → 10_000 ≤ n → n < 10 ^ 64 → decimal n ≡ decimal (n / 10_000) ++ last_digits 4 n
unfolding last_digits
decimal_four n high low =
    let a : n / 10 / 10 ≡ n / 100 = omega arith in
    let b : n / 100 / 10 ≡ n / 1_000 = omega arith in
    let c : n / 1_000 / 10 ≡ n / 10_000 = omega arith in
    rw (
      decimal_step_wide n (omega arith) low,
      decimal_step_wide (n / 10) (omega arith) (omega (arith, low)),
      a,
      decimal_step_wide (n / 100) (omega arith) (omega (arith, low)),
      b,
      decimal_step_wide (n / 1_000) (omega arith) (omega (arith, low)),
      c,
    ) (simp append_assoc refl)

-- where there is no digit, there are no more
pub no_more_digits : (count n : ℕ) (text : List ℕ) → digit_at text ≡ None → digits_on count (n, text) ≡ (n, text)
unfolding digits_on
no_more_digits zero n text none = refl
no_more_digits (suc count) n text none = rw none (no_more_digits count n text none)

-- a digit more is as if there was room for it
pub room_next : (n count d : ℕ) → 0 < count → d < 10 → (n + 1) * 10 ^ count ≤ 10 ^ 23 → (n * 10 + d + 1) * 10 ^ (count - 1) ≤ 10 ^ 23
room_next n zero d some low room = absurd (omega (arith, some))
room_next n (suc k) d some low room =
    let same : suc k - 1 ≡ k = omega arith in
    let step : (n * 10 + d + 1) * 10 ^ k ≤ ((n + 1) * 10) * 10 ^ k = mul-le-mul_right (10 ^ k) (omega (arith, low)) in
    let power : 10 ^ suc k ≡ 10 ^ k * 10 = pow-suc 10 k in
    let whole : (n + 1) * (10 ^ k * 10) ≤ 10 ^ 23 = rw (← power) room in
    rw same (grind (arith, step, whole))

-- a number that has room for more digits
pub room_below : (n count : ℕ) → (n + 1) * 10 ^ count ≤ 10 ^ 23 → n < 10 ^ 23
room_below n count room =
    let one : 1 ≤ 10 ^ count = one-le-pow count 10 (omega arith) in
    let least : n + 1 ≤ (n + 1) * 10 ^ count = le-mul_of_pos_right (n + 1) one in omega (arith, least, room)

-- the room behind a first digit
pub first_room : (most d : ℕ) → 1 ≤ most → most ≤ 23 → d < 10 → (d + 1) * 10 ^ (most - 1) ≤ 10 ^ 23
first_room most d some last low =
    let power : 10 ^ (most - 1) ≤ 10 ^ 22 = pow-le-pow_right {n = 10} (omega arith) {i = most - 1} {j = 22} (omega (arith, some, last)) in
    let ten : d + 1 ≤ 10 = omega (arith, low) in
    let product : (d + 1) * 10 ^ (most - 1) ≤ 10 * 10 ^ 22 = mul-le-mul {n₁ = d + 1} {m₁ = 10 ^ (most - 1)} {n₂ = 10} {m₂ = 10 ^ 22} ten power in
    omega (arith, product)

-- the last four digits of what is left of a number behind its last four digits
last_four : (n : ℕ) → last_digits 4 (n % 10_000) ≡ last_digits 4 n
unfolding last_digits
last_four n =
    let a : n % 10_000 / 10 / 10 / 10 % 10 ≡ n / 10 / 10 / 10 % 10 = omega arith in
    let b : n % 10_000 / 10 / 10 % 10 ≡ n / 10 / 10 % 10 = omega arith in
    let c : n % 10_000 / 10 % 10 ≡ n / 10 % 10 = omega arith in
    let d : n % 10_000 % 10 ≡ n % 10 = omega arith in rw (a, b, c, d) refl

-- a long number that is pushed in two groups
pub pushed_decimal : (old middle text : List ℕ) (n : ℕ) → 10_000 ≤ n → n < 10 ^ 64 → middle ≡ old ++ decimal (n / 10_000)
    → text ≡ middle ++ last_digits 4 (n % 10_000) → text ≡ old ++ decimal n
pushed_decimal old middle text n high low e f = rw (f, e, last_four n, decimal_four n high low) (append_assoc old (decimal (n / 10_000)) (last_digits 4 n))

-- a number of one digit, and one of two
pub decimal-two : (n : ℕ) → 10 ≤ n → n < 100 → decimal n ≡ last_digits 2 n
unfolding last_digits
decimal-two n high low =
    let tens : n / 10 % 10 ≡ n / 10 = omega arith in
    rw (decimal_step_wide n high (omega arith), decimal_digit (n / 10) (omega arith), tens) refl

pub ruleset short_decimals = (decimal_digit, decimal-two)
