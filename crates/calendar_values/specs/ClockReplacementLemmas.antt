-- A replacement succeeds exactly if a clock shows the part as given, the kept parts as before and 0 for the cleared parts.
-- It returns that clock, which is the only one.
use Rattle.std.proofs.Common.{◌≡◌, ℕ, ◌*◌, ◌≤◌, List, Ok, Err, sym, ◌∙◌, arith}
use Rattle.std.specs.Prelude.{if◌then◌else◌, nat_lt, ◌↔◌, codes}
use Rattle.std.proofs.lemmas.Bool.Decides.{nat_tests}
use Rattle.calendar_values.specs.Clock.{IsClock, AreTimeParts, HasTimeParts, clock_of_parts, hour_of, minute_of, second_of, millisecond_of, microsecond_of}
use Rattle.calendar_values.specs.Clock.{nanosecond_of, nanos_per_millisecond, nanos_per_microsecond}
use Rattle.calendar_values.specs.ClockLemmas.{AreTimeParts-of, clock_of_parts-of}
use Rattle.calendar_values.specs.Refusals.{outright_refusal}
use Rattle.calendar_values.specs.Replacements.{hour_outcome, minute_outcome, second_outcome, millisecond_outcome, microsecond_outcome, nanosecond_outcome}

pub HasTimeParts-clock_of_parts : (h m s n : ℕ) → AreTimeParts h m s n → HasTimeParts (clock_of_parts h m s n) h m s n
HasTimeParts-clock_of_parts h m s n p = omega arith

pub clock_of_parts-shown : (c h m s n : ℕ) → HasTimeParts c h m s n → clock_of_parts h m s n ≡ c
clock_of_parts-shown c h m s n p = omega (arith, clock_of_parts-of c)

-- only one clock shows these parts
pub HasTimeParts-unique : (c d h m s n : ℕ) → HasTimeParts c h m s n → HasTimeParts d h m s n → c ≡ d
HasTimeParts-unique c d h m s n p q = sym (clock_of_parts-shown c h m s n p) ∙ clock_of_parts-shown d h m s n q

parts_of_shown : (c h m s n : ℕ) → HasTimeParts c h m s n → AreTimeParts h m s n
parts_of_shown c h m s n p =
    let parts = AreTimeParts-of c p.clock in omega arith

-- the result is Ok x exactly if the part is at most the limit
accepted : (limit part x d : ℕ) (name : List ℕ) → part ≤ limit → x ≡ d → (if nat_lt limit part then Err (outright_refusal name) else Ok x) ≡ Ok d
accepted limit part x d name low e = grind (arith, nat_tests)

accepted_is : (limit part x d : ℕ) (name : List ℕ) → (if nat_lt limit part then Err (outright_refusal name) else Ok x) ≡ Ok d → (part ≤ limit) × (x ≡ d)
accepted_is limit part x d name e = (grind (arith, nat_tests), grind (arith, nat_tests))

-- a replacement of a part up to a limit returns the clock that shows these parts
replaced : (limit part h m s n d : ℕ) (name : List ℕ) → (part ≤ limit → AreTimeParts h m s n) → (AreTimeParts h m s n → part ≤ limit) →
    ((if nat_lt limit part then Err (outright_refusal name) else Ok (clock_of_parts h m s n)) ≡ Ok d) ↔ HasTimeParts d h m s n
replaced limit part h m s n d name within back = (
  λ e. let is = accepted_is limit part (clock_of_parts h m s n) d name e in rw is.1 at (HasTimeParts-clock_of_parts h m s n (within is.0)),
  λ p. accepted limit part (clock_of_parts h m s n) d name (back (parts_of_shown d h m s n p)) (clock_of_parts-shown d h m s n p),
)

pub hour_outcome-shows : (c h d : ℕ) → IsClock c → ((hour_outcome c h).answer ≡ Ok d) ↔ HasTimeParts d h (minute_of c) (second_of c) (nanosecond_of c)
hour_outcome-shows c h d clock =
    let parts = AreTimeParts-of c clock in
    replaced 23 h h (minute_of c) (second_of c) (nanosecond_of c) d (codes "hour") (λ low. omega arith) (λ q. omega arith)

pub minute_outcome-shows : (c m d : ℕ) → IsClock c → ((minute_outcome c m).answer ≡ Ok d) ↔ HasTimeParts d (hour_of c) m (second_of c) (nanosecond_of c)
minute_outcome-shows c m d clock =
    let parts = AreTimeParts-of c clock in
    replaced 59 m (hour_of c) m (second_of c) (nanosecond_of c) d (codes "minute") (λ low. omega arith) (λ q. omega arith)

pub second_outcome-shows : (c s d : ℕ) → IsClock c → ((second_outcome c s).answer ≡ Ok d) ↔ HasTimeParts d (hour_of c) (minute_of c) s (nanosecond_of c)
second_outcome-shows c s d clock =
    let parts = AreTimeParts-of c clock in
    replaced 59 s (hour_of c) (minute_of c) s (nanosecond_of c) d (codes "second") (λ low. omega arith) (λ q. omega arith)

pub millisecond_outcome-shows : (c milli d : ℕ) → IsClock c → ((millisecond_outcome c milli).answer ≡ Ok d)
    ↔ HasTimeParts d (hour_of c) (minute_of c) (second_of c) (milli * nanos_per_millisecond)
millisecond_outcome-shows c milli d clock =
    let parts = AreTimeParts-of c clock in
    replaced 999 milli (hour_of c) (minute_of c) (second_of c) (milli * nanos_per_millisecond) d (codes "millisecond") (λ low. omega arith) (λ q. omega arith)

pub microsecond_outcome-shows : (c micro d : ℕ) → IsClock c → ((microsecond_outcome c micro).answer ≡ Ok d)
    ↔ HasTimeParts d (hour_of c) (minute_of c) (second_of c) (micro * nanos_per_microsecond)
microsecond_outcome-shows c micro d clock =
    let parts = AreTimeParts-of c clock in
    replaced 999_999 micro (hour_of c) (minute_of c) (second_of c) (micro * nanos_per_microsecond) d (codes "microsecond") (λ low.
    omega arith) (λ q. omega arith)

pub nanosecond_outcome-shows : (c n d : ℕ) → IsClock c → ((nanosecond_outcome c n).answer ≡ Ok d) ↔ HasTimeParts d (hour_of c) (minute_of c) (second_of c) n
nanosecond_outcome-shows c n d clock =
    let parts = AreTimeParts-of c clock in
    replaced 999_999_999 n (hour_of c) (minute_of c) (second_of c) n d (codes "nanosecond") (λ low. omega arith) (λ q. omega arith)

-- a clock shows the millisecond as given if all finer parts are 0
pub millisecond_of-exact : (c milli : ℕ) → nanosecond_of c ≡ milli * nanos_per_millisecond → millisecond_of c ≡ milli
millisecond_of-exact c milli e = omega arith

-- a clock shows the microsecond as given if all finer parts are 0
pub microsecond_of-exact : (c micro : ℕ) → nanosecond_of c ≡ micro * nanos_per_microsecond → microsecond_of c ≡ micro
microsecond_of-exact c micro e = omega arith
