-- A clock and its parts: each clock has the parts that it shows, and no others.
use Rattle.std.proofs.Common.{◌≡◌, ℕ, arith}
use Rattle.calendar_values.specs.Clock.{IsClock, AreTimeParts, clock_of_parts, hour_of, minute_of, second_of, nanosecond_of}

pub IsClock-clock_of_parts : (h m s n : ℕ) → AreTimeParts h m s n → IsClock (clock_of_parts h m s n)
IsClock-clock_of_parts h m s n p = omega arith

pub hour_of-clock_of_parts : (h m s n : ℕ) → AreTimeParts h m s n → hour_of (clock_of_parts h m s n) ≡ h
hour_of-clock_of_parts h m s n p = omega arith

pub minute_of-clock_of_parts : (h m s n : ℕ) → AreTimeParts h m s n → minute_of (clock_of_parts h m s n) ≡ m
minute_of-clock_of_parts h m s n p = omega arith

pub second_of-clock_of_parts : (h m s n : ℕ) → AreTimeParts h m s n → second_of (clock_of_parts h m s n) ≡ s
second_of-clock_of_parts h m s n p = omega arith

pub nanosecond_of-clock_of_parts : (h m s n : ℕ) → AreTimeParts h m s n → nanosecond_of (clock_of_parts h m s n) ≡ n
nanosecond_of-clock_of_parts h m s n p = omega arith

pub clock_of_parts-of : (c : ℕ) → clock_of_parts (hour_of c) (minute_of c) (second_of c) (nanosecond_of c) ≡ c
clock_of_parts-of c = omega arith

pub AreTimeParts-of : (c : ℕ) → IsClock c → AreTimeParts (hour_of c) (minute_of c) (second_of c) (nanosecond_of c)
AreTimeParts-of c p = omega arith
