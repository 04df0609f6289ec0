-- A duration whose nanoseconds carry: one that the range has or not.
use Rattle.std.proofs.Common.{◌≡◌, Bool, true, false, refl, arith, ℤ, pos, ◌*ℤ◌, ◌+ℤ◌, ◌≤ℤ◌, int_lt, Option, Some, None, Ok, Err}
use Rattle.std.specs.Prelude.{SomeIff}
use Rattle.std.specs.Option.{is_some}
use Rattle.calendar_values.specs.Durations.{least_duration, greatest_duration}
use Rattle.calendar_values.specs.SignedArith.{signed_arith}
use Rattle.muxandu_c.specs.Values.{duration_value}
use Rattle.muxandu_c.specs.declared.refused.Refused.TheVariants as refused
use Rattle.muxandu_c.specs.declared.values.MuxanduDuration.{MuxanduDuration}

-- what a checked sum says of its numbers
pub fits-some : (sum : Option ℤ) (P : Type 0) (value : ℤ) → SomeIff sum P value → is_some sum ≡ true → P
fits-some (Some x) P value h e = h.0
fits-some None P value h e = absurd cc

pub fits-none : (sum : Option ℤ) (P : Type 0) (value : ℤ) → SomeIff sum P value → is_some sum ≡ false → ¬ P
fits-none (Some x) P value h e = absurd cc
fits-none None P value h e = h

-- the parts make a duration of the range
abbrev pub IsInside : ℤ → ℤ → Type 0
IsInside s n = (least_duration ≤ℤ ((s *ℤ pos 1_000_000_000) +ℤ n)) × (((s *ℤ pos 1_000_000_000) +ℤ n) ≤ℤ greatest_duration)

pub duration_value-outside : (v : MuxanduDuration) → ¬ IsInside v.seconds v.nanoseconds → Err refused.Duration ≡ duration_value v
duration_value-outside v outside = choose (int_lt d least_duration) (int_lt greatest_duration d) refl refl where
  d : ℤ
  d = (v.seconds *ℤ pos 1_000_000_000) +ℤ v.nanoseconds

  choose : (s t : Bool) → int_lt d least_duration ≡ s → int_lt greatest_duration d ≡ t → Err refused.Duration ≡ duration_value v
  choose true t e f = rw e refl
  choose false true e f = rw (e, f) refl
  choose false false e f = absurd (outside (omega (arith, signed_arith), omega (arith, signed_arith)))

pub duration_value-inside : (v : MuxanduDuration) → IsInside v.seconds v.nanoseconds
    → Ok ((v.seconds *ℤ pos 1_000_000_000) +ℤ v.nanoseconds) ≡ duration_value v
duration_value-inside v inside = choose (int_lt d least_duration) (int_lt greatest_duration d) refl refl where
  d : ℤ
  d = (v.seconds *ℤ pos 1_000_000_000) +ℤ v.nanoseconds

  choose : (s t : Bool) → int_lt d least_duration ≡ s → int_lt greatest_duration d ≡ t → Ok d ≡ duration_value v
  choose true t e f = absurd (omega (arith, signed_arith, inside.0))
  choose false true e f = absurd (omega (arith, signed_arith, inside.1))
  choose false false e f = rw (e, f) refl
