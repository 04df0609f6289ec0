use Rattle.std.proofs.Common.{◌≡◌, ℤ, ◌+ℤ◌, Result, Ok, Err, OkIff, to_z, of_z, arith, subst}
use mir.Syntax.{w32, w64}
use Rattle.calendar_values.specs.Offsets.{IsOffset}
use Rattle.calendar_values.specs.Refusals.{Refusal}
use Rattle.calendar_values.specs.SignedArith.{signed_arith}
use Rattle.calendar_values.specs.WallClock.{IsInstant}
use Rattle.utc_times.specs.UnixTime.{instant_of_second}
use Rattle.zones.specs.Ranges.{IsTailSecond}
use Rattle.zoned_times.proofs.seconds.wall_clock_at.Goals as goal

-- a sum that is cast is the same sum
cast : (t o : ℤ) → IsTailSecond t → IsOffset o
    → to_z w64 (of_z w64 (to_z w64 (of_z w64 t) +ℤ to_z w64 (of_z w64 (to_z w32 (of_z w32 o))))) ≡ t +ℤ o
cast t o second offset =
    let a : to_z w64 (of_z w64 t) ≡ t = omega (arith, signed_arith) in
    let b : to_z w32 (of_z w32 o) ≡ o = omega (arith, signed_arith) in
    let d : to_z w64 (of_z w64 (to_z w32 (of_z w32 o))) ≡ o = omega (arith, signed_arith) in
    omega (arith, signed_arith)

-- the instant of such a sum, if it is in range
sum : (t o s : ℤ) (r q : Result ℤ Refusal) → s ≡ t +ℤ o → r ≡ q → OkIff r (IsInstant (instant_of_second s)) (instant_of_second s)
    → OkIff q (IsInstant (instant_of_second (t +ℤ o))) (instant_of_second (t +ℤ o))
sum t o s r q e is h =
    subst (λ (x : ℤ). OkIff q (IsInstant (instant_of_second x)) (instant_of_second x)) e
    (subst (λ (x : Result ℤ Refusal). OkIff x (IsInstant (instant_of_second s)) (instant_of_second s)) is h)

pub returns-in-Ok : goal.returns-in-Ok
returns-in-Ok c =
    let e = cast c.args.second c.whole_seconds.result c.requires c.whole_seconds.ensures.in_range in
    let ok = sum c.args.second c.whole_seconds.result _ c.from_unix_timestamp.result (Ok c.in-Ok.shown) e c.in-Ok.is c.from_unix_timestamp.ensures.value in
    let offset = c.whole_seconds.ensures.value in
    let is = c.as_plain.ensures in
    let here = ok.1 in
    let range = ok.0 in
    ((omega (arith, signed_arith), omega (arith, signed_arith)), omega (arith, signed_arith))

pub returns-in-Err : goal.returns-in-Err
returns-in-Err c =
    let e = cast c.args.second c.whole_seconds.result c.requires c.whole_seconds.ensures.in_range in
    let none = sum c.args.second c.whole_seconds.result _ c.from_unix_timestamp.result (Err c.in-Err.field-0) e c.in-Err.is
    c.from_unix_timestamp.ensures.value in
    let offset = c.whole_seconds.ensures.value in
    λ range. none (omega (arith, signed_arith), omega (arith, signed_arith))
