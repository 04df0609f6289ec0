-- How often the clocks of a zone show a wall clock, by the seconds that are found.
use Rattle.std.proofs.Common.{◌≡◌, ◌+◌, ℤ, ◌+ℤ◌, ◌-ℤ◌, ◌≤ℤ◌, ◌<ℤ◌, FitsSigned, to_z, of_z, arith, w64}
use Rattle.calendar_values.specs.SignedArith.{signed_arith}
use Rattle.zones.specs.Ranges.{IsNear}
use Rattle.zones.specs.Seconds.{IsSecond}
use Rattle.zones.specs.Zones.{ZoneParts, IsZoneInstants, zone_type}
use Rattle.zones.specs.declared.local_instants.LocalInstants.TheVariants.{Single, Gap, Fold}
use Rattle.log_zones.specs.Showings.{IsShowing}
use Rattle.log_zones.specs.declared.showings.Showing.TheVariants.{Once, Twice, Never}

pub once : (z : ZoneParts) (local t : ℤ) → IsZoneInstants z local (Single t) → IsShowing z local Once
once z local t all = (t, all.0, all.1)

pub twice : (z : ZoneParts) (local t u : ℤ) → IsZoneInstants z local (Fold t u) → IsShowing z local Twice
twice z local t u all = (t, u, all.0, all.1, all.2, all.3)

-- the seconds of a gap are no further from its wall clock than an offset
pub record IsGapNear (local t u s : ℤ) : Type 0 where
  pub earlier : IsNear local t
  pub later : IsNear local u
  pub after : t <ℤ s
  pub before : s ≤ℤ u

pub near_gap : (z : ZoneParts) (local t u s : ℤ) → IsZoneInstants z local (Gap t u s) → IsGapNear local t u s
near_gap z local t u s all =
    let k = all.1.0 in
    let after = (zone_type z (k + 1)).offset_in in
    let before = (zone_type z k).offset_in in
    let m = all.1.2 in
    let n = all.1.3 in
    record {
      earlier = (omega (arith, signed_arith, m, after.0, after.1), omega (arith, signed_arith, m, after.0, after.1));
      later = (omega (arith, signed_arith, n, before.0, before.1), omega (arith, signed_arith, n, before.0, before.1));
      after = all.1.5;
      before = all.1.6;
    }

pub never : (z : ZoneParts) (local t u s start end : ℤ) → IsZoneInstants z local (Gap t u s) → start ≡ s +ℤ (local -ℤ u) → end ≡ s +ℤ (local -ℤ t)
    → IsShowing z local (Never start end)
never z local t u s start end all from to =
    let m = all.1.2 in
    let n = all.1.3 in
    let o = all.1.4 in
    let p = all.1.5 in
    let q = all.1.6 in (
      all.0,
      (
        all.1.0,
        record {
          has = all.1.1;
          from = omega (arith, signed_arith, from, n, o);
          to = omega (arith, signed_arith, to, m, o);
          begun = omega (arith, signed_arith, from, q);
          not_over = omega (arith, signed_arith, to, p);
        },
      ),
    )

-- ---- the ends of a gap, as the program counts them

back : (v : ℤ) → FitsSigned w64 v → to_z w64 (of_z w64 v) ≡ v
back v fits = omega (arith, signed_arith)

near_back : (l v : ℤ) → IsSecond l → IsNear l v → to_z w64 (of_z w64 v) ≡ v
near_back l v range near = omega (arith, signed_arith, range.0, range.1, near.0, near.1)

second_back : (l : ℤ) → IsSecond l → to_z w64 (of_z w64 l) ≡ l
second_back l range = omega (arith, signed_arith, range.0, range.1)

pub ahead_fits : (l v : ℤ) → IsSecond l → IsNear l v → FitsSigned w64 (to_z w64 (of_z w64 l) -ℤ to_z w64 (of_z w64 v))
ahead_fits l v range near =
    let a = second_back l range in
    let b = near_back l v range near in
    omega (arith, signed_arith, a, b, near.0, near.1)

ahead_is : (l v : ℤ) → IsSecond l → IsNear l v → to_z w64 (of_z w64 (to_z w64 (of_z w64 l) -ℤ to_z w64 (of_z w64 v))) ≡ l -ℤ v
ahead_is l v range near =
    let a = second_back l range in
    let b = near_back l v range near in
    let c = back (to_z w64 (of_z w64 l) -ℤ to_z w64 (of_z w64 v)) (ahead_fits l v range near) in
    omega (arith, signed_arith, a, b, c)

shift_back : (l t u s : ℤ) → IsSecond l → IsGapNear l t u s → to_z w64 (of_z w64 s) ≡ s
shift_back l t u s range gap =
    omega (arith, signed_arith, range.0, range.1, gap.earlier.0, gap.earlier.1, gap.later.0, gap.later.1, gap.after, gap.before)

pub end_fits : (l t u s v : ℤ) → IsSecond l → IsGapNear l t u s → IsNear l v
    → FitsSigned w64 (to_z w64 (of_z w64 s) +ℤ to_z w64 (of_z w64 (to_z w64 (of_z w64 l) -ℤ to_z w64 (of_z w64 v))))
end_fits l t u s v range gap near =
    let a = shift_back l t u s range gap in
    let b = ahead_is l v range near in
    omega (arith, signed_arith, a, b, range.0, range.1, near.0, near.1, gap.earlier.0, gap.later.1, gap.after, gap.before)

pub end_is : (l t u s v : ℤ) → IsSecond l → IsGapNear l t u s → IsNear l v
    → to_z w64 (of_z w64 (to_z w64 (of_z w64 s) +ℤ to_z w64 (of_z w64 (to_z w64 (of_z w64 l) -ℤ to_z w64 (of_z w64 v))))) ≡ s +ℤ (l -ℤ v)
end_is l t u s v range gap near =
    let a = shift_back l t u s range gap in
    let b = ahead_is l v range near in
    let c = back _ (end_fits l t u s v range gap near) in
    omega (arith, signed_arith, a, b, c)
