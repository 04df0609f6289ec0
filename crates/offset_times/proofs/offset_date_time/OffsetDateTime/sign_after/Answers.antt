use Rattle.std.proofs.Common.{◌≡◌, ◌∙◌, rules, ap, arith, ℤ, pos, neg_ℤ, ◌<ℤ◌, int_cmp, to_z, of_z, w64}
use Rattle.calendar_values.specs.SignedArith.{signed_casts}
use Rattle.offset_times.specs.Local.{instant_of}
use Rattle.offset_times.proofs.InstantOrderLemmas.{int_cmp-later, int_cmp-earlier}
use Rattle.offset_times.proofs.offset_date_time.OffsetDateTime.sign_after.Goals.{then-days-ltminus4-via-then-days-ltminus4}
use Rattle.offset_times.proofs.offset_date_time.OffsetDateTime.sign_after.Goals.{then-days-ltminus4-via-else-days-ltminus4+then-days-gt4}
use Rattle.offset_times.proofs.offset_date_time.OffsetDateTime.sign_after.Goals as goal

pub returns-then-days-ltminus4 : goal.returns-then-days-ltminus4
returns-then-days-ltminus4 c =
    let days = c.rough_days_from-days.result in
    let back : to_z w64 (of_z w64 days) ≡ days = search rules in
    ap (λ (d : ℤ). int_cmp d (pos 0)) back ∙ elim c.then-days-ltminus4.branch [
      | then-days-ltminus4-via-then-days-ltminus4 w ↦
          let far : days <ℤ neg_ℤ (pos 4) = omega (arith, signed_casts, w.if-days-ltminus4) in
          int_cmp-earlier days (instant_of c.args.self.now) (instant_of c.args.other.now) (omega (arith, signed_casts))
          (c.rough_days_from-days.ensures.earlier far)
      | then-days-ltminus4-via-else-days-ltminus4+then-days-gt4 w ↦
          let far : pos 4 <ℤ days = omega (arith, signed_casts, w.if-days-gt4) in
          int_cmp-later days (instant_of c.args.self.now) (instant_of c.args.other.now) (omega (arith, signed_casts))
          (c.rough_days_from-days.ensures.later far)
    ]
