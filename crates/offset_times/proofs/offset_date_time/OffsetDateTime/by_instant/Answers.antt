use Rattle.std.proofs.Common.{◌≡◌, ◌∙◌, rules, ap, ℤ, pos, int_cmp, to_z, of_z, w64}
use Rattle.offset_times.proofs.offset_date_time.OffsetDateTime.by_instant.Goals as goal

pub returns : goal.returns
returns c =
    let sign : to_z w64 (of_z w64 c.sign_after.result) ≡ c.sign_after.result = search rules in
    c.cmp.ensures ∙ ap (λ (s : ℤ). int_cmp s (pos 0)) sign ∙ c.sign_after.ensures
