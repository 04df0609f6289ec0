use Rattle.std.proofs.Common.{◌≡◌, ◌∙◌, sym, rules, ap, arith, ℤ, pos, ◌-ℤ◌, int_cmp, to_z, of_z, w32, w64}
use Rattle.calendar_values.specs.SignedArith.{signed_casts}
use Rattle.offset_times.proofs.InstantOrderLemmas.{int_cmp-days, int_cmp-clocks}
use Rattle.offset_times.proofs.offset_date_time.comparisons.sign_of_parts_after.Goals as goal

pub returns-then-days-eq0 : goal.returns-then-days-eq0
returns-then-days-eq0 c =
    let days = c.rough_days-days.result in
    let back : to_z w64 (of_z w64 days) ≡ days = search rules in
    let none : days ≡ pos 0 = sym back ∙ ap (to_z w64) c.if-days-eq0.true in
    let year : to_z w32 (of_z w32 c.args.at.0) ≡ c.args.at.0 = search rules in
    let other_year : to_z w32 (of_z w32 c.args.other.0) ≡ c.args.other.0 = search rules in
    let first = c.args.at.2 in
    let second = c.args.other.2 in
    let apart : to_z w64 (of_z w64 (to_z w64 first -ℤ to_z w64 second)) ≡ pos first -ℤ pos second =
    omega (arith, signed_casts, c.requires.parts, c.requires.other_parts) in
    ap (λ (s : ℤ). int_cmp s (pos 0)) apart
    ∙ int_cmp-clocks days c.args.at.0 c.args.other.0 c.args.at.1 c.args.other.1 c.args.at.2 c.args.other.2 c.requires.parts c.requires.other_parts
    (rw (year, other_year) at c.rough_days-days.ensures) none

pub returns-else-days-eq0 : goal.returns-else-days-eq0
returns-else-days-eq0 c =
    let days = c.rough_days-days.result in
    let back : to_z w64 (of_z w64 days) ≡ days = search rules in
    let year : to_z w32 (of_z w32 c.args.at.0) ≡ c.args.at.0 = search rules in
    let other_year : to_z w32 (of_z w32 c.args.other.0) ≡ c.args.other.0 = search rules in
    ap (λ (s : ℤ). int_cmp s (pos 0)) back
    ∙ int_cmp-days days c.args.at.0 c.args.other.0 c.args.at.1 c.args.other.1 c.args.at.2 c.args.other.2 c.requires.parts c.requires.other_parts
    (rw (year, other_year) at c.rough_days-days.ensures) (λ none. c.if-days-eq0.false (ap (of_z w64) none))
