use Rattle.std.proofs.Common.{◌≡◌, ◌+◌, ◌-◌, ◌<◌, ℕ, true, false, refl, arith, pos, negsuc, Some, None, int_lt, nat_lt, inl, inr}
use Rattle.std.proofs.lemmas.Bool.{cases_Bool}
use Rattle.std.proofs.lemmas.Bool.Decides.{nat_tests}
use Rattle.calendar_values.specs.SignedArith.{signed_arith}
use Rattle.log_forms.proofs.YearLemmas.{at_first-nearest, at_last-nearest, last-nearest, next-nearest, same-nearest}
use Rattle.log_forms.specs.Instants.{with_year, year_by_month}
use Rattle.log_forms.proofs.laws.years_are_nearest.Goals as goal

pub returns-clause-nearest : goal.returns-clause-nearest
unfolding with_year
returns-clause-nearest c = λ assumed p year month is_assumed here h lacks is_month m.
    let before = assumed.month in
    let any : nat_lt 0 before ≡ true = grind (arith, nat_tests, h.0) in
    rw (lacks, is_assumed, is_month) (elim (cases_Bool (nat_lt month (before - 6))) [
      | inl early ↦
          let six : month + 6 < before = grind (arith, nat_tests, early) in
          let not_late : nat_lt before (month - 6) ≡ false = grind (arith, nat_tests, early, m.1) in
          elim (cases_Bool (int_lt year (pos 999_999))) [
            | inl room ↦ rw (early, room) (next-nearest year before month here h m six (omega (arith, signed_arith, room)))
            | inr end ↦ rw (early, end, any, not_late) (at_last-nearest year before month here six (omega (arith, signed_arith, end)))
          ]
      | inr not_early ↦
          elim (cases_Bool (nat_lt before (month - 6))) [
            | inl late ↦
                let six : before + 6 < month = grind (arith, nat_tests, late) in
                elim (cases_Bool (int_lt (negsuc 999_998) year)) [
                  | inl room ↦ rw (not_early, any, late, room) (last-nearest year before month here h m six (omega (arith, signed_arith, room)))
                  | inr end ↦ rw (not_early, any, late, end) (at_first-nearest year before month here six (omega (arith, signed_arith, end)))
                ]
            | inr not_late ↦ rw (not_early, any, not_late)
                (same-nearest year before month here (grind (arith, nat_tests, not_late)) (grind (arith, nat_tests, not_early)))
          ]
    ])

pub returns-clause-first : goal.returns-clause-first
unfolding with_year
returns-clause-first c = λ assumed p is_first lacks.
    let none : (month : ℕ) → nat_lt month 0 ≡ false = λ month. grind (arith, nat_tests) in
    rw (lacks, is_first) (elim assumed.year as (λ year. year_by_month year 0 p.month ≡ year) [
      | None ↦ refl
      | Some year ↦ elim p.month as (λ month. year_by_month (Some year) 0 month ≡ Some year) [
        | None ↦ refl
        | Some month ↦ rw (none month) refl
      ]
    ])
