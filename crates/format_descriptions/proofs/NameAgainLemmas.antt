-- Names that are written are read back.
use Rattle.std.proofs.Common.{◌≡◌, ℕ, suc, zero, ◌<◌, ◌≤◌, List, ◌++◌, refl, arith, Some, None, inl, inr}
use Rattle.std.specs.Prelude.{not, nat_lt}
use Rattle.std.proofs.lemmas.Bool.{cases_Bool}
use Rattle.calendar_values.specs.Month.{month_name}
use Rattle.calendar_values.specs.Weekday.{weekday_name}
use Rattle.calendar_values.specs.declared.month.Month.{Month}
use Rattle.calendar_values.specs.declared.month.Month.TheVariants.{January, February, March, April, May, June, July, August, September, October, November}
use Rattle.calendar_values.specs.declared.month.Month.TheVariants.{December}
use Rattle.calendar_values.specs.declared.weekday.Weekday.{Weekday}
use Rattle.calendar_values.specs.declared.weekday.Weekday.TheVariants.{Monday, Tuesday, Wednesday, Thursday, Friday, Saturday, Sunday}
use Rattle.rfc3339.specs.Reading.{digit_at}
use Rattle.format_descriptions.specs.Names.{month_of_number, weekday_of_number, name_of_month, name_of_weekday}
use Rattle.format_descriptions.specs.Reading.{word_at, letter_at, month_at, weekday_at, period_at}
use Rattle.format_descriptions.specs.Written.{name_in_form, period_text}
use Rattle.format_descriptions.specs.declared.modifiers.Case.{Case}
use Rattle.format_descriptions.specs.declared.modifiers.Case.TheVariants.{Upper, Lower}
use Rattle.format_descriptions.specs.declared.modifiers.NameForm.{NameForm}
use Rattle.format_descriptions.specs.declared.modifiers.NameForm.TheVariants.{Long, Short}
use Rattle.format_descriptions.specs.declared.modifiers.ReadCase.{ReadCase}
use Rattle.format_descriptions.specs.declared.modifiers.ReadCase.TheVariants.{Same, Any}

-- the name of a month
pub month-again : (form : NameForm) (case : ReadCase) (n : ℕ) (rest : List ℕ) → 1 ≤ n → n ≤ 12
    → month_at form case 12 (name_in_form form (name_of_month n) ++ rest) ≡ Some (n, rest)
unfolding month_at month_of_number word_at letter_at
month-again Long case zero rest first last = absurd (omega (arith, first))
month-again Long Same (suc zero) rest first last = refl
month-again Long Any (suc zero) rest first last = refl
month-again Long Same (suc (suc zero)) rest first last = refl
month-again Long Any (suc (suc zero)) rest first last = refl
month-again Long Same (suc (suc (suc zero))) rest first last = refl
month-again Long Any (suc (suc (suc zero))) rest first last = refl
month-again Long Same (suc (suc (suc (suc zero)))) rest first last = refl
month-again Long Any (suc (suc (suc (suc zero)))) rest first last = refl
month-again Long Same (suc (suc (suc (suc (suc zero))))) rest first last = refl
month-again Long Any (suc (suc (suc (suc (suc zero))))) rest first last = refl
month-again Long Same (suc (suc (suc (suc (suc (suc zero)))))) rest first last = refl
month-again Long Any (suc (suc (suc (suc (suc (suc zero)))))) rest first last = refl
month-again Long Same (suc (suc (suc (suc (suc (suc (suc zero))))))) rest first last = refl
month-again Long Any (suc (suc (suc (suc (suc (suc (suc zero))))))) rest first last = refl
month-again Long Same (suc (suc (suc (suc (suc (suc (suc (suc zero)))))))) rest first last = refl
month-again Long Any (suc (suc (suc (suc (suc (suc (suc (suc zero)))))))) rest first last = refl
month-again Long Same (suc (suc (suc (suc (suc (suc (suc (suc (suc zero))))))))) rest first last = refl
month-again Long Any (suc (suc (suc (suc (suc (suc (suc (suc (suc zero))))))))) rest first last = refl
month-again Long Same (suc (suc (suc (suc (suc (suc (suc (suc (suc (suc zero)))))))))) rest first last = refl
month-again Long Any (suc (suc (suc (suc (suc (suc (suc (suc (suc (suc zero)))))))))) rest first last = refl
month-again Long Same (suc (suc (suc (suc (suc (suc (suc (suc (suc (suc (suc zero))))))))))) rest first last = refl
month-again Long Any (suc (suc (suc (suc (suc (suc (suc (suc (suc (suc (suc zero))))))))))) rest first last = refl
month-again Long Same (suc (suc (suc (suc (suc (suc (suc (suc (suc (suc (suc (suc zero)))))))))))) rest first last = refl
month-again Long Any (suc (suc (suc (suc (suc (suc (suc (suc (suc (suc (suc (suc zero)))))))))))) rest first last = refl
month-again Long case (suc (suc (suc (suc (suc (suc (suc (suc (suc (suc (suc (suc (suc n))))))))))))) rest first last = absurd (omega (arith, last))
month-again Short case zero rest first last = absurd (omega (arith, first))
month-again Short Same (suc zero) rest first last = refl
month-again Short Any (suc zero) rest first last = refl
month-again Short Same (suc (suc zero)) rest first last = refl
month-again Short Any (suc (suc zero)) rest first last = refl
month-again Short Same (suc (suc (suc zero))) rest first last = refl
month-again Short Any (suc (suc (suc zero))) rest first last = refl
month-again Short Same (suc (suc (suc (suc zero)))) rest first last = refl
month-again Short Any (suc (suc (suc (suc zero)))) rest first last = refl
month-again Short Same (suc (suc (suc (suc (suc zero))))) rest first last = refl
month-again Short Any (suc (suc (suc (suc (suc zero))))) rest first last = refl
month-again Short Same (suc (suc (suc (suc (suc (suc zero)))))) rest first last = refl
month-again Short Any (suc (suc (suc (suc (suc (suc zero)))))) rest first last = refl
month-again Short Same (suc (suc (suc (suc (suc (suc (suc zero))))))) rest first last = refl
month-again Short Any (suc (suc (suc (suc (suc (suc (suc zero))))))) rest first last = refl
month-again Short Same (suc (suc (suc (suc (suc (suc (suc (suc zero)))))))) rest first last = refl
month-again Short Any (suc (suc (suc (suc (suc (suc (suc (suc zero)))))))) rest first last = refl
month-again Short Same (suc (suc (suc (suc (suc (suc (suc (suc (suc zero))))))))) rest first last = refl
month-again Short Any (suc (suc (suc (suc (suc (suc (suc (suc (suc zero))))))))) rest first last = refl
month-again Short Same (suc (suc (suc (suc (suc (suc (suc (suc (suc (suc zero)))))))))) rest first last = refl
month-again Short Any (suc (suc (suc (suc (suc (suc (suc (suc (suc (suc zero)))))))))) rest first last = refl
month-again Short Same (suc (suc (suc (suc (suc (suc (suc (suc (suc (suc (suc zero))))))))))) rest first last = refl
month-again Short Any (suc (suc (suc (suc (suc (suc (suc (suc (suc (suc (suc zero))))))))))) rest first last = refl
month-again Short Same (suc (suc (suc (suc (suc (suc (suc (suc (suc (suc (suc (suc zero)))))))))))) rest first last = refl
month-again Short Any (suc (suc (suc (suc (suc (suc (suc (suc (suc (suc (suc (suc zero)))))))))))) rest first last = refl
month-again Short case (suc (suc (suc (suc (suc (suc (suc (suc (suc (suc (suc (suc (suc n))))))))))))) rest first last = absurd (omega (arith, last))

-- the name of a day of the week
pub weekday-again : (form : NameForm) (case : ReadCase) (n : ℕ) (rest : List ℕ) → n < 7
    → weekday_at form case 7 (name_in_form form (name_of_weekday n) ++ rest) ≡ Some (n, rest)
unfolding weekday_at weekday_of_number word_at letter_at
weekday-again Long Same zero rest last = refl
weekday-again Long Any zero rest last = refl
weekday-again Long Same (suc zero) rest last = refl
weekday-again Long Any (suc zero) rest last = refl
weekday-again Long Same (suc (suc zero)) rest last = refl
weekday-again Long Any (suc (suc zero)) rest last = refl
weekday-again Long Same (suc (suc (suc zero))) rest last = refl
weekday-again Long Any (suc (suc (suc zero))) rest last = refl
weekday-again Long Same (suc (suc (suc (suc zero)))) rest last = refl
weekday-again Long Any (suc (suc (suc (suc zero)))) rest last = refl
weekday-again Long Same (suc (suc (suc (suc (suc zero))))) rest last = refl
weekday-again Long Any (suc (suc (suc (suc (suc zero))))) rest last = refl
weekday-again Long Same (suc (suc (suc (suc (suc (suc zero)))))) rest last = refl
weekday-again Long Any (suc (suc (suc (suc (suc (suc zero)))))) rest last = refl
weekday-again Long case (suc (suc (suc (suc (suc (suc (suc n))))))) rest last = absurd (omega (arith, last))
weekday-again Short Same zero rest last = refl
weekday-again Short Any zero rest last = refl
weekday-again Short Same (suc zero) rest last = refl
weekday-again Short Any (suc zero) rest last = refl
weekday-again Short Same (suc (suc zero)) rest last = refl
weekday-again Short Any (suc (suc zero)) rest last = refl
weekday-again Short Same (suc (suc (suc zero))) rest last = refl
weekday-again Short Any (suc (suc (suc zero))) rest last = refl
weekday-again Short Same (suc (suc (suc (suc zero)))) rest last = refl
weekday-again Short Any (suc (suc (suc (suc zero)))) rest last = refl
weekday-again Short Same (suc (suc (suc (suc (suc zero))))) rest last = refl
weekday-again Short Any (suc (suc (suc (suc (suc zero))))) rest last = refl
weekday-again Short Same (suc (suc (suc (suc (suc (suc zero)))))) rest last = refl
weekday-again Short Any (suc (suc (suc (suc (suc (suc zero)))))) rest last = refl
weekday-again Short case (suc (suc (suc (suc (suc (suc (suc n))))))) rest last = absurd (omega (arith, last))

-- the half of the day
pub period-again : (case : Case) (read : ReadCase) (hour : ℕ) (rest : List ℕ)
    → period_at case read (period_text case hour ++ rest) ≡ Some ((not (nat_lt hour 12), 0), rest)
unfolding period_at period_text word_at letter_at
period-again Upper Same hour rest = elim (cases_Bool (nat_lt hour 12)) [
  | inl t ↦ rw t refl
  | inr f ↦ rw f refl
]
period-again Upper Any hour rest = elim (cases_Bool (nat_lt hour 12)) [
  | inl t ↦ rw t refl
  | inr f ↦ rw f refl
]
period-again Lower Same hour rest = elim (cases_Bool (nat_lt hour 12)) [
  | inl t ↦ rw t refl
  | inr f ↦ rw f refl
]
period-again Lower Any hour rest = elim (cases_Bool (nat_lt hour 12)) [
  | inl t ↦ rw t refl
  | inr f ↦ rw f refl
]

-- a name does not begin with a digit
no_digit-of_month : (form : NameForm) (month : Month) (rest : List ℕ) → digit_at (name_in_form form (month_name month) ++ rest) ≡ None
unfolding digit_at
no_digit-of_month Long January rest = refl
no_digit-of_month Long February rest = refl
no_digit-of_month Long March rest = refl
no_digit-of_month Long April rest = refl
no_digit-of_month Long May rest = refl
no_digit-of_month Long June rest = refl
no_digit-of_month Long July rest = refl
no_digit-of_month Long August rest = refl
no_digit-of_month Long September rest = refl
no_digit-of_month Long October rest = refl
no_digit-of_month Long November rest = refl
no_digit-of_month Long December rest = refl
no_digit-of_month Short January rest = refl
no_digit-of_month Short February rest = refl
no_digit-of_month Short March rest = refl
no_digit-of_month Short April rest = refl
no_digit-of_month Short May rest = refl
no_digit-of_month Short June rest = refl
no_digit-of_month Short July rest = refl
no_digit-of_month Short August rest = refl
no_digit-of_month Short September rest = refl
no_digit-of_month Short October rest = refl
no_digit-of_month Short November rest = refl
no_digit-of_month Short December rest = refl

no_digit-of_weekday : (form : NameForm) (weekday : Weekday) (rest : List ℕ) → digit_at (name_in_form form (weekday_name weekday) ++ rest) ≡ None
unfolding digit_at
no_digit-of_weekday Long Monday rest = refl
no_digit-of_weekday Long Tuesday rest = refl
no_digit-of_weekday Long Wednesday rest = refl
no_digit-of_weekday Long Thursday rest = refl
no_digit-of_weekday Long Friday rest = refl
no_digit-of_weekday Long Saturday rest = refl
no_digit-of_weekday Long Sunday rest = refl
no_digit-of_weekday Short Monday rest = refl
no_digit-of_weekday Short Tuesday rest = refl
no_digit-of_weekday Short Wednesday rest = refl
no_digit-of_weekday Short Thursday rest = refl
no_digit-of_weekday Short Friday rest = refl
no_digit-of_weekday Short Saturday rest = refl
no_digit-of_weekday Short Sunday rest = refl

pub no_digit-month : (form : NameForm) (n : ℕ) (rest : List ℕ) → digit_at (name_in_form form (name_of_month n) ++ rest) ≡ None
no_digit-month form n rest = no_digit-of_month form (month_of_number n) rest

pub no_digit-weekday : (form : NameForm) (n : ℕ) (rest : List ℕ) → digit_at (name_in_form form (name_of_weekday n) ++ rest) ≡ None
no_digit-weekday form n rest = no_digit-of_weekday form (weekday_of_number n) rest

pub no_digit-period : (case : Case) (hour : ℕ) (rest : List ℕ) → digit_at (period_text case hour ++ rest) ≡ None
unfolding digit_at period_text
no_digit-period Upper hour rest = elim (cases_Bool (nat_lt hour 12)) [
  | inl t ↦ rw t refl
  | inr f ↦ rw f refl
]
no_digit-period Lower hour rest = elim (cases_Bool (nat_lt hour 12)) [
  | inl t ↦ rw t refl
  | inr f ↦ rw f refl
]
