use Rattle.std.proofs.Common.{sym, ap, ◌∙◌, inr, ℕ, unsigned_abs}
use Rattle.std.proofs.lemmas.Option.{same_Some, none-some}
use Rattle.calendar_values.specs.Calendar.{year_of, month_of, day_of_month_of}
use Rattle.rfc3339.specs.FullDates.{full_date_meaning}
use Rattle.rfc3339.specs.FullDateLemmas.{full_date_takes, full_date_again, IsFullDate-text, full_date_meaning-text}
use Rattle.rfc3339.proofs.full_dates.date_from_rfc3339.Goals as goal

pub returns-in-Some-clause-equation : goal.returns-in-Some-clause-equation
returns-in-Some-clause-equation c year month day h =
    let same = same_Some _ _ (c.in-Some.ensures.value ∙ full_date_again c.args.text.now year month day h) in
    c.date.ensures ∙ ap (λ (q : ℕ × ℕ × ℕ). full_date_meaning q.0 q.1 q.2) same

pub returns-in-None-clause-equation : goal.returns-in-None-clause-equation
returns-in-None-clause-equation c year month day h =
    absurd (none-some (year, month, day) (c.in-None.ensures.value ∙ full_date_again c.args.text.now year month day h))

pub returns-in-Some-clause-syntax : goal.returns-in-Some-clause-syntax
returns-in-Some-clause-syntax c = inr (c.in-Some.year, c.in-Some.month, c.in-Some.day, full_date_takes c.args.text.now _ (sym c.in-Some.ensures.value))

pub returns-in-Some-clause-written : goal.returns-in-Some-clause-written
returns-in-Some-clause-written c n h e =
    returns-in-Some-clause-equation c (unsigned_abs (year_of n)) (month_of n) (day_of_month_of n) (rw e (IsFullDate-text n h)) ∙ full_date_meaning-text n h

pub returns-in-None-clause-written : goal.returns-in-None-clause-written
returns-in-None-clause-written c n h e =
    returns-in-None-clause-equation c (unsigned_abs (year_of n)) (month_of n) (day_of_month_of n) (rw e (IsFullDate-text n h)) ∙ full_date_meaning-text n h
