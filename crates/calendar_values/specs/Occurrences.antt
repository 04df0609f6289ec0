-- The days of one day of the week: the next after a day, the last before it, and those whole weeks further.
use Rattle.std.specs.Prelude.{ℕ, ℤ, pos, suc, ◌+◌, ◌-◌, ◌*◌, ◌%◌, ◌+ℤ◌, ◌-ℤ◌}
use Rattle.calendar_values.specs.Weeks.{weekday_of}

-- the days from a day of the week, 0 for Monday, to the next of another, or to the next of its own: 1 to 7
unfoldable pub days_to_weekday : ℕ → ℕ → ℕ
days_to_weekday from to = suc ((to + 6 - from) % 7)

-- the first day after a day that falls on a day of the week, and the last before it
abbrev pub next_occurrence : ℤ → ℕ → ℤ
next_occurrence n weekday = n +ℤ pos (days_to_weekday (weekday_of n) weekday)

abbrev pub prev_occurrence : ℤ → ℕ → ℤ
prev_occurrence n weekday = n -ℤ pos (days_to_weekday weekday (weekday_of n))

-- the kth such day after a day, and the kth before it, counted from 1
abbrev pub nth_next_occurrence : ℤ → ℕ → ℕ → ℤ
nth_next_occurrence n weekday k = n +ℤ pos (days_to_weekday (weekday_of n) weekday + 7 * (k - 1))

abbrev pub nth_prev_occurrence : ℤ → ℕ → ℕ → ℤ
nth_prev_occurrence n weekday k = n -ℤ pos (days_to_weekday weekday (weekday_of n) + 7 * (k - 1))
