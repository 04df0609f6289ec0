-- The result of a call: a value or an error, and the status and the value that its caller finds.
use Rattle.std.specs.Prelude.{ℕ, ◌≡◌, ◌==◌, ◌||◌, Bool, List, Result, Ok, Err, if◌then◌else◌, nat_eq, nat_lt, codes, length, drop, ◌++◌}
use Rattle.std.specs.Cmp.Lexicographic.{pointwise}
use Rattle.calendar_values.specs.Refusals.{Refusal}
use Rattle.rfc3339.specs.declared.refusal.Component.TheVariants as component
use Rattle.rfc3339.specs.declared.refusal.TextRefusal.{TextRefusal}
use Rattle.rfc3339.specs.declared.refusal.TextRefusal.TheVariants.{Syntax, OutOfRange}
use Rattle.muxandu_c.specs.declared.refused.Refused.{Refused}
use Rattle.muxandu_c.specs.declared.refused.Refused.TheVariants as refused

-- the number of an error in the header
abbrev pub status_number : Refused → ℕ
status_number refused.Year = 1
status_number refused.Month = 2
status_number refused.Day = 3
status_number refused.DayOfMonth = 4
status_number refused.Ordinal = 5
status_number refused.OrdinalOfYear = 6
status_number refused.Week = 7
status_number refused.WeekOfYear = 8
status_number refused.Weekday = 9
status_number refused.Hour = 10
status_number refused.Minute = 11
status_number refused.Second = 12
status_number refused.Nanosecond = 13
status_number refused.OffsetSeconds = 14
status_number refused.Timestamp = 15
status_number refused.DayNumber = 16
status_number refused.Duration = 17
status_number refused.Unit = 18
status_number refused.Result = 19
status_number refused.Buffer = 20
status_number refused.Span = 21
status_number refused.Syntax = 22
status_number refused.OffsetHour = 23
status_number refused.OffsetMinute = 24
status_number refused.NoText = 25
status_number refused.Zone = 26
status_number refused.Gap = 27
status_number refused.Fold = 28

-- the error names this part
abbrev pub is_named : Refusal → List ℕ → Bool
is_named refusal name = pointwise nat_eq refusal.name name

-- the error of a part, as a caller sees it
abbrev pub refused_part : Refusal → Refused
refused_part r =
    if is_named r (codes "year") then (if r.conditional then refused.Result else refused.Year)
    else (if is_named r (codes "month") then refused.Month
    else (if is_named r (codes "day") then (if r.conditional then refused.DayOfMonth else refused.Day)
    else (if is_named r (codes "ordinal") then (if r.conditional then refused.OrdinalOfYear else refused.Ordinal)
    else (if is_named r (codes "week") then (if r.conditional then refused.WeekOfYear else refused.Week)
    else (if is_named r (codes "hour") then refused.Hour
    else (if is_named r (codes "minute") then refused.Minute
    else (if is_named r (codes "second") then refused.Second
    else (if is_named r (codes "nanosecond") || is_named r (codes "nanoseconds") then refused.Nanosecond
    else (if is_named r (codes "offset_seconds") then refused.OffsetSeconds
    else (if is_named r (codes "julian_day") then refused.DayNumber
    else refused.Timestamp))))))))))

-- the error of a day: no month has it, or its own month does not have it
abbrev pub refused_day : ℕ → Refused
refused_day day = if day == 0 || nat_lt 31 day then refused.Day else refused.DayOfMonth

-- the error of a text with this day, as a caller sees it
abbrev pub refused_text : ℕ → TextRefusal → Refused
refused_text day Syntax = refused.Syntax
refused_text day (OutOfRange component.Month) = refused.Month
refused_text day (OutOfRange component.Day) = refused_day day
refused_text day (OutOfRange component.Hour) = refused.Hour
refused_text day (OutOfRange component.Minute) = refused.Minute
refused_text day (OutOfRange component.Second) = refused.Second
refused_text day (OutOfRange component.OffsetHour) = refused.OffsetHour
refused_text day (OutOfRange component.OffsetMinute) = refused.OffsetMinute

-- the result of the library, with its error as a caller sees it
abbrev pub as_refused : {A : Type 0} → Result A Refusal → Result A Refused
as_refused (Ok value) = Ok value
as_refused (Err refusal) = Err (refused_part refusal)

-- the same of the result for a text with this day
abbrev pub text_as_refused : {A : Type 0} → ℕ → Result A TextRefusal → Result A Refused
text_as_refused day (Ok value) = Ok value
text_as_refused day (Err refusal) = Err (refused_text day refusal)

-- the result of the next step with the value of a first one, or the error of the first
abbrev pub and_then : {A B : Type 0} → Result A Refused → (A → Result B Refused) → Result B Refused
and_then (Ok value) next = next value
and_then (Err refusal) next = Err refusal

-- the status of a result
abbrev pub status_of : {A : Type 0} → Result A Refused → ℕ
status_of (Ok value) = 0
status_of (Err refusal) = status_number refusal

-- the value in a place after a call: that of the result, or the old one after an error
abbrev pub value_or : {A : Type 0} → Result A Refused → A → A
value_or (Ok value) there = value
value_or (Err refusal) there = there

-- a call returns the status of this result, and leaves in its place the value of it, or the old one after an error
abbrev pub Answers : {A : Type 0} → ℕ → A → A → Result A Refused → Type 0
Answers status there now result = (status ≡ status_of result) × (now ≡ value_or result there)

-- the text, if a buffer has room for it
abbrev pub bytes_if_room : List ℕ → List ℕ → Result (List ℕ) Refused
bytes_if_room there text = if nat_lt (length there) (length text) then Err refused.Buffer else Ok text

-- the text of a result, if a buffer has room for it
abbrev pub text_if_room : Result (List ℕ) Refused → List ℕ → Result (List ℕ) Refused
text_if_room answer there = and_then answer (bytes_if_room there)

-- the bytes in a buffer after a call: the text of the result at the front, or the old bytes after an error
abbrev pub written_over : Result (List ℕ) Refused → List ℕ → List ℕ
written_over (Ok text) there = text ++ drop (length text) there
written_over (Err refusal) there = there

-- the length of a text, if a result has one
abbrev pub length_of_answer : Result (List ℕ) Refused → Result ℕ Refused
length_of_answer (Ok text) = Ok (length text)
length_of_answer (Err refusal) = Err refusal
