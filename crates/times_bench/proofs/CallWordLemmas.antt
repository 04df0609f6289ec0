-- The names of calls, and the month of a number.
use Rattle.std.proofs.Common.{◌≡◌, ℕ, ◌<◌, ◌≤◌, ◌↔◌, Bool, true, false, cond, nat_lt, List, [], ◌∷◌, length, Option, Some, None, Bor, Result, Ok}
use Rattle.std.proofs.Common.{Err, refl, sym, ◌∙◌, ap, arith, length-append, pos}
use Rattle.std.specs.Prelude.{IsOk, IfOk, OnSome, ⊤, codes}
use Rattle.std.specs.List.{join_with_byte, list_all}
use Rattle.std.specs.Option.{is_some, option_and_then, option_map, option_map_or, option_or}
use Rattle.std.specs.Result.{result_ok}
use Rattle.std.specs.Str.{bytes_eq}
use Rattle.std.proofs.lemmas.Bool.Decides.{nat_tests}
use Rattle.std.proofs.lemmas.List.Splits.{join_with_byte-slice_split}
use Rattle.std.proofs.lemmas.Slice.Eq.{bytes_eq-Decides}
use Rattle.calendar_values.specs.Month.{month_number}
use Rattle.calendar_values.specs.Range.{is_outside}
use Rattle.calendar_values.specs.declared.month.Month.{Month}
use Rattle.stamp_times.specs.Numbered.{month_numbered}
use Rattle.stamp_times.specs.NumberedLemmas.{month_numbered-number}
use Rattle.stamp_times.specs.declared.runs.calls.DateRead.{DateRead}
use Rattle.stamp_times.specs.declared.runs.calls.ClockRead.{ClockRead}
use Rattle.stamp_times.specs.declared.runs.calls.Call.{Call}
use Rattle.stamp_times.specs.declared.runs.calls.Call.TheVariants as replying
use Rattle.stamp_times.specs.declared.runs.calls.Replace.{Replace}
use Rattle.stamp_times.specs.declared.runs.calls.Shift.{Shift}
use Rattle.std.proofs.lemmas.Bool.{and_parts}
use Rattle.times_bench.proofs.WordLemmas.{length-cut_at-some}
use Rattle.times_bench.specs.CallWords.{entry_of, date_reads, clock_reads, read_of, shift_with, date_part_with, clock_part_with, fraction_part_with}
use Rattle.times_bench.specs.CallWords.{part_with, replace_with, local_with, call_with, call_of_parts, call_of}
use Rattle.times_bench.specs.Words.{cut_at, arguments_of, exactly_one}

-- a name that was compared with a text
pub name_is : (name text : List ℕ) (same : Bool) → same ≡ bytes_eq name text → same ≡ true → name ≡ text
name_is name text same e is = (bytes_eq-Decides name text).0 (sym e ∙ is)

-- a name that no row of a table has
abbrev pub NoRowHas : {A : Type 0} → List ℕ → List (List ℕ × A) → Type 0
NoRowHas name [] = ⊤
NoRowHas name (first ∷ others) = (bytes_eq name first.0 ≡ false) × NoRowHas name others

pub entry_of-none : {A : Type 0} (name : List ℕ) (table : List (List ℕ × A)) → NoRowHas name table → entry_of table name ≡ None
entry_of-none name [] none = refl
entry_of-none name (first ∷ others) none = rw none.0 (entry_of-none name others none.1)

-- a name in a table passes the test that all names of the table pass
entry_of-passes : {A : Type 0} (test : List ℕ → Bool) (table : List (List ℕ × A)) (name : List ℕ) (found : A)
    → list_all (λ (row : List ℕ × A). test row.0) table ≡ true → entry_of table name ≡ Some found → test name ≡ true
entry_of-passes test [] name found e h = absurd cc
entry_of-passes {A} test (first ∷ others) name found e h =
    let both = and_parts _ _ e in
    elim (bytes_eq name first.0) as (λ t. bytes_eq name first.0 ≡ t → cond t (Some first.1) (entry_of others name) ≡ Some found → test name ≡ true) [
      | true ↦ λ is _. rw ((bytes_eq-Decides name first.0).0 is) both.0
      | false ↦ λ _ more. entry_of-passes test others name found both.1 more
    ] refl h

-- at least three bytes
abbrev is_long : List ℕ → Bool
is_long text = nat_lt 2 (length text)

-- of a value that is there, what it came from
either_given : {A P : Type 0} (first second : Option A) (value : A) → ((found : A) → first ≡ Some found → P) → (second ≡ Some value → P)
    → option_or first second ≡ Some value → P
either_given None second value by_first by_second e = by_second e
either_given (Some found) second value by_first by_second e = by_first found refl

mapped_given : {A B P : Type 0} (f : A → B) (read : Option A) (value : B) → ((found : A) → read ≡ Some found → P) → option_map f read ≡ Some value → P
mapped_given f None value by_read e = absurd cc
mapped_given f (Some found) value by_read e = by_read found refl

-- where the name is the text, or another choice is taken
long_choice : {A : Type 0} (name text : List ℕ) (found others : Option A) (value : A) → is_long text ≡ true
    → (others ≡ Some value → is_long name ≡ true) → cond (bytes_eq name text) found others ≡ Some value → is_long name ≡ true
long_choice name text found others value long more e =
    elim (bytes_eq name text) as (λ t. bytes_eq name text ≡ t → cond t found others ≡ Some value → is_long name ≡ true) [
      | true ↦ λ is _. rw ((bytes_eq-Decides name text).0 is) long
      | false ↦ λ _ rest. more rest
    ] refl e

-- the name of a read passes the test that all names of reads pass
read_passes : (test : List ℕ → Bool) (name : List ℕ) (call : Call) → list_all (λ (row : List ℕ × DateRead). test row.0) date_reads ≡ true
    → list_all (λ (row : List ℕ × ClockRead). test row.0) clock_reads ≡ true → read_of name ≡ Some call → test name ≡ true
unfolding read_of
read_passes test name call dates clocks e =
    either_given (option_map replying.ReadDate (entry_of date_reads name)) (option_map replying.ReadClock (entry_of clock_reads name)) call
    (λ found is. mapped_given replying.ReadDate (entry_of date_reads name) found (λ read. entry_of-passes test date_reads name read dates) is)
    (λ is. mapped_given replying.ReadClock (entry_of clock_reads name) call (λ read. entry_of-passes test clock_reads name read clocks) is) e

long_read : (name : List ℕ) (call : Call) → read_of name ≡ Some call → is_long name ≡ true
unfolding date_reads clock_reads
long_read name call e = read_passes is_long name call refl refl e

long_shift : (name : List ℕ) (arguments : List (List ℕ)) (shift : Shift) → shift_with name arguments ≡ Some shift → is_long name ≡ true
unfolding shift_with
long_shift name arguments shift e =
    long_choice name (codes "checked_add") _ _ shift refl (long_choice name (codes "checked_sub") _ _ shift refl
    (long_choice name (codes "saturating_add") _ _ shift refl (long_choice name (codes "saturating_sub") _ _ shift refl (λ none. absurd cc)))) e

long_date_part : (name number : List ℕ) (replace : Replace) → date_part_with name number ≡ Some replace → is_long name ≡ true
unfolding date_part_with
long_date_part name number replace e =
    long_choice name (codes "replace_year") _ _ replace refl (long_choice name (codes "replace_month") _ _ replace refl
    (long_choice name (codes "replace_day") _ _ replace refl (long_choice name (codes "replace_ordinal") _ _ replace refl (λ none. absurd cc)))) e

long_clock_part : (name number : List ℕ) (replace : Replace) → clock_part_with name number ≡ Some replace → is_long name ≡ true
unfolding clock_part_with fraction_part_with
long_clock_part name number replace e =
    long_choice name (codes "replace_hour") _ _ replace refl (long_choice name (codes "replace_minute") _ _ replace refl
    (long_choice name (codes "replace_second") _ _ replace refl (long_choice name (codes "replace_millisecond") _ _ replace refl
    (long_choice name (codes "replace_microsecond") _ _ replace refl (long_choice name (codes "replace_nanosecond") _ _ replace refl
    (λ none. absurd cc)))))) e

long_part : (name : List ℕ) (number : Option (List ℕ)) (replace : Replace) → option_and_then (part_with name) number ≡ Some replace → is_long name ≡ true
long_part name None replace e = absurd cc
long_part name (Some number) replace e =
    either_given (date_part_with name number) (clock_part_with name number) replace (long_date_part name number) (long_clock_part name number replace) e

long_replace : (name : List ℕ) (arguments : List (List ℕ)) (replace : Replace) → replace_with name arguments ≡ Some replace → is_long name ≡ true
unfolding replace_with
long_replace name arguments replace e =
    long_choice name (codes "replace_time") _ _ replace refl (long_choice name (codes "replace_date") _ _ replace refl
    (long_part name (exactly_one arguments) replace)) e

long_call : (name : List ℕ) (arguments : List (List ℕ)) (call : Call) → call_with name arguments ≡ Some call → is_long name ≡ true
unfolding call_with
long_call name arguments call e =
    either_given (option_map replying.Shift (shift_with name arguments)) _ call
    (λ found is. mapped_given replying.Shift (shift_with name arguments) found (long_shift name arguments) is)
    (λ rest. either_given (option_map replying.Replace (replace_with name arguments)) (option_map replying.Local (local_with name arguments)) call
    (λ found is. mapped_given replying.Replace (replace_with name arguments) found (long_replace name arguments) is)
    (λ is. mapped_given replying.Local (local_with name arguments) call
    (λ offset. long_choice name (codes "checked_to_offset") _ _ offset refl (λ none. absurd cc)) is) rest) e

long_name : (name : List ℕ) (rest : List (List ℕ)) (call : Call) → call_of_parts (name ∷ rest) ≡ Some call → 3 ≤ length name
unfolding call_of_parts
long_name name [] call e = let long = long_read name call e in grind (arith, nat_tests)
long_name name (arguments ∷ []) call e = let long = long_call name (arguments_of arguments) call e in grind (arith, nat_tests)
long_name name (arguments ∷ next ∷ parts) call e = absurd cc

-- a call has at least three bytes
long_parts : (parts : List (List ℕ)) (call : Call) → call_of_parts parts ≡ Some call → 3 ≤ length (join_with_byte 61 parts)
unfolding call_of_parts
long_parts [] call e = absurd cc
long_parts (name ∷ []) call e = long_name name [] call e
long_parts (name ∷ next ∷ parts) call e =
    omega (arith, long_name name (next ∷ parts) call e, length-append name (61 ∷ join_with_byte 61 (next ∷ parts)))

pub call_of-long : (word : List ℕ) (read : Option Call) → read ≡ call_of word → OnSome read (3 ≤ length word)
unfolding call_of
call_of-long word None e = tt
call_of-long word (Some call) e = rw (join_with_byte-slice_split 61 word) at (long_parts (cut_at 61 word) call (sym e))

-- a word with no `=` is one part, which is the word
abbrev is_one : List (List ℕ) → Bool
is_one [] = false
is_one (part ∷ []) = true
is_one (part ∷ next ∷ parts) = false

call_of_parts-one : (word : List ℕ) (parts : List (List ℕ)) → is_one parts ≡ true → join_with_byte 61 parts ≡ word → call_of_parts parts ≡ read_of word
unfolding call_of_parts
call_of_parts-one word [] one e = absurd cc
call_of_parts-one word (part ∷ []) one e = ap read_of e
call_of_parts-one word (part ∷ next ∷ parts) one e = absurd cc

-- the name of a read has no `=`
pub call_of-read : (word : List ℕ) (call : Call) → read_of word ≡ Some call → call_of word ≡ Some call
unfolding call_of date_reads clock_reads
call_of-read word call e =
    let one = read_passes (λ text. is_one (cut_at 61 text)) word call refl refl e in
    call_of_parts-one word (cut_at 61 word) one (join_with_byte-slice_split 61 word) ∙ e

pub call_of-unread : (word name : List ℕ) → cut_at 61 word ≡ name ∷ [] → read_of word ≡ None → call_of word ≡ None
unfolding call_of
call_of-unread word name cut none = call_of_parts-one word (cut_at 61 word) (ap is_one cut) (join_with_byte-slice_split 61 word) ∙ none

-- a call has no third part: what is cut off has parts of its own
pub call_of_parts-more : (name arguments : List ℕ) (rest : Option (Bor (List ℕ))) → is_some rest ≡ true
    → call_of_parts (name ∷ arguments ∷ option_map_or (λ text. cut_at 61 text.now) rest []) ≡ None
unfolding call_of_parts
call_of_parts-more name arguments None e = absurd cc
call_of_parts-more name arguments (Some text) e =
    elim (cut_at 61 text.now) as (λ parts. 0 < length parts → call_of_parts (name ∷ arguments ∷ parts) ≡ None)
    [ [] ↦ λ some. absurd (omega arith) | next ∷ parts ↦ λ some. refl ] (length-cut_at-some 61 text.now)

-- the month of a number
pub month_tried : {E : Type 0} (number : ℕ) (tried : Result Month E) → (IsOk tried ↔ ((1 ≤ number) × (number ≤ 12)))
    → IfOk tried (λ month. month_number month ≡ number)
    → result_ok tried ≡ cond (is_outside (pos 1) (pos 12) (pos number)) None (Some (month_numbered number))
month_tried number (Ok month) accepted value =
    let bounds = accepted.0 refl in
    let inside : is_outside (pos 1) (pos 12) (pos number) ≡ false = grind (arith, nat_tests) in
    rw inside (ap Some (sym (month_numbered-number month) ∙ ap month_numbered value))
month_tried number (Err refusal) accepted value =
    let outside : is_outside (pos 1) (pos 12) (pos number) ≡ true = grind (arith, nat_tests) in
    rw outside refl
