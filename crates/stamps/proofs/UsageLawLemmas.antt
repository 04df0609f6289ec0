-- Words make a request, or are a misuse, exactly where the usage has it so.
use Rattle.std.proofs.Common.{◌≡◌, refl, ap, subst, ◌∙◌, ℕ, ℤ, pos, Bool, true, false, ◌||◌, List, [], ◌∷◌, drop, Option, Some, None, Result, Ok, Err}
use Rattle.std.specs.List.{list_any, starts_with}
use Rattle.std.specs.Prelude.{codes, if◌then◌else◌, length, nat_eq, nat_lt}
use Rattle.std.specs.Result.{result_map_both}
use Rattle.std.specs.Str.{bytes_eq}
use Rattle.std.proofs.lemmas.Slice.Eq.{bytes_eq-Decides}
use Rattle.offset_times.specs.Local.{instant_of}
use Rattle.rfc3339.specs.Front.{offset_reading_of}
use Rattle.rfc3339.specs.Reading.{reading_as}
use Rattle.rfc3339.specs.declared.refusal.Component.{Component}
use Rattle.rfc3339.specs.declared.refusal.TextRefusal.{TextRefusal}
use Rattle.rfc3339.specs.declared.refusal.TextRefusal.TheVariants.{Syntax, OutOfRange}
use Rattle.stamps.specs.Arguments.{asked_alone, at_offset as offset_words, at_offset_read, between_cut, between_from, between_read, bound_asked}
use Rattle.stamps.specs.Arguments.{back_read, bound_read, cut_asked, last_bound, local_read, local_text, only_bound, only_read, other_bound}
use Rattle.stamps.specs.Arguments.{since_cut as since_words, since_read, since_rest, work_request}
use Rattle.stamps.specs.Arguments.{check_task, clock, count_at, count_at_read, count_by, count_read, count_request, gaps_read, gaps_task, is_finer, limit_of}
use Rattle.stamps.specs.Arguments.{request_of, starts_all, starts_at, strictness, task_asked, unit_of}
use Rattle.stamps.specs.Durations.{duration_of}
use Rattle.stamps.specs.Usage.{BeforeBound, BoundWords, ClockWords, CountWords, FirstBoundWords, FrontWords, IsBound, MisuseWords, RequestWords, StrictWords}
use Rattle.stamps.specs.Usage.{first_words}
use Rattle.stamps.specs.Usage.BeforeBound.{first, last}
use Rattle.stamps.specs.Usage.BoundWords.{until, between, since_until}
use Rattle.stamps.specs.Usage.FirstBoundWords.{since_first, between_first}
use Rattle.stamps.specs.Usage.ClockWords.{in_utc, at_offset}
use Rattle.stamps.specs.Usage.CountWords.{some_rows, all_rows}
use Rattle.stamps.specs.Usage.FrontWords.{utc, unix, at, check, check_all, gaps}
use Rattle.stamps.specs.Usage.MisuseWords.{no_word, unknown_word, no_offset, offset, no_unit, unit, no_count_offset, count_offset}
use Rattle.stamps.specs.Usage.MisuseWords.{no_duration, duration, no_instant, no_bound, after_help, after_version, after_count}
use Rattle.stamps.specs.Usage.MisuseWords.{after_merge, after_task, after_since, after_bound}
use Rattle.stamps.specs.Usage.RequestWords.{help, version, merge, count, task, since_cut, bound_cut}
use Rattle.stamps.specs.Usage.StrictWords.{lenient, strict}
use Rattle.stamps.specs.declared.arguments.Misuse.{Misuse}
use Rattle.stamps.specs.declared.arguments.Misuse.TheVariants.{UnknownWord, NoInstant, Instant, TooFine, Extra}
use Rattle.stamps.specs.declared.arguments.Request.{Request}
use Rattle.stamps.specs.declared.arguments.Request.TheVariants.{Help, Version, Work, Cut, Merge, Count}
use Rattle.stamps.specs.declared.bounds.Bound.{Bound}
use Rattle.stamps.specs.declared.bounds.Bound.TheVariants.{Exact, BeforeNow, BeforeLast}
use Rattle.stamps.specs.declared.bounds.Cut as cuts
use Rattle.stamps.specs.declared.bounds.Cut.TheVariants.{Since, Until, Between}
use Rattle.stamps.specs.declared.counts.Clock.{Clock}
use Rattle.stamps.specs.declared.counts.Unit as units
use Rattle.stamps.specs.declared.task.Style.TheVariants.{Utc, At, Unix}
use Rattle.stamps.specs.declared.task.Action.{Action}
use Rattle.stamps.specs.declared.task.Action.TheVariants.{Write, Check, CheckAll, Gaps}

-- ---- what words ask for

-- a request or a misuse, as the usage has it
data Outcome (words : List (List ℕ)) : Result Request Misuse → Type 0 where
  asked : {request : Request} → RequestWords words request → Outcome words (Ok request)
  misused : {misuse : Misuse} → MisuseWords words misuse → Outcome words (Err misuse)

same_word : (word known : List ℕ) → bytes_eq word known ≡ true → word ≡ known
same_word word known e = (bytes_eq-Decides word known).0 e

other_word : (word known : List ℕ) → bytes_eq word known ≡ false → ¬ (word ≡ known)
other_word word known e same = let found = (bytes_eq-Decides word known).1 same in absurd cc

same_only : (word known : List ℕ) → word ∷ [] ≡ known ∷ [] → word ≡ known
same_only word known e = cc

same_first : (word known : List ℕ) (more : List (List ℕ)) → bytes_eq word known ≡ true → word ∷ more ≡ known ∷ more
same_first word known more e = ap (λ (z : List ℕ). z ∷ more) (same_word word known e)

-- ---- a task that `--strict` may follow

by_flag : (words : List (List ℕ)) (work : Bool → Action) (flag : List ℕ) (b : Bool) → FrontWords words (flag ∷ []) work
    → bytes_eq flag (codes "--strict") ≡ b
    → Outcome words (result_map_both Work (λ misuse. misuse) (result_map_both work (λ misuse. misuse) (if b then Ok true else Err Extra)))
by_flag words work flag true h e = asked (task h (strict (same_first flag (codes "--strict") [] e)))
by_flag words work flag false h e =
    misused (after_task h (λ (same : flag ∷ [] ≡ codes "--strict" ∷ []). other_word flag (codes "--strict") e (same_only flag (codes "--strict") same)))

by_strictness : (words more : List (List ℕ)) (work : Bool → Action) → FrontWords words more work
    → Outcome words (result_map_both Work (λ misuse. misuse) (result_map_both work (λ misuse. misuse) (strictness more)))
by_strictness words [] work h = asked (task h (lenient refl))
by_strictness words (flag ∷ []) work h = by_flag words work flag (bytes_eq flag (codes "--strict")) h refl
by_strictness words (flag ∷ word ∷ more) work h = misused (after_task h (λ (same : flag ∷ word ∷ more ≡ codes "--strict" ∷ []). absurd cc))

by_offset : (words : List (List ℕ)) (text : List ℕ) (more : List (List ℕ)) (read : Result ℤ TextRefusal) → words ≡ codes "at" ∷ text ∷ more
    → offset_reading_of text ≡ read → Outcome words (result_map_both Work (λ misuse. misuse) (at_offset_read read more))
by_offset words text more (Ok local) front e = by_strictness words more (λ (b : Bool). Write (At local) b) (at front e)
by_offset words text more (Err refusal) front e = misused (offset front e)

by_at : (words more : List (List ℕ)) → words ≡ codes "at" ∷ more → Outcome words (result_map_both Work (λ misuse. misuse) (offset_words more))
by_at words [] front = misused (no_offset front)
by_at words (text ∷ more) front = by_offset words text more (offset_reading_of text) front refl

-- ---- a cut

by_rest : (words : List (List ℕ)) (text : List ℕ) (more : List (List ℕ)) (cut : Bound → cuts.Cut) (bound : Bound) → BoundWords words (text ∷ more) cut
    → IsBound text bound
    → Outcome words (result_map_both Cut (λ misuse. misuse) (result_map_both cut (λ misuse. misuse) (only_bound bound more)))
by_rest words text [] cut bound h read = asked (bound_cut h read)
by_rest words text (other ∷ more) cut bound h read = misused (after_bound h read)

by_reading : (words : List (List ℕ)) (text : List ℕ) (more : List (List ℕ)) (cut : Bound → cuts.Cut) (read : Result Bound Misuse)
    → BoundWords words (text ∷ more) cut → bound_asked text ≡ read
    → Outcome words (result_map_both Cut (λ misuse. misuse) (result_map_both cut (λ misuse. misuse) (only_read read more)))
by_reading words text more cut (Ok bound) h e = by_rest words text more cut bound h e
by_reading words text more cut (Err misuse) h e = misused (no_bound (last h) e)

by_bound : (words more : List (List ℕ)) (cut : Bound → cuts.Cut) → BoundWords words more cut
    → Outcome words (result_map_both Cut (λ misuse. misuse) (result_map_both cut (λ misuse. misuse) (last_bound more)))
by_bound words [] cut h = misused (no_instant (last h))
by_bound words (text ∷ more) cut h = by_reading words text more cut (bound_asked text) h refl

-- ---- `between`

between_by_reading : (words : List (List ℕ)) (text : List ℕ) (more : List (List ℕ)) (read : Result Bound Misuse)
    → words ≡ codes "between" ∷ text ∷ more → bound_asked text ≡ read
    → Outcome words (result_map_both Cut (λ misuse. misuse) (between_read read more))
between_by_reading words text more (Ok from) e read = by_bound words more (Between from) (between e read)
between_by_reading words text more (Err misuse) e read = misused (no_bound (first (between_first e)) read)

by_between : (words more : List (List ℕ)) → words ≡ codes "between" ∷ more → Outcome words (result_map_both Cut (λ misuse. misuse) (between_cut more))
by_between words [] e = misused (no_instant (first (between_first e)))
by_between words (text ∷ more) e = between_by_reading words text more (bound_asked text) e refl

-- ---- `since`

since_by_until : (words : List (List ℕ)) (text other : List ℕ) (more : List (List ℕ)) (from : Bound) (b : Bool)
    → words ≡ codes "since" ∷ text ∷ other ∷ more → IsBound text from → bytes_eq other (codes "--until") ≡ b
    → Outcome words (result_map_both Cut (λ misuse. misuse) (if b then between_from from more else Err Extra))
since_by_until words text other more from true e read same =
    by_bound words more (Between from)
    (since_until (e ∙ ap (λ (z : List ℕ). codes "since" ∷ text ∷ z ∷ more) (same_word other (codes "--until") same)) read)
since_by_until words text other more from false e read same = misused (after_since e read same)

since_by_rest : (words : List (List ℕ)) (text : List ℕ) (more : List (List ℕ)) (from : Bound) → words ≡ codes "since" ∷ text ∷ more
    → IsBound text from → Outcome words (result_map_both Cut (λ misuse. misuse) (since_rest from more))
since_by_rest words text [] from e read = asked (since_cut e read)
since_by_rest words text (other ∷ more) from e read = since_by_until words text other more from (bytes_eq other (codes "--until")) e read refl

since_by_reading : (words : List (List ℕ)) (text : List ℕ) (more : List (List ℕ)) (read : Result Bound Misuse)
    → words ≡ codes "since" ∷ text ∷ more → bound_asked text ≡ read
    → Outcome words (result_map_both Cut (λ misuse. misuse) (since_read read more))
since_by_reading words text more (Ok from) e read = since_by_rest words text more from e read
since_by_reading words text more (Err misuse) e read = misused (no_bound (first (since_first e)) read)

by_since : (words more : List (List ℕ)) → words ≡ codes "since" ∷ more → Outcome words (result_map_both Cut (λ misuse. misuse) (since_words more))
by_since words [] e = misused (no_instant (first (since_first e)))
by_since words (text ∷ more) e = since_by_reading words text more (bound_asked text) e refl

-- ---- the first word

by_help : (words more : List (List ℕ)) → words ≡ codes "--help" ∷ more → Outcome words (asked_alone Help more)
by_help words [] front = asked (help front)
by_help words (word ∷ more) front = misused (after_help front)

by_version : (words more : List (List ℕ)) → words ≡ codes "--version" ∷ more → Outcome words (asked_alone Version more)
by_version words [] front = asked (version front)
by_version words (word ∷ more) front = misused (after_version front)

-- a first word that is none of those before
record IsOther (word : List ℕ) : Type 0 where
  help : bytes_eq word (codes "--help") ≡ false
  version : bytes_eq word (codes "--version") ≡ false
  merge : bytes_eq word (codes "merge") ≡ false
  count : bytes_eq word (codes "count") ≡ false
  utc : bytes_eq word (codes "utc") ≡ false
  unix : bytes_eq word (codes "unix") ≡ false
  at : bytes_eq word (codes "at") ≡ false
  check : bytes_eq word (codes "check") ≡ false
  gaps : bytes_eq word (codes "gaps") ≡ false

unknown : (word : List ℕ) → IsOther word → bytes_eq word (codes "since") ≡ false → bytes_eq word (codes "until") ≡ false
    → bytes_eq word (codes "between") ≡ false → list_any (bytes_eq word) first_words ≡ false
unknown word h s u b = rw (h.help, h.version, h.merge, h.count, h.utc, h.unix, h.at, h.check, h.gaps, s, u, b) refl

after_until : (word : List ℕ) (more : List (List ℕ)) (b : Bool) → IsOther word → bytes_eq word (codes "since") ≡ false
    → bytes_eq word (codes "until") ≡ false → bytes_eq word (codes "between") ≡ b
    → Outcome (word ∷ more) (result_map_both Cut (λ misuse. misuse) (if b then between_cut more else Err UnknownWord))
after_until word more true h s u e = by_between (word ∷ more) more (same_first word (codes "between") more e)
after_until word more false h s u e = misused (unknown_word refl (unknown word h s u e))

after_first : (word : List ℕ) (more : List (List ℕ)) (b : Bool) → IsOther word → bytes_eq word (codes "since") ≡ false → bytes_eq word (codes "until") ≡ b
    → Outcome (word ∷ more) (result_map_both Cut (λ misuse. misuse)
    (if b then result_map_both Until (λ misuse. misuse) (last_bound more)
    else (if bytes_eq word (codes "between") then between_cut more else Err UnknownWord)))
after_first word more true h s e = by_bound (word ∷ more) more Until (until (same_first word (codes "until") more e))
after_first word more false h s e = after_until word more (bytes_eq word (codes "between")) h s e refl

by_bounded : (word : List ℕ) (more : List (List ℕ)) (b : Bool) → IsOther word → bytes_eq word (codes "since") ≡ b
    → Outcome (word ∷ more) (result_map_both Cut (λ misuse. misuse)
    (if b then since_words more
    else (if bytes_eq word (codes "until") then result_map_both Until (λ misuse. misuse) (last_bound more)
    else (if bytes_eq word (codes "between") then between_cut more else Err UnknownWord))))
by_bounded word more true h e = by_since (word ∷ more) more (same_first word (codes "since") more e)
by_bounded word more false h e = after_first word more (bytes_eq word (codes "until")) h e refl

-- the request of a cut
abbrev cut_words : List ℕ → List (List ℕ) → Result Request Misuse
cut_words word more = result_map_both Cut (λ misuse. misuse) (cut_asked word more)

by_words : (word : List ℕ) (more : List (List ℕ)) → IsOther word
    → Outcome (word ∷ more) (result_map_both Cut (λ misuse. misuse) (cut_asked word more))
unfolding cut_asked
by_words word more h = by_bounded word more (bytes_eq word (codes "since")) h refl

by_check_all : (words more : List (List ℕ)) (all : Bool) → words ≡ codes "check" ∷ more → starts_all more ≡ all
    → Outcome words (result_map_both Work (λ misuse. misuse)
    (if all then result_map_both CheckAll (λ misuse. misuse) (strictness (drop 1 more)) else result_map_both Check (λ misuse. misuse) (strictness more)))
by_check_all words [] true front e = absurd cc
by_check_all words (flag ∷ more) true front e =
    by_strictness words more CheckAll (check_all (front ∙ ap (λ (z : List ℕ). codes "check" ∷ z ∷ more) (same_word flag (codes "--all") e)))
by_check_all words more false front e = by_strictness words more Check (check front e)

by_duration : (words : List (List ℕ)) (text : List ℕ) (more : List (List ℕ)) (read : Option ℕ) → words ≡ codes "gaps" ∷ text ∷ more
    → duration_of text ≡ read → Outcome words (result_map_both Work (λ misuse. misuse) (gaps_read read more))
by_duration words text more (Some seconds) front e = by_strictness words more (Gaps (limit_of seconds)) (gaps front e)
by_duration words text more None front e = misused (duration front e)

by_gaps : (words more : List (List ℕ)) → words ≡ codes "gaps" ∷ more → Outcome words (result_map_both Work (λ misuse. misuse) (gaps_task more))
by_gaps words [] front = misused (no_duration front)
by_gaps words (text ∷ more) front = by_duration words text more (duration_of text) front refl

by_gaps_word : (word : List ℕ) (more : List (List ℕ)) (b : Bool) → bytes_eq word (codes "--help") ≡ false
    → bytes_eq word (codes "--version") ≡ false → bytes_eq word (codes "merge") ≡ false → bytes_eq word (codes "count") ≡ false
    → bytes_eq word (codes "utc") ≡ false → bytes_eq word (codes "unix") ≡ false → bytes_eq word (codes "at") ≡ false
    → bytes_eq word (codes "check") ≡ false → bytes_eq word (codes "gaps") ≡ b
    → Outcome (word ∷ more) (if b then work_request (gaps_task more) else cut_words word more)
by_gaps_word word more true no_help no_version no_merge no_count no_utc no_unix no_at no_check e =
    by_gaps (word ∷ more) more (same_first word (codes "gaps") more e)
by_gaps_word word more false no_help no_version no_merge no_count no_utc no_unix no_at no_check e = by_words word more (record {
  help = no_help;
  version = no_version;
  merge = no_merge;
  count = no_count;
  utc = no_utc;
  unix = no_unix;
  at = no_at;
  check = no_check;
  gaps = e;
})

by_check : (word : List ℕ) (more : List (List ℕ)) (b : Bool) → bytes_eq word (codes "--help") ≡ false
    → bytes_eq word (codes "--version") ≡ false → bytes_eq word (codes "merge") ≡ false → bytes_eq word (codes "count") ≡ false
    → bytes_eq word (codes "utc") ≡ false → bytes_eq word (codes "unix") ≡ false → bytes_eq word (codes "at") ≡ false
    → bytes_eq word (codes "check") ≡ b
    → Outcome (word ∷ more) (if b then work_request (check_task more)
    else (if bytes_eq word (codes "gaps") then work_request (gaps_task more) else cut_words word more))
by_check word more true no_help no_version no_merge no_count no_utc no_unix no_at e =
    by_check_all (word ∷ more) more (starts_all more) (same_first word (codes "check") more e) refl
by_check word more false no_help no_version no_merge no_count no_utc no_unix no_at e = by_gaps_word word more (bytes_eq word
    (codes "gaps")) no_help no_version no_merge no_count no_utc no_unix no_at e refl

by_at_word : (word : List ℕ) (more : List (List ℕ)) (b : Bool) → bytes_eq word (codes "--help") ≡ false
    → bytes_eq word (codes "--version") ≡ false → bytes_eq word (codes "merge") ≡ false → bytes_eq word (codes "count") ≡ false
    → bytes_eq word (codes "utc") ≡ false
    → bytes_eq word (codes "unix") ≡ false → bytes_eq word (codes "at") ≡ b
    → Outcome (word ∷ more) (if b then work_request (offset_words more)
    else (if bytes_eq word (codes "check") then work_request (check_task more)
    else (if bytes_eq word (codes "gaps") then work_request (gaps_task more) else cut_words word more)))
by_at_word word more true no_help no_version no_merge no_count no_utc no_unix e = by_at (word ∷ more) more (same_first word (codes "at") more e)
by_at_word word more false no_help no_version no_merge no_count no_utc no_unix e = by_check word more (bytes_eq word
    (codes "check")) no_help no_version no_merge no_count no_utc no_unix e refl

by_unix : (word : List ℕ) (more : List (List ℕ)) (b : Bool) → bytes_eq word (codes "--help") ≡ false
    → bytes_eq word (codes "--version") ≡ false → bytes_eq word (codes "merge") ≡ false → bytes_eq word (codes "count") ≡ false
    → bytes_eq word (codes "utc") ≡ false
    → bytes_eq word (codes "unix") ≡ b
    → Outcome (word ∷ more) (if b then work_request (result_map_both (Write Unix) (λ misuse. misuse) (strictness more))
    else (if bytes_eq word (codes "at") then work_request (offset_words more)
    else (if bytes_eq word (codes "check") then work_request (check_task more)
    else (if bytes_eq word (codes "gaps") then work_request (gaps_task more) else cut_words word more))))
by_unix word more true no_help no_version no_merge no_count no_utc e = by_strictness (word ∷ more) more (Write Unix) (unix (same_first word (codes "unix")
    more e))
by_unix word more false no_help no_version no_merge no_count no_utc e = by_at_word word more (bytes_eq word (codes "at")) no_help no_version no_merge
    no_count no_utc e refl

by_utc : (word : List ℕ) (more : List (List ℕ)) (b : Bool) → bytes_eq word (codes "--help") ≡ false
    → bytes_eq word (codes "--version") ≡ false → bytes_eq word (codes "merge") ≡ false → bytes_eq word (codes "count") ≡ false
    → bytes_eq word (codes "utc") ≡ b
    → Outcome (word ∷ more) (if b then work_request (result_map_both (Write Utc) (λ misuse. misuse) (strictness more))
    else (if bytes_eq word (codes "unix") then work_request (result_map_both (Write Unix) (λ misuse. misuse) (strictness more))
    else (if bytes_eq word (codes "at") then work_request (offset_words more)
    else (if bytes_eq word (codes "check") then work_request (check_task more)
    else (if bytes_eq word (codes "gaps") then work_request (gaps_task more) else cut_words word more)))))
by_utc word more true no_help no_version no_merge no_count e = by_strictness (word ∷ more) more (Write Utc) (utc (same_first word (codes "utc") more e))
by_utc word more false no_help no_version no_merge no_count e = by_unix word more (bytes_eq word (codes "unix")) no_help no_version no_merge no_count e refl

by_task : (word : List ℕ) (more : List (List ℕ)) → bytes_eq word (codes "--help") ≡ false → bytes_eq word (codes "--version") ≡ false
    → bytes_eq word (codes "merge") ≡ false → bytes_eq word (codes "count") ≡ false
    → Outcome (word ∷ more) (task_asked word more)
unfolding task_asked
by_task word more no_help no_version no_merge no_count = by_utc word more (bytes_eq word (codes "utc")) no_help no_version no_merge no_count refl

by_merge_flag : (words : List (List ℕ)) (flag : List ℕ) (b : Bool) → words ≡ codes "merge" ∷ flag ∷ [] → bytes_eq flag (codes "--strict") ≡ b
    → Outcome words (result_map_both Merge (λ misuse. misuse) (if b then Ok true else Err Extra))
by_merge_flag words flag true h e = asked (merge h (strict (same_first flag (codes "--strict") [] e)))
by_merge_flag words flag false h e =
    misused (after_merge h (λ (same : flag ∷ [] ≡ codes "--strict" ∷ []). other_word flag (codes "--strict") e (same_only flag (codes "--strict") same)))

by_merge : (words more : List (List ℕ)) → words ≡ codes "merge" ∷ more → Outcome words (result_map_both Merge (λ misuse. misuse) (strictness more))
by_merge words [] h = asked (merge h (lenient refl))
by_merge words (flag ∷ []) h = by_merge_flag words flag (bytes_eq flag (codes "--strict")) h refl
by_merge words (flag ∷ word ∷ more) h = misused (after_merge h (λ (same : flag ∷ word ∷ more ≡ codes "--strict" ∷ []). absurd cc))

by_count_flag : (words : List (List ℕ)) (by : Clock) (all : Bool) (flag : List ℕ) (b : Bool) → CountWords words (flag ∷ []) by all
    → bytes_eq flag (codes "--strict") ≡ b → Outcome words (result_map_both (Count by all) (λ misuse. misuse) (if b then Ok true else Err Extra))
by_count_flag words by all flag true h e = asked (count h (strict (same_first flag (codes "--strict") [] e)))
by_count_flag words by all flag false h e =
    misused (after_count h (λ (same : flag ∷ [] ≡ codes "--strict" ∷ []). other_word flag (codes "--strict") e (same_only flag (codes "--strict") same)))

by_count_strictness : (words more : List (List ℕ)) (by : Clock) (all : Bool) → CountWords words more by all
    → Outcome words (result_map_both (Count by all) (λ misuse. misuse) (strictness more))
by_count_strictness words [] by all h = asked (count h (lenient refl))
by_count_strictness words (flag ∷ []) by all h = by_count_flag words by all flag (bytes_eq flag (codes "--strict")) h refl
by_count_strictness words (flag ∷ word ∷ more) by all h = misused (after_count h (λ (same : flag ∷ word ∷ more ≡ codes "--strict" ∷ []). absurd cc))

by_count_all : (words more : List (List ℕ)) (by : Clock) (all : Bool) → ClockWords words more by → starts_all more ≡ all
    → Outcome words (if all then result_map_both (Count by true) (λ misuse. misuse) (strictness (drop 1 more))
    else result_map_both (Count by false) (λ misuse. misuse) (strictness more))
by_count_all words [] by true h e = absurd cc
by_count_all words (flag ∷ more) by true h e =
    by_count_strictness words more by true
    (all_rows (subst (λ (z : List ℕ). ClockWords words (z ∷ more) by) (same_word flag (codes "--all") e) h))
by_count_all words more by false h e = by_count_strictness words more by false (some_rows h e)

by_count_offset : (words : List (List ℕ)) (text written : List ℕ) (more : List (List ℕ)) (named : units.Unit) (read : Result ℤ TextRefusal)
    → words ≡ codes "count" ∷ text ∷ codes "at" ∷ written ∷ more → unit_of text ≡ Some named → offset_reading_of written ≡ read
    → Outcome words (count_at_read named read more)
by_count_offset words text written more named (Ok o) front u e = by_count_all words more (clock named o) (starts_all more) (at_offset front u e) refl
by_count_offset words text written more named (Err refusal) front u e = misused (count_offset front u e)

by_count_at : (words : List (List ℕ)) (text : List ℕ) (more : List (List ℕ)) (named : units.Unit) → words ≡ codes "count" ∷ text ∷ codes "at" ∷ more
    → unit_of text ≡ Some named → Outcome words (count_at named more)
by_count_at words text [] named front u = misused (no_count_offset front u)
by_count_at words text (written ∷ more) named front u = by_count_offset words text written more named (offset_reading_of written) front u refl

by_count_in : (words : List (List ℕ)) (text : List ℕ) (more : List (List ℕ)) (named : units.Unit) (b : Bool) → words ≡ codes "count" ∷ text ∷ more
    → unit_of text ≡ Some named → starts_at more ≡ b
    → Outcome words (if b then count_at named (drop 1 more) else count_by named (pos 0) more)
by_count_in words text [] named true front u e = absurd cc
by_count_in words text (word ∷ more) named true front u e =
    by_count_at words text more named (front ∙ ap (λ (z : List ℕ). codes "count" ∷ text ∷ z ∷ more) (same_word word (codes "at") e)) u
by_count_in words text more named false front u e = by_count_all words more (clock named (pos 0)) (starts_all more) (in_utc front u e) refl

by_unit : (words : List (List ℕ)) (text : List ℕ) (more : List (List ℕ)) (read : Option units.Unit) → words ≡ codes "count" ∷ text ∷ more
    → unit_of text ≡ read → Outcome words (count_read read more)
by_unit words text more (Some named) front e = by_count_in words text more named (starts_at more) front e refl
by_unit words text more None front e = misused (unit front e)

by_count : (words more : List (List ℕ)) → words ≡ codes "count" ∷ more → Outcome words (count_request more)
by_count words [] front = misused (no_unit front)
by_count words (text ∷ more) front = by_unit words text more (unit_of text) front refl

by_fourth : (word : List ℕ) (more : List (List ℕ)) (b : Bool) → bytes_eq word (codes "--help") ≡ false → bytes_eq word (codes "--version") ≡ false
    → bytes_eq word (codes "merge") ≡ false → bytes_eq word (codes "count") ≡ b
    → Outcome (word ∷ more) (if b then count_request more else task_asked word more)
by_fourth word more true no_help no_version no_merge e = by_count (word ∷ more) more (same_first word (codes "count") more e)
by_fourth word more false no_help no_version no_merge e = by_task word more no_help no_version no_merge e

by_third : (word : List ℕ) (more : List (List ℕ)) (b : Bool) → bytes_eq word (codes "--help") ≡ false → bytes_eq word (codes "--version") ≡ false
    → bytes_eq word (codes "merge") ≡ b
    → Outcome (word ∷ more) (if b then result_map_both Merge (λ misuse. misuse) (strictness more)
    else (if bytes_eq word (codes "count") then count_request more else task_asked word more))
by_third word more true no_help no_version e = by_merge (word ∷ more) more (same_first word (codes "merge") more e)
by_third word more false no_help no_version e = by_fourth word more (bytes_eq word (codes "count")) no_help no_version e refl

by_second : (word : List ℕ) (more : List (List ℕ)) (b : Bool) → bytes_eq word (codes "--help") ≡ false → bytes_eq word (codes "--version") ≡ b
    → Outcome (word ∷ more) (if b then asked_alone Version more
    else (if bytes_eq word (codes "merge") then result_map_both Merge (λ misuse. misuse) (strictness more)
    else (if bytes_eq word (codes "count") then count_request more
    else task_asked word more)))
by_second word more true no_help e = by_version (word ∷ more) more (same_first word (codes "--version") more e)
by_second word more false no_help e = by_third word more (bytes_eq word (codes "merge")) no_help e refl

by_first : (word : List ℕ) (more : List (List ℕ)) (b : Bool) → bytes_eq word (codes "--help") ≡ b
    → Outcome (word ∷ more) (if b then asked_alone Help more
    else (if bytes_eq word (codes "--version") then asked_alone Version more
    else (if bytes_eq word (codes "merge") then result_map_both Merge (λ misuse. misuse) (strictness more)
    else (if bytes_eq word (codes "count") then count_request more
    else task_asked word more))))
by_first word more true e = by_help (word ∷ more) more (same_first word (codes "--help") more e)
by_first word more false e = by_second word more (bytes_eq word (codes "--version")) e refl

outcome : (words : List (List ℕ)) → Outcome words (request_of words)
unfolding request_of
outcome [] = misused (no_word refl)
outcome (word ∷ more) = by_first word more (bytes_eq word (codes "--help")) refl

taken_request : (words : List (List ℕ)) (request : Request) → Outcome words (Ok request) → RequestWords words request
taken_request words request (asked h) = h

taken_misuse : (words : List (List ℕ)) (misuse : Misuse) → Outcome words (Err misuse) → MisuseWords words misuse
taken_misuse words misuse (misused h) = h

-- ---- the way back

neither : (a b : Bool) → (a || b) ≡ false → (a ≡ false) × (b ≡ false)
neither true b e = absurd cc
neither false b e = (refl, e)

strict_task : (words more : List (List ℕ)) (work : Bool → Action) (found : Result Bool Misuse) → FrontWords words more work → strictness more ≡ found
    → request_of words ≡ result_map_both Work (λ misuse. misuse) (result_map_both work (λ misuse. misuse) found)
unfolding request_of task_asked
strict_task words more work found (utc e) s = rw (e, s) refl
strict_task words more work found (unix e) s = rw (e, s) refl
strict_task words more work found (at e read) s = rw (e, read, s) refl
strict_task words more work found (check e none) s = rw (e, none, s) refl
strict_task words more work found (check_all e) s = rw (e, s) refl
strict_task words more work found (gaps e read) s = rw (e, read, s) refl

strict_count : (words more : List (List ℕ)) (by : Clock) (all : Bool) (found : Result Bool Misuse) → CountWords words more by all → strictness more ≡ found
    → request_of words ≡ result_map_both (Count by all) (λ misuse. misuse) found
unfolding request_of
strict_count words more by all found (some_rows (in_utc e u none) no_all) s = rw (e, u, none, no_all, s) refl
strict_count words more by all found (some_rows (at_offset e u read) no_all) s = rw (e, u, read, no_all, s) refl
strict_count words more by all found (all_rows (in_utc e u none)) s = rw (e, u, s) refl
strict_count words more by all found (all_rows (at_offset e u read)) s = rw (e, u, read, s) refl

strict_is : (more : List (List ℕ)) (is_strict : Bool) → StrictWords more is_strict → strictness more ≡ Ok is_strict
strict_is more is_strict (lenient e) = rw e refl
strict_is more is_strict (strict e) = rw e refl

-- the strictness of one flag
abbrev strict_if : Bool → Result Bool Misuse
strict_if b = if b then Ok true else Err Extra

flag_is_extra : (flag : List ℕ) (b : Bool) → bytes_eq flag (codes "--strict") ≡ b → ¬ (flag ∷ [] ≡ codes "--strict" ∷ [])
    → strict_if b ≡ Err Extra
flag_is_extra flag true e none = absurd (none (same_first flag (codes "--strict") [] e))
flag_is_extra flag false e none = refl

extra_is : (word : List ℕ) (more : List (List ℕ)) → ¬ (word ∷ more ≡ codes "--strict" ∷ []) → strictness (word ∷ more) ≡ Err Extra
extra_is word [] none = flag_is_extra word (bytes_eq word (codes "--strict")) refl none
extra_is word (other ∷ more) none = refl

-- a cut by its last bound
bound_is : (words more : List (List ℕ)) (cut : Bound → cuts.Cut) → BoundWords words more cut
    → request_of words ≡ result_map_both Cut (λ misuse. misuse) (result_map_both cut (λ misuse. misuse) (last_bound more))
unfolding request_of task_asked cut_asked
bound_is words more cut (until e) = rw e refl
bound_is words more cut (between e read) = rw (e, read) refl
bound_is words more cut (since_until e read) = rw (e, read) refl

-- the misuse of a bound, whichever it is
none_is : (words : List (List ℕ)) → BeforeBound words [] → request_of words ≡ Err NoInstant
unfolding request_of task_asked cut_asked
none_is words (first (since_first e)) = rw e refl
none_is words (first (between_first e)) = rw e refl
none_is words (last {cut = cut} h) = bound_is words [] cut h

wrong_is : (words : List (List ℕ)) (text : List ℕ) (more : List (List ℕ)) (misuse : Misuse) → BeforeBound words (text ∷ more)
    → bound_asked text ≡ Err misuse → request_of words ≡ Err misuse
unfolding request_of task_asked cut_asked
wrong_is words text more misuse (first (since_first e)) wrong = rw (e, wrong) refl
wrong_is words text more misuse (first (between_first e)) wrong = rw (e, wrong) refl
wrong_is words text more misuse (last {cut = cut} h) wrong = bound_is words (text ∷ more) cut h ∙ rw wrong refl

since_is : (words : List (List ℕ)) (text : List ℕ) (more : List (List ℕ)) (from : Bound) → words ≡ codes "since" ∷ text ∷ more → IsBound text from
    → request_of words ≡ result_map_both Cut (λ misuse. misuse) (since_rest from more)
unfolding request_of task_asked cut_asked
since_is words text more from e read = rw (e, read) refl

pub request_is : (words : List (List ℕ)) (request : Request) → RequestWords words request → request_of words ≡ Ok request
unfolding request_of
request_is words request (help e) = rw e refl
request_is words request (version e) = rw e refl
request_is words request (merge {more = more} {is_strict = b} e h) = rw (e, strict_is more b h) refl
request_is words request (count {by = by} {more = more} {shows_all = all} {is_strict = b} front h) =
    strict_count words more by all (Ok b) front (strict_is more b h)
request_is words request (task {work = work} {more = more} {is_strict = b} front h) =
    strict_task words more work (Ok b) front (strict_is more b h)
request_is words request (since_cut {text = text} {from = from} e read) = since_is words text [] from e read
request_is words request (bound_cut {cut = cut} {text = text} {bound = bound} h read) = bound_is words (text ∷ []) cut h ∙ rw read refl

not_first : (word known : List ℕ) (others : List (List ℕ)) → list_any (bytes_eq word) (known ∷ others) ≡ false
    → (bytes_eq word known ≡ false) × (list_any (bytes_eq word) others ≡ false)
not_first word known others e = neither (bytes_eq word known) (list_any (bytes_eq word) others) e

after_gaps : List (List ℕ)
after_gaps = codes "since" ∷ codes "until" ∷ codes "between" ∷ []

after_at : List (List ℕ)
after_at = codes "check" ∷ codes "gaps" ∷ after_gaps

unknown_is : (words : List (List ℕ)) (word : List ℕ) (more : List (List ℕ)) → words ≡ word ∷ more → list_any (bytes_eq word) first_words ≡ false
    → request_of words ≡ Err UnknownWord
unfolding request_of task_asked cut_asked after_at after_gaps
unknown_is words word more e none =
    let one = not_first word (codes "--help") (codes "--version" ∷ codes "merge" ∷ codes "count" ∷ codes "utc" ∷ codes "unix" ∷ codes "at" ∷ after_at) none in
    let other = not_first word (codes "--version") (codes "merge" ∷ codes "count" ∷ codes "utc" ∷ codes "unix" ∷ codes "at" ∷ after_at) one.1 in
    let third = not_first word (codes "merge") (codes "count" ∷ codes "utc" ∷ codes "unix" ∷ codes "at" ∷ after_at) other.1 in
    let fourth = not_first word (codes "count") (codes "utc" ∷ codes "unix" ∷ codes "at" ∷ after_at) third.1 in
    let two = not_first word (codes "utc") (codes "unix" ∷ codes "at" ∷ after_at) fourth.1 in
    let three = not_first word (codes "unix") (codes "at" ∷ after_at) two.1 in
    let four = not_first word (codes "at") after_at three.1 in
    let five = not_first word (codes "check") (codes "gaps" ∷ after_gaps) four.1 in
    let gap = not_first word (codes "gaps") after_gaps five.1 in
    let six = not_first word (codes "since") (codes "until" ∷ codes "between" ∷ []) gap.1 in
    let seven = not_first word (codes "until") (codes "between" ∷ []) six.1 in
    let eight = not_first word (codes "between") [] seven.1 in
    rw (e, one.0, other.0, third.0, fourth.0, two.0, three.0, four.0, five.0, gap.0, six.0, seven.0, eight.0) refl

pub misuse_is : (words : List (List ℕ)) (misuse : Misuse) → MisuseWords words misuse → request_of words ≡ Err misuse
unfolding request_of task_asked
misuse_is words misuse (no_word e) = rw e refl
misuse_is words misuse (unknown_word {word = word} {more = more} e none) = unknown_is words word more e none
misuse_is words misuse (no_offset e) = rw e refl
misuse_is words misuse (offset e read) = rw (e, read) refl
misuse_is words misuse (no_instant h) = none_is words h
misuse_is words misuse (no_bound {text = text} {more = more} h read) = wrong_is words text more misuse h read
misuse_is words misuse (no_unit e) = rw e refl
misuse_is words misuse (unit e none) = rw (e, none) refl
misuse_is words misuse (no_count_offset e u) = rw (e, u) refl
misuse_is words misuse (count_offset e u read) = rw (e, u, read) refl
misuse_is words misuse (no_duration e) = rw e refl
misuse_is words misuse (duration e none) = rw (e, none) refl
misuse_is words misuse (after_count {by = by} {shows_all = all} {word = word} {more = more} front none) =
    strict_count words (word ∷ more) by all (Err Extra) front (extra_is word more none)
misuse_is words misuse (after_help e) = rw e refl
misuse_is words misuse (after_version e) = rw e refl
misuse_is words misuse (after_merge {word = word} {more = more} e none) = rw (e, extra_is word more none) refl
misuse_is words misuse (after_task {work = work} {word = word} {more = more} front none) =
    strict_task words (word ∷ more) work (Err Extra) front (extra_is word more none)
misuse_is words misuse (after_since {text = text} {other = other} {more = more} {from = from} e read not_until) =
    since_is words text (other ∷ more) from e read ∙ rw not_until refl
misuse_is words misuse (after_bound {cut = cut} {text = text} {other = other} {more = more} h read) =
    bound_is words (text ∷ other ∷ more) cut h ∙ rw read refl

-- ---- both ways

pub request_found : (words : List (List ℕ)) (request : Request) → request_of words ≡ Ok request → RequestWords words request
request_found words request e = taken_request words request (subst (Outcome words) e (outcome words))

pub misuse_found : (words : List (List ℕ)) (misuse : Misuse) → request_of words ≡ Err misuse → MisuseWords words misuse
misuse_found words misuse e = taken_misuse words misuse (subst (Outcome words) e (outcome words))

-- ---- bounds that are date-times with an offset

pub exact : (text : List ℕ) (i : ℤ) → reading_as instant_of text ≡ Ok i → is_finer text ≡ false → bound_asked text ≡ Ok (Exact i)
exact text i read finer = rw (read, finer) refl

pub finer_is_none : (text : List ℕ) (i : ℤ) → reading_as instant_of text ≡ Ok i → is_finer text ≡ true → bound_asked text ≡ Err TooFine
finer_is_none text i read finer = rw (read, finer) refl

pub out_of_range_is_none : (text : List ℕ) (component : Component) → reading_as instant_of text ≡ Err (OutOfRange component)
    → bound_asked text ≡ Err (Instant (OutOfRange component))
out_of_range_is_none text component read = rw read refl

-- no bound of another kind is an instant
not_back : (last : Bool) (back : Option ℕ) (i : ℤ)
    → (if last then result_map_both BeforeLast (λ misuse. misuse) (back_read back) else result_map_both BeforeNow (λ misuse. misuse) (back_read back))
    ≡ Ok (Exact i) → ⊥
not_back true (Some seconds) i e = absurd cc
not_back true None i e = absurd cc
not_back false (Some seconds) i e = absurd cc
not_back false None i e = absurd cc

not_local : (long : Bool) (read : Result ℤ TextRefusal) (i : ℤ) → (if long then Err (Instant Syntax) else local_read read) ≡ Ok (Exact i) → ⊥
not_local true read i e = absurd cc
not_local false (Ok wall) i e = absurd cc
not_local false (Err refusal) i e = absurd cc

not_kinds : (last now long : Bool) (back since : Option ℕ) (read : Result ℤ TextRefusal) (i : ℤ)
    → (if last then result_map_both BeforeLast (λ misuse. misuse) (back_read back)
    else (if now then result_map_both BeforeNow (λ misuse. misuse) (back_read since)
    else (if long then Err (Instant Syntax) else local_read read))) ≡ Ok (Exact i) → ⊥
not_kinds true now long back since read i e = not_back true back i e
not_kinds false true long back since read i e = not_back false since i e
not_kinds false false long back since read i e = not_local long read i e

not_other : (text : List ℕ) (i : ℤ) → other_bound text ≡ Ok (Exact i) → ⊥
unfolding other_bound
not_other text i e =
    not_kinds (starts_with nat_eq text (codes "last-")) (starts_with nat_eq text (codes "-")) (nat_lt 29 (length text)) (duration_of (drop 5 text))
    (duration_of (drop 1 text)) (reading_as instant_of (local_text text)) i e

only_by : (text : List ℕ) (read : Result ℤ TextRefusal) (finer : Bool) (i : ℤ) → bound_read finer read text ≡ Ok (Exact i)
    → (read ≡ Ok i) × (finer ≡ false)
only_by text (Ok j) true i e = absurd cc
only_by text (Ok j) false i e = (cc, refl)
only_by text (Err Syntax) finer i e = absurd (not_other text i e)
only_by text (Err (OutOfRange component)) finer i e = absurd cc

pub only_exact : (text : List ℕ) (i : ℤ) → bound_asked text ≡ Ok (Exact i) → (reading_as instant_of text ≡ Ok i) × (is_finer text ≡ false)
only_exact text i e = only_by text (reading_as instant_of text) (is_finer text) i e
