-- Runs of calls after runs of calls, and calls that are refused.
use Rattle.std.proofs.Common.{◌≡◌, ◌∙◌, ap, refl, sym, ℤ, List, [], ◌∷◌, ◌++◌, Option, Some, None, Result, Ok, Err}
use Rattle.calendar_values.specs.Refusals.{Refusal}
use Rattle.stamp_times.specs.Counter.{reply, replies, instant_after, last_instant, instant_after_shift, instant_after_replacement}
use Rattle.stamp_times.specs.Counter.{shift_reply, shift_next, replace_reply, replace_next}
use Rattle.stamp_times.specs.Laws.{RunsCompose, RefusedCallsChangeNothing}
use Rattle.stamp_times.specs.declared.runs.calls.Call.{Call}
use Rattle.stamp_times.specs.declared.runs.calls.Call.TheVariants as call
use Rattle.stamp_times.specs.declared.runs.calls.Reply.TheVariants as replied

replies-append : (i : ℤ) (first rest : List Call) → replies i (first ++ rest) ≡ replies i first ++ replies (last_instant i first) rest
replies-append i [] rest = refl
replies-append i (c ∷ first) rest = ap (λ more. reply i c ∷ more) (replies-append (instant_after i c) first rest)

last_instant-append : (i : ℤ) (first rest : List Call) → last_instant i (first ++ rest) ≡ last_instant (last_instant i first) rest
last_instant-append i [] rest = refl
last_instant-append i (c ∷ first) rest = last_instant-append (instant_after i c) first rest

pub runs-compose : RunsCompose
runs-compose = record { replies_of_both = replies-append; last_of_both = last_instant-append }

shift-refused : (i : ℤ) (sum : Option ℤ) → shift_reply sum ≡ replied.Refused → shift_next i sum ≡ i
shift-refused i None e = refl
shift-refused i (Some j) e = absurd cc

replace-refused : (i : ℤ) (replaced : Result ℤ Refusal) → replace_reply replaced ≡ replied.Refused → replace_next i replaced ≡ i
replace-refused i (Ok j) e = absurd cc
replace-refused i (Err refusal) e = refl

refused : (i : ℤ) (c : Call) → reply i c ≡ replied.Refused → instant_after i c ≡ i
refused i (call.ReadDate read) e = refl
refused i (call.ReadClock read) e = refl
refused i (call.Shift shift) e = shift-refused i (instant_after_shift i shift) e
refused i (call.Replace replace) e = replace-refused i (instant_after_replacement i replace) e
refused i (call.Local o) e = refl

shift-refused_part : (i : ℤ) (sum : Option ℤ) (refusal : Refusal) → shift_reply sum ≡ replied.RefusedPart refusal → shift_next i sum ≡ i
shift-refused_part i None refusal e = refl
shift-refused_part i (Some j) refusal e = absurd cc

replace-refused_part : (i : ℤ) (replaced : Result ℤ Refusal) (refusal : Refusal) → replace_reply replaced ≡ replied.RefusedPart refusal
    → replace_next i replaced ≡ i
replace-refused_part i (Ok j) refusal e = absurd cc
replace-refused_part i (Err other) refusal e = refl

refused_part : (i : ℤ) (c : Call) (refusal : Refusal) → reply i c ≡ replied.RefusedPart refusal → instant_after i c ≡ i
refused_part i (call.ReadDate read) refusal e = refl
refused_part i (call.ReadClock read) refusal e = refl
refused_part i (call.Shift shift) refusal e = shift-refused_part i (instant_after_shift i shift) refusal e
refused_part i (call.Replace replace) refusal e = replace-refused_part i (instant_after_replacement i replace) refusal e
refused_part i (call.Local o) refusal e = refl

left_out : (i : ℤ) (first rest : List Call) (c : Call) → instant_after (last_instant i first) c ≡ last_instant i first
    → last_instant i (first ++ (c ∷ rest)) ≡ last_instant i (first ++ rest)
left_out i first rest c same =
    last_instant-append i first (c ∷ rest) ∙ ap (λ j. last_instant j rest) same ∙ sym (last_instant-append i first rest)

pub refused_calls-change_nothing : RefusedCallsChangeNothing
refused_calls-change_nothing = record { sums = refused; parts = refused_part; left_out = left_out }
