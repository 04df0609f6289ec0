-- How each step on a line leaves what was sent, and what it leaves where it fails.
use Rattle.std.proofs.Common.{◌≡◌, ◌≢◌, inl, inr, ℕ, ◌+◌, ◌≤◌, ◌<◌, List, [], ◌∷◌, ◌++◌, length, length-append, take, drop, Option, Result, Ok, Err}
use Rattle.std.proofs.Common.{refl, sym, ap, subst, ◌∙◌, arith, append_assoc, append-nil}
use Rattle.std.proofs.Math.Seq.{take-append-add}
use Rattle.std.proofs.lemmas.List.{length-take}
use Rattle.std.proofs.lemmas.Bool.{false≢true}
use Rattle.std.specs.Prelude.{IsOk, IfErr, OnOk, Bool, true, false}
use Rattle.line_devices.specs.LineParts.{rest_from}
use Rattle.line_devices.specs.Writing.{Sends}
use Rattle.stamps.specs.Decisions.{decision_of, state_after}
use Rattle.stamps.specs.LineStamps.{longest_head}
use Rattle.stamps.specs.Progress.{Begins, Decided, Ends, Keeps, Passes, Settled, Stands, WritesPending, is_kept, mark_after, to_send, progress_of}
use Rattle.stamps.specs.declared.decide.Decision.{Decision}
use Rattle.stamps.specs.declared.decide.Decision.TheVariants.{Keep, Skip, Stop, Tell}
use Rattle.stamps.specs.declared.decide.State.{State}
use Rattle.stamps.specs.declared.lines.LineFault.{LineFault}
use Rattle.stamps.specs.declared.lines.LineFault.TheVariants.{Write, Found}
use Rattle.stamps.specs.declared.lines.Progress.{Progress}
use Rattle.stamps.specs.declared.lines.Progress.TheVariants.{Kept, Sent, Skipped}
use Rattle.stamps.specs.declared.lines.Work.{Work}
use Rattle.stamps.specs.declared.task.Task.{Task}
use Rattle.stamps.proofs.LongLineLemmas.{continues_end, continues_line, continues_long}
use Rattle.stamps.proofs.PartLemmas.{HasNoFeed, HasNoFeed-take, HasNoFeed-drop, IsLong, part_taken, part_split, begin_fault, begun, decided_more, long_more}
use Rattle.stamps.proofs.PartLemmas.{pass_fault, stands_fault, stands_flushed, completion_fault}

progress_of-decided : (decision : Decision) → progress_of decision ≢ Kept
progress_of-decided (Keep start text count) is = absurd cc
progress_of-decided Skip is = absurd cc
progress_of-decided (Tell note) is = absurd cc
progress_of-decided (Stop found) is = absurd cc

pub kept_is : (p : Progress) (r : Bool) → r ≡ is_kept p → r ≡ true → p ≡ Kept
kept_is Kept r e t = refl
kept_is Sent r e t = absurd cc
kept_is Skipped r e t = absurd cc

pub other_is : (p : Progress) (r : Bool) → r ≡ is_kept p → r ≡ false → p ≢ Kept
other_is Kept r e t = absurd cc
other_is Sent r e t = λ is. absurd cc
other_is Skipped r e t = λ is. absurd cc

-- where the line is kept
pub kept_of : (task : Task) (base now : Option (List ℕ)) (pending : List ℕ) (work : Work) (taken : List ℕ) → Stands task base now pending work taken
    → work.progress ≡ Kept → Keeps task base now pending work taken
kept_of task base now pending work taken (inl keeps) is = keeps
kept_of task base now pending work taken (inr (decided, long)) is = absurd (progress_of-decided _ (sym decided.progress ∙ is))

-- where it is not
pub decided_of : (task : Task) (base now : Option (List ℕ)) (pending : List ℕ) (work : Work) (taken : List ℕ) → Stands task base now pending work taken
    → work.progress ≢ Kept → Decided task base now pending work taken × IsLong taken
decided_of task base now pending work taken (inl keeps) other = absurd (other keeps.progress)
decided_of task base now pending work taken (inr both) other = both

no_feed-nil : HasNoFeed []
no_feed-nil = λ k from to. absurd (omega (arith, to))

-- ---- more of a decided line

sent_of : (r : Result Unit LineFault) (old new : Option (List ℕ)) (pending bytes : List ℕ) → IsOk r → Passes r old new pending bytes
    → Sends old new pending bytes
sent_of (Ok done) old new pending bytes ok h = h
sent_of (Err fault) old new pending bytes ok h = absurd cc

pub pass_stands : (task : Task) (base b c : Option (List ℕ)) (pending pending' : List ℕ) (work : Work) (taken part : List ℕ) (r : Result Unit LineFault)
    → HasNoFeed part → IsOk r → Passes r b c pending' (pending ++ to_send work.progress part)
    → Decided task base b pending work taken × IsLong taken → Stands task base c pending' work (taken ++ part)
pass_stands task base b c pending pending' work taken part r none ok h both =
    inr (decided_more task base b c pending pending' work taken part both.0 both.1 none (sent_of r b c pending' _ ok h), long_more taken part none both.1)

pub pass_ends : (task : Task) (b c : Option (List ℕ)) (pending pending' : List ℕ) (work : Work) (part : List ℕ) (r : Result Unit LineFault)
    → HasNoFeed part → Passes r b c pending' (pending ++ to_send work.progress part)
    → IfErr r (λ fault. (base : Option (List ℕ)) (taken more : List ℕ) → Decided task base b pending work taken × IsLong taken
    → Ends task base c fault ((taken ++ part) ++ more))
pass_ends task b c pending pending' work part (Ok done) none h = tt
pass_ends task b c pending pending' work part (Err fault) none h =
    λ base taken more both. pass_fault task base b c pending pending' work taken part more fault both.0 both.1 none h

-- ---- a line that is as long as a stamp may be

-- a table that is filled by the front of a part
pub front_filled : (head part : List ℕ) (room : ℕ) → length head + room ≡ 65536 → take 65536 (head ++ part) ≡ head ++ take room part
front_filled head part room e = rw (← e) (take-append-add head part room)

pub long_enough : (head part : List ℕ) (room : ℕ) → length head + room ≡ 65536 → room ≤ length part → longest_head ≤ length (head ++ take room part)
long_enough head part room e low = omega (arith, e, low, length-append head (take room part), length-take room part)

-- what is kept and the front of a part are a line that is long enough
pub filled : (task : Task) (base now : Option (List ℕ)) (pending : List ℕ) (work : Work) (taken part line : List ℕ) (n : ℕ)
    → Keeps task base now pending work taken → HasNoFeed part → line ≡ work.head ++ take n part → longest_head ≤ length line
    → (line ≡ rest_from [] taken ++ take n part) × IsLong (taken ++ take n part)
filled task base now pending work taken part line n keeps none e long =
    let is = e ∙ ap (λ (z : List ℕ). z ++ take n part) keeps.head in
    let rest = (part_taken taken (take n part) (HasNoFeed-take part n none)).1 ∙ sym is in
    (is, omega (arith, long, ap (length {A = ℕ}) rest))

pub fill_begun : (task : Task) (base b c : Option (List ℕ)) (pending pending' : List ℕ) (work work' : Work) (taken part line : List ℕ) (n : ℕ)
    (progress : Progress) → Keeps task base b pending work taken → HasNoFeed part → line ≡ work.head ++ take n part → longest_head ≤ length line
    → work'.state ≡ state_after task work.state line → work'.progress ≡ progress
    → Begins (Ok progress) (decision_of task work.state line) work'.state b c pending pending' line
    → Decided task base c pending' work' (taken ++ take n part) × IsLong (taken ++ take n part)
fill_begun task base b c pending pending' work work' taken part line n progress keeps none e long s p begins =
    let f = filled task base b pending work taken part line n keeps none e long in
    (begun task base b c pending pending' work work' taken (take n part) line progress keeps (HasNoFeed-take part n none) f.0 s p begins, f.1)

pub fill_fault : (task : Task) (base b c : Option (List ℕ)) (pending pending' : List ℕ) (work : Work) (taken part more line : List ℕ) (n : ℕ)
    (known : State) (fault : LineFault) → Keeps task base b pending work taken → HasNoFeed part → line ≡ work.head ++ take n part
    → longest_head ≤ length line → Begins (Err fault) (decision_of task work.state line) known b c pending pending' line
    → Ends task base c fault ((taken ++ part) ++ more)
fill_fault task base b c pending pending' work taken part more line n known fault keeps none e long begins =
    let f = filled task base b pending work taken part line n keeps none e long in
    let whole : (taken ++ take n part) ++ (drop n part ++ more) ≡ (taken ++ part) ++ more = sym (append_assoc (taken ++ take n part) (drop n part) more)
    ∙ ap (λ (z : List ℕ). z ++ more) (part_split taken part n) in
    subst (λ (z : List ℕ). Ends task base c fault z) whole
    (begin_fault task base b c pending pending' work taken (take n part) (drop n part ++ more) line known fault keeps (HasNoFeed-take part n none) f.0
    (λ state. continues_long task state line (drop n part ++ more) long) begins)

-- and the rest of the part behind it
pub fill_stands : (task : Task) (base b c : Option (List ℕ)) (pending pending' : List ℕ) (work : Work) (taken part : List ℕ) (n : ℕ)
    (r : Result Unit LineFault) → HasNoFeed part → IsOk r → Passes r b c pending' (pending ++ to_send work.progress (drop n part))
    → Decided task base b pending work (taken ++ take n part) × IsLong (taken ++ take n part) → Stands task base c pending' work (taken ++ part)
fill_stands task base b c pending pending' work taken part n r none ok h both =
    subst (λ (z : List ℕ). Stands task base c pending' work z) (part_split taken part n)
    (pass_stands task base b c pending pending' work (taken ++ take n part) (drop n part) r (HasNoFeed-drop part n none) ok h both)

pub fill_ends : (task : Task) (b c : Option (List ℕ)) (pending pending' : List ℕ) (work : Work) (part : List ℕ) (n : ℕ) (r : Result Unit LineFault)
    → HasNoFeed part → Passes r b c pending' (pending ++ to_send work.progress (drop n part))
    → IfErr r (λ fault. (base : Option (List ℕ)) (taken more : List ℕ)
    → Decided task base b pending work (taken ++ take n part) × IsLong (taken ++ take n part) → Ends task base c fault ((taken ++ part) ++ more))
fill_ends task b c pending pending' work part n (Ok done) none h = tt
fill_ends task b c pending pending' work part n (Err fault) none h =
    λ base taken more both. subst (λ (z : List ℕ). Ends task base c fault (z ++ more)) (part_split taken part n)
    (pass_fault task base b c pending pending' work (taken ++ take n part) (drop n part) more fault both.0 both.1 (HasNoFeed-drop part n none) h)

-- ---- a line that ends

-- the whole line is at hand
pub fresh_line : (taken part : List ℕ) (head : List ℕ) → head ≡ rest_from [] taken → head ≡ [] → part ≡ rest_from [] taken ++ part
fresh_line taken part head h none = ap (λ (z : List ℕ). z ++ part) (sym none ∙ h)

pub line_fault : (task : Task) (base b c : Option (List ℕ)) (pending pending' : List ℕ) (work : Work) (taken part more line : List ℕ) (known : State)
    (fault : LineFault) → Keeps task base b pending work taken → HasNoFeed part → line ≡ rest_from [] taken ++ part
    → Begins (Err fault) (decision_of task work.state line) known b c pending pending' line → Ends task base c fault (((taken ++ part) ++ 10 ∷ []) ++ more)
line_fault task base b c pending pending' work taken part more line known fault keeps none e begins =
    subst (λ (z : List ℕ). Ends task base c fault z) (sym (append_assoc (taken ++ part) (10 ∷ []) more))
    (begin_fault task base b c pending pending' work taken part (10 ∷ more) line known fault keeps none e
    (λ state. continues_line task state line more) begins)

-- what is kept is the whole line
pub kept_fault : (task : Task) (base b c : Option (List ℕ)) (pending pending' : List ℕ) (work : Work) (taken more line : List ℕ) (known : State)
    (fault : LineFault) → Keeps task base b pending work taken → line ≡ work.head
    → Begins (Err fault) (decision_of task work.state line) known b c pending pending' line → Ends task base c fault ((taken ++ 10 ∷ []) ++ more)
kept_fault task base b c pending pending' work taken more line known fault keeps e begins =
    subst (λ (z : List ℕ). Ends task base c fault ((z ++ 10 ∷ []) ++ more)) (append-nil taken)
    (line_fault task base b c pending pending' work taken [] more line known fault keeps no_feed-nil
    (e ∙ keeps.head ∙ sym (append-nil (rest_from [] taken))) begins)

pub kept_begun : (task : Task) (base b c : Option (List ℕ)) (pending pending' : List ℕ) (work work' : Work) (taken line : List ℕ) (progress : Progress)
    → Keeps task base b pending work taken → line ≡ work.head → work'.state ≡ state_after task work.state line → work'.progress ≡ progress
    → Begins (Ok progress) (decision_of task work.state line) work'.state b c pending pending' line → Decided task base c pending' work' taken
kept_begun task base b c pending pending' work work' taken line progress keeps e s p begins =
    subst (λ (z : List ℕ). Decided task base c pending' work' z) (append-nil taken)
    (begun task base b c pending pending' work work' taken [] line progress keeps no_feed-nil (e ∙ keeps.head ∙ sym (append-nil (rest_from [] taken))) s p
    begins)

-- ---- the end of the input

positive : (xs : List ℕ) → xs ≢ [] → 0 < length xs
positive [] some = absurd (some refl)
positive (x ∷ xs) some = omega arith

pub some_line : (task : Task) (base now : Option (List ℕ)) (pending : List ℕ) (work : Work) (taken : List ℕ) → Keeps task base now pending work taken
    → work.head ≢ [] → 0 < length (rest_from [] taken)
some_line task base now pending work taken keeps some = positive (rest_from [] taken) (λ e. some (keeps.head ∙ e))

pub rest_fault : (task : Task) (base b c : Option (List ℕ)) (pending pending' : List ℕ) (work : Work) (taken line : List ℕ) (known : State)
    (fault : LineFault) → Keeps task base b pending work taken → work.head ≢ [] → line ≡ work.head
    → Begins (Err fault) (decision_of task work.state line) known b c pending pending' line → Ends task base c fault taken
rest_fault task base b c pending pending' work taken line known fault keeps some e begins =
    let is = e ∙ keeps.head in
    let positive_line : 0 < length line = subst (λ (z : List ℕ). 0 < length z) (sym is) (some_line task base b pending work taken keeps some) in
    subst (λ (z : List ℕ). Ends task base c fault z) (append-nil (taken ++ []) ∙ append-nil taken)
    (begin_fault task base b c pending pending' work taken [] [] line known fault keeps no_feed-nil (is ∙ sym (append-nil (rest_from [] taken)))
    (λ state. continues_end task state line positive_line) begins)

pub long_settled : (task : Task) (base now : Option (List ℕ)) (pending : List ℕ) (work : Work) (taken : List ℕ)
    → Decided task base now pending work taken × IsLong taken → Settled task base now pending work taken
long_settled task base now pending work taken both = inr (both.0, omega (arith, both.1))

pub empty_settled : (task : Task) (base now : Option (List ℕ)) (pending : List ℕ) (work : Work) (taken : List ℕ)
    → Keeps task base now pending work taken → work.head ≡ [] → Settled task base now pending work taken
empty_settled task base now pending work taken keeps none = inl (keeps, sym keeps.head ∙ none)

-- ---- marks

-- the mark where the work ends by a fault behind steps that kept it
pub mark_kept : (fault : LineFault) (a b c : Bool) → c ≡ mark_after {T = Unit} (Err fault) b → b ≡ a → c ≡ mark_after {T = Unit} (Err fault) a
mark_kept fault a b c e kept = e ∙ ap (mark_after {T = Unit} (Err fault)) kept

-- ---- what is pending is written

-- behind a block
pub block_stands : (task : Task) (base b c : Option (List ℕ)) (pending pending' : List ℕ) (work : Work) (taken : List ℕ) (r : Result Unit LineFault)
    → IsOk r → WritesPending r b c pending → OnOk r (pending' ≡ []) → Stands task base b pending work taken → Stands task base c pending' work taken
block_stands task base b c pending pending' work taken (Ok done) ok written none stands =
    stands_flushed task base b c pending pending' work taken stands written none
block_stands task base b c pending pending' work taken (Err fault) ok written none stands = absurd (false≢true ok)

pub block_ends : (task : Task) (a b c : Option (List ℕ)) (before pending : List ℕ) (first work : Work) (block : List ℕ) (r : Result Unit LineFault)
    → WritesPending r b c pending
    → ((base : Option (List ℕ)) (taken : List ℕ) → Stands task base a before first taken → Stands task base b pending work (taken ++ block))
    → IfErr r (λ fault. (base : Option (List ℕ)) (taken more : List ℕ) → Stands task base a before first taken
    → Ends task base c fault ((taken ++ block) ++ more))
block_ends task a b c before pending first work block (Ok done) written stands = tt
block_ends task a b c before pending first work block (Err Write) cut stands =
    λ base taken more h. stands_fault task base b c pending work (taken ++ block) more (stands base taken h) cut
block_ends task a b c before pending first work block (Err (Found found)) none stands = absurd none

-- behind the last line
pub end_cut : (task : Task) (base b c : Option (List ℕ)) (pending : List ℕ) (work : Work) (taken : List ℕ) (fault : LineFault)
    → WritesPending {T = Unit} (Err fault) b c pending → Settled task base b pending work taken → Ends task base c fault taken
end_cut task base b c pending work taken Write cut settled = completion_fault task base b c pending work taken settled cut
end_cut task base b c pending work taken (Found found) none settled = absurd none
