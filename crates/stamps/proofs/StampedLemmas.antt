-- The state after a line that has a stamp.
use Rattle.std.proofs.Common.{◌≡◌, sym, refl, ℕ, ℤ, Bool, List, Ok, Err, Option}
use Rattle.line_devices.specs.declared.stamp_tallies.LineKind.TheVariants.{Stamped}
use Rattle.stamps.specs.Decisions.{goes_on, latest_of, stamp_after, state_after, state_by}
use Rattle.stamps.specs.declared.decide.State.{State}
use Rattle.stamps.specs.declared.readers.LineRefusal.{LineRefusal}
use Rattle.stamps.specs.declared.readers.LineStamp.{LineStamp}
use Rattle.stamps.specs.declared.task.Action.{Action}
use Rattle.stamps.specs.declared.task.Action.TheVariants.{Write, Check, CheckAll, Gaps, Since, Until, Between}
use Rattle.stamps.specs.declared.task.Task.{Task}

pub state_after-stamped : (task : Task) (state : State) (line : List ℕ) (stamp : LineStamp) → Ok stamp ≡ stamp_after task state line
    → state_by task state line Stamped (Ok stamp) ≡ state_after task state line
unfolding state_after
state_after-stamped task state line stamp e = rw (sym e) refl

-- a line without a stamp has no instant
pub latest_of-none : (action : Action) (latest : Option ℤ) (refusal : LineRefusal) → latest_of action latest (Err refusal) ≡ latest
latest_of-none (Write style is_strict) latest refusal = refl
latest_of-none (Check is_strict) latest refusal = refl
latest_of-none (CheckAll is_strict) latest refusal = refl
latest_of-none (Gaps limit is_strict) latest refusal = refl
latest_of-none (Since bound) latest refusal = refl
latest_of-none (Until bound) latest refusal = refl
latest_of-none (Between from to) latest refusal = refl

-- and is written as the line before
pub goes_on-none : (action : Action) (was : Bool) (refusal : LineRefusal) → goes_on action was (Err refusal) ≡ was
goes_on-none (Write style is_strict) was refusal = refl
goes_on-none (Check is_strict) was refusal = refl
goes_on-none (CheckAll is_strict) was refusal = refl
goes_on-none (Gaps limit is_strict) was refusal = refl
goes_on-none (Since bound) was refusal = refl
goes_on-none (Until bound) was refusal = refl
goes_on-none (Between from to) was refusal = refl

pub ruleset without_stamp = (latest_of-none, goes_on-none)
