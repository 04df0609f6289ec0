-- A front that was read, and where the date-time in it ends.
use Rattle.std.proofs.Common.{◌≡◌, ◌≢◌, refl, sym, ap, subst, ◌∙◌, ℕ, ◌+◌, ◌-◌, ◌≤◌, Bool, true, false, cond, List, [], ◌++◌, take, drop, length, length-append}
use Rattle.std.proofs.Common.{append_assoc, ℤ, Option, Some, None, Result, Ok, Err, arith}
use Rattle.std.specs.Result.{result_map_both}
use Rattle.std.proofs.Math.Seq.{take-append-add, take-append_seam}
use Rattle.std.proofs.lemmas.List.{append-nil, length-take}
use Rattle.std.proofs.lemmas.Option.{same_Some}
use Rattle.offset_times.specs.Local.{Local, instant_of}
use Rattle.rfc3339.specs.Form.{IsDateTime}
use Rattle.rfc3339.specs.Front.{front_meaning}
use Rattle.rfc3339.specs.Meaning.{meaning}
use Rattle.rfc3339.specs.Reading.{front_at}
use Rattle.rfc3339.specs.TextLemmas.{front_again, front_takes}
use Rattle.rfc3339.specs.declared.parts.Parts.{Parts}
use Rattle.rfc3339.specs.declared.refusal.TextRefusal.{TextRefusal}
use Rattle.rfc3339.specs.declared.refusal.TextRefusal.TheVariants.{Syntax, OutOfRange}
use Rattle.stamps.specs.LineInstants.{stamp_instant}
use Rattle.stamps.specs.LineStamps.{ended_stamp, ends, front_stamp, stamp}
use Rattle.stamps.specs.Readers.{plain_at}
use Rattle.stamps.specs.declared.decide.Stamp.{Stamp}

-- a value, and a number of bytes
abbrev counted : ℕ → Local → Local × ℕ
counted count at = (at, count)

-- ---- a date-time that is accepted

accepted_at : (front : List ℕ) (count : ℕ) (m : Result Local TextRefusal) (read : Local × ℕ)
    → result_map_both (counted count) (λ refusal. refusal) m ≡ Ok read
    → ended_stamp m count (drop count front) ≡ ended_stamp (Ok read.0) read.1 (drop read.1 front)
accepted_at front count (Ok x) read e =
    let same : counted count x ≡ read = cc in
    ap (λ (z : Local × ℕ). ended_stamp (Ok z.0) z.1 (drop z.1 front)) same
accepted_at front count (Err refusal) read e = absurd cc

pub front_accepted : (front : List ℕ) (o : Option (Parts × List ℕ)) (read : Local × ℕ) → front_meaning front o ≡ Ok read
    → front_stamp front o ≡ ended_stamp (Ok read.0) read.1 (drop read.1 front)
front_accepted front None read e = absurd cc
front_accepted front (Some taken) read e = accepted_at front (length front - length taken.1) (meaning taken.0) read e

-- its instant, or none if it does not end there
either_instant : (it_ends : Bool) (before : ℕ) (s : Stamp)
    → cond it_ends (Some s.instant) None ≡ stamp_instant (plain_at before (cond it_ends (Ok s) (Err Syntax)))
either_instant true before s = refl
either_instant false before s = refl

ended_instant : (before : ℕ) (at : Local) (count : ℕ) (next : List ℕ)
    → cond (ends count next) (Some (instant_of at)) None ≡ stamp_instant (plain_at before (ended_stamp (Ok at) count next))
ended_instant before at count next = either_instant (ends count next) before (stamp (instant_of at) count next)

pub front_instant : (before : ℕ) (front : List ℕ) (o : Option (Parts × List ℕ)) (read : Local × ℕ) (r : Option ℤ) → front_meaning front o ≡ Ok read
    → r ≡ cond (ends read.1 (drop read.1 front)) (Some (instant_of read.0)) None → r ≡ stamp_instant (plain_at before (front_stamp front o))
front_instant before front o read r e h =
    h ∙ ended_instant before read.0 read.1 (drop read.1 front)
    ∙ ap (λ (z : Result Stamp TextRefusal). stamp_instant (plain_at before z)) (sym (front_accepted front o read e))

-- ---- no date-time

either_syntax : (it_ends : Bool) → ◌≡◌ {A = Result Stamp TextRefusal} (cond it_ends (Err Syntax) (Err Syntax)) (Err Syntax)
either_syntax true = refl
either_syntax false = refl

syntax_at : (front : List ℕ) (count : ℕ) (m : Result Local TextRefusal) → result_map_both (counted count) (λ refusal. refusal) m ≡ Err Syntax
    → ended_stamp m count (drop count front) ≡ Err Syntax
syntax_at front count (Ok x) e = absurd cc
syntax_at front count (Err refusal) e =
    let is : refusal ≡ Syntax = cc in rw is (either_syntax (ends count (drop count front)))

pub front_syntax : (front : List ℕ) (o : Option (Parts × List ℕ)) → front_meaning front o ≡ Err Syntax → front_stamp front o ≡ Err Syntax
front_syntax front None e = refl
front_syntax front (Some read) e = syntax_at front (length front - length read.1) (meaning read.0) e

-- an error has no instant
either_none : (it_ends : Bool) (before : ℕ) (r : TextRefusal) → None ≡ stamp_instant (plain_at before (cond it_ends (Err r) (Err Syntax)))
either_none true before Syntax = refl
either_none true before (OutOfRange component) = refl
either_none false before r = refl

none_at : (before count : ℕ) (m : Result Local TextRefusal) (refusal : TextRefusal) (next : List ℕ)
    → result_map_both (counted count) (λ refusal. refusal) m ≡ Err refusal → None ≡ stamp_instant (plain_at before (ended_stamp m count next))
none_at before count (Ok x) refusal next e = absurd cc
none_at before count (Err r) refusal next e = either_none (ends count next) before r

pub front_none : (before : ℕ) (front : List ℕ) (o : Option (Parts × List ℕ)) (refusal : TextRefusal) → front_meaning front o ≡ Err refusal
    → None ≡ stamp_instant (plain_at before (front_stamp front o))
front_none before front None refusal e = refl
front_none before front (Some read) refusal e =
    let count = length front - length read.1 in none_at before count (meaning read.0) refusal (drop count front) e

-- ---- a date-time that is refused

refused_at : (count : ℕ) (m : Result Local TextRefusal) (refusal : TextRefusal) (next : List ℕ)
    → result_map_both (counted count) (λ refusal. refusal) m ≡ Err refusal → ended_stamp m count next ≡ ended_stamp (Err refusal) count next
refused_at count (Ok x) refusal next e = absurd cc
refused_at count (Err r) refusal next e =
    let is : r ≡ refusal = cc in rw is refl

-- no text of the form begins with another and goes on
nothing_behind : (spelled more : List ℕ) (p q : Parts) → IsDateTime spelled p → IsDateTime (spelled ++ more) q → more ≡ []
nothing_behind spelled more p q short long =
    let all : front_at (spelled ++ more) ≡ Some (q, []) = rw (append-nil (spelled ++ more)) at (front_again (spelled ++ more) q [] long) in
    let same = same_Some (p, more) (q, []) (sym (front_again spelled p more short) ∙ all) in
    ap (λ (z : Parts × List ℕ). z.1) same

-- the date-time in a front ends where no text of the form goes on as the front does
place_of_end : (front rest : List ℕ) (p : Parts) (place : ℕ) → front_at front ≡ Some (p, rest) → place ≤ length front
    → (more : List ℕ) × (q : Parts) × IsDateTime (take place front ++ more) q
    → ((n : ℕ) (more : List ℕ) (q : Parts) → n ≤ length front → IsDateTime (take n front ++ more) q → n ≤ place)
    → length front - length rest ≡ place
place_of_end front rest p place e within begins longest =
    let took = front_takes front p rest e in
    let spelled = took.0 in
    let n = length spelled in
    let count : length front ≡ n + length rest = ap (length {A = ℕ}) took.1.parts ∙ length-append spelled rest in
    let whole : take n front ++ [] ≡ spelled = append-nil (take n front) ∙ ap (take n) took.1.parts ∙ take-append_seam spelled rest in
    let low : n ≤ place = longest n [] p (omega (arith, count)) (subst (λ (z : List ℕ). IsDateTime z p) (sym whole) took.1.is) in
    let behind = take (place - n) rest in
    let sum : place ≡ n + (place - n) = omega (arith, low) in
    let split : take place front ≡ spelled ++ behind = ap (take place) took.1.parts ∙ ap (λ (z : ℕ). take z (spelled ++ rest)) sum
    ∙ take-append-add spelled rest (place - n) in
    let longer : take place front ++ begins.0 ≡ spelled ++ (behind ++ begins.0) = ap (λ (z : List ℕ). z ++ begins.0) split
    ∙ append_assoc spelled behind begins.0 in
    let none = nothing_behind spelled (behind ++ begins.0) p begins.1 took.1.is (subst (λ (z : List ℕ). IsDateTime z begins.1) longer begins.2) in
    omega (arith, count, low, within, ap (length {A = ℕ}) none, length-append behind begins.0, length-take (place - n) rest)

pub front_refused : (front : List ℕ) (o : Option (Parts × List ℕ)) (refusal : TextRefusal) (place : ℕ) → front_at front ≡ o
    → front_meaning front o ≡ Err refusal → refusal ≢ Syntax → place ≤ length front
    → (more : List ℕ) × (q : Parts) × IsDateTime (take place front ++ more) q
    → ((n : ℕ) (more : List ℕ) (q : Parts) → n ≤ length front → IsDateTime (take n front ++ more) q → n ≤ place)
    → front_stamp front o ≡ ended_stamp (Err refusal) place (drop place front)
front_refused front None refusal place e h other within begins longest =
    let is : refusal ≡ Syntax = cc in absurd (other is)
front_refused front (Some read) refusal place e h other within begins longest =
    let count = length front - length read.1 in
    refused_at count (meaning read.0) refusal (drop count front) h
    ∙ ap (λ (z : ℕ). ended_stamp (Err refusal) z (drop z front)) (place_of_end front read.1 read.0 place e within begins longest)

-- where it ends there, and where not
pub refusal_at : (refusal : TextRefusal) (count : ℕ) (next : List ℕ) → ends count next ≡ true → ended_stamp (Err refusal) count next ≡ Err refusal
refusal_at refusal count next e = rw e refl

pub no_refusal_at : (refusal : TextRefusal) (count : ℕ) (next : List ℕ) → ends count next ≡ false → ended_stamp (Err refusal) count next ≡ Err Syntax
no_refusal_at refusal count next e = rw e refl
