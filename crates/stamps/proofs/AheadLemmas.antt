-- The bytes left to read, where some are read ahead.
use Rattle.std.proofs.Common.{◌≡◌, ℕ, ◌+◌, ◌≤◌, List, [], ◌++◌, length, take, drop, Option, Some, None, Result, refl, sym, ◌∙◌, ap, append_assoc, arith}
use Rattle.std.proofs.Common.{take-append-drop, take-take, drop-drop}
use Rattle.std.proofs.Math.Seq.{take-append-le}
use Rattle.std.proofs.lemmas.Grind.{common_steps}
use Rattle.std.specs.Io.KnownBytes.{Consumes, Keeps, ReadConsumes, prepend_known}

-- bytes that are read ahead are left
pub Keeps-ahead : (a b : Option (List ℕ)) (head more : List ℕ) → Consumes a b more → Keeps (prepend_known head a) (prepend_known (head ++ more) b)
Keeps-ahead None b head more h = tt
Keeps-ahead (Some xs) None head more h = absurd h
Keeps-ahead (Some xs) (Some ys) head more h = append_assoc head more ys ∙ ap (λ (z : List ℕ). head ++ z) (sym h)

-- bytes that are read again are consumed
pub Consumes-ahead : (a : Option (List ℕ)) (old new taken : List ℕ) → old ≡ taken ++ new → Consumes (prepend_known old a) (prepend_known new a) taken
Consumes-ahead None old new taken h = tt
Consumes-ahead (Some xs) old new taken h = ap (λ (z : List ℕ). z ++ xs) h ∙ append_assoc taken new xs

prepend-nil : (a : Option (List ℕ)) → prepend_known [] a ≡ a
prepend-nil None = refl
prepend-nil (Some xs) = refl

-- where none is read ahead, a read is that of the reader
pub Reads-behind : {E : Type 0} (a b : Option (List ℕ)) (old new : List ℕ) (result : Result ℕ E) (buffer : List ℕ) → old ≡ [] → new ≡ []
    → ReadConsumes a b result buffer → ReadConsumes (prepend_known old a) (prepend_known new b) result buffer
Reads-behind a b old new result buffer none none' h = rw (none, none', prepend-nil a, prepend-nil b) h

-- the first bytes of a text are those that were copied, and the rest stands behind them
pub front_taken : (from to new : List ℕ) (n : ℕ) → n ≤ length from → new ≡ take n from ++ drop n to → from ≡ take n new ++ drop n from
front_taken from to new n short is =
    let long : n ≤ length (take n from) = grind (arith, common_steps) in
    let same : take n new ≡ take n from = ap (take n) is ∙ take-append-le n (take n from) (drop n to) long ∙ take-take n n from (omega arith) in
    sym (ap (λ (z : List ℕ). z ++ drop n from) same ∙ take-append-drop n from)

-- the rest stands behind the bytes that were read again, and these
pub again_taken : (items new : List ℕ) (served n : ℕ) → drop served items ≡ take n new ++ drop n (drop served items)
    → drop served items ≡ take n new ++ drop (served + n) items
again_taken items new served n h = h ∙ ap (λ (z : List ℕ). take n new ++ z) (drop-drop n served items)

pub ruleset ahead = (Keeps-ahead, Consumes-ahead)
