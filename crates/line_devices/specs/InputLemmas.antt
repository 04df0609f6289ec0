-- Reading an input to its end, a part at a time.
use Rattle.std.proofs.Common.{◌≡◌, ◌≢◌, ℕ, ◌+◌, ◌≤◌, List, [], ◌++◌, length, length-append, take, Option, Some, None, refl, sym, ◌∙◌, ap, arith, append_assoc}
use Rattle.std.proofs.Common.{append-nil}
use Rattle.std.specs.Prelude.{IfSome}
use Rattle.std.specs.Io.KnownBytes.{Consumes, Keeps, IsAtEnd}

-- before anything is read
pub Consumes-nil : (a : Option (List ℕ)) → Consumes a a []
Consumes-nil None = tt
Consumes-nil (Some a) = refl

pub Consumes-append : (a b c : Option (List ℕ)) (xs ys : List ℕ) → Consumes a b xs → Consumes b c ys → Consumes a c (xs ++ ys)
Consumes-append None b c xs ys h k = tt
Consumes-append (Some a) None c xs ys h k = absurd h
Consumes-append (Some a) (Some b) None xs ys h k = absurd k
Consumes-append (Some a) (Some b) (Some c) xs ys h k = h ∙ ap (λ (z : List ℕ). xs ++ z) k ∙ sym (append_assoc xs ys c)

-- a read that keeps the rest takes nothing
pub Consumes-keep : (a b c : Option (List ℕ)) (xs : List ℕ) → Consumes a b xs → Keeps b c → Consumes a c xs
Consumes-keep None b c xs h k = tt
Consumes-keep (Some a) None c xs h k = absurd h
Consumes-keep (Some a) (Some b) None xs h k = absurd k
Consumes-keep (Some a) (Some b) (Some c) xs h k = h ∙ ap (λ (z : List ℕ). xs ++ z) (sym k)

-- at the end the bytes taken are the input
pub input-end : (a b c : Option (List ℕ)) (taken : List ℕ) (P : List ℕ → Type 0) → Consumes a b taken → Consumes b c [] → IsAtEnd c → P taken → IfSome a P
input-end None b c taken P h k e p = tt
input-end (Some xs) None c taken P h k e p = absurd h
input-end (Some xs) (Some ys) None taken P h k e p = absurd k
input-end (Some xs) (Some ys) (Some zs) taken P h k e p = rw (h, k, e, append-nil taken) p

-- at the end nothing is left
pub input-none_left : (a b c : Option (List ℕ)) (taken : List ℕ) → Consumes a b taken → Consumes b c [] → IsAtEnd c → IfSome a (λ _. c ≡ Some [])
input-none_left None b c taken h k e = tt
input-none_left (Some xs) None c taken h k e = absurd h
input-none_left (Some xs) (Some ys) None taken h k e = absurd k
input-none_left (Some xs) (Some ys) (Some zs) taken h k e = ap Some e

-- before the end, the bytes taken begin the input
pub input-begin : (a b : Option (List ℕ)) (taken : List ℕ) (P : List ℕ → Type 0) → Consumes a b taken → ((rest : List ℕ) → P (taken ++ rest)) → IfSome a P
input-begin None b taken P h p = tt
input-begin (Some xs) None taken P h p = absurd h
input-begin (Some xs) (Some ys) taken P h p = rw h (p ys)

-- after a number of reads that each took a byte, the input has at least that number of bytes
pub turns-more : (taken buffer : List ℕ) (turns count : ℕ) → turns ≤ length taken → count ≡ length (take count buffer) → count ≢ 0
    → turns + 1 ≤ length (taken ++ take count buffer)
turns-more taken buffer turns count h e some = omega (arith, h, e, some, length-append taken (take count buffer))

pub input-long : (a b : Option (List ℕ)) (taken : List ℕ) (turns most : ℕ) → Consumes a b taken → turns ≤ length taken → most ≤ turns
    → IfSome a (λ input. most ≤ length input)
input-long a b taken turns most h long end =
    input-begin a b taken (λ input. most ≤ length input) h (λ rest. omega (arith, long, end, length-append taken rest))
