-- Of the elements of a list with its least key, a search for it takes the first; of those with its greatest key, the last.
use Rattle.std.proofs.Common.{◌≡◌, ◌≤ℤ◌, Bool, true, false, cond, arith, ℤ, int_cmp, List, [], ◌∷◌, ◌++◌, Option, Some, IfSome, MatchOption, refl}
use Rattle.std.proofs.Common.{sym, ap, subst, ◌∙◌, reverse, length, Bor, Iter}
use Rattle.std.proofs.lemmas.Grind.{reverse_onto}
use Rattle.std.proofs.lemmas.Int.{ints}
use Rattle.std.proofs.lemmas.Iterator.{YieldsList}
use Rattle.std.proofs.lemmas.Iterator.Consumers.{YieldsList-from_shown}
use Rattle.std.proofs.lemmas.List.{append_assoc}
use Rattle.std.proofs.lemmas.List.Folds.{find-append}
use Rattle.std.specs.List.{find, fold, reduce}
use Rattle.std.specs.Option.{option_or}
use Rattle.std.specs.Ordering.{int_eq, max_by_ordering, min_by_ordering}
use Rattle.std.specs.declared.cmp.Ordering.{Ordering}
use Rattle.std.specs.declared.cmp.Ordering.TheVariants.{Less, Equal, Greater}
use Rattle.stamp_times.specs.Logs.{first_by_key, last_by_key}

-- ---- comparisons of keys

less-le : (x y : ℤ) → int_cmp x y ≡ Less → x ≤ℤ y
less-le x y e = grind (arith, ints)

equal-le : (x y : ℤ) → int_cmp x y ≡ Equal → x ≤ℤ y
equal-le x y e = grind (arith, ints)

greater-le : (x y : ℤ) → int_cmp x y ≡ Greater → y ≤ℤ x
greater-le x y e = grind (arith, ints)

same_key : (x : ℤ) → int_eq x x ≡ true
same_key x = grind (arith, ints)

-- a key above one that is above another is not the other
not_least : (x y r : ℤ) → r ≤ℤ x → int_cmp x y ≡ Greater → r ≤ℤ y → int_eq x r ≡ false
not_least x y r low above below = grind (arith, ints)

not_greatest : (x y r : ℤ) → x ≤ℤ r → int_cmp x y ≡ Greater → int_eq y r ≡ false
not_greatest x y r high above = grind (arith, ints)

not_after : (x y r : ℤ) → r ≤ℤ x → x ≤ℤ y → int_eq x r ≡ false → int_eq y r ≡ false
not_after x y r low up other = grind (arith, ints)

-- ---- the first of the least

abbrev pub least_of : {X : Type 0} → (X → ℤ) → X → X → X
least_of key best x = min_by_ordering (int_cmp (key best) (key x)) best x

abbrev IsFirst : {X : Type 0} → (X → ℤ) → List X → X → Type 0
IsFirst key xs r = first_by_key key xs r ≡ Some r

past_second : {X : Type 0} (key : X → ℤ) (best x : X) (xs : List X) (r : X) → key r ≤ℤ key best → key best ≤ℤ key x
    → IsFirst key (best ∷ xs) r → IsFirst key (best ∷ x ∷ xs) r
past_second key best x xs r low up h = step (int_eq (key best) (key r)) refl h where
  step : (b : Bool) → int_eq (key best) (key r) ≡ b → cond b (Some best) (first_by_key key xs r) ≡ Some r
      → cond b (Some best) (first_by_key key (x ∷ xs) r) ≡ Some r
  step true t first = first
  step false t first = rw (not_after (key best) (key x) (key r) low up t) first

-- what is said of the least of a list that begins with this element
abbrev FromLeast : {X : Type 0} → (X → ℤ) → X → List X → X → Type 0
FromLeast key best xs r = (key r ≤ℤ key best) × IsFirst key (best ∷ xs) r

first_least : {X : Type 0} (key : X → ℤ) (best : X) (xs : List X) (r : X) → r ≡ fold (least_of key) best xs → FromLeast key best xs r
first_least key best [] r e =
    let low : key r ≤ℤ key best = (let same : key r ≡ key best = ap key e in omega (arith, ints, same)) in
    (low, rw e (rw (same_key (key best)) refl))
first_least {X} key best (x ∷ xs) r e =
    step (int_cmp (key best) (key x)) refl e (λ f. first_least key best xs r f) (λ f. first_least key x xs r f) where
      keep : key best ≤ℤ key x → FromLeast key best xs r → FromLeast key best (x ∷ xs) r
      keep up h = (h.0, past_second key best x xs r h.0 up h.1)

      step : (o : Ordering) → int_cmp (key best) (key x) ≡ o → r ≡ fold (least_of key) (min_by_ordering o best x) xs
          → (r ≡ fold (least_of key) best xs → FromLeast key best xs r) → (r ≡ fold (least_of key) x xs → FromLeast key x xs r)
          → FromLeast key best (x ∷ xs) r
      step Less t f of_best of_x = keep (less-le (key best) (key x) t) (of_best f)
      step Equal t f of_best of_x = keep (equal-le (key best) (key x) t) (of_best f)
      step Greater t f of_best of_x =
          let h = of_x f in
          let below = h.0 in
          let down = greater-le (key best) (key x) t in
          let low : key r ≤ℤ key best = omega (arith, ints, below, down) in
          (low, rw (not_least (key best) (key x) (key r) low t h.0) h.1)

-- the least of a list, the first where several are equal, is the first of its key
pub first_by_key-least : {X : Type 0} (key : X → ℤ) (xs : List X) (r : Option X) → r ≡ reduce (least_of key) xs
    → IfSome r (λ least. first_by_key key xs least ≡ Some least)
first_by_key-least key [] r e = rw e tt
first_by_key-least key (x ∷ xs) r e = rw e (first_least key x xs (fold (least_of key) x xs) refl).1

-- ---- the last of the greatest

abbrev pub greatest_of : {X : Type 0} → (X → ℤ) → X → X → X
greatest_of key best x = max_by_ordering (int_cmp (key best) (key x)) best x

abbrev IsLast : {X : Type 0} → (X → ℤ) → List X → X → Type 0
IsLast key xs r = last_by_key key xs r ≡ Some r

-- a search passes what does not pass its test
find-past : {X : Type 0} (p : X → Bool) (xs : List X) (x : X) (ys : List X) → p x ≡ false → find p (xs ++ x ∷ ys) ≡ find p (xs ++ ys)
find-past p [] x ys h = rw h refl
find-past p (y ∷ xs) x ys h = ap (λ z. cond (p y) (Some y) z) (find-past p xs x ys h)

find-front : {X : Type 0} (p : X → Bool) (xs ys : List X) (r : X) → find p xs ≡ Some r → find p (xs ++ ys) ≡ Some r
find-front p xs ys r h = find-append p xs ys ∙ ap (λ z. option_or z (find p ys)) h

reverse-cons : {X : Type 0} (x : X) (xs : List X) → reverse (x ∷ xs) ≡ reverse xs ++ x ∷ []
reverse-cons x xs = reverse_onto xs x []

-- what is said of the greatest of a list that begins with this element
abbrev FromGreatest : {X : Type 0} → (X → ℤ) → X → List X → X → Type 0
FromGreatest key best xs r = (key best ≤ℤ key r) × IsLast key (best ∷ xs) r

last_greatest : {X : Type 0} (key : X → ℤ) (best : X) (xs : List X) (r : X) → r ≡ fold (greatest_of key) best xs → FromGreatest key best xs r
last_greatest key best [] r e =
    let high : key best ≤ℤ key r = (let same : key r ≡ key best = ap key e in omega (arith, ints, same)) in
    (high, rw e (rw (same_key (key best)) refl))
last_greatest {X} key best (x ∷ xs) r e =
    step (int_cmp (key best) (key x)) refl e (λ f. last_greatest key best xs r f) (λ f. last_greatest key x xs r f) where
      has : X → Bool
      has y = int_eq (key y) (key r)

      replace : key best ≤ℤ key x → FromGreatest key x xs r → FromGreatest key best (x ∷ xs) r
      replace up h =
          let above = h.0 in
          let high : key best ≤ℤ key r = omega (arith, ints, above, up) in
          (high, ap (find has) (reverse-cons best (x ∷ xs)) ∙ find-front has (reverse (x ∷ xs)) (best ∷ []) r h.1)

      step : (o : Ordering) → int_cmp (key best) (key x) ≡ o → r ≡ fold (greatest_of key) (max_by_ordering o best x) xs
          → (r ≡ fold (greatest_of key) best xs → FromGreatest key best xs r) → (r ≡ fold (greatest_of key) x xs → FromGreatest key x xs r)
          → FromGreatest key best (x ∷ xs) r
      step Less t f of_best of_x = replace (less-le (key best) (key x) t) (of_x f)
      step Equal t f of_best of_x = replace (equal-le (key best) (key x) t) (of_x f)
      step Greater t f of_best of_x =
          let h = of_best f in
          let other : has x ≡ false = not_greatest (key best) (key x) (key r) h.0 t in
          let at : find has (reverse xs ++ best ∷ []) ≡ Some r = ap (find has) (sym (reverse-cons best xs)) ∙ h.1 in
          let all : reverse (best ∷ x ∷ xs) ≡ reverse xs ++ x ∷ best ∷ [] =
          reverse-cons best (x ∷ xs) ∙ ap (λ z. z ++ best ∷ []) (reverse-cons x xs) ∙ append_assoc (reverse xs) (x ∷ []) (best ∷ []) in
          (h.0, ap (find has) all ∙ find-past has (reverse xs) x (best ∷ []) other ∙ at)

-- the greatest of a list, the last where several are equal, is the last of its key
pub last_by_key-greatest : {X : Type 0} (key : X → ℤ) (xs : List X) (r : Option X) → r ≡ reduce (greatest_of key) xs
    → IfSome r (λ greatest. last_by_key key xs greatest ≡ Some greatest)
last_by_key-greatest key [] r e = rw e tt
last_by_key-greatest key (x ∷ xs) r e = rw e (last_greatest key x xs (fold (greatest_of key) x xs) refl).1

-- ---- the items of a slice

abbrev GivesItem : {X : Type 0} → Iter X → Option (Bor X) → Iter X → Type 0
GivesItem before item after =
    MatchOption item ((length before.rest.now ≡ 0) × (after ≡ before)) (λ x. before.rest.now ≡ x.now ∷ after.rest.now)

-- an iterator over a slice gives its items
pub items_of_slice : {X : Type 0} (it : Iter X) (xs : List X) → it.rest.now ≡ xs → YieldsList GivesItem (λ x. x.now) it xs
items_of_slice it xs e =
    subst (YieldsList GivesItem (λ x. x.now) it) e
    (YieldsList-from_shown GivesItem (λ x. x.now) (λ s. s.rest.now) (λ s t end. end.0) (λ s x t next. next) it)
