-- Four lanes, written out: one fact of a lane gives that of all four.
use Rattle.std.proofs.Common.{◌≡◌, ℕ, ◌-◌, ◌^◌, Bool, true, false, cond, List, [], ◌∷◌, length, get_or, refl, sym}
use Rattle.std.proofs.lemmas.Simd.{pick_l_whole}
use lib.Lanes.{top}

pub four : (xs : List ℕ) → length xs ≡ 4 → xs ≡ get_or xs 0 0 ∷ get_or xs 1 0 ∷ get_or xs 2 0 ∷ get_or xs 3 0 ∷ []
four xs h = sym (pick_l_whole 0 xs 4 h)

-- a function of each lane, and of each lane of two vectors
abbrev pub lanes1 : (ℕ → ℕ) → List ℕ → List ℕ
lanes1 f xs = f (get_or xs 0 0) ∷ f (get_or xs 1 0) ∷ f (get_or xs 2 0) ∷ f (get_or xs 3 0) ∷ []

abbrev pub lanes2 : (ℕ → ℕ → ℕ) → List ℕ → List ℕ → List ℕ
lanes2 f xs ys =
    f (get_or xs 0 0) (get_or ys 0 0) ∷ f (get_or xs 1 0) (get_or ys 1 0) ∷ f (get_or xs 2 0) (get_or ys 2 0) ∷ f (get_or xs 3 0) (get_or ys 3 0) ∷ []

-- a fact of each lane, and of each lane of two vectors
abbrev pub Lanes1 : (ℕ → Type 0) → List ℕ → Type 0
Lanes1 P xs = P (get_or xs 0 0) × (P (get_or xs 1 0) × (P (get_or xs 2 0) × (P (get_or xs 3 0) × Unit {0})))

abbrev pub Lanes2 : (ℕ → ℕ → Type 0) → List ℕ → List ℕ → Type 0
Lanes2 P xs ys =
    P (get_or xs 0 0) (get_or ys 0 0) ×
    (P (get_or xs 1 0) (get_or ys 1 0) × (P (get_or xs 2 0) (get_or ys 2 0) × (P (get_or xs 3 0) (get_or ys 3 0) × Unit {0})))

pub Lanes1-all : (Q : ℕ → Type 0) (xs : List ℕ) → ((a : ℕ) → Q a) → Lanes1 Q xs
Lanes1-all Q xs e = (e (get_or xs 0 0), (e (get_or xs 1 0), (e (get_or xs 2 0), (e (get_or xs 3 0), tt))))

pub Lanes1-weaker : (P Q : ℕ → Type 0) (xs : List ℕ) → ((a : ℕ) → P a → Q a) → Lanes1 P xs → Lanes1 Q xs
Lanes1-weaker P Q xs e h = (e (get_or xs 0 0) h.0, (e (get_or xs 1 0) h.1.0, (e (get_or xs 2 0) h.1.1.0, (e (get_or xs 3 0) h.1.1.1.0, tt))))

pub Lanes2-both : (P : ℕ → Type 0) (Q : ℕ → ℕ → Type 0) (xs ys : List ℕ) → Lanes1 P xs → Lanes2 Q xs ys → Lanes2 (λ a b. P a × Q a b) xs ys
Lanes2-both P Q xs ys h k = ((h.0, k.0), ((h.1.0, k.1.0), ((h.1.1.0, k.1.1.0), ((h.1.1.1.0, k.1.1.1.0), tt))))

pub Lanes2-each : (P Q : ℕ → Type 0) (xs ys : List ℕ) → Lanes1 P xs → Lanes1 Q ys → Lanes2 (λ a b. P a × Q b) xs ys
Lanes2-each P Q xs ys h k = ((h.0, k.0), ((h.1.0, k.1.0), ((h.1.1.0, k.1.1.0), ((h.1.1.1.0, k.1.1.1.0), tt))))

pub Lanes2-second : (Q : ℕ → Type 0) (xs ys : List ℕ) → Lanes1 Q ys → Lanes2 (λ a b. Q b) xs ys
Lanes2-second Q xs ys k = (k.0, (k.1.0, (k.1.1.0, (k.1.1.1.0, tt))))

pub lanes1-same : (f g : ℕ → ℕ) (xs : List ℕ) → ((a : ℕ) → f a ≡ g a) → lanes1 f xs ≡ lanes1 g xs
lanes1-same f g xs e = cc (e (get_or xs 0 0), e (get_or xs 1 0), e (get_or xs 2 0), e (get_or xs 3 0))

pub lanes1-same_if : (P : ℕ → Type 0) (f g : ℕ → ℕ) (xs : List ℕ) → ((a : ℕ) → P a → f a ≡ g a) → Lanes1 P xs → lanes1 f xs ≡ lanes1 g xs
lanes1-same_if P f g xs e h = cc (e (get_or xs 0 0) h.0, e (get_or xs 1 0) h.1.0, e (get_or xs 2 0) h.1.1.0, e (get_or xs 3 0) h.1.1.1.0)

pub lanes2-same : (f g : ℕ → ℕ → ℕ) (xs ys : List ℕ) → ((a b : ℕ) → f a b ≡ g a b) → lanes2 f xs ys ≡ lanes2 g xs ys
lanes2-same f g xs ys e =
    cc (e (get_or xs 0 0) (get_or ys 0 0), e (get_or xs 1 0) (get_or ys 1 0), e (get_or xs 2 0) (get_or ys 2 0), e (get_or xs 3 0) (get_or ys 3 0))

pub lanes2-same_if : (P : ℕ → ℕ → Type 0) (f g : ℕ → ℕ → ℕ) (xs ys : List ℕ) → ((a b : ℕ) → P a b → f a b ≡ g a b) → Lanes2 P xs ys →
    lanes2 f xs ys ≡ lanes2 g xs ys
lanes2-same_if P f g xs ys e h =
    cc (
      e (get_or xs 0 0) (get_or ys 0 0) h.0,
      e (get_or xs 1 0) (get_or ys 1 0) h.1.0,
      e (get_or xs 2 0) (get_or ys 2 0) h.1.1.0,
      e (get_or xs 3 0) (get_or ys 3 0) h.1.1.1.0,
    )

-- what a comparison leaves in a lane says what was compared
pub top-compared : (t : Bool) → top 31 (cond t (2 ^ 32 - 1) 0) ≡ t
top-compared true = refl
top-compared false = refl
