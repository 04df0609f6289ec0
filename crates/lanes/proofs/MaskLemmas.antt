-- A mask whose bits are all set: every lane passes.
use Rattle.std.proofs.Common.{◌≡◌, ◌+◌, ◌^◌, Bool, true, false, List, [], ◌∷◌, length, refl, arith}
use Rattle.std.proofs.Math.Nat.{pow-suc}
use lib.Lanes.{Each1, mask_l}

-- where the mask is 2 ^ n - 1, every lane passes
pub mask_l-full : (ms : List Bool) → mask_l ms + 1 ≡ 2 ^ length ms → Each1 (λ m. m ≡ true) ms
mask_l-full [] e = tt
mask_l-full (true ∷ ms) e = (refl, mask_l-full ms (omega (arith, pow-suc 2 (length ms))))
mask_l-full (false ∷ ms) e = absurd (omega (arith, pow-suc 2 (length ms)))

-- and where every lane passes, that is the mask
pub mask_l-all : (ms : List Bool) → Each1 (λ m. m ≡ true) ms → mask_l ms + 1 ≡ 2 ^ length ms
mask_l-all [] h = refl
mask_l-all (m ∷ ms) h =
    let rest = mask_l-all ms h.1 in
    let twice = pow-suc 2 (length ms) in
    rw h.0 (omega (arith, rest, twice))
