-- What sixteen lanes find of a text is its form, and what they make of it its numbers.
use Rattle.std.proofs.Common.{◌≡◌, ℕ, ◌+◌, ◌-◌, ◌*◌, ◌%◌, ◌^◌, ◌<◌, ◌≤◌, ◌↔◌, Bool, true, false, cond, eqb, leb, List, [], ◌∷◌, length, get_or, refl, sym, ◌∙◌}
use Rattle.std.proofs.Common.{arith, w8, Fits}
use Rattle.std.proofs.lemmas.Bool.{leb-true, le-leb, eqb-true}
use Rattle.std.proofs.lemmas.Simd.{pick_l_whole, mask_l-lt}
use lib.Lanes.{Each1, mask_l, top}
use Rattle.lanes.specs.MinuteTexts.{IsMinuteText}
use Rattle.lanes.proofs.MaskLemmas.{mask_l-full, mask_l-all}

-- sixteen lanes, written out
abbrev pub written : List ℕ → List ℕ
written xs =
    get_or xs 0 0 ∷ get_or xs 1 0 ∷ get_or xs 2 0 ∷ get_or xs 3 0 ∷ get_or xs 4 0 ∷ get_or xs 5 0 ∷ get_or xs 6 0 ∷ get_or xs 7 0 ∷
    get_or xs 8 0 ∷ get_or xs 9 0 ∷ get_or xs 10 0 ∷ get_or xs 11 0 ∷ get_or xs 12 0 ∷ get_or xs 13 0 ∷ get_or xs 14 0 ∷ get_or xs 15 0 ∷ []

pub written-same : (xs : List ℕ) → length xs ≡ 16 → xs ≡ written xs
written-same xs h = sym (pick_l_whole 0 xs 16 h)

-- what the comparison leaves in the top bit of a lane
abbrev pub passes : ℕ → ℕ → ℕ → Bool
passes first most byte = top 7 (cond (leb ((byte + (2 ^ 8 - first)) % 2 ^ 8) most) (2 ^ 8 - 1) 0)

-- the bits of the mask
abbrev lanes : List ℕ → List Bool
lanes bytes =
    passes 48 9 (get_or bytes 0 0) ∷ passes 48 9 (get_or bytes 1 0) ∷ passes 48 9 (get_or bytes 2 0) ∷ passes 48 9 (get_or bytes 3 0) ∷
    passes 45 0 (get_or bytes 4 0) ∷ passes 48 9 (get_or bytes 5 0) ∷ passes 48 9 (get_or bytes 6 0) ∷ passes 45 0 (get_or bytes 7 0) ∷
    passes 48 9 (get_or bytes 8 0) ∷ passes 48 9 (get_or bytes 9 0) ∷ passes 84 0 (get_or bytes 10 0) ∷ passes 48 9 (get_or bytes 11 0) ∷
    passes 48 9 (get_or bytes 12 0) ∷ passes 58 0 (get_or bytes 13 0) ∷ passes 48 9 (get_or bytes 14 0) ∷ passes 48 9 (get_or bytes 15 0) ∷ []

top-byte : (t : Bool) → top 7 (cond t (2 ^ 8 - 1) 0) ≡ t
top-byte true = refl
top-byte false = refl

digit-passed : (byte : ℕ) → Fits w8 byte → passes 48 9 byte ≡ true → (48 ≤ byte) × (byte ≤ 57)
digit-passed byte h e =
    let below : byte < 256 = h.fits in
    let left = leb-true _ _ (sym (top-byte (leb ((byte + (2 ^ 8 - 48)) % 2 ^ 8) 9)) ∙ e) in
    (omega (arith, left), omega (arith, left))

passes-digit : (byte : ℕ) → (48 ≤ byte) × (byte ≤ 57) → passes 48 9 byte ≡ true
passes-digit byte h =
    let low = h.0 in
    let high = h.1 in
    top-byte (leb ((byte + (2 ^ 8 - 48)) % 2 ^ 8) 9) ∙ le-leb _ _ (omega (arith, low, high))

byte-passed : (first byte : ℕ) → 0 < first → first < 256 → Fits w8 byte → passes first 0 byte ≡ true → byte ≡ first
byte-passed first byte low high h e =
    let below : byte < 256 = h.fits in
    let left = leb-true _ _ (sym (top-byte (leb ((byte + (2 ^ 8 - first)) % 2 ^ 8) 0)) ∙ e) in
    omega (arith, left)

passes-byte : (first byte : ℕ) → 0 < first → first < 256 → byte ≡ first → passes first 0 byte ≡ true
passes-byte first byte low high e = top-byte (leb ((byte + (2 ^ 8 - first)) % 2 ^ 8) 0) ∙ le-leb _ _ (omega arith)

-- where every lane passes, the bytes have the form
form-of : (bytes : List ℕ) → Each1 (Fits w8) (written bytes) → Each1 (λ m. m ≡ true) (lanes bytes) → IsMinuteText (written bytes)
form-of bytes fits all = record {
  century = record {
    tens = digit-passed (get_or bytes 0 0) fits.0 all.0;
    ones = digit-passed (get_or bytes 1 0) fits.1.0 all.1.0;
  };
  year = record {
    tens = digit-passed (get_or bytes 2 0) fits.1.1.0 all.1.1.0;
    ones = digit-passed (get_or bytes 3 0) fits.1.1.1.0 all.1.1.1.0;
  };
  after_year = byte-passed 45 (get_or bytes 4 0) (omega arith) (omega arith) fits.1.1.1.1.0 all.1.1.1.1.0;
  month = record {
    tens = digit-passed (get_or bytes 5 0) fits.1.1.1.1.1.0 all.1.1.1.1.1.0;
    ones = digit-passed (get_or bytes 6 0) fits.1.1.1.1.1.1.0 all.1.1.1.1.1.1.0;
  };
  after_month = byte-passed 45 (get_or bytes 7 0) (omega arith) (omega arith) fits.1.1.1.1.1.1.1.0 all.1.1.1.1.1.1.1.0;
  day = record {
    tens = digit-passed (get_or bytes 8 0) fits.1.1.1.1.1.1.1.1.0 all.1.1.1.1.1.1.1.1.0;
    ones = digit-passed (get_or bytes 9 0) fits.1.1.1.1.1.1.1.1.1.0 all.1.1.1.1.1.1.1.1.1.0;
  };
  after_day = byte-passed 84 (get_or bytes 10 0) (omega arith) (omega arith) fits.1.1.1.1.1.1.1.1.1.1.0 all.1.1.1.1.1.1.1.1.1.1.0;
  hour = record {
    tens = digit-passed (get_or bytes 11 0) fits.1.1.1.1.1.1.1.1.1.1.1.0 all.1.1.1.1.1.1.1.1.1.1.1.0;
    ones = digit-passed (get_or bytes 12 0) fits.1.1.1.1.1.1.1.1.1.1.1.1.0 all.1.1.1.1.1.1.1.1.1.1.1.1.0;
  };
  after_hour = byte-passed 58 (get_or bytes 13 0) (omega arith) (omega arith) fits.1.1.1.1.1.1.1.1.1.1.1.1.1.0 all.1.1.1.1.1.1.1.1.1.1.1.1.1.0;
  minute = record {
    tens = digit-passed (get_or bytes 14 0) fits.1.1.1.1.1.1.1.1.1.1.1.1.1.1.0 all.1.1.1.1.1.1.1.1.1.1.1.1.1.1.0;
    ones = digit-passed (get_or bytes 15 0) fits.1.1.1.1.1.1.1.1.1.1.1.1.1.1.1.0 all.1.1.1.1.1.1.1.1.1.1.1.1.1.1.1.0;
  };
}

-- and where they have it, every lane passes
all-of : (bytes : List ℕ) → IsMinuteText (written bytes) → Each1 (λ m. m ≡ true) (lanes bytes)
all-of bytes form = (
  passes-digit (get_or bytes 0 0) form.century.tens,
  (
    passes-digit (get_or bytes 1 0) form.century.ones,
    (
      passes-digit (get_or bytes 2 0) form.year.tens,
      (
        passes-digit (get_or bytes 3 0) form.year.ones,
        (
          passes-byte 45 (get_or bytes 4 0) (omega arith) (omega arith) form.after_year,
          (
            passes-digit (get_or bytes 5 0) form.month.tens,
            (
              passes-digit (get_or bytes 6 0) form.month.ones,
              (
                passes-byte 45 (get_or bytes 7 0) (omega arith) (omega arith) form.after_month,
                (
                  passes-digit (get_or bytes 8 0) form.day.tens,
                  (
                    passes-digit (get_or bytes 9 0) form.day.ones,
                    (
                      passes-byte 84 (get_or bytes 10 0) (omega arith) (omega arith) form.after_day,
                      (
                        passes-digit (get_or bytes 11 0) form.hour.tens,
                        (
                          passes-digit (get_or bytes 12 0) form.hour.ones,
                          (
                            passes-byte 58 (get_or bytes 13 0) (omega arith) (omega arith) form.after_hour,
                            (
                              passes-digit (get_or bytes 14 0) form.minute.tens,
                              (
                                passes-digit (get_or bytes 15 0) form.minute.ones,
                                tt,
                              ),
                            ),
                          ),
                        ),
                      ),
                    ),
                  ),
                ),
              ),
            ),
          ),
        ),
      ),
    ),
  ),
)

mask-bound : (ms : List Bool) → length ms ≡ 16 → mask_l ms < 65_536
mask-bound ms h = let below = mask_l-lt ms in rw h at below

mask-whole : (mask : ℕ) → mask < 65_536 → mask % 2 ^ 64 ≡ 65_535 → mask + 1 ≡ 65_536
mask-whole mask h e = omega arith

pub form-lanes : (bytes : List ℕ) → Each1 (Fits w8) (written bytes) → (eqb (mask_l (lanes bytes) % 2 ^ 64) 65_535 ≡ true) ↔ IsMinuteText (written bytes)
form-lanes bytes fits = (
  λ e. form-of bytes fits (mask_l-full (lanes bytes) (mask-whole (mask_l (lanes bytes)) (mask-bound (lanes bytes) refl) (eqb-true _ _ e))),
  λ form. (
      let mask : mask_l (lanes bytes) ≡ 65_535 = omega (arith, mask_l-all (lanes bytes) (all-of bytes form)) in
      rw mask refl
      ),
)

-- the number of two digits, modulo 256
pub pair-lane : (tens ones : ℕ) → (48 ≤ tens) × (tens ≤ 57) → (48 ≤ ones) × (ones ≤ 57) →
    ((tens + (2 ^ 8 - 48)) % 2 ^ 8 * 10 % 2 ^ 8 + (ones + (2 ^ 8 - 48)) % 2 ^ 8) % 2 ^ 8 ≡ (tens - 48) * 10 + (ones - 48)
pair-lane tens ones h k =
    let tens_low = h.0 in
    let tens_high = h.1 in
    let ones_low = k.0 in
    let ones_high = k.1 in
    omega (arith, tens_low, tens_high, ones_low, ones_high)

pub eight-same : {a b c d e f g h a' b' c' d' e' f' g' h' : ℕ} → a ≡ a' → b ≡ b' → c ≡ c' → d ≡ d' → e ≡ e' → f ≡ f' → g ≡ g' → h ≡ h' →
    a ∷ b ∷ c ∷ d ∷ e ∷ f ∷ g ∷ h ∷ [] ≡ a' ∷ b' ∷ c' ∷ d' ∷ e' ∷ f' ∷ g' ∷ h' ∷ []
eight-same a b c d e f g h = cc
