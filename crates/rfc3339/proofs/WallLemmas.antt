-- The first 19 bytes of a text, tested together, as the steps read them one by one.
use Rattle.std.proofs.Common.{◌≡◌, ℕ, ◌+◌, ◌-◌, ◌*◌, ◌≤◌, ◌&&◌, Bool, true, nat_eq, false, List, ◌∷◌, length, take, drop, get_or, Some, refl, sym, ap}
use Rattle.std.proofs.Common.{◌∙◌, arith}
use Rattle.std.proofs.lemmas.Bool.Decides.{nat_tests}
use Rattle.std.proofs.lemmas.List.{drop_more}
use Rattle.std.specs.Char.{is_ascii_digit}
use Rattle.rfc3339.specs.Form.{is_separator}
use Rattle.rfc3339.specs.Reading.{digit_at, two_digits_at, mark_at, part_at, year_at, separator_at, parts_read, front_at}
use Rattle.rfc3339.specs.Walls.{fraction_on}
use Rattle.rfc3339.specs.declared.parts.Parts.{Parts}
use Rattle.rfc3339.proofs.ByteLemmas.{both, take-rest}

two_read : (a b : ℕ) (rest : List ℕ) → (is_ascii_digit a && is_ascii_digit b) ≡ true → two_digits_at (a ∷ b ∷ rest) ≡ Some ((a - 48) * 10 + (b - 48), rest)
unfolding two_digits_at digit_at
two_read a b rest e =
    let digits = both (is_ascii_digit a) (is_ascii_digit b) e in rw (digits.0, digits.1) refl

part_read : (mark m a b : ℕ) (rest : List ℕ) → nat_eq m mark ≡ true → (is_ascii_digit a && is_ascii_digit b) ≡ true
    → part_at mark (m ∷ a ∷ b ∷ rest) ≡ Some ((a - 48) * 10 + (b - 48), rest)
unfolding part_at mark_at
part_read mark m a b rest e d = rw e (two_read a b rest d)

year_read : (a b c d : ℕ) (rest : List ℕ) → (is_ascii_digit a && is_ascii_digit b) ≡ true → (is_ascii_digit c && is_ascii_digit d) ≡ true
    → year_at (a ∷ b ∷ c ∷ d ∷ rest) ≡ Some (((a - 48) * 10 + (b - 48)) * 100 + ((c - 48) * 10 + (d - 48)), rest)
unfolding year_at
year_read a b c d rest e f = rw (two_read a b (c ∷ d ∷ rest) e, two_read c d rest f) refl

separator_read : (s : ℕ) (rest : List ℕ) → is_separator s ≡ true → separator_at (s ∷ rest) ≡ Some rest
unfolding separator_at
separator_read s rest e = rw e refl

-- the numbers of 19 bytes, before a fraction and an offset are read
abbrev pub wall_numbers : (y3 y2 y1 y0 my m1 m0 mm d1 d0 s h1 h0 mh n1 n0 mn s1 s0 : ℕ) → Parts
wall_numbers y3 y2 y1 y0 my m1 m0 mm d1 d0 s h1 h0 mh n1 n0 mn s1 s0 =
    parts_read (((y3 - 48) * 10 + (y2 - 48)) * 100 + ((y1 - 48) * 10 + (y0 - 48))) ((m1 - 48) * 10 + (m0 - 48)) ((d1 - 48) * 10 + (d0 - 48))
    ((h1 - 48) * 10 + (h0 - 48)) ((n1 - 48) * 10 + (n0 - 48)) ((s1 - 48) * 10 + (s0 - 48)) 0 (false, 0, 0)

-- all tests together
abbrev pub wall_tests : (y3 y2 y1 y0 my m1 m0 mm d1 d0 s h1 h0 mh n1 n0 mn s1 s0 : ℕ) → Bool
wall_tests y3 y2 y1 y0 my m1 m0 mm d1 d0 s h1 h0 mh n1 n0 mn s1 s0 =
    (((((((((((is_ascii_digit y3 && is_ascii_digit y2) && (is_ascii_digit y1 && is_ascii_digit y0)) && nat_eq my 45) && (is_ascii_digit m1 &&
    is_ascii_digit m0)) && nat_eq mm 45) && (is_ascii_digit d1 && is_ascii_digit d0)) && is_separator s) && (is_ascii_digit h1 &&
    is_ascii_digit h0)) && nat_eq mh 58) && (is_ascii_digit n1 && is_ascii_digit n0)) && nat_eq mn 58) && (is_ascii_digit s1 && is_ascii_digit s0)

-- the digits among them
pub wall_digits : (y3 y2 y1 y0 my m1 m0 mm d1 d0 s h1 h0 mh n1 n0 mn s1 s0 : ℕ) → wall_tests y3 y2 y1 y0 my m1 m0 mm d1 d0 s h1 h0 mh n1 n0 mn s1 s0 ≡ true
    → ((is_ascii_digit y3 && is_ascii_digit y2) ≡ true) × ((is_ascii_digit y1 && is_ascii_digit y0) ≡ true) × ((is_ascii_digit m1 &&
    is_ascii_digit m0) ≡ true) × ((is_ascii_digit d1 && is_ascii_digit d0) ≡ true) × ((is_ascii_digit h1 && is_ascii_digit h0) ≡ true) ×
    ((is_ascii_digit n1 && is_ascii_digit n0) ≡ true) × ((is_ascii_digit s1 && is_ascii_digit s0) ≡ true)
wall_digits y3 y2 y1 y0 my m1 m0 mm d1 d0 s h1 h0 mh n1 n0 mn s1 s0 e =
    let t10 = both _ (is_ascii_digit s1 && is_ascii_digit s0) e in
    let t9 = both _ (nat_eq mn 58) t10.0 in
    let t8 = both _ (is_ascii_digit n1 && is_ascii_digit n0) t9.0 in
    let t7 = both _ (nat_eq mh 58) t8.0 in
    let t6 = both _ (is_ascii_digit h1 && is_ascii_digit h0) t7.0 in
    let t5 = both _ (is_separator s) t6.0 in
    let t4 = both _ (is_ascii_digit d1 && is_ascii_digit d0) t5.0 in
    let t3 = both _ (nat_eq mm 45) t4.0 in
    let t2 = both _ (is_ascii_digit m1 && is_ascii_digit m0) t3.0 in
    let t1 = both _ (nat_eq my 45) t2.0 in
    let t0 = both (is_ascii_digit y3 && is_ascii_digit y2) (is_ascii_digit y1 && is_ascii_digit y0) t1.0 in
    (t0.0, t0.1, t2.1, t4.1, t6.1, t8.1, t10.1)

-- where all hold, 19 bytes are read as they are one by one
wall_read : (y3 y2 y1 y0 my m1 m0 mm d1 d0 s h1 h0 mh n1 n0 mn s1 s0 : ℕ) (rest : List ℕ) → wall_tests y3 y2 y1 y0 my m1 m0 mm d1 d0 s h1 h0 mh
    n1 n0 mn s1 s0 ≡ true
    → front_at (y3 ∷ y2 ∷ y1 ∷ y0 ∷ my ∷ m1 ∷ m0 ∷ mm ∷ d1 ∷ d0 ∷ s ∷ h1 ∷ h0 ∷ mh ∷ n1 ∷ n0 ∷ mn ∷ s1 ∷ s0 ∷ rest) ≡ fraction_on (wall_numbers
    y3 y2 y1 y0 my m1 m0 mm d1 d0 s h1 h0 mh n1 n0 mn s1 s0) rest
unfolding front_at
wall_read y3 y2 y1 y0 my m1 m0 mm d1 d0 s h1 h0 mh n1 n0 mn s1 s0 rest e =
    let t10 = both _ (is_ascii_digit s1 && is_ascii_digit s0) e in
    let t9 = both _ (nat_eq mn 58) t10.0 in
    let t8 = both _ (is_ascii_digit n1 && is_ascii_digit n0) t9.0 in
    let t7 = both _ (nat_eq mh 58) t8.0 in
    let t6 = both _ (is_ascii_digit h1 && is_ascii_digit h0) t7.0 in
    let t5 = both _ (is_separator s) t6.0 in
    let t4 = both _ (is_ascii_digit d1 && is_ascii_digit d0) t5.0 in
    let t3 = both _ (nat_eq mm 45) t4.0 in
    let t2 = both _ (is_ascii_digit m1 && is_ascii_digit m0) t3.0 in
    let t1 = both _ (nat_eq my 45) t2.0 in
    let t0 = both (is_ascii_digit y3 && is_ascii_digit y2) (is_ascii_digit y1 && is_ascii_digit y0) t1.0 in
    rw (year_read y3 y2 y1 y0 _ t0.0 t0.1, part_read 45 my m1 m0 _ t1.1 t2.1, part_read 45 mm d1 d0 _ t3.1 t4.1, separator_read s _ t5.1)
    (rw (two_read h1 h0 _ t6.1, part_read 58 mh n1 n0 _ t7.1 t8.1, part_read 58 mn s1 s0 _ t9.1 t10.1) refl)

-- a text of 19 bytes or more, cut up
cut : (text : List ℕ) → 19 ≤ length text → text ≡ get_or text 0 0 ∷ get_or text 1 0 ∷ get_or text 2 0 ∷ get_or text 3 0 ∷ get_or text 4 0 ∷
    get_or text 5 0 ∷ get_or text 6 0 ∷ get_or text 7 0 ∷ get_or text 8 0 ∷ get_or text 9 0 ∷ get_or text 10 0 ∷ get_or text 11 0 ∷ get_or text
    12 0 ∷ get_or text 13 0 ∷ get_or text 14 0 ∷ get_or text 15 0 ∷ get_or text 16 0 ∷ get_or text 17 0 ∷ get_or text 18 0 ∷ drop 19 text
cut text low =
    drop_more text 0 0 (omega arith) ∙ ap (λ (z : List ℕ). get_or text 0 0 ∷ z) (
    drop_more text 1 0 (omega arith) ∙ ap (λ (z : List ℕ). get_or text 1 0 ∷ z) (
    drop_more text 2 0 (omega arith) ∙ ap (λ (z : List ℕ). get_or text 2 0 ∷ z) (
    drop_more text 3 0 (omega arith) ∙ ap (λ (z : List ℕ). get_or text 3 0 ∷ z) (
    drop_more text 4 0 (omega arith) ∙ ap (λ (z : List ℕ). get_or text 4 0 ∷ z) (
    drop_more text 5 0 (omega arith) ∙ ap (λ (z : List ℕ). get_or text 5 0 ∷ z) (
    drop_more text 6 0 (omega arith) ∙ ap (λ (z : List ℕ). get_or text 6 0 ∷ z) (
    drop_more text 7 0 (omega arith) ∙ ap (λ (z : List ℕ). get_or text 7 0 ∷ z) (
    drop_more text 8 0 (omega arith) ∙ ap (λ (z : List ℕ). get_or text 8 0 ∷ z) (
    drop_more text 9 0 (omega arith) ∙ ap (λ (z : List ℕ). get_or text 9 0 ∷ z) (
    drop_more text 10 0 (omega arith) ∙ ap (λ (z : List ℕ). get_or text 10 0 ∷ z) (
    drop_more text 11 0 (omega arith) ∙ ap (λ (z : List ℕ). get_or text 11 0 ∷ z) (
    drop_more text 12 0 (omega arith) ∙ ap (λ (z : List ℕ). get_or text 12 0 ∷ z) (
    drop_more text 13 0 (omega arith) ∙ ap (λ (z : List ℕ). get_or text 13 0 ∷ z) (
    drop_more text 14 0 (omega arith) ∙ ap (λ (z : List ℕ). get_or text 14 0 ∷ z) (
    drop_more text 15 0 (omega arith) ∙ ap (λ (z : List ℕ). get_or text 15 0 ∷ z) (
    drop_more text 16 0 (omega arith) ∙ ap (λ (z : List ℕ). get_or text 16 0 ∷ z) (
    drop_more text 17 0 (omega arith) ∙ ap (λ (z : List ℕ). get_or text 17 0 ∷ z) (
    drop_more text 18 0 (omega arith)))))))))))))))))))

pub wall_at-digits : (text : List ℕ) → 19 ≤ length text → wall_tests (get_or text 0 0) (get_or text 1 0) (get_or text 2 0) (get_or text 3 0)
    (get_or text 4 0) (get_or text 5 0) (get_or text 6 0) (get_or text 7 0) (get_or text 8 0) (get_or text 9 0) (get_or text 10 0) (get_or text
    11 0) (get_or text 12 0) (get_or text 13 0) (get_or text 14 0) (get_or text 15 0) (get_or text 16 0) (get_or text 17 0) (get_or text 18 0) ≡ true
    → fraction_on (wall_numbers (get_or text 0 0) (get_or text 1 0) (get_or text 2 0) (get_or text 3 0) (get_or text 4 0) (get_or text 5 0)
    (get_or text 6 0) (get_or text 7 0) (get_or text 8 0) (get_or text 9 0) (get_or text 10 0) (get_or text 11 0) (get_or text 12 0) (get_or
    text 13 0) (get_or text 14 0) (get_or text 15 0) (get_or text 16 0) (get_or text 17 0) (get_or text 18 0)) (take (length text - 19) (drop
    19 text)) ≡ front_at text
wall_at-digits text low e =
    rw (take-rest 19 text) (sym (ap front_at (cut text low) ∙ wall_read (get_or text 0 0) (get_or text 1 0) (get_or text 2 0) (get_or text 3 0)
    (get_or text 4 0) (get_or text 5 0) (get_or text 6 0) (get_or text 7 0) (get_or text 8 0) (get_or text 9 0) (get_or text 10 0) (get_or
    text 11 0) (get_or text 12 0) (get_or text 13 0) (get_or text 14 0) (get_or text 15 0) (get_or text 16 0) (get_or text 17 0) (get_or text
    18 0) (drop 19 text) e))

pub wall_year : (y3 y2 y1 y0 : ℕ) → (is_ascii_digit y3 && is_ascii_digit y2) ≡ true → (is_ascii_digit y1 && is_ascii_digit y0) ≡ true
    → ((y3 - 48) * 10 + (y2 - 48)) * 100 + ((y1 - 48) * 10 + (y0 - 48)) ≤ 9_999
wall_year y3 y2 y1 y0 e f =
    let a = both (is_ascii_digit y3) (is_ascii_digit y2) e in
    let b = both (is_ascii_digit y1) (is_ascii_digit y0) f in
    grind (arith, nat_tests, a.0, a.1, b.0, b.1)
