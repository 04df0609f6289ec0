-- Sequences of transitions, which may have an end: S k is the second of the one at k, O k the offset before it.
use Rattle.std.proofs.Common.{◌≡◌, ◌⊎◌, inl, inr, ℕ, zero, suc, ◌+◌, ◌-◌, ◌≤◌, ◌<◌, true, false, ℤ, ◌+ℤ◌, ◌-ℤ◌, ◌≤ℤ◌, ◌<ℤ◌, refl, sym, ap, ◌∙◌, arith}
use Rattle.std.proofs.lemmas.Bool.{cases_order}
use Rattle.std.proofs.lemmas.Bool.Decides.{leb_tells, nat_tests}
use Rattle.std.proofs.lemmas.Int.{by_lt_z, clamps}
use Rattle.std.specs.Int.{int_max}
use Rattle.calendar_values.specs.SignedArith.{signed_arith}
use Rattle.zones.specs.declared.local_instants.LocalInstants.TheVariants.{Single, Gap, Fold}
use Rattle.std.specs.Prelude.{nat_lt}
use Rattle.zones.specs.declared.local_instants.LocalInstants.{LocalInstants}
use Rattle.zones.specs.Clocks.{start, end, Runs, IsPlace, ShowsAt, ShowsLocal, IsInstants, IsBy, IsFirstAt, join}
use Rattle.zones.specs.Choices.{first_of}

-- a key that does not fall from place to place does not fall between two places
pub rising : (Has : ℕ → Type 0) (key : ℕ → ℤ) → ((k : ℕ) → Has (k + 1) → Has k) → ((k : ℕ) → Has (k + 1) → key k ≤ℤ key (k + 1)) → (i j : ℕ) → i ≤ j → Has
    j → key i ≤ℤ key j
rising Has key down step i zero h l =
    let same : i ≡ zero = omega arith in
    rw same (omega (arith, signed_arith))
rising Has key down step i (suc j) h l = elim (leb_tells i j) [
  | inl below ↦
      let same : suc j ≡ j + 1 = omega arith in
      let l2 : Has (j + 1) = rw same at l in
      let first = rising Has key down step i j below.1 (down j l2) in
      let next = step j l2 in
      let last = ap key same in
      omega (arith, signed_arith)
  | inr above ↦
      let same : i ≡ suc j = omega arith in
      rw same (omega (arith, signed_arith))
]

pub has_down : (Has : ℕ → Type 0) → ((k : ℕ) → Has (k + 1) → Has k) → (i j : ℕ) → i ≤ j → Has j → Has i
has_down Has down i zero h l =
    let same : i ≡ zero = omega arith in
    rw same l
has_down Has down i (suc j) h l = elim (leb_tells i j) [
  | inl below ↦
      let same : suc j ≡ j + 1 = omega arith in
      let l2 : Has (j + 1) = rw same at l in
      has_down Has down i j below.1 (down j l2)
  | inr above ↦
      let same : i ≡ suc j = omega arith in
      rw same l
]

-- a gap or a fold lies around the clocks of both offsets
pub around : (S O : ℕ → ℤ) (k : ℕ) → (start S O k ≤ℤ (S k +ℤ O k)) × (start S O k ≤ℤ (S k +ℤ O (k + 1))) × ((S k +ℤ O k) ≤ℤ end S O k) ×
    ((S k +ℤ O (k + 1)) ≤ℤ end S O k) × (start S O k ≤ℤ end S O k)
around S O k = (
  omega (arith, signed_arith, clamps),
  omega (arith, signed_arith, clamps),
  omega (arith, signed_arith, clamps),
  omega
      (arith, signed_arith, clamps),
  omega (arith, signed_arith, clamps),
)

pub seconds_rise : {Has : ℕ → Type 0} {S O : ℕ → ℤ} → Runs Has S O → (i j : ℕ) → i ≤ j → Has j → S i ≤ℤ S j
seconds_rise {Has} {S} {O} r i j h l = rising Has S r.down (λ k m. let e = r.rises k m in omega (arith, signed_arith)) i j h l

pub starts_rise : {Has : ℕ → Type 0} {S O : ℕ → ℤ} → Runs Has S O → (i j : ℕ) → i ≤ j → Has j → start S O i ≤ℤ start S O j
starts_rise {Has} {S} {O} r i j h l =
    rising Has (start S O) r.down (λ k m. let e = r.apart k m in let a = (around S O k).4 in omega (arith, signed_arith)) i j h l

-- a gap or a fold has ended before a later one starts
pub ends_before : {Has : ℕ → Type 0} {S O : ℕ → ℤ} → Runs Has S O → (i j : ℕ) → i < j → Has j → end S O i ≤ℤ start S O j
ends_before {Has} {S} {O} r i j h l =
    let has : Has (i + 1) = has_down Has r.down (i + 1) j (omega arith) l in
    let one = r.apart i has in
    let two = starts_rise r (i + 1) j (omega arith) l in
    omega (arith, signed_arith)

-- where m gaps and folds have started, it is after the last of those transitions or before it
pub near : {Has : ℕ → Type 0} {S O : ℕ → ℤ} → Runs Has S O → (local t : ℤ) (m k : ℕ) → IsPlace Has (start S O) local m → ShowsAt Has S O local t k →
    (k ≡ m) ⊎ (k + 1 ≡ m)
near {Has} {S} {O} r local t m k started shows = elim (cases_order k m) [
  | inl same ↦ inl same
  | inr (inl lt) ↦ elim (cases_order (k + 1) m) [
    | inl next ↦ inr next
    | inr (inl far) ↦
        let some : m - 1 + 1 ≡ m = omega arith in
        let last = started.reached (m - 1) some in
        let has : Has k = has_down Has r.down k (m - 1) (omega arith) last.0 in
        let before = shows.place.ahead has in
        let a = (around S O k).2 in
        let e = ends_before r k (m - 1) (omega arith) last.0 in
        let under = last.1 in
        let shown = shows.shown in
        absurd (omega (arith, signed_arith))
    | inr (inr over) ↦ absurd (omega arith)
  ]
  | inr (inr gt) ↦
      let some : k - 1 + 1 ≡ k = omega arith in
      let last = shows.place.reached (k - 1) some in
      let has : Has m = has_down Has r.down m (k - 1) (omega arith) last.0 in
      let ahead = started.ahead has in
      let s = starts_rise r m (k - 1) (omega arith) last.0 in
      let a = (around S O (k - 1)).1 in
      let o = ap O some in
      let reached = last.1 in
      let shown = shows.shown in
      absurd (omega (arith, signed_arith))
]

-- the clocks of the offset after m transitions show it there, if they began to by then
pub shows_after : {Has : ℕ → Type 0} {S O : ℕ → ℤ} → Runs Has S O → (local t : ℤ) (m : ℕ) → IsPlace Has (start S O) local m → t +ℤ O m ≡ local →
    ((j : ℕ) → j + 1 ≡ m → S j ≤ℤ t) → ShowsAt Has S O local t m
shows_after {Has} {S} {O} r local t m started shown begun = record {
  place = record {
    reached = λ j h. ((started.reached j h).0, begun j h);
    ahead = λ h.
        let before = started.ahead h in
        let a = (around S O m).0 in
        omega (arith, signed_arith);
  };
  shown = shown;
}

-- and those of the offset before the last of them, if that comes later
pub shows_before : {Has : ℕ → Type 0} {S O : ℕ → ℤ} → Runs Has S O → (local t : ℤ) (n : ℕ) → IsPlace Has (start S O) local (n + 1) → t +ℤ O n ≡ local → t
    <ℤ S n → ShowsAt Has S O local t n
shows_before {Has} {S} {O} r local t n started shown ahead = record {
  place = record {
    reached = λ j h.
        let last = started.reached n refl in
        let has : Has j = has_down Has r.down j n (omega arith) last.0 in
        let has_next : Has (j + 1) = has_down Has r.down (j + 1) n (omega arith) last.0 in
        let e = r.apart j has_next in
        let a = (around S O j).3 in
        let o = ap O h in
        let s : start S O (j + 1) ≡ start S O n = ap (start S O) h in
        let under = last.1 in
        (has, omega (arith, signed_arith));
    ahead = λ h. ahead;
  };
  shown = shown;
}

pub before_all : {Has : ℕ → Type 0} {S O : ℕ → ℤ} → Runs Has S O → (local t : ℤ) → IsPlace Has (start S O) local 0 → t ≡ local -ℤ O 0 → IsInstants
    (ShowsLocal Has S O local) (Has) S O local (Single t)
before_all {Has} {S} {O} r local t started is =
    let s = shows_after r local t 0 started (omega (arith, signed_arith)) (λ j h. absurd (omega arith)) in (
      (0, s),
      λ u h. elim (near r local u 0 h.0 started h.1) [
        | inl same ↦ (let now : ShowsAt Has S O local u 0 = rw same at h.1 in let shown = now.shown in omega (arith, signed_arith))
        | inr next ↦ absurd (omega arith)
      ],
    )

pub after_one : {Has : ℕ → Type 0} {S O : ℕ → ℤ} → Runs Has S O → (local t : ℤ) (n : ℕ) → IsPlace Has (start S O) local (n + 1) → end S O n ≤ℤ local → t ≡
    local -ℤ O (n + 1) → IsInstants (ShowsLocal Has S O local) (Has) S O local (Single t)
after_one {Has} {S} {O} r local t n started ended is =
    let has = (started.reached n refl).0 in
    let a = (around S O n).3 in
    let b = (around S O n).2 in
    let begun : S n ≤ℤ t = omega (arith, signed_arith) in
    let s = shows_after r local t (n + 1) started (omega (arith, signed_arith))
    (λ j h. let same : n ≡ j = omega arith in rw same at begun) in (
      (n + 1, s),
      λ u h. elim (near r local u (n + 1) h.0 started h.1) [
        | inl same ↦ (let now : ShowsAt Has S O local u (n + 1) = rw same at h.1 in let shown = now.shown in omega (arith, signed_arith))
        | inr next ↦
            let same : h.0 ≡ n = omega arith in
            let now : ShowsAt Has S O local u n = rw same at h.1 in
            let shown = now.shown in
            let ahead = now.place.ahead has in
            absurd (omega (arith, signed_arith))
      ],
    )

pub within_gap : {Has : ℕ → Type 0} {S O : ℕ → ℤ} → Runs Has S O → (local t u s : ℤ) (n : ℕ) → IsPlace Has (start S O) local (n + 1) → local <ℤ end S O n
    → O n <ℤ O (n + 1)
    → t ≡ local -ℤ O (n + 1) → u ≡ local -ℤ O n → s ≡ S n → IsInstants (ShowsLocal Has S O local) (Has) S O local (Gap t u s)
within_gap {Has} {S} {O} r local t u s n started inside widens is_t is_u is_s =
    let has = (started.reached n refl).0 in
    let reached = (started.reached n refl).1 in
    let low : (S n +ℤ O n) ≤ℤ local = omega (arith, signed_arith, clamps) in
    let high : local <ℤ (S n +ℤ O (n + 1)) = omega (arith, signed_arith, clamps) in (
      (λ v h. elim (near r local v (n + 1) h.0 started h.1) [
        | inl same ↦
            let now : ShowsAt Has S O local v (n + 1) = rw same at h.1 in
            let shown = now.shown in
            let begun = (now.place.reached n refl).1 in
            absurd (omega (arith, signed_arith))
        | inr next ↦
            let same : h.0 ≡ n = omega arith in
            let now : ShowsAt Has S O local v n = rw same at h.1 in
            let shown = now.shown in
            let ahead = now.place.ahead has in
            absurd (omega (arith, signed_arith))
      ]),
      (n, has, is_t, is_u, is_s, omega (arith, signed_arith), omega (arith, signed_arith)),
    )

pub within_fold : {Has : ℕ → Type 0} {S O : ℕ → ℤ} → Runs Has S O → (local t u : ℤ) (n : ℕ) → IsPlace Has (start S O) local (n + 1) → local <ℤ end S O n →
    O (n + 1) ≤ℤ O n
    → t ≡ local -ℤ O n → u ≡ local -ℤ O (n + 1) → IsInstants (ShowsLocal Has S O local) (Has) S O local (Fold t u)
within_fold {Has} {S} {O} r local t u n started inside narrows is_t is_u =
    let has = (started.reached n refl).0 in
    let reached = (started.reached n refl).1 in
    let low : (S n +ℤ O (n + 1)) ≤ℤ local = omega (arith, signed_arith, clamps) in
    let high : local <ℤ (S n +ℤ O n) = omega (arith, signed_arith, clamps) in
    let begun : S n ≤ℤ u = omega (arith, signed_arith) in
    let early_one = shows_before r local t n started (omega (arith, signed_arith)) (omega (arith, signed_arith)) in
    let late_one = shows_after r local u (n + 1) started (omega (arith, signed_arith))
    (λ j h. let same : n ≡ j = omega arith in rw same at begun) in (
      omega (arith, signed_arith),
      (n, early_one),
      (n + 1, late_one),
      λ v h. elim (near r local v (n + 1) h.0 started h.1) [
        | inl same ↦ (let now : ShowsAt Has S O local v (n + 1) = rw same at h.1 in let shown = now.shown in inr (omega (arith, signed_arith)))
        | inr next ↦
            let same : h.0 ≡ n = omega arith in
            let now : ShowsAt Has S O local v n = rw same at h.1 in
            let shown = now.shown in
            inl (omega (arith, signed_arith))
      ],
    )

-- whichever the last transition makes of the wall clock, these are its seconds
pub by_last : {Has : ℕ → Type 0} {S O : ℕ → ℤ} → Runs Has S O → (local s b a : ℤ) (n : ℕ) → IsPlace Has (start S O) local (n + 1) → s ≡ S n → b ≡ O n → a
    ≡ O (n + 1) → (found : LocalInstants) → IsBy s b a local found
    → IsInstants (ShowsLocal Has S O local) Has S O local found
by_last {Has} {S} {O} r local s b a n started es eb ea (Single t) h =
    let m = ap (int_max b) ea ∙ ap (λ (x : ℤ). int_max x (O (n + 1))) eb in
    let h0 = h.0 in
    let h1 = h.1 in
    after_one r local t n started (omega (arith, signed_arith)) (omega (arith, signed_arith))
by_last {Has} {S} {O} r local s b a n started es eb ea (Gap t u g) h =
    let m = ap (int_max b) ea ∙ ap (λ (x : ℤ). int_max x (O (n + 1))) eb in
    let h0 = h.0 in
    let h1 = h.1 in
    let h2 = h.2 in
    let h3 = h.3 in
    let h4 = h.4 in
    within_gap r local t u g n started (omega (arith, signed_arith)) (omega (arith, signed_arith)) (omega (arith, signed_arith))
    (omega (arith, signed_arith)) (omega (arith, signed_arith))
by_last {Has} {S} {O} r local s b a n started es eb ea (Fold t u) h =
    let m = ap (int_max b) ea ∙ ap (λ (x : ℤ). int_max x (O (n + 1))) eb in
    let h0 = h.0 in
    let h1 = h.1 in
    let h2 = h.2 in
    let h3 = h.3 in
    within_fold r local t u n started (omega (arith, signed_arith)) (omega (arith, signed_arith)) (omega (arith, signed_arith))
    (omega (arith, signed_arith))

-- sequences that are joined
pub joined_low : {A : Type 0} (n : ℕ) (f g : ℕ → A) (k : ℕ) → k < n → join n f g k ≡ f k
joined_low n f g k h = let t : nat_lt k n ≡ true = grind (arith, nat_tests) in rw t refl

pub joined_high : {A : Type 0} (n : ℕ) (f g : ℕ → A) (k j : ℕ) → k ≡ n + j → join n f g k ≡ g j
joined_high n f g k j h =
    let t : nat_lt k n ≡ false = grind (arith, nat_tests) in
    let e : k - n ≡ j = omega arith in
    rw (t, e) refl

-- at the seam too, where both are the same
pub joined_upto : {A : Type 0} (n : ℕ) (f g : ℕ → A) (k : ℕ) → f n ≡ g 0 → k ≤ n → join n f g k ≡ f k
joined_upto n f g k same h = elim (cases_order k n) [
  | inl e ↦ (let high = joined_high n f g k 0 (omega arith) in high ∙ sym same ∙ ap f (sym e))
  | inr (inl lt) ↦ joined_low n f g k lt
  | inr (inr gt) ↦ absurd (omega arith)
]

-- the place of a second is one
pub place-unique : {Has : ℕ → Type 0} {S O : ℕ → ℤ} → Runs Has S O → (t : ℤ) (k m : ℕ) → IsPlace Has S t k → IsPlace Has S t m → k ≡ m
place-unique {Has} {S} {O} r t k m hk hm = elim (cases_order k m) [
  | inl same ↦ same
  | inr (inl lt) ↦ absurd (past r t k m lt hk hm)
  | inr (inr gt) ↦ absurd (past r t m k gt hm hk)
] where
  past : {Has : ℕ → Type 0} {S O : ℕ → ℤ} → Runs Has S O → (t : ℤ) (k m : ℕ) → k < m → IsPlace Has S t k → IsPlace Has S t m → ⊥
  past {Has} {S} {O} r t k m lt hk hm =
      let some : m - 1 + 1 ≡ m = omega arith in
      let last = hm.reached (m - 1) some in
      let has : Has k = has_down Has r.down k (m - 1) (omega arith) last.0 in
      let ahead = hk.ahead has in
      let up = seconds_rise r k (m - 1) (omega arith) last.0 in
      let under = last.1 in
      absurd (omega (arith, signed_arith))

-- the first second at which clocks show a wall clock or a later one, before all gaps and folds
pub first_before_all : {Has : ℕ → Type 0} {S O : ℕ → ℤ} → Runs Has S O → (local t : ℤ) → IsPlace Has (start S O) local 0 → t ≡ local -ℤ O 0 → IsFirstAt
    Has S O local t
first_before_all {Has} {S} {O} r local t started is =
    let s = shows_after r local t 0 started (omega (arith, signed_arith)) (λ j h. absurd (omega arith)) in
    record {
      reached = (0, s.place, omega (arith, signed_arith));
      before = λ u k under place. elim (leb_tells k 0) [
        | inl none ↦
            let same : 0 ≡ k = omega arith in
            let now : (u +ℤ O 0) <ℤ local = omega (arith, signed_arith) in
            rw same at now
        | inr some ↦
            let e : k - 1 + 1 ≡ k = omega arith in
            let last = place.reached (k - 1) e in
            let has : Has 0 = has_down Has r.down 0 (k - 1) (omega arith) last.0 in
            let up = seconds_rise r 0 (k - 1) (omega arith) last.0 in
            let ahead = started.ahead has in
            let a = (around S O 0).0 in
            let reached = last.1 in
            absurd (omega (arith, signed_arith))
      ];
    }

-- later clocks, by the last gap or fold that has started: none is shown before the first second of what it makes of the wall clock
first_after : {Has : ℕ → Type 0} {S O : ℕ → ℤ} → Runs Has S O → (local t u : ℤ) (n k : ℕ) → IsPlace Has (start S O) local (n + 1) →
    (t ≤ℤ (local -ℤ O (n + 1))) ⊎ (t ≤ℤ S n) → ((u +ℤ O n) <ℤ local) ⊎ (S n ≤ℤ u) → (t ≤ℤ S n) ⊎ ((u +ℤ O (n + 1)) <ℤ local) → u <ℤ t → IsPlace Has S u k
    → (u +ℤ O k) <ℤ local
first_after {Has} {S} {O} r local t u n k started most at_n at_next under place = elim (cases_order k (n + 1)) [
  | inl same ↦
      let here : IsPlace Has S u (n + 1) = rw same at place in
      let reached = (here.reached n refl).1 in
      let next : n + 1 ≡ k = omega arith in
      elim at_next [
        | inl early ↦ absurd (omega (arith, signed_arith))
        | inr less ↦ rw next at less
      ]
  | inr (inl lt) ↦ elim (cases_order k n) [
    | inl same ↦
        let here : IsPlace Has S u n = rw same at place in
        let ahead = here.ahead (started.reached n refl).0 in
        let back : n ≡ k = omega arith in
        elim at_n [
          | inl less ↦ rw back at less
          | inr late ↦ absurd (omega (arith, signed_arith))
        ]
    | inr (inl below) ↦
        let last = started.reached n refl in
        let has : Has k = has_down Has r.down k n (omega arith) last.0 in
        let ahead = place.ahead has in
        let a = (around S O k).2 in
        let e = ends_before r k n below last.0 in
        let begun = last.1 in
        omega (arith, signed_arith)
    | inr (inr above) ↦ absurd (omega arith)
  ]
  | inr (inr gt) ↦
      let e : k - 1 + 1 ≡ k = omega arith in
      let last = place.reached (k - 1) e in
      let has : Has (n + 1) = has_down Has r.down (n + 1) (k - 1) (omega arith) last.0 in
      let up = seconds_rise r (n + 1) (k - 1) (omega arith) last.0 in
      let step = r.rises n has in
      let ahead = started.ahead has in
      let a = (around S O (n + 1)).0 in
      let reached = last.1 in
      elim most [
        | inl less ↦ absurd (omega (arith, signed_arith))
        | inr early ↦ absurd (omega (arith, signed_arith))
      ]
]

-- or by what the last one that has started makes of it
pub first_by_last : {Has : ℕ → Type 0} {S O : ℕ → ℤ} → Runs Has S O → (local s b a : ℤ) (n : ℕ) → IsPlace Has (start S O) local (n + 1) → s ≡ S n → b ≡ O
    n → a ≡ O (n + 1) → (found : LocalInstants) → IsBy s b a local found
    → IsFirstAt Has S O local (first_of found)
first_by_last {Has} {S} {O} r local s b a n started es eb ea (Single t) h =
    let m = ap (int_max b) ea ∙ ap (λ (x : ℤ). int_max x (O (n + 1))) eb in
    let h0 = h.0 in
    let h1 = h.1 in
    let e2 = (around S O n).2 in
    let e3 = (around S O n).3 in
    let begun : S n ≤ℤ t = omega (arith, signed_arith) in
    let shows = shows_after r local t (n + 1) started (omega (arith, signed_arith)) (λ j e. let same : n ≡ j = omega arith in rw same at begun) in
    record {
      reached = (n + 1, shows.place, omega (arith, signed_arith));
      before = λ u k under place. by_lt_z u (S n)
          (λ lt. first_after r local t u n k started (inl (omega (arith, signed_arith))) (inl (omega (arith, signed_arith)))
          (inr (omega (arith, signed_arith))) under place)
          (λ ge. first_after r local t u n k started (inl (omega (arith, signed_arith))) (inr ge) (inr (omega (arith, signed_arith))) under place);
    }
first_by_last {Has} {S} {O} r local s b a n started es eb ea (Gap t u g) h =
    let m = ap (int_max b) ea ∙ ap (λ (x : ℤ). int_max x (O (n + 1))) eb in
    let h0 = h.0 in
    let h1 = h.1 in
    let h4 = h.4 in
    let has = (started.reached n refl).0 in
    let begun = (started.reached n refl).1 in
    let low : (S n +ℤ O n) ≤ℤ local = omega (arith, signed_arith, clamps) in
    let high : local <ℤ (S n +ℤ O (n + 1)) = omega (arith, signed_arith, clamps) in
    record {
      reached = (
        n + 1,
        record {
          reached = λ j e. (let same : n ≡ j = omega arith in let now : Has n × (S n ≤ℤ g) = (has, omega (arith, signed_arith)) in rw same at now);
          ahead = λ next. (let step = r.rises n next in omega (arith, signed_arith));
        },
        omega (arith, signed_arith),
      );
      before = λ v k under place.
          first_after r local g v n k started (inr (omega (arith, signed_arith))) (inl (omega (arith, signed_arith))) (inl (omega (arith, signed_arith)))
          under place;
    }
first_by_last {Has} {S} {O} r local s b a n started es eb ea (Fold t u) h =
    let m = ap (int_max b) ea ∙ ap (λ (x : ℤ). int_max x (O (n + 1))) eb in
    let h0 = h.0 in
    let h1 = h.1 in
    let h2 = h.2 in
    let high : local <ℤ (S n +ℤ O n) = omega (arith, signed_arith, clamps) in
    let shows = shows_before r local t n started (omega (arith, signed_arith)) (omega (arith, signed_arith)) in
    record {
      reached = (n, shows.place, omega (arith, signed_arith));
      before = λ v k under place.
          first_after r local t v n k started (inr (omega (arith, signed_arith))) (inl (omega (arith, signed_arith))) (inl (omega (arith, signed_arith)))
          under place;
    }
