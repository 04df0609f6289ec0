-- What is read of a file is derived by its grammar, and the other way round.
use Rattle.std.proofs.Common.{◌≡◌, ◌⊎◌, inl, inr, refl, sym, ap, subst, ◌∙◌, ℕ, zero, suc, ◌+◌, ◌-◌, ◌*◌, ◌≤◌, ◌<◌, ◌==◌, arith}
use Rattle.std.proofs.Common.{Bool, true, false, List, [], ◌∷◌, ◌++◌, append_assoc, length, length-append, Option, Some, None, Result, Ok, Err}
use Rattle.std.proofs.Common.{ℤ, take-append-drop, length-take}
use Rattle.std.specs.Prelude.{IsTrue, IfOk, if◌then◌else◌, nat_lt, ◌||◌}
use Rattle.std.specs.List.{list_all}
use Rattle.std.specs.Result.{result_map_both}
use Rattle.std.proofs.lemmas.Bool.{cases_Bool, eqb-true}
use Rattle.std.proofs.lemmas.Bool.Decides.{nat_tests}
use Rattle.std.proofs.lemmas.List.{take_at, drop_at}
use Rattle.calendar_values.specs.Offsets.{IsOffset, least_offset, greatest_offset}
use Rattle.calendar_values.specs.Range.{is_outside}
use Rattle.calendar_values.specs.SignedArith.{signed_arith}
use Rattle.zone_files.specs.Blocks.{BlockParts, byte_at, signed_word_at, is_magic, is_unix_time, is_version, marks, piece_at, header_at, block_at}
use Rattle.zone_files.specs.FileGrammar.{DerivesHeader, DerivesBlock, IsKind, IsSound, DerivesLine, DerivesFooter, DerivesFirst, DerivesLater, DerivesFile}
use Rattle.zone_files.specs.FileReading.{FileParts, size_of, index_fault, kind_fault, bytes_fault, block_fault, fault_left, unless, line_rule, line_at}
use Rattle.zone_files.specs.FileReading.{footer_at, first_version, later_block, later_version, file_in, file_refusal, file_of}
use Rattle.zone_files.specs.Kinds.{IsWhole}
use Rattle.zone_files.specs.Pieces.{front, past, is_line}
use Rattle.zone_files.specs.Reading.{rule_in}
use Rattle.zone_files.specs.Rules.{RuleParts}
use Rattle.zone_files.specs.declared.counts.Counts.{Counts}
use Rattle.zone_files.specs.declared.faults.Stop.{Stop}
use Rattle.zone_files.specs.declared.file_faults.FilePart.TheVariants.{Index, Rule}
use Rattle.zone_files.specs.declared.file_faults.FileStop.{FileStop}
use Rattle.zone_files.specs.declared.file_faults.FileRefusal.{FileRefusal}
use Rattle.zone_files.proofs.FaultLemmas.{fault_or-none, first_fault-each, first_fault-none}
use Rattle.zone_files.proofs.FrontLemmas.{front-past, front-passes, front-append, past-append}
use Rattle.zone_files.proofs.RuleLemmas.{rule_in-ok, rule_in-again}
use Rattle.zone_files.proofs.TextLemmas.{bind_ok, chosen, ok_same, no_ok, Taken, two}

-- ---- pieces

pub piece_at-ok : (n : ℕ) (bytes : List ℕ) (y : List ℕ × List ℕ) → piece_at n bytes ≡ Ok y → (length y.0 ≡ n) × (bytes ≡ y.0 ++ y.1)
unfolding piece_at
piece_at-ok n bytes y e =
    elim (chosen (nat_lt (length bytes) n) _ _ _ e) [
      | inl h ↦ absurd (no_ok _ _ h.1)
      | inr h ↦
          let long : n ≤ length bytes = not_less (length bytes) n h.0 in
          subst (λ (z : List ℕ × List ℕ). (length z.0 ≡ n) × (bytes ≡ z.0 ++ z.1)) (ok_same _ _ h.1)
          (omega (arith, length-take n bytes, long), sym (take-append-drop n bytes))
    ] where
      not_less : (a b : ℕ) → nat_lt a b ≡ false → b ≤ a
      not_less a b f = grind (arith, nat_tests)

pub piece_at-again : (n : ℕ) (piece rest : List ℕ) → length piece ≡ n → piece_at n (piece ++ rest) ≡ Ok (piece, rest)
unfolding piece_at
piece_at-again n piece rest long =
    rw (enough (length (piece ++ rest)) n (omega (arith, length-append piece rest, long)))
    (rw (take_at piece rest n long) (rw (drop_at piece rest n long) refl)) where
      enough : (a b : ℕ) → b ≤ a → nat_lt a b ≡ false
      enough a b le = grind (arith, nat_tests)

-- ---- headers

pub header_at-ok : (bytes : List ℕ) (y : Counts × List ℕ) → header_at bytes ≡ Ok y → Taken DerivesHeader bytes y.0 y.1
unfolding header_at
header_at-ok bytes y e =
    let a = bind_ok (piece_at 44 bytes) _ y e in
    let piece = piece_at-ok 44 bytes a.0 a.1 in
    elim (chosen (is_magic a.0.0) _ _ _ a.2) [
      | inl h ↦
          elim (chosen (is_version (byte_at a.0.0 4)) _ _ _ h.1) [
            | inl g ↦
                elim (chosen (is_unix_time a.0.0) _ _ _ g.1) [
                  | inl k ↦
                      subst (λ (z : Counts × List ℕ). Taken DerivesHeader bytes z.0 z.1) (ok_same _ _ k.1) (record {
                        piece = a.0.0;
                        parts = piece.1;
                        is = record { long = piece.0; magic = h.0; version = g.0; unix = k.0; value = refl };
                      })
                  | inr k ↦ absurd (no_ok _ _ k.1)
                ]
            | inr g ↦ absurd (no_ok _ _ g.1)
          ]
      | inr h ↦ absurd (no_ok _ _ h.1)
    ]

pub header_at-again : (piece rest : List ℕ) (counts : Counts) → DerivesHeader piece counts → header_at (piece ++ rest) ≡ Ok (counts, rest)
unfolding header_at
header_at-again piece rest counts h =
    rw (piece_at-again 44 piece rest h.long) (rw h.magic (rw h.version (rw h.unix (ap (λ (c : Counts). Ok (c, rest)) (sym h.value)))))

-- ---- blocks

pub block_at-ok : (size : ℕ) (counts : Counts) (bytes : List ℕ) (y : BlockParts × List ℕ) → block_at size counts bytes ≡ Ok y
    → Taken (DerivesBlock size counts) bytes y.0 y.1
unfolding block_at
block_at-ok size counts bytes y e =
    let a = bind_ok (piece_at (counts.times * size) bytes) _ y e in
    let times = piece_at-ok (counts.times * size) bytes a.0 a.1 in
    let b = bind_ok (piece_at counts.times a.0.1) _ y a.2 in
    let indexes = piece_at-ok counts.times a.0.1 b.0 b.1 in
    let c = bind_ok (piece_at (counts.types * 6) b.0.1) _ y b.2 in
    let types = piece_at-ok (counts.types * 6) b.0.1 c.0 c.1 in
    let d = bind_ok (piece_at counts.names c.0.1) _ y c.2 in
    let names = piece_at-ok counts.names c.0.1 d.0 d.1 in
    let f = bind_ok (piece_at (marks counts) d.0.1) _ y d.2 in
    let rest = piece_at-ok (marks counts) d.0.1 f.0 f.1 in
    let fourth = two c.0.1 d.0.0 d.0.1 f.0.0 f.0.1 names.1 rest.1 in
    let third = two b.0.1 c.0.0 c.0.1 (d.0.0 ++ f.0.0) f.0.1 types.1 fourth in
    let second = two a.0.1 b.0.0 b.0.1 (c.0.0 ++ (d.0.0 ++ f.0.0)) f.0.1 indexes.1 third in
    subst (λ (z : BlockParts × List ℕ). Taken (DerivesBlock size counts) bytes z.0 z.1) (ok_same _ _ f.2) (record {
      piece = a.0.0 ++ (b.0.0 ++ (c.0.0 ++ (d.0.0 ++ f.0.0)));
      parts = two bytes a.0.0 a.0.1 (b.0.0 ++ (c.0.0 ++ (d.0.0 ++ f.0.0))) f.0.1 times.1 second;
      is = record {
        rest = f.0.0;
        spelled = refl;
        times = times.0;
        indexes = indexes.0;
        types = types.0;
        names = names.0;
        marks = rest.0;
      };
    })

five : (a b c d f rest : List ℕ) → (a ++ (b ++ (c ++ (d ++ f)))) ++ rest ≡ a ++ (b ++ (c ++ (d ++ (f ++ rest))))
five a b c d f rest =
    append_assoc a (b ++ (c ++ (d ++ f))) rest
    ∙ ap (λ (xs : List ℕ). a ++ xs) (append_assoc b (c ++ (d ++ f)) rest)
    ∙ ap (λ (xs : List ℕ). a ++ (b ++ xs)) (append_assoc c (d ++ f) rest)
    ∙ ap (λ (xs : List ℕ). a ++ (b ++ (c ++ xs))) (append_assoc d f rest)

pub block_at-again : (size : ℕ) (counts : Counts) (piece rest : List ℕ) (block : BlockParts) → DerivesBlock size counts piece block
    → block_at size counts (piece ++ rest) ≡ Ok (block, rest)
unfolding block_at
block_at-again size counts piece rest block h =
    let whole : piece ++ rest ≡ block.times ++ (block.indexes ++ (block.types ++ (block.names ++ (h.rest ++ rest)))) =
    ap (λ (xs : List ℕ). xs ++ rest) h.spelled ∙ five block.times block.indexes block.types block.names h.rest rest in
    ap (block_at size counts) whole
    ∙ rw (piece_at-again (counts.times * size) block.times (block.indexes ++ (block.types ++ (block.names ++ (h.rest ++ rest)))) h.times)
    (rw (piece_at-again counts.times block.indexes (block.types ++ (block.names ++ (h.rest ++ rest))) h.indexes)
    (rw (piece_at-again (counts.types * 6) block.types (block.names ++ (h.rest ++ rest)) h.types)
    (rw (piece_at-again counts.names block.names (h.rest ++ rest) h.names)
    (rw (piece_at-again (marks counts) h.rest rest h.marks) refl))))

-- ---- the bytes of a block

index_fault-none : (left count : ℕ) (indexes : List ℕ) (i : ℕ) → index_fault left count indexes i ≡ None → byte_at indexes i < count
index_fault-none left count indexes i e = less (byte_at indexes i) e where
  less : (b : ℕ) → (if nat_lt b count then None else fault_left Index (left - i)) ≡ None → b < count
  less b h =
      elim (cases_Bool (nat_lt b count)) [
        | inl t ↦ lt_of b count t
        | inr t ↦ let bad = rw t at h in absurd cc
      ] where
        lt_of : (a b : ℕ) → nat_lt a b ≡ true → a < b
        lt_of a b f = grind (arith, nat_tests)

lt_true : (a b : ℕ) → a < b → nat_lt a b ≡ true
lt_true a b lt = grind (arith, nat_tests)

lt_of_true : (a b : ℕ) → nat_lt a b ≡ true → a < b
lt_of_true a b e = grind (arith, nat_tests)

le_of_false : (a b : ℕ) → nat_lt a b ≡ false → b ≤ a
le_of_false a b e = grind (arith, nat_tests)

not_lt : (a b : ℕ) → b ≤ a → nat_lt a b ≡ false
not_lt a b le = grind (arith, nat_tests)

inside : (z : ℤ) → is_outside least_offset greatest_offset z ≡ false → IsOffset z
inside z e = (grind (arith, signed_arith), grind (arith, signed_arith))

inside-again : (z : ℤ) → IsOffset z → is_outside least_offset greatest_offset z ≡ false
inside-again z h = grind (arith, signed_arith)

none_if : (b : Bool) (part : Option FileStop) (stop : FileStop) → (if b then Some stop else part) ≡ None → (b ≡ false) × (part ≡ None)
none_if true part stop e = absurd cc
none_if false part stop e = (refl, e)

some_if : (b : Bool) (stop : FileStop) → (if b then None else Some stop) ≡ None → b ≡ true
some_if true stop e = refl
some_if false stop e = absurd cc

kind_fault-none : (left : ℕ) (block : BlockParts) (k : ℕ) → kind_fault left block k ≡ None → IsKind block k
kind_fault-none left block k e =
    let a = none_if (is_outside least_offset greatest_offset (signed_word_at block.types (6 * k))) _ _ e in
    let b = none_if (nat_lt 1 (byte_at block.types (6 * k + 4))) _ _ a.1 in
    let c = some_if (nat_lt (byte_at block.types (6 * k + 5)) (length block.names)) _ b.1 in
    record { offset = inside (signed_word_at block.types (6 * k)) a.0; daylight = le_of_false _ _ b.0; name = lt_of_true _ _ c }

kind_fault-again : (left : ℕ) (block : BlockParts) (k : ℕ) → IsKind block k → kind_fault left block k ≡ None
kind_fault-again left block k h =
    rw (inside-again (signed_word_at block.types (6 * k)) h.offset)
    (rw (not_lt 1 (byte_at block.types (6 * k + 4)) h.daylight)
    (rw (lt_true (byte_at block.types (6 * k + 5)) (length block.names) h.name) refl))

or_false : (a b : Bool) → (a || b) ≡ false → (a ≡ false) × (b ≡ false)
or_false true b e = absurd cc
or_false false b e = (refl, e)

not_zero : (n : ℕ) → (n == 0) ≡ false → 0 < n
not_zero n e = grind (arith, nat_tests)

zero_not : (n : ℕ) → 0 < n → (n == 0) ≡ false
zero_not n lt = grind (arith, nat_tests)

pub block_fault-none : (left count : ℕ) (block : BlockParts) → block_fault left count block ≡ None → IsSound count block
unfolding block_fault bytes_fault
block_fault-none left count block e =
    let a = none_if ((count == 0) || (length block.names == 0)) _ _ e in
    let some = or_false (count == 0) (length block.names == 0) a.0 in
    let b = fault_or-none _ _ a.1 in
    let c = fault_or-none _ _ b.1 in
    let last = some_if (byte_at block.names (length block.names - 1) == 0) _ c.1 in
    record {
      some = not_zero count some.0;
      indexes =
          λ i low. lt_of_true _ _ (some_if (nat_lt (byte_at block.indexes i) count) _
          (first_fault-each _ (length block.indexes) 0 i b.0 (omega arith) (omega (arith, low))));
      kinds = λ k low. kind_fault-none _ block k (first_fault-each _ count 0 k c.0 (omega arith) (omega (arith, low)));
      named = not_zero (length block.names) some.1;
      last =
          λ k is. ap (byte_at block.names) (omega (arith, is)) ∙ eqb-true (byte_at block.names (length block.names - 1)) 0 last;
    }

pub block_fault-again : (left count : ℕ) (block : BlockParts) → IsSound count block → block_fault left count block ≡ None
unfolding block_fault bytes_fault
block_fault-again left count block h =
    let last : byte_at block.names (length block.names - 1) ≡ 0 = h.last (length block.names - 1) (omega (arith, h.named)) in
    rw (zero_not count h.some) (rw (zero_not (length block.names) h.named)
    (rw (first_fault-none (index_fault (left - length block.times) count block.indexes) (length block.indexes) 0
    (λ i low high. rw (lt_true (byte_at block.indexes i) count (h.indexes i (omega (arith, high)))) refl))
    (rw (first_fault-none (kind_fault (left - length block.times - length block.indexes) block) count 0
    (λ k low high. kind_fault-again (left - length block.times - length block.indexes) block k (h.kinds k (omega (arith, high)))))
    (rw last refl))))

-- ---- the footer

some_rule : (bytes : List ℕ) (left : ℕ) (r : Result RuleParts Stop) (y : Option RuleParts)
    → result_map_both {D = FileStop} (λ rule. Some rule) (λ (stop : Stop). record { part = Rule stop.fault; left = left - (length bytes - stop.left) }) r ≡ Ok y
    → (found : RuleParts) × (y ≡ Some found) × (r ≡ Ok found)
some_rule bytes left (Ok rule) y e = (rule, sym (ok_same _ _ e), refl)
some_rule bytes left (Err stop) y e = absurd (no_ok _ _ e)

line_rule-ok : (left : ℕ) (line : List ℕ) (y : Option RuleParts) → line_rule left line ≡ Ok y → DerivesLine line y
line_rule-ok left [] y e = sym (ok_same _ _ e)
line_rule-ok left (byte ∷ bytes) y e =
    let found = some_rule (byte ∷ bytes) left (rule_in (byte ∷ bytes)) y e in
    (found.0, found.1, rule_in-ok (byte ∷ bytes) found.0 found.2)

line_rule-again : (left : ℕ) (line : List ℕ) (y : Option RuleParts) → DerivesLine line y → line_rule left line ≡ Ok y
line_rule-again left [] y h = ap (λ (r : Option RuleParts). Ok r) (sym h)
line_rule-again left (byte ∷ bytes) y h =
    rw (rule_in-again (byte ∷ bytes) h.0 h.2) (ap (λ (r : Option RuleParts). Ok r) (sym h.1))

-- what follows a line is nothing, or begins with a new line
past_line : (bytes : List ℕ) → (past is_line bytes ≡ []) ⊎ ((rest : List ℕ) × (past is_line bytes ≡ 10 ∷ rest))
past_line [] = inl refl
past_line (byte ∷ bytes) =
    elim (cases_Bool (byte == 10)) [
      | inl t ↦ inr (bytes, rw t (ap (λ (b : ℕ). b ∷ bytes) (eqb-true byte 10 t)))
      | inr t ↦
          elim (past_line bytes) [
            | inl h ↦ inl (rw t h)
            | inr h ↦ inr (h.0, rw t h.1)
          ]
    ]

new_line : (bytes : List ℕ) → (length (past is_line bytes) == 0) ≡ false → (rest : List ℕ) × (past is_line bytes ≡ 10 ∷ rest)
new_line bytes e =
    elim (past_line bytes) [
      | inl h ↦ let bad = rw h at e in absurd cc
      | inr h ↦ h
    ]

some_left : (byte : ℕ) (bytes : List ℕ) → (length (byte ∷ bytes) == 0) ≡ false
some_left byte bytes = grind (arith, nat_tests)

line_at-ok : (bytes : List ℕ) (y : Option RuleParts) → line_at bytes ≡ Ok y
    → (more : List ℕ) × (bytes ≡ front is_line bytes ++ (10 ∷ more)) × DerivesLine (front is_line bytes) y
unfolding line_at
line_at-ok bytes y e =
    elim (chosen (length (past is_line bytes) == 0) _ _ _ e) [
      | inl h ↦ absurd (no_ok _ _ h.1)
      | inr h ↦
          let end = new_line bytes h.0 in (
            end.0,
            front-past is_line bytes ∙ ap (λ (xs : List ℕ). front is_line bytes ++ xs) end.1,
            line_rule-ok (length bytes) (front is_line bytes) y h.1,
          )
    ]

line_at-again : (line more : List ℕ) (y : Option RuleParts) → IsTrue (list_all is_line line) → DerivesLine line y → line_at (line ++ (10 ∷ more)) ≡ Ok y
unfolding line_at
line_at-again line more y one h =
    rw (past-append is_line line (10 ∷ more) one refl) (rw (front-append is_line line (10 ∷ more) one refl)
    (rw (some_left 10 more) (line_rule-again (length (line ++ (10 ∷ more))) line y h)))

pub footer_at-ok : (bytes : List ℕ) (y : Option RuleParts) → footer_at bytes ≡ Ok y
    → (piece : List ℕ) × (more : List ℕ) × (bytes ≡ piece ++ more) × DerivesFooter piece y
footer_at-ok [] y e = absurd (no_ok _ _ e)
footer_at-ok (byte ∷ bytes) y e =
    elim (chosen (byte == 10) _ _ _ e) [
      | inl h ↦
          let line = line_at-ok bytes y h.1 in (
            10 ∷ (front is_line bytes ++ 10 ∷ []),
            line.0,
            rw (eqb-true byte 10 h.0) (ap (λ (xs : List ℕ). 10 ∷ xs) (line.1 ∙ sym (append_assoc (front is_line bytes) (10 ∷ []) line.0))),
            record { line = front is_line bytes; spelled = refl; one_line = front-passes is_line bytes; has_rule = line.2 },
          )
      | inr h ↦ absurd (no_ok _ _ h.1)
    ]

pub footer_at-again : (piece more : List ℕ) (y : Option RuleParts) → DerivesFooter piece y → footer_at (piece ++ more) ≡ Ok y
footer_at-again piece more y h =
    ap (λ (xs : List ℕ). footer_at (xs ++ more)) h.spelled
    ∙ ap line_at (append_assoc h.line (10 ∷ []) more)
    ∙ line_at-again h.line more y h.one_line h.has_rule

-- ---- whole files

unless-ok : {A : Type 0} (fault : Option FileStop) (value y : A) → unless fault value ≡ Ok y → (fault ≡ None) × (value ≡ y)
unless-ok None value y e = (refl, ok_same _ _ e)
unless-ok (Some stop) value y e = absurd (no_ok _ _ e)

first_version-ok : (bytes header rest : List ℕ) (counts : Counts) (file : FileParts) → bytes ≡ header ++ rest → DerivesHeader header counts
    → counts.version ≡ 0 → first_version counts rest ≡ Ok file → DerivesFirst bytes file
unfolding first_version
first_version-ok bytes header rest counts file spelled has_header version e =
    let a = bind_ok (block_at 4 counts rest) _ file e in
    let block = block_at-ok 4 counts rest a.0 a.1 in
    let b = unless-ok (block_fault (length rest) counts.types a.0.0) _ file a.2 in
    subst (λ (f : FileParts). DerivesFirst bytes f) b.1 (record {
      header = header;
      block = block.piece;
      more = a.0.1;
      counts = counts;
      spelled = spelled ∙ ap (λ (xs : List ℕ). header ++ xs) block.parts;
      has_header = has_header;
      version = version;
      has_block = block.is;
      sound = block_fault-none (length rest) counts.types a.0.0 b.0;
      count = refl;
      wide = refl;
      rule = refl;
    })

later_version-ok : (bytes header rest : List ℕ) (counts : Counts) (file : FileParts) → bytes ≡ header ++ rest → DerivesHeader header counts
    → (counts.version ≡ 0 → ⊥) → later_version counts rest ≡ Ok file → DerivesLater bytes file
unfolding later_version later_block
later_version-ok bytes header rest counts file spelled has_header version e =
    let a = bind_ok (block_at 4 counts rest) _ file e in
    let passed = block_at-ok 4 counts rest a.0 a.1 in
    let b = bind_ok (header_at a.0.1) _ file a.2 in
    let second = header_at-ok a.0.1 b.0 b.1 in
    elim (chosen (b.0.0.version == counts.version) _ _ _ b.2) [
      | inl h ↦
          let c = bind_ok (block_at 8 b.0.0 b.0.1) _ file h.1 in
          let block = block_at-ok 8 b.0.0 b.0.1 c.0 c.1 in
          let d = bind_ok (unless (block_fault (length b.0.1) b.0.0.types c.0.0) c.0.0) _ file c.2 in
          let sound = unless-ok (block_fault (length b.0.1) b.0.0.types c.0.0) c.0.0 d.0 d.1 in
          let f = bind_ok (footer_at c.0.1) _ file d.2 in
          let footer = footer_at-ok c.0.1 f.0 f.1 in
          let inner = block.parts ∙ ap (λ (xs : List ℕ). block.piece ++ xs) footer.2 in
          let third = second.parts ∙ ap (λ (xs : List ℕ). second.piece ++ xs) inner in
          let outer = passed.parts ∙ ap (λ (xs : List ℕ). passed.piece ++ xs) third in
          subst (λ (z : FileParts). DerivesLater bytes z) (ok_same _ _ f.2) (record {
            header = header;
            passed = passed.piece;
            second = second.piece;
            block = block.piece;
            footer = footer.0;
            more = footer.1;
            counts = counts;
            skipped = a.0.0;
            others = b.0.0;
            spelled = spelled ∙ ap (λ (xs : List ℕ). header ++ xs) outer;
            has_header = has_header;
            version = version;
            has_passed = passed.is;
            has_second = second.is;
            same = eqb-true b.0.0.version counts.version h.0;
            has_block = subst (λ (k : BlockParts). DerivesBlock 8 b.0.0 block.piece k) sound.1 block.is;
            sound =
                subst (λ (k : BlockParts). IsSound b.0.0.types k) sound.1 (block_fault-none (length b.0.1) b.0.0.types c.0.0 sound.0);
            has_footer = footer.3;
            count = refl;
            wide = refl;
          })
      | inr h ↦ absurd (no_ok _ _ h.1)
    ]

not_same : (a b : ℕ) → (a == b) ≡ false → a ≡ b → ⊥
not_same a b e is = grind (arith, nat_tests)

pub file_in-ok : (bytes : List ℕ) (file : FileParts) → file_in bytes ≡ Ok file → DerivesFile bytes file
unfolding file_in
file_in-ok bytes file e =
    let a = bind_ok (header_at bytes) _ file e in
    let header = header_at-ok bytes a.0 a.1 in
    elim (chosen (a.0.0.version == 0) _ _ _ a.2) [
      | inl h ↦ inl (first_version-ok bytes header.piece a.0.1 a.0.0 file header.parts header.is (eqb-true a.0.0.version 0 h.0) h.1)
      | inr h ↦ inr (later_version-ok bytes header.piece a.0.1 a.0.0 file header.parts header.is (not_same a.0.0.version 0 h.0) h.1)
    ]

test_same : (a b : ℕ) → a ≡ b → (a == b) ≡ true
test_same a b e = grind (arith, nat_tests)

abbrev parts_of : Bool → ℕ → BlockParts → Option RuleParts → FileParts
parts_of wide count block rule = record { wide = wide; count = count; block = block; rule = rule }

first-again : (bytes : List ℕ) (file : FileParts) → DerivesFirst bytes file → file_in bytes ≡ Ok file
unfolding file_in first_version
first-again bytes file h =
    let sound = block_fault-again (length (h.block ++ h.more)) h.counts.types file.block h.sound in
    ap file_in h.spelled
    ∙ rw (header_at-again h.header (h.block ++ h.more) h.counts h.has_header)
    (rw (test_same h.counts.version 0 h.version) (rw (block_at-again 4 h.counts h.block h.more file.block h.has_block) (rw sound (ap (λ (f : FileParts). Ok f)
    (rebuilt file h.counts.types h.count h.wide h.rule))))) where
      rebuilt : (file : FileParts) (count : ℕ) → file.count ≡ count → file.wide ≡ false → file.rule ≡ None
          → record { wide = false; count = count; block = file.block; rule = None } ≡ file
      rebuilt file count a b c =
          ap (λ (w : Bool). parts_of w count file.block None) (sym b) ∙ ap (λ (n : ℕ). parts_of file.wide n file.block None) (sym a)
          ∙ ap (λ (r : Option RuleParts). parts_of file.wide file.count file.block r) (sym c)

no_zero : (n : ℕ) → (n ≡ 0 → ⊥) → (n == 0) ≡ false
no_zero zero h = absurd (h refl)
no_zero (suc n) h = grind (arith, nat_tests)

later-again : (bytes : List ℕ) (file : FileParts) → DerivesLater bytes file → file_in bytes ≡ Ok file
unfolding file_in later_version later_block
later-again bytes file h =
    let tail = h.block ++ (h.footer ++ h.more) in
    let sound = block_fault-again (length tail) h.others.types file.block h.sound in
    ap file_in h.spelled
    ∙ rw (header_at-again h.header (h.passed ++ (h.second ++ tail)) h.counts h.has_header)
    (rw (no_zero h.counts.version h.version) (rw (block_at-again 4 h.counts h.passed (h.second ++ tail) h.skipped h.has_passed)
    (rw (header_at-again h.second tail h.others h.has_second) (rw (test_same h.others.version h.counts.version h.same)
    (rw (block_at-again 8 h.others h.block (h.footer ++ h.more) file.block h.has_block) (rw sound
    (rw (footer_at-again h.footer h.more file.rule h.has_footer) (ap (λ (f : FileParts). Ok f) (rebuilt file h.others.types h.count h.wide)))))))))
  where
    rebuilt : (file : FileParts) (count : ℕ) → file.count ≡ count → file.wide ≡ true
        → record { wide = true; count = count; block = file.block; rule = file.rule } ≡ file
    rebuilt file count a b =
        ap (λ (w : Bool). parts_of w count file.block file.rule) (sym b) ∙ ap (λ (n : ℕ). parts_of file.wide n file.block file.rule) (sym a)

pub file_in-again : (bytes : List ℕ) (file : FileParts) → DerivesFile bytes file → file_in bytes ≡ Ok file
file_in-again bytes file (inl h) = first-again bytes file h
file_in-again bytes file (inr h) = later-again bytes file h

-- ---- with the place of a fault

pub file-derived : {A : Type 0} (bytes : List ℕ) (parts : A → FileParts) (r : Result A FileRefusal)
    → result_map_both parts (λ refusal. refusal) r ≡ file_of bytes → IfOk r (λ file. DerivesFile bytes (parts file))
unfolding file_of
file-derived bytes parts (Ok file) e = file_in-ok bytes (parts file) (ok_of (file_in bytes) (sym e)) where
  ok_of : (s : Result FileParts FileStop) → result_map_both (λ file. file) (file_refusal bytes) s ≡ Ok (parts file) → s ≡ Ok (parts file)
  ok_of (Ok other) h = cc
  ok_of (Err stop) h = absurd cc
file-derived bytes parts (Err refusal) e = tt

pub file_of-again : (bytes : List ℕ) (file : FileParts) → DerivesFile bytes file → file_of bytes ≡ Ok file
unfolding file_of
file_of-again bytes file h = rw (file_in-again bytes file h) refl

-- ---- the parts fit together

block-whole : (size count : ℕ) (counts : Counts) (bytes : List ℕ) (block : BlockParts) → DerivesBlock size counts bytes block → count ≡ counts.types
    → (length block.times ≡ length block.indexes * size) × (length block.types ≡ count * 6)
block-whole size count counts bytes block h is =
    (h.times ∙ ap (λ (n : ℕ). n * size) (sym h.indexes), h.types ∙ ap (λ (n : ℕ). n * 6) (sym is))

pub derived-whole : (bytes : List ℕ) (file : FileParts) → DerivesFile bytes file → IsWhole file
derived-whole bytes file (inl h) =
    let both = block-whole 4 file.count h.counts h.block file.block h.has_block h.count in
    record {
      sound = subst (λ (n : ℕ). IsSound n file.block) (sym h.count) h.sound;
      times = both.0 ∙ ap (λ (w : Bool). length file.block.indexes * size_of w) (sym h.wide);
      types = both.1;
    }
derived-whole bytes file (inr h) =
    let both = block-whole 8 file.count h.others h.block file.block h.has_block h.count in
    record {
      sound = subst (λ (n : ℕ). IsSound n file.block) (sym h.count) h.sound;
      times = both.0 ∙ ap (λ (w : Bool). length file.block.indexes * size_of w) (sym h.wide);
      types = both.1;
    }

pub file-whole : {A : Type 0} (bytes : List ℕ) (parts : A → FileParts) (r : Result A FileRefusal)
    → result_map_both parts (λ refusal. refusal) r ≡ file_of bytes → IfOk r (λ file. IsWhole (parts file))
file-whole bytes parts (Ok file) e = derived-whole bytes (parts file) (file-derived bytes parts (Ok file) e)
file-whole bytes parts (Err refusal) e = tt
