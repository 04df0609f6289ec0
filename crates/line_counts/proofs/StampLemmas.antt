-- The tally at the end of a count is that of its lines.
use Rattle.std.proofs.Common.{◌≡◌, refl, sym, ap, ap₂, ◌∙◌, ℕ, ◌+◌, Bool, false, nat_eq, List, [], ◌∷◌, ◌++◌, length, length-append, Option, Some, None}
use Rattle.std.proofs.Common.{Result, Ok, Err, ℤ, arith, append_assoc, append-nil}
use Rattle.std.specs.Option.{option_or}
use Rattle.std.specs.Prelude.{is_some}
use Rattle.std.proofs.lemmas.Bool.Decides.{nat_tests}
use Rattle.line_devices.specs.Lines.{lines_of}
use Rattle.line_devices.specs.StampTallies.{as_count, kind_of, tally_after, tally_of_kinds}
use Rattle.line_devices.specs.StampTallyLemmas.{tally_of_kinds-nil, tally_of_kinds-push}
use Rattle.line_devices.specs.declared.stamp_tallies.LineKind.{LineKind}
use Rattle.line_devices.specs.declared.stamp_tallies.StampTally.{StampTally}
use Rattle.line_counts.specs.Counting.{Counting}
use Rattle.line_counts.specs.Counts.{Counted, bucket_at, count_by, count_line, count_lines, fault_of, first_tally, instant_at, one_more, outcome}
use Rattle.line_counts.specs.Counts.{tally_at, tally_by, then_on}
use Rattle.line_counts.specs.Stamps.{kinds_after, stamp_tally}
use Rattle.line_counts.specs.declared.tallies.CountFault.{CountFault}
use Rattle.line_counts.specs.declared.tallies.Tally.{Tally}

-- the tally knows lines of these kinds
abbrev Knows : {M : Type 0} → Tally M → List LineKind → Type 0
Knows tally kinds = (tally.lines ≡ as_count (length kinds)) × (tally.stamps ≡ tally_of_kinds kinds)

-- the kind of the next line
abbrev next_kind : {M : Type 0} → Counting M → Tally M → List ℕ → LineKind
next_kind c tally line = kind_of line (is_some (instant_at c tally line))

-- the tally after a line has one line more, and keeps its stamps and the last instant
lines_by : {M : Type 0} (at : Tally M) (bucket : Option ℤ) → (tally_by at bucket).lines ≡ one_more at.lines
lines_by at None = refl
lines_by at (Some start) = refl

stamps_by : {M : Type 0} (at : Tally M) (bucket : Option ℤ) → (tally_by at bucket).stamps ≡ at.stamps
stamps_by at None = refl
stamps_by at (Some start) = refl

last_by : {M : Type 0} (at : Tally M) (bucket : Option ℤ) → (tally_by at bucket).last ≡ at.last
last_by at None = refl
last_by at (Some start) = refl

memory_by : {M : Type 0} (at : Tally M) (bucket : Option ℤ) → (tally_by at bucket).memory ≡ at.memory
memory_by at None = refl
memory_by at (Some start) = refl

ok_is : {M : Type 0} (a b : Tally M) → ◌≡◌ {A = Result (Tally M) CountFault} (Ok a) (Ok b) → a ≡ b
ok_is a b e = cc

no_fault : {M : Type 0} (fault : CountFault) (tally : Tally M) → ◌≡◌ {A = Result (Tally M) CountFault} (Err fault) (Ok tally) → ⊥
no_fault fault tally e = cc

-- a line that is no fault
by_is : {M : Type 0} (c : Counting M) (fault : Option CountFault) (at after : Tally M) (bucket : Option ℤ) → (count_by c fault at bucket).end ≡ Ok after
    → tally_by at bucket ≡ after
by_is c None at after bucket e = ok_is (tally_by at bucket) after e
by_is c (Some fault) at after bucket e = absurd (no_fault fault after e)

line_is : {M : Type 0} (c : Counting M) (s : Bool) (tally after : Tally M) (line : List ℕ) → (count_line c s tally line).end ≡ Ok after
    → tally_by (tally_at c tally line (instant_at c tally line)) (bucket_at c (instant_at c tally line)) ≡ after
unfolding count_line
line_is c s tally after line e =
    let own = instant_at c tally line in
    let at = tally_at c tally line own in
    let bucket = bucket_at c own in
    by_is c (fault_of s at bucket) at after bucket e

-- a text, and what follows it without a fault
then_is : {M : Type 0} (text : List ℕ) (end : Result (Tally M) CountFault) (next : Tally M → Counted M) (final : Tally M)
    → (then_on text end next).end ≡ Ok final
    → (after : Tally M) × (end ≡ Ok after) × ((next after).end ≡ Ok final)
then_is text (Ok after) next final e = (after, refl, e)
then_is text (Err fault) next final e = absurd (no_fault fault final e)

known_more : {M : Type 0} (c : Counting M) (tally : Tally M) (kinds : List LineKind) (line : List ℕ) (bucket : Option ℤ) → Knows tally kinds
    → Knows (tally_by (tally_at c tally line (instant_at c tally line)) bucket) (kinds ++ next_kind c tally line ∷ [])
known_more c tally kinds line bucket h =
    let kind = next_kind c tally line in
    let at = tally_at c tally line (instant_at c tally line) in
    let number : one_more tally.lines ≡ as_count (length kinds + 1) = omega (arith, h.0) in (
      lines_by at bucket ∙ number ∙ ap as_count (sym (length-append kinds (kind ∷ []))),
      stamps_by at bucket ∙ ap₂ (λ (z : StampTally) (n : ℕ). tally_after z n kind) h.1 number ∙ sym (tally_of_kinds-push kinds kind),
    )

lines_stamps : {M : Type 0} (c : Counting M) (s : Bool) (tally final : Tally M) (kinds : List LineKind) (lines : List (List ℕ)) → Knows tally kinds
    → (count_lines c s tally lines).end ≡ Ok final → final.stamps ≡ tally_of_kinds (kinds ++ kinds_after c tally.memory tally.lines tally.last lines)
unfolding count_lines kinds_after
lines_stamps {M} c s tally final kinds [] h e =
    ap (λ (z : Tally M). z.stamps) (sym (ok_is tally final e)) ∙ h.1 ∙ ap tally_of_kinds (sym (append-nil kinds))
lines_stamps {M} c s tally final kinds (line ∷ lines) h e =
    let first = count_line c s tally line in
    let next = then_is first.text first.end (λ z. count_lines c s z lines) final e in
    let own = instant_at c tally line in
    let at = tally_at c tally line own in
    let bucket = bucket_at c own in
    let after = tally_by at bucket in
    let same = line_is c s tally next.0 line next.1 in
    let kind = next_kind c tally line in
    let rest : (count_lines c s after lines).end ≡ Ok final = ap (λ (z : Tally M). (count_lines c s z lines).end) same ∙ next.2 in
    lines_stamps c s after final (kinds ++ kind ∷ []) lines (known_more c tally kinds line bucket h) rest
    ∙ ap (λ (z : M). tally_of_kinds ((kinds ++ kind ∷ []) ++ kinds_after c z after.lines after.last lines)) (memory_by at bucket)
    ∙ ap₂ (λ (n : ℕ) (z : Option ℤ). tally_of_kinds ((kinds ++ kind ∷ []) ++ kinds_after c at.memory n z lines)) (lines_by at bucket)
    (last_by at bucket)
    ∙ ap tally_of_kinds (append_assoc kinds (kind ∷ []) (kinds_after c at.memory (one_more tally.lines) (option_or own tally.last) lines))

-- the lines of an input that ends well
pub input_stamps : {M : Type 0} (c : Counting M) (s : Bool) (input text : List ℕ) (tally : Tally M)
    → count_lines c s (first_tally c) (lines_of input) ≡ outcome text (Ok tally)
    → tally.stamps ≡ stamp_tally c input
unfolding stamp_tally
input_stamps {M} c s input text tally e =
    lines_stamps c s (first_tally c) tally [] (lines_of input) (refl, sym tally_of_kinds-nil) (ap (λ (z : Counted M). z.end) e)
