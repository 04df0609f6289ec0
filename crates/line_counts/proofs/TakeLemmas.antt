-- What a line comes to, by its bucket.
use Rattle.std.proofs.Common.{◌≡◌, ℕ, Bool, true, false, cond, List, ◌++◌, Option, Some, None, Ok, Err, ℤ, refl, sym, ap, subst, ◌∙◌}
use Rattle.std.specs.Io.KnownBytes.{Appends}
use Rattle.line_counts.specs.Counting.{Counting}
use Rattle.line_counts.specs.Counts.{Counted, bucket_at, count_by, count_line, count_own, outcome, fault_of, goes_back, instant_at, last_row, next_line}
use Rattle.line_counts.specs.Counts.{rows_by, tally_at, tally_by}
use Rattle.line_counts.specs.Progress.{Falls}
use Rattle.line_counts.specs.declared.tallies.CountFault.{CountFault}
use Rattle.line_counts.specs.declared.tallies.CountFault.TheVariants.{Read, Write, Missing, Back}
use Rattle.line_counts.specs.declared.tallies.Tally.{Tally}

-- a line, by its instant and its bucket
line_known : {M : Type 0} (c : Counting M) (s : Bool) (tally at : Tally M) (line : List ℕ) (own bucket : Option ℤ) → own ≡ instant_at c tally line
    → at ≡ tally_at c tally line own
    → bucket ≡ bucket_at c own → count_line c s tally line ≡ count_by c (fault_of s at bucket) at bucket
unfolding count_line
line_known {M} c s tally at line own bucket i a b =
    ap (count_own c s tally line) (sym i) ∙ ap (λ (z : Tally M). count_by c (fault_of s z (bucket_at c own)) z (bucket_at c own)) (sym a)
    ∙ ap (λ (z : Option ℤ). count_by c (fault_of s at z) at z) (sym b)

-- a line that ends the run
pub line_at_fault : {M : Type 0} (c : Counting M) (s : Bool) (tally at : Tally M) (line : List ℕ) (own bucket : Option ℤ) (fault : CountFault)
    → own ≡ instant_at c tally line
    → at ≡ tally_at c tally line own → bucket ≡ bucket_at c own → Some fault ≡ fault_of s at bucket
    → count_line c s tally line ≡ outcome (last_row c at.row) (Err fault)
line_at_fault c s tally at line own bucket fault i a b e =
    line_known c s tally at line own bucket i a b ∙ ap (λ (z : Option CountFault). count_by c z at bucket) (sym e)

-- any other line
pub line_passed : {M : Type 0} (c : Counting M) (s : Bool) (tally at : Tally M) (line : List ℕ) (own bucket : Option ℤ) → own ≡ instant_at c tally line
    → at ≡ tally_at c tally line own → bucket ≡ bucket_at c own → None ≡ fault_of s at bucket
    → count_line c s tally line ≡ outcome (rows_by c at.row bucket) (Ok (tally_by at bucket))
line_passed c s tally at line own bucket i a b e =
    line_known c s tally at line own bucket i a b ∙ ap (λ (z : Option CountFault). count_by c z at bucket) (sym e)

-- a line is at fault by itself
no_read_if : (b : Bool) (n : ℕ) → Some Read ≡ cond b (Some (Back n)) None → ⊥
no_read_if true n e = cc
no_read_if false n e = cc

no_write_if : (b : Bool) (n : ℕ) → Some Write ≡ cond b (Some (Back n)) None → ⊥
no_write_if true n e = cc
no_write_if false n e = cc

no_read : {M : Type 0} (s : Bool) (tally : Tally M) (bucket : Option ℤ) → Some Read ≡ fault_of s tally bucket → ⊥
no_read false tally bucket e = cc
no_read true tally None e = cc
no_read true tally (Some start) e = no_read_if (goes_back tally.row start) (next_line tally) e

no_write : {M : Type 0} (s : Bool) (tally : Tally M) (bucket : Option ℤ) → Some Write ≡ fault_of s tally bucket → ⊥
no_write false tally bucket e = cc
no_write true tally None e = cc
no_write true tally (Some start) e = no_write_if (goes_back tally.row start) (next_line tally) e

pub falls_at : {M : Type 0} (c : Counting M) (s : Bool) (tally at : Tally M) (line : List ℕ) (own bucket : Option ℤ) (fault : CountFault) (old new : Option
    (List ℕ))
    (before : List ℕ) → own ≡ instant_at c tally line → at ≡ tally_at c tally line own → bucket ≡ bucket_at c own → Some fault ≡ fault_of s at bucket
    → Appends old new (before ++ last_row c at.row) → Falls fault (count_line c s tally line) old new before
falls_at c s tally at line own bucket Read old new before i a b e h = absurd (no_read s at bucket e)
falls_at c s tally at line own bucket Write old new before i a b e h = absurd (no_write s at bucket e)
falls_at {M} c s tally at line own bucket (Missing n) old new before i a b e h =
    let run = line_at_fault c s tally at line own bucket (Missing n) i a b e in
    (subst (λ (z : Counted M). Appends old new (before ++ z.text)) (sym run) h, ap (λ (z : Counted M). z.end) run)
falls_at {M} c s tally at line own bucket (Back n) old new before i a b e h =
    let run = line_at_fault c s tally at line own bucket (Back n) i a b e in
    (subst (λ (z : Counted M). Appends old new (before ++ z.text)) (sym run) h, ap (λ (z : Counted M). z.end) run)

-- a result that is no fault is none
pub no_fault : (result fault : Option CountFault) → result ≡ fault → ((by : CountFault) → result ≡ Some by → ⊥) → None ≡ fault
no_fault None fault e none = e
no_fault (Some by) fault e none = absurd (none by refl)
