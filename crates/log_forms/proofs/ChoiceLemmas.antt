-- The best of the first readers, by the one before the last.
use Rattle.std.proofs.Common.{◌≡◌, ◌≢◌, ◌≤◌, ◌<◌, ℕ, zero, suc, ◌+◌, ◌*◌, ◌-◌, Bool, true, false, List, Option, Some, None, refl, sym, ap, ◌∙◌, arith, take}
use Rattle.std.specs.Prelude.{◌||◌, ◌/◌, if◌then◌else◌, drop, length, Result, Ok, Err}
use Rattle.std.specs.Result.{is_ok}
use Rattle.std.proofs.lemmas.Nat.{div-mul-add}
use Rattle.log_forms.specs.Choices.{any_reads, best_of, better_of, count_in, count_read, found_by, key_numbered, place_numbered}
use Rattle.log_forms.specs.Choices.{reader_key, reader_place, reads}
use Rattle.log_forms.specs.Places.{text_at}
use Rattle.format_descriptions.specs.declared.parts.Parts.{Parts}
use Rattle.log_forms.specs.Choices.{reader_form, some_year}
use Rattle.log_forms.specs.Forms.{form_named, items_of, lead_of}
use Rattle.log_forms.specs.Stamps.{fits, fits_after, front_reading, has_digits, read_stamp, stamp_after, stamp_at, stamp_at_text}
use Rattle.log_forms.specs.declared.form.Form.{Form}
use Rattle.log_forms.specs.declared.instants.Assumed.{Assumed}
use Rattle.log_forms.specs.declared.stamps.StampRefusal.TheVariants.{Absent}
use Rattle.std.proofs.Math.Bool.{or-false, or_assoc}

-- the same, by a number that is one less
best_behind : (readers reader : ℕ) (lines : List (List ℕ)) → readers ≡ suc reader
    → best_of readers lines ≡ better_of (best_of reader lines) reader (count_read reader lines)
unfolding best_of
best_behind readers reader lines e = rw e refl

pub best_at : (readers : ℕ) (lines : List (List ℕ)) → readers ≢ 0
    → best_of readers lines ≡ better_of (best_of (readers - 1) lines) (readers - 1) (count_read (readers - 1) lines)
best_at readers lines some = best_behind readers (readers - 1) lines (omega (arith, some))

pub best_zero : (lines : List (List ℕ)) → best_of 0 lines ≡ (0, 0)
unfolding best_of
best_zero lines = refl

pub ruleset best_next = (best_at, best_zero)

-- whether one of the first readers reads a line, by a number that is one less
any_behind : (readers reader : ℕ) (line : List ℕ) → readers ≡ suc reader → any_reads readers line ≡ (any_reads reader line || reads reader line)
unfolding any_reads
any_behind readers reader line e = rw e refl

pub any_zero : (line : List ℕ) → any_reads 0 line ≡ false
unfolding any_reads
any_zero line = refl

-- ---- the forms at a place

-- one form more, behind one that reads the line and behind none
one_more : (place forms : ℕ) (line : List ℕ) (before : Bool) → 1 ≤ forms
    → any_reads (place * 42 + (forms - 1)) line ≡ (any_reads (place * 42) line || before)
    → any_reads (place * 42 + forms) line ≡ (any_reads (place * 42) line || (before || reads (place * 42 + (forms - 1)) line))
one_more place forms line before some h =
    any_behind (place * 42 + forms) (place * 42 + (forms - 1)) line (omega (arith, some))
    ∙ ap (λ (z : Bool). z || reads (place * 42 + (forms - 1)) line) h
    ∙ or_assoc (any_reads (place * 42) line) before (reads (place * 42 + (forms - 1)) line)

pub read_before : (place forms : ℕ) (line : List ℕ) (before : Bool) → 1 ≤ forms
    → any_reads (place * 42 + (forms - 1)) line ≡ (any_reads (place * 42) line || before) → before ≡ true
    → any_reads (place * 42 + forms) line ≡ (any_reads (place * 42) line || before)
read_before place forms line before some h e = one_more place forms line before some h ∙ rw e refl

pub read_here : (place forms : ℕ) (line : List ℕ) (before : Bool) → 1 ≤ forms
    → any_reads (place * 42 + (forms - 1)) line ≡ (any_reads (place * 42) line || before) → before ≡ false
    → any_reads (place * 42 + forms) line ≡ (any_reads (place * 42) line || reads (place * 42 + (forms - 1)) line)
read_here place forms line before some h e = one_more place forms line before some h ∙ rw e refl

-- ---- no form reads a line that lacks its place

none_counted : (reader : ℕ) (line : List ℕ) → text_at (reader_place reader) (reader_key reader) (take 65533 line) ≡ None → reads reader line ≡ false
unfolding found_by count_in stamp_at
none_counted reader line none = rw none refl

-- the forms of a place have one place
same_text : (place form : ℕ) (line : List ℕ) → form < 42
    → text_at (reader_place (place * 42 + form)) (reader_key (place * 42 + form)) (take 65533 line)
    ≡ text_at (reader_place (place * 42)) (reader_key (place * 42)) (take 65533 line)
same_text place form line low =
    let first : (place * 42) / 42 ≡ place = ap (λ (z : ℕ). z / 42) (omega arith) ∙ div-mul-add place 42 0 (omega arith) in
    let same : (place * 42 + form) / 42 ≡ (place * 42) / 42 = div-mul-add place 42 form low ∙ sym first in
    ap (λ (z : ℕ). text_at (place_numbered z) (key_numbered z) (take 65533 line)) same

none_at : (place forms : ℕ) (line : List ℕ) → forms ≤ 42 → text_at (reader_place (place * 42)) (reader_key (place * 42)) (take 65533 line) ≡ None
    → any_reads (place * 42 + forms) line ≡ any_reads (place * 42) line
none_at place zero line low none = ap (λ (z : ℕ). any_reads z line) (omega arith)
none_at place (suc forms) line low none =
    any_behind (place * 42 + suc forms) (place * 42 + forms) line (omega arith)
    ∙ ap (λ (z : Bool). any_reads (place * 42 + forms) line || z)
    (none_counted (place * 42 + forms) line (same_text place forms line (omega (arith, low)) ∙ none))
    ∙ or-false (any_reads (place * 42 + forms) line)
    ∙ none_at place forms line (omega (arith, low)) none

-- ---- no form reads a line that its items do not fit

unfit_in : (form : Form) (assumed : Assumed) (front text : List ℕ) (d : Bool) (read : Result (Parts × ℕ) ℕ) → is_ok read ≡ false
    → (if d then read_stamp assumed front (length front - length text) text read else Err Absent) ≡ Err Absent
unfit_in form assumed front text true (Ok read) e = absurd cc
unfit_in form assumed front text true (Err place) e = refl
unfit_in form assumed front text false read e = refl

unfit_after : (form : Form) (assumed : Assumed) (front text : List ℕ) (lead : Result (Parts × ℕ) ℕ) → fits_after form.items text lead ≡ false
    → stamp_after form assumed front text lead ≡ Err Absent
unfit_after form assumed front text (Ok lead) e =
    let rest = drop lead.1 text in unfit_in form assumed front rest (has_digits form rest) (front_reading form.items rest) e
unfit_after form assumed front text (Err place) e = refl

-- no count without a stamp
unread : (reader : ℕ) (line : List ℕ)
    → stamp_at (form_named (reader_form reader)) (reader_place reader) (reader_key reader) some_year line ≡ Err Absent → reads reader line ≡ false
unfolding found_by count_in
unread reader line e = rw e refl

pub unfit : (place form : ℕ) (line rest : List ℕ) → form < 42
    → text_at (reader_place (place * 42)) (reader_key (place * 42)) (take 65533 line) ≡ Some rest
    → fits (lead_of (reader_form (place * 42 + form))) (items_of (reader_form (place * 42 + form))) rest ≡ false
    → reads (place * 42 + form) line ≡ false
unfolding stamp_at
unfit place form line rest low there e =
    let reader = place * 42 + form in
    let named = form_named (reader_form reader) in
    let front = take 65533 line in
    unread reader line (
    ap (stamp_at_text named some_year front) (same_text place form line low ∙ there)
    ∙ unfit_after named some_year front rest (front_reading (lead_of (reader_form reader)) rest) e
    )

-- ---- one place after another

still_read : (readers more : ℕ) (line : List ℕ) → any_reads readers line ≡ true → any_reads (readers + more) line ≡ true
still_read readers zero line e = ap (λ (z : ℕ). any_reads z line) (omega arith) ∙ e
still_read readers (suc more) line e =
    any_behind (readers + suc more) (readers + more) line (omega arith)
    ∙ ap (λ (z : Bool). z || reads (readers + more) line) (still_read readers more line e)

-- the number of readers at one place more
one_place : (places : ℕ) → 1 ≤ places → places * 42 ≡ (places - 1) * 42 + 42
one_place places some = omega (arith, some)

pub no_place : (places : ℕ) (line : List ℕ) → places ≡ 0 → false ≡ any_reads (places * 42) line
no_place places line e = rw e (sym (any_zero line))

pub place_before : (places : ℕ) (line : List ℕ) → 1 ≤ places → any_reads ((places - 1) * 42) line ≡ true → any_reads (places * 42) line ≡ true
place_before places line some e =
    ap (λ (z : ℕ). any_reads z line) (one_place places some) ∙ still_read ((places - 1) * 42) 42 line e

pub place_lacks : (place : ℕ) (line : List ℕ) → text_at (reader_place (place * 42)) (reader_key (place * 42)) (take 65533 line) ≡ None
    → any_reads (place * 42 + 42) line ≡ (any_reads (place * 42) line || false)
place_lacks place line none = none_at place 42 line (omega arith) none ∙ sym (or-false (any_reads (place * 42) line))

pub place_more : (places : ℕ) (line : List ℕ) (here : Bool) → 1 ≤ places → any_reads ((places - 1) * 42) line ≡ false
    → any_reads ((places - 1) * 42 + 42) line ≡ (any_reads ((places - 1) * 42) line || here) → any_reads (places * 42) line ≡ here
place_more places line here some none more =
    ap (λ (z : ℕ). any_reads z line) (one_place places some) ∙ more ∙ ap (λ (z : Bool). z || here) none
