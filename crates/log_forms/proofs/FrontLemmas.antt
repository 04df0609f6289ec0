-- The front of a line.
use Rattle.std.proofs.Common.{◌≡◌, ◌≤◌, ◌-◌, ◌==◌, ◌∙◌, ℕ, List, [], Ok, Some, length, take, refl, sym, ap, arith}
use Rattle.std.specs.Char.{is_ascii_digit}
use Rattle.std.specs.List.{take_while}
use Rattle.std.proofs.lemmas.List.{length-take, take_all}
use Rattle.format_descriptions.specs.Read.{no_parts, read_from}
use Rattle.log_forms.specs.Stamps.{front_reading, has_digits, has_digits_behind, has_digits_if, stamp_after, stamp_behind, stamp_in}
use Rattle.log_forms.specs.declared.form.Form.{Form}
use Rattle.log_forms.specs.declared.instants.Assumed.{Assumed}

pub front_whole : (line : List ℕ) → length line ≤ 65533 → line ≡ take 65533 line
front_whole line short = sym (take_all 65533 line short)

pub front_short : (line : List ℕ) → length (take 65533 line) ≤ 65533
front_short line = omega (arith, length-take 65533 line)

pub front_shorter : (line : List ℕ) → length (take 65533 line) ≤ length line
front_shorter line = omega (arith, length-take 65533 line)

pub ruleset fronts = (front_whole, front_short, front_shorter)

-- no items read nothing
no_items_read : (text : List ℕ) → front_reading [] text ≡ Ok (no_parts, 0)
unfolding read_from
no_items_read text = let none : length text - length text ≡ 0 = omega arith in rw none refl

-- with nothing before a stamp, it is at the front
pub behind_nothing : (form : Form) (assumed : Assumed) (front text : List ℕ) → form.lead ≡ []
    → stamp_in form assumed front text ≡ stamp_behind form assumed front text
behind_nothing form assumed front text none =
    sym (ap (λ items. stamp_after form assumed front text (front_reading items text)) none ∙
    ap (λ read. stamp_after form assumed front text read) (no_items_read text))

-- digits that are counted at the front
pub counted_in_front : (form : Form) (text : List ℕ) (digits : ℕ) → Some digits ≡ form.digits → form.ahead ≡ 0
    → (length (take_while is_ascii_digit text) == digits) ≡ has_digits form text
counted_in_front form text digits counted none =
    sym (ap (λ d. has_digits_if (take form.ahead form.items) text d) (sym counted) ∙
    (ap (λ n. has_digits_behind digits text (front_reading (take n form.items) text)) none ∙
    ap (λ read. has_digits_behind digits text read) (no_items_read text)))
