-- The first bytes of a line decide on its instant.
use Rattle.std.proofs.Common.{◌≡◌, ℕ, ◌≤◌, Bool, true, false, nat_eq, List, ◌++◌, length, take, drop, sym, ap, ◌∙◌, inl, inr, arith, length-take}
use Rattle.std.proofs.Common.{refl, take-append-drop}
use Rattle.std.proofs.lemmas.Bool.{cases_lt}
use Rattle.std.proofs.lemmas.List.{length-drop, take_all, take-append-le, drop-append-le}
use Rattle.std.specs.Cmp.Lexicographic.{pointwise}
use Rattle.std.specs.Prelude.{◌&&◌, if◌then◌else◌, ℤ, Option, Result, Ok, Err}
use Rattle.log_forms.specs.Years.{assumed_after}
use Rattle.log_forms.specs.declared.places.Place.{Place}
use Rattle.log_forms.specs.declared.stamps.Stamp as forms
use Rattle.log_forms.specs.declared.stamps.StampRefusal.{StampRefusal}
use Rattle.log_forms.specs.declared.stamps.StampRefusal.TheVariants as form
use Rattle.rfc3339.specs.Reading.{front_at}
use Rattle.stamps.specs.LineInstants.{line_instant, stamp_instant}
use Rattle.stamps.specs.LineStamps.{byte_order_mark, front_stamp, has_mark, mark_length, stamp_of}
use Rattle.stamps.specs.Readers.{form_stamp, formed_at, in_line, is_json, json_kind, line_stamp, plain_at, stamp_behind, value_kind}
use Rattle.stamps.specs.Zoned.{zone_of}
use Rattle.stamps.specs.ZonedLemmas.{assumed_stamp-longer}
use Rattle.stamps.specs.declared.readers.Reader.{Reader}
use Rattle.stamps.specs.declared.readers.Reader.TheVariants.{Plain, Formed}
use Rattle.stamps.specs.declared.readers.ValueKind.{ValueKind}
use Rattle.stamps.specs.declared.readers.ValueKind.TheVariants.{Other}

mark-longer : (is_first : Bool) (line part : List ℕ) → 3 ≤ length line → has_mark is_first (line ++ part) ≡ has_mark is_first line
unfolding has_mark
mark-longer is_first line part long =
    ap (λ (z : List ℕ). is_first && pointwise nat_eq byte_order_mark z) (take-append-le 3 line part long)

mark-short : (marked : Bool) → mark_length marked ≤ 3
mark-short true = omega arith
mark-short false = omega arith

stamp-longer : (line part : List ℕ) → 65533 ≤ length line → stamp_of (line ++ part) ≡ stamp_of line
unfolding stamp_of
stamp-longer line part long = ap (λ (z : List ℕ). front_stamp z (front_at z)) (take-append-le 65533 line part long)

value_kind-longer : (place : Place) (line part : List ℕ) (stamp : forms.Stamp) → 65533 ≤ length line
    → value_kind place (line ++ part) stamp ≡ value_kind place line stamp
value_kind-longer place line part stamp long =
    ap (λ (z : List ℕ). if is_json place then json_kind z stamp else Other) (take-append-le 65533 line part long)

pub formed_at-longer : (before : ℕ) (place : Place) (line part : List ℕ) (r : Result forms.Stamp StampRefusal) → 65533 ≤ length line
    → formed_at before place (line ++ part) r ≡ formed_at before place line r
formed_at-longer before place line part (Ok stamp) long =
    ap (λ (kind : ValueKind). Ok (in_line before kind stamp)) (value_kind-longer place line part stamp long)
formed_at-longer before place line part (Err form.Absent) long = refl
formed_at-longer before place line part (Err (form.Part refusal)) long = refl

behind-longer : (reader : Reader) (last : Option ℤ) (before : ℕ) (text part : List ℕ) → 65533 ≤ length text
    → stamp_behind reader last before (text ++ part) ≡ stamp_behind reader last before text
behind-longer Plain last before text part long = ap (plain_at before) (stamp-longer text part long)
behind-longer (Formed by) last before text part long =
    formed_at-longer before by.place text part (form_stamp by last (text ++ part)) long
    ∙ ap (formed_at before by.place text) (assumed_stamp-longer (zone_of by) by (assumed_after by.assumed last) text part long)

line_stamp-longer : (reader : Reader) (last : Option ℤ) (is_first : Bool) (line part : List ℕ) → 65536 ≤ length line
    → line_stamp reader last is_first (line ++ part) ≡ line_stamp reader last is_first line
line_stamp-longer reader last is_first line part long =
    let before = mark_length (has_mark is_first line) in
    let short = mark-short (has_mark is_first line) in
    let text = drop before line in
    let most : 65533 ≤ length text = omega (arith, long, short, length-drop before line) in
    ap (λ (z : Bool). stamp_behind reader last (mark_length z) (drop (mark_length z) (line ++ part)))
    (mark-longer is_first line part (omega (arith, long)))
    ∙ ap (stamp_behind reader last before) (drop-append-le before line part (omega (arith, long, short)))
    ∙ behind-longer reader last before text part most

pub line_instant-by_head : (reader : Reader) (last : Option ℤ) (is_first : Bool) (line : List ℕ)
    → line_instant reader last is_first (take 65536 line) ≡ line_instant reader last is_first line
unfolding line_instant
line_instant-by_head reader last is_first line =
    elim (cases_lt 65536 (length line)) [
      | inl more ↦
          let long : 65536 ≤ length (take 65536 line) = omega (arith, more, length-take 65536 line) in
          let whole = ap stamp_instant (sym (line_stamp-longer reader last is_first (take 65536 line) (drop 65536 line) long)) in
          rw (take-append-drop 65536 line) at whole
      | inr all ↦ ap (line_instant reader last is_first) (take_all 65536 line all)
    ]
