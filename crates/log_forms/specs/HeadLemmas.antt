-- The stamp of a line by its first bytes, for a caller whose type is one of the instants of lines.
use Rattle.std.proofs.Common.{◌≡◌, sym, ap, arith, ℕ, ◌≤◌, List, inl, inr, drop, length, length-take, take, take-append-drop}
use Rattle.std.proofs.lemmas.Bool.{cases_lt}
use Rattle.std.proofs.lemmas.List.{take_all}
use Rattle.log_forms.specs.Stamps.{stamp_at}
use Rattle.log_forms.specs.WithinLemmas.{stamp_at-longer}
use Rattle.log_forms.specs.declared.form.Form.{Form}
use Rattle.log_forms.specs.declared.instants.Assumed.{Assumed}
use Rattle.log_forms.specs.declared.places.Place.{Place}

-- the first 65,536 bytes decide on it
pub stamp_at-head : (form : Form) (place : Place) (text : List ℕ) (assumed : Assumed) (line : List ℕ)
    → stamp_at form place text assumed (take 65536 line) ≡ stamp_at form place text assumed line
stamp_at-head form place text assumed line =
    elim (cases_lt 65536 (length line)) [
      | inl more ↦
          let long : 65533 ≤ length (take 65536 line) = omega (arith, more, length-take 65536 line) in
          let whole = stamp_at-longer form place text assumed (take 65536 line) (drop 65536 line) long in
          sym (rw (take-append-drop 65536 line) at whole)
      | inr all ↦ ap (stamp_at form place text assumed) (take_all 65536 line all)
    ]

-- the rule that callers name
pub ruleset heads = stamp_at-head
