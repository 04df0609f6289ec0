-- A line without a stamp stays as it is in a merge in one style.
use Rattle.std.proofs.Common.{◌≡◌, ◌++◌, List, ℕ, ap, ◌∙◌, drop, take, refl}
use Rattle.std.proofs.lemmas.List.{take-append-drop}
use Rattle.stamps.specs.FrontLaws.{BareLinesStay}
use Rattle.stamps.specs.FrontRuns.{front_turned, stamp_now}
use Rattle.stamps.specs.declared.fronted.Known.{Known}
use Rattle.stamps.specs.declared.fronted.Turning.{Turning}
use Rattle.stamps.specs.declared.readers.LineRefusal.{LineRefusal}
use Rattle.std.proofs.Common.{Err}

front_bare : (turning : Turning) (known : Known) (front : List ℕ) (refusal : LineRefusal) → stamp_now turning known front ≡ Err refusal
    → front_turned turning known front ≡ front
unfolding front_turned
front_bare turning known front refusal e = rw e refl

pub bare_lines : BareLinesStay
bare_lines turning known line refusal e =
    ap (λ (z : List ℕ). z ++ drop 65536 line) (front_bare turning known (take 65536 line) refusal e) ∙ take-append-drop 65536 line
