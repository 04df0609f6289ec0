-- The law of a merge in one style, for the owner of a log. A function of `src/laws.rt` proves it.
use Rattle.std.specs.Prelude.{◌≡◌, List, ℕ, take, Err}
use Rattle.stamps.specs.FrontRuns.{line_turned, stamp_now}
use Rattle.stamps.specs.LineStamps.{longest_head}
use Rattle.stamps.specs.declared.fronted.Known.{Known}
use Rattle.stamps.specs.declared.fronted.Turning.{Turning}
use Rattle.stamps.specs.declared.readers.LineRefusal.{LineRefusal}

-- a merge in one style leaves a line without a stamp as it is, whatever its length
abbrev pub BareLinesStay : Type 0
BareLinesStay =
    (turning : Turning) (known : Known) (line : List ℕ) (refusal : LineRefusal) → stamp_now turning known (take longest_head line) ≡ Err refusal
    → line_turned turning known line ≡ line
