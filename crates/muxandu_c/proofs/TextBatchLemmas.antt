-- A text that spells numbers, or has not the form, by the numbers that are read of it.
use Rattle.std.proofs.Common.{◌≡◌, ◌⊎◌, inl, inr, ℕ, List, Option, Some, None, refl, sym, ◌∙◌, Result, Err}
use Rattle.rfc3339.specs.Form.{IsDateTime}
use Rattle.rfc3339.specs.Reading.{parts_at}
use Rattle.rfc3339.specs.TextLemmas.{parts_takes, parts_again}
use Rattle.rfc3339.specs.declared.parts.Parts.{Parts}
use Rattle.muxandu_c.specs.Exchange.{date_time_spelled}
use Rattle.muxandu_c.specs.TextBatches.{date_time_if_any, date_time_read}
use Rattle.muxandu_c.specs.declared.refused.Refused.{Refused}
use Rattle.muxandu_c.specs.declared.refused.Refused.TheVariants as refused
use Rattle.muxandu_c.specs.declared.values.MuxanduDateTime.{MuxanduDateTime}

by_parts : (text : List ℕ) (r : Result MuxanduDateTime Refused) (o : Option Parts) → parts_at text ≡ o
    → ((p : Parts) → IsDateTime text p → r ≡ date_time_spelled p) → ((p : Parts) × IsDateTime text p) ⊎ (r ≡ Err refused.Syntax)
    → r ≡ date_time_if_any o
by_parts text r (Some p) e spelled syntax = spelled p (parts_takes text p e)
by_parts text r None e spelled (inl (p, h)) = let bad = sym e ∙ parts_again text p h in absurd cc
by_parts text r None e spelled (inr none) = none

pub read_by_parts : (text : List ℕ) (r : Result MuxanduDateTime Refused) → ((p : Parts) → IsDateTime text p → r ≡ date_time_spelled p)
    → ((p : Parts) × IsDateTime text p) ⊎ (r ≡ Err refused.Syntax) → r ≡ date_time_read text
read_by_parts text r spelled syntax = by_parts text r (parts_at text) refl spelled syntax
