use Rattle.std.proofs.Common.{refl, sym, inl, inr, subst, ap, Ok, Err, ◌≡◌, ◌∙◌, ℕ, List, [], length, take}
use Rattle.zone_files.specs.FileZoneLemmas.{rows_of_rule}
use Rattle.zone_files.specs.Rules.{rule_parts}
use Rattle.muxandu_c.specs.Outcomes.{outcome_of}
use Rattle.muxandu_c.specs.ZoneNumbers.{StandsFor}
use Rattle.muxandu_c.specs.declared.zone_numbers.MuxanduTransition.{MuxanduTransition}
use Rattle.muxandu_c.proofs.zone_reads.muxandu_zone_from_text.Goals as goal

pub returns-in-Err : goal.returns-in-Err
returns-in-Err c =
    (Err c.fault_of_rule.result, inl (c.in-Err.refusal, sym c.in-Err.ensures.reading, c.fault_of_rule.ensures), (c.outcome_of.ensures, refl))

pub returns-in-Some : goal.returns-in-Some
returns-in-Some c =
    let z = c.in-Some.found in
    let none : z.rows ≡ [] = rows_of_rule _ z c.in-Some.ensures.some in
    let front : take (length z.rows) c.write_zone.new.table ≡ [] = rw none refl in
    let size : c.write_zone.result ≡ 0 = c.write_zone.ensures.count ∙ ap length none in (
      Ok z,
      (rule_parts c.in-Ok.rule, sym c.in-Ok.ensures.reading, c.in-Some.ensures.some),
      (
        c.outcome_of-in-Some.ensures ∙ ap (λ (n : ℕ). outcome_of (Ok n)) size,
        subst (λ (rows : List MuxanduTransition). StandsFor c.write_zone.new.out rows z) front c.write_zone.ensures.stands,
      ),
    )

pub returns-in-None : goal.returns-in-None
returns-in-None c = (
  Err c.fault_of_zone.result,
  inr (rule_parts c.in-Ok.rule, sym c.in-Ok.ensures.reading, c.in-None.ensures.none, c.fault_of_zone.ensures),
  (c.outcome_of-in-None.ensures, refl),
)
