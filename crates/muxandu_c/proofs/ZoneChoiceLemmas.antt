-- The numbers of choices, and the reasons of the parts of a file.
use Rattle.std.proofs.Common.{◌≡◌, ◌∙◌, ℕ, ◌<◌, Option, Some, None, Err, arith, refl, sym, ap}
use Rattle.std.proofs.lemmas.Bool.Decides.{nat_tests}
use Rattle.std.specs.Prelude.{◌==◌, if◌then◌else◌}
use Rattle.zone_files.specs.declared.faults.RuleFault.TheVariants as rule_part
use Rattle.zone_files.specs.declared.file_faults.FilePart.{FilePart}
use Rattle.zone_files.specs.declared.file_faults.FilePart.TheVariants as part
use Rattle.muxandu_c.specs.ZoneChoices.{choice_numbered}
use Rattle.muxandu_c.specs.ZoneLaws.{ChoicesAreNumbered, ReasonsAreApart}
use Rattle.muxandu_c.specs.ZoneReads.{reason_of_part}
use Rattle.muxandu_c.specs.declared.refused.Refused.TheVariants as refused
use Rattle.muxandu_c.specs.declared.zone_choices.Choice.TheVariants as choices

others : (number : ℕ) → 4 < number → choice_numbered number ≡ Err refused.Unit
others number more = grind (arith, nat_tests)

pub numbered : ChoicesAreNumbered
numbered = record {
  compatible = record { choice = choices.Compatible; numbered = refl; taken = λ times. refl };
  earlier = record { choice = choices.Earlier; numbered = refl; taken = λ times. refl };
  later = record { choice = choices.Later; numbered = refl; taken = λ times. refl };
  reject = record { choice = choices.Reject; numbered = refl; taken = λ times. refl };
  zero = refl;
  others = others;
}

-- the part of a reason
abbrev part_of : ℕ → Option FilePart
part_of number =
    if number == 44 then Some part.Length
    else (if number == 45 then Some part.Magic
    else (if number == 46 then Some part.Version
    else (if number == 61 then Some part.LeapSeconds
    else (if number == 47 then Some part.Count
    else (if number == 48 then Some part.Offset
    else (if number == 49 then Some part.Daylight
    else (if number == 50 then Some part.Designation
    else (if number == 51 then Some part.Names
    else (if number == 52 then Some part.Index
    else (if number == 53 then Some part.Footer
    else (if number == 54 then Some (part.Rule rule_part.Name)
    else (if number == 55 then Some (part.Rule rule_part.Digit)
    else (if number == 56 then Some (part.Rule rule_part.Range)
    else (if number == 57 then Some (part.Rule rule_part.Byte)
    else None))))))))))))))

part_of-reason : (p : FilePart) → part_of (reason_of_part p) ≡ Some p
part_of-reason part.Length = refl
part_of-reason part.Magic = refl
part_of-reason part.Version = refl
part_of-reason part.LeapSeconds = refl
part_of-reason part.Count = refl
part_of-reason part.Offset = refl
part_of-reason part.Daylight = refl
part_of-reason part.Designation = refl
part_of-reason part.Names = refl
part_of-reason part.Index = refl
part_of-reason part.Footer = refl
part_of-reason (part.Rule rule_part.Name) = refl
part_of-reason (part.Rule rule_part.Digit) = refl
part_of-reason (part.Rule rule_part.Range) = refl
part_of-reason (part.Rule rule_part.Byte) = refl

abbrev or_one : FilePart → Option FilePart → FilePart
or_one one (Some other) = other
or_one one None = one

same : (one other : FilePart) → ◌≡◌ {A = Option FilePart} (Some one) (Some other) → one ≡ other
same one other h = ap (λ (found : Option FilePart). or_one one found) h

pub apart : ReasonsAreApart
apart one other h = same one other (sym (part_of-reason one) ∙ ap part_of h ∙ part_of-reason other)
