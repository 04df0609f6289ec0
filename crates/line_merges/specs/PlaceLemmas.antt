-- The place after lines.
use Rattle.std.proofs.Common.{◌≡◌, refl, sym, ap, ap₂, ◌∙◌, ℕ, ◌+◌, false, true, List, [], ◌∷◌, ◌++◌, length, length-append, Option, Some, None, arith}
use Rattle.std.proofs.Common.{append_assoc, append-nil}
use Rattle.std.specs.Option.{option_or}
use Rattle.std.specs.Prelude.{map}
use Rattle.line_devices.specs.Lines.{pieces_of, whole_lines_of}
use Rattle.line_devices.specs.StampTallies.{as_count, one_more_count, tally_after, tally_of_kinds}
use Rattle.line_devices.specs.StampTallyLemmas.{tally_of_kinds-nil, tally_of_kinds-push}
use Rattle.line_devices.specs.declared.stamp_tallies.LineKind.{LineKind}
use Rattle.line_devices.specs.declared.stamp_tallies.StampTally.{StampTally}
use Rattle.line_merges.specs.Instants.{LogReading}
use Rattle.line_merges.specs.Lines.{Line, back_of, first_back, first_place, last_piece, line_at, lines_at, lines_from, log_lines}
use Rattle.line_merges.specs.Lines.{place_after, place_after_lines, reading_after, stamp_tally}
use Rattle.line_merges.specs.declared.logs.Place.{Place}

or_none : (a : Option ℕ) → option_or a None ≡ a
or_none None = refl
or_none (Some a) = refl

or_assoc : (a b c : Option ℕ) → option_or (option_or a b) c ≡ option_or a (option_or b c)
or_assoc None b c = refl
or_assoc (Some a) b c = refl

-- it has the first line that goes back
pub place-back : (place : Place) (lines : List Line) → (place_after_lines place lines).back ≡ option_or place.back (first_back lines)
unfolding place_after_lines first_back
place-back place [] = sym (or_none place.back)
place-back place (line ∷ lines) = place-back (place_after place line) lines ∙ or_assoc place.back (back_of line) (first_back lines)

-- the kinds of lines
abbrev kinds_of : List Line → List LineKind
kinds_of lines = map (λ line. line.kind) lines

-- the place knows lines of these kinds
abbrev Knows : Place → List LineKind → Type 0
Knows place kinds = (place.lines ≡ as_count (length kinds)) × (place.stamps ≡ tally_of_kinds kinds)

known_more : (place : Place) (kinds : List LineKind) (line : Line) → line.number ≡ one_more_count place.lines → Knows place kinds
    → Knows (place_after place line) (kinds ++ line.kind ∷ [])
known_more place kinds line is h =
    let number : line.number ≡ as_count (length kinds + 1) = omega (arith, h.0, is) in (
      number ∙ ap as_count (sym (length-append kinds (line.kind ∷ []))),
      ap₂ (λ (z : StampTally) (n : ℕ). tally_after z n line.kind) h.1 number ∙ sym (tally_of_kinds-push kinds line.kind),
    )

-- it has the tally of the lines
lines-stamps : {M : Type 0} (instant : LogReading M) (place : Place) (kinds : List LineKind) (lines : List (List ℕ)) (rest : List ℕ) → Knows place kinds
    → (place_after_lines place (lines_at instant place lines rest)).stamps ≡ tally_of_kinds (kinds ++ kinds_of (lines_at instant place lines rest))
unfolding place_after_lines lines_at
lines-stamps instant place kinds [] [] h = h.1 ∙ ap tally_of_kinds (sym (append-nil kinds))
lines-stamps instant place kinds [] (byte ∷ rest) h = (known_more place kinds (line_at instant place (byte ∷ rest) false) refl h).1
lines-stamps instant place kinds (bytes ∷ lines) rest h =
    let line = line_at instant place bytes true in
    let after = place_after place line in
    lines-stamps (reading_after instant line) after (kinds ++ line.kind ∷ []) lines rest (known_more place kinds line refl h)
    ∙ ap tally_of_kinds (append_assoc kinds (line.kind ∷ []) (kinds_of (lines_at (reading_after instant line) after lines rest)))

pub log-stamps : {M : Type 0} (instant : LogReading M) (log : List ℕ)
    → (place_after_lines first_place (log_lines instant log)).stamps ≡ stamp_tally (log_lines instant log)
unfolding log_lines lines_from stamp_tally
log-stamps instant log =
    lines-stamps instant first_place [] (whole_lines_of log) (last_piece (pieces_of log)) (refl, sym tally_of_kinds-nil)

-- that of a log has the tally of its lines
pub place-stamps : {M : Type 0} (instant : LogReading M) (log : List ℕ) (place : Place) → place ≡ place_after_lines first_place (log_lines instant log)
    → place.stamps ≡ stamp_tally (log_lines instant log)
place-stamps instant log place is = ap (λ (z : Place). z.stamps) is ∙ log-stamps instant log

-- the rule that callers name
pub ruleset places = place-stamps
