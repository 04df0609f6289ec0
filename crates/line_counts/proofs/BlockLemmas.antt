-- The parts of a block, one behind another.
use Rattle.std.proofs.Common.{◌≡◌, ℕ, ◌+◌, ◌-◌, ◌<◌, get_or, List, [], ◌∷◌, ◌++◌, length, take, drop, sym, ap, ◌∙◌, arith, append_assoc}
use Rattle.std.proofs.Math.Seq.{take-add}
use Rattle.std.proofs.lemmas.List.{length-drop, take_all}
use Rattle.std.specs.List.{between}
use Rattle.line_devices.specs.LineLemmas.{take-line_feed}
use Rattle.line_counts.proofs.StandLemmas.{part_split}

-- the rest of a block
pub between-end : (block : List ℕ) (place : ℕ) → between place (length block) block ≡ drop place block
between-end block place = take_all (length block - place) (drop place block) (omega (arith, length-drop place block))

-- up to a place, and so many bytes behind it
pub front_joined : (taken block : List ℕ) (place count : ℕ)
    → (taken ++ take place block) ++ take count (between place (length block) block) ≡ taken ++ take (place + count) block
front_joined taken block place count =
    ap (λ (z : List ℕ). (taken ++ take place block) ++ take count z) (between-end block place)
    ∙ append_assoc taken (take place block) (take count (drop place block)) ∙ ap (λ (z : List ℕ). taken ++ z) (sym (take-add place count block))

-- up to a place, and what follows it
pub rest_joined : (taken block : List ℕ) (place : ℕ) → (taken ++ take place block) ++ between place (length block) block ≡ taken ++ block
rest_joined taken block place =
    ap (λ (z : List ℕ). (taken ++ take place block) ++ z) (between-end block place) ∙ part_split taken block place

-- up to a line feed, and with it
pub line_joined : (taken text : List ℕ) (end : ℕ) → end < length text → get_or text end 0 ≡ 10
    → (taken ++ take end text) ++ 10 ∷ [] ≡ taken ++ take (end + 1) text
line_joined taken text end low is =
    append_assoc taken (take end text) (10 ∷ []) ∙ ap (λ (z : List ℕ). taken ++ z) (sym (take-line_feed text end low is))

-- what follows a line, and then what follows the text
pub line_rejoined : (taken text more : List ℕ) (end : ℕ) → end < length text → get_or text end 0 ≡ 10
    → ((taken ++ take end text) ++ 10 ∷ []) ++ (drop (end + 1) text ++ more) ≡ (taken ++ text) ++ more
line_rejoined taken text more end low is =
    ap (λ (z : List ℕ). z ++ (drop (end + 1) text ++ more)) (line_joined taken text end low is)
    ∙ sym (append_assoc (taken ++ take (end + 1) text) (drop (end + 1) text) more) ∙ ap (λ (z : List ℕ). z ++ more) (part_split taken text (end + 1))
