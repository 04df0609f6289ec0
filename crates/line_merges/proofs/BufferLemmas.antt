-- Reads behind the bytes of a buffer, which are moved to the front of its block.
use Rattle.std.proofs.Common.{◌≡◌, ℕ, ◌+◌, ◌-◌, ◌<◌, ◌≤◌, List, ◌++◌, length, take, drop, Option, arith, sym, ap}
use Rattle.std.proofs.Common.{subst, ◌∙◌}
use Rattle.std.proofs.Common.{length-take, length-drop}
use Rattle.std.proofs.lemmas.List.{drop-take, take-append-le}
use Rattle.std.proofs.lemmas.List.Edits.{take-paste}
use Rattle.std.proofs.lemmas.Slice.{take-put_mid_below}
use Rattle.std.proofs.Math.Seq.{take-append-add}
use Rattle.std.specs.Io.KnownBytes.{Consumes, IsAtEnd}
use Rattle.std.specs.List.{copy_within}
use borrow.Rule.Slice.PartMut.{put_mid, mid_of, post_of}
use Rattle.line_merges.specs.Buffers.{Behind}

-- the bytes at the front
pub moved : (block : List ℕ) (start end : ℕ) → start ≤ end → end ≤ length block
    → take (end - start) (copy_within block start end 0) ≡ drop start (take end block)
moved block start end low high =
    let count : start + (end - start) ≡ end = omega arith in
    let none : 0 + (end - start) ≡ end - start = omega arith in
    let within : end - start ≤ length (drop start block) = omega (arith, length-drop start block) in
    let paste = take-paste block 0 (drop start block) (end - start) (omega arith) within in
    subst (λ (z : ℕ). take z (copy_within block start end 0) ≡ take (end - start) (drop start block)) none paste
    ∙ rw count at (sym (drop-take start (end - start) block))

pub moved_before : (block copied old room : List ℕ) (start end k : ℕ) → start ≤ end → end ≤ length block → copied ≡ copy_within block start end 0
    → length copied ≡ length block → drop start (take end block) ≡ old → take (end - start) (put_mid (end - start) k copied room) ≡ old
moved_before block copied old room start end k low high e same view =
    take-put_mid_below (end - start) k copied room (end - start) (omega arith) (omega arith)
    ∙ (ap (take (end - start)) e ∙ (moved block start end low high ∙ view))

-- and more behind them
filled : (count k more : ℕ) (block room : List ℕ) → count ≤ length block → more ≤ length room
    → take (count + more) (put_mid count k block room) ≡ take count block ++ take more room
filled count k more block room low high =
    let front : length (take count block) ≡ count = grind (arith, length-take count block) in
    let joined = take-append-add (take count block) (room ++ post_of count k block) more in
    rw front at joined ∙ ap (λ (z : List ℕ). take count block ++ z) (take-append-le more room (post_of count k block) high)

pub read_behind : (block copied old room : List ℕ) (start end k more : ℕ) (was_left left : Option (List ℕ)) → start ≤ end → end ≤ length block
    → copied ≡ copy_within block start end 0
    → length copied ≡ length block → drop start (take end block) ≡ old → more ≤ length room → more ≡ length (take more room)
    → Consumes was_left left (take more room)
    → (more ≡ 0 → IsAtEnd left) → Behind more old (take (end - start + more) (put_mid (end - start) k copied room)) was_left left
read_behind block copied old room start end k more was_left left low high e same view within number consumed end_of = record {
  more = take more room;
  added = filled (end - start) k more copied room (omega arith) within ∙ ap (λ (z : List ℕ). z ++ take more room) (ap (take (end - start)) e
      ∙ (moved block start end low high ∙ view));
  number = sym number;
  consumed = consumed;
  end = end_of;
}

-- the room behind them
pub some_room : (block copied old room : List ℕ) (start end : ℕ) → start ≤ end → end ≤ length block → length block ≡ 65536 → length copied ≡ length block
    → drop start (take end block) ≡ old → length old < 65536 → length room ≡ length (mid_of (end - start) (65536 - (end - start)) copied) → 0 < length room
some_room block copied old room start end low high all same view short is =
    let count : length old ≡ end - start = omega (arith, ap length view, length-drop start (take end block), length-take end block) in
    omega (arith, is, length-take (65536 - (end - start)) (drop (end - start) copied), length-drop (end - start) copied)
