-- A date, a text and a Z, put one after the other.
use Rattle.std.proofs.Common.{◌≡◌, ℕ, ◌+◌, ◌-◌, ◌<◌, ◌≤◌, List, [], ◌∷◌, ◌++◌}
use Rattle.std.proofs.Common.{length, take, drop, set, append_assoc, length-append, length-drop, sym, ap, ◌∙◌, arith}
use Rattle.std.proofs.Math.Seq.{take-append_seam, drop-append_seam, drop-append-add}
use Rattle.std.proofs.lemmas.List.{take_more_set, drop-set-lt, drop-drop, take-append-drop}

put_z : (date text rest : List ℕ) → 0 < length rest
    → take (length date + length text + 1) (set (date ++ (text ++ rest)) (length date + length text) 90) ≡ date ++ text ++ 90 ∷ []
put_z date text rest some =
    let size : length (date ++ text) ≡ length date + length text = length-append date text in
    let room : length date + length text < length ((date ++ text) ++ rest) = omega (arith, size, some, length-append (date ++ text) rest) in
    let front : take (length date + length text) ((date ++ text) ++ rest) ≡ date ++ text =
    ap (λ (n : ℕ). take n ((date ++ text) ++ rest)) (sym size) ∙ take-append_seam (date ++ text) rest in
    rw (sym (append_assoc date text rest))
    (take_more_set ((date ++ text) ++ rest) (length date + length text) 90 room ∙ ap (λ (z : List ℕ). z ++ 90 ∷ []) front)

pub put_whole : (date text first second room : List ℕ) → first ≡ date → second ≡ text → length date + length text ≤ 29 → length room ≡ 30 →
    let front = first ++ drop (length date) (drop 0 room) in
    take (length date + length text + 1)
    (set (take (length date) front ++ (second ++ drop (length date + length text - length date) (drop (length date) front))) (length date + length text) 90)
    ≡ date ++ text ++ 90 ∷ []
put_whole date text first second room e f low size =
    let kept : take (length date) (date ++ drop (length date) (drop 0 room)) ≡ date = take-append_seam date _ in
    let behind : drop (length date) (date ++ drop (length date) (drop 0 room)) ≡ drop (length date) (drop 0 room) = drop-append_seam date _ in
    let rest = drop (length date + length text - length date) (drop (length date) (drop 0 room)) in
    let some : 0 < length rest =
    let behind_date = drop (length date) (drop 0 room) in
    omega (arith, low, size, length-drop (length date + length text - length date) behind_date, length-drop (length date) (drop 0 room)) in
    rw (e, f, kept, behind) (put_z date text rest some)

put_behind_z : (date text rest : List ℕ)
    → drop (length date + length text + 1) (set (date ++ (text ++ rest)) (length date + length text) 90) ≡ drop 1 rest
put_behind_z date text rest =
    let end = length date + length text in
    let size : end ≡ length (date ++ text) = sym (length-append date text) in
    drop-set-lt (end + 1) (date ++ (text ++ rest)) end 90 (omega arith)
    ∙ ap (drop (end + 1)) (sym (append_assoc date text rest))
    ∙ ap (λ (n : ℕ). drop (n + 1) ((date ++ text) ++ rest)) size ∙ drop-append-add (date ++ text) rest 1

-- and what follows them is as before
pub put_in_room : (date text first second room : List ℕ) → first ≡ date → second ≡ text → length date + length text ≤ 29
    → length room ≡ 30 →
    let front = first ++ drop (length date) (drop 0 room) in
    set (take (length date) front ++ (second ++ drop (length date + length text - length date) (drop (length date) front)))
    (length date + length text) 90
    ≡ (date ++ text ++ 90 ∷ []) ++ drop (length date + length text + 1) room
put_in_room date text first second room e f low size =
    let end = length date + length text in
    let front = first ++ drop (length date) (drop 0 room) in
    let put = set (take (length date) front ++ (second ++ drop (end - length date) (drop (length date) front))) end 90 in
    let kept : take (length date) (date ++ drop (length date) (drop 0 room)) ≡ date = take-append_seam date _ in
    let behind : drop (length date) (date ++ drop (length date) (drop 0 room)) ≡ drop (length date) (drop 0 room) =
    drop-append_seam date _ in
    let rest = drop (end - length date) (drop (length date) (drop 0 room)) in
    let after : drop (end + 1) put ≡ drop 1 rest = rw (e, f, kept, behind) (put_behind_z date text rest) in
    let as_before : drop 1 rest ≡ drop (end + 1) room =
    ap (drop 1) (drop-drop (end - length date) (length date) room) ∙ drop-drop 1 (length date + (end - length date)) room
    ∙ ap (λ (n : ℕ). drop n room) (omega arith) in
    sym (take-append-drop (end + 1) put)
    ∙ ap (λ (z : List ℕ). z ++ drop (end + 1) put) (put_whole date text first second room e f low size)
    ∙ ap (λ (z : List ℕ). (date ++ text ++ 90 ∷ []) ++ z) (after ∙ as_before)
