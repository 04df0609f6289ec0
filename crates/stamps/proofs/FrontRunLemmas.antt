-- The text of a log, as its bytes come in parts.
use Rattle.std.proofs.Common.{◌≡◌, ◌≢◌, refl, sym, ap, ◌∙◌, ℕ, ◌+◌, ◌-◌, ◌<◌, ◌≤◌, ◌==◌, suc, false, true, Bool, cond, List, [], ◌∷◌, ◌++◌, append_assoc, arith}
use Rattle.std.proofs.Common.{drop, get_or, length, length-append, take}
use Rattle.std.proofs.Math.Seq.{drop-append_seam, take-append_seam}
use Rattle.std.proofs.lemmas.Bool.Decides.{nat_tests}
use Rattle.std.proofs.lemmas.Grind.{common_steps}
use Rattle.std.proofs.lemmas.List.{append-nil, drop-append-le, drop-drop, drop_all, length-take-le, take-append-le, take-append-drop, take_all}
use Rattle.std.specs.List.{between, onto_first}
use Rattle.line_devices.specs.LineParts.{HasNone}
use Rattle.line_devices.specs.Lines.{pieces_of}
use Rattle.std.specs.Io.KnownBytes.{Consumes, IsAtEnd, Keeps}
use Rattle.stamps.specs.declared.fronted.Fronts.{Fronts}
use Rattle.stamps.specs.declared.fronted.Known.{Known}
use Rattle.stamps.specs.declared.fronted.Turning.{Turning}
use Rattle.std.proofs.Common.{None, Option, Result, Some, ℤ, is_ok}
use Rattle.std.specs.Option.{option_map}
use Rattle.line_devices.specs.StampTallies.{kind_of}
use Rattle.line_devices.specs.declared.stamp_tallies.LineKind.{LineKind}
use Rattle.stamps.specs.Changes.{choice_after}
use Rattle.stamps.specs.Decisions.{last_of, one_more}
use Rattle.stamps.specs.declared.changes.Choice.{Choice}
use Rattle.stamps.specs.declared.readers.LineRefusal.{LineRefusal}
use Rattle.stamps.specs.declared.readers.LineStamp.{LineStamp}
use Rattle.stamps.specs.FrontRuns.{stamp_now, begun_by, front_turned, known_after, known_by, last_turned, line_turned, log_turned, open_turned}
use Rattle.std.proofs.Common.{inl, inr, is_some, take-take}
use Rattle.std.proofs.lemmas.Bool.{cases_Bool, false≢true}
use Rattle.stamps.specs.Ahead.{left_of}
use Rattle.stamps.specs.FrontRuns.{pieces_turned, text_behind, text_of, turned_by}
use Rattle.stamps.specs.declared.ahead.Ahead.{Ahead}
use Rattle.stamps.specs.declared.fronted.Turned.{Turned}

-- ---- pieces

onto-begun : (byte : ℕ) (part : List ℕ) (pieces : List (List ℕ)) → onto_first byte (begun_by part pieces) ≡ begun_by (byte ∷ part) pieces
onto-begun byte part [] = refl
onto-begun byte part (piece ∷ pieces) = refl

begun-begun : (head part : List ℕ) (pieces : List (List ℕ)) → begun_by head (begun_by part pieces) ≡ begun_by (head ++ part) pieces
begun-begun head part [] = refl
begun-begun head part (piece ∷ pieces) = ap (λ (z : List ℕ). z ∷ pieces) (sym (append_assoc head part piece))

onto-some : (byte : ℕ) (pieces : List (List ℕ)) → begun_by [] (onto_first byte pieces) ≡ onto_first byte pieces
onto-some byte [] = refl
onto-some byte (piece ∷ pieces) = refl

begun-none : (left : List ℕ) → begun_by [] (pieces_of left) ≡ pieces_of left
begun-none [] = refl
begun-none (byte ∷ left) =
    elim (byte == 10) as (λ t. begun_by [] (cond t ([] ∷ pieces_of left) (onto_first byte (pieces_of left)))
    ≡ cond t ([] ∷ pieces_of left) (onto_first byte (pieces_of left))) [ true ↦ refl | false ↦ onto-some byte (pieces_of left) ]

pieces-onto : (byte : ℕ) (more : List ℕ) → (byte == 10) ≡ false → pieces_of (byte ∷ more) ≡ onto_first byte (pieces_of more)
pieces-onto byte more t = rw t refl

tail_none : (byte : ℕ) (part : List ℕ) → HasNone 10 (byte ∷ part) 0 (length (byte ∷ part)) → HasNone 10 part 0 (length part)
tail_none byte part none = λ k low high. none (suc k) (omega arith) (omega (arith, high))

-- the pieces of a part without a line feed, and of what follows it
pub pieces-part : (part left : List ℕ) → HasNone 10 part 0 (length part) → pieces_of (part ++ left) ≡ begun_by part (pieces_of left)
pieces-part [] left none = sym (begun-none left)
pieces-part (byte ∷ part) left none =
    let other : byte ≢ 10 = none 0 (omega arith) (omega arith) in
    let t : (byte == 10) ≡ false = grind (arith, nat_tests) in
    pieces-onto byte (part ++ left) t ∙ ap (onto_first byte) (pieces-part part left (tail_none byte part none)) ∙ onto-begun byte part (pieces_of left)

-- ---- a part of a line

open-begun : (turning : Turning) (known : Known) (part : List ℕ) (pieces : List (List ℕ))
    → open_turned turning known (begun_by part pieces) ≡ part ++ open_turned turning known pieces
open-begun turning known part [] = sym (append-nil part)
open-begun turning known part (piece ∷ []) = refl
open-begun turning known part (piece ∷ next ∷ pieces) = append_assoc part piece (10 ∷ log_turned turning known (next ∷ pieces))

pub part_open : (turning : Turning) (known : Known) (ready part left : List ℕ) → HasNone 10 part 0 (length part)
    → (ready ++ part) ++ open_turned turning known (pieces_of left) ≡ ready ++ open_turned turning known (pieces_of (part ++ left))
part_open turning known ready part left none =
    append_assoc ready part (open_turned turning known (pieces_of left))
    ∙ ap (λ (z : List ℕ). ready ++ z)
    (sym (open-begun turning known part (pieces_of left)) ∙ ap (open_turned turning known) (sym (pieces-part part left none)))

pub part_kept : (turning : Turning) (known : Known) (head part left : List ℕ) → HasNone 10 part 0 (length part)
    → log_turned turning known (begun_by (head ++ part) (pieces_of left)) ≡ log_turned turning known (begun_by head (pieces_of (part ++ left)))
part_kept turning known head part left none =
    ap (log_turned turning known) (sym (begun-begun head part (pieces_of left)) ∙ ap (begun_by head) (sym (pieces-part part left none)))

-- ---- the beginning of a line

last-some : (turning : Turning) (known : Known) (line : List ℕ) → 0 < length line → last_turned turning known line ≡ line_turned turning known line
last-some turning known [] some = absurd (omega (arith, some))
last-some turning known (byte ∷ line) some = refl

log-begun : (turning : Turning) (known : Known) (front rest : List ℕ) (pieces : List (List ℕ)) → length front ≡ 65536
    → log_turned turning known (begun_by (front ++ rest) pieces)
    ≡ front_turned turning known front ++ (rest ++ open_turned turning (known_by turning known front) pieces)
unfolding log_turned
log-begun turning known front rest [] long =
    let line = front ++ rest in
    let taken : take 65536 line ≡ front = rw (sym long) (take-append_seam front rest) in
    let dropped : drop 65536 line ≡ rest = rw (sym long) (grind (arith, common_steps)) in
    let some : 0 < length line = omega (arith, long, length-append front rest) in
    last-some turning known line some ∙ rw (taken, dropped) (ap (λ (z : List ℕ). front_turned turning known front ++ z) (sym (append-nil rest)))
log-begun turning known front rest (piece ∷ []) long =
    let line = (front ++ rest) ++ piece in
    let whole : line ≡ front ++ (rest ++ piece) = append_assoc front rest piece in
    let taken : take 65536 line ≡ front = rw (whole, sym long) (take-append_seam front (rest ++ piece)) in
    let dropped : drop 65536 line ≡ rest ++ piece = rw (whole, sym long) (grind (arith, common_steps)) in
    let some : 0 < length line = rw whole (omega (arith, long, length-append front (rest ++ piece))) in
    last-some turning known line some ∙ rw (taken, dropped) refl
log-begun turning known front rest (piece ∷ next ∷ pieces) long =
    let line = (front ++ rest) ++ piece in
    let whole : line ≡ front ++ (rest ++ piece) = append_assoc front rest piece in
    let taken : take 65536 line ≡ front = rw (whole, sym long) (take-append_seam front (rest ++ piece)) in
    let dropped : drop 65536 line ≡ rest ++ piece = rw (whole, sym long) (grind (arith, common_steps)) in
    let more = 10 ∷ log_turned turning (known_by turning known front) (next ∷ pieces) in
    rw (taken, dropped) (append_assoc (front_turned turning known front) (rest ++ piece) more
    ∙ ap (λ (z : List ℕ). front_turned turning known front ++ z) (append_assoc rest piece more))

-- a part that fills the beginning of a line
pub part_fills : (turning : Turning) (known : Known) (head part left : List ℕ) (room : ℕ) → HasNone 10 part 0 (length part)
    → length head + room ≡ 65536 → room ≤ length part
    → log_turned turning known (begun_by head (pieces_of (part ++ left)))
    ≡ front_turned turning known (head ++ take room part)
    ++ (drop room part ++ open_turned turning (known_by turning known (head ++ take room part)) (pieces_of left))
part_fills turning known head part left room none full low =
    let front = head ++ take room part in
    let long : length front ≡ 65536 = grind (arith, common_steps) in
    let split : head ++ part ≡ front ++ drop room part = grind (arith, common_steps) in
    sym (part_kept turning known head part left none) ∙ rw split (log-begun turning known front (drop room part) (pieces_of left) long)

-- ---- the end of a line

log-feed : (turning : Turning) (known : Known) (head : List ℕ) (pieces : List (List ℕ)) → length head < 65536 → begun_by [] pieces ≡ pieces
    → log_turned turning known (begun_by head ([] ∷ pieces))
    ≡ front_turned turning known head ++ 10 ∷ log_turned turning (known_by turning known head) pieces
unfolding log_turned
log-feed turning known head [] short some = absurd cc
log-feed turning known head (piece ∷ pieces) short some =
    let line = head ++ [] in
    let taken : take 65536 line ≡ head = ap (take 65536) (append-nil head) ∙ take_all 65536 head (omega (arith, short)) in
    let dropped : drop 65536 line ≡ [] = ap (drop 65536) (append-nil head) ∙ drop_all 65536 head (omega (arith, short)) in
    rw (taken, dropped) (append_assoc (front_turned turning known head) [] _)

pub feed_kept : (turning : Turning) (known : Known) (head left : List ℕ) → length head < 65536
    → log_turned turning known (begun_by head (pieces_of (10 ∷ left)))
    ≡ front_turned turning known head ++ 10 ∷ log_turned turning (known_by turning known head) (begun_by [] (pieces_of left))
feed_kept turning known head left short =
    log-feed turning known head (pieces_of left) short (begun-none left)
    ∙ ap (λ (z : List (List ℕ)). front_turned turning known head ++ 10 ∷ log_turned turning (known_by turning known head) z) (sym (begun-none left))

open-feed : (turning : Turning) (known : Known) (pieces : List (List ℕ)) → begun_by [] pieces ≡ pieces
    → open_turned turning known ([] ∷ pieces) ≡ 10 ∷ log_turned turning known pieces
open-feed turning known [] some = absurd cc
open-feed turning known (piece ∷ pieces) some = refl

pub feed_open : (turning : Turning) (known : Known) (left : List ℕ)
    → open_turned turning known (pieces_of (10 ∷ left)) ≡ 10 ∷ log_turned turning known (begun_by [] (pieces_of left))
feed_open turning known left =
    open-feed turning known (pieces_of left) (begun-none left)
    ∙ ap (λ (z : List (List ℕ)). 10 ∷ log_turned turning known z) (sym (begun-none left))

-- ---- the end of the log

pub end_kept : (turning : Turning) (known : Known) (head : List ℕ) → 0 < length head → length head < 65536
    → log_turned turning known (begun_by head (pieces_of [])) ≡ front_turned turning known head
unfolding log_turned
end_kept turning known head some short =
    let line = head ++ [] in
    let taken : take 65536 line ≡ head = ap (take 65536) (append-nil head) ∙ take_all 65536 head (omega (arith, short)) in
    let dropped : drop 65536 line ≡ [] = ap (drop 65536) (append-nil head) ∙ drop_all 65536 head (omega (arith, short)) in
    last-some turning known line (rw (append-nil head) some) ∙ rw (taken, dropped) (append-nil (front_turned turning known head))

pub end_none : (turning : Turning) (known : Known) → log_turned turning known (begun_by [] (pieces_of [])) ≡ []
unfolding log_turned
end_none turning known = refl

-- ---- what is known of a log, part by part

-- the text that is ready and that of the bytes that are left
abbrev pub state_text : Turning → Known → Bool → List ℕ → List ℕ → List ℕ → List ℕ
state_text turning known is_open head ready left =
    ready ++ cond is_open (open_turned turning known (pieces_of left)) (log_turned turning known (begun_by head (pieces_of left)))

pub take_open : (turning : Turning) (known : Known) (is_open : Bool) (head ready new part left : List ℕ) → is_open ≡ true → HasNone 10 part 0 (length part)
    → new ≡ ready ++ part → state_text turning known is_open head new left ≡ state_text turning known is_open head ready (part ++ left)
take_open turning known is_open head ready new part left opened none is = rw (opened, is) (part_open turning known ready part left none)

pub take_kept : (turning : Turning) (known : Known) (is_open : Bool) (head new ready part left : List ℕ) → is_open ≡ false
    → HasNone 10 part 0 (length part) → new ≡ head ++ part
    → state_text turning known is_open new ready left ≡ state_text turning known is_open head ready (part ++ left)
take_kept turning known is_open head new ready part left closed none is =
    rw (closed, is) (ap (λ (z : List ℕ). ready ++ z) (part_kept turning known head part left none))

pub take_fills : (turning : Turning) (known next : Known) (was_open is_open : Bool) (head front new ready begun after part left : List ℕ) (room : ℕ)
    → was_open ≡ false → HasNone 10 part 0 (length part) → length head < 65536 → room ≡ 65536 - length head → room ≤ length part
    → front ≡ head ++ take room part → begun ≡ ready ++ front_turned turning known front → next ≡ known_by turning known front → is_open ≡ true
    → after ≡ begun ++ drop room part
    → state_text turning next is_open new after left ≡ state_text turning known was_open head ready (part ++ left)
take_fills turning known next was_open is_open head front new ready begun after part left room closed none short full low is b n opened a =
    let filled : length head + room ≡ 65536 = omega (arith, short, full) in
    let text = drop room part in
    let more = open_turned turning (known_by turning known front) (pieces_of left) in
    let start = ready ++ front_turned turning known front in
    rw (closed, opened, a, b, n)
    (append_assoc start text more ∙ append_assoc ready (front_turned turning known front) (text ++ more)
    ∙ ap (λ (z : List ℕ). ready ++ z) (rw is (sym (part_fills turning known head part left room none filled low))))

pub end_open : (turning : Turning) (known : Known) (was_open is_open : Bool) (head new ready after left : List ℕ) → was_open ≡ true → is_open ≡ false
    → new ≡ [] → after ≡ ready ++ 10 ∷ []
    → state_text turning known is_open new after left ≡ state_text turning known was_open head ready (10 ∷ left)
end_open turning known was_open is_open head new ready after left opened closed none a =
    rw (opened, closed, none, a)
    (append_assoc ready (10 ∷ []) _ ∙ ap (λ (z : List ℕ). ready ++ z) (sym (feed_open turning known left)))

pub end_begun : (turning : Turning) (known next : Known) (was_open is_open : Bool) (head new ready begun after left : List ℕ) → was_open ≡ false
    → length head < 65536 → begun ≡ ready ++ front_turned turning known head → next ≡ known_by turning known head → is_open ≡ false → new ≡ []
    → after ≡ begun ++ 10 ∷ []
    → state_text turning next is_open new after left ≡ state_text turning known was_open head ready (10 ∷ left)
end_begun turning known next was_open is_open head new ready begun after left closed short b n is_closed none a =
    let start = ready ++ front_turned turning known head in
    rw (closed, is_closed, none, a, b, n)
    (append_assoc start (10 ∷ []) _ ∙ append_assoc ready (front_turned turning known head) _
    ∙ ap (λ (z : List ℕ). ready ++ z) (sym (feed_kept turning known head left short)))

pub ends_open : (turning : Turning) (known : Known) (is_open : Bool) (head ready : List ℕ) → is_open ≡ true
    → ready ≡ state_text turning known is_open head ready []
ends_open turning known is_open head ready opened = rw opened (sym (append-nil ready))

pub ends_none : (turning : Turning) (known : Known) (is_open : Bool) (head ready : List ℕ) → is_open ≡ false → head ≡ []
    → ready ≡ state_text turning known is_open head ready []
ends_none turning known is_open head ready closed none =
    rw (closed, none, end_none turning known) (sym (append-nil ready))

pub ends_begun : (turning : Turning) (known : Known) (is_open : Bool) (head ready after : List ℕ) → is_open ≡ false → 0 < length head
    → length head < 65536 → after ≡ ready ++ front_turned turning known head → after ≡ state_text turning known is_open head ready []
ends_begun turning known is_open head ready after closed some short a =
    rw (closed, a, end_kept turning known head some short) refl

-- ---- the lines of a block

pub block_line : (block left : List ℕ) (from end : ℕ) → from ≤ end → end < length block → get_or block end 0 ≡ 10
    → between from end block ++ 10 ∷ (drop (end + 1) block ++ left) ≡ drop from block ++ left
block_line block left from end low within is =
    let tail : drop end block ≡ 10 ∷ drop (end + 1) block = grind (arith, common_steps) in
    let place : from + (end - from) ≡ end = omega (arith, low) in
    let rest : drop (end - from) (drop from block) ≡ drop end block =
    drop-drop (end - from) from block ∙ ap (λ (z : ℕ). drop z block) place in
    sym (append_assoc (between from end block) (10 ∷ drop (end + 1) block) left)
    ∙ ap (λ (z : List ℕ). z ++ left)
    (ap (λ (z : List ℕ). between from end block ++ z) (sym (rest ∙ tail)) ∙ take-append-drop (end - from) (drop from block))

-- ---- one line more

pub known_next : (turning : Turning) (known : Known) (line : List ℕ) (found : Result LineStamp LineRefusal) (last : Option ℤ) (number : ℕ)
    (choice : Choice) (kind : LineKind) → found ≡ stamp_now turning known line → last ≡ last_of known.last found → number ≡ one_more known.lines
    → kind ≡ kind_of line (is_ok found) → choice ≡ choice_after turning.anew known.choice number kind line
    → ◌≡◌ {A = Known} (record { last = last; lines = number; choice = choice }) (known_by turning known line)
unfolding known_by
known_next turning known line found last number choice kind f l n k c = rw (l, c, k, n, f) refl

-- ---- reads

-- what stays twice stays
pub kept_twice : (a b c : Option (List ℕ)) → Keeps a b → Keeps b c → Keeps a c
kept_twice None b c keeps h = tt
kept_twice (Some xs) None c keeps h = absurd keeps
kept_twice (Some xs) (Some ys) None keeps h = absurd h
kept_twice (Some xs) (Some ys) (Some zs) keeps h = h ∙ keeps

pub kept_same : (a : Option (List ℕ)) → Keeps a a
kept_same None = tt
kept_same (Some xs) = refl

-- a block that is taken in
pub block_turned : (turning : Turning) (was now new : Fronts) (a b : Option (List ℕ)) (block taken : List ℕ)
    → ((left : List ℕ) → text_of turning now left ≡ text_behind turning was left) → Consumes a b taken → block ≡ taken
    → ((left : List ℕ) → text_of turning new left ≡ text_of turning now (block ++ left))
    → Keeps (option_map (text_behind turning was) a) (option_map (text_of turning new) b)
block_turned turning was now new None b block taken same h is text = tt
block_turned turning was now new (Some xs) None block taken same h is text = absurd h
block_turned turning was now new (Some xs) (Some ys) block taken same h is text =
    text ys ∙ same (block ++ ys) ∙ ap (text_behind turning was) (ap (λ (z : List ℕ). z ++ ys) is ∙ sym h)

-- the end of a log
pub end_turned : (turning : Turning) (was now new : Fronts) (a b : Option (List ℕ))
    → ((left : List ℕ) → text_of turning now left ≡ text_behind turning was left) → Consumes a b [] → IsAtEnd b
    → new.ready.items ≡ text_of turning now []
    → Keeps (option_map (text_behind turning was) a) (Some new.ready.items)
end_turned turning was now new None b same h end text = tt
end_turned turning was now new (Some xs) None same h end text = absurd h
end_turned turning was now new (Some xs) (Some ys) same h end text =
    text ∙ same [] ∙ ap (text_behind turning was) (sym (h ∙ end))

-- where nothing is ready, the text is what is behind it
pub ready_none : (turning : Turning) (known : Known) (is_open : Bool) (head : List ℕ) (ready : List ℕ) (left : List ℕ) → ready ≡ []
    → state_text turning known is_open head ready left
    ≡ cond is_open (open_turned turning known (pieces_of left)) (log_turned turning known (begun_by head (pieces_of left)))
ready_none turning known is_open head ready left none = rw none refl

-- bytes that are ready are given
given_of : (ready more taken : List ℕ) (served count : ℕ) → served + count ≤ length ready → taken ≡ take count (drop served ready)
    → drop served (ready ++ more) ≡ taken ++ drop (served + count) (ready ++ more)
given_of ready more taken served count within is =
    let low : served ≤ length ready = omega (arith, within) in
    let front : drop served ready ≡ taken ++ drop (served + count) ready =
    sym (take-append-drop count (drop served ready)) ∙ rw (sym is) (ap (λ (z : List ℕ). taken ++ z) (drop-drop count served ready)) in
    drop-append-le served ready more low ∙ ap (λ (z : List ℕ). z ++ more) front
    ∙ append_assoc taken (drop (served + count) ready) more
    ∙ ap (λ (z : List ℕ). taken ++ z) (sym (drop-append-le (served + count) ready more within))

pub given_ready : (turning : Turning) (fronts : Fronts) (is_ended : Bool) (left : Option (List ℕ)) (taken : List ℕ) (served count : ℕ)
    → served + count ≤ length fronts.ready.items → taken ≡ take count (drop served fronts.ready.items)
    → Consumes (cond is_ended (Some (drop served fronts.ready.items)) (option_map (λ l. drop served (text_of turning fronts l)) left))
    (cond is_ended (Some (drop (served + count) fronts.ready.items)) (option_map (λ l. drop (served + count) (text_of turning fronts l)) left)) taken
unfolding text_of
given_ready turning fronts true left taken served count within is =
    let none = given_of fronts.ready.items [] taken served count within is in
    rw (append-nil fronts.ready.items) at none
given_ready turning fronts false None taken served count within is = tt
given_ready turning fronts false (Some l) taken served count within is =
    given_of fronts.ready.items (pieces_turned turning fronts (pieces_of l)) taken served count within is

-- all that is ready was given
pub all_given : (turning : Turning) (fronts : Fronts) (left : Option (List ℕ)) (served : ℕ) → served ≡ length fronts.ready.items
    → option_map (λ l. drop served (text_of turning fronts l)) left ≡ option_map (text_behind turning fronts) left
unfolding text_of
all_given turning fronts None served is = refl
all_given turning fronts (Some l) served is =
    let more = pieces_turned turning fronts (pieces_of l) in
    let gone : drop served (fronts.ready.items ++ more) ≡ more =
    ap (λ (z : ℕ). drop z (fronts.ready.items ++ more)) is ∙ drop-append_seam fronts.ready.items more in
    ap (λ (z : List ℕ). Some z) gone

-- the front of a text that was copied
pub copied_front : (from to new : List ℕ) (n : ℕ) → n ≤ length from → new ≡ take n from ++ drop n to → take n new ≡ take n from
copied_front from to new n short is =
    let long : n ≤ length (take n from) = omega (arith, short, length-take-le n from short) in
    ap (take n) is ∙ take-append-le n (take n from) (drop n to) long ∙ take-take n n from (omega arith)

pub given_by : {R : Type 0} (remaining : R → Option (List ℕ)) (turned : Turned R) (turning : Option Turning) (count : ℕ) (taken : List ℕ)
    → is_some turning ≡ true → turned.served + count ≤ length turned.fronts.ready.items
    → taken ≡ take count (drop turned.served turned.fronts.ready.items)
    → Consumes (turned_by remaining turned turning) (turned_by remaining (record turned { served = turned.served + count }) turning) taken
given_by remaining turned None count taken some within is = absurd (false≢true some)
given_by remaining turned (Some turning) count taken some within is =
    given_ready turning turned.fronts turned.is_ended (left_of remaining turned.inner) taken turned.served count within is

-- a log of which one block more is ready
block_ready : (turning : Turning) (behind left : Option (List ℕ)) (fronts : Fronts) (count : ℕ)
    → (0 < count → Keeps behind (option_map (text_of turning fronts) left)) → (count ≡ 0 → Keeps behind (Some fronts.ready.items))
    → Keeps behind (cond (count == 0) (Some fronts.ready.items) (option_map (text_of turning fronts) left))
block_ready turning behind left fronts count some none = elim (cases_Bool (count == 0)) [
  | inl t ↦ rw t (none (grind (arith, nat_tests, t)))
  | inr f ↦
      let other : count ≢ 0 = grind (arith, nat_tests, f) in
      rw f (some (omega (arith, other)))
]

pub kept_on : {R : Type 0} (remaining : R → Option (List ℕ)) (turned : Turned R) (turning : Option Turning) (own : Turning) (inner : Ahead R)
    (fronts : Fronts) (count : ℕ) → turning ≡ Some own → turned.is_ended ≡ false → turned.served ≡ length turned.fronts.ready.items
    → (0 < count → Keeps (option_map (text_behind own turned.fronts) (left_of remaining turned.inner))
    (option_map (text_of own fronts) (left_of remaining inner)))
    → (count ≡ 0 → Keeps (option_map (text_behind own turned.fronts) (left_of remaining turned.inner)) (Some fronts.ready.items))
    → Keeps (turned_by remaining turned turning)
    (turned_by remaining (record { inner = inner; turning = turning; fronts = fronts; is_ended = count == 0; served = 0 }) turning)
kept_on remaining turned turning own inner fronts count is running all some none =
    rw (is, running, all_given own turned.fronts (left_of remaining turned.inner) turned.served all)
    (block_ready own _ (left_of remaining inner) fronts count some none)

-- ---- end of reads
