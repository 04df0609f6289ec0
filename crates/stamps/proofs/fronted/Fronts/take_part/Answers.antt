use Rattle.std.proofs.Common.{◌≡◌, ◌∙◌, ◌-◌, ◌<◌, ◌≤◌, ◌++◌, List, ℕ, ap, arith, drop, length, length-drop, refl, take}
use Rattle.std.proofs.lemmas.List.{take_all}
use Rattle.stamps.proofs.FrontRunLemmas.{take_fills, take_kept, take_open}
use Rattle.stamps.specs.FrontRuns.{text_of}
use Rattle.stamps.proofs.fronted.Fronts.take_part.Goals as goal

rest_whole : (part : List ℕ) (room : ℕ) → take (length part - room) (drop room part) ≡ drop room part
rest_whole part room = take_all (length part - room) (drop room part) (omega (arith, length-drop room part))

pub returns-then-self-clause-text : goal.returns-then-self-clause-text
unfolding text_of
returns-then-self-clause-text c = λ short left.
    let self = c.args.self.now in
    take_open c.args.turning.now self.known self.is_open self.head.items self.ready.items c.extend_from_slice.new.self.items c.args.part.now left
    c.if-self.true c.requires.none c.in_ok-extend_from_slice.ensures.items

pub returns-then-part-room-clause-text : goal.returns-then-part-room-clause-text
unfolding text_of
returns-then-part-room-clause-text c = λ short left.
    let self = c.args.self.now in
    take_kept c.args.turning.now self.known self.is_open self.head.items c.extend_from_slice-then-part-room.new.self.items self.ready.items
    c.args.part.now left c.if-self.false c.requires.none c.in_ok-extend_from_slice-2.ensures.items

pub returns-clause-text : goal.returns-clause-text
unfolding text_of
returns-clause-text c = λ short left.
    let self = c.args.self.now in
    let begun = c.begin_line.new.self in
    let same : length self.head.items ≡ self.head.len = omega (arith, self.head.ok) in
    let low : length self.head.items < 65536 = short c.if-self.false in
    take_fills c.args.turning.now self.known begun.known self.is_open begun.is_open self.head.items c.extend_from_slice-2.new.self.items
    begun.head.items self.ready.items begun.ready.items c.extend_from_slice-3.new.self.items c.args.part.now left c.saturating_sub-room.result
    c.if-self.false c.requires.none low (omega (arith, same, c.saturating_sub-room.ensures, c.len.ensures, low)) (omega (arith, c.if-part-room.false))
    c.in_ok-extend_from_slice-3.ensures.items c.in_ok-begin_line.ensures.ready c.in_ok-begin_line.ensures.known c.in_ok-begin_line.ensures.open
    (c.in_ok-extend_from_slice-4.ensures.items
    ∙ ap (λ (z : List ℕ). begun.ready.items ++ z) (rest_whole c.args.part.now c.saturating_sub-room.result))
