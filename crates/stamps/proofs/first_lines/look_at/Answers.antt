use Rattle.std.proofs.Common.{◌≡◌, ◌∙◌, ◌≤◌, Bool, List, Ok, ap, arith, length, subst, take, true, ℕ}
use Rattle.std.proofs.lemmas.List.{take_all}
use Rattle.stamps.specs.Ahead.{head_of}
use Rattle.stamps.specs.Leading.{HasTold, Stands, ended_lines, look_within}
use Rattle.stamps.specs.LineStamps.{has_mark, mark_length}
use Rattle.stamps.proofs.LeadingLemmas.{looks_within, start_within, told_within}
use Rattle.stamps.proofs.first_lines.look_at.Goals as goal

pub returns-clause-look : goal.returns-clause-look
returns-clause-look g c =
    let reader = c.args.reader.now in
    let was = head_of c.args.input.now in
    let head = head_of c.look_further.new.input in
    let block = take 65536 head in
    let first = mark_length (has_mark true was) in
    let here : c.mark_length.result ≡ first = c.mark_length.ensures.value ∙ ap (λ (z : List ℕ). mark_length (has_mark true z)) c.head.ensures in
    let leading = c.look_further.new.lines in
    let same : c.first_block-head.result.now ≡ block = c.first_block-head.ensures ∙ ap (take 65536) c.head-2.ensures in
    let low : c.mark_length.result ≤ length was = rw c.head.ensures at c.mark_length.ensures.within in
    let begun : Stands reader first (take 65536 was) c.new-lines.result =
    rw here at (c.new-lines.ensures.stands reader (take 65536 was) (start_within (has_mark true was) was c.mark_length.result here low)) in
    let stands : Stands reader first block leading = c.in_ok-is_at_end.ensures.stands first begun in
    let chooses : leading.chooses ≡ c.args.chooses = c.look_further.ensures.chooses ∙ c.new-lines.ensures.chooses in
    let looked = rw same at c.end.ensures.looked in
    let looks = rw same at c.look.ensures in
    record {
      is_at_end = c.in_ok-is_at_end.is_at_end;
      end = λ t. c.in_ok-is_at_end.ensures.at_end (ap (λ (z : Bool). Ok z) t);
      finds = looks_within reader first block c.in_ok-is_at_end.is_at_end leading c.end.new.self c.look.result stands c.in_ok-is_at_end.ensures.all
          c.end.ensures.chooses c.end.ensures.has_text c.end.ensures.told looked (λ lines more. looks reader lines more)
          ∙ ap (λ (z : Bool). look_within z reader first c.in_ok-is_at_end.is_at_end block) chooses;
      enough = λ not' ok short.
          let whole : block ≡ head = take_all 65536 head (omega (arith, short)) in
          let told = told_within reader first block leading stands (c.in_ok-is_at_end.ensures.settled (ap (λ (z : Bool). Ok z) not') ok short) in
          subst (λ (z : List ℕ). HasTold c.args.chooses reader (ended_lines first (length z) z)) whole
          (subst (λ (z : Bool). HasTold z reader (ended_lines first (length block) block)) chooses told);
    }
