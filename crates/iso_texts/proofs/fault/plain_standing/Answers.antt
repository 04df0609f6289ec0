use Rattle.std.proofs.Common.{◌≡◌, ℕ, true, false, take, drop, sym, ap, subst, ◌∙◌}
use Rattle.iso_texts.specs.IsoFaults.{has_signed_offset, seconds_standing, IsLongest, IsPlain, AreSeconds}
use Rattle.iso_texts.proofs.IsoFaultLemmas.{seconds_longest, tail_longest-signed, tail_longest-alone}
use Rattle.iso_texts.proofs.IsoTailLemmas.{signed_of}
use Rattle.iso_texts.proofs.fault.plain_standing.Goals as goal

pub returns-then-has_signed_offset-clause-longest : goal.returns-then-has_signed_offset-clause-longest
returns-then-has_signed_offset-clause-longest c =
    let text = c.args.text.now in
    let m = c.syntax_fault-place.result in
    let n = c.seconds_standing.result in
    let fault = c.syntax_fault-place.ensures in
    let best : IsLongest IsPlain text m = record {
      at_most = fault.at_most;
      begins = (fault.begins.0, (fault.begins.1, fault.begins.2));
      longest = λ k. λ rest. λ low. λ g. fault.longest k rest g.0 low g.1;
    } in
    let signed : has_signed_offset (take m text) ≡ true =
    ap has_signed_offset (sym c.split_at.ensures.front) ∙ sym c.has_signed_offset.ensures ∙ c.if-has_signed_offset.true in
    let form = signed_of (take m text) signed in
    let size : n ≡ seconds_standing (drop m text) = c.seconds_standing.ensures.value ∙ ap seconds_standing c.split_at.ensures.back in
    tail_longest-signed text m n best signed (form.p, form.is)
    (subst (λ (k : ℕ). IsLongest AreSeconds (drop m text) k) (sym size) (seconds_longest (drop m text)))

pub returns-else-has_signed_offset-clause-longest : goal.returns-else-has_signed_offset-clause-longest
returns-else-has_signed_offset-clause-longest c =
    let text = c.args.text.now in
    let m = c.syntax_fault-place.result in
    let fault = c.syntax_fault-place.ensures in
    let best : IsLongest IsPlain text m = record {
      at_most = fault.at_most;
      begins = (fault.begins.0, (fault.begins.1, fault.begins.2));
      longest = λ k. λ rest. λ low. λ g. fault.longest k rest g.0 low g.1;
    } in
    let unsigned : has_signed_offset (take m text) ≡ false =
    ap has_signed_offset (sym c.split_at.ensures.front) ∙ sym c.has_signed_offset.ensures ∙ c.if-has_signed_offset.false in
    tail_longest-alone text m best unsigned
