use Rattle.std.proofs.Common.{rules, ◌≡◌, ◌-◌, ◌∙◌, length, Some}
use Rattle.log_forms.specs.Splits.{counted_reading}
use Rattle.log_forms.specs.Stamps.{ended_stamp}
use Rattle.log_forms.proofs.SplitLemmas.{counted_stamp}
use Rattle.log_forms.proofs.stamps.stamp_in.Goals as goal

pub returns-in-Some-clause-stamp : goal.returns-in-Some-clause-stamp
returns-in-Some-clause-stamp c =
    let front = c.args.front.now in
    let text = c.args.text.now in
    let rest = c.in-Some.rest.now in
    let parts = c.read_counted.new.parts in
    let read : Some (parts, rest) ≡ counted_reading c.args.form.now text = search rules in
    let stamp : c.ended_stamp.result ≡ ended_stamp c.args.assumed.now parts front (length front - length text)
    (length text - length rest) text =
    search rules
    in
    stamp ∙ counted_stamp c.args.form.now c.args.assumed.now front text rest parts read
