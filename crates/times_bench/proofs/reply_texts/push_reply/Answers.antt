use Rattle.std.proofs.Common.{◌++◌, ◌∙◌, ap}
use Rattle.offset_times.specs.Local.{shown_at}
use Rattle.times_bench.specs.ReplyTexts.{reply_text}
use Rattle.times_bench.proofs.ReplyLemmas.{local_reply-accepted, local_reply-refused}
use Rattle.times_bench.proofs.reply_texts.push_reply.Goals as goal

pub returns-in-Some-at_offset-clause-value : goal.returns-in-Some-at_offset-clause-value
returns-in-Some-at_offset-clause-value c =
    let o = c.in-Local.offset in
    let told = local_reply-accepted c.in-Some-at_offset.shown (shown_at c.args.at o) o c.in-Some-at_offset.ensures.value in
    rw c.in-Local.is (c.push_local.ensures.value ∙ ap (λ reply. c.args.text.now ++ reply_text reply) told)

pub returns-in-None-at_offset-clause-value : goal.returns-in-None-at_offset-clause-value
unfolding reply_text
returns-in-None-at_offset-clause-value c =
    let o = c.in-Local.offset in
    let told = local_reply-refused (shown_at c.args.at o) o c.in-None-at_offset.ensures.value in
    rw c.in-Local.is (c.push_bytes-in-None-at_offset.ensures.value ∙ ap (λ reply. c.args.text.now ++ reply_text reply) told)
