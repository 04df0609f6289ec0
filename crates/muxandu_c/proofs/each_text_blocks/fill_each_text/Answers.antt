use Rattle.std.proofs.Common.{◌≡◌, length, refl, ap, rules, arith}
use Rattle.muxandu_c.specs.Answers.{text_if_room}
use Rattle.muxandu_c.specs.EachTexts.{answers_in}
use Rattle.muxandu_c.specs.Exchange.{date_time_to_rfc3339}
use Rattle.muxandu_c.proofs.EachTextLemmas.{bytes_told, status_told, count_told, bytes_fit, made_of}
use Rattle.muxandu_c.proofs.EachTextLemmas.{texts-more, spans-more, statuses-more, count-more}
use Rattle.muxandu_c.proofs.EachTextLemmas.{answers-all, written-all, spans-all, statuses-all, count-all}
use Rattle.muxandu_c.proofs.TextBlockLemmas.{behind_after, room_after}
use Rattle.muxandu_c.proofs.ValuesLemmas.{behind_next}
use Rattle.muxandu_c.proofs.each_text_blocks.fill_each_text.Goals as goal

pub loop-k-preserved : goal.loop-k-preserved
loop-k-preserved c =
    let before = c.loop-k.invariant in
    let f = date_time_to_rfc3339 in
    let items = c.args.date_times.now in
    let k = c.loop-k.k in
    let start = c.loop-k.start in
    let n = c.value_or-length.result in
    let low = c.loop-k-test.true in
    let told = c.write_text_at-answer.ensures.length in
    let size = bytes_told _ c.write_text_at-answer.result n told c.value_or-length.ensures in
    let made = made_of _ start c.loop-k.texts _ c.write_text_at-answer.ensures.written in
    let answer = ap (text_if_room _) before.texts_behind in
    record {
      texts = texts-more f items k start n _ _ c.loop-k.texts _ c.args.texts.now _ low before.start answer size made before.texts;
      spans = spans-more f items k start n _ _ c.args.texts.now c.loop-k.spans _ low (search rules) answer size before.spans;
      statuses =
          statuses-more f items k start n c.status_of.result _ _ c.args.texts.now c.loop-k.statuses _ low (search rules) answer size
          (status_told _ _ c.status_of.result told c.status_of.ensures) before.statuses;
      count =
          count-more f items k start n c.loop-k.count c.count_of-count.result _ _ c.args.texts.now _ low answer size
          (count_told _ _ c.count_of-count.result told c.count_of-count.ensures.value) before.count;
      texts_behind = behind_after start n _ c.loop-k.texts _ c.args.texts.now before.start before.texts_behind size made;
      spans_behind = behind_next c.loop-k.spans c.args.spans.now k _ before.spans_behind;
      statuses_behind = behind_next c.loop-k.statuses c.args.statuses.now k c.status_of.result before.statuses_behind;
      start = room_after start n _ c.loop-k.texts _ before.start (bytes_fit _ _ _ refl) size made;
      at_most = omega (arith, before.at_most, c.count_of-count.ensures.at_most);
      room = search rules;
      statuses_room = search rules;
    }

pub returns-clause-count : goal.returns-clause-count
returns-clause-count c =
    count-all c.loop-k.count _ _ (answers-all date_time_to_rfc3339 c.args.date_times.now c.loop-k.k _ c.loop-k-test.false) c.loop-k.invariant.count

pub returns-clause-written : goal.returns-clause-written
returns-clause-written c =
    let before = c.loop-k.invariant in
    let all = answers_in date_time_to_rfc3339 c.args.texts.now c.args.date_times.now in
    let none = answers-all date_time_to_rfc3339 c.args.date_times.now c.loop-k.k _ c.loop-k-test.false in
    written-all c.loop-k.start c.loop-k.texts c.args.texts.now _ all before.start none before.texts before.texts_behind

pub returns-clause-spans : goal.returns-clause-spans
returns-clause-spans c =
    let before = c.loop-k.invariant in
    let end : c.loop-k.k ≡ length c.args.date_times.now = search rules in
    let none = answers-all date_time_to_rfc3339 c.args.date_times.now c.loop-k.k _ c.loop-k-test.false in
    spans-all date_time_to_rfc3339 c.args.date_times.now c.args.texts.now c.loop-k.start c.loop-k.k c.loop-k.spans c.args.spans.now _ none end
    before.spans before.spans_behind

pub returns-clause-statuses : goal.returns-clause-statuses
returns-clause-statuses c =
    let before = c.loop-k.invariant in
    let end : c.loop-k.k ≡ length c.args.date_times.now = search rules in
    let none = answers-all date_time_to_rfc3339 c.args.date_times.now c.loop-k.k _ c.loop-k-test.false in
    statuses-all date_time_to_rfc3339 c.args.date_times.now c.args.texts.now c.loop-k.k c.loop-k.statuses c.args.statuses.now _ none end
    before.statuses before.statuses_behind
