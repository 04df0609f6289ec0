use Rattle.std.proofs.Common.{◌≡◌, ◌∙◌, ◌++◌, ℕ, length, drop, subst, sym, ap, rules, arith}
use Rattle.std.proofs.lemmas.List.{take-append-drop}
use Rattle.muxandu_c.specs.Answers.{text_if_room}
use Rattle.muxandu_c.specs.Exchange.{date_time_to_rfc3339}
use Rattle.muxandu_c.specs.TextBlocks.{texts_of, spans_of}
use Rattle.muxandu_c.proofs.TextBlockLemmas.{texts_of-refused, texts_of-all, status_of_texts-refused, status_of_texts-all}
use Rattle.muxandu_c.proofs.TextBlockLemmas.{text_of_length, refused_of_length, refused_in, text_fits, with_text, with_answer, behind_after, room_after}
use Rattle.muxandu_c.proofs.TextBlockLemmas.{texts_after, spans_next, status_next, count_next, texts_end, spans_end, count_end}
use Rattle.muxandu_c.proofs.ValuesLemmas.{behind_next}
use Rattle.muxandu_c.proofs.text_blocks.fill_texts.Goals as goal

pub returns-in-Err-clause-count : goal.returns-in-Err-clause-count
returns-in-Err-clause-count c =
    let before = c.loop-k.invariant in
    let refused = refused_in _ _ _ c.in-Err.refused c.in-Err.ensures.length before.texts_behind in
    let none = texts_of-refused date_time_to_rfc3339 c.args.date_times.now c.loop-k.k _ _ c.in-Err.refused c.loop-k-test.true refused in
    c.stop_at.ensures.count ∙ count_end c.loop-k.k _ _ none before.count

pub returns-in-Err-clause-status : goal.returns-in-Err-clause-status
returns-in-Err-clause-status c =
    let before = c.loop-k.invariant in
    let refused = refused_in _ _ _ c.in-Err.refused c.in-Err.ensures.length before.texts_behind in
    c.stop_at.ensures.status
    ∙ sym (status_of_texts-refused date_time_to_rfc3339 c.args.date_times.now c.loop-k.k _ _ c.in-Err.refused c.loop-k-test.true refused)
    ∙ before.status

pub returns-in-Err-clause-written : goal.returns-in-Err-clause-written
returns-in-Err-clause-written c =
    let before = c.loop-k.invariant in
    let answer = refused_of_length _ c.in-Err.refused c.in-Err.ensures.length in
    let refused = refused_in _ _ _ c.in-Err.refused c.in-Err.ensures.length before.texts_behind in
    let all = texts_of date_time_to_rfc3339 c.args.texts.now c.args.date_times.now in
    let none = texts_of-refused date_time_to_rfc3339 c.args.date_times.now c.loop-k.k _ _ c.in-Err.refused c.loop-k-test.true refused in
    c.in-Err.ensures.written ∙ ap (with_answer c.loop-k.start c.loop-k.texts) (sym answer) ∙ take-append-drop c.loop-k.start c.loop-k.texts
    ∙ texts_end c.loop-k.start c.loop-k.texts c.args.texts.now _ all before.start none before.texts before.texts_behind

pub returns-in-Err-clause-spans : goal.returns-in-Err-clause-spans
returns-in-Err-clause-spans c =
    let before = c.loop-k.invariant in
    let refused = refused_in _ _ _ c.in-Err.refused c.in-Err.ensures.length before.texts_behind in
    let none = texts_of-refused date_time_to_rfc3339 c.args.date_times.now c.loop-k.k _ _ c.in-Err.refused c.loop-k-test.true refused in
    let all = texts_of date_time_to_rfc3339 c.args.texts.now c.args.date_times.now in
    rw c.stop_at.ensures.count
    (spans_end c.loop-k.start c.loop-k.k c.loop-k.spans c.args.spans.now _ all none before.spans before.spans_behind)

pub loop-k-preserved : goal.loop-k-preserved
loop-k-preserved c =
    let before = c.loop-k.invariant in
    let f = date_time_to_rfc3339 in
    let items = c.args.date_times.now in
    let k = c.loop-k.k in
    let start = c.loop-k.start in
    let n = c.in-Ok.length in
    let wrote = text_of_length _ c.in-Ok.length c.in-Ok.ensures.length in
    let text = wrote.0 in
    let answer = wrote.1 ∙ ap (text_if_room _) before.texts_behind in
    let made : c.write_text_at.new.block ≡ with_text start text c.loop-k.texts =
    c.in-Ok.ensures.written ∙ ap (with_answer start c.loop-k.texts) (sym wrote.1) in
    let low = c.loop-k-test.true in
    record {
      texts =
          texts_after f items k start n _ text c.loop-k.texts _ c.args.texts.now low before.start answer wrote.2 made ∙ before.texts;
      spans = rw wrote.2 (spans_next f items k start _ text c.args.texts.now c.loop-k.spans low (omega arith) answer ∙ before.spans);
      status = rw wrote.2 (status_next f items k start _ text c.args.texts.now low answer ∙ before.status);
      count = rw wrote.2 (count_next f items k start _ text c.args.texts.now low answer ∙ before.count);
      texts_behind = behind_after start n text c.loop-k.texts _ c.args.texts.now before.start before.texts_behind wrote.2 made;
      spans_behind = behind_next c.loop-k.spans c.args.spans.now k _ before.spans_behind;
      start = room_after start n text c.loop-k.texts _ before.start (text_fits _ _ text wrote.1) wrote.2 made;
      room = search rules;
    }

pub returns-clause-count : goal.returns-clause-count
returns-clause-count c =
    let end : c.loop-k.k ≡ length c.args.date_times.now = search rules in
    let none = texts_of-all date_time_to_rfc3339 c.args.date_times.now c.loop-k.k _ c.loop-k-test.false in
    sym end ∙ count_end c.loop-k.k _ _ none c.loop-k.invariant.count

pub returns-clause-status : goal.returns-clause-status
returns-clause-status c =
    let none = status_of_texts-all date_time_to_rfc3339 c.args.date_times.now c.loop-k.k _ c.loop-k-test.false in
    sym none ∙ c.loop-k.invariant.status

pub returns-clause-written : goal.returns-clause-written
returns-clause-written c =
    let before = c.loop-k.invariant in
    let all = texts_of date_time_to_rfc3339 c.args.texts.now c.args.date_times.now in
    let none = texts_of-all date_time_to_rfc3339 c.args.date_times.now c.loop-k.k _ c.loop-k-test.false in
    texts_end c.loop-k.start c.loop-k.texts c.args.texts.now _ all before.start none before.texts before.texts_behind

pub returns-clause-spans : goal.returns-clause-spans
returns-clause-spans c =
    let before = c.loop-k.invariant in
    let end : c.loop-k.k ≡ length c.args.date_times.now = search rules in
    let all = texts_of date_time_to_rfc3339 c.args.texts.now c.args.date_times.now in
    let none = texts_of-all date_time_to_rfc3339 c.args.date_times.now c.loop-k.k _ c.loop-k-test.false in
    subst (λ (n : ℕ). c.loop-k.spans ≡ spans_of 0 all ++ drop n c.args.spans.now) end
    (spans_end c.loop-k.start c.loop-k.k c.loop-k.spans c.args.spans.now _ all none before.spans before.spans_behind)
