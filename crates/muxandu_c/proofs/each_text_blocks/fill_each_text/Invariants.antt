use Rattle.std.proofs.Common.{◌≡◌, ◌+◌, ◌++◌, ◌≤◌, length, take, drop}
use Rattle.std.specs.List.{concat}
use Rattle.muxandu_c.specs.EachBatches.{status_of_each, count_of_values}
use Rattle.muxandu_c.specs.EachTexts.{answers_in, texts_or_none, as_it_is}
use Rattle.muxandu_c.specs.Exchange.{date_time_to_rfc3339}
use Rattle.muxandu_c.specs.TextBlocks.{spans_of}
use Rattle.muxandu_c.proofs.each_text_blocks.fill_each_text.Given as goal

-- what was done so far and what is left to do are all; what is behind is as it was
abbrev pub invariant-loop-k : goal.invariant-loop-k
invariant-loop-k l =
    let left = answers_in date_time_to_rfc3339 (drop l.start l.initial.texts) (drop l.k l.date_times) in
    let all = answers_in date_time_to_rfc3339 l.initial.texts l.date_times in
    record {
      texts : take l.start l.texts ++ concat (texts_or_none left) ≡ concat (texts_or_none all);
      spans : take l.k l.spans ++ spans_of l.start (texts_or_none left) ≡ spans_of 0 (texts_or_none all);
      statuses : take l.k l.statuses ++ status_of_each as_it_is left ≡ status_of_each as_it_is all;
      count : l.count + count_of_values as_it_is left ≡ count_of_values as_it_is all;
      texts_behind : drop l.start l.texts ≡ drop l.start l.initial.texts;
      spans_behind : drop l.k l.spans ≡ drop l.k l.initial.spans;
      statuses_behind : drop l.k l.statuses ≡ drop l.k l.initial.statuses;
      start : l.start ≤ length l.texts;
      at_most : l.count ≤ l.k;
      room : length l.date_times ≤ length l.spans;
      statuses_room : length l.date_times ≤ length l.statuses;
    }
