use Rattle.std.proofs.Common.{◌≡◌, ◌+◌, ◌++◌, ◌≤◌, length, take, drop}
use Rattle.std.specs.List.{concat}
use Rattle.muxandu_c.specs.Exchange.{date_time_to_rfc3339}
use Rattle.muxandu_c.specs.TextBlocks.{texts_of, status_of_texts, spans_of}
use Rattle.muxandu_c.proofs.text_blocks.fill_texts.Given as goal

-- the texts so far and those of the items that are left are the texts of all, and so their spans; what is behind them is as it was
abbrev pub invariant-loop-k : goal.invariant-loop-k
invariant-loop-k l =
    let left = texts_of date_time_to_rfc3339 (drop l.start l.initial.texts) (drop l.k l.date_times) in
    let all = texts_of date_time_to_rfc3339 l.initial.texts l.date_times in
    record {
      texts : take l.start l.texts ++ concat left ≡ concat all;
      spans : take l.k l.spans ++ spans_of l.start left ≡ spans_of 0 all;
      status : status_of_texts date_time_to_rfc3339 (drop l.start l.initial.texts) (drop l.k l.date_times)
          ≡ status_of_texts date_time_to_rfc3339 l.initial.texts l.date_times;
      count : l.k + length left ≡ length all;
      texts_behind : drop l.start l.texts ≡ drop l.start l.initial.texts;
      spans_behind : drop l.k l.spans ≡ drop l.k l.initial.spans;
      start : l.start ≤ length l.texts;
      room : length l.date_times ≤ length l.spans;
    }
