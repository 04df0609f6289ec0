use Rattle.std.proofs.Common.{◌≡◌, ◌+◌, ◌++◌, ◌≤◌, length, take, drop}
use Rattle.std.specs.List.{concat}
use Rattle.muxandu_c.specs.Formats.{text_of_value}
use Rattle.muxandu_c.specs.TextBlocks.{texts_of, status_of_texts, spans_of}
use Rattle.muxandu_c.proofs.formats.fill_formats.Given as goal

-- the texts so far and those of the items that are left are the texts of all, and so their spans; what is behind them is as it was
abbrev pub invariant-loop-k : goal.invariant-loop-k
invariant-loop-k l =
    let left = texts_of (text_of_value l.kind l.items) (drop l.start l.initial.texts) (drop l.k l.date_times) in
    let all = texts_of (text_of_value l.kind l.items) l.initial.texts l.date_times in
    record {
      texts : take l.start l.texts ++ concat left ≡ concat all;
      spans : take l.k l.spans ++ spans_of l.start left ≡ spans_of 0 all;
      status : status_of_texts (text_of_value l.kind l.items) (drop l.start l.initial.texts) (drop l.k l.date_times)
          ≡ status_of_texts (text_of_value l.kind l.items) l.initial.texts l.date_times;
      count : l.k + length left ≡ length all;
      texts_behind : drop l.start l.texts ≡ drop l.start l.initial.texts;
      spans_behind : drop l.k l.spans ≡ drop l.k l.initial.spans;
      start : l.start ≤ length l.texts;
      room : length l.date_times ≤ length l.spans;
    }
