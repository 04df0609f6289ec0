-- Many texts written into one block, one after the other: each item has a span and a status of its own.
use Rattle.std.specs.Prelude.{ℕ, List, [], ◌∷◌, drop, Result, Ok, Err}
use Rattle.muxandu_c.specs.Answers.{text_if_room}
use Rattle.muxandu_c.specs.EachBatches.{with_both_rooms}
use Rattle.muxandu_c.specs.Exchange.{date_time_to_rfc3339}
use Rattle.muxandu_c.specs.TextBlocks.{bytes_taken}
use Rattle.muxandu_c.specs.declared.refused.Refused.{Refused}
use Rattle.muxandu_c.specs.declared.values.MuxanduDateTime.{MuxanduDateTime}
use Rattle.muxandu_c.specs.declared.values.MuxanduSpan.{MuxanduSpan}

-- the answer of each item, whose text is written into the rest of a block after those before it
abbrev pub answers_in : {A : Type 0} → (A → Result (List ℕ) Refused) → List ℕ → List A → List (Result (List ℕ) Refused)
answers_in f block [] = []
answers_in f block (x ∷ xs) = let answer = text_if_room (f x) block in answer ∷ answers_in f (drop (bytes_taken answer) block) xs

-- the text of an answer, and no bytes for an error
abbrev pub text_or_none : Result (List ℕ) Refused → List ℕ
text_or_none (Ok text) = text
text_or_none (Err refusal) = []

abbrev pub texts_or_none : List (Result (List ℕ) Refused) → List (List ℕ)
texts_or_none [] = []
texts_or_none (answer ∷ answers) = text_or_none answer ∷ texts_or_none answers

-- the answer as it is
abbrev pub as_it_is : Result (List ℕ) Refused → Result (List ℕ) Refused
as_it_is answer = answer

-- the answers of date-times, if there is room for all of their spans and of their statuses
abbrev pub answers_in_block : List ℕ → List MuxanduSpan → List ℕ → List MuxanduDateTime → List (Result (List ℕ) Refused)
answers_in_block block spans statuses items = answers_in date_time_to_rfc3339 block (with_both_rooms spans statuses items)
