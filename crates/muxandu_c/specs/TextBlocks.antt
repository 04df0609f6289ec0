-- Many texts written into one block, one after the other, and the span of each.
use Rattle.std.specs.Prelude.{ℕ, ◌+◌, List, [], ◌∷◌, length, drop, nat_lt, Result, Ok, Err, if◌then◌else◌}
use Rattle.muxandu_c.specs.Answers.{status_number, text_if_room}
use Rattle.muxandu_c.specs.Batches.{value_before, status_before, with_room}
use Rattle.muxandu_c.specs.Exchange.{date_time_to_rfc3339}
use Rattle.muxandu_c.specs.declared.refused.Refused.{Refused}
use Rattle.muxandu_c.specs.declared.refused.Refused.TheVariants as refused
use Rattle.muxandu_c.specs.declared.values.MuxanduDateTime.{MuxanduDateTime}
use Rattle.muxandu_c.specs.declared.values.MuxanduSpan.{MuxanduSpan}

-- the number of bytes that a result takes
abbrev pub bytes_taken : Result (List ℕ) Refused → ℕ
bytes_taken (Ok text) = length text
bytes_taken (Err refusal) = 0

-- the texts of items, each written into the rest of a block after those before it
-- they end before the first that fails, or that is too long for the rest
abbrev pub texts_of : {A : Type 0} → (A → Result (List ℕ) Refused) → List ℕ → List A → List (List ℕ)
texts_of f block [] = []
texts_of f block (x ∷ xs) =
    let text = text_if_room (f x) block in value_before text (texts_of f (drop (bytes_taken text) block) xs)

-- the status of the first error, or 0
abbrev pub status_of_texts : {A : Type 0} → (A → Result (List ℕ) Refused) → List ℕ → List A → ℕ
status_of_texts f block [] = 0
status_of_texts f block (x ∷ xs) =
    let text = text_if_room (f x) block in status_before text (status_of_texts f (drop (bytes_taken text) block) xs)

-- the spans of texts that follow one another, from a place on
abbrev pub spans_of : ℕ → List (List ℕ) → List MuxanduSpan
spans_of start [] = []
spans_of start (text ∷ texts) = (record { start = start; length = length text }) ∷ spans_of (start + length text) texts

-- the texts of date-times, if there is room for all of their spans
abbrev pub texts_in_block : List ℕ → List MuxanduSpan → List MuxanduDateTime → List (List ℕ)
texts_in_block block spans items = texts_of date_time_to_rfc3339 block (with_room spans items)

-- the status of a call with these date-times
abbrev pub block_status : List ℕ → List MuxanduSpan → List MuxanduDateTime → ℕ
block_status block spans items =
    if nat_lt (length spans) (length items) then status_number refused.Buffer else status_of_texts date_time_to_rfc3339 block items
