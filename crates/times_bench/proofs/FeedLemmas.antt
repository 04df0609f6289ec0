-- The answers to the lines of a block, which a failed write or a lack of memory may end.
use Rattle.std.proofs.Common.{◌≡◌, ◌≢◌, ℕ, ◌≤◌, IsTrue, Bool, true, false, nat_lt, take, List, [], ◌∷◌, ◌++◌, length, Option, Result, refl}
use Rattle.std.proofs.Common.{sym, ◌∙◌, subst, arith, append_assoc, append-nil}
use Rattle.std.specs.Prelude.{MatchResult}
use Rattle.std.specs.Io.KnownBytes.{Appends}
use Rattle.std.proofs.lemmas.Bool.Decides.{nat_tests}
use Rattle.std.proofs.lemmas.Grind.{flat_map-append}
use Rattle.std.proofs.lemmas.List.{length-take, take_all}
use Rattle.std.proofs.lemmas.Result.{MatchResult-weaker}
use Rattle.times_bench.specs.Answers.{answer_to, request_takes_memory, takes_memory, answer_of, answers_of}
use Rattle.line_devices.specs.Lines.{unless_empty}
use Rattle.line_devices.specs.LineParts.{ended_from, rest_from}
use Rattle.times_bench.specs.LineParts.{Holds}
use Rattle.times_bench.specs.Progress.{AnswersBeforeMemory, AtFault, WritesPending, SendsAnswer, WritesAnswers}
use Rattle.times_bench.specs.Requests.{Request, request_of}
use Rattle.line_devices.specs.Writing.{AppendsBeginning, Sends}
use Rattle.times_bench.specs.declared.sending.AnswerFault.{AnswerFault}
use Rattle.line_devices.specs.LineLemmas.{ended_from-append, ended_from-line_feed}
use Rattle.times_bench.proofs.LineLemmas.{Holds-append}
use Rattle.line_devices.specs.WritingLemmas.{Appends-append, Appends-flushed, AppendsBeginning-flushed, AppendsBeginning-longer, AppendsBeginning-pending}
use Rattle.line_devices.specs.WritingLemmas.{Sends-append}
use Rattle.times_bench.proofs.SendingLemmas.{AtFault-weaker}

-- the answers to the lines of one part and then of another
pub answers_of-append : (piece xs ys : List ℕ)
    → answers_of (ended_from piece (xs ++ ys)) ≡ answers_of (ended_from piece xs) ++ answers_of (ended_from (rest_from piece xs) ys)
answers_of-append piece xs ys =
    rw (ended_from-append piece xs ys) (flat_map-append answer_of (ended_from piece xs) (ended_from (rest_from piece xs) ys))

-- with a line feed more, there is one answer more
pub answers_of-line_feed : (piece xs : List ℕ)
    → answers_of (ended_from piece (xs ++ 10 ∷ [])) ≡ answers_of (ended_from piece xs) ++ answer_of (rest_from piece xs)
answers_of-line_feed piece xs =
    rw (ended_from-line_feed piece xs, ← append-nil (answer_of (rest_from piece xs))) (flat_map-append answer_of (ended_from piece xs) (_ ∷ []))

-- a line that is too long is not whole in its table, and asks for nothing there either
request_of-cut : (piece : List ℕ) (is_long : Bool) → nat_lt 1024 (length piece) ≡ is_long → request_of (take 1025 piece) ≡ request_of piece
unfolding request_of
request_of-cut piece true e =
    let count = length-take 1025 piece in
    let cut : nat_lt 1024 (length (take 1025 piece)) ≡ true = grind (arith, nat_tests) in
    rw (cut, e) refl
request_of-cut piece false e =
    let short : length piece ≤ 1024 = grind (arith, nat_tests) in rw (take_all 1025 piece (omega arith)) refl

-- a line is answered
pub Sends-line : (a b c : Option (List ℕ)) (p q piece xs : List ℕ) → Sends a b p (answers_of (ended_from piece xs))
    → Sends b c q (p ++ answer_of (rest_from piece xs)) → Sends a c q (answers_of (ended_from piece (xs ++ 10 ∷ [])))
Sends-line a b c p q piece xs h k = rw (answers_of-line_feed piece xs) (Sends-append a b c p _ q _ h k)

-- the lines of a block that has a line feed
ended_from-line : (piece xs more block : List ℕ) → block ≡ (xs ++ 10 ∷ []) ++ more
    → ended_from piece block ≡ ended_from piece xs ++ rest_from piece xs ∷ ended_from (rest_from piece (xs ++ 10 ∷ [])) more
ended_from-line piece xs more block e =
    rw (e, ended_from-append piece (xs ++ 10 ∷ []) more, ended_from-line_feed piece xs) (append_assoc (ended_from piece xs) (rest_from piece xs ∷ []) _)

-- a fault at a line of a block
pub AtFault-line : (fault : AnswerFault) (a b c : Option (List ℕ)) (p piece xs more block : List ℕ) → block ≡ (xs ++ 10 ∷ []) ++ more
    → Sends a b p (answers_of (ended_from piece xs))
    → (let line = rest_from piece xs in AtFault fault (AppendsBeginning b c (p ++ answer_of line)) (Appends b c p × IsTrue (takes_memory line)))
    → (let lines = ended_from piece block in AtFault fault (AppendsBeginning a c (answers_of lines)) (AnswersBeforeMemory a c lines))
AtFault-line fault a b c p piece xs more block e h k =
    let before = ended_from piece xs in
    let line = rest_from piece xs in
    let after = ended_from (rest_from piece (xs ++ 10 ∷ [])) more in
    let lines = ended_from-line piece xs more block e in
    AtFault-weaker fault k
    (λ cut. rw (lines, flat_map-append answer_of before (line ∷ after), ← append_assoc (answers_of before) (answer_of line) (answers_of after))
    (AppendsBeginning-longer a c _ (answers_of after) (AppendsBeginning-pending a b c p (answers_of before) (answer_of line) h cut)))
    (λ short. record {
      before = before;
      stops = record { line = line; after = after; whole = lines; takes = short.1 };
      appended = Appends-flushed a b c p (answers_of before) h short.0;
    })

-- what is pending is written behind the answers that were sent
pub WritesAnswers-flushed : {T : Type 0} (a b c : Option (List ℕ)) (p : List ℕ) (lines : List (List ℕ)) (result : Result T AnswerFault)
    → Sends a b p (answers_of lines) → WritesPending result b c p → WritesAnswers result a c lines
WritesAnswers-flushed a b c p lines result h k =
    MatchResult-weaker result k (λ _ w. Appends-flushed a b c p (answers_of lines) h w)
    (λ fault w. AtFault-weaker fault w (λ cut. AppendsBeginning-flushed a b c p (answers_of lines) h cut) (λ none. absurd none))

-- lines that ask for the same
pub SendsAnswer-same : {T : Type 0} (a b : Option (List ℕ)) (p q line other : List ℕ) (result : Result T AnswerFault)
    → request_of line ≡ request_of other → SendsAnswer result a b p q line → SendsAnswer result a b p q other
unfolding answer_of takes_memory
SendsAnswer-same a b p q line other result e h =
    subst (λ (z : Option Request). MatchResult result (λ _. Sends a b q (p ++ (answer_to z ++ 10 ∷ [])))
    (λ fault. AtFault fault (AppendsBeginning a b (p ++ (answer_to z ++ 10 ∷ []))) (Appends a b p × IsTrue (request_takes_memory z)))) e h

-- the last line
pub unless_empty-some : (piece : List ℕ) → piece ≢ [] → unless_empty piece ≡ piece ∷ []
unless_empty-some [] some = absurd (some refl)
unless_empty-some (byte ∷ piece) some = refl

-- a part of a block ends the line whose beginning the table holds
pub request_of-pushed : (piece line part bytes : List ℕ) → Holds piece line → bytes ≡ take 1025 (line ++ part) → request_of bytes ≡ request_of (piece ++ part)
request_of-pushed piece line part bytes h e =
    rw (e ∙ Holds-append piece line part h) (request_of-cut (piece ++ part) (nat_lt 1024 (length (piece ++ part))) refl)

-- lines stand before
pub AnswersBeforeMemory-append : (a b c : Option (List ℕ)) (before lines : List (List ℕ)) → Appends a b (answers_of before)
    → AnswersBeforeMemory b c lines → AnswersBeforeMemory a c (before ++ lines)
AnswersBeforeMemory-append a b c before lines h k =
    let stops = k.stops in
    record {
      before = before ++ k.before;
      stops = record {
        line = stops.line;
        after = stops.after;
        whole = rw stops.whole (sym (append_assoc before k.before (stops.line ∷ stops.after)));
        takes = stops.takes;
      };
      appended = rw (flat_map-append answer_of before k.before) (Appends-append a b c (answers_of before) (answers_of k.before) h k.appended);
    }

-- more lines stand behind
pub AnswersBeforeMemory-longer : (a b : Option (List ℕ)) (lines more : List (List ℕ)) → AnswersBeforeMemory a b lines → AnswersBeforeMemory a b (lines ++ more)
AnswersBeforeMemory-longer a b lines more h =
    let stops = h.stops in
    record {
      before = h.before;
      stops = record {
        line = stops.line;
        after = stops.after ++ more;
        whole = rw stops.whole (append_assoc h.before (stops.line ∷ stops.after) more);
        takes = stops.takes;
      };
      appended = h.appended;
    }
