-- Stamps, by the form of RFC 3339.
use Rattle.std.proofs.Common.{◌≡◌, refl, sym, ap, ◌∙◌, ℕ, ◌+◌, ◌-◌, ◌≤◌, Bool, true, false, not, cond, List, [], ◌∷◌, ◌++◌, take, drop, length}
use Rattle.std.proofs.Common.{length-append, append_assoc, Option, Some, None, Result, Ok, Err, arith, ℤ}
use Rattle.std.specs.Prelude.{◌||◌, nat_lt}
use Rattle.std.proofs.Math.Seq.{drop-append_seam, take-append-add}
use Rattle.std.proofs.lemmas.Bool.Decides.{nat_tests}
use Rattle.std.proofs.lemmas.List.{drop_all, length-take, take-append-drop}
use Rattle.std.specs.Result.{result_map_both}
use Rattle.offset_times.specs.Local.{Local, instant_of}
use Rattle.rfc3339.specs.Form.{IsDateTime}
use Rattle.rfc3339.specs.Meaning.{meaning, value_of}
use Rattle.rfc3339.specs.MeaningLemmas.{meaning-in_range, meaning-ok}
use Rattle.rfc3339.specs.Reading.{front_at}
use Rattle.rfc3339.specs.TextLemmas.{front_again, front_takes}
use Rattle.rfc3339.specs.declared.parts.Parts.{Parts}
use Rattle.rfc3339.specs.declared.refusal.Component.{Component}
use Rattle.rfc3339.specs.declared.refusal.TextRefusal.{TextRefusal}
use Rattle.rfc3339.specs.declared.refusal.TextRefusal.TheVariants.{Syntax, OutOfRange}
use Rattle.stamps.specs.Laws.{HasStamp}
use Rattle.log_forms.specs.Ends.{opens_bracket, runs_on}
use Rattle.stamps.specs.LineStamps.{ended_stamp, ends, front_stamp, longest_stamp, stamp, stamp_of}
use Rattle.stamps.specs.declared.decide.Stamp.{Stamp}

-- ---- what stands behind a date-time

-- two bytes tell whether a word continues, and one whether a bracket opens
runs_on-more : (rest more : List ℕ) → (length rest ≤ 1 → more ≡ []) → runs_on false (rest ++ more) ≡ runs_on false rest
runs_on-more [] more h = ap (runs_on false) (h (omega arith))
runs_on-more (byte ∷ []) more h = ap (λ (z : List ℕ). runs_on false (byte ∷ z)) (h (omega arith))
runs_on-more (byte ∷ next ∷ rest) more h = refl

opens_bracket-more : (rest more : List ℕ) → (length rest ≤ 1 → more ≡ []) → opens_bracket (rest ++ more) ≡ opens_bracket rest
opens_bracket-more [] more h = ap opens_bracket (h (omega arith))
opens_bracket-more (byte ∷ rest) more h = refl

ended_stamp-more : (m : Result Local TextRefusal) (n : ℕ) (rest more : List ℕ) → (length rest ≤ 1 → more ≡ [])
    → ended_stamp m n (rest ++ more) ≡ ended_stamp m n rest
ended_stamp-more m n rest more h = rw (runs_on-more rest more h, opens_bracket-more rest more h) refl

ended_stamp-take : (m : Result Local TextRefusal) (n count : ℕ) (rest : List ℕ) → 2 ≤ count → ended_stamp m n (take count rest) ≡ ended_stamp m n rest
ended_stamp-take m n count rest more =
    sym (ended_stamp-more m n (take count rest) (drop count rest) (λ short. drop_all count rest (omega (arith, more, short, length-take count rest))))
    ∙ ap (ended_stamp m n) (take-append-drop count rest)

-- ---- what has the form is a stamp

-- a date-time in front of a text is what it means, if it ends there
pub form_again : (spelled rest : List ℕ) (p : Parts) → IsDateTime spelled p → length spelled ≤ longest_stamp
    → stamp_of (spelled ++ rest) ≡ ended_stamp (meaning p) (length spelled) rest
unfolding stamp_of
form_again spelled rest p form short =
    let n = length spelled in
    let behind = take (65533 - n) rest in
    let whole : 65533 ≡ n + (65533 - n) = omega (arith, short) in
    let front : take 65533 (spelled ++ rest) ≡ spelled ++ behind = ap (λ (z : ℕ). take z (spelled ++ rest)) whole ∙ take-append-add spelled rest (65533 - n) in
    let count : length (spelled ++ behind) - length behind ≡ n = omega (arith, length-append spelled behind) in
    rw (front, front_again spelled p behind form, count, drop-append_seam spelled behind)
    (ended_stamp-take (meaning p) n (65533 - n) rest (omega (arith, short)))

ended_at : (m : Result Local TextRefusal) (n : ℕ) (rest : List ℕ) → n ≤ longest_stamp → runs_on false rest ≡ false
    → ended_stamp m n rest ≡ result_map_both (λ at. stamp (instant_of at) n rest) (λ refusal. refusal) m
ended_at m n rest short e =
    let low : nat_lt longest_stamp n ≡ false = grind (arith, nat_tests) in rw (low, e) refl

pub stamp_again : (spelled rest : List ℕ) (p : Parts) (at : Local) → IsDateTime spelled p → meaning p ≡ Ok at → length spelled ≤ longest_stamp
    → runs_on false rest ≡ false → stamp_of (spelled ++ rest) ≡ Ok (stamp (instant_of at) (length spelled) rest)
stamp_again spelled rest p at form e short ends =
    form_again spelled rest p form short ∙ ended_at (meaning p) (length spelled) rest short ends
    ∙ ap (result_map_both (λ (at : Local). stamp (instant_of at) (length spelled) rest) (λ (refusal : TextRefusal). refusal)) e

pub refused : (spelled rest : List ℕ) (p : Parts) (component : Component) → IsDateTime spelled p → length spelled ≤ longest_stamp
    → runs_on false rest ≡ false → meaning p ≡ Err (OutOfRange component) → stamp_of (spelled ++ rest) ≡ Err (OutOfRange component)
refused spelled rest p component form short ends e =
    form_again spelled rest p form short ∙ ended_at (meaning p) (length spelled) rest short ends
    ∙ ap (result_map_both (λ (at : Local). stamp (instant_of at) (length spelled) rest) (λ (refusal : TextRefusal). refusal)) e

not_ended : (late : Bool) (m : Result Local TextRefusal) (n : ℕ) (rest : List ℕ) → nat_lt longest_stamp n ≡ late → runs_on false rest ≡ true
    → ended_stamp m n rest ≡ Err Syntax
not_ended true m n rest e f = rw e refl
not_ended false m n rest e f = rw (e, f) refl

pub continued : (spelled rest : List ℕ) (p : Parts) → IsDateTime spelled p → length spelled ≤ longest_stamp
    → runs_on false rest ≡ true → stamp_of (spelled ++ rest) ≡ Err Syntax
continued spelled rest p form short e =
    form_again spelled rest p form short ∙ not_ended (nat_lt longest_stamp (length spelled)) (meaning p) (length spelled) rest refl e

stamp_is : (s : Stamp) (i : ℤ) (n : ℕ) (rest : List ℕ) → s.instant ≡ i → s.length ≡ n → s.is_zoned ≡ opens_bracket rest → stamp i n rest ≡ s
stamp_is s i n rest a b c = rw (← a, ← b, ← c) refl

pub complete : (text : List ℕ) (s : Stamp) → HasStamp text s → stamp_of text ≡ Ok s
complete text s h =
    ap stamp_of h.split
    ∙ stamp_again h.spelled h.rest h.parts (value_of h.parts) h.form (meaning-in_range h.parts h.ranges) h.short h.ends
    ∙ ap (λ (z : Stamp). Ok z) (stamp_is s _ _ h.rest h.instant h.count h.zone)

-- ---- a stamp has the form

-- what is known of a stamp that was accepted
record Accepted (i : ℤ) (n : ℕ) (rest : List ℕ) (s : Stamp) : Type 0 where
  is : stamp i n rest ≡ s
  short : n ≤ longest_stamp
  ends : runs_on false rest ≡ false

ok_is : (s t : Stamp) → ◌≡◌ {A = Result Stamp TextRefusal} (Ok s) (Ok t) → s ≡ t
ok_is s t e = cc

accepted : (late on : Bool) (at : Local) (n : ℕ) (rest : List ℕ) (s : Stamp) → nat_lt longest_stamp n ≡ late → runs_on false rest ≡ on
    → cond (not (late || on)) (Ok (stamp (instant_of at) n rest)) (Err Syntax) ≡ Ok s → Accepted (instant_of at) n rest s
accepted true on at n rest s e f h = absurd cc
accepted false true at n rest s e f h = absurd cc
accepted false false at n rest s e f h = record { is = ok_is _ s h; short = grind (arith, nat_tests); ends = f }

no_refusal : (it_ends : Bool) (refusal : TextRefusal) (s : Stamp) → ◌≡◌ {A = Result Stamp TextRefusal} (cond it_ends (Err refusal) (Err Syntax)) (Ok s) → ⊥
no_refusal true refusal s h = cc
no_refusal false refusal s h = cc

-- nothing follows a front that has at most one byte behind a stamp
no_more : (text spelled rest : List ℕ) → take 65533 text ≡ spelled ++ rest → length spelled ≤ longest_stamp → length rest ≤ 1 → drop 65533 text ≡ []
no_more text spelled rest e short one =
    drop_all 65533 text (omega (arith, ap (length {A = ℕ}) e, length-append spelled rest, length-take 65533 text, short, one))

-- a front was read, of which this is the rest
sound_at : (text rest : List ℕ) (s : Stamp) (p : Parts) (m : Result Local TextRefusal) → front_at (take 65533 text) ≡ Some (p, rest) → meaning p ≡ m
    → (let count = length (take 65533 text) - length rest in ended_stamp m count (drop count (take 65533 text))) ≡ Ok s → HasStamp text s
sound_at text rest s p (Err refusal) e f h =
    let count = length (take 65533 text) - length rest in
    absurd (no_refusal (ends count (drop count (take 65533 text))) refusal s h)
sound_at text rest s p (Ok at) e f h =
    let front = take 65533 text in
    let took = front_takes front p rest e in
    let spelled = took.0 in
    let more = drop 65533 text in
    let n = length front - length rest in
    let behind = drop n front in
    let count : n ≡ length spelled = omega (arith, ap (length {A = ℕ}) took.1.parts, length-append spelled rest) in
    let known = accepted (nat_lt longest_stamp n) (runs_on false behind) at n behind s refl refl h in
    let short : length spelled ≤ longest_stamp = omega (arith, count, known.short) in
    let none = no_more text spelled rest took.1.parts short in
    let is : behind ≡ rest = ap (drop n) took.1.parts ∙ ap (λ (z : ℕ). drop z (spelled ++ rest)) count ∙ drop-append_seam spelled rest in
    let ranges = meaning-ok p at f in
    record {
      spelled = spelled;
      rest = rest ++ more;
      parts = p;
      split = sym (take-append-drop 65533 text) ∙ ap (λ (z : List ℕ). z ++ more) took.1.parts ∙ append_assoc spelled rest more;
      form = took.1.is;
      ranges = ranges.0;
      short = short;
      ends = runs_on-more rest more none ∙ (ap (runs_on false) (sym is) ∙ known.ends);
      instant = ap (λ (z : Stamp). z.instant) (sym known.is) ∙ ap instant_of ranges.1;
      count = ap (λ (z : Stamp). z.length) (sym known.is) ∙ count;
      zone = ap (λ (z : Stamp). z.is_zoned) (sym known.is) ∙ (ap opens_bracket is ∙ sym (opens_bracket-more rest more none));
    }

sound_in : (text : List ℕ) (s : Stamp) (o : Option (Parts × List ℕ)) → front_at (take 65533 text) ≡ o
    → front_stamp (take 65533 text) o ≡ Ok s → HasStamp text s
sound_in text s None e h = absurd cc
sound_in text s (Some read) e h = sound_at text read.1 s read.0 (meaning read.0) e refl h

pub sound : (text : List ℕ) (s : Stamp) → stamp_of text ≡ Ok s → HasStamp text s
unfolding stamp_of
sound text s e = sound_in text s (front_at (take 65533 text)) refl e
