-- What the front of a text is read as, by the numbers that stand there.
use Rattle.std.proofs.Common.{◌≡◌, ℕ, ◌-◌, List, ◌++◌, length, length-append, Option, Some, None, Result, Ok, Err, refl, ap, ◌∙◌, arith}
use Rattle.std.specs.Result.{result_map_both}
use Rattle.offset_times.specs.Local.{Local}
use Rattle.rfc3339.specs.Form.{IsDateTime}
use Rattle.rfc3339.specs.Front.{front_reading_of, front_meaning}
use Rattle.rfc3339.specs.Meaning.{meaning}
use Rattle.rfc3339.specs.Reading.{front_at}
use Rattle.rfc3339.specs.TextLemmas.{front_takes, front_again}
use Rattle.rfc3339.specs.declared.parts.Parts.{Parts}
use Rattle.rfc3339.specs.declared.refusal.TextRefusal.{TextRefusal}
use Rattle.rfc3339.specs.declared.refusal.TextRefusal.TheVariants.{Syntax}
use Rattle.muxandu_c.specs.Answers.{and_then, refused_text, text_as_refused}
use Rattle.muxandu_c.specs.Exchange.{date_time_spelled}
use Rattle.muxandu_c.specs.FrontTexts.{front_spelled, date_time_front}
use Rattle.muxandu_c.specs.Values.{date_time_parts, as_date_time}
use Rattle.muxandu_c.specs.declared.refused.Refused.{Refused}
use Rattle.muxandu_c.specs.declared.refused.Refused.TheVariants as refused
use Rattle.muxandu_c.specs.declared.values.MuxanduDateTime.{MuxanduDateTime}

-- with the number of bytes
abbrev with_length : ℕ → Result Local TextRefusal → Result (Local × ℕ) TextRefusal
with_length n r = result_map_both (λ at. (at, n)) (λ refusal. refusal) r

abbrev with_size : ℕ → Result MuxanduDateTime Refused → Result (MuxanduDateTime × ℕ) Refused
with_size n r = and_then r (λ v. Ok (v, n))

-- what is read
read_of_meaning : (p : Parts) (n : ℕ) (m : Result Local TextRefusal) (at : Local) (k : ℕ) → Ok (at, k) ≡ with_length n m
    → Ok (date_time_parts at, k) ≡ with_size n (as_date_time (text_as_refused p.day m))
read_of_meaning p n (Ok x) at k e =
    ap (result_map_both (λ (q : Local × ℕ). (date_time_parts q.0, q.1)) (refused_text p.day)) e
read_of_meaning p n (Err d) at k e = absurd cc

read_of_parts : (text : List ℕ) (o : Option (Parts × List ℕ)) (at : Local) (k : ℕ) → Ok (at, k) ≡ front_meaning text o
    → Ok (date_time_parts at, k) ≡ front_spelled text o
read_of_parts text None at k e = absurd cc
read_of_parts text (Some (p, rest)) at k e = read_of_meaning p (length text - length rest) (meaning p) at k e

pub read_of_front : (text : List ℕ) (at : Local) (k : ℕ) → Ok (at, k) ≡ front_reading_of text
    → Ok (date_time_parts at, k) ≡ date_time_front text
unfolding front_reading_of date_time_front
read_of_front text at k e = read_of_parts text (front_at text) at k e

-- what is refused
refused_of_meaning : (p : Parts) (n : ℕ) (m : Result Local TextRefusal) (d : TextRefusal) (x : Refused) → Err d ≡ with_length n m
    → x ≡ refused_text p.day d → Err x ≡ with_size n (as_date_time (text_as_refused p.day m))
refused_of_meaning p n (Ok at) d x e f = absurd cc
refused_of_meaning p n (Err other) d x e f =
    ap (λ (z : Refused). Err z) f ∙ ap (result_map_both (λ (q : Local × ℕ). (date_time_parts q.0, q.1)) (refused_text p.day)) e

refused_of_parts : (text : List ℕ) (o : Option (Parts × List ℕ)) (d : TextRefusal) (x : Refused) → Err d ≡ front_meaning text o
    → ((p : Parts) (rest : List ℕ) → o ≡ Some (p, rest) → x ≡ refused_text p.day d) → (d ≡ Syntax → x ≡ refused.Syntax)
    → Err x ≡ front_spelled text o
refused_of_parts text None d x e spelled syntax = ap (λ (z : Refused). Err z) (syntax cc)
refused_of_parts text (Some (p, rest)) d x e spelled syntax =
    refused_of_meaning p (length text - length rest) (meaning p) d x e (spelled p rest refl)

pub refused_of_front : (text : List ℕ) (d : TextRefusal) (x : Refused) → Err d ≡ front_reading_of text
    → ((stamp rest : List ℕ) (p : Parts) → text ≡ stamp ++ rest → IsDateTime stamp p → x ≡ refused_text p.day d)
    → (d ≡ Syntax → x ≡ refused.Syntax) → Err x ≡ date_time_front text
unfolding front_reading_of date_time_front
refused_of_front text d x e spelled syntax =
    let by_parts = λ (p : Parts) (rest : List ℕ) (o : front_at text ≡ Some (p, rest)).
    (let front = front_takes text p rest o in spelled front.0 rest p front.1.parts front.1.is) in
    refused_of_parts text (front_at text) d x e by_parts syntax

-- a beginning that has the form is what is read
pub date_time_front-spelled : (text stamp rest : List ℕ) (p : Parts) → text ≡ stamp ++ rest → IsDateTime stamp p
    → date_time_front text ≡ and_then (date_time_spelled p) (λ v. Ok (v, length stamp))
unfolding date_time_front
date_time_front-spelled text stamp rest p e is =
    let count : length (stamp ++ rest) - length rest ≡ length stamp = omega (arith, length-append stamp rest) in
    rw (e, front_again stamp p rest is, count) refl
