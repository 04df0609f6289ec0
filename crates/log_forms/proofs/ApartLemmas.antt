-- A stamp ends before a text in which its last word does not continue, and leaves nothing out.
use Rattle.std.proofs.Common.{◌≡◌, ℕ, ◌+◌, ◌-◌, ◌≤◌, Bool, true, false, not, nat_lt, List, length, take, drop}
use Rattle.std.proofs.Common.{refl, sym, ap, ◌∙◌, subst, arith, inl, inr}
use Rattle.std.proofs.lemmas.Bool.{and_parts, cases_lt}
use Rattle.std.proofs.lemmas.Bool.Decides.{nat_tests}
use Rattle.std.proofs.lemmas.List.{drop-drop, drop_all, length-drop}
use Rattle.std.specs.Prelude.{ℤ, ◌&&◌, ◌||◌, if◌then◌else◌, Option, Some, None, Result, Ok, Err}
use Rattle.format_descriptions.specs.declared.parts.Parts.{Parts}
use Rattle.format_descriptions.specs.declared.value_refusal.ValueRefusal.{ValueRefusal}
use Rattle.log_forms.specs.EndLemmas.{EndIf, IsEnd, end_of_end, text_at-end}
use Rattle.log_forms.specs.Ends.{is_apart}
use Rattle.log_forms.specs.Fronts.{follows_no_zone}
use Rattle.log_forms.specs.Instants.{instant_of_parts}
use Rattle.log_forms.specs.Places.{text_at}
use Rattle.log_forms.specs.Stamps.{ended_stamp, front_reading, has_digits, longest_front, read_stamp, stamp_after, stamp_at, stamp_at_text, stamp_of_instant}
use Rattle.log_forms.specs.declared.form.Form.{Form}
use Rattle.log_forms.specs.declared.instants.Assumed.{Assumed}
use Rattle.log_forms.specs.declared.places.Place.{Place}
use Rattle.log_forms.specs.declared.stamps.Stamp.{Stamp}
use Rattle.log_forms.specs.declared.stamps.StampRefusal.{StampRefusal}
use Rattle.log_forms.specs.declared.stamps.StampRefusal.TheVariants.{Absent}

-- the place, the length and the instant of a stamp, and the tests that it passed
record Passed (is_late is_ended : Bool) (place size : ℕ) (r : Result ℤ ValueRefusal) (stamp : Stamp) : Type 0 where
  pub late : is_late ≡ false
  pub apart : is_ended ≡ true
  pub start : stamp.start ≡ place
  pub count : stamp.length ≡ size
  pub instant : r ≡ Ok stamp.instant

passed : (late apart : Bool) (start count : ℕ) (rest : List ℕ) (r : Result ℤ ValueRefusal) (stamp : Stamp)
    → (if late || not apart then Err Absent else stamp_of_instant start count rest r) ≡ Ok stamp → Passed late apart start count r stamp
passed true apart start count rest r stamp e = absurd cc
passed false false start count rest r stamp e = absurd cc
passed false true start count rest (Err refusal) stamp e = absurd cc
passed false true start count rest (Ok i) stamp e = record { late = refl; apart = refl; start = cc; count = cc; instant = cc }

-- a stamp at the front of a text, with so many bytes of the front of a line before the text, among those by what is assumed: its parts,
-- which have its instant, end before the rest, and no time zone is before it. With the same instant by other assumptions the stamp is
-- the same
record AtFront (front : List ℕ) (place : ℕ) (text : List ℕ) (found : Assumed → Result Stamp StampRefusal) (assumed : Assumed) (stamp : Stamp)
    : Type 0 where
  pub start : stamp.start ≡ place
  pub short : stamp.start + stamp.length ≤ 65500
  pub parts : Parts
  pub apart : is_apart parts (take stamp.length text) (drop stamp.length text) ≡ true
  pub alone : follows_no_zone parts (take stamp.start front) ≡ true
  pub same : (other : Assumed) → instant_of_parts other parts ≡ instant_of_parts assumed parts → found other ≡ Ok stamp

ended-front : (assumed : Assumed) (p : Parts) (front : List ℕ) (start count : ℕ) (text : List ℕ) (stamp : Stamp)
    → ended_stamp assumed p front start count text ≡ Ok stamp
    → AtFront front start text (λ a. ended_stamp a p front start count text) assumed stamp
ended-front assumed p front start count text stamp e =
    let rest = drop count text in
    let apart = is_apart p (take count text) rest && follows_no_zone p (take start front) in
    let h = passed (nat_lt 65500 (start + count)) apart start count rest (instant_of_parts assumed p) stamp e in
    let both = and_parts (is_apart p (take count text) rest) (follows_no_zone p (take start front)) h.apart in
    let near : start + count ≤ 65500 = grind (arith, nat_tests, h.late) in
    record {
      start = h.start;
      short = omega (arith, near, h.start, h.count);
      parts = p;
      apart = subst (λ (n : ℕ). is_apart p (take n text) (drop n text) ≡ true) (sym h.count) both.0;
      alone = subst (λ (n : ℕ). follows_no_zone p (take n front) ≡ true) (sym h.start) both.1;
      same = λ other instant.
          ap (λ (r : Result ℤ ValueRefusal). if nat_lt 65500 (start + count) || not apart then Err Absent else stamp_of_instant start count rest r) instant ∙ e;
    }

read-front : (digits : Bool) (r : Result (Parts × ℕ) ℕ) (assumed : Assumed) (front : List ℕ) (start : ℕ) (text : List ℕ) (stamp : Stamp)
    → (if digits then read_stamp assumed front start text r else Err Absent) ≡ Ok stamp
    → AtFront front start text (λ a. if digits then read_stamp a front start text r else Err Absent) assumed stamp
read-front false r assumed front start text stamp e = absurd cc
read-front true (Err place) assumed front start text stamp e = absurd cc
read-front true (Ok (p, count)) assumed front start text stamp e = ended-front assumed p front start count text stamp e

-- the end of a text has its place by its length
end-place : (front text : List ℕ) → IsEnd front text → text ≡ drop (length front - length text) front
end-place front text h =
    elim (cases_lt h.count (length front)) [
      | inl inside ↦
          let count : length front - length text ≡ h.count = omega (arith, inside, ap length h.is, length-drop h.count front) in
          h.is ∙ ap (λ (n : ℕ). drop n front) (sym count)
      | inr past ↦
          let none : length text ≡ 0 = omega (arith, past, ap length h.is, length-drop h.count front) in
          let most : length front ≤ length front - length text = omega (arith, none) in
          h.is ∙ (drop_all h.count front past ∙ sym (drop_all (length front - length text) front most))
    ]

-- the stamp of a text that is the end of the front of a line
pub record InFront (front : List ℕ) (found : Assumed → Result Stamp StampRefusal) (assumed : Assumed) (stamp : Stamp) : Type 0 where
  pub short : stamp.start + stamp.length ≤ 65500
  pub parts : Parts
  pub spelled : List ℕ
  pub apart : is_apart parts spelled (drop (stamp.start + stamp.length) front) ≡ true
  pub alone : follows_no_zone parts (take stamp.start front) ≡ true
  pub same : (other : Assumed) → instant_of_parts other parts ≡ instant_of_parts assumed parts → found other ≡ Ok stamp

-- a stamp in a text that is the end of the front of a line
in-line : (front text : List ℕ) (found : Assumed → Result Stamp StampRefusal) (assumed : Assumed) (stamp : Stamp) → IsEnd front text
    → AtFront front (length front - length text) text found assumed stamp → InFront front found assumed stamp
in-line front text found assumed stamp h at =
    let place : drop stamp.length text ≡ drop (stamp.start + stamp.length) front =
    ap (drop stamp.length) (end-place front text h)
    ∙ (drop-drop stamp.length (length front - length text) front
    ∙ ap (λ (n : ℕ). drop (n + stamp.length) front) (sym at.start)) in
    record {
      short = at.short;
      parts = at.parts;
      spelled = take stamp.length text;
      apart = subst (λ (rest : List ℕ). is_apart at.parts (take stamp.length text) rest ≡ true) place at.apart;
      alone = at.alone;
      same = at.same;
    }

after-lead : (form : Form) (assumed : Assumed) (front rest : List ℕ) (lead : Result (Parts × ℕ) ℕ) (stamp : Stamp) → IsEnd front rest
    → stamp_after form assumed front rest lead ≡ Ok stamp → InFront front (λ a. stamp_after form a front rest lead) assumed stamp
after-lead form assumed front rest (Err place) stamp h e = absurd cc
after-lead form assumed front rest (Ok (p, count)) stamp h e =
    let text = drop count rest in
    in-line front text (λ a. stamp_after form a front rest (Ok (p, count))) assumed stamp
    (end_of_end front rest text h (record { count = count; is = refl }))
    (read-front (has_digits form text) (front_reading form.items text) assumed front (length front - length text) text stamp e)

at-text : (form : Form) (assumed : Assumed) (front : List ℕ) (r : Option (List ℕ)) (stamp : Stamp) → EndIf front r
    → stamp_at_text form assumed front r ≡ Ok stamp → InFront front (λ a. stamp_at_text form a front r) assumed stamp
at-text form assumed front None stamp h e = absurd cc
at-text form assumed front (Some rest) stamp h e = after-lead form assumed front rest (front_reading form.lead rest) stamp h e

pub stamp_at-in_front : (form : Form) (place : Place) (text : List ℕ) (assumed : Assumed) (line : List ℕ) (stamp : Stamp)
    → stamp_at form place text assumed line ≡ Ok stamp
    → InFront (take longest_front line) (λ a. stamp_at form place text a line) assumed stamp
unfolding stamp_at
stamp_at-in_front form place text assumed line stamp e =
    let front = take longest_front line in
    at-text form assumed front (text_at place text front) stamp (text_at-end place text front) e
