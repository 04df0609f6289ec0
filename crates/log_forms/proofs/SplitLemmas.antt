-- Items that split are read in two parts.
use Rattle.std.proofs.Common.{◌≡◌, ℕ, zero, suc, ◌+◌, ◌-◌, ◌≤◌, ◌<◌, Bool, true, false, not, List, [], ◌∷◌, length, drop, take, min, refl, sym, ap, ◌∙◌}
use Rattle.std.proofs.Common.{arith, Option, Some, None, Result, Ok, Err}
use Rattle.std.specs.Prelude.{if◌then◌else◌}
use Rattle.std.specs.Result.{result_map_both}
use Rattle.std.proofs.Math.Nat.{min-le_right, min-eq_left}
use Rattle.std.proofs.lemmas.Bool.{and_parts}
use Rattle.std.proofs.lemmas.Bool.Decides.{nat_tests}
use Rattle.std.proofs.lemmas.List.{length-drop, length-take}
use Rattle.format_descriptions.specs.Groups.{size_of, is_other, fault_after}
use Rattle.format_descriptions.specs.Read.{Front, Reader, after_group, front_of, going_on, item_at, no_parts, read_end, read_from, read_item, try_group}
use Rattle.format_descriptions.specs.declared.item.Item.{Item}
use Rattle.format_descriptions.specs.declared.item.Item.TheVariants.{Byte, Part, Optional, First, Or}
use Rattle.format_descriptions.specs.declared.parts.Parts.{Parts}
use Rattle.log_forms.specs.Splits.{counted_reading, ends_within, if_read, reading_behind, reading_in_two, splits}
use Rattle.log_forms.specs.Stamps.{ended_stamp, has_digits, has_digits_behind, has_digits_if, read_stamp, stamp_in}
use Rattle.log_forms.specs.declared.form.Form.{Form}
use Rattle.log_forms.specs.declared.instants.Assumed.{Assumed}
use Rattle.log_forms.specs.declared.stamps.StampRefusal.TheVariants.{Absent}

-- the reading of other items after those that were read
abbrev pub read_then : List Item → ℕ → Front → Front
read_then others count (Ok read) = read_from others 0 count None read.1 read.0
read_then others count (Err left) = Err left

-- two readings of an item, by those of the items behind it

going_on-related : (text : List ℕ) (whole front : Parts × List ℕ → Front) (after : Front → Front) (read : Option (Parts × List ℕ))
    → ((left : ℕ) → after (Err left) ≡ Err left) → ((more : Parts × List ℕ) → whole more ≡ after (front more))
    → going_on text whole read ≡ after (going_on text front read)
going_on-related text whole front after None faults same = sym (faults (length text))
going_on-related text whole front after (Some more) faults same = same more

after_group-related : (whole_fault front_fault : ℕ → Front) (whole front : Parts × List ℕ → Front) (after : Front → Front) (own : Front)
    → ((left : ℕ) → whole_fault left ≡ after (front_fault left)) → ((more : Parts × List ℕ) → whole more ≡ after (front more))
    → after_group whole_fault whole own ≡ after (after_group front_fault front own)
after_group-related whole_fault front_fault whole front after (Err left) fails same = fails left
after_group-related whole_fault front_fault whole front after (Ok more) fails same = same more

try_group-related : (item : Item) (size : ℕ) (whole front : Reader) (c d : ℕ) (after : Front → Front) (fault : Option ℕ) (text : List ℕ) (p : Parts)
    → whole 0 (min size c) None text p ≡ front 0 (min size d) None text p
    → ((o : Option ℕ) (t : List ℕ) (q : Parts) → whole size (c - size) o t q ≡ after (front size (d - size) o t q))
    → try_group item size whole c fault text p ≡ after (try_group item size front d fault text p)
try_group-related item size whole front c d after fault text p own others =
    rw own
    (after_group-related (λ left. whole size (c - size) (fault_after item fault left) text p)
    (λ left. front size (d - size) (fault_after item fault left) text p)
    (λ more. whole size (c - size) None more.1 more.0) (λ more. front size (d - size) None more.1 more.0) after (front 0 (min size d) None text p)
    (λ left. others (fault_after item fault left) text p) (λ more. others None more.1 more.0))

read_item-related : (item : Item) (whole front : Reader) (c d : ℕ) (after : Front → Front) (fault : Option ℕ) (text : List ℕ) (p : Parts)
    → ((left : ℕ) → after (Err left) ≡ Err left)
    → ((t : List ℕ) (q : Parts) → whole 0 c None t q ≡ after (front 0 d None t q))
    → ((size : ℕ) → Some size ≡ size_of item → whole 0 (min size c) None text p ≡ front 0 (min size d) None text p)
    → ((size : ℕ) → Some size ≡ size_of item → (o : Option ℕ) (t : List ℕ) (q : Parts)
    → whole size (c - size) o t q ≡ after (front size (d - size) o t q))
    → read_item item whole c fault text p ≡ after (read_item item front d fault text p)
read_item-related (Byte byte) whole front c d after None text p faults on own others =
    going_on-related text (λ more. whole 0 c None more.1 more.0) (λ more. front 0 d None more.1 more.0) after (item_at (Byte byte) text p) faults
    (λ more. on more.1 more.0)
read_item-related (Part component) whole front c d after None text p faults on own others =
    going_on-related text (λ more. whole 0 c None more.1 more.0) (λ more. front 0 d None more.1 more.0) after (item_at (Part component) text p) faults
    (λ more. on more.1 more.0)
read_item-related (Optional size) whole front c d after None text p faults on own others =
    try_group-related (Optional size) size whole front c d after None text p (own size refl) (others size refl)
read_item-related (First size) whole front c d after None text p faults on own others =
    try_group-related (First size) size whole front c d after None text p (own size refl) (others size refl)
read_item-related (Or size) whole front c d after None text p faults on own others = others size refl None text p
read_item-related (Byte byte) whole front c d after (Some left) text p faults on own others = sym (faults left)
read_item-related (Part component) whole front c d after (Some left) text p faults on own others = sym (faults left)
read_item-related (Optional size) whole front c d after (Some left) text p faults on own others = sym (faults left)
read_item-related (First size) whole front c d after (Some left) text p faults on own others = sym (faults left)
read_item-related (Or size) whole front c d after (Some left) text p faults on own others =
    try_group-related (Or size) size whole front c d after (Some left) text p (own size refl) (others size refl)

-- no item is taken
none_taken : (items : List Item) (skip : ℕ) (fault : Option ℕ) (text : List ℕ) (p : Parts) → read_from items skip 0 fault text p ≡ read_end fault text p
unfolding read_from
none_taken [] skip fault text p = refl
none_taken (item ∷ items) zero fault text p = refl
none_taken (item ∷ items) (suc skip) fault text p = none_taken items skip fault text p

-- items behind those that are taken change nothing
few_taken : (items : List Item) (n skip count : ℕ) (fault : Option ℕ) (text : List ℕ) (p : Parts) → (0 < count → skip + count ≤ n)
    → read_from items skip count fault text p ≡ read_from (take n items) skip count fault text p
unfolding read_from
few_taken items n skip zero fault text p within = none_taken items skip fault text p ∙ sym (none_taken (take n items) skip fault text p)
few_taken [] zero skip (suc count) fault text p within = refl
few_taken [] (suc n) skip (suc count) fault text p within = refl
few_taken (item ∷ items) zero skip (suc count) fault text p within = absurd (omega (arith, within (omega arith)))
few_taken (item ∷ items) (suc n) (suc skip) (suc count) fault text p within =
    few_taken items n skip (suc count) fault text p (λ some. omega (arith, within (omega arith)))
few_taken (item ∷ items) (suc n) zero (suc count) fault text p within =
    let most : count ≤ n = omega (arith, within (omega arith)) in
    read_item-related item (λ s k f t q. read_from items s k f t q) (λ s k f t q. read_from (take n items) s k f t q) count count (λ r. r) fault text p
    (λ left. refl) (λ t q. few_taken items n 0 count None t q (λ some. omega (arith, most)))
    (λ size is. few_taken items n 0 (min size count) None text p (λ some. omega (arith, most, min-le_right size count)))
    (λ size is o t q. few_taken items n size (count - size) o t q (λ some. omega (arith, most, some)))

-- the end of the first items, and what follows them

end_then : (fault : Option ℕ) (text : List ℕ) (p : Parts) → read_end fault text p ≡ read_then [] 0 (read_end fault text p)
unfolding read_from
end_then None text p = refl
end_then (Some left) text p = refl

no_other : (item : Item) (items : List Item) (count left : ℕ) (text : List ℕ) (p : Parts) → not (is_other item) ≡ true
    → read_from (item ∷ items) 0 count (Some left) text p ≡ Err left
unfolding read_from
no_other item items zero left text p plain = refl
no_other (Byte byte) items (suc count) left text p plain = refl
no_other (Part component) items (suc count) left text p plain = refl
no_other (Optional size) items (suc count) left text p plain = refl
no_other (First size) items (suc count) left text p plain = refl
no_other (Or size) items (suc count) left text p plain = absurd (cc)

ends_within-size : (item : Item) (n size : ℕ) → ends_within n item ≡ true → Some size ≡ size_of item → size ≤ n
ends_within-size (Byte byte) n size within is = absurd (cc)
ends_within-size (Part component) n size within is = absurd (cc)
ends_within-size (Optional most) n size within is = grind (arith, nat_tests)
ends_within-size (First most) n size within is = grind (arith, nat_tests)
ends_within-size (Or most) n size within is = grind (arith, nat_tests)

-- the items that split are read in two parts, from any of them on
split_from : (items : List Item) (n skip k c m : ℕ) (fault : Option ℕ) (text : List ℕ) (p : Parts) → n ≡ skip + k → c ≡ k + m → splits n items ≡ true
    → m ≡ length (drop n items) → read_from items skip c fault text p ≡ read_then (drop n items) m (read_from (take n items) skip k fault text p)
unfolding read_from splits
split_from [] zero skip k c m fault text p at_n at_c split rest = rw rest (end_then fault text p)
split_from [] (suc n) skip k c m fault text p at_n at_c split rest = rw rest (end_then fault text p)
split_from (item ∷ items) zero (suc skip) k c m fault text p at_n at_c split rest = absurd (omega (arith, at_n))
split_from (item ∷ items) zero zero (suc k) c m fault text p at_n at_c split rest = absurd (omega (arith, at_n))
split_from (item ∷ items) zero zero zero c m None text p at_n at_c split rest =
    let same : c ≡ m = omega (arith, at_c) in ap (λ (n : ℕ). read_from (item ∷ items) 0 n None text p) same
split_from (item ∷ items) zero zero zero c m (Some left) text p at_n at_c split rest = no_other item items c left text p split
split_from (item ∷ items) (suc n) (suc skip) k c m fault text p at_n at_c split rest =
    split_from items n skip k c m fault text p (omega (arith, at_n)) at_c (and_parts (ends_within n item) (splits n items) split).1 rest
split_from (item ∷ items) (suc n) zero zero c m fault text p at_n at_c split rest = absurd (omega (arith, at_n))
split_from (item ∷ items) (suc n) zero (suc k) zero m fault text p at_n at_c split rest = absurd (omega (arith, at_c))
split_from (item ∷ items) (suc n) zero (suc k) (suc c) m fault text p at_n at_c split rest =
    let most : n ≡ k = omega (arith, at_n) in
    let more : c ≡ k + m = omega (arith, at_c) in
    let parts = and_parts (ends_within n item) (splits n items) split in
    read_item-related item (λ s k f t q. read_from items s k f t q) (λ s k f t q. read_from (take n items) s k f t q) c k (read_then (drop n items) m) fault
    text p (λ left. refl) (λ t q. split_from items n 0 k c m None t q (omega (arith, most)) more parts.1 rest)
    (λ size is.
    let low : size ≤ n = ends_within-size item n size parts.0 is in
    let all : min size c ≡ size = min-eq_left (omega (arith, low, most, more)) in
    let own : min size k ≡ size = min-eq_left (omega (arith, low, most)) in
    rw (all, own) (few_taken items n 0 size None text p (λ some. omega (arith, low))))
    (λ size is o t q.
    let low : size ≤ n = ends_within-size item n size parts.0 is in
    split_from items n size (k - size) (c - size) m o t q (omega (arith, low, most)) (omega (arith, low, most, more)) parts.1 rest)

-- a text that items read in two parts
read_in_two : (items : List Item) (n : ℕ) (text : List ℕ) (p : Parts) → splits n items ≡ true → n ≤ length items
    → front_of items text p ≡ read_then (drop n items) (length (drop n items)) (front_of (take n items) text p)
read_in_two items n text p split within =
    let count : length (take n items) ≡ n = omega (arith, length-take n items, within) in
    let more : length items ≡ n + length (drop n items) = omega (arith, length-drop n items, within) in
    rw count (split_from items n 0 n (length items) (length (drop n items)) None text p (omega arith) more split refl)

-- what items read, as places in a text
abbrev placed : List ℕ → Front → Result (Parts × ℕ) ℕ
placed text front = result_map_both (λ read. (read.0, length text - length read.1)) (λ left. length text - left) front

in_two-behind : (others : List Item) (digits : ℕ) (text : List ℕ) (front : Front) → reading_behind others digits text front
    ≡ (if has_digits_behind digits text (placed text front) then if_read (read_then others (length others) front) else None)
in_two-behind others digits text (Ok read) = refl
in_two-behind others digits text (Err left) = refl

-- the reading in two parts of a text that has as many digits as the form counts
pub counted_in_two : (form : Form) (text : List ℕ) (digits : ℕ) → Some digits ≡ form.digits → splits form.ahead form.items ≡ true
    → form.ahead ≤ length form.items
    → reading_in_two (take form.ahead form.items) (drop form.ahead form.items) digits text no_parts ≡ counted_reading form text
counted_in_two form text digits counted split within =
    let ahead = take form.ahead form.items in
    let others = drop form.ahead form.items in
    in_two-behind others digits text (front_of ahead text no_parts) ∙
    (ap (λ front. if has_digits_if ahead text (Some digits) then if_read front else None) (sym (read_in_two form.items form.ahead text no_parts split within)) ∙
    ap (λ d. if has_digits_if ahead text d then if_read (front_of form.items text no_parts) else None) counted)

-- the stamp of a text that was read, and of one that was not

stamp_when : (assumed : Assumed) (line : List ℕ) (start : ℕ) (text rest : List ℕ) (p : Parts) (has : Bool) (front : Front)
    → Some (p, rest) ≡ (if has then if_read front else None)
    → ended_stamp assumed p line start (length text - length rest) text
    ≡ (if has then read_stamp assumed line start text (placed text front) else Err Absent)
stamp_when assumed line start text rest p true (Ok (q, more)) is =
    let same : Some (p, rest) ≡ Some (q, more) = is in
    let pair : (p, rest) ≡ (q, more) = cc same in
    let parts : p ≡ q = ap (λ (r : Parts × List ℕ). r.0) pair in
    let behind : rest ≡ more = ap (λ (r : Parts × List ℕ). r.1) pair in
    rw (parts, behind) refl
stamp_when assumed line start text rest p true (Err left) is = absurd cc
stamp_when assumed line start text rest p false front is = absurd cc

no_stamp_when : (assumed : Assumed) (line : List ℕ) (start : ℕ) (text : List ℕ) (has : Bool) (front : Front)
    → None ≡ (if has then if_read front else None)
    → Err Absent ≡ (if has then read_stamp assumed line start text (placed text front) else Err Absent)
no_stamp_when assumed line start text true (Ok (q, more)) is = absurd cc
no_stamp_when assumed line start text true (Err left) is = refl
no_stamp_when assumed line start text false front is = refl

pub counted_stamp : (form : Form) (assumed : Assumed) (front text rest : List ℕ) (p : Parts) → Some (p, rest) ≡ counted_reading form text
    → ended_stamp assumed p front (length front - length text) (length text - length rest) text ≡ stamp_in form assumed front text
counted_stamp form assumed front text rest p is =
    stamp_when assumed front (length front - length text) text rest p (has_digits form text) (front_of form.items text no_parts) is

pub no_counted_stamp : (form : Form) (assumed : Assumed) (front text : List ℕ) → None ≡ counted_reading form text
    → Err Absent ≡ stamp_in form assumed front text
no_counted_stamp form assumed front text is =
    no_stamp_when assumed front (length front - length text) text (has_digits form text) (front_of form.items text no_parts) is
