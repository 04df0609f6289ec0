use Rattle.std.proofs.Common.{◌≡◌, ◌-◌, ◌≤ℤ◌, ◌<ℤ◌, length, FitsSigned, to_z, of_z, arith, refl, sym, ap, subst, ◌∙◌}
use Rattle.std.proofs.lemmas.List.{get_or_read_under}
use mir.Syntax.{w64}
use Rattle.calendar_values.specs.SignedArith.{signed_arith}
use Rattle.zones.specs.declared.transition.Transition.{Transition}
use Rattle.zones.specs.Seconds.{IsSecond}
use Rattle.zones.specs.Tables.{row_at, row_start, row_end, no_row}
use Rattle.zones.proofs.tables.follows.Goals as goal

pub returns-then-last-row : goal.returns-then-last-row
returns-then-last-row c =
    let rows = c.args.rows.now in
    let n = c.args.place in
    let row = c.index-rows-place.result in
    let last = c.index-rows-place-2.result in
    let is : row_at rows n ≡ row = sym (get_or_read_under rows n (length rows) row no_row c.index-rows-place.is (omega arith) refl) in
    let m = n - 1 in
    let was : row_at rows m ≡ last = sym (get_or_read_under rows m (length rows) last no_row c.index-rows-place-2.is (omega arith) refl) in
    let s1 = ap (λ (r : Transition). r.second) is in
    let s2 = ap (λ (r : Transition). r.second) was in
    let f1 = row.second_in in
    let f2 = last.second_in in
    let b1 : to_z w64 (of_z w64 row.second) ≡ row.second = omega (arith, signed_arith) in
    let b2 : to_z w64 (of_z w64 last.second) ≡ last.second = omega (arith, signed_arith) in
    (λ t. cc, λ h. (let up = h.rises m (omega arith) in absurd (omega (arith, signed_arith))))

pub returns-then-end-start : goal.returns-then-end-start
returns-then-end-start c =
    let rows = c.args.rows.now in
    let n = c.args.place in
    let row = c.index-rows-place.result in
    let last = c.index-rows-place-2.result in
    let is : row_at rows n ≡ row = sym (get_or_read_under rows n (length rows) row no_row c.index-rows-place.is (omega arith) refl) in
    let m = n - 1 in
    let was : row_at rows m ≡ last = sym (get_or_read_under rows m (length rows) last no_row c.index-rows-place-2.is (omega arith) refl) in
    let s1 = ap (λ (r : Transition). r.second) is in
    let s2 = ap (λ (r : Transition). r.second) was in
    let f1 = row.second_in in
    let f2 = last.second_in in
    let b1 : to_z w64 (of_z w64 row.second) ≡ row.second = omega (arith, signed_arith) in
    let b2 : to_z w64 (of_z w64 last.second) ≡ last.second = omega (arith, signed_arith) in
    let ends = ap row_end was in
    let starts = ap row_start is in
    let ef : FitsSigned w64 c.end.result = record { sfits = c.end.type_inv } in
    let sf : FitsSigned w64 c.start.result = record { sfits = c.start.type_inv } in
    let ev = c.end.ensures in
    let sv = c.start.ensures in
    (λ t. cc, λ h. (let up = h.apart m (omega arith) in absurd (omega (arith, signed_arith))))

pub returns : goal.returns
returns c =
    let rows = c.args.rows.now in
    let n = c.args.place in
    let row = c.index-rows-place.result in
    let last = c.index-rows-place-2.result in
    let is : row_at rows n ≡ row = sym (get_or_read_under rows n (length rows) row no_row c.index-rows-place.is (omega arith) refl) in
    let m = n - 1 in
    let was : row_at rows m ≡ last = sym (get_or_read_under rows m (length rows) last no_row c.index-rows-place-2.is (omega arith) refl) in
    let s1 = ap (λ (r : Transition). r.second) is in
    let s2 = ap (λ (r : Transition). r.second) was in
    let f1 = row.second_in in
    let f2 = last.second_in in
    let b1 : to_z w64 (of_z w64 row.second) ≡ row.second = omega (arith, signed_arith) in
    let b2 : to_z w64 (of_z w64 last.second) ≡ last.second = omega (arith, signed_arith) in
    let ends = ap row_end was in
    let starts = ap row_start is in
    let ef : FitsSigned w64 c.end.result = record { sfits = c.end.type_inv } in
    let sf : FitsSigned w64 c.start.result = record { sfits = c.start.type_inv } in
    let ev = c.end.ensures in
    let sv = c.start.ensures in
    let second : IsSecond row.second = subst IsSecond b1 (c.is_second.ensures.0 c.if-not-is_second.false) in
    let kind : row.before ≡ c.type_after.result = c.is.ensures.0 c.if-not-is.false in (
      λ t. record {
        in_range = subst IsSecond (sym s1) second;
        goes_on = ap (λ (r : Transition). r.before) is ∙ kind ∙ c.type_after.ensures;
        rises = λ j e. (let same : m ≡ j = omega arith in let up : (row_at rows m).second <ℤ (row_at rows n).second = omega (arith, signed_arith) in rw
            same at up);
        apart = λ j e. (let same : m ≡ j = omega arith in let up : row_end (row_at rows m) ≤ℤ row_start (row_at rows n) = omega (arith, signed_arith) in
            rw same at up);
      },
      λ h. refl,
    )
