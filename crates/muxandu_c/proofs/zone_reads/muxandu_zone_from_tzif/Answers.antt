use Rattle.std.proofs.Common.{rules, refl, sym, inl, inr, Ok, Err, ◌≡◌, ◌≤◌, ◌∙◌, length, take, arith}
use Rattle.zone_files.specs.FileZoneLemmas.{rows_of_file}
use Rattle.zone_files.specs.FileZones.{AreAllRows}
use Rattle.muxandu_c.proofs.ZoneReadLemmas.{all_rows}
use Rattle.muxandu_c.proofs.zone_reads.muxandu_zone_from_tzif.Goals as goal

pub returns-in-Err : goal.returns-in-Err
returns-in-Err c =
    (Err c.fault_of_file.result, inl (c.in-Err.refusal, sym c.in-Err.ensures.reading, c.fault_of_file.ensures), (c.outcome_of.ensures, refl, refl))

pub returns-in-Err-read_rows : goal.returns-in-Err-read_rows
returns-in-Err-read_rows c = (
  Err c.in-Err-read_rows.fault,
  inr (c.in-Ok.file, sym c.in-Ok.ensures.reading, inl c.in-Err-read_rows.ensures.fault),
  (c.outcome_of-in-Err-read_rows.ensures, refl, refl),
)

pub put_zone-requires : goal.put_zone-requires
put_zone-requires c =
    let count = c.in-Ok-read_rows.count in
    let room = c.read_rows.new.room in
    let le : count ≤ length room = search rules in
    let all = all_rows c.in-Ok.file room count c.in-Ok-read_rows.ensures.count le c.in-Ok-read_rows.ensures.rows in
    let same = rows_of_file c.in-Ok.file (take count room) c.in-Ok-zone.found c.in-Ok-zone.ensures in
    omega (arith, same, all.count, c.in-Ok-read_rows.ensures.count, c.in-Ok-read_rows.ensures.few)

pub returns-in-Ok-zone : goal.returns-in-Ok-zone
returns-in-Ok-zone c =
    let file = c.in-Ok.file in
    let count = c.in-Ok-read_rows.count in
    let room = c.read_rows.new.room in
    let le : count ≤ length room = search rules in
    let few : length file.block.indexes ≤ 512 = omega (arith, c.in-Ok-read_rows.ensures.count, c.in-Ok-read_rows.ensures.few) in
    let all = all_rows file room count c.in-Ok-read_rows.ensures.count le c.in-Ok-read_rows.ensures.rows in (
      Ok c.in-Ok-zone.found,
      (file, sym c.in-Ok.ensures.reading, few, record { rows = take count room; are_all = all; is_zone = c.in-Ok-zone.ensures }),
      c.put_zone.ensures,
    )

pub returns-in-Err-zone : goal.returns-in-Err-zone
returns-in-Err-zone c =
    let file = c.in-Ok.file in
    let count = c.in-Ok-read_rows.count in
    let room = c.read_rows.new.room in
    let le : count ≤ length room = search rules in
    let few : length file.block.indexes ≤ 512 = omega (arith, c.in-Ok-read_rows.ensures.count, c.in-Ok-read_rows.ensures.few) in
    let all = all_rows file room count c.in-Ok-read_rows.ensures.count le c.in-Ok-read_rows.ensures.rows in (
      Err c.fault_of_zone.result,
      inr (
        file,
        sym c.in-Ok.ensures.reading,
        inr (
          few,
          (
            c.in-Err-zone.error,
            record { rows = take count room; are_all = all; is_fault = c.in-Err-zone.ensures },
            c.fault_of_zone.ensures,
          ),
        ),
      ),
      (c.outcome_of-in-Err-zone.ensures, refl, refl),
    )
