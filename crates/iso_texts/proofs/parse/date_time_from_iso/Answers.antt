use Rattle.std.proofs.Common.{sym, ◌∙◌, ap, Some, None}
use Rattle.iso_texts.specs.IsoReading.{iso_reading_of}
use Rattle.iso_texts.proofs.IsoFormLemmas.{iso_reading_of-parts, iso_reading_of-spelled, iso_reading_of-syntax}
use Rattle.iso_texts.proofs.IsoRangeLemmas.{accepted_of}
use Rattle.iso_texts.proofs.IsoValueLemmas.{iso_reading_of-written}
use Rattle.iso_texts.proofs.parse.date_time_from_iso.Goals as goal

pub returns-in-Some-clause-reading : goal.returns-in-Some-clause-reading
returns-in-Some-clause-reading c =
    c.date_time.ensures.value ∙ sym (iso_reading_of-parts c.args.text.now (Some c.in-Some.parts) (sym c.in-Some.ensures.value))

pub returns-in-Some-clause-equation : goal.returns-in-Some-clause-equation
returns-in-Some-clause-equation c p h = returns-in-Some-clause-reading c ∙ iso_reading_of-spelled c.args.text.now p h

pub returns-in-Some-clause-value : goal.returns-in-Some-clause-value
returns-in-Some-clause-value c p h = accepted_of p _ (returns-in-Some-clause-equation c p h)

pub returns-in-Some-clause-syntax : goal.returns-in-Some-clause-syntax
returns-in-Some-clause-syntax c = rw (returns-in-Some-clause-reading c) (iso_reading_of-syntax c.args.text.now)

pub returns-in-Some-clause-written : goal.returns-in-Some-clause-written
returns-in-Some-clause-written c at h e = returns-in-Some-clause-reading c ∙ ap iso_reading_of e ∙ iso_reading_of-written at h

pub returns-in-None-clause-reading : goal.returns-in-None-clause-reading
returns-in-None-clause-reading c = sym (iso_reading_of-parts c.args.text.now None (sym c.in-None.ensures.value))

pub returns-in-None-clause-equation : goal.returns-in-None-clause-equation
returns-in-None-clause-equation c p h = returns-in-None-clause-reading c ∙ iso_reading_of-spelled c.args.text.now p h

pub returns-in-None-clause-value : goal.returns-in-None-clause-value
returns-in-None-clause-value c p h = accepted_of p _ (returns-in-None-clause-equation c p h)

pub returns-in-None-clause-written : goal.returns-in-None-clause-written
returns-in-None-clause-written c at h e = returns-in-None-clause-reading c ∙ ap iso_reading_of e ∙ iso_reading_of-written at h
