-- How a log is read whose stamps are at the front of its lines.
use Rattle.std.specs.Prelude.{[], ℤ, Option, Some, None, Result, Ok, Err, ⊤}
use Rattle.line_merges.specs.Instants.{LogReading}
use Rattle.log_forms.specs.Stamps.{stamp_at}
use Rattle.log_forms.specs.declared.form.Form.{Form}
use Rattle.log_forms.specs.declared.instants.Assumed.{Assumed}
use Rattle.log_forms.specs.declared.places.Place.TheVariants.{Front}
use Rattle.log_forms.specs.declared.stamps.Stamp.{Stamp}
use Rattle.log_forms.specs.declared.stamps.StampRefusal.{StampRefusal}

-- the instant of a stamp, if there is one
abbrev pub instant_if : Result Stamp StampRefusal → Option ℤ
instant_if (Ok stamp) = Some stamp.instant
instant_if (Err refusal) = None

-- by a form and what is assumed; no line changes how those after it are read
abbrev pub front_stamps : Form → Assumed → LogReading ⊤
front_stamps form assumed = record {
  memory = tt;
  instant = λ memory last is_first line. instant_if (stamp_at form Front [] assumed line);
  after = λ memory number kind line. memory;
}
