-- Examples of durations of the command line, and of words that a message shows, which say in values what definitions say in steps.
use Rattle.std.specs.Prelude.{◌≡◌, ◌∷◌, codes, Some, None}
use Rattle.stamps.specs.Durations.{duration_of}
use Rattle.stamps.specs.Nearest.{shown_text}

-- a number of seconds for each unit, and their sum: days, hours, minutes and seconds in this order, each at most once
pub record DurationsAreRead : Type 0 where
  pub seconds : duration_of (codes "90s") ≡ Some 90
  pub minutes : duration_of (codes "5m") ≡ Some 300
  pub hours : duration_of (codes "1h30m") ≡ Some 5_400
  pub days : duration_of (codes "2d") ≡ Some 172_800
  pub all : duration_of (codes "1d2h3m4s") ≡ Some 93_784
  pub zeros : duration_of (codes "0s") ≡ Some 0
  pub other_order : duration_of (codes "30m1h") ≡ None
  pub twice : duration_of (codes "1m1m") ≡ None
  pub no_unit : duration_of (codes "1h5") ≡ None
  pub no_number : duration_of (codes "h") ≡ None
  pub other_unit : duration_of (codes "1w") ≡ None
  pub no_text : duration_of (codes "") ≡ None

-- the first word behind a stamp, with the byte before it, as a message shows it in quotes: at most 20 letters and signs
pub record WordsAreShown : Type 0 where
  pub word : shown_text (codes " CET: up and running") ≡ codes " CET:"
  pub blank : shown_text (codes ": up and running") ≡ codes ": up"
  pub quotes : shown_text (codes "\"up\" and running") ≡ codes "?up?"
  pub bytes : shown_text (9 ∷ 200 ∷ codes "~ ") ≡ codes "??~"
  pub long : shown_text (codes "abcdefghijklmnopqrstuvwxyz") ≡ codes "abcdefghijklmnopqrst"
  pub none : shown_text (codes "") ≡ codes ""
