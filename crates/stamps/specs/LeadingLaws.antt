-- The law of the first lines of a log, for its owner. A function of `src/laws.rt` proves it.
use Rattle.std.specs.Prelude.{◌≡◌, ℕ, ◌≤◌, Bool, false, true, List, [], ◌∷◌, filter, length, take, Option, Some, None}
use Rattle.line_devices.specs.LineParts.{HasNone}
use Rattle.line_devices.specs.Lines.{lines_of}
use Rattle.log_forms.specs.Choices.{choice_of}
use Rattle.stamps.specs.Leading.{look_of, look_within, may_choose, until_told}
use Rattle.stamps.specs.declared.leading.Look.{Look}
use Rattle.stamps.specs.declared.leading.Look.TheVariants.{Bare, Chosen, Readable}
use Rattle.stamps.specs.declared.readers.Reader.{Reader}

-- the number of the reader that a look finds
abbrev pub chosen_of : Look → Option ℕ
chosen_of (Chosen number) = Some number
chosen_of Readable = None
chosen_of Bare = None

-- the form is the one that the first 16 lines choose which a reader reads: a look that ends at the second of them finds no other one, and
-- the lines between them and those behind them do not matter
abbrev pub FirstLinesChoose : Type 0
FirstLinesChoose =
    (reader : Reader) (has_text : Bool) (lines : List (List ℕ))
    → chosen_of (look_of true reader has_text (until_told true reader [] lines)) ≡ choice_of (take 16 (filter may_choose lines))

-- the form of a whole input is the one that the first 16 of its lines choose which a reader reads. Bytes without a line feed that fill the
-- first block are one line
pub record FirstBytesChoose : Type 0 where
  pub whole : (reader : Reader) (text : List ℕ)
      → chosen_of (look_within true reader 0 true text) ≡ choice_of (take 16 (filter may_choose (lines_of text)))
  pub one_line : (reader : Reader) (text : List ℕ) → HasNone 10 text 0 (length text) → 65536 ≤ length text
      → chosen_of (look_within true reader 0 false text) ≡ choice_of (take 16 (filter may_choose (text ∷ [])))
