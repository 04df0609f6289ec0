-- The stamp of a line.
use Rattle.std.specs.Prelude.{ℕ, ◌-◌, ◌&&◌, ◌||◌, Bool, true, false, not, nat_eq, nat_lt}
use Rattle.std.specs.Prelude.{List, [], ◌∷◌, drop, length, take, if◌then◌else◌, ℤ, Option, Some, None}
use Rattle.std.specs.Prelude.{Result, Err}
use Rattle.std.specs.List.{starts_with}
use Rattle.std.specs.Result.{result_map_both}
use Rattle.log_forms.specs.Ends.{opens_bracket, runs_on}
use Rattle.offset_times.specs.Local.{Local, instant_of}
use Rattle.rfc3339.specs.Meaning.{meaning}
use Rattle.rfc3339.specs.Reading.{front_at}
use Rattle.rfc3339.specs.declared.parts.Parts.{Parts}
use Rattle.rfc3339.specs.declared.refusal.TextRefusal.{TextRefusal}
use Rattle.rfc3339.specs.declared.refusal.TextRefusal.TheVariants.{Syntax}
use Rattle.stamps.specs.declared.decide.Stamp.{Stamp}

-- the byte order mark of UTF-8
abbrev pub byte_order_mark : List ℕ
byte_order_mark = 239 ∷ 187 ∷ 191 ∷ []

-- whether a line begins with a byte order mark to skip, as only the first line may
unfoldable pub has_mark : Bool → List ℕ → Bool
has_mark is_first line = is_first && starts_with nat_eq line byte_order_mark

-- the number of bytes of a byte order mark
abbrev pub mark_length : Bool → ℕ
mark_length true = 3
mark_length false = 0

-- the most bytes of a stamp
abbrev pub longest_stamp : ℕ
longest_stamp = 65500

-- the most bytes of a line that decide on it: a byte order mark, and the front in which a stamp is looked for
abbrev pub longest_head : ℕ
longest_head = 65536

-- the stamp of an instant, a length and the rest of the line after it
abbrev pub stamp : ℤ → ℕ → List ℕ → Stamp
stamp instant count rest = record { instant = instant; length = count; is_zoned = opens_bracket rest }

-- whether a date-time of this length ends before the rest of the line, and has at most 65,500 bytes
abbrev pub ends : ℕ → List ℕ → Bool
ends count rest = not (nat_lt longest_stamp count || runs_on false rest)

-- the stamp of a date-time of this length, or the error: a date-time that does not end there is no stamp
abbrev pub ended_stamp : Result Local TextRefusal → ℕ → List ℕ → Result Stamp TextRefusal
ended_stamp meaning count rest =
    if ends count rest then result_map_both (λ at. stamp (instant_of at) count rest) (λ refusal. refusal) meaning else Err Syntax

-- the stamp of a front, by the date-time in it and the rest after that, or the error
abbrev pub front_stamp : List ℕ → Option (Parts × List ℕ) → Result Stamp TextRefusal
front_stamp front None = Err Syntax
front_stamp front (Some (p, rest)) = let count = length front - length rest in ended_stamp (meaning p) count (drop count front)

-- the stamp at the start of a text, which is a date-time of at most 65,500 bytes that ends there, or the error
unfoldable pub stamp_of : List ℕ → Result Stamp TextRefusal
stamp_of text = let front = take 65533 text in front_stamp front (front_at front)
