-- The words of the command line that are files.
use Rattle.std.specs.Prelude.{ℕ, Bool, false, ◌&&◌, ◌||◌, ◌==◌, not, nat_eq, List, [], ◌∷◌, codes, length, if◌then◌else◌}
use Rattle.std.specs.Prelude.{Option, Some, None, slice_get}
use Rattle.std.specs.List.{ends_with, starts_with}
use Rattle.std.specs.Str.{bytes_eq}
use Rattle.stamps.specs.declared.files.Packing.{Packing}
use Rattle.stamps.specs.declared.files.Packing.TheVariants.{Gzip, Zstd, Xz, Bzip2, Utf16}

-- whether a word is `--`, which ends the options
abbrev pub is_dashes : List ℕ → Bool
is_dashes word = bytes_eq word (codes "--")

-- whether a word is an option: it begins with `-`, and is neither `-`, which is standard input, nor `--`
unfoldable pub is_option : List ℕ → Bool
is_option word = starts_with nat_eq word (codes "-") && (not (bytes_eq word (codes "-")) && not (is_dashes word))

-- whether a value follows the word, and then files may
unfoldable pub takes_value : List ℕ → Bool
takes_value word =
    bytes_eq word (codes "at") || (bytes_eq word (codes "since") || (bytes_eq word (codes "until") || bytes_eq word (codes "gaps")))

-- whether files may follow the word
unfoldable pub takes_files : List ℕ → Bool
takes_files word =
    bytes_eq word (codes "utc") || (bytes_eq word (codes "unix") || (bytes_eq word (codes "check") || bytes_eq word (codes "merge")))

-- whether `at` is the first of some words
abbrev pub begins_at : List (List ℕ) → Bool
begins_at [] = false
begins_at (word ∷ words) = bytes_eq word (codes "at")

-- the number of the words of a count before its options and files, by those after the first
abbrev pub count_length : List (List ℕ) → ℕ
count_length [] = 2
count_length (value ∷ words) = if begins_at words then 4 else 2

-- the number of the words before the options and files: the first word and its values, or all where no files may follow
unfoldable pub front_length : List (List ℕ) → ℕ
front_length [] = 0
front_length (word ∷ words) =
    if takes_value word then 2
    else (if bytes_eq word (codes "between") then 3
    else (if takes_files word then 1
    else (if bytes_eq word (codes "count") then count_length words else length (word ∷ words))))

-- whether the name of a file is that of a compressed one
abbrev pub is_compressed : List ℕ → Bool
is_compressed name = ends_with nat_eq name (codes ".gz")

-- whether a byte opens a block of bzip2, or ends a file of it
abbrev pub opens_block : Option ℕ → Bool
opens_block (Some byte) = (byte == 49) || (byte == 23)
opens_block None = false

-- whether some bytes begin with these
abbrev pub begins : List ℕ → List ℕ → Bool
begins head sign = starts_with nat_eq head sign

-- how an input is packed, by its first bytes: 1f 8b, 28 b5 2f fd, fd 37 7a 58 5a, 42 5a 68 and a block, ff fe or fe ff
unfoldable pub packing_of : List ℕ → Option Packing
packing_of head =
    if begins head (31 ∷ 139 ∷ []) then Some Gzip
    else (if begins head (40 ∷ 181 ∷ 47 ∷ 253 ∷ []) then Some Zstd
    else (if begins head (253 ∷ 55 ∷ 122 ∷ 88 ∷ 90 ∷ []) then Some Xz
    else (if begins head (codes "BZh") && opens_block (slice_get head 4) then Some Bzip2
    else (if begins head (255 ∷ 254 ∷ []) || begins head (254 ∷ 255 ∷ []) then Some Utf16 else None))))
