-- The words of contracts, of this library, of those below it and of std, for callers: make/words writes this file.
pub use Rattle.line_devices.specs.Device.{has_failed, inner_of, is_at_start, is_pipe_closed, last_after, last_of}
pub use Rattle.line_devices.specs.LineParts.{HasNone}
pub use Rattle.line_devices.specs.StampTallies.{as_count, first_tally, is_bare, is_continuation, is_due, is_empty_line, is_poor, kind_of, line_or}
pub use Rattle.line_devices.specs.StampTallies.{tally_after, with_missing}
unfoldable pub use Rattle.line_devices.specs.StampTallies.{tally_of_kinds}
pub use Rattle.line_devices.specs.Writing.{MarksFailure, Sends, SendsAll, StopsSending, WritesAll}
pub use Rattle.std.specs.Char.{is_ascii_digit}
pub use Rattle.std.specs.Cmp.{partial_order_from_own_ties}
pub use Rattle.std.specs.Cmp.Lexicographic.{slice_cmp}
pub use Rattle.std.specs.Cmp.Rules.{comparing, hashing}
pub use Rattle.std.specs.Duration.{as_nanos}
pub use Rattle.std.specs.Fmt.{padded}
pub use Rattle.std.specs.HashSet.{contains}
pub use Rattle.std.specs.Int.{IsInRange, int_div_euclid, int_rem_euclid}
pub use Rattle.std.specs.Io.{ReadsAtMost, WritesAtMost}
pub use Rattle.std.specs.Io.KnownBytes.{Appends, Consumes, ReadConsumes, WriteAppends}
pub use Rattle.std.specs.Iterator.{Drains, HoldsAlong, IsFinite}
pub use Rattle.std.specs.List.{HoldsAt, count_by, fold}
pub use Rattle.std.specs.List.Sorted.{IsStableByKey, IsStrictlySortedBy}
pub use Rattle.std.specs.Ordering.{as_partial_cmp, int_cmp, int_eq, nat_cmp, on}
pub use Rattle.std.specs.Prelude.{All, Bool, Contains, Err, IfErr, IfNone, IfOk, IfSome, IsAscii, IsNone, IsOk, IsPermutation, IsSome, IsSorted}
pub use Rattle.std.specs.Prelude.{IsSortedByKey, IsTrue, List, MatchResult, None, Ok, OkIff, OnErr, OnOk, Option, Some, SomeIff, [], codes, decimal}
pub use Rattle.std.specs.Prelude.{drop, false, filter, get_or, if◌then◌else◌, int_div, int_le, int_lt, is_ok, is_some, length, map, min, nat_lt}
pub use Rattle.std.specs.Prelude.{neg_ℤ, negsuc, not, option_map, pos, take, true, unsigned_abs, vec_capacity, vec_len, ℕ, ℤ, ⊤, ◌%◌, ◌&&◌, ◌*ℤ◌, ◌*◌}
pub use Rattle.std.specs.Prelude.{◌++◌, ◌+ℤ◌, ◌+◌, ◌-ℤ◌, ◌-◌, ◌/◌, ◌<ℤ◌, ◌<◌, ◌==◌, ◌^◌, ◌||◌, ◌↔◌, ◌∷◌, ◌≡◌, ◌≢◌, ◌≤ℤ◌, ◌≤◌, ◌⊎◌}
pub use Rattle.std.specs.Result.{result_map_both}
