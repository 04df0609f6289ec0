-- The words of contracts, of this library, of those below it and of std, for callers: make/words writes this file.
pub use Rattle.line_devices.specs.Device.{has_failed, inner_of, is_at_start, is_pipe_closed, last_after, last_of}
pub use Rattle.line_devices.specs.LineParts.{HasNone}
pub use Rattle.line_devices.specs.StampTallies.{as_count, first_tally, is_bare, is_continuation, is_due, is_empty_line, is_poor, kind_of, line_or}
pub use Rattle.line_devices.specs.StampTallies.{tally_after, with_missing}
unfoldable pub use Rattle.line_devices.specs.StampTallies.{tally_of_kinds}
pub use Rattle.line_devices.specs.Writing.{MarksFailure, Sends, SendsAll, StopsSending, WritesAll}
pub use Rattle.std.specs.Char.{is_ascii_digit}
pub use Rattle.std.specs.Cmp.{partial_order_from_own_ties}
pub use Rattle.std.specs.Cmp.Lexicographic.{slice_cmp}
pub use Rattle.std.specs.Cmp.Rules.{comparing, hashing}
pub use Rattle.std.specs.Duration.{as_nanos}
pub use Rattle.std.specs.Fmt.{padded}
pub use Rattle.std.specs.HashSet.{contains}
pub use Rattle.std.specs.Int.{IsInRange, int_div_euclid, int_rem_euclid}
pub use Rattle.std.specs.Io.{ReadsAtMost, WritesAtMost}
pub use Rattle.std.specs.Io.KnownBytes.{Appends, Consumes, ReadConsumes, WriteAppends}
pub use Rattle.std.specs.Iterator.{Drains, HoldsAlong, IsFinite}
pub use Rattle.std.specs.List.{HoldsAt, count_by, fold}
pub use Rattle.std.specs.List.Sorted.{IsStableByKey, IsStrictlySortedBy}
pub use Rattle.std.specs.Ordering.{as_partial_cmp, int_cmp, int_eq, nat_cmp, on}
pub use Rattle.std.specs.Prelude.{All, Bool, Contains, Err, IfErr, IfNone, IfOk, IfSome, IsAscii, IsErrOf, IsNone, IsOk, IsPermutation, IsSome}
pub use Rattle.std.specs.Prelude.{IsSorted, IsSortedByKey, IsTrue, List, MatchResult, None, Ok, OkIff, OnErr, OnOk, Option, Some, SomeIff, [], codes}
pub use Rattle.std.specs.Prelude.{decimal, drop, false, filter, get_or, if◌then◌else◌, int_div, int_le, int_lt, is_ok, is_some, length, map, min}
pub use Rattle.std.specs.Prelude.{nat_lt, neg_ℤ, negsuc, not, option_map, pos, take, true, unsigned_abs, vec_capacity, vec_len, ℕ, ℤ, ⊤, ◌%◌, ◌&&◌}
pub use Rattle.std.specs.Prelude.{◌*ℤ◌, ◌*◌, ◌++◌, ◌+ℤ◌, ◌+◌, ◌-ℤ◌, ◌-◌, ◌/◌, ◌<ℤ◌, ◌<◌, ◌==◌, ◌^◌, ◌||◌, ◌↔◌, ◌∷◌, ◌≡◌, ◌≢◌, ◌≤ℤ◌, ◌≤◌, ◌⊎◌}
pub use Rattle.std.specs.Result.{result_map_both}
pub use Rattle.line_devices.specs.declared.stamp_tallies.LineKind.{LineKind}
pub use Rattle.line_merges.specs.Buffers.{ReadsMore}
pub use Rattle.line_merges.specs.Choices.{HaveEnded, IsNext, is_better, log_fronts}
pub use Rattle.line_merges.specs.Instants.{LogReading, is_before, reading_from, up_to}
pub use Rattle.line_merges.specs.LineFronts.{feed_if, front_line}
unfoldable pub use Rattle.line_merges.specs.LineFronts.{behind_line, has_line_feed, line_in}
pub use Rattle.line_merges.specs.Lines.{first_place}
unfoldable pub use Rattle.line_merges.specs.Lines.{log_lines, stamp_tally}
pub use Rattle.line_merges.specs.Logs.{FindsNext, IsEnough, IsReady, PassesLine, ReadsOn, memory_behind, new_log, place_behind}
pub use Rattle.line_merges.specs.Runs.{AreNew, Ends, IsMerged, LogState, Output, first_memories, log_states, output}
pub use Rattle.line_merges.specs.Sorts.{HasRead, IsInOrderOf, ReadsLine, Sorts, far_after, first_distance, first_lateness, is_far, is_late}
pub use Rattle.line_merges.specs.Sorts.{late_after, least_of}
unfoldable pub use Rattle.line_merges.specs.Sorts.{far_after_lines, held_text}
pub use Rattle.line_merges.specs.Steps.{AreKnown, FindsLine, SendsNext, back_line, fault_at, fronts_of, readings_now}
