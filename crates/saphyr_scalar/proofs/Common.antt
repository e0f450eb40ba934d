-- The words of other crates, of std and of the views here that many of the proofs use, handed on by one module.
-- Definitions of steps are imported where they are used, so that a change of one proves few files again.
pub use Rattle.saphyr_input.proofs.Ascii.{no_mark, wide_first}
pub use Rattle.saphyr_input.proofs.Basics.Booleans.{and_false, and_true_left, and_true_right, by_test, clash, either, neither_parts, or_false_left, or_false_right, or_true_swap, other_than}
pub use Rattle.saphyr_input.proofs.Basics.Characters.{blank_cases, blank_no_break, breakz_no_non_break, non_break_no_break, normalized_other, z_is_nul}
pub use Rattle.saphyr_input.proofs.Basics.Lists.{drop_one_shorter, drop_shorter, first_and_rest, run_ends, shows_character, some_left, some_length}
pub use Rattle.saphyr_input.proofs.Runs.{run_stops}
pub use Rattle.saphyr_input.proofs.WordRuns.{words_some, words_stop, words_within}
pub use Rattle.saphyr_input.specs.Breaks.{normal_break, normalized}
pub use Rattle.saphyr_input.specs.Classes.{IsHex, carriage_return, hex_value, is_alpha, is_anchor_char, is_blank, is_blank_or_breakz, is_bom, is_break, is_breakz, is_digit, is_flow, is_hex, is_one_of, is_tag_char, is_uri_char, is_yaml_non_break, is_yaml_non_space, is_z, line_feed, space, tab}
pub use Rattle.saphyr_input.specs.Fronts.{ascii_in}
pub use Rattle.saphyr_input.specs.Indicators.{apostrophe, backslash, colon, exclamation_mark, full_stop, greater_than, hyphen, less_than, number_sign, percent_sign, quotation_mark}
pub use Rattle.saphyr_input.specs.Places.{can_be_plain, goes_on, is_blank_or_break, is_document_end, is_document_indicator, is_document_start, next_2_are, next_3_are, spaces_within}
pub use Rattle.saphyr_input.specs.Separation.{blank_len, comment_len, found_blanks, is_bare_comment, is_skipped, separation_len}
pub use Rattle.saphyr_input.specs.declared.input.SkipTabs.{SkipTabs}
pub use Rattle.saphyr_input.specs.declared.input.SkipTabs.TheVariants.{Yes}
pub use Rattle.saphyr_scalar.specs.Views.Cursor.{Cursor, along, next_line, pass, pass_all_blanks, pass_blanks, pass_break, pass_comment, pass_line, pass_spaces, is_missing, refuse, refuse_open, separation, ◌>>=◌}
pub use Rattle.saphyr_scalar.specs.Views.Reader.{Fails, Gives, Moves, ReadsOn, cursor_of, loaded}
pub use Rattle.saphyr_scalar.specs.declared.scalar.block.header.BlockHeader.{BlockHeader}
pub use Rattle.saphyr_scalar.specs.declared.scalar.block.lines.EmptyLines.{EmptyLines}
pub use Rattle.saphyr_scalar.specs.declared.scalar.fault.Refusal.{Refusal}
pub use Rattle.saphyr_scalar.specs.declared.scalar.fault.Stop.{Stop}
pub use Rattle.saphyr_scalar.specs.declared.scalar.position.Marker.{Marker}
pub use Rattle.saphyr_scalar.specs.declared.scalar.position.Span.{Span}
pub use Rattle.saphyr_scalar.specs.declared.scalar.tag.UriSet.{UriSet}
pub use Rattle.saphyr_scalar.specs.declared.scalar.tag.UriSet.TheVariants.{Suffix, Uri}
pub use Rattle.saphyr_scalar.specs.declared.values.BlockStyle.{BlockStyle}
pub use Rattle.saphyr_scalar.specs.declared.values.Chomping.{Chomping}
pub use Rattle.saphyr_scalar.specs.declared.values.Chomping.TheVariants.{Clip, Keep, Strip}
pub use Rattle.saphyr_scalar.specs.declared.values.Ending.{Ending}
pub use Rattle.saphyr_scalar.specs.declared.values.Ending.TheVariants.{AtEnd, AtMark}
pub use Rattle.saphyr_scalar.specs.declared.values.Item.{Item}
pub use Rattle.saphyr_scalar.specs.declared.values.Item.TheVariants.{Blank, Break, Escaped, EscapedBreak, Raw}
pub use Rattle.saphyr_scalar.specs.declared.values.Quote.{Quote}
pub use Rattle.saphyr_scalar.specs.declared.values.Quote.TheVariants.{Double, Single}
pub use Rattle.std.proofs.Common.{Bool, Err, IsTrue, List, Ok, Result, [], add-zero, ap, append_assoc, arith, cond, drop, encode_utf8_all, false, get_or, inl, inr, length, length-append, length-drop, lit<, map, nat_eq, refl, rules, slice_index, string_bytes, subst, suc, sym, take, true, zero, zero-add, ℕ, ◌%◌, ◌*◌, ◌++◌, ◌+◌, ◌-◌, ◌/◌, ◌<◌, ◌^◌, ◌∙◌, ◌∷◌, ◌≡◌, ◌≢◌, ◌≤◌, ◌⊎◌}
pub use Rattle.std.proofs.Math.Nat.{pow-le-pow_right}
pub use Rattle.std.proofs.Math.Seq.{drop-append_seam, take-append_seam}
pub use Rattle.std.proofs.lemmas.Bool.{and_parts, and_right, cond-false, eqb-true, false_from_ne_true, false≢true, le-leb, le-ltb, lt-ltb, not-false, not-true, or_left, or_parts, or_right}
pub use Rattle.std.proofs.lemmas.Bool.Decides.{nat_tests}
pub use Rattle.std.proofs.lemmas.Grind.{pow_more}
pub use Rattle.std.proofs.lemmas.List.{append-nil, append_cancel_right, drop-drop, length-replicate, length-take-le, map-append, nil_from_length, take-append-drop}
pub use Rattle.std.proofs.lemmas.List.Sums.{prefix_len-le-length}
pub use Rattle.std.proofs.lemmas.Option.{none-some}
pub use Rattle.std.proofs.lemmas.Slice.Eq.{bytes_eq-Decides}
pub use Rattle.std.proofs.lemmas.Str.{encode_ascii, encodes-append, length-le-encodes}
pub use Rattle.std.specs.Char.{len_utf8}
pub use Rattle.std.specs.List.{list_all, prefix_len, range_with_len}
pub use Rattle.std.specs.Prelude.{IsFalse, None, OnOk, Option, Some, bytes_eq, codes, encode_utf8, if◌then◌else◌, is_some, max, nat_le, nat_lt, not, option_and_then, option_map, pred, replicate, unwrap_or, ◌&&◌, ◌==◌, ◌||◌}
pub use Rattle.std.specs.Result.{IsErrAnd}
pub use Rattle.std.specs.String.Boundary.{IsSplitPoint}
