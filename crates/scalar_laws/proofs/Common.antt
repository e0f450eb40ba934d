-- The words of other crates, of std and of the definitions here that many of the proofs use, handed on by one module.
pub use Rattle.saphyr_input.proofs.Basics.Booleans.{and_false, and_true_left, and_true_right, by_test, clash, none_of_three, or_assoc}
pub use Rattle.saphyr_input.proofs.Basics.Characters.{blank_cases, blank_no_break, breakz_no_non_break, no_return, non_break_no_break}
pub use Rattle.saphyr_input.proofs.Basics.Lists.{run_ends, second_is, some_length, third_is}
pub use Rattle.saphyr_input.specs.Breaks.{normalized}
pub use Rattle.saphyr_input.specs.Classes.{carriage_return, is_alpha, is_anchor_char, is_blank, is_blank_or_breakz, is_bom, is_break, is_breakz, is_digit, is_flow, is_hex, is_tag_char, is_uri_char, is_yaml_non_break, is_yaml_non_space, is_z, line_feed, space, tab}
pub use Rattle.saphyr_input.specs.Indicators.{apostrophe, backslash, colon, hyphen, less_than, number_sign, percent_sign, plus_sign}
pub use Rattle.saphyr_input.specs.Places.{is_blank_or_break, is_document_indicator, next_2_are, next_3_are}
pub use Rattle.saphyr_input.specs.Separation.{blank_len, comment_len, found_blanks, is_bare_comment, is_skipped, separation_len}
pub use Rattle.saphyr_scalar.proofs.Block.Lines.{stops}
pub use Rattle.saphyr_scalar.proofs.Block.Turns.{line_begins, line_on, no_line_at}
pub use Rattle.saphyr_scalar.proofs.Choices.{both_by}
pub use Rattle.saphyr_scalar.proofs.Directives.Read.{directive_same, line_place, name_read, tail_given, whole_line}
pub use Rattle.saphyr_scalar.proofs.Directives.TailsRead.{line_read, no_tail, nothing_refused}
pub use Rattle.saphyr_scalar.proofs.Given.{cursor_at}
pub use Rattle.saphyr_scalar.proofs.Moving.{along_more, along_none}
pub use Rattle.saphyr_scalar.proofs.Passings.{digits_passed, letter_passed}
pub use Rattle.saphyr_scalar.proofs.Plain.Pieces.{goes_not, goes_says, no_text, plain_starts, text_twice, word_behind, word_on, word_over}
pub use Rattle.saphyr_scalar.proofs.Quoted.GapBytes.{blank_bytes, break_bytes, closed_bytes, escaped_break_bytes, escaped_bytes, gap_bytes, gap_front, no_gap_bytes, raw_bytes}
pub use Rattle.saphyr_scalar.proofs.Quoted.Inside.{IsQuotedContent, at_break, behind_no_gap, break_cases, one_blank, passed_over, quoted_behind_gap, stands, word_from}
pub use Rattle.saphyr_scalar.proofs.Quoted.Spellings.{escape_content, letter_read, no_break_digits, no_break_simple, number_read}
pub use Rattle.saphyr_scalar.specs.Passing.{IsPassed, character, line_break, nothing}
pub use Rattle.saphyr_scalar.specs.Reading.BlockLines.{spaces}
pub use Rattle.saphyr_scalar.specs.Spelling.Tag.{AreIn}
pub use Rattle.saphyr_scalar.specs.Steps.Block.{EmptyLinesRead, is_indentation, line_cursor, pass_empty_lines, with_column, with_empty_line}
pub use Rattle.saphyr_scalar.specs.Steps.Quoted.{QuotedGap, TextRead, mid_line, on_line, over_lines, with_front, with_run}
pub use Rattle.saphyr_scalar.specs.Values.Block.{Content, Empty, Line, chomped_alone, contents, contents_behind, empty_at_end, has_content, is_more_indented, lines_value}
pub use Rattle.saphyr_scalar.specs.Values.Folding.{folded, line_feeds}
pub use Rattle.saphyr_scalar.specs.Views.Cursor.{Cursor, along, next_line, pass, pass_all_blanks, pass_blanks, pass_break, pass_comment, refuse_open, start_cursor, ◌>>=◌}
pub use Rattle.saphyr_scalar.specs.declared.scalar.fault.Refusal.{Refusal}
pub use Rattle.saphyr_scalar.specs.declared.scalar.position.Marker.{Marker}
pub use Rattle.saphyr_scalar.specs.declared.values.BlockStyle.{BlockStyle}
pub use Rattle.saphyr_scalar.specs.declared.values.Chomping.{Chomping}
pub use Rattle.saphyr_scalar.specs.declared.values.Chomping.TheVariants.{Clip, Keep, Strip}
pub use Rattle.saphyr_scalar.specs.declared.values.Item.{Item}
pub use Rattle.saphyr_scalar.specs.declared.values.Item.TheVariants.{Blank, Break, Escaped, EscapedBreak, Raw}
pub use Rattle.saphyr_scalar.specs.declared.values.Quote.{Quote}
pub use Rattle.saphyr_scalar.specs.declared.values.Quote.TheVariants.{Double, Single}
pub use Rattle.scalar_laws.specs.Alike.{AreAlike, AreBlocksAlike, AreDirectivesAlike, AreMarksAlike, AreNoted, ArePlainAlike, AreSame, AreTagsAlike, GiveAlike, ReadsAlike}
pub use Rattle.scalar_laws.specs.Spelling.Block.{AreEmptyLines, IsBehind, IsBlockScalar, IsBody, IsChomping, IsEmptyBody, IsHeader, IsHeaderEnd, IsIndentation, IsIndicator, IsTaken, chomping_first, clip, comment, comment_at_end, digit, digit_first, empty_line, empty_line_and_spaces, empty_lines, first, first_and_last, keep, leading, no_comment, no_comment_at_end, no_digit, no_empty_lines, spaces_alone, strip}
pub use Rattle.scalar_laws.specs.Spelling.Plain.{AreFurtherWords, AreSafeBefore, EndsPlain, IsNoMarker, IsPlainGap, IsPlainText, IsWordBefore, StopsPlain, behind_blanks, has_line_end, is_plain_safe, is_tabbed, past_white, reaches_tabbed, stands_behind_tab, words_text}
pub use Rattle.scalar_laws.specs.Spelling.QuotedLines.{IsLine, LinesFit, space_count}
pub use Rattle.std.proofs.Common.{Bool, Err, IsTrue, List, Ok, Result, [], add-zero, ap, append_assoc, arith, cond, drop, encode_utf8, encode_utf8_all, false, inl, inr, length, length-append, nat_eq, refl, slice_index, subst, suc, sym, take, true, zero, ℕ, ◌++◌, ◌+◌, ◌-◌, ◌<◌, ◌∙◌, ◌∷◌, ◌≡◌, ◌≢◌, ◌≤◌}
pub use Rattle.std.proofs.Math.Bool.{or-false, or-true}
pub use Rattle.std.proofs.Math.Seq.{drop-append-add, drop-append_seam, take-append_seam}
pub use Rattle.std.proofs.lemmas.Bool.{ne_eqb, not-false, not-true, or_from, or_left, or_right}
pub use Rattle.std.proofs.lemmas.Bool.Decides.{nat_tests}
pub use Rattle.std.proofs.lemmas.List.{append-nil, drop-drop, length-drop}
pub use Rattle.std.specs.List.{prefix_len}
pub use Rattle.std.specs.Prelude.{None, Option, Some, bytes_eq, codes, if◌then◌else◌, is_some, max, nat_lt, not, unwrap_or, ◌&&◌, ◌==◌, ◌||◌, ◌⊎◌}
