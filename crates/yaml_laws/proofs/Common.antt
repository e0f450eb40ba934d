-- The words of other crates, of std and of the grammars that many of the proofs here use, handed on by one module.
pub use Rattle.saphyr_input.proofs.Basics.Booleans.{and_false, and_or_false, and_true_left, and_true_right, by_test, clash, or_false_left, or_true_swap, other_than}
pub use Rattle.saphyr_input.proofs.Basics.Characters.{blank_no_break, blank_no_feed, no_blank_no_tab, no_break_no_feed, no_return, non_break_feed_fails, non_break_no_break, non_break_no_feed, return_breaks}
pub use Rattle.saphyr_input.proofs.Basics.Lists.{cons_not_empty}
pub use Rattle.saphyr_input.proofs.Basics.Numbers.{le_next, next_not_within, zero_below_next}
pub use Rattle.saphyr_input.specs.Breaks.{normal_break, normalized}
pub use Rattle.saphyr_input.specs.Classes.{IsDigit, IsHex, byte_order_mark, carriage_return, hex_value, is_alpha, is_anchor_char, is_blank, is_blank_or_breakz, is_bom, is_break, is_breakz, is_flow, is_hex, is_yaml_non_break, is_z, line_feed, space, tab}
pub use Rattle.saphyr_input.specs.Indicators.{apostrophe, colon, comma, exclamation_mark, full_stop, hyphen, left_brace, left_bracket, number_sign, percent_sign, question_mark, right_brace, right_bracket}
pub use Rattle.saphyr_input.specs.Places.{can_be_plain, is_blank_or_break, is_document_end, is_document_indicator, is_document_start}
pub use Rattle.saphyr_input.specs.Separation.{found_blanks, found_tabs, has_valid_yaml_ws, separation_len}
pub use Rattle.saphyr_input.specs.declared.input.SkipTabs.{SkipTabs}
pub use Rattle.saphyr_input.specs.declared.input.SkipTabs.TheVariants.{Yes}
pub use Rattle.saphyr_scalar.proofs.Given.{bind_ok, cursor_at, given_of}
pub use Rattle.saphyr_scalar.proofs.Moving.{along_more, along_none, drop_more}
pub use Rattle.saphyr_scalar.proofs.NoBreaks.{NoBreaks, directive_no_break, no_breaks_both, no_breaks_in}
pub use Rattle.saphyr_scalar.proofs.WhatCame.Rests.{known_before, later_here, later_than}
pub use Rattle.saphyr_scalar.specs.Known.{IsRestOfText, is_open}
pub use Rattle.saphyr_scalar.specs.Passing.{IsPassed}
pub use Rattle.saphyr_scalar.specs.Reading.BlockLines.{spaces}
pub use Rattle.saphyr_scalar.specs.Reading.Plain.{IsPlainReading, end_of_text}
pub use Rattle.saphyr_scalar.specs.Spelling.Directive.{AreSomeBlanks, IsDirectiveText, IsLineTail, IsReadDirective, IsReadTagDirective, IsReservedDirective, IsTagDirective, ReadDirective, reserved, tag_prefix, version}
pub use Rattle.saphyr_scalar.specs.Spelling.Quoted.{IsQuotedText, IsText, broken, closed, escaped, escaped_break, itself, numbered, stands_for_itself, two_quotes}
pub use Rattle.saphyr_scalar.specs.Spelling.Tag.{AreIn, EndsTag, IsAnchorName, IsHandleText, IsTagText}
pub use Rattle.saphyr_scalar.specs.Steps.Plain.{comment_of, ends_line}
pub use Rattle.saphyr_scalar.specs.Steps.Quoted.{break_len, is_closing, mid_line}
pub use Rattle.saphyr_scalar.specs.Values.Flow.{backslash, mark, plain_value, raw_item}
pub use Rattle.saphyr_scalar.specs.Values.Folding.{folded, is_before_break}
pub use Rattle.saphyr_scalar.specs.Views.Cursor.{Cursor, along, next_line, pass, pass_break, pass_byte_order_mark, separation, start_cursor, ◌>>=◌}
pub use Rattle.saphyr_scalar.specs.declared.scalar.fault.Refusal.{Refusal}
pub use Rattle.saphyr_scalar.specs.declared.scalar.position.Marker.{Marker}
pub use Rattle.saphyr_scalar.specs.declared.scalar.position.Span.{Span}
pub use Rattle.saphyr_scalar.specs.declared.values.BlockStyle.{BlockStyle}
pub use Rattle.saphyr_scalar.specs.declared.values.Chomping.{Chomping}
pub use Rattle.saphyr_scalar.specs.declared.values.Item.{Item}
pub use Rattle.saphyr_scalar.specs.declared.values.Quote.{Quote}
pub use Rattle.saphyr_scalar.specs.declared.values.Quote.TheVariants.{Double, Single}
pub use Rattle.saphyr_scanner.proofs.Effects.Readers.{Readers}
pub use Rattle.saphyr_scanner.proofs.Gaps.{passes_no_feed, passes_no_return, separated, stop_here}
pub use Rattle.saphyr_scanner.proofs.Handing.Lazy.{begins_so, free_block, handed_out, onto}
pub use Rattle.saphyr_scanner.proofs.Leads.{LeadsTo, flat, leads_on, onward, stay}
pub use Rattle.saphyr_scanner.proofs.Levels.{level_of, saved}
pub use Rattle.saphyr_scanner.proofs.LineTexts.{name_no_break, tag_no_break, tail_no_break}
pub use Rattle.saphyr_scanner.proofs.Queues.{holding, place_kinds, place_kinds_append, queue_of, token_place, with_opening_seam}
pub use Rattle.saphyr_scanner.proofs.Handing.Root.{comes, core_at, drops_key, fetches_stream_end, fetches_stream_start, none_unrolls, state_at, stream_end_place, stream_start_place}
pub use Rattle.saphyr_scanner.proofs.Steps.Choice.{begins_mapping, begins_sequence, both_cases, comma_begins}
pub use Rattle.saphyr_scanner.specs.Grammar.Characters.{AreAll, IsSurrogate}
pub use Rattle.saphyr_scanner.specs.Grammar.Forest.{Alias, AreCompatible, Directive, Document, DoubleQuoted, Folded, Forest, Handle, Literal, Map, MoreNodes, MorePairs, NoNode, NoPair, Node, Nodes, NonSpecific, Pairs, Plain, Properties, Reserved, Scalar, Seq, Shorthand, SingleQuoted, Style, Tag, TagPrefix, Verbatim, Version, bare, handle_text, left_out, no_properties, open_collections, open_in_forest, open_in_nodes, open_in_pairs}
pub use Rattle.saphyr_scanner.specs.Grammar.TokenGrammar.{AreEndsAndMarks, Yields}
pub use Rattle.saphyr_scanner.specs.Grammar.Tokens.{Kind, alias_token, anchor_token, directive_token, scalar_token, tag_token}
pub use Rattle.saphyr_scanner.specs.Limits.{most_open}
pub use Rattle.saphyr_scanner.specs.Steps.Block.{behind_start}
pub use Rattle.saphyr_scanner.specs.Steps.Core.{Action, Core, Open, Put, Step, StepResult, act, at_mark, completed_step, drop_far_key, from_to, go_deeper, in_block, is_further, is_too_far, least_column, perform, remove_key, roll, save_key, up_to_here, with_context}
pub use Rattle.saphyr_scanner.specs.Steps.Document.{end_mark}
pub use Rattle.saphyr_scanner.specs.Steps.Fetch.{fetch, fetch_here, fetch_within, step, without_far_key}
pub use Rattle.saphyr_scanner.specs.Steps.Flow.{close_collection}
pub use Rattle.saphyr_scanner.specs.Steps.Gap.{Gap, GapEnd, SpacesEnd, end_of_gap, end_of_gap_in_comment, gap_here, is_tab_indentation, spaces_at, spaces_of, stop, whole_gap}
pub use Rattle.saphyr_scanner.specs.Steps.Level.{Candidate, Level, begins_pair, behind_colon, behind_entry, behind_question, ends_pair, is_block, is_place}
pub use Rattle.saphyr_scanner.specs.Steps.Passing.{pass_on, separate, with_cursor}
pub use Rattle.saphyr_scanner.specs.Steps.Queue.{Place, Queue, bare_place, empty_piece, is_empty_list, next, places_with_opening}
pub use Rattle.saphyr_scanner.specs.Steps.Remaining.{Scans, scan}
pub use Rattle.saphyr_scanner.specs.Steps.Scalar.{quote_style, style_of}
pub use Rattle.saphyr_scanner.specs.Steps.State.{State, after_step, on_core, on_core_with, start}
pub use Rattle.saphyr_scanner.specs.TokensTaken.{block_indicator}
pub use Rattle.saphyr_scanner.specs.Views.Tokens.{Piece, Remaining}
pub use Rattle.saphyr_scanner.specs.declared.engine.level.Context.{Context}
pub use Rattle.saphyr_scanner.specs.declared.queue.Opening.{Opening}
pub use Rattle.scalar_laws.proofs.Beginnings.{back_in, both_in, front_in}
pub use Rattle.scalar_laws.proofs.Breaks.Results.{Both, and_known, and_then, both_of, choose, choose_first, choose_same, gives, refused}
pub use Rattle.scalar_laws.proofs.Breaks.Sides.{Normal, character, feed, first_in, no_feed, normal, normalized_is, nothing, pair, return, second_in}
pub use Rattle.scalar_laws.specs.Alike.{AreAlike, AreMarksAlike, AreNoted, ReadsAlike}
pub use Rattle.scalar_laws.specs.Spelling.Block.{IsBlockScalar, IsChomping, IsHeader, IsIndicator, IsTaken, chomping_first, digit_first}
pub use Rattle.scalar_laws.specs.Spelling.Plain.{AreFurtherWords, ArePlainSafe, AreSafeBefore, EndsPlain, IsNoMarker, IsPlainGap, IsPlainText, IsWordBefore, IsWordIn, StopsPlain, behind_blanks, has_line_end, is_plain_safe, is_tabbed, past_white, reaches_tabbed, stands_behind_tab, words_text}
pub use Rattle.scalar_laws.specs.Spelling.QuotedLines.{IsLine, LinesFit, space_count}
pub use Rattle.scalar_laws.specs.Spelling.Spaces.{AreEach, AreMany, AreSpaces, IsComment, IsCommentBehind, IsEol, IsFiller, IsFillerLine, IsFillerText, IsGap, IsLastFiller, IsLineEnd, IsLinePrefix, IsLineRest, IsNextLine, IsSeparation, IsSeparationLine, joined_pieces}
pub use Rattle.std.proofs.Common.{Bool, Err, IsFalse, IsTrue, List, Ok, [], ap, append-nil, append_assoc, arith, codes, cond, drop, encode_utf8_all, false, inl, inr, length, refl, subst, suc, sym, true, ℕ, ◌*◌, ◌++◌, ◌+◌, ◌<◌, ◌∙◌, ◌∷◌, ◌≡◌, ◌≤◌, ◌⊎◌}
pub use Rattle.std.proofs.Math.Bool.{or-false, or-true}
pub use Rattle.std.proofs.Math.Nat.{sub-zero, zero-add}
pub use Rattle.std.proofs.lemmas.Bool.{and_parts, eq-eqb, eqb-true, false≢true, le-leb, leb-true, ltb-true, ne_eqb, or_from, or_left, or_parts, true≢false}
pub use Rattle.std.proofs.lemmas.Bool.Decides.{nat_tests}
pub use Rattle.std.proofs.lemmas.List.{append_cancel_right, length-append}
pub use Rattle.std.specs.List.{list_all, list_any, prefix_len}
pub use Rattle.std.specs.Prelude.{None, Option, Result, Some, if◌then◌else◌, map, max, min, nat_le, nat_lt, not, option_map, slice_index, take, zero, ◌&&◌, ◌-◌, ◌==◌, ◌^◌, ◌||◌, ◌≢◌}
pub use Rattle.yaml_laws.specs.Grammar.BlockNodes.{AreEntries, AreOtherEntries, AreOtherPairs, ArePairs, AtStart, BehindDash, BehindKey, BehindMark, BehindMarker, EndsContent, IsBlockNode, IsBlockPair, IsBlockScalarText, IsCollectionFront, IsEntryIndentation, IsFlowInBlock, IsGapAt, IsImplicitPair, IsKeyAlone, IsKeylessPair, IsLead, IsLeftOut, IsMarkedPair, IsScalarFront, IsScalarInBlock, IsStyled, Position, has_tab_ahead, indent_at, is_behind_colon, is_start, is_value_ahead, sequence_indent_at}
pub use Rattle.yaml_laws.specs.Grammar.ClosedTexts.{DocumentMarker, Ends, EndsWithMarker, HandsOut, IsBeforeLine, IsBeforeMarker, Starts, marker_text, marker_token}
pub use Rattle.yaml_laws.specs.Grammar.FlowNodes.{AreFlowPairs, AreItems, AreOtherFlowPairs, AreOtherItems, AreProperties, IsAlias, IsAnchor, IsBeforeColon, IsBeforeContent, IsBeforeSeparation, IsBehindMark, IsColonAndValue, IsComma, IsExplicitPair, IsFlowNode, IsKeyAndValue, IsKeyText, IsLastComma, IsLoneMark, IsOnLine, IsOpening, IsPair, IsPairItem, IsPairText, IsPlainKeyNode, IsProperties, IsScalarNode, IsSinglePair, IsSinglePairText, IsValueAlone, allows_adjacent, has_tab_outside, needs_separation}
pub use Rattle.yaml_laws.specs.Grammar.FlowScalars.{IsEmptyLine, IsFirstWord, IsFlowScalar, IsFoldedGap, IsFurtherWord, IsLastWord, IsLoneDash, IsPlain, IsPlainKey, IsQuoted, IsWordGap, begins_plain}
pub use Rattle.yaml_laws.specs.Grammar.Json.{AreElements, AreMembers, AreOtherElements, AreOtherMembers, AreSpellings, IsCode, IsExponent, IsFraction, IsInteger, IsJson, IsJsonEscape, IsJsonNumber, IsJsonSpelling, IsJsonText, IsMemberName, IsString, IsStructural, IsUnescaped, IsValue, IsWhite, IsWhiteSpace, IsWord}
pub use Rattle.yaml_laws.specs.Grammar.TagSpelling.{IsHandle, IsTag}
pub use Rattle.yaml_laws.specs.Grammar.Yaml.{AreDirectives, AreDocuments, IsDirective, IsDocumentPrefix, IsMarkBehindFiller, IsYaml, IsYamlText, end_prefix, has_marker, mark_prefix, no_prefix}
pub use Rattle.yaml_laws.specs.SameKinds.{HaveSameKinds}
