-- The words of other crates, of std and of the views here that many of the proofs use, handed on by one module.
-- Definitions of steps are imported where they are used, so that a change of one proves few files again.
pub use Rattle.saphyr_input.proofs.Basics.Booleans.{and_false, and_true_left, by_test, clash, or_false_left, or_false_right}
pub use Rattle.saphyr_input.proofs.Basics.Characters.{blank_no_break, breakz_no_non_break}
pub use Rattle.saphyr_input.proofs.Basics.Lists.{second_is}
pub use Rattle.saphyr_input.specs.Classes.{byte_order_mark, carriage_return, is_alpha, is_anchor_char, is_blank, is_blank_or_breakz, is_bom, is_break, is_breakz, is_flow, is_one_of, is_yaml_non_break, is_z, line_feed}
pub use Rattle.saphyr_input.specs.Indicators.{ampersand, apostrophe, asterisk, at_sign, colon, comma, exclamation_mark, grave_accent, hyphen, left_brace, left_bracket, number_sign, percent_sign, question_mark, quotation_mark, right_brace, right_bracket}
pub use Rattle.saphyr_input.specs.Places.{is_blank_or_break, is_document_end, is_document_indicator, is_document_start, next_2_are, next_3_are}
pub use Rattle.saphyr_input.specs.Separation.{found_tabs, has_valid_yaml_ws}
pub use Rattle.saphyr_input.specs.declared.input.SkipTabs.{SkipTabs}
pub use Rattle.saphyr_scalar.proofs.Given.{Given, given_bind, given_of}
pub use Rattle.saphyr_scalar.proofs.Moving.{along_more}
pub use Rattle.saphyr_scalar.proofs.NoBreaks.{NoBreaks, directive_no_break, mark_no_break}
pub use Rattle.saphyr_scalar.proofs.Properties.TagsSpelled.{cut_at}
pub use Rattle.saphyr_scalar.specs.Passing.{IsPassed, character, line_break, nothing}
pub use Rattle.saphyr_scalar.specs.Reading.Plain.{IsPlainReading, IsSpelledPlain, end_of_text}
pub use Rattle.saphyr_scalar.specs.RefusedInside.{IsRefusedInside}
pub use Rattle.saphyr_scalar.specs.Spelling.Directive.{IsLineTail, IsReadDirective, ReadDirective, reserved, tag_prefix, version}
pub use Rattle.saphyr_scalar.specs.Spelling.IndentedQuotes.{HasIndentedLines}
pub use Rattle.saphyr_scalar.specs.Spelling.LaterLines.{AreLaterLines, ArePlainLines, IsPlainLine}
pub use Rattle.saphyr_scalar.specs.Spelling.Quoted.{IsQuotedText, IsText, broken, closed, escaped, escaped_break, itself, numbered, stands_for_itself, two_quotes}
pub use Rattle.saphyr_scalar.specs.Spelling.Tag.{AreIn, EndsTag, IsAnchorName, IsHandleText, IsTagText}
pub use Rattle.saphyr_scalar.specs.Steps.Quoted.{break_len, mid_line}
pub use Rattle.saphyr_scalar.specs.Values.Flow.{mark}
pub use Rattle.saphyr_scalar.specs.Views.Cursor.{Cursor, along, next_line, pass, pass_break, separation, start_cursor, ◌>>=◌}
pub use Rattle.saphyr_scalar.specs.declared.scalar.fault.Refusal.{Refusal}
pub use Rattle.saphyr_scalar.specs.declared.scalar.position.Marker.{Marker}
pub use Rattle.saphyr_scalar.specs.declared.scalar.position.Span.{Span}
pub use Rattle.saphyr_scalar.specs.declared.values.BlockStyle.{BlockStyle}
pub use Rattle.saphyr_scalar.specs.declared.values.Item.{Item}
pub use Rattle.saphyr_scalar.specs.declared.values.Quote.{Quote}
pub use Rattle.saphyr_scalar.specs.declared.values.Quote.TheVariants.{Double, Single}
pub use Rattle.saphyr_scanner.specs.Views.Tokens.{Piece, Remaining}
pub use Rattle.saphyr_scanner.specs.declared.engine.level.Context.{Context}
pub use Rattle.saphyr_scanner.specs.declared.queue.Opening.{Opening}
pub use Rattle.std.proofs.Common.{Bool, Err, IsFalse, IsTrue, List, None, Ok, Option, Result, Some, [], ap, append_assoc, arith, cond, drop, false, inl, inr, length, length-append, refl, subst, suc, sym, true, zero, ℕ, ◌*◌, ◌++◌, ◌+◌, ◌-◌, ◌<◌, ◌^◌, ◌∙◌, ◌∷◌, ◌≡◌, ◌≢◌, ◌≤◌, ◌⊎◌}
pub use Rattle.std.proofs.Math.Bool.{or-true}
pub use Rattle.std.proofs.lemmas.Bool.{and_parts, eq-eqb, eqb-true, false≢true, le-leb, le-ltb, lt-ltb, ltb-false, ltb-true, ne_eqb, not-false, not-true, or_cases, or_parts}
pub use Rattle.std.proofs.lemmas.Bool.Decides.{nat_tests}
pub use Rattle.std.proofs.lemmas.List.{length-drop}
pub use Rattle.std.specs.Prelude.{codes, if◌then◌else◌, nat_le, nat_lt, not, slice_index, ◌&&◌, ◌==◌, ◌||◌}
