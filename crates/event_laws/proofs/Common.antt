-- The words of other crates, of std and of the definitions here that many of the proofs use, handed on by one module.
pub use Rattle.event_laws.specs.Anchors.{AreWithout, IsLatest, anchor_of, anchors, is_named, latest_id, one_more_anchor, own_id}
pub use Rattle.event_laws.specs.EventsTaken.{AreContentTokens, ArePropertyTokens, AreTaken, BeginsEachForest, BeginsEntries, BeginsSomeForest, BelongsToNone, Continue, HasPlaceIn, HaveTokens, IsAllUnless, IsAnchorKind, IsCut, IsOf, IsTagKind, SpansAll, no_span, unplaced_events, unplaced_tokens}
pub use Rattle.event_laws.specs.Exactly.{EmitTheSame, GivesExactly, answer_of_tokens, kinds}
pub use Rattle.event_laws.specs.ForestEvents.{event_of_part, events, events_behind, first_and_others}
pub use Rattle.event_laws.specs.More.{BeginsAs, marker_token, with_more}
pub use Rattle.event_laws.specs.Premises.{DocumentMarker, Ends, EndsWithMarker, GivesFirst, Grammar, MeanTheSame, ReadsClosed, ReadsEach, Starts, events_behind_marker, marker_event}
pub use Rattle.event_laws.specs.Preorder.{CloseDocument, CloseMapping, CloseSequence, CloseStream, Leaf, OpenDocument, OpenMapping, OpenSequence, OpenStream, Part, Reference, document_parts, entry_parts, node_parts, opens_document, pair_parts, parts}
pub use Rattle.event_laws.specs.Promises.{IsShallowJson, KeepsSpans, ReadsClosedYaml, ReadsJson, ReadsYaml, TakesEvents}
pub use Rattle.event_laws.specs.TagResolution.{any_resolution, default_prefix, prefix_declared_for, prefix_in}
pub use Rattle.event_laws.specs.WellFormed.{AreWellFormed, IsEncoded, IsWellFormed, MayStandBefore}
pub use Rattle.saphyr_input.specs.Breaks.{normalized}
pub use Rattle.saphyr_machine.proofs.Beside.Documents.{IsBetweenDocuments, PassedAll, steps_alike, steps_beside}
pub use Rattle.saphyr_machine.proofs.Beside.Machines.{Alike, Awaits, Behind, Beside, EmitsAlike, EndsAlike, IsMarkers, Left, With, behind_by, is_end}
pub use Rattle.saphyr_machine.proofs.Calls.Handing.{advances, goes_on}
pub use Rattle.saphyr_machine.proofs.Turns.{some_refused}
pub use Rattle.saphyr_machine.proofs.Unroll.{over, shrinks_at, unroll}
pub use Rattle.saphyr_machine.proofs.Walk.{HoldsBetween, IsFailed, Resumes, Walk, between, runs, step}
pub use Rattle.saphyr_machine.specs.Answer.{Answer, Ending, answer_of_step, empty_answer, ending_of, fault_alone, machine_size, remaining_answer, with_first_event}
pub use Rattle.saphyr_machine.specs.Calls.{Advances, AdvancesFrom, FailsFrom, LeavesEnd, LooksFrom, ReadsAhead}
pub use Rattle.saphyr_machine.specs.Cursor.{EventCursor, Kept, answer_behind, at_start, keeping_tags, to_come, with_event_ahead}
pub use Rattle.saphyr_machine.specs.Events.{Happening, MappingEnd, MappingStart, ResolvedTag, Scalar, SequenceEnd, SequenceStart, empty_scalar}
pub use Rattle.saphyr_machine.specs.Steps.Documents.{Declared, directive_at, directives_from, is_directive}
pub use Rattle.saphyr_machine.specs.Steps.Expected.{event_step, event_step_at}
pub use Rattle.saphyr_machine.specs.Steps.Machine.{Anchors, Emitted, Machine, Names, emit, ending_refusal, fresh_machine, is_listed, left_out_event, meaning, next_id, no_anchors, pop, put_back, taken_token, with_anchor, with_meaning, with_name, with_pieces, with_state, without_ids, ◌>>=◌}
pub use Rattle.saphyr_machine.specs.Steps.Nodes.{NodeProperties, has_property, is_left_out, next_node, node, node_behind, node_content_at, node_here, node_inside, node_or_nothing_at, node_without_content, span_up_to}
pub use Rattle.saphyr_machine.specs.Steps.Tags.{resolved_tag_at}
pub use Rattle.saphyr_machine.specs.declared.context.NodeContext.{NodeContext}
pub use Rattle.saphyr_machine.specs.declared.context.NodeContext.TheVariants.{Block, BlockMapping, Flow}
pub use Rattle.saphyr_machine.specs.declared.state.State.{State}
pub use Rattle.saphyr_machine.specs.declared.state.State.TheVariants.{End}
pub use Rattle.saphyr_scalar.specs.declared.scalar.fault.Refusal.{Refusal}
pub use Rattle.saphyr_scalar.specs.declared.scalar.position.Marker.{Marker}
pub use Rattle.saphyr_scalar.specs.declared.scalar.position.Span.{Span}
pub use Rattle.saphyr_scalar.specs.declared.scalar.style.ScalarStyle.{ScalarStyle}
pub use Rattle.saphyr_scalar.specs.declared.scalar.style.ScalarStyle.TheVariants.{Plain}
pub use Rattle.saphyr_scanner.specs.AtPlaces.{AreAtPlaces}
pub use Rattle.saphyr_scanner.specs.Grammar.Forest.{AreCompatible, Directive, Document, Forest, GoesWith, GoesWithAll, Handle, HasOne, HasProperty, Map, MoreNodes, MorePairs, Named, NoNode, NoPair, Node, Nodes, NonSpecific, Pairs, Primary, Properties, Reserved, Secondary, Shorthand, Style, Tag, TagPrefix, Verbatim, Version, handle_bytes, handle_text, no_properties, open_in_forest}
pub use Rattle.saphyr_scanner.specs.Grammar.TokenGrammar.{AllowsBlock, AreBoth, AreEndsAndMarks, AreMarks, BeginsWithValue, Context, HasNode, InBlock, InBlockMapping, InFlow, IsInBlockMapping, IsListEnd, YieldBlockEntries, YieldBlockPairs, YieldDocuments, YieldFlowEntries, YieldFlowPairs, YieldOtherFlowEntries, YieldOtherFlowPairs, YieldProperties, Yields, YieldsBareDocument, YieldsBehindDocument, YieldsBlockPair, YieldsDocument, YieldsExplicitDocument, YieldsFlowPair, YieldsMarkedKey, YieldsMarkedPair, YieldsMarkedValue, YieldsNode, YieldsOptional, YieldsPairEntry, YieldsScalar, YieldsSinglePair}
pub use Rattle.saphyr_scanner.specs.Grammar.Tokens.{BlockEnd, BlockEntry, BlockMappingStart, BlockSequenceStart, ByteOrderMark, DocumentEnd, DocumentStart, FlowEntry, FlowMappingEnd, FlowMappingStart, FlowSequenceEnd, FlowSequenceStart, Key, Kind, StreamEnd, StreamStart, Value, VersionDirective, alias_token, anchor_token, directive_token, scalar_token, tag_token}
pub use Rattle.saphyr_scanner.specs.Limits.{most_open}
pub use Rattle.saphyr_scanner.specs.Steps.Remaining.{Scans, scan}
pub use Rattle.saphyr_scanner.specs.TokensTaken.{AreTakenFrom, AreTokens, Collections, IsPlaceOf, IsScalarToken, IsToken, Surroundings, no_collections, open_behind, surroundings_in}
pub use Rattle.saphyr_scanner.specs.Views.Tokens.{Piece, Remaining}
pub use Rattle.std.proofs.Common.{Bool, Equal, Err, Greater, Less, List, None, Ok, Option, Ordering, Result, Some, [], ap, append-nil, append_assoc, arith, codes, cond, encode_utf8_all, eq-eqb, false, inl, inr, length, length-append, map, option_and_then, option_map, refl, subst, suc, sym, take, true, zero, ℕ, ◌*◌, ◌++◌, ◌+◌, ◌-◌, ◌<◌, ◌^◌, ◌↔◌, ◌∙◌, ◌∷◌, ◌≡◌, ◌≢◌, ◌≤◌, ◌⊎◌}
pub use Rattle.std.proofs.lemmas.Bool.{le-leb, or_parts}
pub use Rattle.std.proofs.lemmas.List.{length-map, map-append, take_all}
pub use Rattle.std.proofs.lemmas.Slice.Eq.{bytes_eq-Decides}
pub use Rattle.std.specs.Option.{option_or}
pub use Rattle.std.specs.Prelude.{IsTrue, if◌then◌else◌, is_some, slice_index, ◌==◌, ◌||◌}
pub use Rattle.std.specs.Str.{bytes_eq}
pub use Rattle.yaml_laws.specs.Grammar.Json.{AreElements, AreMembers, AreOtherElements, AreOtherMembers, IsJson, IsMemberName, IsValue}
pub use Rattle.yaml_laws.specs.Grammar.Yaml.{IsYamlText}
