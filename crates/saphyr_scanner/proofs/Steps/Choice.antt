-- What a text's next characters begin: the choice of `step`, for what is shown of each of its results. Two steps are
-- told side by side, of two cores and with two second characters that are asked the same; of one step both are one.
use Rattle.std.proofs.Common.{◌≡◌, ℕ, Bool, true, false, refl, ap}
use Rattle.std.specs.Prelude.{◌&&◌, ◌||◌, ◌==◌}
use Rattle.saphyr_input.specs.Classes.{is_blank_or_breakz}
use Rattle.saphyr_scalar.specs.declared.values.BlockStyle.TheVariants as block_style
use Rattle.saphyr_scalar.specs.declared.scalar.fault.FaultText.TheVariants as fault
use Rattle.saphyr_scalar.specs.Views.Cursor.{refuse}
use Rattle.saphyr_scalar.proofs.Choices.{both_by}
use Rattle.saphyr_scanner.specs.declared.engine.level.Context.TheVariants as context
use Rattle.saphyr_scanner.specs.Grammar.Tokens as tokens
use Rattle.saphyr_scanner.specs.Steps.Block as block
use Rattle.saphyr_scanner.specs.Steps.Core.{Core, StepResult, in_block}
use Rattle.saphyr_scanner.specs.Steps.Fetch.{step, is_value_adjacent, flow_value_steps}
use Rattle.saphyr_scanner.specs.Steps.Flow as flow
use Rattle.saphyr_scanner.specs.Steps.Property as property
use Rattle.saphyr_scalar.specs.declared.values.Quote.{Quote}
use Rattle.saphyr_scalar.specs.declared.values.Quote.TheVariants.{Single, Double}
use Rattle.saphyr_scalar.specs.Values.Flow.{mark}
use Rattle.saphyr_scanner.specs.Steps.Scalar as scalar
use Rattle.saphyr_scanner.specs.Steps.Value as value
use Rattle.std.proofs.lemmas.Bool.{eqb-true, and_parts}
use Rattle.saphyr_input.specs.Indicators.{ampersand, apostrophe, asterisk, at_sign, exclamation_mark, grave_accent, greater_than, hyphen, left_brace, left_bracket, percent_sign, question_mark, quotation_mark, right_brace, right_bracket, vertical_bar}

-- no indicator is here
pub record NoIndicator (first second : ℕ) (c : Core) : Type 0 where
  pub sequence : (first == left_bracket) ≡ false
  pub mapping : (first == left_brace) ≡ false
  pub sequence_end : (first == right_bracket) ≡ false
  pub mapping_end : (first == right_brace) ≡ false
  pub comma : (first == 44) ≡ false
  pub dash : ((first == hyphen) && is_blank_or_breakz second) ≡ false
  pub question : ((first == question_mark) && is_blank_or_breakz second) ≡ false
  pub colon : ((first == 58) && is_blank_or_breakz second) ≡ false
  pub beside : ((first == 58) && is_value_adjacent second c) ≡ false
  pub double : (first == quotation_mark) ≡ false
  pub single : (first == apostrophe) ≡ false
  pub alias : (first == asterisk) ≡ false
  pub anchor : (first == ampersand) ≡ false
  pub tag : (first == exclamation_mark) ≡ false
  pub literal : ((first == vertical_bar) && in_block c) ≡ false
  pub folded : ((first == greater_than) && in_block c) ≡ false
  pub reserved : ((first == percent_sign) || (first == at_sign) || (first == grave_accent)) ≡ false

-- what is to be shown of each
pub record Cases (P : StepResult → StepResult → Type 0) (first second other n : ℕ) (c d : Core) : Type 0 where
  pub sequence : first ≡ left_bracket
      → P (flow.opening_steps context.FlowSequence tokens.FlowSequenceStart n c)
      (flow.opening_steps context.FlowSequence tokens.FlowSequenceStart n d)
  pub mapping : first ≡ left_brace
      → P (flow.opening_steps context.FlowMapping tokens.FlowMappingStart n c)
      (flow.opening_steps context.FlowMapping tokens.FlowMappingStart n d)
  pub sequence_end : first ≡ right_bracket → P (flow.sequence_end_steps c) (flow.sequence_end_steps d)
  pub mapping_end : first ≡ right_brace → P (flow.mapping_end_steps c) (flow.mapping_end_steps d)
  pub comma : first ≡ 44 → P (flow.flow_entry_steps c) (flow.flow_entry_steps d)
  pub dash : first ≡ hyphen → is_blank_or_breakz second ≡ true
      → P (block.block_entry_steps c) (block.block_entry_steps d)
  pub question : first ≡ question_mark → is_blank_or_breakz second ≡ true → P (block.key_steps c) (block.key_steps d)
  pub colon : first ≡ 58 → is_blank_or_breakz second ≡ true → P (value.value_steps c) (value.value_steps d)
  pub beside : first ≡ 58 → is_value_adjacent second c ≡ true → P (flow_value_steps second c) (flow_value_steps other d)
  pub quoted : (quote : Quote) → first ≡ mark quote → P (scalar.quoted_steps quote n c) (scalar.quoted_steps quote n d)
  pub alias : first ≡ asterisk → P (property.alias_steps n c) (property.alias_steps n d)
  pub anchor : first ≡ ampersand → P (property.anchor_steps n c) (property.anchor_steps n d)
  pub tag : first ≡ exclamation_mark → P (property.tag_steps n c) (property.tag_steps n d)
  pub literal : first ≡ vertical_bar → in_block c ≡ true
      → P (scalar.block_scalar_steps block_style.Literal n c) (scalar.block_scalar_steps block_style.Literal n d)
  pub folded : first ≡ greater_than → in_block c ≡ true
      → P (scalar.block_scalar_steps block_style.Folded n c) (scalar.block_scalar_steps block_style.Folded n d)
  pub reserved : P (refuse (fault.UnexpectedCharacter first) c.cursor.mark)
      (refuse (fault.UnexpectedCharacter first) d.cursor.mark)
  pub plain : NoIndicator first second c → P (scalar.plain_steps n c) (scalar.plain_steps n d)

-- What is proved of each step, of two cores side by side, is proved of the step that `step` chooses for both. The
-- tests come in its order. Where a test reads the second character or the core, the premises say that it gives the
-- same for both.
pub both_cases : (P : StepResult → StepResult → Type 0) (first second other n : ℕ) (c d : Core)
    → is_blank_or_breakz second ≡ is_blank_or_breakz other → is_value_adjacent second c ≡ is_value_adjacent other d
    → in_block c ≡ in_block d → Cases P first second other n c d → P (step first second n c) (step first other n d)
unfolding step
both_cases P first second other n c d blank beside same h =
    let is : (k : ℕ) → (first == k) ≡ true → first ≡ k = λ k e. eqb-true first k e in
    let two : (k : ℕ) (b : Bool) → ((first == k) && b) ≡ true → (first ≡ k) × (b ≡ true) = λ k b e. let w = and_parts
    (first == k) b e in (is k w.0, w.1) in
    let and : (k : ℕ) (a b : Bool) → a ≡ b → ((first == k) && a) ≡ ((first == k) && b) = λ k a b e. ap
    (λ x. (first == k) && x) e in
    both_by (first == 91) (first == 91) _ _ _ _ P refl (λ e _. h.sequence (is 91 e))
    (λ e0 _. both_by (first == 123) (first == 123) _ _ _ _ P refl (λ e _. h.mapping (is 123 e))
    (λ e1 _. both_by (first == 93) (first == 93) _ _ _ _ P refl (λ e _. h.sequence_end (is 93 e))
    (λ e2 _. both_by (first == 125) (first == 125) _ _ _ _ P refl (λ e _. h.mapping_end (is 125 e))
    (λ e3 _. both_by (first == 44) (first == 44) _ _ _ _ P refl (λ e _. h.comma (is 44 e))
    (λ e4 _. both_by ((first == 45) && is_blank_or_breakz second) _ _ _ _ _ P (and 45 _ _ blank)
    (λ e _. let w = two 45 _ e in h.dash w.0 w.1)
    (λ e5 _. both_by ((first == 63) && is_blank_or_breakz second) _ _ _ _ _ P (and 63 _ _ blank)
    (λ e _. let w = two 63 _ e in h.question w.0 w.1)
    (λ e6 _. both_by ((first == 58) && is_blank_or_breakz second) _ _ _ _ _ P (and 58 _ _ blank)
    (λ e _. let w = two 58 _ e in h.colon w.0 w.1)
    (λ e7 _. both_by ((first == 58) && is_value_adjacent second c) _ _ _ _ _ P (and 58 _ _ beside)
    (λ e _. let w = two 58 _ e in h.beside w.0 w.1)
    (λ e8 _. both_by (first == 34) (first == 34) _ _ _ _ P refl (λ e _. h.quoted Double (is 34 e))
    (λ e9 _. both_by (first == 39) (first == 39) _ _ _ _ P refl (λ e _. h.quoted Single (is 39 e))
    (λ e10 _. both_by (first == 42) (first == 42) _ _ _ _ P refl (λ e _. h.alias (is 42 e))
    (λ e11 _. both_by (first == 38) (first == 38) _ _ _ _ P refl (λ e _. h.anchor (is 38 e))
    (λ e12 _. both_by (first == 33) (first == 33) _ _ _ _ P refl (λ e _. h.tag (is 33 e))
    (λ e13 _. both_by ((first == 124) && in_block c) _ _ _ _ _ P (and 124 _ _ same)
    (λ e _. let w = two 124 _ e in h.literal w.0 w.1)
    (λ e14 _. both_by ((first == 62) && in_block c) _ _ _ _ _ P (and 62 _ _ same)
    (λ e _. let w = two 62 _ e in h.folded w.0 w.1)
    (λ e15 _. both_by ((first == 37) || (first == 64) || (first == 96))
    ((first == 37) || (first == 64) || (first == 96)) _ _ _ _ P refl (λ _ _. h.reserved)
    (λ e16 _. h.plain (record {
      sequence = e0;
      mapping = e1;
      sequence_end = e2;
      mapping_end = e3;
      comma = e4;
      dash = e5;
      question = e6;
      colon = e7;
      beside = e8;
      double = e9;
      single = e10;
      alias = e11;
      anchor = e12;
      tag = e13;
      literal = e14;
      folded = e15;
      reserved = e16;
    }))))))))))))))))))

-- the same of one step
pub cases : (Q : StepResult → Type 0) (first second n : ℕ) (c : Core) → Cases (λ x y. Q x) first second second n c c
    → Q (step first second n c)
cases Q first second n c h = both_cases (λ x y. Q x) first second second n c c refl refl refl h

-- ## What some indicators begin

pub begins_sequence : (second i : ℕ) (c : Core)
    → step 91 second i c ≡ flow.opening_steps context.FlowSequence tokens.FlowSequenceStart i c
unfolding step
begins_sequence second i c = refl

pub begins_mapping : (second i : ℕ) (c : Core)
    → step 123 second i c ≡ flow.opening_steps context.FlowMapping tokens.FlowMappingStart i c
unfolding step
begins_mapping second i c = refl

pub comma_begins : (second i : ℕ) (c : Core) → step 44 second i c ≡ flow.flow_entry_steps c
unfolding step
comma_begins second i c = refl
