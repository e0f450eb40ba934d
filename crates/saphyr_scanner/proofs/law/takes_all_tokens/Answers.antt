use Rattle.std.proofs.Common.{Option, subst, ◌≡◌, ◌<◌, ℕ, List, [], ◌∷◌, length, slice_index, ap, ◌∙◌, refl, arith, false}
use Rattle.saphyr_input.specs.Classes.{is_break}
use Rattle.saphyr_scalar.specs.declared.values.BlockStyle.{BlockStyle}
use Rattle.saphyr_scalar.specs.declared.values.BlockStyle.TheVariants as block_style
use Rattle.saphyr_scalar.specs.declared.scalar.fault.Refusal.{Refusal}
use Rattle.saphyr_scalar.specs.Views.Cursor.{start_cursor}
use Rattle.saphyr_scanner.specs.Steps.Remaining.{scan}
use Rattle.saphyr_scanner.specs.TokensTaken.{IsEndOf, block_indicator, no_collections, nothing}
use Rattle.saphyr_scanner.proofs.Effects.Readers.{TextLaws, RefusalLaws}
use Rattle.saphyr_scanner.proofs.Taken.Places.{tokens_at}
use Rattle.saphyr_scanner.proofs.Taken.Run.{scan_taken}
use Rattle.saphyr_scanner.proofs.law.takes_all_tokens.Goals as goal

indicator_begins : (style : BlockStyle) → is_break (block_indicator style) ≡ false
indicator_begins block_style.Literal = refl
indicator_begins block_style.Folded = refl

some_indicator : (style : BlockStyle) (xs : List ℕ) → slice_index xs 0 ≡ block_indicator style → 0 < length xs
some_indicator style (x ∷ xs) e = omega arith
some_indicator block_style.Literal [] e = absurd (omega (arith, e))
some_indicator block_style.Folded [] e = absurd (omega (arith, e))

-- The laws of `saphyr_scalar`, put into the form that the proofs on tokens ask for, give all three clauses:
-- `scan_taken` the tokens and what ends them, and `tokens_at` their places.
pub returns : goal.returns
returns c =
    let laws : TextLaws = record {
      plain = c.reads_plain_values.ensures.lines;
      quotes = c.spells_each_quoted.ensures.lines;
      non_space = c.reads_plain_values.ensures.first;
      block_text = λ style indent s t text span e r. c.reads_block_texts.ensures.text style indent s t text span
          (ap is_break e ∙ indicator_begins style) (some_indicator style s.rest e) r;
      block_place = λ style indent s t text span e r.
          let p = c.reads_block_texts.ensures.placed style indent s t text span (ap is_break e ∙ indicator_begins style)
          (some_indicator style s.rest e) r in
          record { passes = p.0; end = p.1; line = p.3 };
      name = c.spells_each_property.ensures.anchor;
      tag = c.spells_each_property.ensures.tag;
      directive = c.spells_each_directive.ensures;
    } in
    let refusals : RefusalLaws = record {
      name = c.refuses_inside.ensures.anchor;
      tag = c.refuses_inside.ensures.tag;
      separation = c.refuses_inside.ensures.separation;
      directive = c.refuses_inside.ensures.directive;
      quotes = c.refuses_inside.ensures.quoted;
      plain = c.refuses_inside.ensures.plain;
      block_scalar = c.refuses_inside.ensures.block_scalar;
    } in
    let taken = scan_taken (record { texts = laws; readers = c.takes_characters_off.ensures; refusals = refusals }) in
    record {
      taken = taken;
      places = λ limit text small.
          let h = taken limit text small in
          tokens_at text no_collections (scan limit text).pieces (start_cursor text) h.0
          (nothing (start_cursor text).mark text) h.1;
      refusal = λ limit text small e is.
          let h = taken limit text small in
          let P : Option Refusal → Type 0 = λ o. IsEndOf text o h.0 in
          subst P is h.5;
    }
