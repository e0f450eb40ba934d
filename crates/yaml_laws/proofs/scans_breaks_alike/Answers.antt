use Rattle.std.proofs.Common.{◌≡◌, ◌<◌, ℕ, suc, ◌+◌, refl, List, [], ◌∷◌, length, slice_index, ap, ◌∙◌, arith}
use Rattle.yaml_laws.proofs.Common.{is_break, BlockStyle, along, mid_line, Marker, block_indicator}
use Rattle.saphyr_scalar.specs.declared.values.BlockStyle.TheVariants as block_style
use Rattle.yaml_laws.proofs.Breaks.Cores.{Laws}
use Rattle.yaml_laws.proofs.Breaks.Forward.{Forwards, forward_plain, forward_passed, line_forward, break_forward}
use Rattle.yaml_laws.proofs.Breaks.Runs.{scans_same}
use Rattle.yaml_laws.proofs.Breaks.Scalars.{indicator_no_break}
use Rattle.yaml_laws.proofs.scans_breaks_alike.Goals as goal

some_indicator : (style : BlockStyle) (xs : List ℕ) → slice_index xs 0 ≡ block_indicator style → 0 < length xs
some_indicator style (x ∷ xs) e = omega arith
some_indicator block_style.Literal [] e = absurd (omega (arith, e))
some_indicator block_style.Folded [] e = absurd (omega (arith, e))

at_one : (m : Marker) (n : ℕ) (t : List ℕ) → mid_line (along m (1 + n)) t ≡ mid_line (along m (suc n)) t
at_one m n t = let one : 1 + n ≡ suc n = omega arith in rw one refl

pub returns : goal.returns
returns c limit other text small short short_too =
    let forward : Forwards = record {
      plain = λ in_flow indent s x e. forward_plain in_flow s x.3 x.0 x.1
          (c.reads_plain_values.ensures.value in_flow indent s x.3 x.0 x.1 x.2 e);
      quoted = λ quote indent s x f e. forward_passed s x.1
          (c.spells_each_quoted.ensures.spelled quote indent s x.1 x.0 f e).3;
      block_scalar = λ style indent s x f e. forward_passed s x.2
          (c.reads_block_texts.ensures.placed style indent s x.2 x.0 x.1 (ap is_break f ∙ indicator_no_break style)
          (some_indicator style s.rest f) e).0;
      name = λ s x some e. let r = c.spells_each_property.ensures.anchor s x.1 x.0 some e in line_forward s x.1
          (r.0 ∷ r.1) r.2 (r.5 ∙ at_one s.mark (length r.1) x.1.rest);
      tag = λ in_flow s x f e. let r = c.spells_each_property.ensures.tag in_flow s x.2 x.0 x.1 f e in
          line_forward s x.2 r.0 r.3 r.6;
      directive = λ s x f e. let r = c.spells_each_directive.ensures s x.2 x.0 x.1 f e in
          break_forward s x.2 r.0 r.1 r.2 r.3 r.8;
    } in
    let alike = c.reads_breaks_alike.ensures.reads text in
    let known : Laws text = record { small = small; alike = alike; forward = forward } in
    scans_same text known c.takes_characters_off.ensures limit other short short_too
