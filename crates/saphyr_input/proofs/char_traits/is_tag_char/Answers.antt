use Rattle.std.proofs.Common.{◌≡◌, ◌∙◌, ◌↔◌, Bool, IsTrue, ◌⊎◌, sym, subst}
use Rattle.std.proofs.lemmas.Bool.{false≢true}
use Rattle.saphyr_input.specs.Classes as spec
use Rattle.saphyr_input.specs.Indicators.{exclamation_mark}
use Rattle.saphyr_input.proofs.Sets.{is_char, or_first, or_else, and_not, and_first}
use Rattle.saphyr_input.proofs.char_traits.is_tag_char.Goals as goal
use Rattle.saphyr_input.proofs.char_traits.is_tag_char.Goals.{then-is_flow, else-is_flow}

pub returns-after-is_flow-clause-set : goal.returns-after-is_flow-clause-set
returns-after-is_flow-clause-set c =
    let mark : Type 0 = c.args.c ≡ exclamation_mark in
    let flow : IsTrue c.if-is_flow.result ↔ (spec.IsFlow c.args.c ⊎ mark) = elim c.if-is_flow.branch [
      | then-is_flow w ↦ or_first c.if-is_flow.result (spec.IsFlow c.args.c) mark
          (w.result-is ∙ w.if-is_flow.true) (c.is_flow.ensures.set.0 w.if-is_flow.true)
      | else-is_flow w ↦ or_else c.if-is_flow.result (spec.IsFlow c.args.c) mark
          (λ f. false≢true (sym w.if-is_flow.false ∙ c.is_flow.ensures.set.1 f))
          (subst (λ (b : Bool). IsTrue b ↔ mark) (sym w.result-is) (is_char c.args.c exclamation_mark))
    ] in
    and_not c.if-is_flow.result (spec.IsUriChar c.args.c) (spec.IsFlow c.args.c ⊎ mark)
    (c.is_uri_char.ensures.set.0 c.if-is_uri_char.true) flow

pub returns-else-is_uri_char-clause-set : goal.returns-else-is_uri_char-clause-set
returns-else-is_uri_char-clause-set c =
    and_first c.is_uri_char.result (spec.IsUriChar c.args.c) (¬ (spec.IsFlow c.args.c ⊎ (c.args.c ≡ exclamation_mark)))
    c.if-is_uri_char.false c.is_uri_char.ensures.set.1
