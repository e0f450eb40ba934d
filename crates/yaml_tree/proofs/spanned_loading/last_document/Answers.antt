use Rattle.std.proofs.Common.{◌∙◌, Ok, Some, None, refl, sym, ap, arith}
use Rattle.std.proofs.lemmas.List.{nil_from_length}
use Rattle.yaml_tree.specs.declared.spans.DocumentSpans.{DocumentSpans}
use Rattle.yaml_tree.proofs.LastItems.{none_is_last, same_last}
use Rattle.yaml_tree.proofs.spanned_loading.last_document.Goals as goal

pub returns-in-Some : goal.returns-in-Some
returns-in-Some c =
    let d = c.in-Ok-Some.document in (
      Ok (Some d),
      rw c.in-Ok-Some.field-0-is at c.in-Ok-Some.ensures,
      λ others spans e. ap (λ (s : DocumentSpans). Ok (Some (d, s)))
          (same_last _ others c.in-Some.spans spans (sym c.in-Some.ensures.items ∙ e)).1,
    )

pub returns-in-Ok-Some : goal.returns-in-Ok-Some
returns-in-Ok-Some c = (
  Ok (Some c.in-Ok-Some.document),
  rw c.in-Ok-Some.field-0-is at c.in-Ok-Some.ensures,
  λ others spans e. absurd (none_is_last others spans
      (sym e ∙ nil_from_length c.args.loader.keeper.ended.items (omega (arith, c.in-None.ensures.cases)))),
)

pub returns-in-Ok-None : goal.returns-in-Ok-None
returns-in-Ok-None c = (Ok None, rw c.in-Ok-None.field-0-is at c.in-Ok-None.ensures, refl)
