use Rattle.std.proofs.Common.{◌∙◌, ap, subst, sym, List, ℕ}
use Rattle.std.specs.Str.{bytes_eq}
use Rattle.saphyr_parser.specs.Events.{Happening}
use Rattle.yaml_tree.specs.declared.table.Content.{Content}
use Rattle.yaml_tree.specs.Accessing.{is_this_text}
use Rattle.yaml_tree.specs.Tables.{TellsFirst, store_of}
use Rattle.saphyr_parser_c.specs.Followed.{scalar_text}
use Rattle.saphyr_parser_c.proofs.following.is_text.Goals as goal

pub returns-in-Scalar : goal.returns-in-Scalar
returns-in-Scalar c = λ h tells.
    let told = subst (λ (x : Content). TellsFirst (store_of c.args.table.now) x h) c.in-Scalar.is tells in
    c.eq.ensures ∙ ap (λ (text : List ℕ). bytes_eq text c.as_bytes.result.now) (c.text.ensures told.0 told.4)
    ∙ ap (λ (key : List ℕ). bytes_eq told.0 key) c.as_bytes.ensures.value
    ∙ ap (λ (h : Happening). is_this_text c.args.text.now (scalar_text h)) (sym told.3)
