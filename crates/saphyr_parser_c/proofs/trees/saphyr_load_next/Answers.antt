use Rattle.std.proofs.Common.{subst}
use Rattle.yaml_tree.specs.declared.tally.Limits.{Limits}
use Rattle.saphyr_parser_c.specs.declared.inner.Inner.{Inner}
use Rattle.saphyr_parser_c.specs.Growing.{LoadsNextToC}
use Rattle.saphyr_parser_c.proofs.Codes.{code_kept}
use Rattle.saphyr_parser_c.proofs.trees.saphyr_load_next.Goals as goal

pub returns-in-Some : goal.returns-in-Some
returns-in-Some c =
    let limits : Limits = record { nodes = c.args.nodes; depth = c.args.depth } in
    rw c.in-Some.ensures.taken (
      c.load_next.new.self,
      c.load_next.result,
      c.put_back.ensures,
      code_kept c.load_next.result c.code-code.result c.code-code.ensures,
      subst (λ (old : Inner). LoadsNextToC limits old c.load_next.result c.load_next.new.out c.load_next.new.self)
          c.deref_mut.ensures.value c.load_next.ensures,
    )
