use Rattle.std.proofs.Common.{subst}
use Rattle.yaml_tree.specs.declared.tally.Limits.{Limits}
use Rattle.saphyr_parser_c.specs.declared.inner.Inner.{Inner}
use Rattle.saphyr_parser_c.specs.Trees.{LoadsToC}
use Rattle.saphyr_parser_c.proofs.Codes.{code_kept}
use Rattle.saphyr_parser_c.proofs.trees.saphyr_load.Goals as goal

pub returns-in-Some : goal.returns-in-Some
returns-in-Some c =
    let limits : Limits = record { nodes = c.args.nodes; depth = c.args.depth } in
    rw c.in-Some.ensures.taken (
      c.load.new.self,
      c.load.result,
      c.put_back.ensures,
      code_kept c.load.result c.code-code.result c.code-code.ensures,
      subst (λ (old : Inner). LoadsToC limits old c.load.result c.load.new.out c.load.new.self)
          c.deref_mut.ensures.value c.load.ensures,
    )
