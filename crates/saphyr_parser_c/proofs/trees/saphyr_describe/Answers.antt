use Rattle.std.proofs.Common.{subst}
use Rattle.saphyr_parser_c.specs.declared.inner.Inner.{Inner}
use Rattle.saphyr_parser_c.specs.Trees.{WritesNode}
use Rattle.saphyr_parser_c.proofs.Codes.{code_kept}
use Rattle.saphyr_parser_c.proofs.trees.saphyr_describe.Goals as goal

pub returns : goal.returns
returns c =
    let s = c.write_node-status.result in
    rw c.in-Some.ensures.taken (
      s,
      c.put_back.ensures,
      code_kept s c.code-2.result c.code-2.ensures,
      subst (λ (held : Inner). WritesNode c.args.node s c.write_node-status.new.out held.table) c.deref.ensures
          c.write_node-status.ensures,
    )
