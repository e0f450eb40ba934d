use Rattle.std.proofs.Common.{IsUtf8, subst}
use Rattle.saphyr_parser_c.specs.declared.inner.Inner.{Inner}
use Rattle.saphyr_parser_c.specs.Followed.{GetsFollowed}
use Rattle.saphyr_parser_c.proofs.trees.saphyr_get.Goals as goal

pub returns : goal.returns
returns c =
    let gets = c.get_by_bytes-value in
    rw c.in-Some.ensures.taken (
      (
        gets.result,
        c.number_of.ensures,
        subst (λ (held : Inner). IsUtf8 c.args.key.now → GetsFollowed c.args.node c.args.key.now gets.result held.table)
            c.deref.ensures gets.ensures.text,
        gets.ensures.no_text,
      ),
      c.put_back.ensures,
    )
