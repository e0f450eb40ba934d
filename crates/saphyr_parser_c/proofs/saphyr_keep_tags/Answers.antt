use Rattle.std.proofs.Common.{subst}
use Rattle.saphyr_parser_c.specs.declared.inner.Inner.{Inner}
use Rattle.saphyr_parser_c.specs.declared.status.Status.TheVariants as status
use Rattle.saphyr_parser_c.specs.Inner.{SetsKeepTags}
use Rattle.saphyr_parser_c.proofs.Codes.{code_kept}
use Rattle.saphyr_parser_c.proofs.saphyr_keep_tags.Goals as goal

pub returns-in-Some : goal.returns-in-Some
returns-in-Some c = rw c.in-Some.ensures.taken (
  c.keep_tags.new.self,
  c.put_back.ensures,
  code_kept status.Done c.code.result c.code.ensures,
  subst (λ (old : Inner). SetsKeepTags c.args.keep_tags old c.keep_tags.new.self) c.deref_mut.ensures.value
      c.keep_tags.ensures,
)
