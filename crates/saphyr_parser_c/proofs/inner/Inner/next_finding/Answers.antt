-- What is held is handed out from.
use Rattle.std.proofs.Common.{refl, subst}
use Rattle.saphyr_parser_c.specs.declared.found.Found.{Found}
use Rattle.saphyr_parser_c.specs.Found.{HandsOutFinding}
use Rattle.saphyr_parser_c.proofs.inner.Inner.next_finding.Goals as goal

pub returns-in-Some : goal.returns-in-Some
returns-in-Some c = rw c.in-Some.is (
  record c.in-Some.found { value = c.next.new.self },
  refl,
  subst (λ (old : Found). HandsOutFinding old c.next.result c.next.new.out c.next.new.self) c.deref_mut.ensures.value
      c.next.ensures,
)
