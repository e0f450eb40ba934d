-- What is held is handed out from.
use Rattle.std.proofs.Common.{refl, subst}
use Rattle.saphyr_parser_c.specs.declared.found.Found.{Found}
use Rattle.saphyr_parser_c.specs.Found.{HandsOutNote}
use Rattle.saphyr_parser_c.proofs.inner.Inner.next_note.Goals as goal

pub returns-in-Some : goal.returns-in-Some
returns-in-Some c = rw c.in-Some.is (
  record c.in-Some.found { value = c.next_note.new.self },
  refl,
  subst (λ (old : Found). HandsOutNote old c.next_note.result c.next_note.new.out c.next_note.new.self) c.deref_mut.ensures.value
      c.next_note.ensures,
)
