use Rattle.std.proofs.Common.{arith, refl, ◌∙◌, ◌<◌, ℕ, List, sym, ap, length}
use Rattle.saphyr_machine.specs.ListedNames.{bytes_of_name}
use Rattle.saphyr_machine.specs.Steps.Machine.{Names, with_meaning}
use Rattle.saphyr_machine.specs.Names.{ids_of}
use Rattle.saphyr_machine.proofs.Names.{next_given}
use Rattle.saphyr_machine.proofs.ListedNames.{element}
use Rattle.saphyr_machine.proofs.name_list.NameList.put_into.Goals as goal

pub loop-next-init : goal.loop-next-init
loop-next-init c = (omega arith, refl)

pub text-requires : goal.text-requires
text-requires c =
    let r = c.args.self.now in
    let inside : c.loop-next.next < length r.names.items = omega (arith, c.loop-next-test.true) in
    element r.bytes.items r.names.items c.loop-next.next c.index-name.result.now inside
    c.index-name.ensures r.have_texts

pub loop-next-preserved : goal.loop-next-preserved
loop-next-preserved c =
    let bytes = c.args.self.now.bytes.items in
    let ns = c.args.self.now.names.items in
    let e = c.index-name.result.now in
    let inside : c.loop-next.next < length ns = omega (arith, c.loop-next-test.true) in (
      omega (arith, inside),
      c.in-Ok.ensures.ok
          ∙ ap (λ (bs : List ℕ). with_meaning bs e.id (ids_of c.loop-next.ids)) c.text.ensures
          ∙ ap (λ (names : Names ℕ). with_meaning (bytes_of_name bytes e) e.id names) c.loop-next.invariant.1
          ∙ sym (next_given bytes ns c.loop-next.next e (ids_of c.args.ids.now) inside c.index-name.ensures),
    )
