use Rattle.saphyr_machine.specs.Names.{laid_over}
use Rattle.saphyr_machine.proofs.Copies.{ids_copied}
use Rattle.saphyr_machine.proofs.name_map.NameMap.try_clone.Goals as goal

pub returns : goal.returns
returns c = λ i. laid_over
    (ids_copied c.args.self.now.own c.in_ok-own.own c.in_ok-own.ensures.cases i)
    (c.in_ok-copy_shared.ensures i)
