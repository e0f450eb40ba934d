use Rattle.std.proofs.Common.{◌∙◌, ℕ, List, ap}
use Rattle.saphyr_machine.specs.Steps.Machine.{Names, with_meaning}
use Rattle.saphyr_machine.specs.Names.{ids_of, laid_over}
use Rattle.saphyr_machine.proofs.LaidOver.{popped}
use Rattle.saphyr_machine.proofs.name_map.move_ids.Goals as goal

pub loop-entry-preserved : goal.loop-entry-preserved
loop-entry-preserved c =
    let e = c.in-Some.entry in
    ap (λ (ns : Names ℕ). laid_over (ids_of c.pop_last.new.self) ns)
    (c.in_ok-put.ensures.ok ∙ ap (λ (bs : List ℕ). with_meaning bs e.1.now (ids_of c.loop-entry.to)) c.deref.ensures)
    ∙ popped c.loop-entry.from c.pop_last.new.self (e.0.now, e.1.now) c.pop_last.result c.in-Some.ensures.last
    c.pop_last.ensures.variant c.pop_last.ensures.removal (ids_of c.loop-entry.to)
    ∙ c.loop-entry.invariant
