-- The machine stays as it is.
use Rattle.std.proofs.Common.{[], ap}
use Rattle.saphyr_machine.specs.Views.Machines.{machine_over}
use Rattle.saphyr_machine.proofs.reader.EventReader.run_out_of_memory.Goals as goal

pub returns-clause-over : goal.returns-clause-over
returns-clause-over g c rest =
    let kept = c.keep_fault.ensures.kept [] in
    let machine = ap (machine_over rest) c.keep_fault.ensures.machine in
    λ i. record (kept i) { machine = machine i }
