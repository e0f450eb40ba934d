use Rattle.std.proofs.Common.{◌≡◌, ◌≤◌, ◌-◌, length, take}
use Rattle.std.specs.Prelude.{map}
use Rattle.saphyr_machine.specs.ListedNames.{with_id}
use Rattle.saphyr_machine.specs.Names.{ids_of, with_listed}
use Rattle.saphyr_machine.proofs.name_list.NameList.put_into.Given as goal

abbrev pub invariant-loop-next : goal.invariant-loop-next
invariant-loop-next l =
    (l.next ≤ length l.self.names.items)
    × (ids_of l.ids
    ≡ with_listed (map (with_id l.self.bytes.items) (take l.next l.self.names.items)) (ids_of l.initial.ids))

abbrev pub decreases-loop-next : goal.decreases-loop-next
decreases-loop-next l = length l.self.names.items - l.next
