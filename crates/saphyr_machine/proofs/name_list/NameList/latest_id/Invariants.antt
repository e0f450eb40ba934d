use Rattle.std.proofs.Common.{◌≡◌, ◌≤◌, ℕ, length, take}
use Rattle.std.specs.Prelude.{map}
use Rattle.saphyr_machine.specs.ListedNames.{with_id}
use Rattle.saphyr_machine.specs.Steps.Machine.{Names, meaning}
use Rattle.saphyr_machine.specs.Names.{listed_names, with_listed}
use Rattle.saphyr_machine.proofs.name_list.NameList.latest_id.Given as goal

-- the names that are left mean what all mean
abbrev pub invariant-loop-left : goal.invariant-loop-left
invariant-loop-left l =
    (l.left ≤ length l.self.names.items)
    × (l.first ≤ l.left)
    × ((names : Names ℕ)
    → meaning l.name (with_listed (map (with_id l.self.bytes.items) (take l.left l.self.names.items)) names)
    ≡ meaning l.name (with_listed (listed_names l.self) names))

abbrev pub decreases-loop-left : goal.decreases-loop-left
decreases-loop-left l = l.left
