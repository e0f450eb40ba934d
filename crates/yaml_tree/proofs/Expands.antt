-- How many nodes the document of a root has once it is expanded.
use Rattle.std.proofs.Common.{◌≡◌, ◌∙◌, ℕ, min, List, ap, sym}
use Rattle.saphyr_parser.specs.Events.{Happening}
use Rattle.saphyr_parser.specs.Nesting.{happenings}
use Rattle.yaml_tree.specs.CounterSeen.{counted_all}
use Rattle.yaml_tree.specs.Expanding.{most}
use Rattle.yaml_tree.specs.GrowerSeen.{no_count}
use Rattle.yaml_tree.specs.Tables.{Event, IsExpanded}
use Rattle.yaml_tree.proofs.Counts.{counts_root}

pub expands : (own : List Event) (nodes : ℕ) → nodes ≡ min most (counted_all (happenings own) no_count).nodes
    → IsExpanded own nodes
expands own nodes e = λ root is. e ∙ ap (λ (hs : List Happening). min most (counted_all hs no_count).nodes) (sym is)
    ∙ ap (min most) (counts_root root)
