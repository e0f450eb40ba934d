use Rattle.std.proofs.Common.{Err, inl, inr}
use Rattle.saphyr_parser.specs.Answer.{Answer}
use Rattle.saphyr_parser.specs.Nesting.{IsAtStart, IsNested}
use Rattle.yaml_tree.specs.declared.fault.TreeFault.TheVariants as fault
use Rattle.yaml_tree.specs.declared.tally.Limits.{Limits}
use Rattle.yaml_tree.specs.Loading.{LoadsDocuments}
use Rattle.yaml_tree.proofs.law.loads_new_parsers.Goals as goal

never_late : (limits : Limits) (all left : Answer) → IsAtStart all → IsNested all
    → LoadsDocuments limits (Err fault.NotFresh) all left → ⊥
never_late limits all left starts nests (inl late) = late.0 starts
never_late limits all left starts nests (inr ill) = ill.1 nests

pub returns : goal.returns
returns c = λ keep text limits all left h.
    let laws = c.nests_events.ensures in
    never_late limits all left (laws.starts keep text all h) (laws.nests keep text all h)
