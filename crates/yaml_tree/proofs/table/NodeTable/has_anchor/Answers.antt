use Rattle.std.proofs.Common.{Bool, subst, sym}
use Rattle.yaml_tree.specs.Tables.{TellsAnchor, id_of_anchor}
use Rattle.yaml_tree.proofs.Entries.{entry_there}
use Rattle.yaml_tree.proofs.LookUps.{anchor_here, anchor_not_here}
use Rattle.yaml_tree.proofs.Places.{within}
use Rattle.yaml_tree.proofs.table.NodeTable.has_anchor.Goals as goal

pub returns-in-Some-clause-here : goal.returns-in-Some-clause-here
returns-in-Some-clause-here c = λ is es t.
    anchor_here c.args.self.now c.args.number c.args.id c.in-Some.entry.now c.in-Some.ensures
    (λ h told. subst (λ (b : Bool). TellsAnchor c.args.id (id_of_anchor h) b) is (c.tells_anchor.ensures h told)) es t

pub returns-in-Some-clause-not_here : goal.returns-in-Some-clause-not_here
returns-in-Some-clause-not_here c = λ is es own t at has.
    anchor_not_here c.args.self.now c.args.number c.args.id c.in-Some.entry.now c.in-Some.ensures
    (λ h told. subst (λ (b : Bool). TellsAnchor c.args.id (id_of_anchor h) b) is (c.tells_anchor.ensures h told))
    es own t at has

pub returns-in-None-clause-not_here : goal.returns-in-None-clause-not_here
returns-in-None-clause-not_here c = λ _ es own t at has.
    absurd (entry_there es c.args.self.now c.args.number t (within es c.args.number own at) (sym c.in-None.ensures))
