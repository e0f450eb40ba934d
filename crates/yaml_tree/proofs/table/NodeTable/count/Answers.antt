use Rattle.yaml_tree.proofs.LookUps.{counts, counts_none, of_entry, of_none}
use Rattle.yaml_tree.proofs.table.NodeTable.count.Goals as goal

pub returns-in-Sequence-clause-counts : goal.returns-in-Sequence-clause-counts
returns-in-Sequence-clause-counts c = of_entry c.args.self.now c.args.number c.in-Some.entry.now _ c.in-Some.ensures
    (λ own told. counts _ c.args.number c.in-Some.entry.now _ own c.in-Sequence.is told)

pub returns-in-Mapping-clause-counts : goal.returns-in-Mapping-clause-counts
returns-in-Mapping-clause-counts c = of_entry c.args.self.now c.args.number c.in-Some.entry.now _ c.in-Some.ensures
    (λ own told. counts _ c.args.number c.in-Some.entry.now _ own c.in-Mapping.is told)

pub returns-in_default-clause-counts : goal.returns-in_default-clause-counts
returns-in_default-clause-counts c = of_entry c.args.self.now c.args.number c.in-Some.entry.now _ c.in-Some.ensures
    (λ own told. counts_none _ c.args.number c.in-Some.entry.now own c.in_default.not-Sequence
    c.in_default.not-Mapping told)

pub returns-in-None-clause-counts : goal.returns-in-None-clause-counts
returns-in-None-clause-counts c = of_none c.args.self.now c.args.number _ c.in-None.ensures
