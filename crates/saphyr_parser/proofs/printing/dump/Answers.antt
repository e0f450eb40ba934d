use Rattle.saphyr_parser.proofs.printing.dump.Goals as goal

pub returns-clause-dumps : goal.returns-clause-dumps
returns-clause-dumps g c = c.dump_each.ensures.dumps

pub returns-clause-leaves : goal.returns-clause-leaves
returns-clause-leaves g c = c.dump_each.ensures.leaves
