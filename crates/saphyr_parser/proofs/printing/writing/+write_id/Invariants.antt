use Rattle.saphyr_parser.proofs.printing.writing.+write_id.Given as goal

abbrev pub decreases-write_id : goal.decreases-write_id
decreases-write_id g l = l.id
