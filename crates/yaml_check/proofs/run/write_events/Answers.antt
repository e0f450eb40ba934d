use Rattle.yaml_check.proofs.Judging.{parse_cut_of, write_cut_of}
use Rattle.yaml_check.proofs.run.write_events.Goals as goal

pub returns-in-Err-Parse : goal.returns-in-Err-Parse
returns-in-Err-Parse g c = parse_cut_of c.args.options c.in-Err-Parse.fault _ _ _ _ _ _ c.if-not-options.false
    c.new_from_str-parser.ensures.decided c.in-Err-Parse.field-0-is c.in-Err-Parse.ensures.dumps

pub returns-in-Err-Write : goal.returns-in-Err-Write
returns-in-Err-Write g c = write_cut_of c.args.options _ _ _ _ _ _ c.if-not-options.false
    c.new_from_str-parser.ensures.decided c.in-Err-Write.field-0-is c.in-Err-Write.ensures.dumps
