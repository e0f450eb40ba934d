use Rattle.saphyr_parser.specs.Views.Events.{happening}
use Rattle.yaml_tree.proofs.SpansRead.{keeps_more}
use Rattle.yaml_tree.proofs.spans.SpanKeeperKeep.keep.Goals as goal

pub returns : goal.returns
returns c = λ es kept. keeps_more c.keep_event.result es (happening c.args.event.now, c.args.span) c.args.self.now
    c.keep_event.new.self c.keep_event.ensures kept
