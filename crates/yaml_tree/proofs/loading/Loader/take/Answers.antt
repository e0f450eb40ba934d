use Rattle.saphyr_parser.specs.Views.Events.{happening}
use Rattle.yaml_tree.proofs.Taking.{takes, exceeds, lacks_memory}
use Rattle.yaml_tree.proofs.loading.Loader.take.Goals as goal

pub returns-in-Ok-keep : goal.returns-in-Ok-keep
returns-in-Ok-keep g c = λ limits before es h. takes limits before es
    (happening c.args.event, c.args.span) c.args.span.start c.args.self.now _ c.take.result h c.in-Ok.ensures
    c.take.ensures (c.in-Ok-keep.ensures es h.kept)

pub returns-in-Err-keep : goal.returns-in-Err-keep
returns-in-Err-keep g c = λ limits before es h. lacks_memory limits es (happening c.args.event, c.args.span)
    c.args.self.now.tally h.same_limits h.counted c.in-Ok.ensures.2

pub returns-in-Err : goal.returns-in-Err
returns-in-Err g c = λ limits before es h. exceeds _ _ limits es (happening c.args.event, c.args.span)
    c.args.span.start c.args.self.now.tally h.same_limits h.counted c.in-Err.ensures
