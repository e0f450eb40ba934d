use Rattle.std.proofs.Common.{◌≡◌, Err, rules}
use Rattle.saphyr_parser.specs.Views.Events.{happening}
use Rattle.yaml_tree.proofs.TablesRead.{takes}
use Rattle.yaml_tree.proofs.Taking.{exceeds, lacks_memory}
use Rattle.yaml_tree.proofs.table_loading.Grower.take.Goals as goal

pub returns-in-Ok-clause-takes : goal.returns-in-Ok-clause-takes
returns-in-Ok-clause-takes c = λ limits es h.
    takes limits es (happening c.args.event.now, c.args.span) c.args.span.start _ _ h c.in_ok-count.ensures
    c.in-Ok.ensures.adds

pub returns-in-Err-clause-takes : goal.returns-in-Err-clause-takes
returns-in-Err-clause-takes c = λ limits es h. lacks_memory limits es (happening c.args.event.now, c.args.span)
    c.args.self.now.tally h.same_limits h.counted c.in_ok-count.ensures.2

pub returns-in_err-count-clause-takes : goal.returns-in_err-count-clause-takes
returns-in_err-count-clause-takes c = λ limits es h.
    let answer : c.from_residual.result ≡ Err c.in_err-count.field-0.0 = search rules in
    rw answer (exceeds ⊥ _ limits es (happening c.args.event.now, c.args.span) c.args.span.start
    c.args.self.now.tally h.same_limits h.counted c.in_err-count.ensures)
