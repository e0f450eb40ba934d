use Rattle.std.proofs.Common.{◌∙◌}
use Rattle.yaml_check.proofs.KeyMaps.{one_more}
use Rattle.yaml_check.proofs.first_places.add_all.Goals as goal

pub loop-entry-preserved : goal.loop-entry-preserved
loop-entry-preserved c =
    one_more c.args.few.now c.loop-entry.entry-index _ c.loop-entry.places.entries c.insert.new.self.entries
    c.in_ok-text.text c.new.result c.loop-entry-test.true (c.in_ok-text.ensures.items ∙ c.as_bytes.ensures)
    c.new.ensures.bytes c.in_ok-insert.ensures.entries ∙ c.loop-entry.invariant
