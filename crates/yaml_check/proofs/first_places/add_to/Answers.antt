use Rattle.std.proofs.Common.{◌∙◌}
use Rattle.yaml_check.proofs.KeyMaps.{first_in_map, with_new_place, with_old_place}
use Rattle.yaml_check.proofs.first_places.add_to.Goals as goal

pub returns-then-is_none : goal.returns-then-is_none
returns-then-is_none c = record {
  first = c.copied-before.ensures ∙ (c.get.ensures.value ∙ first_in_map c.args.places.now.entries c.args.key);
  kept = with_new_place c.args.places.now.entries c.insert.new.self.entries c.args.key c.args.place
      c.copied-before.result c.is_none.result (c.copied-before.ensures ∙ c.get.ensures.value) c.is_none.ensures
      c.if-is_none.true c.in_ok-insert.ensures.entries;
}

pub returns : goal.returns
returns c = record {
  first = c.copied-before.ensures ∙ (c.get.ensures.value ∙ first_in_map c.args.places.now.entries c.args.key);
  kept = with_old_place c.args.places.now.entries c.args.key c.args.place c.copied-before.result c.is_none.result
      (c.copied-before.ensures ∙ c.get.ensures.value) c.is_none.ensures c.if-is_none.false;
}
