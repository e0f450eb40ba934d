use Rattle.yaml_check.proofs.KeyMaps.{with_new_few}
use Rattle.yaml_check.proofs.first_places.FirstPlaces.add_short.Goals as goal

pub returns-in_ok-push : goal.returns-in_ok-push
returns-in_ok-push c = record {
  first = c.place_among_few-before.ensures;
  kept = with_new_few c.args.text c.args.place c.args.self.now.few.items c.push.new.self.items _
      c.place_among_few-before.result c.is_none.result c.place_among_few-before.ensures c.is_none.ensures
      c.if-is_none.true c.in_ok-push.ensures.items;
}
