use Rattle.std.proofs.Common.{◌≡◌, length, refl, rules}
use Rattle.yaml_tree.proofs.Stores.{keeps_ok, kept_ok}
use Rattle.yaml_tree.proofs.table.NodeTable.keep_some.Goals as goal

pub returns-clause-stores : goal.returns-clause-stores
returns-clause-stores c = keeps_ok _ _ _ _ _ _ _ (record {
  first = c.in_ok-tag.ensures.stores;
  tells = c.in_ok-tag.ensures.tag;
  notes = c.expect_at.ensures;
  others = refl;
  properties = c.in_ok-push.ensures.items;
})

pub returns-clause-properties : goal.returns-clause-properties
returns-clause-properties c =
    let long : c.len.result ≡ length c.push.new.self.items = search rules in
    kept_ok _ c.args.self.now c.keep_tag.new.self c.expect_at.new.self
    (record c.expect_at.new.self { properties = c.push.new.self })
    _ _ _ c.len.result (record {
      first = c.in_ok-tag.ensures.stores;
      tells = c.in_ok-tag.ensures.tag;
      notes = c.expect_at.ensures;
      others = refl;
      properties = c.in_ok-push.ensures.items;
    }) c.in_ok-anchor.ensures long c.narrow-2.ensures
