use Rattle.std.proofs.Common.{◌≡◌, false, true, rules, sym, ◌∙◌}
use Rattle.saphyr_scanner.specs.Steps.Fetch.{needs_token}
use Rattle.saphyr_scanner.specs.Views.Engine.{state}
use Rattle.saphyr_scanner.proofs.Handing.Filling.{read_is, smaller_read, fetched_is_one_more, settled_fill, filled_in_at_once}
use Rattle.saphyr_scanner.proofs.engine.Engine.read_tokens.Goals as goal

pub loop-self-init : goal.loop-self-init
loop-self-init g c = record {
  same = settled_fill c.args.limit _ c.requires.settled;
  needed = c.requires.needed;
}

pub loop-self-smaller : goal.loop-self-smaller
loop-self-smaller g c =
    smaller_read c.takes_characters_off.ensures c.args.limit _ _ c.loop-self.invariant.needed
    (read_is c.args.limit _ _ _ c.in_ok-fetch_within.ensures c.in_ok-drop_far_key.ensures)

pub returns-then-not-needs_token : goal.returns-then-not-needs_token
returns-then-not-needs_token g c =
    let none : needs_token (state c.drop_far_key.new.self) ≡ false = search rules in
    sym (sym (filled_in_at_once c.args.limit _ none)
    ∙ fetched_is_one_more c.takes_characters_off.ensures c.args.limit _ _ c.loop-self.invariant.needed
    (read_is c.args.limit _ _ _ c.in_ok-fetch_within.ensures c.in_ok-drop_far_key.ensures)
    ∙ c.loop-self.invariant.same)

pub loop-self-preserved : goal.loop-self-preserved
loop-self-preserved g c =
    let needed : needs_token (state c.drop_far_key.new.self) ≡ true = search rules in
    let laws = c.takes_characters_off.ensures in
    let read = read_is c.args.limit _ _ _ c.in_ok-fetch_within.ensures c.in_ok-drop_far_key.ensures in
    record {
      same = fetched_is_one_more laws c.args.limit _ _ c.loop-self.invariant.needed read
          ∙ c.loop-self.invariant.same;
      needed = needed;
    }
