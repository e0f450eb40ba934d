use Rattle.std.proofs.Common.{rules}
use Rattle.yaml_standard.proofs.LineFeeds.{all_feeds, more_feeds}
use Rattle.yaml_standard.proofs.breaks.with_line_feeds.Goals as goal

pub loop-c-preserved : goal.loop-c-preserved
loop-c-preserved c = record {
  text = search rules;
  written = more_feeds _ _ _ _ _ _ c.loop-c.invariant.written c.in-Some.ensures.some c.in_ok-push_normal.ensures;
}

pub returns : goal.returns
returns c = all_feeds _ _ _ c.utf8.text c.loop-c.invariant.written c.in_default.ensures.none
