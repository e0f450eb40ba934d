use Rattle.std.proofs.Common.{◌∙◌, sym}
use Rattle.std.specs.Str.{chars}
use Rattle.yaml_standard.proofs.LineFeeds.{feed_put, other_put}
use Rattle.yaml_standard.proofs.breaks.push_normal.Goals as goal

pub returns-then-c-ne13 : goal.returns-then-c-ne13
returns-then-c-ne13 c = other_put _ _ (chars c.args.behind.now) _ c.if-c-ne13.true c.in_ok-push.ensures.bytes

pub returns : goal.returns
returns c = feed_put _ _ (chars c.args.behind.now) _ c.if-c-ne13.false
    (sym c.begins_with_feed.ensures ∙ c.if-begins_with_feed.false) c.in_ok-push-2.ensures.bytes
