use Rattle.yaml_standard.proofs.FlowPairs.{mark_taken}
use Rattle.yaml_standard.proofs.flow.behind_mark.Goals as goal

pub returns : goal.returns
returns c =
    mark_taken _ _ _ _ _ c.in_ok-start.ensures c.behind_separation-rest.ensures c.in_ok-front_before.ensures
    (c.is_past.ensures c.if-not-is_past.false)
    (c.in_ok-ahead.ensures.no_tab_at_all c.if-ahead.false c.if-not-ahead.false)
