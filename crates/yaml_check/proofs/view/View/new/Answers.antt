use Rattle.std.proofs.Common.{refl, rules}
use Rattle.yaml_check.proofs.ViewParts.{is_view}
use Rattle.yaml_check.proofs.view.View.new.Goals as goal

pub returns : goal.returns
returns c =
    is_view c.min-at.ensures (search (rules, c.min-at.ensures, c.min.ensures)) refl refl c.fit_front-start.ensures
    c.count_that_fit-count.ensures (record {
      front = refl;
      back = refl;
      cut_before = refl;
      cut_behind = c.line_goes_on.ensures;
    })
