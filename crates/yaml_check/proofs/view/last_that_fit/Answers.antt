use Rattle.yaml_check.proofs.ViewParts.{full_front}
use Rattle.yaml_check.proofs.view.last_that_fit.Goals as goal

pub returns-else-fits-clause-few : goal.returns-else-fits-clause-few
returns-else-fits-clause-few c = c.loop-start.invariant.few

pub returns-else-fits-clause-full : goal.returns-else-fits-clause-full
returns-else-fits-clause-full c = λ _. full_front c.args.most c.loop-start.left c.loop-start.start _
    c.args.characters.now c.loop-start.invariant.left c.loop-start.invariant.within c.loop-start.invariant.few
    (c.fits.ensures.no c.if-fits.false)

pub returns-after-loop-start-clause-few : goal.returns-after-loop-start-clause-few
returns-after-loop-start-clause-few c = c.loop-start.invariant.few
