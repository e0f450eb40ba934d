use Rattle.std.proofs.Common.{◌≡◌, ◌++◌, Bool, Option, Ok, Err, rules, subst}
use Rattle.saphyr_parser_c.specs.Growing.{TakesOne, spot_of}
use Rattle.saphyr_parser_c.proofs.NextDocument.{about_both, about_same, took_all, took_more, took_none, took_until}
use Rattle.saphyr_parser_c.proofs.inner.Inner.take_events.Goals as goal

pub events-init : goal.events-init
events-init c = (
  λ most es h inside between. took_none most es c.args.self.now c.args.grower.now h inside between,
  about_same c.args.self.now,
)

pub returns-in_err-ended-clause-takes : goal.returns-in_err-ended-clause-takes
returns-in_err-ended-clause-takes c = λ most es h inside between.
    let t = c.events.invariant.0 most es h inside between in
    let answer : c.from_residual.result ≡ Err c.in_err-ended.field-0.0 = search rules in
    rw answer (took_until most es (spot_of c.args.self.now) c.events.self c.take_next.new.self c.events.grower
    c.take_next.new.grower c.in_err-ended.field-0.0 t (c.in_err-ended.ensures.takes most (es ++ t.0) t.2))

pub returns-in_err-ended-clause-stays : goal.returns-in_err-ended-clause-stays
returns-in_err-ended-clause-stays c =
    about_both c.args.self.now c.events.self c.take_next.new.self c.events.invariant.1 c.in_err-ended.ensures.stays

pub returns-in-Some-clause-takes : goal.returns-in-Some-clause-takes
returns-in-Some-clause-takes c = λ most es h inside between.
    let t = c.events.invariant.0 most es h inside between in
    took_all most es (spot_of c.args.self.now) c.events.self c.take_next.new.self c.events.grower
    c.take_next.new.grower c.in-Some.ended t
    (subst (λ (r : Option Bool). TakesOne most (es ++ t.0) (Ok r) c.events.self c.take_next.new.self
    c.events.grower c.take_next.new.grower) c.in-Some.is (c.in_ok-ended.ensures.takes most (es ++ t.0) t.2))

pub returns-in-Some-clause-stays : goal.returns-in-Some-clause-stays
returns-in-Some-clause-stays c =
    about_both c.args.self.now c.events.self c.take_next.new.self c.events.invariant.1 c.in_ok-ended.ensures.stays

pub events-preserved : goal.events-preserved
events-preserved c = (
  λ most es h inside between.
      let t = c.events.invariant.0 most es h inside between in
      took_more most es (spot_of c.args.self.now) c.events.self c.take_next.new.self c.events.grower
      c.take_next.new.grower t
      (subst (λ (r : Option Bool). TakesOne most (es ++ t.0) (Ok r) c.events.self c.take_next.new.self
      c.events.grower c.take_next.new.grower) c.in_default.is (c.in_ok-ended.ensures.takes most (es ++ t.0) t.2)),
  about_both c.args.self.now c.events.self c.take_next.new.self c.events.invariant.1 c.in_ok-ended.ensures.stays,
)
