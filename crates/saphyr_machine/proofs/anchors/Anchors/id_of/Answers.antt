use Rattle.std.proofs.Common.{◌∙◌, ℕ, List, ap, arith, sym}
use Rattle.saphyr_machine.specs.declared.anchors.Anchors.TheInside.{Inside}
use Rattle.saphyr_machine.specs.Names.{listed_names, mapped_ids, with_listed}
use Rattle.saphyr_machine.proofs.Names.{settled, unlisted}
use Rattle.saphyr_machine.proofs.anchors.Anchors.id_of.Goals as goal
use Rattle.saphyr_machine.proofs.anchors.Anchors.id_of.Goals.{then-first-gt0+in_ok-take_in, else-first-gt0}

pub returns : goal.returns
returns c =
    let name = c.args.name.now in
    let old = c.self.inside in
    let new = c.if-first-gt0.self-inside in
    elim c.if-first-gt0.branch [
      | then-first-gt0+in_ok-take_in w ↦
          settled c.args.self.now name (listed_names old.recent) (listed_names new.recent) (mapped_ids old.ids)
          (mapped_ids new.ids) old.last new.last c.id_of.result c.self.view_is
          (ap (λ (x : Inside). mapped_ids x.ids) w.self-inside-is
          ∙ ap (λ (ls : List (List ℕ × ℕ)). with_listed ls (mapped_ids w.take_in.new.self))
          (sym w.in_ok-take_in.ensures.empty)
          ∙ w.in_ok-take_in.ensures.same)
          (ap (λ (x : Inside). listed_names x.recent) w.self-inside-is ∙ w.in_ok-take_in.ensures.empty)
          (ap (λ (x : Inside). x.last) w.self-inside-is) c.id_of.ensures
      | else-first-gt0 w ↦
          unlisted c.args.self.now name (listed_names old.recent) (listed_names new.recent) (mapped_ids old.ids)
          (mapped_ids new.ids) old.last new.last c.saturating_sub-first.result c.id_of.result c.self.view_is
          (ap (λ (x : Inside). mapped_ids x.ids) w.self-inside-is)
          (ap (λ (x : Inside). listed_names x.recent) w.self-inside-is)
          (ap (λ (x : Inside). x.last) w.self-inside-is) (omega (arith, w.if-first-gt0.false))
          (c.in_default.ensures (mapped_ids old.ids)) c.id_of.ensures
    ]
