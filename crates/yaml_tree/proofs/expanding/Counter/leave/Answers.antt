use Rattle.std.proofs.Common.{ℕ, [], ◌∷◌, ◌++◌, refl, sym, ap, ◌∙◌}
use Rattle.yaml_tree.proofs.Counts.{leaves}
use Rattle.yaml_tree.proofs.expanding.Counter.leave.Goals as goal

pub returns-in-Some : goal.returns-in-Some
returns-in-Some c =
    let kept = c.in-Some.ensures.items
    ∙ ap (λ (n : ℕ). c.pop.new.self.items ++ (c.in-Some.id, n) ∷ []) (sym c.replace-nodes.ensures.after) in
    leaves c.add.result c.args.self.now _ c.add.new.self c.in-Some.id c.replace-nodes.result kept
    c.replace-nodes.ensures.value refl c.add.ensures
