use Rattle.std.proofs.Common.{List, [], ◌∷◌, ◌++◌, ap}
use Rattle.saphyr_parser.specs.Events.{Happening, DocumentStart, DocumentEnd}
use Rattle.yaml_tree.proofs.document.Document.try_clone.Goals as goal

pub returns : goal.returns
returns c = ap (λ (events : List Happening). DocumentStart c.args.self.now.explicit ∷ (events ++ DocumentEnd ∷ []))
    c.in_ok-try_clone.ensures
