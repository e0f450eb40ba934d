-- The texts of the first extent are there.
use Rattle.std.proofs.Common.{subst, sym}
use Rattle.saphyr_scanner.specs.Views.Texts.{BeginsWithTexts}
use Rattle.saphyr_scanner.proofs.queue.texts.Texts.take_extent_into.Goals as goal

pub take_behind_into-requires-clause-there : goal.take_behind_into-requires-clause-there
take_behind_into-requires-clause-there c =
    subst (λ e. BeginsWithTexts e.handle e.text c.args.self.now) (sym c.first_extent-extent.ensures) c.requires.there.1
