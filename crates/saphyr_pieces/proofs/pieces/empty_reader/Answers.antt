use Rattle.std.proofs.Common.{ap, ◌∙◌}
use Rattle.std.proofs.lemmas.Str.{chars-nil}
use Rattle.std.specs.Str.{chars}
use Rattle.saphyr_scanner.specs.Steps.State.{with_rest}
use Rattle.saphyr_scanner.specs.Views.Scanning.{Scanning}
use Rattle.saphyr_machine.specs.Cursor.{at_start}
use Rattle.saphyr_pieces.proofs.Places.{begun}
use Rattle.saphyr_pieces.proofs.pieces.empty_reader.Goals as goal

pub returns-clause-start : goal.returns-clause-start
returns-clause-start c text =
    c.new-3.ensures.cursor text
    ∙ ap at_start
    (begun c.exchange.new.self _ text c.args.limit
    (ap (λ (s : Scanning). s.state) c.exchange.ensures.scanner ∙ ap (with_rest _) c.new-scanner.ensures.state)
    (ap (λ (s : Scanning). s.limit) c.exchange.ensures.scanner ∙ c.new-scanner.ensures.limit)
    (ap (λ (s : Scanning). s.growth) c.exchange.ensures.scanner)
    (c.new-text-2.ensures ∙ ap chars c.new-2.ensures.bytes ∙ chars-nil))

pub returns-clause-rest : goal.returns-clause-rest
returns-clause-rest c =
    ap (λ (s : Scanning). s.state.core.cursor.rest) (c.new-3.ensures.scanner ∙ c.exchange.ensures.scanner)
    ∙ c.new-text-2.ensures ∙ ap chars c.new-2.ensures.bytes ∙ chars-nil
