use Rattle.std.proofs.Common.{[], ◌∙◌, ap}
use Rattle.saphyr_machine.specs.Cursor.{keeping_tags}
use Rattle.saphyr_parser.proofs.cursor.Parser.keep_tags.Goals as goal

pub returns : goal.returns
returns g c = c.keep_tags.ensures.cursor [] ∙ ap (keeping_tags c.args.value) c.self.view_is
