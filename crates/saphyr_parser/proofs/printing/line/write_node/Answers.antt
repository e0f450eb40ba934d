use Rattle.std.proofs.Common.{refl, ap, Ok, Option}
use Rattle.std.proofs.KnownBytes.{Appends-nil}
use Rattle.std.specs.Prelude.{option_map}
use Rattle.saphyr_machine.specs.Views.Events.{resolved_tag}
use Rattle.saphyr_parser.specs.Types.Tag.{Tag}
use Rattle.saphyr_parser.specs.Printed.{node_text}
use Rattle.saphyr_parser.proofs.Printed.Written.{loses_first, loses_second, takes_three}
use Rattle.saphyr_parser.proofs.printing.line.write_node.Goals as goal

pub returns-in_err-write_all : goal.returns-in_err-write_all
returns-in_err-write_all g c = loses_first _ _ _ _ _ _ c.from_residual.ensures.0 c.in_err-write_all.ensures refl

pub returns-in_err-write_anchor : goal.returns-in_err-write_anchor
returns-in_err-write_anchor g c =
    loses_second _ _ _ _ _ _ _ _ c.from_residual-in_err-write_anchor.ensures.0 c.in_ok-write_all.ensures
    c.in_err-write_anchor.ensures refl

pub returns-in-Some : goal.returns-in-Some
returns-in-Some g c =
    takes_three _ _ _ _ _ _ _ _ _ c.in_ok-write_all.ensures c.in_ok-write_anchor.ensures c.write_tag.ensures
    (ap (λ (tag : Option Tag). node_text c.args.name.now c.args.id (option_map resolved_tag tag)) c.in-Some.is)

pub returns-in-None : goal.returns-in-None
returns-in-None g c =
    takes_three (Ok tt) _ _ _ _ _ _ _ _ c.in_ok-write_all.ensures c.in_ok-write_anchor.ensures (Appends-nil _)
    (ap (λ (tag : Option Tag). node_text c.args.name.now c.args.id (option_map resolved_tag tag)) c.in-None.is)
