use Rattle.std.specs.Str.{chars}
use Rattle.std.proofs.lemmas.Option.{MatchOption-at_some}
use Rattle.yaml_standard.specs.Leads.{IsWhatComes}
use Rattle.yaml_standard.proofs.BlockPairs.{no_value_after_mark, value_after_mark}
use Rattle.yaml_standard.proofs.block.after_marked_key.Goals as goal

pub returns-then-is_value_at : goal.returns-then-is_value_at
returns-then-is_value_at c = λ end value.
    value_after_mark c.args.column _ _ _ end (c.is_past.ensures c.if-not-is_past.false) c.in_ok-rest.ensures value

pub returns : goal.returns
returns c =
    no_value_after_mark c.args.column _ _ (c.is_past.ensures c.if-not-is_past.false)
    ((MatchOption-at_some (Unit {0}) (λ a. IsWhatComes a (chars c.args.text.now)) _ c.in-Some.is c.requires).no_value _
    (c.is_value_at.ensures c.if-is_value_at.false))
