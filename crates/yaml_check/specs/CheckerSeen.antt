-- What contracts see of the rules.
use Rattle.yaml_check.specs.declared.checking.Checker.{Checker}
use Rattle.yaml_check.specs.KeysSeen.{keys_of}
use Rattle.yaml_check.specs.SizesSeen.{sizes_of}
use Rattle.yaml_check.specs.Warned.{Seen}

abbrev pub seen_of : Checker → Seen
seen_of c = record {
  on = c.warnings.rules;
  limits = record { depth = c.depth; nodes = c.count.most };
  begun = c.content.begun;
  left = c.count.left;
  keys = keys_of c.keys;
  sizes = sizes_of c.sizes;
}
